use Rattle.std.proofs.Common.{◌≡◌, ◌+◌, ◌*◌, length, Some}
use Rattle.jc_rules.specs.Context.{links}
use Rattle.jc_tree.specs.Tree.{here}
use Rattle.jc_tree.specs.Nested.{nested}
use Rattle.jc_tree.proofs.ChainedLeadsLemmas.{steps}
use Rattle.jc_view.specs.Visible.{goes_by}
use Rattle.jc_json.specs.Gains.{Gains}
use Rattle.jc_view.specs.Parts.{parts_shown_at}
use Rattle.jc_view.proofs.ElementsLemmas.{Along}
use Rattle.jc_view.proofs.MembersLemmas.{members_among}
use Rattle.jc_view.proofs.document.+walk.Given as goal

abbrev pub decreases-write_child : goal.decreases-write_child
decreases-write_child g l = 6 * nested (here l.at.now.items (g.S.TreeStore.tree l.view.now.store.now))

abbrev pub decreases-write_part : goal.decreases-write_part
decreases-write_part g l = 6 * nested (here l.at.now.items (g.S.TreeStore.tree l.view.now.store.now)) + 1

abbrev pub decreases-write_every : goal.decreases-write_every
decreases-write_every g l = 6 * nested (here l.at.now.items (g.S.TreeStore.tree l.view.now.store.now)) + 2

abbrev pub decreases-write_place : goal.decreases-write_place
decreases-write_place g l = 6 * nested (here l.at.now.items (g.S.TreeStore.tree l.view.now.store.now)) + 3

abbrev pub decreases-write_item : goal.decreases-write_item
decreases-write_item g l = 6 * nested (here l.at.now.items (g.S.TreeStore.tree l.view.now.store.now)) + 4

abbrev pub decreases-write_member : goal.decreases-write_member
decreases-write_member g l = 6 * nested (here l.at.now.items (g.S.TreeStore.tree l.view.now.store.now)) + 4

abbrev pub decreases-write_map : goal.decreases-write_map
decreases-write_map g l = 6 * nested (here l.at.now.items (g.S.TreeStore.tree l.view.now.store.now)) + 5

abbrev pub decreases-write_list : goal.decreases-write_list
decreases-write_list g l = 6 * nested (here l.at.now.items (g.S.TreeStore.tree l.view.now.store.now)) + 5

-- the members at the keys so far are written
abbrev pub invariant-write_map-loop-key : goal.invariant-write_map-loop-key
invariant-write_map-loop-key g l =
    let c = here l.initial.at.items (g.S.TreeStore.tree l.view.store.now) in
    let show = parts_shown_at l.view.names.now (goes_by l.view.replica.now.history.now) l.initial.at.items c in
    (l.at.items ≡ l.initial.at.items) × Gains l.initial.out l.out (members_among show l.key-items l.key-index c)

-- the elements up to the key are written
abbrev pub invariant-write_list-loop-id : goal.invariant-write_list-loop-id
invariant-write_list-loop-id g l =
    let c = here l.initial.at.items (g.S.TreeStore.tree l.view.store.now) in
    (l.at.items ≡ l.initial.at.items) × Along (parts_shown_at l.view.names.now (goes_by l.view.replica.now.history.now) l.initial.at.items c) c l.last l.initial.out l.out

abbrev pub decreases-write_list-loop-id : goal.decreases-write_list-loop-id
decreases-write_list-loop-id g l =
    let c = here l.initial.at.items (g.S.TreeStore.tree l.view.store.now) in
    steps (Some l.last) (length (links c)) c

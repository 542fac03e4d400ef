use Rattle.std.proofs.Common.{◌+◌, ◌*◌, List}
use Rattle.jc_rules.specs.declared.key.Tagged.{Tagged}
use Rattle.jc_tree.specs.Tree.{here}
use Rattle.jc_tree.specs.Nested.{nested}
use Rattle.jc_json.specs.Parts.{by_place, members_data, AreMembersOf}
use Rattle.jc_json.proofs.PartsPlacesLemmas.{part_size}
use Rattle.jc_json.proofs.PartsSendLemmas.{MembersFrom}
use Rattle.jc_json.proofs.tree.+walk.Given as goal

abbrev pub decreases-send_part : goal.decreases-send_part
decreases-send_part g l =
    let store = l.tree.now.store.now in
    part_size (by_place (g.S.TreeStore.path store) (g.S.TreeStore.tree store)) l.part

abbrev pub decreases-send_tree : goal.decreases-send_tree
decreases-send_tree g l =
    let store = l.tree.now.store.now in
    2 * nested (by_place (g.S.TreeStore.path store) (g.S.TreeStore.tree store) l.place) + 1

abbrev pub invariant-send_tree-loop-member : goal.invariant-send_tree-loop-member
invariant-send_tree-loop-member g l =
    let store = l.tree.store.now in
    let named = g.S.TreeStore.names store in
    let tree = g.S.TreeStore.tree store in
    let contexts = by_place (g.S.TreeStore.path store) tree in
    ((at : List Tagged) → named l.fn.place at → AreMembersOf named contexts at l.tree.names.now (here at tree) l.member-items)
    × MembersFrom (members_data l.tree.names.now contexts) l.member-items l.member-index (g.W.Serializer.written l.initial.out) (g.W.Serializer.written l.out)

use Rattle.std.proofs.Common.{◌+◌, ◌*◌, List, vec_len}
use Rattle.jc_rules.specs.declared.key.Tagged.{Tagged}
use Rattle.jc_tree.specs.Tree.{keys_lent}
use Rattle.jc_meaning.specs.Seen.{seen}
use Rattle.jc_effects.specs.Parts.{AreContexts, OnlyLoses, differences_of}
use Rattle.jc_effects.proofs.PartsLossesLemmas.{PassedBack}
use Rattle.jc_effects.proofs.PartsReadLemmas.{nested_at}
use Rattle.jc_effects.proofs.below.+below.Given as goal

abbrev pub decreases-child_below : goal.decreases-child_below
decreases-child_below g l = 3 * nested_at (g.S.TreeStore.path l.change.now.old.now) (g.S.TreeStore.tree l.change.now.old.now) l.contexts.old

abbrev pub decreases-place_below : goal.decreases-place_below
decreases-place_below g l = 3 * nested_at (g.S.TreeStore.path l.change.now.old.now) (g.S.TreeStore.tree l.change.now.old.now) l.contexts.old + 1

abbrev pub decreases-places_below : goal.decreases-places_below
decreases-places_below g l = 3 * nested_at (g.S.TreeStore.path l.change.now.old.now) (g.S.TreeStore.tree l.change.now.old.now) l.contexts.old + 2

-- the places that differ among the keys that are passed
abbrev pub invariant-places_below-loop-lent : goal.invariant-places_below-loop-lent
invariant-places_below-loop-lent g l =
    let before = g.S.TreeStore.tree l.change.old.now in
    let after = g.S.TreeStore.tree l.change.new.now in
    (at : List Tagged) → AreContexts (g.S.TreeStore.names l.change.old.now) (g.S.TreeStore.names l.change.new.now) before after at l.contexts
    → OnlyLoses (seen at before.now) (seen at after.now)
    → PassedBack (keys_lent l.initial.keys.items) (keys_lent l.keys.items) (seen at before.now) (seen at after.now) (differences_of l.effects)

abbrev pub decreases-places_below-loop-lent : goal.decreases-places_below-loop-lent
decreases-places_below-loop-lent g l = vec_len l.keys

use Rattle.std.proofs.Common.{◌+◌, ◌*◌, option_map}
use Rattle.std.specs.List.{AllWithin}
use Rattle.jc_tree.specs.Tree.{here}
use Rattle.jc_tree.specs.Nested.{nested}
use Rattle.jc_meaning.specs.Compared.{IsSameKey}
use Rattle.jc_meaning.proofs.ComparedContextsLemmas.{counted}
use Rattle.jc_meaning.proofs.sameness.+walk.Given as goal

abbrev pub decreases-same_child : goal.decreases-same_child
decreases-same_child g l = 3 * counted (option_map (λ p. here (g.S.TreeStore.path l.left.now p) (g.S.TreeStore.tree l.left.now)) l.place)

abbrev pub decreases-same_key : goal.decreases-same_key
decreases-same_key g l = 3 * nested (here (g.S.TreeStore.path l.left.now l.key.place) (g.S.TreeStore.tree l.left.now)) + 1

abbrev pub decreases-same_place : goal.decreases-same_place
decreases-same_place g l = 3 * nested (here (g.S.TreeStore.path l.left.now l.place) (g.S.TreeStore.tree l.left.now)) + 2

abbrev pub invariant-same_place-loop-lent : goal.invariant-same_place-loop-lent
invariant-same_place-loop-lent g l = AllWithin (λ lent. IsSameKey (here (g.S.TreeStore.path l.left l.place) (g.S.TreeStore.tree l.left)) (here (g.T.TreeStore.path l.right l.other) (g.T.TreeStore.tree l.right)) lent.0.now) l.lent-items 0 l.lent-index

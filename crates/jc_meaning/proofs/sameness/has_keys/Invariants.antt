use Rattle.std.specs.List.{AllWithin}
use Rattle.jc_tree.specs.Tree.{here}
use Rattle.jc_meaning.specs.Compared.{HasKey}
use Rattle.jc_meaning.proofs.sameness.has_keys.Given as goal

abbrev pub invariant-loop-lent : goal.invariant-loop-lent
invariant-loop-lent g l = AllWithin (λ lent. HasKey (here (g.S.TreeStore.path l.left l.place) (g.S.TreeStore.tree l.left)) (here (g.T.TreeStore.path l.right l.other) (g.T.TreeStore.tree l.right)) lent.0.now) l.lent-items 0 l.lent-index

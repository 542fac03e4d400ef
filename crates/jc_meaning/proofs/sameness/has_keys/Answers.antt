use Rattle.std.proofs.Common.{refl, rules}
use Rattle.jc_tree.specs.Tree.{here}
use Rattle.jc_meaning.specs.Compared.{HasKey}
use Rattle.jc_meaning.proofs.ComparedContextsLemmas.{one_more, at_keys}
use Rattle.jc_meaning.proofs.sameness.has_keys.Goals.{else-stands-via-then-stands+else-not-stands, else-stands-via-else-stands}
use Rattle.jc_meaning.proofs.sameness.has_keys.Goals as goal

pub loop-lent-preserved : goal.loop-lent-preserved
loop-lent-preserved g c =
    let first = here (g.S.TreeStore.path c.args.left.now c.args.place) (g.S.TreeStore.tree c.args.left.now) in
    let second = here (g.T.TreeStore.path c.args.right.now c.args.other) (g.T.TreeStore.tree c.args.right.now) in
    let has : HasKey first second c.lent-item.result.0.now = elim c.else-stands.branch [
      | else-stands-via-then-stands+else-not-stands w ↦ search rules
      | else-stands-via-else-stands w ↦ search rules
    ] in
    one_more (HasKey first second) c.as_slice-lent-items.result.now c.loop-lent.lent-index c.lent-item.result c.loop-lent-test.true c.lent-item.is has c.loop-lent.invariant

pub returns : goal.returns
returns g c =
    let first = here (g.S.TreeStore.path c.args.left.now c.args.place) (g.S.TreeStore.tree c.args.left.now) in
    let at = g.T.TreeStore.path c.args.right.now c.args.other in
    let second = here at (g.T.TreeStore.tree c.args.right.now) in (
      λ t k e. at_keys (HasKey first second) c.as_slice-lent-items.result.now c.in_ok-keys.keys.items c.loop-lent.lent-index second c.as_slice-lent-items.ensures.value (c.in_ok-keys.ensures.all at c.requires.right) c.loop-lent-test.false c.loop-lent.invariant k e e,
      λ h. refl,
    )

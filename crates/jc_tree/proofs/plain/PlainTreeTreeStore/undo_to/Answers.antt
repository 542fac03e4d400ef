use Rattle.std.proofs.Common.{◌≤◌, ◌++◌, ◌∷◌, [], length, take, refl, sym, ap, arith, ◌∙◌}
use Rattle.jc_tree.specs.Undo.{earlier_contents}
use Rattle.jc_tree.proofs.UndoLemmas.{length_contents, once_shorter, whole}
use Rattle.jc_tree.proofs.plain.PlainTreeTreeStore.undo_to.Goals as goal

pub loop-mark-init : goal.loop-mark-init
loop-mark-init c =
    let old = c.args.self.now in
    (rw (length_contents old.undos.items old.root) at c.requires, refl, whole old.undos.items old.root)

pub loop-mark-preserved : goal.loop-mark-preserved
loop-mark-preserved c =
    let old = c.args.self.now in
    let before = c.loop-mark.self in
    let all = earlier_contents old.undos.items old.root ++ old.root ∷ [] in
    let bound : c.args.mark.changes ≤ length c.undo.new.self.undos.items = omega (arith, c.undo.ensures.undos, c.loop-mark-test.true, c.len.ensures) in
    (bound, c.undo.ensures.paths ∙ c.loop-mark.invariant.1, c.undo.ensures.history ∙ once_shorter before.undos.items before.root all c.loop-mark.invariant.2 ∙ ap (λ k. take k all) (sym c.undo.ensures.undos))

pub returns-clause-names_stay : goal.returns-clause-names_stay
returns-clause-names_stay c then same p at was named = record {
  named = rw c.loop-mark.invariant.1 named.named;
  there = rw (ap (λ t. t.now) same) at was.there;
}

use Rattle.std.proofs.Common.{◌≤◌, ◌++◌, ◌∷◌, [], length, take, sym, ap, arith, ◌∙◌}
use Rattle.jc_tree.specs.Arena.{content_of_arena}
use Rattle.jc_tree.specs.ArenaUndo.{arena_contents}
use Rattle.jc_tree.proofs.ArenaHistoryLemmas.{length_contents, once_shorter, whole}
use Rattle.jc_tree.proofs.ArenaPlacesLemmas.{at_number}
use Rattle.jc_tree.proofs.ArenaUndoNumbersLemmas.{number_left}
use Rattle.jc_tree.proofs.arena.ArenaTreeTreeStore.undo_to.Goals as goal

pub loop-mark-init : goal.loop-mark-init
loop-mark-init c =
    let old = c.args.self.now in
    (rw (length_contents old.undos.items old.nodes.items) at c.requires, λ at i h. h, whole old.undos.items old.nodes.items)

pub loop-mark-preserved : goal.loop-mark-preserved
loop-mark-preserved c =
    let old = c.args.self.now in
    let before = c.loop-mark.self in
    let all = arena_contents old.undos.items old.nodes.items ++ content_of_arena old.nodes.items ∷ [] in
    let bound : c.args.mark.changes ≤ length c.undo.new.self.undos.items = omega (arith, c.undo.ensures.undos, c.loop-mark-test.true, c.len.ensures) in
    (bound, λ at i h. c.loop-mark.invariant.1 at i (c.undo.ensures.numbers at i h), c.undo.ensures.history ∙ once_shorter before.undos.items before.nodes.items all c.loop-mark.invariant.2 ∙ ap (λ k. take k all) (sym c.undo.ensures.undos))

pub returns-clause-names_stay : goal.returns-clause-names_stay
returns-clause-names_stay c = λ s e p at was h. at_number c.loop-mark.self.nodes.items at p.number c.loop-mark.self.good (number_left s.nodes.items c.args.self.now.nodes.items c.loop-mark.self.nodes.items s.undos.items c.loop-mark.self.undos.items at p.number p.number s.good c.loop-mark.self.good c.loop-mark.invariant.1 e was.walk h.walk)

use Rattle.std.proofs.Common.{◌∷◌, ◌++◌, [], sym, ap, subst, ◌∙◌}
use Rattle.jc_tree.specs.Arena.{content_of_arena}
use Rattle.jc_tree.specs.ArenaUndo.{AreGood, AreOldNumbers, arena_contents}
use Rattle.jc_tree.proofs.ArenaHistoryLemmas.{contents_latest, good_latest}
use Rattle.jc_tree.proofs.ArenaUndoNumbersLemmas.{numbers_before}
use Rattle.jc_tree.proofs.arena.ArenaTree.undo.Goals as goal

pub invariant_of-self : goal.invariant_of-self
invariant_of-self c =
    let old = c.args.self.now in
    let parts = good_latest c.pop.new.self.items c.in-Some.undo old.nodes.items (subst (λ us. AreGood us old.nodes.items) c.in-Some.ensures.items old.earlier_good) in
    record {
      good = rw c.take_back.ensures parts.1;
      earlier_good = rw c.take_back.ensures parts.0;
    }

pub returns-in-Some-clause-history : goal.returns-in-Some-clause-history
returns-in-Some-clause-history c =
    let old = c.args.self.now in
    ap (λ l. arena_contents c.pop.new.self.items l ++ content_of_arena l ∷ []) c.take_back.ensures ∙ sym (contents_latest c.pop.new.self.items c.in-Some.undo old.nodes.items) ∙ ap (λ us. arena_contents us old.nodes.items) (sym c.in-Some.ensures.items)

pub returns-in-Some-clause-numbers : goal.returns-in-Some-clause-numbers
returns-in-Some-clause-numbers c =
    let old = c.args.self.now in
    subst (λ l. AreOldNumbers l old.nodes.items) (sym c.take_back.ensures) (numbers_before c.in-Some.undo old.nodes.items old.good)

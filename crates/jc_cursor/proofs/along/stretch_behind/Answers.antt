use Rattle.std.proofs.Common.{sym, ◌∙◌}
use Rattle.jc_tree.specs.Tree.{here}
use Rattle.jc_cursor.proofs.ElementsLemmas.{one_over}
use Rattle.jc_cursor.proofs.along.stretch_behind.Goals as goal

pub returns-clause-over : goal.returns-clause-over
returns-clause-over g c at named =
    one_over (here at (g.S.TreeStore.tree c.args.store.now)) c.args.walk.now.key c.in_ok-id.id _ _ (sym (c.step_by-step.ensures.next at named) ∙ c.in_ok-id.ensures.some) c.from.ensures (c.step_by-ahead.ensures.present at named)

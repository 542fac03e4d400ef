use Rattle.std.proofs.Common.{Err, ap, sym, subst, ◌∙◌}
use Rattle.jc_rules.specs.Step.{StepIn}
use Rattle.jc_network.specs.NetworkHistory.{NetworkHistory}
use Rattle.jc_listings.proofs.JournalPartsLemmas.{not_full, not_stuck}
use Rattle.jc_listings.proofs.journals.follow.Goals as goal

pub unreachable-requires : goal.unreachable-requires
unreachable-requires c = not_full c.args.net.now c.requires.new (c.step.ensures.full.0 (c.in-Err-Full.is ∙ ap Err c.in-Err-Full.field-0-is))

pub unreachable-requires-in-Err-Stuck : goal.unreachable-requires-in-Err-Stuck
unreachable-requires-in-Err-Stuck c = not_stuck c.args.net.now.history.now c.args.event.now c.in-Err-Stuck.field-0-0 c.requires.can (c.step.ensures.stuck c.in-Err-Stuck.field-0-0 (c.in-Err-Stuck.is ∙ ap Err c.in-Err-Stuck.field-0-is))

pub returns-in-Ok-clause-made : goal.returns-in-Ok-clause-made
returns-in-Ok-clause-made c =
    let rows = c.in-Ok.field-0.rows in
    (rows, subst (λ (n : NetworkHistory). StepIn c.args.net.now.history.now c.args.event.now n.history.now rows) (sym c.begin.ensures) c.in-Ok.ensures.made.step)

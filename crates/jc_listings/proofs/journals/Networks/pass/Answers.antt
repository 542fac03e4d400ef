use Rattle.std.proofs.Common.{Result, Err, ap, ◌∙◌}
use Rattle.jc_rules.specs.Trace.{Rows}
use Rattle.jc_network.specs.declared.fault.StepFault.{StepFault}
use Rattle.jc_listings.proofs.JournalPartsLemmas.{not_full, twin_can, twins_after, step_begun}
use Rattle.jc_listings.proofs.journals.Networks.pass.Goals as goal

abbrev failed : StepFault → Result Rows StepFault
failed fault = Err fault

pub unreachable-requires : goal.unreachable-requires
unreachable-requires c = not_full c.args.self.now.first c.requires.first_new (c.step.ensures.full.0 (c.in-Err-Full.is ∙ ap Err c.in-Err-Full.field-0-is))

pub follow-requires-clause-can : goal.follow-requires-clause-can
follow-requires-clause-can c =
    twin_can c.args.self.now.first c.args.self.now.second c.step.new.self.history.now c.args.event.now c.in-Ok.field-0.rows c.requires c.in-Ok.ensures.made.step

pub returns-in-Err-Stuck-clause-stuck : goal.returns-in-Err-Stuck-clause-stuck
returns-in-Err-Stuck-clause-stuck c = λ _.
    let x = c.in-Err-Stuck.ensures.stuck c.in-Err-Stuck.field-0-0 (ap failed c.in-Err-Stuck.field-0-is) in
    (x.why, x.stuck)

pub returns-clause-made : goal.returns-clause-made
returns-clause-made c = λ _.
    (c.in-Ok.field-0.rows, step_begun c.args.self.now.first c.step.new.self c.begin.new.self c.args.event.now c.in-Ok.field-0.rows c.in-Ok.ensures.made.step c.begin.ensures)

pub returns-clause-twins : goal.returns-clause-twins
returns-clause-twins c =
    twins_after c.args.self.now.first c.args.self.now.second c.step.new.self c.follow.new.net c.begin.new.self c.args.event.now c.in-Ok.field-0.rows c.requires c.in-Ok.ensures.made.step c.begin.ensures c.in_ok-follow.ensures.made c.in_ok-follow.ensures.new

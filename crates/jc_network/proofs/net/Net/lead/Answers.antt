use Rattle.std.proofs.Common.{◌+◌, refl, sym, ◌∙◌, ap, Err, arith}
use Rattle.jc_network.specs.declared.fault.StepFault.TheVariants as E
use Rattle.jc_network.specs.NetworkHistory.{NetworkHistory}
use Rattle.jc_network.proofs.GivenHistoryLemmas.{led_none, led_more, led_short, led_all, lead_fails, refused_back}
use Rattle.jc_network.proofs.net.Net.lead.Goals as goal

pub loop-event-init : goal.loop-event-init
loop-event-init c = (refl, led_none c.args.self.now c.args.given.now c.requires.new)

pub overflow_add-at : goal.overflow_add-at
overflow_add-at c = let n = c.loop-event.invariant.0 in omega (arith, n, c.loop-event-test.true, c.requires.short)

pub unreachable-requires : goal.unreachable-requires
unreachable-requires c =
    led_short c.args.self.now c.loop-event.self c.args.given.now c.loop-event.event-index c.loop-event-test.true c.requires.short c.loop-event.invariant.1
    (c.step.ensures.full.0 (c.in-Err-Full.is ∙ ap Err c.in-Err-Full.field-0-is))

pub returns-in-Err-Stuck-clause-stuck : goal.returns-in-Err-Stuck-clause-stuck
returns-in-Err-Stuck-clause-stuck c =
    lead_fails c.args.self.now c.loop-event.self c.args.given.now c.loop-event.event-index c.loop-event.at _ c.step.result _ c.loop-event-test.true c.loop-event.invariant.0 c.loop-event.invariant.1 c.step.ensures.stuck (c.in-Err-Stuck.is ∙ ap Err (c.in-Err-Stuck.field-0-is ∙ ap E.Stuck (sym c.in-Err-Stuck.stuck-is)))

pub loop-event-preserved : goal.loop-event-preserved
loop-event-preserved c = (
  ap (λ n. n + 1) c.loop-event.invariant.0,
  led_more c.args.self.now c.loop-event.self c.step.new.self c.args.given.now c.loop-event.event-index _ _ c.loop-event-test.true c.loop-event.invariant.1 c.in-Ok.ensures.made,
)

pub returns-clause-led : goal.returns-clause-led
returns-clause-led c = led_all c.args.self.now c.loop-event.self c.args.given.now c.loop-event.event-index (omega (arith, c.loop-event-test.false, c.loop-event.auto.event-index-end)) c.loop-event.invariant.1

-- ---- the names stay

pub returns-clause-names : goal.returns-clause-names
returns-clause-names c = c.loop-event.invariant.1.names

-- ---- after a refusal all is as it was

pub returns-in-Err-Stuck-clause-kept : goal.returns-in-Err-Stuck-clause-kept
returns-in-Err-Stuck-clause-kept c =
    refused_back c.args.self.now c.loop-event.self c.step.new.self c.undo_all.new.self c.args.given.now c.loop-event.event-index c.requires.new c.loop-event.invariant.1 c.in-Err-Stuck.ensures.kept c.undo_all.ensures

pub returns-in-Err-Memory-clause-kept : goal.returns-in-Err-Memory-clause-kept
returns-in-Err-Memory-clause-kept c =
    refused_back c.args.self.now c.loop-event.self c.step.new.self c.undo_all-in-Err-Memory.new.self c.args.given.now c.loop-event.event-index c.requires.new c.loop-event.invariant.1 c.in-Err-Memory.ensures.kept c.undo_all-in-Err-Memory.ensures

pub returns-in-Err-Stuck-clause-names : goal.returns-in-Err-Stuck-clause-names
returns-in-Err-Stuck-clause-names c =
    ap (λ (v : NetworkHistory). v.names)
    (refused_back c.args.self.now c.loop-event.self c.step.new.self c.undo_all.new.self c.args.given.now c.loop-event.event-index c.requires.new c.loop-event.invariant.1 c.in-Err-Stuck.ensures.kept c.undo_all.ensures)

pub returns-in-Err-Memory-clause-names : goal.returns-in-Err-Memory-clause-names
returns-in-Err-Memory-clause-names c =
    ap (λ (v : NetworkHistory). v.names)
    (refused_back c.args.self.now c.loop-event.self c.step.new.self c.undo_all-in-Err-Memory.new.self c.args.given.now c.loop-event.event-index c.requires.new c.loop-event.invariant.1 c.in-Err-Memory.ensures.kept c.undo_all-in-Err-Memory.ensures)

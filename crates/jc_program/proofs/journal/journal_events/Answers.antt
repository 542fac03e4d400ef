use Rattle.std.proofs.Common.{◌≡◌, ◌+◌, ◌<◌, length, ◌∙◌, ap, arith}
use Rattle.jc_rules.specs.declared.operation.Event.TheVariants.{Exec}
use Rattle.jc_network.specs.NetworkHistory.{NetworkHistory}
use Rattle.jc_program.proofs.JournalResultLemmas.{line_here, line_stops, lines_end, lines_stand}
use Rattle.jc_program.proofs.RunOutLemmas.{on_err}
use Rattle.jc_program.proofs.journal.journal_events.Goals as goal

pub returns-then-is_stuck-clause-ok : goal.returns-then-is_stuck-clause-ok
returns-then-is_stuck-clause-ok g c =
    let inside : c.loop-event.event-index < length c.args.events.now = omega arith in
    let number : c.loop-event.number + 1 ≡ c.loop-event.event-index + 1 = omega (arith, c.loop-event.invariant.counted) in
    line_stops c.args.networks.now.net c.loop-event.networks.net c.loop-event.invariant.names c.loop-event.invariant.goes c.journal_next.new.networks.net (c.loop-event.number + 1) (Exec 0) _ c.in_ok-line.line.items
    inside number (rw c.as_slice.ensures.value at c.pass.ensures) (rw (c.loop-event.invariant.asked, c.if-is_stuck.true) at c.in_ok-line.ensures.ok)

pub loop-event-preserved : goal.loop-event-preserved
loop-event-preserved g c =
    let inside : c.loop-event.event-index < length c.args.events.now = omega arith in
    let number : c.loop-event.number + 1 ≡ c.loop-event.event-index + 1 = omega (arith, c.loop-event.invariant.counted) in
    let on = line_here c.args.networks.now.net c.loop-event.networks.net c.loop-event.invariant.names c.loop-event.invariant.goes c.journal_next.new.networks.net (c.loop-event.number + 1) (Exec 0) _ c.in_ok-line.line.items
    inside number (rw c.as_slice.ensures.value at c.pass.ensures) (rw (c.loop-event.invariant.asked, c.if-is_stuck.false) at c.in_ok-line.ensures.ok) in
    let now = ap (λ (k : NetworkHistory). k.history.now) c.begin.ensures in
    record {
      counted = number;
      names = ap (λ (k : NetworkHistory). k.names) c.begin.ensures ∙ on.1;
      steps = ap (λ (k : NetworkHistory). k.history.earlier) c.begin.ensures;
      behind = rw now c.in_ok-line.ensures.behind;
      asked = c.in_ok-line.ensures.asked ∙ c.loop-event.invariant.asked;
      goes = rw now on.0;
    }

-- all were made
pub returns-clause-ok : goal.returns-clause-ok
returns-clause-ok g c = lines_end c.args.networks.now.net c.loop-event.networks.net c.loop-event.invariant.names c.loop-event.invariant.goes (omega arith)

-- the output is broken
pub returns-then-is_broken-clause-halted : goal.returns-then-is_broken-clause-halted
returns-then-is_broken-clause-halted g c =
    lines_stand c.args.networks.now.net c.loop-event.networks.net c.loop-event.invariant.names c.loop-event.invariant.goes (Exec 0) (omega arith)

-- there was no memory
pub returns-in_err-line-clause-halted : goal.returns-in_err-line-clause-halted
returns-in_err-line-clause-halted g c =
    on_err _ c.from_residual.result (lines_stand c.args.networks.now.net c.loop-event.networks.net c.loop-event.invariant.names c.loop-event.invariant.goes (Exec 0) (omega arith))

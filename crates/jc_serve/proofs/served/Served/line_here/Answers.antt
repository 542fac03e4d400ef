use Rattle.std.proofs.Common.{◌<◌, length, refl, arith}
use Rattle.jc_rules.specs.declared.operation.Event.TheVariants.{Exec}
use Rattle.jc_session.proofs.AnswerTextLemmas.{event_at}
use Rattle.jc_journal.specs.Parts.{rows_of}
use Rattle.jc_serve.proofs.EventsLemmas.{trace_there, step_found, last_found, last_there, line_found}
use Rattle.jc_serve.proofs.served.Served.line_here.Goals as goal

pub effects_here-requires-clause-made : goal.effects_here-requires-clause-made
effects_here-requires-clause-made c =
    let x = c.args.self.now in
    let ends = c.requires.behind.2 in
    let some : 0 < length x.here.traces = omega (arith, ends) in
    let trail = c.position-number.ensures.trail in
    let (rows, t) = trace_there x.here trail some in
    let same = event_at x.here rows t c.schedule.result.now c.position-number.result (Exec 0) c.schedule.ensures c.position-number.ensures.position in
    (rows, step_found x.aside x.here c.net-aside.result.now x.here.net trail c.requires.behind c.net-aside.ensures.net refl c.net-aside.ensures.is_at _ rows t same)

pub effects_here-requires-clause-last : goal.effects_here-requires-clause-last
effects_here-requires-clause-last c =
    let x = c.args.self.now in
    last_found x.aside x.here c.net-aside.result.now x.here.net c.position-number.ensures.trail c.requires.behind c.net-aside.ensures.net refl c.net-aside.ensures.is_at (Exec 0)

pub returns : goal.returns
returns c =
    let x = c.args.self.now in
    let trail = c.position-number.ensures.trail in
    let (rows, t, asked) = c.rules_here.ensures in
    let same = event_at x.here rows t c.schedule.result.now c.position-number.result (Exec 0) c.schedule.ensures c.position-number.ensures.position in
    line_found x.aside x.here c.net-aside.result.now c.net.result.now trail c.requires.behind c.net-aside.ensures.net c.net.ensures.net c.net-aside.ensures.is_at _
    c.args.details c.position-number.result rows t c.in_ok-effects.effects c.as_ref.result (rows_of c.rules_here.result) c.in_ok-line.line.items c.unended.result.items same c.position-number.ensures.position c.as_ref.ensures.value asked
    c.in_ok-effects.ensures
    (λ ls made. c.in_ok-line.ensures c.net-aside.result.now.history.now ls (last_there x.aside x.here c.net-aside.result.now c.net.result.now trail c.requires.behind c.net-aside.ensures.net c.net.ensures.net c.net-aside.ensures.is_at (Exec 0)) made)
    c.unended.ensures

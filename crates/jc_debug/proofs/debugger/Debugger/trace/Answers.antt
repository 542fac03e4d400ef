use Rattle.std.proofs.Common.{◌≡◌, ◌-◌, List, length, Some, slice_get, sym, subst}
use Rattle.jc_rules.specs.Runs.{rows_of_all}
use Rattle.jc_rules.specs.Trace.{Rows}
use Rattle.jc_debug.specs.Moves.{IsTraceOf}
use Rattle.jc_debug.specs.Invariant.{Seen}
use Rattle.jc_debug.proofs.InvariantLemmas.{seen, last_trace}
use Rattle.jc_debug.proofs.debugger.Debugger.trace.Goals as goal

pub returns-in-Some-clause-trace : goal.returns-in-Some-clause-trace
returns-in-Some-clause-trace c =
    let d = seen c.self.inside.net c.self.inside.schedule.items c.self.inside.traces.items c.self.inside.breaks in
    let at : slice_get d.traces (length d.traces - 1) ≡ Some c.in-Some.trace.now = subst (λ (l : List Rows). slice_get l (length l - 1) ≡ Some c.in-Some.trace.now) c.deref.ensures.value (sym c.in-Some.ensures.value) in
    subst (λ (v : Seen). IsTraceOf v (rows_of_all c.runs.result.now)) c.self.view_is (last_trace d c.self.invariant c.in-Some.trace.now (rows_of_all c.runs.result.now) at c.runs.ensures)

use Rattle.std.proofs.Common.{length, subst}
use Rattle.jc_debug.specs.DebuggerState.{IsNetworkAt}
use Rattle.jc_debug.specs.Invariant.{Seen, start_of}
use Rattle.jc_debug.proofs.InvariantLemmas.{seen, is_at}
use Rattle.jc_debug.proofs.debugger.Debugger.net.Goals as goal

pub returns-clause-is_at : goal.returns-clause-is_at
returns-clause-is_at c =
    let d = seen c.self.inside.net c.self.inside.schedule.items c.self.inside.traces.items c.self.inside.breaks in
    subst (λ (v : Seen). IsNetworkAt (start_of v) v.schedule (length v.traces) d.net.history.now) c.self.view_is (is_at d c.self.invariant)

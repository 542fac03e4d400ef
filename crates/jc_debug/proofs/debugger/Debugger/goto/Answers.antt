use Rattle.std.proofs.Common.{arith}
use Rattle.jc_debug.proofs.debugger.Debugger.goto.Goals as goal

-- no position is past the schedule's end
pub returns-then-n-events-clause-back : goal.returns-then-n-events-clause-back
returns-then-n-events-clause-back c =
    λ le. let within = c.position-here.ensures.trail.within in absurd (omega (arith, within, le, c.position-here.ensures.position, c.events.ensures, c.if-n-events.true))

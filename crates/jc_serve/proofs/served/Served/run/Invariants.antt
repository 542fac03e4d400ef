use Rattle.std.proofs.Common.{◌+◌, ◌-◌, ◌≤◌, length}
use Rattle.jc_serve.specs.Moves.{IsMovedTo}
use Rattle.jc_serve.proofs.RunsLemmas.{Quiet}
use Rattle.jc_serve.proofs.served.Served.run.Given as goal

abbrev pub invariant-events : goal.invariant-events
invariant-events l = record {
  moved : IsMovedTo l.initial.self l.self (length l.self.here.traces);
  forward : length l.initial.self.here.traces ≤ length l.self.here.traces;
  quiet : Quiet l.initial.self (length l.self.here.traces + 1);
}

abbrev pub decreases-events : goal.decreases-events
decreases-events l = length l.self.here.schedule - length l.self.here.traces

use Rattle.std.proofs.Common.{length}
use Rattle.jc_serve.proofs.RunsLemmas.{GoesBack}
use Rattle.jc_serve.proofs.served.Served.run_back.Given as goal

abbrev pub invariant-positions : goal.invariant-positions
invariant-positions l = record { goes : GoesBack l.initial.self l.self }

abbrev pub decreases-positions : goal.decreases-positions
decreases-positions l = length l.self.here.traces

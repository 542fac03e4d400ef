use Rattle.std.proofs.Common.{◌+◌}
use Rattle.jc_debug.specs.Invariant.{IsDebugger, IsMoved}
use Rattle.jc_debug.proofs.RunLemmas.{Quiet}
use Rattle.jc_debug.proofs.debugger.Debugger.run.Given as goal

abbrev pub invariant-loop-position : goal.invariant-loop-position
invariant-loop-position l = record {
  trail : IsDebugger l.self;
  moved : IsMoved l.initial.self l.self l._position;
  quiet : Quiet l.initial.self (l._position + 1);
}

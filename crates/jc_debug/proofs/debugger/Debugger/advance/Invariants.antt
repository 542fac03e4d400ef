use Rattle.std.proofs.Common.{◌+◌, length}
use Rattle.jc_debug.specs.Invariant.{IsMoved}
use Rattle.jc_debug.proofs.debugger.Debugger.advance.Given as goal

abbrev pub invariant-loop-made : goal.invariant-loop-made
invariant-loop-made l = record {
  moved : IsMoved l.initial.self l.self (length l.initial.self.traces + l._made);
}

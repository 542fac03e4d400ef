use Rattle.std.proofs.Common.{◌-◌, length}
use Rattle.jc_debug.specs.Invariant.{IsMoved}
use Rattle.jc_debug.proofs.debugger.Debugger.back.Given as goal

abbrev pub invariant-loop-taken : goal.invariant-loop-taken
invariant-loop-taken l = record {
  moved : IsMoved l.initial.self l.self (length l.initial.self.traces - l._taken);
}

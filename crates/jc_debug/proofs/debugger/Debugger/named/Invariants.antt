use Rattle.std.proofs.Common.{ℕ, ◌<◌, length}
use Rattle.jc_debug.specs.DebuggerState.{NamesAt}
use Rattle.jc_debug.specs.Invariant.{start_of, session_of}
use Rattle.jc_debug.proofs.debugger.Debugger.named.Given as goal

abbrev pub invariant-loop-j : goal.invariant-loop-j
invariant-loop-j l = record {
  none : (i : ℕ) → i < l.j → NamesAt (start_of l.self) (session_of l.self) (length l.self.traces) i → ⊥;
}

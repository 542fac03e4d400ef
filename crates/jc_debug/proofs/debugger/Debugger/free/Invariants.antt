use Rattle.std.proofs.Common.{◌≡◌, ℕ, ◌<◌, Some, None, slice_get}
use Rattle.jc_debug.proofs.debugger.Debugger.free.Given as goal

abbrev pub invariant-loop-place : goal.invariant-loop-place
invariant-loop-place l = record {
  none : (i : ℕ) → i < l.place → slice_get l.self.breaks i ≡ Some None → ⊥;
}

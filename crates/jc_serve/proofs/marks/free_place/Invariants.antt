use Rattle.std.proofs.Common.{◌≡◌, ℕ, ◌<◌, Some, None, slice_get}
use Rattle.jc_serve.specs.InMemory.{marks_of}
use Rattle.jc_serve.proofs.marks.free_place.Given as goal

abbrev pub invariant-loop-place : goal.invariant-loop-place
invariant-loop-place l = record {
  none : (i : ℕ) → i < l.place → slice_get (marks_of l.marks) i ≡ Some None → ⊥;
}

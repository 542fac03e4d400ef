use Rattle.std.proofs.Common.{ℕ, ◌<◌}
use Rattle.jc_serve.specs.InMemory.{NamesHere}
use Rattle.jc_serve.proofs.marks.named.Given as goal

abbrev pub invariant-loop-place : goal.invariant-loop-place
invariant-loop-place l = record {
  none : (i : ℕ) → i < l.place → NamesHere l.here l.marks i → ⊥;
}

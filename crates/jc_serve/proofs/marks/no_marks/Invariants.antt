use Rattle.std.proofs.Common.{◌≡◌, length, replicate, None}
use Rattle.jc_serve.specs.InMemory.{marks_of}
use Rattle.jc_serve.proofs.marks.no_marks.Given as goal

abbrev pub invariant-loop-place : goal.invariant-loop-place
invariant-loop-place l = record {
  free : marks_of l.marks.items ≡ replicate l.place None;
  count : length l.marks.items ≡ l.place;
}

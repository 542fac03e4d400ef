use Rattle.std.proofs.Common.{◌≡◌, length, map, take}
use Rattle.jc_lock.specs.Shows.{pass_number}
use Rattle.jc_lock.proofs.MarksLemmas.{Marked}
use Rattle.jc_lock.proofs.marks.each_is_there.Given as goal

abbrev pub invariant-loop-pass : goal.invariant-loop-pass
invariant-loop-pass g l = record {
  long : length l.marks ≡ length l.fn.marks;
  marked : Marked l.marks (take l.pass-index (map pass_number l.passes));
}

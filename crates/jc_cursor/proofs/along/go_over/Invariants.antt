use Rattle.std.proofs.Common.{◌≡◌, ◌≤◌, ◌+◌}
use Rattle.jc_cursor.specs.Along.{gone_over, count_bits}
use Rattle.jc_cursor.specs.WayDown.{IsGrown}
use Rattle.jc_cursor.proofs.along.go_over.Given as goal

abbrev pub invariant-loop-left : goal.invariant-loop-left
invariant-loop-left l = record {
  rows : gone_over l.left l.rest l.trace ≡ gone_over l.fn.count l.fn.bits l.fn.trace;
  present : l.present + count_bits l.left l.rest ≡ count_bits l.fn.count l.fn.bits;
  most : l.present + l.left ≤ l.fn.count;
  grown : IsGrown l.fn.trace l.trace;
}

abbrev pub decreases-loop-left : goal.decreases-loop-left
decreases-loop-left l = l.left

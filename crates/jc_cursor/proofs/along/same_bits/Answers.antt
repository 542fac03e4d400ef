use Rattle.std.proofs.Common.{arith}
use Rattle.jc_cursor.proofs.AlongSpansLemmas.{zeros_some, zeros_same, ones_some, ones_same}
use Rattle.jc_cursor.proofs.along.same_bits.Goals as goal

pub returns-then-bits-eq0-clause-some : goal.returns-then-bits-eq0-clause-some
returns-then-bits-eq0-clause-some c = zeros_some c.args.bits c.ranges.bits.fits c.if-bits-eq0.true

pub returns-then-bits-eq0-clause-same : goal.returns-then-bits-eq0-clause-same
returns-then-bits-eq0-clause-same c = λ i w. zeros_same c.args.bits i c.ranges.bits.fits c.if-bits-eq0.true w

pub returns-else-bits-eq0-clause-some : goal.returns-else-bits-eq0-clause-some
returns-else-bits-eq0-clause-some c = rw c.trailing_ones.ensures (ones_some c.args.bits c.ranges.bits.fits (omega (arith, c.if-bits-eq0.false)))

pub returns-else-bits-eq0-clause-same : goal.returns-else-bits-eq0-clause-same
returns-else-bits-eq0-clause-same c = λ i w. ones_same c.args.bits i c.ranges.bits.fits (omega (arith, c.if-bits-eq0.false)) (rw c.trailing_ones.ensures at w)

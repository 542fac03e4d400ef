use Rattle.std.proofs.Common.{◌≡◌, take}
use Rattle.jc_rules.proofs.pairs.Pairs.from_slice.Given as goal

abbrev pub invariant-loop-id : goal.invariant-loop-id
invariant-loop-id l = l.copies.items ≡ take l.id-index l.pairs

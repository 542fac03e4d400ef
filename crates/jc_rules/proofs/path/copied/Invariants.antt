use Rattle.std.proofs.Common.{◌≡◌, take}
use Rattle.jc_rules.proofs.path.copied.Given as goal

abbrev pub invariant-loop-key : goal.invariant-loop-key
invariant-loop-key l = l.copies.items ≡ take l.key-index l.fn.keys

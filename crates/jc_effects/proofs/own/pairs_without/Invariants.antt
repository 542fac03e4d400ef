use Rattle.std.proofs.Common.{◌≡◌, take}
use Rattle.jc_effects.specs.Parts.{pairs_without}
use Rattle.jc_effects.proofs.own.pairs_without.Given as goal

abbrev pub invariant-loop-id : goal.invariant-loop-id
invariant-loop-id l = l.found.items ≡ pairs_without (take l.id-index l.pairs) l.others

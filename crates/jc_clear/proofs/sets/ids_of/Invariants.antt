use Rattle.std.proofs.Common.{◌≡◌, take}
use Rattle.jc_rules.specs.Entries.{keys_of}
use Rattle.jc_clear.proofs.sets.ids_of.Given as goal

abbrev pub invariant-loop-id : goal.invariant-loop-id
invariant-loop-id l = l.ids.items ≡ keys_of (take l.id-index l.pairs)

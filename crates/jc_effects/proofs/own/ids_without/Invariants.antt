use Rattle.std.proofs.Common.{◌≡◌, take}
use Rattle.jc_rules.specs.Ids.{without}
use Rattle.jc_effects.proofs.own.ids_without.Given as goal

abbrev pub invariant-loop-id : goal.invariant-loop-id
invariant-loop-id l = l.found.items ≡ without (take l.id-index l.ids) l.others

use Rattle.std.proofs.Common.{◌≡◌, take}
use Rattle.jc_scenario.proofs.scenario.copy_names.Given as goal

-- the names before the index were copied
abbrev pub invariant-loop-name : goal.invariant-loop-name
invariant-loop-name l = l.copies.items ≡ take l.name-index l.names

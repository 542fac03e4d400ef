use Rattle.std.proofs.Common.{◌≡◌, take}
use Rattle.jc_scenario.specs.Views.{scripts_view}
use Rattle.jc_scenario.proofs.scenario.copy_scripts.Given as goal

-- the scripts before the index were copied
abbrev pub invariant-loop-script : goal.invariant-loop-script
invariant-loop-script l = scripts_view l.copies.items ≡ scripts_view (take l.script-index l.scripts)

-- The scripts and scenarios that those in memory represent. Contracts are about these.
use Rattle.std.specs.Prelude.{List, map}
use Rattle.std.specs.declared.alloc.Global.{Global}
use Rattle.std.specs.declared.vec.Vec.{Vec}
use Rattle.jc_rules.specs.Syntax as rules
use Rattle.jc_syntax.specs.Trees.{cmd_of}
use Rattle.jc_syntax.specs.declared.tree.Cmd.{Cmd}
use Rattle.jc_scenario.specs.declared.scenario.Scenario as code
use Rattle.jc_scenario.specs.WellFormed.{Scenario}

abbrev pub scripts_view : List (Vec Cmd Global) → List (List rules.Cmd)
scripts_view scripts = map (λ script. map cmd_of script.items) scripts

abbrev pub scenario_view : code.Scenario → Scenario
scenario_view s = record {
  version = s.version;
  names = s.names.items;
  scripts = scripts_view s.scripts.items;
  given = s.given.items;
  schedule = s.schedule.items;
}

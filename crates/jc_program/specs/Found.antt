-- What the file of a command was read as. `scenario_in` cites it, and what executes a command on it.
use Rattle.std.specs.Prelude.{ℕ, List, Option, Result, Ok, Err, String, string_bytes}
use Rattle.std.specs.declared.alloc.Global.{Global}
use Rattle.jc_parser.specs.declared.fault.ScenarioFault.{ScenarioFault}
use Rattle.jc_scenario.specs.Faults.{IsFault}
use Rattle.jc_scenario.specs.WellFormed.{IsScenario}
use Rattle.jc_scenario.specs.Views.{scenario_view}
use Rattle.jc_scenario.specs.declared.scenario.Scenario.{Scenario}
use Rattle.jc_program.specs.ViewOutput.{AreTold}
use Rattle.jc_program.specs.ViewText.{IsRefused}

-- the bytes are this scenario, or have a fault, whose line this is
abbrev pub IsReadAs : List ℕ → Result Scenario (String Global) → Type 0
IsReadAs bytes (Ok s) = IsScenario bytes (scenario_view s)
IsReadAs bytes (Err line) = (fault : ScenarioFault) × IsFault bytes fault × IsRefused fault (string_bytes line) 1

-- The bytes of the file, where they are known, were read so.
abbrev pub IsFound : Option (List ℕ) → Result Scenario (String Global) → Type 0
IsFound told found = (bytes : List ℕ) × AreTold told bytes × IsReadAs bytes found

-- The statements of `laws`, which follow from the definitions alone.
use Rattle.std.specs.Prelude.{◌≡◌, ◌⊎◌, ℕ, ◌≤◌, List, length}
use Rattle.jc_rules.specs.declared.version.Version.TheVariants.{One}
use Rattle.jc_rules.specs.declared.limits.TheConstants.{MAX_TEXT}
use Rattle.jc_parser.specs.declared.fault.ScenarioFault.{ScenarioFault}
use Rattle.jc_scenario.specs.WellFormed.{Scenario, IsWellFormedScenario, IsScenario}
use Rattle.jc_scenario.specs.Faults.{IsFault}
use Rattle.jc_scenario.specs.Canon.{canon, canon_one}

-- Bytes are one scenario at most.
abbrev pub OneScenario : Type 0
OneScenario = (bytes : List ℕ) (s other : Scenario) → IsScenario bytes s → IsScenario bytes other → s ≡ other

-- Bytes that are a scenario have no fault.
abbrev pub ScenarioOrFault : Type 0
ScenarioOrFault = (bytes : List ℕ) (s : Scenario) (fault : ScenarioFault) → IsScenario bytes s → IsFault bytes fault → ⊥

-- Bytes that are no scenario have a fault.
abbrev pub ScenarioElseFault : Type 0
ScenarioElseFault =
    (bytes : List ℕ) → ((s : Scenario) × IsScenario bytes s) ⊎ ((fault : ScenarioFault) × IsFault bytes fault)

-- Bytes have one fault at most, at one place.
abbrev pub OneFault : Type 0
OneFault =
    (bytes : List ℕ) (fault other : ScenarioFault) → IsFault bytes fault → IsFault bytes other → fault ≡ other

-- The scenario that bytes are is well formed.
abbrev pub ScenariosAreWellFormed : Type 0
ScenariosAreWellFormed = (bytes : List ℕ) (s : Scenario) → IsScenario bytes s → IsWellFormedScenario s

-- The canonical text of a well-formed scenario, within the limit for texts, is that scenario.
abbrev pub ScenariosReadBack : Type 0
ScenariosReadBack = (s : Scenario) → IsWellFormedScenario s → length (canon s) ≤ MAX_TEXT → IsScenario (canon s) s

-- A scenario of version 1 is written as version 1 writes it: without given events.
abbrev pub FirstVersionStays : Type 0
FirstVersionStays = (s : Scenario) → s.version ≡ One → canon s ≡ canon_one s

-- The start of a scenario: the network to which its given events lead, or the first of them that is stuck.
use Rattle.std.specs.Prelude.{◌≡◌, ◌⊎◌, ℕ, ◌+◌, List, [], length, take, slice_get, Some}
use Rattle.jc_rules.specs.declared.operation.Event.{Event}
use Rattle.jc_rules.specs.declared.version.Version.{Version}
use Rattle.jc_rules.specs.Refused.{Cause, IsStuckIn}
use Rattle.jc_rules.specs.Step.{Network, AfterIn}
use Rattle.jc_rules.specs.Syntax.{Cmd}
use Rattle.jc_scenario.specs.WellFormed.{Scenario}
use Rattle.jc_network.specs.declared.fault.Stuck.{Stuck}
use Rattle.jc_network.specs.declared.fault.Unstarted.{Unstarted}
use Rattle.jc_network.specs.declared.fault.Unstarted.TheVariants as U
use Rattle.jc_network.specs.NetworkHistory.{NetworkHistory, of_version}
use Rattle.jc_network.specs.Laws.{starts, IsReached}
use Rattle.jc_network.specs.Refines.{AreShort}
use Rattle.jc_network.specs.Steps.{stuck_for}

-- Names and scripts with which a network can begin: a script for each name, and the scripts are short.
pub record AreParts (names : List (List ℕ)) (scripts : List (List Cmd)) : Type 0 where
  pub each : length scripts ≡ length names
  pub short : AreShort scripts

-- The network is before the given events of a scenario with these parts: each replica is at the start of its script,
-- and no step was made.
pub record IsBeforeGiven (version : Version) (names : List (List ℕ)) (scripts : List (List Cmd))
    (c : NetworkHistory) : Type 0 where
  pub called : c.names ≡ names
  pub network : c.history.now ≡ of_version version (starts scripts)
  pub earlier : c.history.earlier ≡ []

-- before the given events: each replica with its script, in the scenario's version
abbrev pub before_given : Scenario → Network
before_given s = of_version s.version (starts s.scripts)

-- the given events have led there
abbrev pub IsStart : Scenario → Network → Type 0
IsStart s network = AfterIn (before_given s) s.given network

-- The network is at the start of the scenario, and no step was made.
pub record IsStarted (s : Scenario) (c : NetworkHistory) : Type 0 where
  pub names : c.names ≡ s.names
  pub start : IsStart s c.history.now
  pub earlier : c.history.earlier ≡ []

-- Of the events given in the network, the one of the number `at`, from 1, is the first that is stuck, for this cause.
pub record IsGivenStuck (first : Network) (given : List Event) (at : ℕ) (event : Event) (why : Cause) : Type 0 where
  pub before : ℕ
  pub network : Network
  pub at_is : at ≡ before + 1
  pub led : AfterIn first (take before given) network
  pub is : slice_get given before ≡ Some event
  pub stuck : IsStuckIn network event why

-- the first given event that is stuck, as a fault has it
pub record IsGivenFault (first : Network) (given : List Event) (at : ℕ) (s : Stuck) : Type 0 where
  pub event : Event
  pub why : Cause
  pub is : s ≡ stuck_for why event
  pub stuck : IsGivenStuck first given at event why

-- the first given event that is stuck and the scenario's names, or there was no memory
abbrev pub IsUnstartedFault : Scenario → Unstarted → Type 0
IsUnstartedFault s (U.Given names at stuck) =
    (names.items ≡ s.names) × IsGivenFault (before_given s) s.given at stuck
IsUnstartedFault s U.Memory = Unit {0}

-- ---- laws

-- A scenario has one start at most.
abbrev pub OneStart : Type 0
OneStart = (s : Scenario) (network other : Network) → IsStart s network → IsStart s other → network ≡ other

-- One given event is the first that is stuck, for one cause.
abbrev pub OneGivenStuck : Type 0
OneGivenStuck =
    (first : Network) (given : List Event) (at n : ℕ) (event other : Event) (why due : Cause)
    → IsGivenStuck first given at event why
    → IsGivenStuck first given n other due
    → (at ≡ n) × (event ≡ other) × (why ≡ due)

-- From a network that is reached from a start given events lead to another, or one of them is the first that is stuck,
-- and never both.
abbrev pub LedOrStuck : Type 0
LedOrStuck =
    (scripts : List (List Cmd)) (first : Network) (given : List Event)
    → IsReached scripts first.states
    → (((last : Network) × AfterIn first given last)
    ⊎ ((at : ℕ) × (event : Event) × (why : Cause) × IsGivenStuck first given at event why))
    × ((last : Network) (at : ℕ) (event : Event) (why : Cause)
    → AfterIn first given last
    → IsGivenStuck first given at event why
    → ⊥)

-- The laws of woven schedules, which `laws` states.
use Rattle.std.specs.Prelude.{◌≡◌, ℕ, List, Some, length, slice_get}
use Rattle.jc_rules.specs.declared.operation.Event.{Event}
use Rattle.jc_rules.specs.Step.{Network}
use Rattle.jc_network.specs.Given.{IsStart}
use Rattle.jc_scenario.specs.WellFormed.{Scenario, IsWellFormedScenario}
use Rattle.jc_choice.specs.declared.end.End.{End}
use Rattle.jc_choice.specs.declared.end.End.TheVariants.{LimitReached}
use Rattle.jc_choice.specs.Legal.{IsLegal, AllChosen}
use Rattle.jc_weave.specs.Weaving.{IsWoven}

-- A scenario, a seed and a limit have one schedule at most, and each replica one end.
abbrev pub OneSchedule : Type 0
OneSchedule =
    (s : Scenario) (seed limit : ℕ) (schedule other : List Event) (network last : Network) (ends others : List End)
    → IsWoven s seed limit schedule network ends
    → IsWoven s seed limit other last others
    → (schedule ≡ other) × (network ≡ last) × (ends ≡ others)

-- A woven schedule leads from the scenario's start to the network.
abbrev pub SchedulesLead : Type 0
SchedulesLead =
    (s : Scenario) (seed limit : ℕ) (schedule : List Event) (network : Network) (ends : List End)
    → IsWoven s seed limit schedule network ends
    → IsLegal schedule s network

-- Each event of a woven schedule is the one that its replica chooses at its place.
abbrev pub EachIsChosen : Type 0
EachIsChosen =
    (s : Scenario) (seed limit : ℕ) (schedule : List Event) (network : Network) (ends : List End)
    → IsWellFormedScenario s
    → IsWoven s seed limit schedule network ends
    → (p : ℕ)
    → AllChosen s p schedule

-- Where the end of a replica is the limit, the schedule has as many events as that.
abbrev pub LimitsAreMet : Type 0
LimitsAreMet =
    (s : Scenario) (seed limit : ℕ) (schedule : List Event) (network : Network) (ends : List End)
    → IsWoven s seed limit schedule network ends
    → (p : ℕ)
    → slice_get ends p ≡ Some LimitReached
    → length schedule ≡ limit

-- From the start of a scenario each seed and limit give a schedule.
abbrev pub EachSeedWeaves : Type 0
EachSeedWeaves =
    (s : Scenario) (start : Network) (seed limit : ℕ)
    → IsStart s start
    → (schedule : List Event) × (network : Network) × (ends : List End)
    × IsWoven s seed limit schedule network ends

-- What a run by threads reports: the contract of `run_threads`.
use Rattle.std.specs.Prelude.{◌≡◌, ◌≢◌, ◌⊎◌, ℕ, ◌<◌, ◌≤◌, List, [], length, sum, Some, slice_get, slice_index}
use mathlib.Core.List.{IsPrefix}
use Rattle.jc_rules.specs.declared.limits.TheConstants.{MAX_EVENTS, MAX_THREAD_EVENTS}
use Rattle.jc_rules.specs.declared.operation.Event.{Event}
use Rattle.jc_rules.specs.State.{State}
use Rattle.jc_rules.specs.Step.{Network}
use Rattle.jc_network.specs.declared.fault.Stuck.{Stuck}
use Rattle.jc_network.specs.Given.{before_given, IsGivenFault}
use Rattle.jc_printer.specs.Canon.{AreNamed}
use Rattle.jc_scenario.specs.WellFormed.{Scenario, IsWellFormedScenario}
use Rattle.jc_scenario.specs.Views.{scenario_view}
use Rattle.jc_choice.specs.declared.end.End.{End}
use Rattle.jc_choice.specs.declared.end.End.TheVariants as N
use Rattle.jc_runner.specs.declared.run.Report.{Report}
use Rattle.jc_runner.specs.declared.run.RunFault.{RunFault}
use Rattle.jc_runner.specs.declared.run.RunFault.TheVariants as R
use Rattle.jc_choice.specs.Laws.{with_schedule}
use Rattle.jc_choice.specs.Legal.{IsLegal, AllChosen, own_events}
use Rattle.jc_runner.specs.WorkerResult.{IsStuckAfter, ChoosesAfter}

-- no command of replica p is left in the network
pub record IsFinishedIn (network : Network) (p : ℕ) : Type 0 where
  pub state : State
  pub is_there : slice_get network.states p ≡ Some state
  pub none_left : state.left ≡ []

-- Replica p chooses an event that is stuck, after a prefix of the schedule that has all events of p, and less events
-- than a schedule may have. The event names replicas of the scenario.
pub record IsReportedStuck (s : Scenario) (p : ℕ) (schedule : List Event) (stuck : Stuck) : Type 0 where
  pub front : List Event
  pub begins : IsPrefix front schedule
  pub has_all : own_events front p ≡ own_events schedule p
  pub room : length front < MAX_EVENTS
  pub is_stuck : IsStuckAfter s p front stuck
  pub named : AreNamed is_stuck.event (length s.names)

-- Replica p chooses an event, for which memory was wanting, after a prefix of the schedule that has all events of p,
-- and less events than a schedule may have.
pub record IsHaltedIn (s : Scenario) (p : ℕ) (schedule : List Event) : Type 0 where
  pub front : List Event
  pub begins : IsPrefix front schedule
  pub has_all : own_events front p ≡ own_events schedule p
  pub room : length front < MAX_EVENTS
  pub chooses : ChoosesAfter s p front

-- What the end of replica p says of the schedule and of the network to which it leads. The replica needs one more take
-- than it made events to learn that its script has ended, its next event is stuck, or memory is wanting for it.
abbrev pub HasEnd : Scenario → ℕ → ℕ → List Event → Network → End → Type 0
HasEnd s p limit schedule network N.Finished = IsFinishedIn network p × (length (own_events schedule p) < limit)
HasEnd s p limit schedule network (N.StuckAt stuck) =
    IsReportedStuck s p schedule stuck × (length (own_events schedule p) < limit)
HasEnd s p limit schedule network N.LimitReached =
    (length (own_events schedule p) ≡ limit) ⊎ ((length schedule ≡ MAX_EVENTS) × ChoosesAfter s p schedule)
HasEnd s p limit schedule network N.NoMemory =
    IsHaltedIn s p schedule × (length (own_events schedule p) < limit)

-- what a report says of replica p: how many events it made, that it chose each, and how it ended
pub record HasWorked (s : Scenario) (limit : ℕ) (r : Report) (p : ℕ) : Type 0 where
  pub made : slice_index r.made.items p ≡ length (own_events r.schedule.items p)
  pub chosen : AllChosen s p r.schedule.items
  pub end : (d : End) → slice_get r.ends.items p ≡ Some d → HasEnd s p limit r.schedule.items r.net.history.now d

-- The schedule leads from the scenario's start to the network, from which nothing can be taken back. The scenario may
-- have it in place of its own, and what the report says of each replica is true.
pub record IsReport (s : Scenario) (limit : ℕ) (r : Report) : Type 0 where
  pub start : scenario_view r.start ≡ s
  pub legal : IsLegal r.schedule.items s r.net.history.now
  pub well_formed : IsWellFormedScenario (with_schedule (scenario_view r.start) r.schedule.items)
  pub named : r.net.names ≡ s.names
  pub begun : r.net.history.earlier ≡ []
  pub small : length r.schedule.items ≤ MAX_EVENTS
  pub each_made : length r.made.items ≡ length s.scripts
  pub each_end : length r.ends.items ≡ length s.scripts
  pub sum : sum r.made.items ≡ length r.schedule.items
  pub each : (p : ℕ) → p < length s.scripts → HasWorked s limit r p

-- memory was wanting, or a thread couldn't be made
abbrev pub IsLateFault : RunFault → Type 0
IsLateFault R.GateCount = ⊥
IsLateFault R.LimitTooLarge = ⊥
IsLateFault (R.Given at stuck) = ⊥
IsLateFault R.Memory = Unit {0}
IsLateFault (R.NoThread refused) = Unit {0}

-- when a run is refused, in order
abbrev pub IsReportedFault : RunFault → Scenario → ℕ → ℕ → Type 0
IsReportedFault R.GateCount s gates limit = gates ≢ length s.scripts
IsReportedFault R.LimitTooLarge s gates limit = (gates ≡ length s.scripts) × (MAX_THREAD_EVENTS < limit)
IsReportedFault (R.Given at stuck) s gates limit =
    (gates ≡ length s.scripts) × (limit ≤ MAX_THREAD_EVENTS) × IsGivenFault (before_given s) s.given at stuck
IsReportedFault R.Memory s gates limit = (gates ≡ length s.scripts) × (limit ≤ MAX_THREAD_EVENTS)
IsReportedFault (R.NoThread refused) s gates limit = (gates ≡ length s.scripts) × (limit ≤ MAX_THREAD_EVENTS)

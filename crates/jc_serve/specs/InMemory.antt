-- What the values in memory represent: the contracts of private functions cite it.
use Rattle.std.specs.Prelude.{◌≡◌, ℕ, ◌+◌, List, length, map, replicate, slice_get, Option, Some, None, option_map}
use Rattle.jc_rules.specs.declared.limits.TheConstants.{MAX_BREAKS}
use Rattle.jc_rules.specs.declared.operation.Event.{Event}
use Rattle.jc_rules.specs.declared.rule.Rule.{Rule}
use Rattle.jc_rules.specs.Step.{Network, StepIn}
use Rattle.jc_scenario.specs.Views.{scenario_view}
use Rattle.jc_scenario.specs.WellFormed.{Scenario, IsWellFormedScenario}
use Rattle.jc_network.specs.Given.{IsStart}
use Rattle.jc_journal.specs.EventLine.{IsBeforeLast}
use Rattle.jc_debug.specs.DebuggerState.{IsNetworkAt}
use Rattle.jc_debug.specs.Invariant.{Seen, start_of}
use Rattle.jc_serve.specs.declared.marks.Mark.{Mark as AnyMark}
use Rattle.jc_serve.specs.declared.marks.Mark.TheVariants as M
use Rattle.jc_serve.specs.declared.served.Served.{Served as AnyServed}
use Rattle.jc_serve.specs.Marks.{Mark, of_session, operation, place, Served, MarkNames}

abbrev pub mark_of : AnyMark → Mark
mark_of (M.Session b) = of_session b
mark_of (M.Operation i) = operation i
mark_of (M.Place p cursor) = place p cursor

abbrev pub marks_of : List (Option AnyMark) → List (Option Mark)
marks_of marks = map (option_map mark_of) marks

-- the state of a session with breakpoints
abbrev pub state_of : AnyServed → Served
state_of x = record {
  schedule = x.here.schedule;
  position = length x.here.traces;
  marks = marks_of x.marks.items;
}

-- The debugger is one of this scenario from this start.
pub record IsDebuggerOf (s : Scenario) (start : Network) (d : Seen) : Type 0 where
  pub names : d.net.names ≡ s.names
  pub is_start : start_of d ≡ start

-- A session on the scenario: both debuggers have its start and one schedule, and there is a place for each breakpoint.
pub record IsServing (s : Scenario) (start : Network) (x : AnyServed) : Type 0 where
  pub scenario : scenario_view x.scenario ≡ s
  pub formed : IsWellFormedScenario s
  pub starts : IsStart s start
  -- the breakpoints of a session are none of its own
  pub here : IsDebuggerOf s start x.here
  pub no_breaks : x.here.breaks ≡ replicate MAX_BREAKS None
  pub aside : IsDebuggerOf s start x.aside
  pub same : x.aside.schedule ≡ x.here.schedule
  -- the scenario with the schedule as it is now
  pub current : IsWellFormedScenario (record s { schedule = x.here.schedule })
  pub places : length x.marks.items ≡ MAX_BREAKS

-- the one debugger is where the event of the other's position was made
abbrev pub IsBehind : Seen → Seen → Type 0
IsBehind aside here =
    (aside.schedule ≡ here.schedule) × (start_of aside ≡ start_of here)
    × (length aside.traces + 1 ≡ length here.traces)

-- the breakpoint at place j names the debugger's position
abbrev pub NamesHere : Seen → List (Option AnyMark) → ℕ → Type 0
NamesHere here marks j =
    (b : Mark)
    × (slice_get (marks_of marks) j ≡ Some (Some b))
    × MarkNames (start_of here) here.schedule b (length here.traces)

-- The event led, as the last step, from the network of the debugger that is behind to that of the other.
pub record Led (aside here : Seen) (event : Event) : Type 0 where
  pub before : ℕ
  pub rows : List (Rule × ℕ)
  pub position : length here.traces ≡ before + 1
  pub is : slice_get here.schedule before ≡ Some event
  pub is_before : IsNetworkAt (start_of here) here.schedule before aside.net.history.now
  pub step : StepIn aside.net.history.now event here.net.history.now rows
  pub last : IsBeforeLast aside.net.history.now here.net.history

-- What moves of a session in memory come to, from one event to whole runs: the contracts of runs cite it.
use Rattle.std.specs.Prelude.{◌≡◌, ℕ, ◌+◌, ◌<◌, ◌≤◌, List, length, take, Option, Some, None}
use Rattle.jc_rules.specs.Step.{Network}
use Rattle.jc_debug.specs.declared.fault.RunEnd.{RunEnd}
use Rattle.jc_debug.specs.declared.fault.RunEnd.TheVariants as E
use Rattle.jc_debug.specs.DebuggerState.{IsNetworkAt, IsLeast, RunOutcome}
use Rattle.jc_debug.specs.Invariant.{Seen, IsDebugger, IsMoved, start_of}
use Rattle.jc_debug.specs.Moves.{IsEnd, IsToldAt}
use Rattle.jc_serve.specs.declared.marks.Mark.{Mark as AnyMark}
use Rattle.jc_serve.specs.declared.served.Served.{Served as AnyServed}
use Rattle.jc_serve.specs.InMemory.{NamesHere, state_of}
use Rattle.jc_serve.specs.Marks.{RunsTo, RunsBack}

-- The two debuggers have one start and one schedule, and there are few places for breakpoints.
pub record ArePaired (x : AnyServed) : Type 0 where
  pub start : start_of x.aside ≡ start_of x.here
  pub schedule : x.aside.schedule ≡ x.here.schedule

-- events lead to this position of the debugger's schedule
abbrev pub HasNetworkAt : Seen → ℕ → Type 0
HasNetworkAt d n = (network : Network) × IsNetworkAt (start_of d) d.schedule n network

-- The debugger beside has the start and the first n events of the one here, which has made the next one too.
pub record SharesFirst (aside here : Seen) (n : ℕ) : Type 0 where
  pub start : start_of aside ≡ start_of here
  pub first : take n aside.schedule ≡ take n here.schedule
  pub within : n ≤ length aside.schedule
  pub made : n < length here.traces

-- The session is at position n. Its scenario and breakpoints are as they were, and so are the names, starts and schedules
-- of its debuggers.
pub record IsMovedTo (old new : AnyServed) (n : ℕ) : Type 0 where
  pub scenario : new.scenario ≡ old.scenario
  pub marks : new.marks ≡ old.marks
  pub here : IsMoved old.here new.here n
  pub aside : IsMoved old.aside new.aside (length new.aside.traces)

-- the least place of a breakpoint that names the debugger's position, if one does
abbrev pub IsNamedBy : Seen → List (Option AnyMark) → Option ℕ → Type 0
IsNamedBy here marks (Some j) = IsLeast (NamesHere here marks) j
IsNamedBy here marks None = (j : ℕ) → NamesHere here marks j → ⊥

-- The next event was made, and no breakpoint names the position, or the least one that does ends the run; or the event
-- is stuck, and the position is the same.
abbrev pub GoesForward : AnyServed → AnyServed → Option RunEnd → Type 0
GoesForward old new None =
    IsMovedTo old new (length old.here.traces + 1) × IsNamedBy new.here new.marks.items None × IsDebugger new.here
GoesForward old new (Some (E.Break k)) =
    IsMovedTo old new (length old.here.traces + 1)
    × ((j : ℕ) × (k ≡ j + 1) × IsNamedBy new.here new.marks.items (Some j))
    × IsDebugger new.here
GoesForward old new (Some (E.Stuck s)) =
    IsMovedTo old new (length old.here.traces)
    × IsToldAt (start_of old.here) old.here.schedule (length old.here.traces) s
GoesForward old new (Some E.End) = ⊥

-- The run goes to a position, and ends so.
pub record RunsForward (old new : AnyServed) (end : RunEnd) : Type 0 where
  pub position : ℕ
  pub outcome : RunOutcome
  pub is_end : IsEnd end outcome
  pub moved : IsMovedTo old new position
  pub runs : RunsTo (start_of old.here) (state_of old) position outcome

-- The run back goes to a position, and ends so.
pub record RunsBackward (old new : AnyServed) (end : Option ℕ) : Type 0 where
  pub position : ℕ
  pub moved : IsMovedTo old new position
  pub runs : RunsBack (start_of old.here) (state_of old) position end

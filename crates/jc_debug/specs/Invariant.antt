-- What contracts see of a debugger, and what its type keeps: each network follows from the one before it.
use Rattle.std.specs.Prelude.{◌≡◌, ℕ, ◌+◌, ◌<◌, ◌≤◌, List, length, slice_get, slice_set, Option, Some}
use Rattle.jc_rules.specs.declared.limits.TheConstants.{MAX_BREAKS, MAX_EVENTS}
use Rattle.jc_rules.specs.declared.operation.Event.{Event}
use Rattle.jc_rules.specs.Step.{Network, StepIn}
use Rattle.jc_rules.specs.Trace.{Rows}
use Rattle.jc_rules.specs.History.{timeline, first_of}
use Rattle.jc_network.specs.NetworkHistory.{NetworkHistory}
use Rattle.jc_debug.specs.declared.breaks.Break.{Break}
use Rattle.jc_debug.specs.DebuggerState.{Session}

-- the network and those before it, the schedule, the traces of the events up to the position, the breakpoints
pub record Seen : Type 0 where
  pub net : NetworkHistory
  pub schedule : List Event
  pub traces : List Rows
  pub breaks : List (Option Break)

-- the network at position 0
abbrev pub start_of : Seen → Network
start_of d = first_of d.net.history

abbrev pub session_of : Seen → Session
session_of d = record { schedule = d.schedule; position = length d.traces; breaks = d.breaks }

-- the same with this breakpoint, or none, at place j
abbrev pub placed_in : Seen → ℕ → Option Break → Seen
placed_in d j b = record d { breaks = slice_set d.breaks j b }

-- the event after the first k leads from the network at position k to the next one, by its trace
pub record FollowsTrail (d : Seen) (k : ℕ) : Type 0 where
  pub before : Network
  pub after : Network
  pub event : Event
  pub rows : Rows
  pub is_before : slice_get (timeline d.net.history) k ≡ Some before
  pub is_after : slice_get (timeline d.net.history) (k + 1) ≡ Some after
  pub is_event : slice_get d.schedule k ≡ Some event
  pub is_trace : slice_get d.traces k ≡ Some rows
  pub step : StepIn before event after rows.rows

-- There are a network and a trace for each event up to the position, and each network follows from the one before.
pub record IsDebugger (d : Seen) : Type 0 where
  pub count : length d.net.history.earlier ≡ length d.traces
  pub within : length d.traces ≤ length d.schedule
  pub short : length d.schedule ≤ MAX_EVENTS
  pub places : length d.breaks ≡ MAX_BREAKS
  pub follows : (k : ℕ) → k < length d.traces → FollowsTrail d k

-- The position is n. Names, start, schedule and breakpoints are as they were.
pub record IsMoved (old new : Seen) (n : ℕ) : Type 0 where
  pub names : new.net.names ≡ old.net.names
  pub start : start_of new ≡ start_of old
  pub schedule : new.schedule ≡ old.schedule
  pub breaks : new.breaks ≡ old.breaks
  pub position : length new.traces ≡ n

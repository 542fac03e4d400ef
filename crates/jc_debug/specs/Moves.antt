-- What the contracts of a debugger's calls say: moves, runs, events of a caller's, and breakpoints.
use Rattle.std.specs.Prelude.{◌≡◌, ◌≢◌, ℕ, ◌+◌, ◌<◌, ◌≤◌, List, length, slice_get, Some, None, Result, Ok, Err}
use Rattle.jc_rules.specs.declared.limits.TheConstants.{MAX_EVENTS}
use Rattle.jc_rules.specs.declared.operation.Event.{Event}
use Rattle.jc_rules.specs.declared.refusal.Refusal.{Refusal}
use Rattle.jc_rules.specs.declared.refusal.Refusal.TheVariants as F
use Rattle.jc_rules.specs.declared.rule.Rule.{Rule}
use Rattle.jc_rules.specs.Refused.{Cause}
use Rattle.jc_rules.specs.Step.{Network, StepIn}
use Rattle.jc_network.specs.declared.fault.Stuck.{Stuck}
use Rattle.jc_network.specs.Steps.{IsStuckFor, stuck_for}
use Rattle.jc_debug.specs.declared.breaks.Break.{Break}
use Rattle.jc_debug.specs.declared.fault.DebugFault.{DebugFault}
use Rattle.jc_debug.specs.declared.fault.DebugFault.TheVariants as D
use Rattle.jc_debug.specs.declared.fault.Halt.{Halt}
use Rattle.jc_debug.specs.declared.fault.Halt.TheVariants as H
use Rattle.jc_debug.specs.declared.fault.RunEnd.{RunEnd}
use Rattle.jc_debug.specs.declared.fault.RunEnd.TheVariants as E
use Rattle.jc_debug.specs.DebuggerState.{IsNetworkAt, IsStuckAt, MakesEvent, IsFree, IsLeast, RunOutcome, breaks, sticks, ends, Runs, acted}
use Rattle.jc_debug.specs.Invariant.{Seen, IsMoved, start_of, session_of, placed_in}

-- ---- moves

-- The event after the first n is stuck, for the cause in s.
pub record IsToldAt (start : Network) (events : List Event) (n : ℕ) (s : Stuck) : Type 0 where
  pub why : Cause
  pub event : Event
  pub is : s ≡ stuck_for why event
  pub stuck : IsStuckAt start events n event why

-- A move forward to position `to` ended at an earlier one, n.
pub record MoveStopsAt (old new : Seen) (to n : ℕ) : Type 0 where
  pub forward : length old.traces ≤ n
  pub short : n < to
  pub moved : IsMoved old new n

-- Why the event at the position wasn't made. Want of memory has the position at which it was met.
abbrev pub IsNextHalted : Seen → Halt → Type 0
IsNextHalted d (H.Stuck s) = IsToldAt (start_of d) d.schedule (length d.traces) s
IsNextHalted d (H.Memory at) = at ≡ length d.traces

-- A move ended before an event that is stuck, or for which there was no memory. Then it is at the position at which it
-- met that.
abbrev pub IsHalted : Seen → Seen → ℕ → Halt → Type 0
IsHalted old new to (H.Stuck s) = (n : ℕ) × MoveStopsAt old new to n × IsToldAt (start_of old) old.schedule n s
IsHalted old new to (H.Memory at) = MoveStopsAt old new to at

-- Why a move forward wasn't made, or ended early. It is refused for this alone, and then nothing moved.
abbrev pub IsMoveFault : Refusal → Seen → Seen → ℕ → DebugFault → Type 0
IsMoveFault refusal old new to (D.Refused r) = (r ≡ refusal) × (new ≡ old)
IsMoveFault refusal old new to (D.Stuck s) = IsHalted old new to (H.Stuck s)
IsMoveFault refusal old new to D.Memory = (n : ℕ) × MoveStopsAt old new to n

abbrev pub halt_fault : Halt → DebugFault
halt_fault (H.Stuck s) = D.Stuck s
halt_fault (H.Memory at) = D.Memory

-- the rows are those of the trace of the event which led to the position
pub record IsTraceOf (d : Seen) (rows : List (Rule × ℕ)) : Type 0 where
  pub before : ℕ
  pub event : Event
  pub position : length d.traces ≡ before + 1
  pub makes : MakesEvent (start_of d) d.schedule before event rows

-- ---- runs

-- the end that a run returns; breakpoint j + 1 is at place j
abbrev pub IsEnd : RunEnd → RunOutcome → Type 0
IsEnd (E.Break k) outcome = (j : ℕ) × (k ≡ j + 1) × (outcome ≡ breaks j)
IsEnd (E.Stuck s) outcome = (why : Cause) × (event : Event) × (s ≡ stuck_for why event) × (outcome ≡ sticks event why)
IsEnd E.End outcome = outcome ≡ ends

-- a run that has ended
pub record RunMoves (old new : Seen) (end : RunEnd) : Type 0 where
  pub position : ℕ
  pub outcome : RunOutcome
  pub is_end : IsEnd end outcome
  pub moved : IsMoved old new position
  pub runs : Runs (start_of old) (session_of old) position outcome

-- A run that is refused at the schedule's end, or for which there was no memory: no breakpoint names a later position
-- up to where it stopped. A stuck event is no fault of it.
abbrev pub IsRunFault : Seen → Seen → DebugFault → Type 0
IsRunFault old new (D.Refused r) = (r ≡ F.AtEnd) × (new ≡ old)
IsRunFault old new (D.Stuck s) = ⊥
IsRunFault old new D.Memory =
    (n : ℕ)
    × MoveStopsAt old new (length old.schedule) n
    × ((m : ℕ) → length old.traces < m → m ≤ n → IsFree (start_of old) (session_of old) m)

-- ---- events of a caller's

-- The event is a step from the network at the position, in its version; the schedule is cut there, and ends with it.
pub record IsActed (old new : Seen) (event : Event) : Type 0 where
  pub rows : List (Rule × ℕ)
  pub is_at : IsNetworkAt (start_of old) old.schedule (length old.traces) old.net.history.now
  pub step : StepIn old.net.history.now event new.net.history.now rows
  pub names : new.net.names ≡ old.net.names
  pub start : start_of new ≡ start_of old
  pub session : session_of new ≡ acted (session_of old) event

-- The event is stuck at the position, for the cause in s.
pub record IsStuckHere (d : Seen) (event : Event) (s : Stuck) : Type 0 where
  pub is_at : IsNetworkAt (start_of d) d.schedule (length d.traces) d.net.history.now
  pub stuck : IsStuckFor d.net.history.now event s

abbrev pub IsActFault : Seen → Event → DebugFault → Type 0
IsActFault d event (D.Refused r) = (r ≡ F.TooManyEvents) × (length d.traces ≡ MAX_EVENTS)
IsActFault d event (D.Stuck s) = IsStuckHere d event s
IsActFault d event D.Memory = Unit {0}

-- ---- breakpoints

-- A breakpoint gets the least free place, and its number is one more; or it is refused since there is none.
abbrev pub IsSet : Seen → Seen → Break → Result ℕ DebugFault → Type 0
IsSet old new b (Ok k) =
    (j : ℕ)
    × (k ≡ j + 1)
    × IsLeast (λ i. slice_get old.breaks i ≡ Some None) j
    × (new ≡ placed_in old j (Some b))
IsSet old new b (Err fault) =
    (fault ≡ D.Refused F.TooManyBreaks)
    × ((j : ℕ) → slice_get old.breaks j ≢ Some None)
    × (new ≡ old)

-- There was a breakpoint k, and its place is free now.
pub record IsCleared (old new : Seen) (k : ℕ) : Type 0 where
  pub place : ℕ
  pub was : Break
  pub number : k ≡ place + 1
  pub is_there : slice_get old.breaks place ≡ Some (Some was)
  pub is_free : new ≡ placed_in old place None

-- there is no breakpoint k
abbrev pub IsNoBreak : Seen → ℕ → Type 0
IsNoBreak d k = (j : ℕ) (b : Break) → k ≡ j + 1 → slice_get d.breaks j ≢ Some (Some b)

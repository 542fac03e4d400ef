-- The breakpoints of `serve`, what they name, and how its runs end. Those that a session has too name what they name
-- there.
use Rattle.std.specs.Prelude.{◌≡◌, ℕ, ◌+◌, ◌≤◌, ◌<◌, true, List, length, replicate, slice_get, slice_set, Option, Some, None}
use Rattle.jc_rules.specs.declared.id.Id.{Id}
use Rattle.jc_rules.specs.declared.limits.TheConstants.{MAX_BREAKS}
use Rattle.jc_rules.specs.declared.operation.Cursor.{Cursor}
use Rattle.jc_rules.specs.declared.operation.Event.{Event}
use Rattle.jc_rules.specs.declared.operation.Op.{Op}
use Rattle.jc_rules.specs.declared.rule.Rule.{Rule}
use Rattle.jc_rules.specs.State.{State}
use Rattle.jc_rules.specs.Step.{Network, replica_of}
use Rattle.jc_debug.specs.declared.breaks.Break.{Break}
use Rattle.jc_debug.specs.DebuggerState.{Session, IsNetworkAt, MakesEvent, IsStuckAt, IsLeast, Names, RunOutcome, breaks, sticks, ends}
use Rattle.jc_effects.specs.Difference.{Differences, IsDifference}
use Rattle.jc_effects.specs.Places.{differs_at}
use Rattle.jc_journal.specs.EventLine.{event_op}

-- One that a session has too; that of an operation; that of a place of a replica's document.
pub data Mark : Type 0 where
  of_session : Break → Mark
  operation : Id → Mark
  place : ℕ → Cursor → Mark

-- The schedule, the position in it, and the places for breakpoints: breakpoint j + 1 is at place j.
pub record Served : Type 0 where
  pub schedule : List Event
  pub position : ℕ
  pub marks : List (Option Mark)

-- at the start of a schedule, without breakpoints
abbrev pub new_served : List Event → Served
new_served events = record { schedule = events; position = 0; marks = replicate MAX_BREAKS None }

-- at another position
abbrev pub moved_to : Served → ℕ → Served
moved_to A n = record A { position = n }

-- with this breakpoint, or none, at place j
abbrev pub with_mark : Served → ℕ → Option Mark → Served
with_mark A j b = record A { marks = slice_set A.marks j b }

-- ---- the session in it

-- a session at the same position of the same schedule; it has no breakpoints of its own
abbrev pub session_in : Served → Session
session_in A = record { schedule = A.schedule; position = A.position; breaks = replicate MAX_BREAKS None }

-- where a session's request has led, with the breakpoints as they were
abbrev pub after_session : Served → Session → Served
after_session A B = record A { schedule = B.schedule; position = B.position }

-- ---- what breakpoints name

-- The event that leads to a position behind 0.
pub record LedBy (start : Network) (events : List Event) (n : ℕ) : Type 0 where
  pub before : ℕ
  pub event : Event
  pub rows : List (Rule × ℕ)
  pub is : n ≡ before + 1
  pub makes : MakesEvent start events before event rows

-- the state of its replica before and after it
abbrev pub state_before : {start : Network} {events : List Event} {n : ℕ} → LedBy start events n → State
state_before to = to.makes.step.step.before

abbrev pub state_after : {start : Network} {events : List Event} {n : ℕ} → LedBy start events n → State
state_after to = to.makes.step.step.after

-- the event made or applied the operation
abbrev pub HasOp : {start : Network} {events : List Event} {n : ℕ} → LedBy start events n → Op → Type 0
HasOp to o = event_op to.event (state_before to) (state_after to) ≡ Some o

-- The event that led from the one state to the other has an operation, and it changed something at the cursor or below
-- it.
pub record Changes (event : Event) (A B : State) (c : Cursor) : Type 0 where
  pub op : Op
  pub has_op : event_op event A B ≡ Some op
  pub differences : Differences
  pub is_difference : IsDifference A.tree B.tree differences
  pub at : differs_at c.path c.last differences ≡ true

-- the breakpoint names the position
abbrev pub MarkNames : Network → List Event → Mark → ℕ → Type 0
MarkNames start events (of_session b) n = Names start events b n
MarkNames start events (operation i) n = (to : LedBy start events n) × (o : Op) × HasOp to o × (o.id ≡ i)
MarkNames start events (place p c) n =
    (to : LedBy start events n)
    × (replica_of to.event ≡ p)
    × Changes to.event (state_before to) (state_after to) c

-- the breakpoint at place j names the position
abbrev pub MarkNamesAt : Network → Served → ℕ → ℕ → Type 0
MarkNamesAt start A n j = (b : Mark) × (slice_get A.marks j ≡ Some (Some b)) × MarkNames start A.schedule b n

-- no breakpoint names the position
abbrev pub IsUnmarked : Network → Served → ℕ → Type 0
IsUnmarked start A n = (j : ℕ) → MarkNamesAt start A n j → ⊥

-- ---- runs

-- how a run can end at position n, as one of a session does
abbrev pub RunCanEnd : Network → Served → ℕ → RunOutcome → Type 0
RunCanEnd start A n (breaks j) = (A.position < n) × IsLeast (MarkNamesAt start A n) j
RunCanEnd start A n (sticks event why) =
    (A.position < n → IsUnmarked start A n) × IsStuckAt start A.schedule n event why
RunCanEnd start A n ends = (n ≡ length A.schedule) × IsUnmarked start A n

-- A run goes to the first position at which it can end.
pub record RunsTo (start : Network) (A : Served) (n : ℕ) (outcome : RunOutcome) : Type 0 where
  pub network : Network
  pub is_at : IsNetworkAt start A.schedule n network
  pub forward : A.position ≤ n
  pub quiet : (m : ℕ) → A.position < m → m < n → IsUnmarked start A m
  pub ends_so : RunCanEnd start A n outcome

-- A run back goes to the last position before its own and behind 0 that a breakpoint names, with the least such one; or,
-- where none names any, to position 0.
pub data RunsBack (start : Network) (A : Served) : ℕ → Option ℕ → Type 0 where
  to_mark : {n j : ℕ}
      → 0 < n
      → n < A.position
      → IsLeast (MarkNamesAt start A n) j
      → ((m : ℕ) → n < m → m < A.position → IsUnmarked start A m)
      → RunsBack start A n (Some j)
  to_start : ((m : ℕ) → 0 < m → m < A.position → IsUnmarked start A m) → RunsBack start A 0 None

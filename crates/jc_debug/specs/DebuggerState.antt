-- The state of a debugger, apart from code: where its schedule leads, what its breakpoints name, and how its runs end.
-- The contracts of `Debugger` cite it through specs/Moves; jc_session's definitions cite it directly.
use Rattle.std.specs.Prelude.{◌≡◌, ℕ, ◌+◌, ◌≤◌, ◌<◌, List, [], ◌∷◌, ◌++◌, length, take, replicate, slice_get, slice_set, Option, Some, None}
use Rattle.jc_rules.specs.declared.limits.TheConstants.{MAX_BREAKS}
use Rattle.jc_rules.specs.declared.operation.Event.{Event}
use Rattle.jc_rules.specs.declared.rule.Rule.{Rule}
use Rattle.jc_rules.specs.Step.{Network, StepIn, AfterIn, replica_of}
use Rattle.jc_rules.specs.Refused.{Cause, IsStuckIn}
use Rattle.jc_debug.specs.declared.breaks.Break.{Break}
use Rattle.jc_debug.specs.declared.breaks.Break.TheVariants as B

-- The schedule, the position in it, and the places for breakpoints: breakpoint j + 1 is at place j.
pub record Session : Type 0 where
  pub schedule : List Event
  pub position : ℕ
  pub breaks : List (Option Break)

-- at the start of a schedule, without breakpoints
abbrev pub new_session : List Event → Session
new_session events = record { schedule = events; position = 0; breaks = replicate MAX_BREAKS None }

-- at another position
abbrev pub moved_to : Session → ℕ → Session
moved_to A n = record A { position = n }

-- the schedule is cut at the position, and the event is appended
abbrev pub acted : Session → Event → Session
acted A event = record A { schedule = take A.position A.schedule ++ event ∷ []; position = A.position + 1 }

-- with this breakpoint, or none, at place j
abbrev pub with_break : Session → ℕ → Option Break → Session
with_break A j b = record A { breaks = slice_set A.breaks j b }

-- ---- along a schedule

-- the network after the first n events, of the version of the start
pub record IsNetworkAt (start : Network) (events : List Event) (n : ℕ) (network : Network) : Type 0 where
  pub within : n ≤ length events
  pub after : AfterIn start (take n events) network

-- The event after the first n is a step from the network to which they lead, by these rules, in its version.
pub record MakesEvent (start : Network) (events : List Event) (n : ℕ) (event : Event)
    (rows : List (Rule × ℕ)) : Type 0 where
  pub before : Network
  pub after : Network
  pub is_at : IsNetworkAt start events n before
  pub is : slice_get events n ≡ Some event
  pub step : StepIn before event after rows

-- The event after the first n is stuck in the network to which they lead, for this cause.
pub record IsStuckAt (start : Network) (events : List Event) (n : ℕ) (event : Event)
    (why : Cause) : Type 0 where
  pub before : Network
  pub is_at : IsNetworkAt start events n before
  pub is : slice_get events n ≡ Some event
  pub stuck : IsStuckIn before event why

-- an event that is stuck, and why
abbrev pub StuckEvent : Type 0
StuckEvent = Event × Cause

-- A move forward from a position to a later one arrives there, or stops at one before it, whose event is stuck.
pub data GoesTo (start : Network) (events : List Event) (from to : ℕ)
    : ℕ → Option StuckEvent → Type 0 where
  arrives : {network : Network} → IsNetworkAt start events to network → GoesTo start events from to to None
  stops : {n : ℕ} {event : Event} {why : Cause}
      → from ≤ n
      → n < to
      → IsStuckAt start events n event why
      → GoesTo start events from to n (Some (event, why))

-- ---- breakpoints

-- some row of the trace has the rule
abbrev pub HasRule : List (Rule × ℕ) → Rule → Type 0
HasRule rows rule = (k : ℕ) × (depth : ℕ) × (slice_get rows k ≡ Some (rule, depth))

-- The breakpoint names the position: by its number, or by the rules or the replica of the event that leads to it.
abbrev pub Names : Network → List Event → Break → ℕ → Type 0
Names start events (B.Position m) n = n ≡ m
Names start events (B.Rule rule) n =
    (m : ℕ) × (event : Event) × (rows : List (Rule × ℕ))
    × (n ≡ m + 1)
    × MakesEvent start events m event rows
    × HasRule rows rule
Names start events (B.Replica p) n =
    (m : ℕ) × (event : Event) × (n ≡ m + 1) × (slice_get events m ≡ Some event) × (replica_of event ≡ p)

-- the breakpoint at place j names the position
abbrev pub NamesAt : Network → Session → ℕ → ℕ → Type 0
NamesAt start A n j = (b : Break) × (slice_get A.breaks j ≡ Some (Some b)) × Names start A.schedule b n

-- no breakpoint names the position
abbrev pub IsFree : Network → Session → ℕ → Type 0
IsFree start A n = (j : ℕ) → NamesAt start A n j → ⊥

-- the number has the property, and no smaller one has it
abbrev pub IsLeast : (ℕ → Type 0) → ℕ → Type 0
IsLeast P j = P j × ((i : ℕ) → i < j → P i → ⊥)

-- ---- runs

-- A run ends where the breakpoint at a place names the position, before an event that is stuck, or at the schedule's
-- end.
pub data RunOutcome : Type 0 where
  breaks : ℕ → RunOutcome
  sticks : Event → Cause → RunOutcome
  ends : RunOutcome

-- How a run can end at position n. The least breakpoint that names n ends it where n is later than its first position.
-- A stuck event ends it where no breakpoint names n or it began there; the schedule's end, where none names n.
abbrev pub RunEndsAt : Network → Session → ℕ → RunOutcome → Type 0
RunEndsAt start A n (breaks j) = (A.position < n) × IsLeast (NamesAt start A n) j
RunEndsAt start A n (sticks event why) = (A.position < n → IsFree start A n) × IsStuckAt start A.schedule n event why
RunEndsAt start A n ends = (n ≡ length A.schedule) × IsFree start A n

-- A run goes to the first position at which it can end: no breakpoint names one on the way.
pub record Runs (start : Network) (A : Session) (n : ℕ) (outcome : RunOutcome) : Type 0 where
  pub network : Network
  pub is_at : IsNetworkAt start A.schedule n network
  pub forward : A.position ≤ n
  pub quiet : (m : ℕ) → A.position < m → m < n → IsFree start A m
  pub at : RunEndsAt start A n outcome

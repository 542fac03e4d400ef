-- Positions among all events of a scenario, the given ones first. How many events lead to a position is its count.
use Rattle.std.specs.Prelude.{◌≡◌, ℕ, ◌+◌, ◌-◌, ◌≤◌, nat_le, nat_lt, if◌then◌else◌, Bool, true, false, List, [], ◌++◌, length, take, slice_get, Option, Some, None, Result, Ok, Err}
use Rattle.jc_rules.specs.declared.operation.Event.{Event}
use Rattle.jc_rules.specs.declared.refusal.Refusal.{Refusal}
use Rattle.jc_rules.specs.declared.refusal.Refusal.TheVariants.{AtStart, PastSchedule}
use Rattle.jc_rules.specs.Refused.{Cause, IsStuckIn}
use Rattle.jc_rules.specs.State.{State}
use Rattle.jc_rules.specs.Step.{Network, AfterIn}
use Rattle.jc_scenario.specs.WellFormed.{Scenario}
use Rattle.jc_network.specs.Given.{before_given}
use Rattle.jc_requests.specs.Asked.{Position, after, before}
use Rattle.jc_replies.specs.ReplyTexts.{Background, stuck_member, move_answer}

-- the given events, and then those of the schedule as it is now
abbrev pub all_events : Scenario → List Event → List Event
all_events s schedule = s.given ++ schedule

-- the count of a position; or why there is no such position
abbrev pub count_of : Scenario → List Event → Position → Result ℕ Refusal
count_of s schedule (after n) = if nat_le n (length schedule) then Ok (length s.given + n) else Err PastSchedule
count_of s schedule (before k) = if nat_le k (length s.given) then Ok (length s.given - k) else Err AtStart

-- whether the event behind so many is a given one, and its number among those, or else in the schedule, from 1
abbrev pub number_behind : Scenario → ℕ → Bool × ℕ
number_behind s count =
    if nat_lt count (length s.given) then (true, count + 1) else (false, (count - length s.given) + 1)

-- so many of the events lead to the network
pub record IsAt (s : Scenario) (schedule : List Event) (count : ℕ) (network : Network) : Type 0 where
  pub within : count ≤ length (all_events s schedule)
  pub after : AfterIn (before_given s) (take count (all_events s schedule)) network

-- behind so many of the events the next one is stuck, for this cause
pub record StopsAt (s : Scenario) (schedule : List Event) (count : ℕ) (network : Network) (event : Event) (why : Cause)
    : Type 0 where
  pub is_at : IsAt s schedule count network
  pub is : slice_get (all_events s schedule) count ≡ Some event
  pub stuck : IsStuckIn network event why

-- ---- at a position

-- the count of a position, or of this one where none is asked for
abbrev pub count_at : Scenario → List Event → ℕ → Option Position → Result ℕ Refusal
count_at s schedule position None = Ok (length s.given + position)
count_at s schedule position (Some at) = count_of s schedule at

-- what an answer shows of a scenario with this schedule, beside the states of its replicas
abbrev pub background : Scenario → List Event → List State → Background
background s schedule states =
    record { names = s.names; given = s.given; schedule = schedule; states = states }

-- where an event on the way to a position is stuck: what a move there would be answered
abbrev pub unreached_answer : Scenario → List Event → ℕ → Network → Cause → Event → List ℕ
unreached_answer s schedule count network why event =
    let B = background s schedule network.states in
    move_answer B (count - length s.given) [] (stuck_member B (count - length s.given) why event)

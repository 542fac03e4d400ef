-- The result of a replica's thread: what it promises (`Works` of run.rt).
use Rattle.std.specs.Prelude.{◌≡◌, ◌⊎◌, ℕ, ◌+◌, ◌<◌, List, [], length, get_or, Option, None, Some, slice_get}
use Rattle.jc_rules.specs.declared.limits.TheConstants.{MAX_EVENTS}
use Rattle.jc_rules.specs.declared.operation.Event.{Event}
use Rattle.jc_rules.specs.State.{State}
use Rattle.jc_rules.specs.Step.{Network}
use Rattle.jc_lock.specs.Shows.{pass_number, pass_left, pass_origin, pass_seen, pass_mine}
use Rattle.jc_network.specs.declared.fault.Stuck.{Stuck}
use Rattle.jc_network.specs.Steps.{IsStuckFor}
use Rattle.jc_scenario.specs.WellFormed.{Scenario}
use Rattle.jc_runner.specs.declared.bench.Bench.{Bench}
use Rattle.jc_runner.specs.declared.bench.StepAnswer.{StepAnswer}
use Rattle.jc_runner.specs.declared.bench.StepAnswer.TheVariants as A
use Rattle.jc_choice.specs.declared.end.End.{End}
use Rattle.jc_choice.specs.declared.end.End.TheVariants as N
use Rattle.jc_runner.specs.declared.worker.Worked.{Worked}
use Rattle.jc_runner.specs.Benches.{ReplicaPass, IsPassAt, IsNewAt, bench_start}
use Rattle.jc_choice.specs.Phases.{last_event_of}
use Rattle.jc_choice.specs.Chosen.{chosen}
use Rattle.jc_choice.specs.Legal.{IsLegal, AllChosen, own_events}

-- after the history no command of replica p is left
pub record IsFinishedAfter (s : Scenario) (p : ℕ) (history : List Event) : Type 0 where
  pub network : Network
  pub state : State
  pub legal : IsLegal history s network
  pub is_there : slice_get network.states p ≡ Some state
  pub none_left : state.left ≡ []

-- after the history replica p chooses an event that is stuck
pub record IsStuckAfter (s : Scenario) (p : ℕ) (history : List Event) (stuck : Stuck) : Type 0 where
  pub network : Network
  pub event : Event
  pub legal : IsLegal history s network
  pub is_chosen : chosen network.states p (last_event_of (own_events history p)) ≡ Some event
  pub is_stuck : IsStuckFor network event stuck

-- after the history replica p chooses an event
pub record ChoosesAfter (s : Scenario) (p : ℕ) (history : List Event) : Type 0 where
  pub network : Network
  pub event : Event
  pub legal : IsLegal history s network
  pub is_chosen : chosen network.states p (last_event_of (own_events history p)) ≡ Some event

-- What each end says of the history that was seen, and of the pass's own events. A thread finds in a take of its own
-- that the script has ended, the next event is stuck, or memory is wanting for it. With 100,000 events no event is
-- stuck, and no memory is asked for.
abbrev pub EndsWith : Scenario → ℕ → ℕ → List Event → List Event → End → Type 0
EndsWith s p limit seen mine N.Finished = IsFinishedAfter s p seen × (length mine < limit)
EndsWith s p limit seen mine (N.StuckAt stuck) =
    IsStuckAfter s p seen stuck × (length mine < limit) × (length seen < MAX_EVENTS)
EndsWith s p limit seen mine N.LimitReached =
    (length mine ≡ limit) ⊎ ((length seen ≡ MAX_EVENTS) × ChoosesAfter s p seen)
EndsWith s p limit seen mine N.NoMemory =
    ChoosesAfter s p seen × (length mine < limit) × (length seen < MAX_EVENTS)

-- How a thread ends after a step; it goes on where the event was made.
abbrev pub end_of : StepAnswer → Option End
end_of (A.Made number trace) = None
end_of (A.Refused front stuck) = Some (N.StuckAt stuck)
end_of (A.Full front) = Some N.LimitReached
end_of A.Memory = Some N.NoMemory
end_of A.Spent = Some N.LimitReached

-- A thread takes no turn after the one in which it ended: each take but that one made an event. Where no take was left
-- each of them made one.
abbrev pub AreTakes : ℕ → ℕ → ℕ → Type 0
AreTakes limit left made = (left + made + 1 ≡ limit) ⊎ ((left ≡ 0) × (made ≡ limit))

-- The pass is back, and its events are those that its replica chose.
pub record IsWorkerResult (bench : Bench) (p limit : ℕ) (w : Worked) : Type 0 where
  pub of_bench : IsPassAt bench w.pass
  pub is_number : pass_number w.pass ≡ p
  pub origin : pass_origin w.pass ≡ Some (bench_start bench)
  pub own : own_events (pass_seen w.pass) p ≡ pass_mine w.pass
  pub made : length (pass_mine w.pass) ≡ w.made
  pub takes : AreTakes limit (pass_left w.pass) w.made
  pub chosen : AllChosen (bench_start bench) p (pass_seen w.pass)
  pub ends : EndsWith (bench_start bench) p limit (pass_seen w.pass) (pass_mine w.pass) w.end

-- each of the first `count` threads has worked
abbrev pub HaveWorked : Bench → ℕ → ℕ → List Worked → Type 0
HaveWorked bench limit count ws = (k : ℕ) (d : Worked) → k < count → IsWorkerResult bench k limit (get_or ws k d)

-- new passes of the bench, one for each replica and in order, and a gate for each
pub record CanStart (bench : Bench) (passes : List ReplicaPass) (count gates limit : ℕ) : Type 0 where
  pub new : (k : ℕ) (d : ReplicaPass) → k < count → IsNewAt bench limit (get_or passes k d)
  pub numbers : (k : ℕ) (d : ReplicaPass) → k < count → pass_number (get_or passes k d) ≡ k
  pub there : count ≡ length (bench_start bench).scripts
  pub gates_are : gates ≡ count

-- The laws of choices and of histories.
use Rattle.std.specs.Prelude.{◌≡◌, ℕ, ◌<◌, ◌≤◌, List, [], Some, None, length, slice_get}
use Rattle.jc_rules.specs.declared.limits.TheConstants.{MAX_EVENTS}
use Rattle.jc_rules.specs.declared.operation.Event.{Event}
use Rattle.jc_rules.specs.State.{State}
use Rattle.jc_rules.specs.Step.{Network, replica_of}
use Rattle.jc_scenario.specs.WellFormed.{Scenario, IsWellFormedScenario}
use Rattle.jc_choice.specs.declared.phase.Phase.{Phase}
use Rattle.jc_choice.specs.Chosen.{choice}
use Rattle.jc_choice.specs.Legal.{IsLegal}
use Rattle.jc_choice.specs.Phases.{phase_after}

-- What replica p chooses is an event of its own. Its phase after it depends on this event alone.
abbrev pub ChoicesAreOwn : Type 0
ChoicesAreOwn =
    (network : List State) (p : ℕ) (phase : Phase) (e : Event) (next : Phase)
    → choice network p phase ≡ Some (e, next)
    → (replica_of e ≡ p) × (next ≡ phase_after (Some e))

-- A replica of the network that chooses nothing has no command left.
abbrev pub NoChoiceIsTheEnd : Type 0
NoChoiceIsTheEnd =
    (network : List State) (p : ℕ) (phase : Phase)
    → p < length network
    → choice network p phase ≡ None
    → (A : State) × (slice_get network p ≡ Some A) × (A.left ≡ [])

-- the scenario with these events in place of its own
abbrev pub with_schedule : Scenario → List Event → Scenario
with_schedule s events = record s { schedule = events }

-- A scenario may have each schedule that leads from its start to a network and isn't too long.
abbrev pub SchedulesAreWellFormed : Type 0
SchedulesAreWellFormed =
    (s : Scenario) (schedule : List Event) (network : Network)
    → IsWellFormedScenario s
    → IsLegal schedule s network
    → length schedule ≤ MAX_EVENTS
    → IsWellFormedScenario (with_schedule s schedule)

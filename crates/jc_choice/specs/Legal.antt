-- Histories: what they lead to, the events of one replica, and that these were chosen. Most contracts here cite it.
use Rattle.std.specs.Prelude.{◌≡◌, ℕ, List, ◌∷◌, ◌++◌, Some, filter, nat_eq}
use Rattle.jc_rules.specs.declared.operation.Event.{Event}
use Rattle.jc_rules.specs.Step.{Network, AfterIn, replica_of}
use Rattle.jc_network.specs.Given.{IsStart}
use Rattle.jc_scenario.specs.WellFormed.{Scenario}
use Rattle.jc_choice.specs.Phases.{last_event_of}
use Rattle.jc_choice.specs.Chosen.{chosen}

-- the events lead, in their order, from the scenario's start to the network
pub record IsLegal (history : List Event) (s : Scenario) (network : Network) : Type 0 where
  pub start : Network
  pub is_start : IsStart s start
  pub after : AfterIn start history network

-- the events of replica p, in their order
abbrev pub own_events : List Event → ℕ → List Event
own_events history p = filter (λ e. nat_eq (replica_of e) p) history

-- after these events the event is the one that its replica chooses
pub record IsChosenAfter (s : Scenario) (before : List Event) (e : Event) : Type 0 where
  pub network : Network
  pub legal : IsLegal before s network
  pub is_chosen : chosen network.states (replica_of e) (last_event_of (own_events before (replica_of e))) ≡ Some e

-- each event of replica p was chosen at its place
abbrev pub AllChosen : Scenario → ℕ → List Event → Type 0
AllChosen s p history =
    (before : List Event) (e : Event) (later : List Event)
    → history ≡ before ++ e ∷ later
    → replica_of e ≡ p
    → IsChosenAfter s before e

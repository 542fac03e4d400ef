-- About specs/Legal and Chosen: what is chosen in the network to which a history leads.
use Rattle.std.proofs.Common.{◌≡◌, ℕ, List, ◌++◌, sym, ◌∙◌, ap, length, Some}
use Rattle.std.proofs.lemmas.List.{length-map}
use Rattle.jc_rules.specs.declared.operation.Event.{Event}
use Rattle.jc_rules.specs.State.{start}
use Rattle.jc_rules.specs.Step.{Network, replica_of}
use Rattle.jc_scenario.specs.WellFormed.{Scenario}
use Rattle.jc_network.specs.Laws.{starts}
use Rattle.jc_network.proofs.AfterLemmas.{after_count}
use Rattle.jc_choice.specs.declared.phase.Phase.{Phase}
use Rattle.jc_choice.specs.Phases.{last_event_of, phase_after}
use Rattle.jc_choice.specs.Chosen.{choice, event_in}
use Rattle.jc_choice.specs.Legal.{IsLegal, own_events, IsChosenAfter}
use Rattle.jc_choice.proofs.LegalGrowsLemmas.{legal_states}
use Rattle.jc_choice.proofs.ChosenLemmas.{choice_is}

-- the network in hand has the scenario's replicas
pub as_many : (s : Scenario) (history : List Event) (N : Network) → IsLegal history s N → length N.states ≡ length s.scripts
as_many s history N legal = after_count (starts s.scripts) (s.given ++ history) N.states (legal_states s history N legal) ∙ length-map s.scripts start

-- the event in hand is the chosen one
pub chosen_now : (s : Scenario) (p : ℕ) (history mine : List Event) (N : Network) (phase next : Phase) (e : Event)
    → IsLegal history s N → own_events history p ≡ mine → phase ≡ phase_after (last_event_of mine) → choice N.states p phase ≡ Some (e, next) → IsChosenAfter s history e
chosen_now s p history mine N phase next e legal own at is =
    let of : replica_of e ≡ p = (choice_is N.states p phase e next is).0 in
    let same : phase_after (last_event_of (own_events history (replica_of e))) ≡ phase = ap (λ q. phase_after (last_event_of (own_events history q))) of ∙ (ap (λ l. phase_after (last_event_of l)) own ∙ sym at) in
    record {
      network = N;
      legal = legal;
      is_chosen = (λ i. event_in (choice N.states (of i) (same i))) ∙ ap event_in is;
    }

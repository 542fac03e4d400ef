-- About specs/WorkerResult: what a replica's thread knows between two turns.
use Rattle.std.proofs.Common.{arith, ◌≡◌, ℕ, ◌<◌, ◌+◌, List, [], ◌∷◌, ◌++◌, sym, ◌∙◌, ap, subst, length, Option, Some, None, inr}
use mathlib.Core.List.{IsPrefix}
use Rattle.jc_rules.specs.declared.operation.Event.{Event}
use Rattle.jc_rules.specs.Step.{Network}
use Rattle.jc_printer.specs.Canon.{AreNamed}
use Rattle.jc_scenario.specs.WellFormed.{Scenario, IsWellFormedScenario}
use Rattle.jc_network.specs.declared.fault.Stuck.{Stuck}
use Rattle.jc_network.specs.NetworkHistory.{NetworkHistory}
use Rattle.jc_choice.specs.declared.phase.Phase.{Phase}
use Rattle.std.proofs.lemmas.Option.{same_Some}
use Rattle.jc_runner.specs.Recording.{Recording, recording, IsRecorded}
use Rattle.jc_network.specs.Laws.{starts}
use Rattle.jc_network.specs.Steps.{IsStuckFor}
use Rattle.jc_network.specs.RunInvariant.{IsWell}
use Rattle.jc_network.proofs.RunInvariantStartLemmas.{start_well, after_well}
use Rattle.jc_choice.specs.Phases.{last_event_of, phase_after}
use Rattle.jc_choice.specs.Chosen.{choice, event_in}
use Rattle.jc_choice.specs.Legal.{IsLegal, own_events, AllChosen}
use Rattle.jc_lock.specs.Shows.{pass_number, pass_left, pass_origin, pass_seen, pass_mine}
use Rattle.jc_runner.specs.Benches.{IsPassAt, bench_start}
use Rattle.jc_runner.specs.declared.bench.Bench.{Bench}
use Rattle.jc_runner.specs.declared.bench.StepAnswer.{StepAnswer}
use Rattle.jc_runner.specs.declared.bench.StepAnswer.TheVariants as A
use Rattle.jc_choice.specs.declared.end.End.{End}
use Rattle.jc_choice.specs.declared.end.End.TheVariants as Ends
use Rattle.jc_runner.specs.declared.worker.Worked.{Worked}
use Rattle.jc_runner.specs.Answers.{IsStepAnswered, IsSpent, seen_after}
use Rattle.jc_runner.specs.WorkerResult.{IsFinishedAfter, IsStuckAfter, ChoosesAfter, EndsWith, AreTakes, IsWorkerResult, end_of}
use Rattle.jc_choice.proofs.LegalGrowsLemmas.{legal_states, one_legal, chosen_longer, last_more}
use Rattle.jc_choice.proofs.ChosenLemmas.{choice_is, none_chosen}
use Rattle.jc_choice.proofs.ChosenNowLemmas.{as_many}
use Rattle.jc_choice.proofs.ChosenNamesLemmas.{chosen_named, event_named}

-- what is known of the own events holds in the longer history too
pub still_chosen : (s : Scenario) (p : ℕ) (seen longer mine : List Event) → IsPrefix seen longer → own_events seen p ≡ mine → own_events longer p ≡ mine → AllChosen s p seen → AllChosen s p longer
still_chosen s p seen longer mine begins before after all =
    subst (AllChosen s p) begins.1 (chosen_longer s p seen begins.0 (ap (λ l. own_events l p) begins.1 ∙ (after ∙ sym before)) all)

pub is_next : (p : ℕ) (mine : List Event) (N : Network) (phase next : Phase) (e : Event) → choice N.states p phase ≡ Some (e, next) → next ≡ phase_after (last_event_of (mine ++ e ∷ []))
is_next p mine N phase next e is = (choice_is N.states p phase e next is).1 ∙ ap phase_after (sym (last_more mine e))

pub is_finished : (s : Scenario) (p : ℕ) (history : List Event) (N : Network) (phase : Phase) → IsLegal history s N → p < length s.scripts → choice N.states p phase ≡ None → IsFinishedAfter s p history
is_finished s p history N phase legal low is =
    let at = none_chosen N.states p phase (omega (arith, as_many s history N legal, low)) is in
    record { network = N; state = at.0; legal = legal; is_there = at.1; none_left = at.2 }

pub chooses_after : (s : Scenario) (p : ℕ) (history mine : List Event) (N : Network) (phase next : Phase) (e : Event)
    → IsLegal history s N → own_events history p ≡ mine → phase ≡ phase_after (last_event_of mine) → choice N.states p phase ≡ Some (e, next) → ChoosesAfter s p history
chooses_after s p history mine N phase next e legal own at is = record {
  network = N;
  event = e;
  legal = legal;
  is_chosen = (λ i. event_in (choice N.states p (phase_after (last_event_of (own i))))) ∙ (ap (λ ph. event_in (choice N.states p ph)) (sym at) ∙ ap event_in is);
}

pub is_stuck_after : (s : Scenario) (p : ℕ) (history mine : List Event) (N : Network) (phase next : Phase) (e : Event) (M : Network) (stuck : Stuck)
    → IsLegal history s N → own_events history p ≡ mine → phase ≡ phase_after (last_event_of mine) → choice N.states p phase ≡ Some (e, next) → IsLegal history s M → IsStuckFor M e stuck → IsStuckAfter s p history stuck
is_stuck_after s p history mine N phase next e M stuck legal own at is other is_stuck =
    let same : M ≡ N = one_legal s history M N other legal in
    record {
      network = N;
      event = e;
      legal = legal;
      is_chosen = (λ i. event_in (choice N.states p (phase_after (last_event_of (own i))))) ∙ (ap (λ ph. event_in (choice N.states p ph)) (sym at) ∙ ap event_in is);
      is_stuck = subst (λ K. IsStuckFor K e stuck) same is_stuck;
    }

-- a stuck event that a replica chose names replicas of the scenario
pub stuck_named : (s : Scenario) (p : ℕ) (history : List Event) (stuck : Stuck) → IsWellFormedScenario s → p < length s.scripts → (t : IsStuckAfter s p history stuck) → AreNamed t.event (length s.names)
stuck_named s p history stuck well low t =
    let count : length t.network.states ≡ length s.scripts = as_many s history t.network t.legal in
    let kept : IsWell t.network.states = after_well (starts s.scripts) (s.given ++ history) t.network.states (start_well s.scripts) (legal_states s history t.network t.legal) in
    let phase = phase_after (last_event_of (own_events history p)) in
    let named = chosen_named t.network.states p phase kept (omega (arith, low, count)) in
    subst (AreNamed t.event) (count ∙ well.each) (event_named (length t.network.states) (choice t.network.states p phase) t.event named t.is_chosen)

-- a turn in which nothing was made ends the work
pub ended : (bench : Bench) (p limit : ℕ) (w : Worked) (history mine : List Event)
    → IsPassAt bench w.pass → pass_number w.pass ≡ p → pass_origin w.pass ≡ Some (bench_start bench) → own_events (pass_seen w.pass) (pass_number w.pass) ≡ pass_mine w.pass
    → pass_seen w.pass ≡ history → own_events history p ≡ mine → length mine ≡ w.made → AreTakes limit (pass_left w.pass) w.made → AllChosen (bench_start bench) p history → EndsWith (bench_start bench) p limit history mine w.end → IsWorkerResult bench p limit w
ended bench p limit w history mine lock number origin own seen owned made takes all ends =
    let own' : own_events (pass_seen w.pass) p ≡ pass_mine w.pass = ap (own_events (pass_seen w.pass)) (sym number) ∙ own in
    let same : pass_mine w.pass ≡ mine = sym own' ∙ (ap (λ l. own_events l p) seen ∙ owned) in
    record {
      of_bench = lock;
      is_number = number;
      origin = origin;
      own = own';
      made = ap length same ∙ made;
      takes = takes;
      chosen = subst (AllChosen (bench_start bench) p) (sym seen) all;
      ends = subst (λ l. EndsWith (bench_start bench) p limit l (pass_mine w.pass) w.end) (sym seen) (subst (λ l. EndsWith (bench_start bench) p limit history l w.end) (sym same) ends);
    }

-- a thread goes on where the event was made
pub goes_on : (s : Scenario) (e : Event) (seen mine new_mine history : List Event) (left new_left : ℕ) (a : StepAnswer)
    → end_of a ≡ None → IsStepAnswered s e seen mine new_mine left new_left a → seen ≡ seen_after history e a
    → (seen ≡ history ++ e ∷ []) × (new_mine ≡ mine ++ e ∷ []) × (new_left + 1 ≡ left)
goes_on s e seen mine new_mine history left new_left (A.Made number trace) none h is = (is, h.0.grew, h.1)
goes_on s e seen mine new_mine history left new_left _ none h is = cc

-- what the result by which a thread ends says of the history, where the pass's own events are below the limit
module _ (s : Scenario) (p limit : ℕ) (history mine : List Event) (N : Network) (phase next : Phase) (e : Event)
    (legal : IsLegal history s N) (own : own_events history p ≡ mine) (at : phase ≡ phase_after (last_event_of mine)) (is : choice N.states p phase ≡ Some (e, next)) (low : length mine < limit)
    (seen old_mine new_mine : List Event) (left new_left : ℕ) where
  pub ends_by : (a : StepAnswer) (end : End) → end_of a ≡ Some end → (IsSpent a → ⊥) → IsStepAnswered s e seen old_mine new_mine left new_left a → seen ≡ seen_after history e a
      → (seen ≡ history) × EndsWith s p limit history mine end
  ends_by (A.Made number trace) end some waited h same = cc
  ends_by (A.Refused front stuck) end some waited h same =
      let other : IsLegal history s h.0.network = subst (λ l. IsLegal l s h.0.network) same h.0.legal in
      let stuck_after = is_stuck_after s p history mine N phase next e h.0.network stuck legal own at is other h.0.is_stuck in
      (same, subst (EndsWith s p limit history mine) (same_Some (Ends.StuckAt stuck) end some) (stuck_after, low, subst (λ (l : List Event). length l < 100000) same h.0.room))
  ends_by (A.Full front) end some waited h same =
      (same, subst (EndsWith s p limit history mine) (same_Some Ends.LimitReached end some) (inr (ap length (sym same) ∙ h.1, chooses_after s p history mine N phase next e legal own at is)))
  ends_by A.Memory end some waited h same =
      (same, subst (EndsWith s p limit history mine) (same_Some Ends.NoMemory end some) (chooses_after s p history mine N phase next e legal own at is, low, subst (λ (l : List Event). length l < 100000) same h.0))
  ends_by A.Spent end some waited h same = absurd (waited tt)

pub same_start : (r : Recording) (s : Scenario) (o : Option Scenario) → o ≡ Some r.start → o ≡ Some s → r.start ≡ s
same_start r s o a b = same_Some r.start s (sym a ∙ b)

-- the value in a turn is legal from the bench's start
pub in_hand : (s : Scenario) (net : NetworkHistory) (items : List Event) (start : Scenario) (r : Recording) → recording net items start ≡ r → IsRecorded net items start → r.start ≡ s → IsLegal r.schedule s (net.history.now)
in_hand s net items start r whole kept same =
    subst (λ h. IsLegal h s (net.history.now)) (ap (λ x. x.schedule) whole) (subst (λ t. IsLegal items t (net.history.now)) (ap (λ x. x.start) whole ∙ same) kept.legal)

-- About specs/Weaving: the phases of a loom are those after the replicas' last events, so each event is chosen.
use Rattle.std.proofs.Common.{arith, rules, ◌≡◌, ℕ, zero, suc, ◌<◌, List, [], ◌∷◌, ◌++◌, Bool, true, false, nat_eq, refl, sym, ◌∙◌, ap, subst, length, slice_set, slice_get, append_assoc, append-nil, Option, Some, None}
use Rattle.std.proofs.lemmas.Option.{none-some, slice_get_within}
use Rattle.jc_rules.specs.declared.operation.Event.{Event}
use Rattle.jc_rules.specs.State.{State}
use Rattle.jc_rules.specs.Step.{Network, replica_of}
use Rattle.jc_network.proofs.AfterLemmas.{after_one_more}
use Rattle.jc_scenario.specs.WellFormed.{Scenario, IsWellFormedScenario}
use Rattle.jc_choice.specs.declared.phase.Phase.{Phase}
use Rattle.jc_choice.specs.declared.end.End.{End}
use Rattle.jc_choice.specs.Phases.{last_event_of, phase_after}
use Rattle.jc_choice.specs.Chosen.{choice, chosen_in}
use Rattle.jc_choice.specs.Legal.{IsLegal, own_events, IsChosenAfter, AllChosen}
use Rattle.jc_choice.proofs.ChosenLemmas.{choice_is}
use Rattle.jc_choice.proofs.LegalGrowsLemmas.{last_more, own_both, chosen_more, chosen_none}
use Rattle.jc_choice.proofs.ChosenNowLemmas.{as_many, chosen_now}
use Rattle.jc_weave.specs.Looms.{Loom, LoomTurn, makes, finishes, gets_stuck, WeavesTo, phase_at, drawn_replica}
use Rattle.jc_weave.specs.Weaving.{first_loom, made_events, all_start, IsWoven}

put_same : (xs : List Phase) (d : ℕ) (y : Phase) → d < length xs → phase_at (slice_set xs d y) d ≡ y
put_same [] d y h = absurd (omega (arith, h))
put_same (x ∷ xs) zero y h = refl
put_same (x ∷ xs) (suc d) y h = put_same xs d y (omega (arith, h))

put_other : (xs : List Phase) (d q : ℕ) (y : Phase) → (d ≡ q → ⊥) → phase_at (slice_set xs d y) q ≡ phase_at xs q
put_other [] d q y h = refl
put_other (x ∷ xs) zero zero y h = absurd (h refl)
put_other (x ∷ xs) zero (suc q) y h = refl
put_other (x ∷ xs) (suc d) zero y h = refl
put_other (x ∷ xs) (suc d) (suc q) y h = put_other xs d q y (λ e. h (ap suc e))

put_long : (xs : List Phase) (d : ℕ) (y : Phase) → length (slice_set xs d y) ≡ length xs
put_long [] d y = refl
put_long (x ∷ xs) zero y = refl
put_long (x ∷ xs) (suc d) y = ap suc (put_long xs d y)

pub same_number : (a b : ℕ) → nat_eq a b ≡ true → a ≡ b
same_number a b h = search (rules, h)

other_number : (a b : ℕ) → nat_eq a b ≡ false → a ≡ b → ⊥
other_number a b h e = search (rules, h, e)

-- each phase is that after the replica's last event
abbrev PhasesAre : List Event → List Phase → Type 0
PhasesAre before phases = (q : ℕ) → q < length phases → phase_at phases q ≡ phase_after (last_event_of (own_events before q))

one_more : (before : List Event) (phases : List Phase) (d : ℕ) (e : Event) (next : Phase) → PhasesAre before phases → d < length phases → replica_of e ≡ d → next ≡ phase_after (Some e) → PhasesAre (before ++ e ∷ []) (slice_set phases d next)
one_more before phases d e next are low of is q inside = go (nat_eq (replica_of e) q) refl
  where
    go : (b : Bool) → nat_eq (replica_of e) q ≡ b → phase_at (slice_set phases d next) q ≡ phase_after (last_event_of (own_events (before ++ e ∷ []) q))
    go true t =
        let one : own_events (e ∷ []) q ≡ e ∷ [] = rw t refl in
        let here : d ≡ q = sym of ∙ same_number (replica_of e) q t in
        ap (phase_at (slice_set phases d next)) (sym here) ∙ (put_same phases d next low ∙ (is ∙ ap phase_after (sym (last_more (own_events before q) e) ∙ ap last_event_of (sym (own_both q before (e ∷ []) ∙ ap (λ l. own_events before q ++ l) one)))))
    go false t =
        let none : own_events (e ∷ []) q ≡ [] = rw t refl in
        let far : d ≡ q → ⊥ = λ same. other_number (replica_of e) q t (of ∙ same) in
        let long : length (slice_set phases d next) ≡ length phases = put_long phases d next in
        put_other phases d q next far ∙ (are q (omega (arith, inside, long)) ∙ ap (λ l. phase_after (last_event_of l)) (sym (own_both q before (e ∷ []) ∙ (ap (λ l. own_events before q ++ l) none ∙ append-nil (own_events before q)))))

-- who chooses is there
pub chooser : (states : List State) (d : ℕ) (phase next : Phase) (e : Event) → choice states d phase ≡ Some (e, next) → d < length states
chooser states d phase next e is = go (slice_get states d) refl is
  where
    go : (o : Option State) → slice_get states d ≡ o → chosen_in (length states) d phase o ≡ Some (e, next) → d < length states
    go None at h = absurd (none-some _ h)
    go (Some A) at h = slice_get_within states d A at

along : (s : Scenario) (before : List Event) (L M : Loom) (ts : List LoomTurn) → IsLegal before s L.network → length L.phases ≡ length s.scripts → PhasesAre before L.phases → ((p : ℕ) → AllChosen s p before) → WeavesTo L ts M → (p : ℕ) → AllChosen s p (before ++ made_events ts)
along s before L M [] legal each are all w p = subst (AllChosen s p) (sym (append-nil before)) (all p)
along s before L M (makes e ∷ ts) legal each are all w p =
    let K = w.0 in
    let m = w.1.does in
    let d = drawn_replica L in
    let states = L.network.states in
    let own = choice_is states d (phase_at L.phases d) e m.next m.is_chosen in
    let there = chooser states d (phase_at L.phases d) m.next e m.is_chosen in
    let low : d < length L.phases = omega (arith, there, as_many s before L.network legal, each) in
    let now : IsChosenAfter s before e = chosen_now s d before (own_events before d) L.network (phase_at L.phases d) m.next e legal refl (are d low) m.is_chosen in
    let next_legal : IsLegal (before ++ e ∷ []) s K.network = record { start = legal.start; is_start = legal.is_start; after = after_one_more legal.start before L.network e K.network m.rows legal.after m.step } in
    let long : length K.phases ≡ length s.scripts = ap length m.phases ∙ (put_long L.phases d m.next ∙ each) in
    let next_are : PhasesAre (before ++ e ∷ []) K.phases = subst (PhasesAre (before ++ e ∷ [])) (sym m.phases) (one_more before L.phases d e m.next are low own.0 own.1) in
    let rest = along s (before ++ e ∷ []) K M ts next_legal long next_are (λ q. chosen_more s q before e (all q) now) w.2 p in
    let same : (before ++ e ∷ []) ++ made_events ts ≡ before ++ e ∷ made_events ts = search (rules, append_assoc) in
    subst (AllChosen s p) same rest
along s before L M (finishes p ∷ ts) legal each are all w q =
    let m = w.1.does.2 in
    along s before w.0 M ts (subst (IsLegal before s) (sym m.network) legal) (ap length m.phases ∙ each) (subst (PhasesAre before) (sym m.phases) are) all w.2 q
along s before L M (gets_stuck e why ∷ ts) legal each are all w q =
    let m = w.1.does.1 in
    along s before w.0 M ts (subst (IsLegal before s) (sym m.network) legal) (ap length m.phases ∙ each) (subst (PhasesAre before) (sym m.phases) are) all w.2 q

start_long : (names : List (List ℕ)) → length (all_start names) ≡ length names
start_long [] = refl
start_long (n ∷ ns) = ap suc (start_long ns)

start_phases : (names : List (List ℕ)) (q : ℕ) → phase_at (all_start names) q ≡ phase_after None
start_phases [] q = refl
start_phases (n ∷ ns) zero = refl
start_phases (n ∷ ns) (suc q) = start_phases ns q

pub each_is_chosen : (s : Scenario) (seed limit : ℕ) (schedule : List Event) (network : Network) (ends : List End) → IsWellFormedScenario s → IsWoven s seed limit schedule network ends → (p : ℕ) → AllChosen s p schedule
each_is_chosen s seed limit schedule network ends formed x p =
    let a = x.after in
    subst (AllChosen s p) (sym a.events)
    (along s [] (first_loom s a.start seed limit) x.last a.turns (record { start = a.start; is_start = a.is_start; after = refl }) (start_long s.names ∙ sym formed.each) (λ q low. start_phases s.names q) (λ q. chosen_none s q) a.weaves p)

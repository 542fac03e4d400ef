-- About specs/Weaving: a replica whose end is the limit hadn't left, so the limit was met.
use Rattle.std.proofs.Common.{arith, rules, ◌≡◌, ◌≢◌, ◌⊎◌, ◌∙◌, ℕ, zero, suc, ◌+◌, List, [], ◌∷◌, Bool, true, false, cond, nat_eq, Option, Some, None, inl, inr, refl, sym, ap, subst, length, map, find, slice_get}
use Rattle.std.proofs.lemmas.Option.{same_Some, none-some}
use Rattle.jc_rules.specs.declared.operation.Event.{Event}
use Rattle.jc_rules.specs.State.{State}
use Rattle.jc_rules.specs.Step.{Network, replica_of}
use Rattle.jc_rules.specs.Syntax.{Cmd}
use Rattle.jc_rules.proofs.VersionLemmas.{after_states}
use Rattle.jc_network.specs.declared.fault.Stuck.{Stuck}
use Rattle.jc_network.specs.Steps.{stuck_for}
use Rattle.jc_scenario.specs.WellFormed.{Scenario}
use Rattle.jc_choice.specs.declared.phase.Phase.{Phase}
use Rattle.jc_choice.specs.declared.end.End.{End}
use Rattle.jc_choice.specs.declared.end.End.TheVariants as N
use Rattle.jc_choice.specs.Chosen.{choice, chosen_by, chosen_in}
use Rattle.jc_choice.specs.Legal.{own_events}
use Rattle.jc_choice.proofs.ChosenLemmas.{choice_is}
use Rattle.jc_choice.proofs.LegalGrowsLemmas.{untouched}
use Rattle.jc_weave.specs.Looms.{Loom, LoomTurn, makes, finishes, gets_stuck, WeavesTo, phase_at, drawn_replica, without_replica}
use Rattle.jc_weave.specs.Weaving.{first_loom, made_events, stuck_events, numbers_from, end_of_left, end_of_state, end_or, end_in, ends_in, IsWoven}
use Rattle.jc_weave.proofs.LoomsLemmas.{In, drawn_live}
use Rattle.jc_weave.proofs.WeavingLemmas.{weaves_after, weaves_count}
use Rattle.jc_weave.proofs.WeavingChosenLemmas.{same_number}

-- ---- who is left

still_in : (p q : ℕ) (xs : List ℕ) → nat_eq q p ≡ false → In p xs → In p (without_replica q xs)
still_in p q [] other h = h
still_in p q (x ∷ xs) other h = go (nat_eq x q) refl h (still_in p q xs other)
  where
    go : (b : Bool) → nat_eq x q ≡ b → (x ≡ p) ⊎ In p xs → (In p xs → In p (without_replica q xs)) → In p (cond b (without_replica q xs) (x ∷ without_replica q xs))
    go true same (inl here) more = absurd (search (rules, same, here, other))
    go true same (inr later) more = more later
    go false same (inl here) more = inl here
    go false same (inr later) more = inr (more later)

was_in : (p q : ℕ) (xs : List ℕ) → In p (without_replica q xs) → In p xs
was_in p q [] h = h
was_in p q (x ∷ xs) h = go (nat_eq x q) h (was_in p q xs)
  where
    go : (b : Bool) → In p (cond b (without_replica q xs) (x ∷ without_replica q xs)) → (In p (without_replica q xs) → In p xs) → (x ≡ p) ⊎ In p xs
    go true k more = inr (more k)
    go false (inl here) more = inl here
    go false (inr later) more = inr (more later)

not_in : (p : ℕ) (xs : List ℕ) → In p (without_replica p xs) → ⊥
not_in p [] h = h
not_in p (x ∷ xs) h = go (nat_eq x p) refl h (not_in p xs)
  where
    go : (b : Bool) → nat_eq x p ≡ b → In p (cond b (without_replica p xs) (x ∷ without_replica p xs)) → (In p (without_replica p xs) → ⊥) → ⊥
    go true same k more = more k
    go false other (inl here) more = search (rules, other, here)
    go false other (inr later) more = more later

-- ---- who has left makes no event

none_made : (L M : Loom) (ts : List LoomTurn) (p : ℕ) → (In p L.live → ⊥) → WeavesTo L ts M → own_events (made_events ts) p ≡ []
none_made L M [] p out w = refl
none_made L M (makes e ∷ ts) p out w = go (nat_eq (replica_of e) p) refl (none_made w.0 M ts p (λ h. out (subst (In p) w.1.does.live h)) w.2)
  where
    own : replica_of e ≡ drawn_replica L
    own = (choice_is L.network.states (drawn_replica L) (phase_at L.phases (drawn_replica L)) e w.1.does.next w.1.does.is_chosen).0

    go : (b : Bool) → nat_eq (replica_of e) p ≡ b → own_events (made_events ts) p ≡ [] → own_events (e ∷ made_events ts) p ≡ []
    go true same more = absurd (out (subst (λ (q : ℕ). In q L.live) (same_number (replica_of e) p same) (drawn_live L.network.states L.phases L.live L.generator (replica_of e) w.1.some own)))
    go false other more = rw other more
none_made L M (finishes q ∷ ts) p out w = none_made w.0 M ts p (λ h. out (was_in p (drawn_replica L) L.live (subst (In p) w.1.does.2.live h))) w.2
none_made L M (gets_stuck e why ∷ ts) p out w = none_made w.0 M ts p (λ h. out (was_in p (drawn_replica L) L.live (subst (In p) w.1.does.1.live h))) w.2

-- ---- who chooses none has finished

by_left : (n p : ℕ) (A : State) (phase : Phase) (left : List Cmd) → chosen_by n p A phase left ≡ None → end_of_left left ≡ N.Finished
by_left n p A phase [] none = refl
by_left n p A phase (c ∷ rest) none = absurd (none-some _ (sym none))

by_state : (n p : ℕ) (phase : Phase) (o : Option State) → chosen_in n p phase o ≡ None → end_of_state o ≡ N.Finished
by_state n p phase None none = refl
by_state n p phase (Some A) none = by_left n p A phase A.left none

-- ---- where all have left, none is at the limit

not_limit : N.Finished ≡ N.LimitReached → ⊥
not_limit e = cc

abbrev is_own : ℕ → Stuck → Bool
is_own p stuck = nat_eq (replica_of stuck.event) p

stuck_no_limit : (o : Option Stuck) (end : End) → o ≢ None → end_or o end ≡ N.LimitReached → ⊥
stuck_no_limit None end some e = some refl
stuck_no_limit (Some stuck) end some e = cc

-- the replica got stuck, or its script is done
abbrev HasLeft : ℕ → List Stuck → List State → Type 0
HasLeft p stucks states = (find (is_own p) stucks ≢ None) ⊎ (end_of_state (slice_get states p) ≡ N.Finished)

has_left : (L M : Loom) (ts : List LoomTurn) (p : ℕ) → In p L.live → M.live ≡ [] → WeavesTo L ts M → HasLeft p (stuck_events ts) M.network.states
has_left L M [] p here none w = absurd (subst (In p) (ap (λ (X : Loom). X.live) w ∙ none) here)
has_left L M (makes e ∷ ts) p here none w = has_left w.0 M ts p (subst (In p) (sym w.1.does.live) here) none w.2
has_left L M (finishes q ∷ ts) p here none w = go (nat_eq (drawn_replica L) p) refl (λ h. has_left w.0 M ts p h none w.2)
  where
    go : (b : Bool) → nat_eq (drawn_replica L) p ≡ b → (In p w.0.live → HasLeft p (stuck_events ts) M.network.states) → HasLeft p (stuck_events ts) M.network.states
    go true same more =
        let at : drawn_replica L ≡ p = same_number (drawn_replica L) p same in
        let done : choice L.network.states p (phase_at L.phases p) ≡ None = subst (λ (d : ℕ). choice L.network.states d (phase_at L.phases d) ≡ None) at w.1.does.1 in
        let out = λ (h : In p w.0.live). not_in p L.live (subst (λ (d : ℕ). In p (without_replica d L.live)) at (subst (In p) w.1.does.2.live h)) in
        let still = untouched p w.0.network.states (made_events ts) M.network.states (after_states w.0.network (made_events ts) M.network (weaves_after w.0 M ts w.2)) (none_made w.0 M ts p out w.2) in
        inr (ap end_of_state (still ∙ ap (λ (K : Network). slice_get K.states p) w.1.does.2.network) ∙ by_state (length L.network.states) p (phase_at L.phases p) (slice_get L.network.states p) done)
    go false other more = more (subst (In p) (sym w.1.does.2.live) (still_in p (drawn_replica L) L.live other here))
has_left L M (gets_stuck e why ∷ ts) p here none w = go (nat_eq (replica_of e) p) refl (λ h. has_left w.0 M ts p h none w.2)
  where
    own : replica_of e ≡ drawn_replica L
    own = (choice_is L.network.states (drawn_replica L) (phase_at L.phases (drawn_replica L)) e w.1.does.0.next w.1.does.0.is_chosen).0

    longer : HasLeft p (stuck_events ts) M.network.states → nat_eq (replica_of e) p ≡ false → HasLeft p (stuck_for why e ∷ stuck_events ts) M.network.states
    longer (inl some) other = inl (λ h. some (sym (rw other refl) ∙ h))
    longer (inr finished) other = inr finished

    go : (b : Bool) → nat_eq (replica_of e) p ≡ b → (In p w.0.live → HasLeft p (stuck_events ts) M.network.states) → HasLeft p (stuck_for why e ∷ stuck_events ts) M.network.states
    go true same more =
        let there : find (is_own p) (stuck_for why e ∷ stuck_events ts) ≡ Some (stuck_for why e) = rw same refl in
        inl (λ h. none-some (stuck_for why e) (sym h ∙ there))
    go false other more =
        let far : nat_eq (drawn_replica L) p ≡ false = ap (λ (d : ℕ). nat_eq d p) (sym own) ∙ other in
        longer (more (subst (In p) (sym w.1.does.1.live) (still_in p (drawn_replica L) L.live far here))) other

no_limit : (p : ℕ) (stucks : List Stuck) (states : List State) → HasLeft p stucks states → end_in stucks states p ≡ N.LimitReached → ⊥
no_limit p stucks states (inl some) e = stuck_no_limit (find (is_own p) stucks) (end_of_state (slice_get states p)) some e
no_limit p stucks states (inr finished) e = go (find (is_own p) stucks) e
  where
    go : (o : Option Stuck) → end_or o (end_of_state (slice_get states p)) ≡ N.LimitReached → ⊥
    go None k = not_limit (sym finished ∙ k)
    go (Some stuck) k = cc

-- ---- the ends

mapped_at : (f : ℕ → End) (ps : List ℕ) (k : ℕ) (end : End) → slice_get (map f ps) k ≡ Some end → (p : ℕ) × In p ps × (f p ≡ end)
mapped_at f [] k end e = absurd (none-some _ e)
mapped_at f (p ∷ ps) zero end e = (p, inl refl, same_Some (f p) end e)
mapped_at f (p ∷ ps) (suc k) end e = let h = mapped_at f ps k end e in (h.0, inr h.1, h.2)

pub limits_are_met : (s : Scenario) (seed limit : ℕ) (schedule : List Event) (network : Network) (ends : List End) → IsWoven s seed limit schedule network ends → (p : ℕ) → slice_get ends p ≡ Some N.LimitReached → length schedule ≡ limit
limits_are_met s seed limit schedule network ends x k at = go x.is_over
  where
    count : length schedule + x.last.left ≡ limit
    count = ap (λ (l : List Event). length l + x.last.left) x.after.events ∙ weaves_count (first_loom s x.after.start seed limit) x.last x.after.turns x.after.weaves

    go : (x.last.left ≡ 0) ⊎ (x.last.live ≡ []) → length schedule ≡ limit
    go (inl none) = omega (arith, none, count)
    go (inr none) =
        let is : slice_get (ends_in x.stucks network.states s.names) k ≡ Some N.LimitReached = ap (λ (l : List End). slice_get l k) (sym x.are_ends) ∙ at in
        let found = mapped_at (end_in x.stucks network.states) (numbers_from 0 s.names) k N.LimitReached is in
        let left = has_left (first_loom s x.after.start seed limit) x.last x.after.turns found.0 found.1 none x.after.weaves in
        let here = subst (λ (l : List Stuck). HasLeft found.0 l network.states) (sym x.after.stuck) (subst (λ (K : Network). HasLeft found.0 (stuck_events x.after.turns) K.states) (sym x.is_network) left) in
        absurd (no_limit found.0 x.stucks network.states here found.2)

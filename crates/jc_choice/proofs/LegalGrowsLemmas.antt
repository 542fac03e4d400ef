-- About specs/Legal: histories that grow, and their parts.
use Rattle.std.proofs.Common.{rules, ◌≡◌, ◌⊎◌, ℕ, List, [], ◌∷◌, ◌++◌, refl, sym, ◌∙◌, ap, subst, true, false, Bool, nat_eq, zero, suc, inl, inr, Some, slice_get, slice_set}
use Rattle.jc_rules.specs.declared.operation.Event.{Event}
use Rattle.jc_rules.specs.State.{State}
use Rattle.jc_rules.specs.Step.{After, Network, AfterIn, replica_of}
use Rattle.jc_rules.proofs.VersionLemmas.{after_states, one_after_in}
use Rattle.jc_network.specs.Given.{before_given}
use Rattle.jc_network.specs.Laws.{starts}
use Rattle.jc_network.proofs.AfterLemmas.{after_more}
use Rattle.jc_scenario.specs.WellFormed.{Scenario}
use Rattle.jc_choice.specs.Phases.{last_event_of}
use Rattle.jc_choice.specs.Legal.{IsLegal, own_events, IsChosenAfter, AllChosen}

-- the states of a network to which a history leads: the given events come before it
pub legal_states : (s : Scenario) (history : List Event) (N : Network) → IsLegal history s N → After (starts s.scripts) (s.given ++ history) N.states
legal_states s history N legal = after_states (before_given s) (s.given ++ history) N (after_more (before_given s) s.given legal.start history N legal.is_start legal.after)

-- a history leads to one network
pub one_legal : (s : Scenario) (history : List Event) (N M : Network) → IsLegal history s N → IsLegal history s M → N ≡ M
one_legal s history N M legal other =
    let same : other.start ≡ legal.start = one_after_in (before_given s) s.given other.start legal.start other.is_start legal.is_start in
    one_after_in legal.start history N M legal.after (subst (λ (K : Network). AfterIn K history M) same other.after)

after_both : (N : Network) (xs ys : List Event) (M : Network) → AfterIn N (xs ++ ys) M → (K : Network) × AfterIn N xs K × AfterIn K ys M
after_both N [] ys M after = (N, refl, after)
after_both N (x ∷ xs) ys M after = let more = after_both after.0 xs ys M after.3 in (more.0, (after.0, after.1, after.2, more.1), more.2)

-- a prefix leads to a network, and the rest leads on from there
pub legal_both : (s : Scenario) (xs ys : List Event) (M : Network) → IsLegal (xs ++ ys) s M → (K : Network) × IsLegal xs s K × AfterIn K ys M
legal_both s xs ys M legal =
    let split = after_both legal.start xs ys M legal.after in
    (split.0, record { start = legal.start; is_start = legal.is_start; after = split.1 }, split.2)

pub last_more : (es : List Event) (e : Event) → last_event_of (es ++ e ∷ []) ≡ Some e
last_more [] e = refl
last_more (f ∷ []) e = refl
last_more (f ∷ g ∷ es) e = last_more (g ∷ es) e

abbrev head_or : Event → List Event → Event
head_or d [] = d
head_or d (e ∷ es) = e

abbrev tail_of : List Event → List Event
tail_of [] = []
tail_of (e ∷ es) = es

-- an event of the replica is among its own
own_has : (p : ℕ) (before : List Event) (e : Event) (later : List Event) → replica_of e ≡ p → own_events (before ++ e ∷ later) p ≡ [] → ⊥
own_has p [] e later is none = search (rules, none, is)
own_has p (b ∷ before) e later is none = go (nat_eq (replica_of b) p) refl (λ h. own_has p before e later is h)
  where
    go : (t : Bool) → nat_eq (replica_of b) p ≡ t → (own_events (before ++ e ∷ later) p ≡ [] → ⊥) → ⊥
    go true same more = search (rules, none, same)
    go false other more = more (search (rules, none, other))

pub own_both : (p : ℕ) (es fs : List Event) → own_events (es ++ fs) p ≡ own_events es p ++ own_events fs p
own_both p [] fs = refl
own_both p (e ∷ es) fs = go (nat_eq (replica_of e) p) refl (own_both p es fs)
  where
    go : (t : Bool) → nat_eq (replica_of e) p ≡ t → own_events (es ++ fs) p ≡ own_events es p ++ own_events fs p → own_events (e ∷ es ++ fs) p ≡ own_events (e ∷ es) p ++ own_events fs p
    go true same more = rw same (ap (λ l. e ∷ l) more)
    go false other more = rw other more

pub nothing_more : (xs ys : List Event) → xs ++ ys ≡ xs → ys ≡ []
nothing_more [] ys e = e
nothing_more (x ∷ xs) ys e = nothing_more xs ys (ap tail_of e)

same_cons : (x y : Event) (xs ys : List Event) → x ≡ y → xs ≡ ys → x ∷ xs ≡ y ∷ ys
same_cons x y xs ys e f i = e i ∷ f i

-- where the rest has no event of the replica, each of its events is in the prefix
in_beginning : (p : ℕ) (before : List Event) (e : Event) (later seen rest : List Event) → seen ++ rest ≡ before ++ e ∷ later → replica_of e ≡ p → own_events rest p ≡ [] → (mid : List Event) × (seen ≡ before ++ e ∷ mid)
in_beginning p before e later [] rest is of none = absurd (own_has p before e later of (rw (sym is) none))
in_beginning p [] e later (x ∷ xs) rest is of none = (xs, ap (λ y. y ∷ xs) (ap (head_or e) is))
in_beginning p (b ∷ before) e later (x ∷ xs) rest is of none =
    let more = in_beginning p before e later xs rest (ap tail_of is) of none in
    (more.0, same_cons x b xs (before ++ e ∷ more.0) (ap (head_or e) is) more.1)

pub chosen_longer : (s : Scenario) (p : ℕ) (seen rest : List Event) → own_events (seen ++ rest) p ≡ own_events seen p → AllChosen s p seen → AllChosen s p (seen ++ rest)
chosen_longer s p seen rest same all before e later is of =
    let none = nothing_more (own_events seen p) (own_events rest p) (sym (own_both p seen rest) ∙ same) in
    let at = in_beginning p before e later seen rest is of none in
    all before e at.0 at.1 of

last_or_before : (es : List Event) (x : Event) (before : List Event) (e : Event) (later : List Event) → es ++ x ∷ [] ≡ before ++ e ∷ later → ((es ≡ before) × (x ≡ e)) ⊎ ((mid : List Event) × (es ≡ before ++ e ∷ mid))
last_or_before [] x [] e later is = inl (refl, ap (head_or e) is)
last_or_before [] x (b ∷ []) e later is = absurd (search (rules, ap tail_of is))
last_or_before [] x (b ∷ c ∷ before) e later is = absurd (search (rules, ap tail_of is))
last_or_before (f ∷ es) x [] e later is = inr (es, ap (λ y. y ∷ es) (ap (head_or e) is))
last_or_before (f ∷ es) x (b ∷ before) e later is = go (ap (head_or e) is) (last_or_before es x before e later (ap tail_of is))
  where
    go : f ≡ b → ((es ≡ before) × (x ≡ e)) ⊎ ((mid : List Event) × (es ≡ before ++ e ∷ mid)) → ((f ∷ es ≡ b ∷ before) × (x ≡ e)) ⊎ ((mid : List Event) × (f ∷ es ≡ b ∷ before ++ e ∷ mid))
    go first (inl h) = inl (rw (first, h.0) refl, h.1)
    go first (inr h) = inr (h.0, rw first (ap (λ l. b ∷ l) h.1))

pub chosen_more : (s : Scenario) (p : ℕ) (es : List Event) (x : Event) → AllChosen s p es → IsChosenAfter s es x → AllChosen s p (es ++ x ∷ [])
chosen_more s p es x all now before e later is of = go (last_or_before es x before e later is)
  where
    go : ((es ≡ before) × (x ≡ e)) ⊎ ((mid : List Event) × (es ≡ before ++ e ∷ mid)) → IsChosenAfter s before e
    go (inl h) = subst (λ l. IsChosenAfter s l e) h.0 (subst (IsChosenAfter s es) h.1 now)
    go (inr h) = all before e h.0 h.1 of

pub chosen_none : (s : Scenario) (p : ℕ) → AllChosen s p []
chosen_none s p [] e later is of = absurd (search (rules, is))
chosen_none s p (b ∷ before) e later is of = absurd (search (rules, is))

set_elsewhere : {X : Type 0} → (xs : List X) (k p : ℕ) (x : X) → (k ≡ p → ⊥) → slice_get (slice_set xs k x) p ≡ slice_get xs p
set_elsewhere [] k p x other = refl
set_elsewhere (y ∷ ys) zero zero x other = absurd (other refl)
set_elsewhere (y ∷ ys) zero (suc p) x other = refl
set_elsewhere (y ∷ ys) (suc k) zero x other = refl
set_elsewhere (y ∷ ys) (suc k) (suc p) x other = set_elsewhere ys k p x (λ e. other (ap suc e))

-- events of others leave a replica as it was
pub untouched : (p : ℕ) (K : List State) (es : List Event) (M : List State) → After K es M → own_events es p ≡ [] → slice_get M p ≡ slice_get K p
untouched p K [] M after none = ap (λ l. slice_get l p) (sym after)
untouched p K (e ∷ es) M after none = go (nat_eq (replica_of e) p) refl (λ h. untouched p after.0 es M after.3 h)
  where
    go : (t : Bool) → nat_eq (replica_of e) p ≡ t → (own_events es p ≡ [] → slice_get M p ≡ slice_get after.0 p) → slice_get M p ≡ slice_get K p
    go true same more = absurd (search (rules, none, same))
    go false other more =
        let apart : replica_of e ≡ p → ⊥ = λ is. search (rules, other, is) in
        more (search (rules, none, other)) ∙ (ap (λ l. slice_get l p) after.2.is_new ∙ set_elsewhere K (replica_of e) p after.2.after apart)

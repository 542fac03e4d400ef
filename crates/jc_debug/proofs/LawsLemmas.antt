-- About specs/Laws: moves and runs have one outcome.
use Rattle.std.proofs.Common.{◌≡◌, ℕ, ◌<◌, ◌≤◌, zero, suc, List, [], ◌∷◌, length, take, Option, Some, refl, ap, sym, subst, ◌∙◌, arith}
use Rattle.std.proofs.lemmas.Option.{same_Some, slice_get_within}
use Rattle.jc_rules.specs.declared.operation.Event.{Event}
use Rattle.jc_rules.specs.declared.rule.Rule.{Rule}
use Rattle.jc_rules.specs.Step.{Network, StepIn, AfterIn}
use Rattle.jc_rules.specs.Refused.{Cause, IsStuckIn}
use Rattle.jc_rules.proofs.VersionLemmas.{one_after_in, stuck_in_has_none, one_stuck_in}
use Rattle.jc_debug.specs.DebuggerState.{Session, IsNetworkAt, MakesEvent, IsStuckAt, StuckEvent, GoesTo, arrives, stops, NamesAt, IsFree, IsLeast, RunOutcome, breaks, sticks, ends, RunEndsAt, Runs}

pub one_network : (S : Network) (es : List Event) (n : ℕ) (N M : Network) → IsNetworkAt S es n N → IsNetworkAt S es n M → N ≡ M
one_network S es n N M a b = one_after_in S (take n es) N M a.after b.after

-- an event before a position that was come to leads on
pub cut : (S : Network) (es : List Event) (n to : ℕ) (N : Network) → n < to → to ≤ length es → AfterIn S (take to es) N → (event : Event) × (rows : List (Rule × ℕ)) × MakesEvent S es n event rows
cut S [] n to N lt le h = absurd (omega (arith, lt, le))
cut S (e ∷ es) n zero N lt le h = absurd (omega (arith, lt))
cut S (e ∷ es) zero (suc to) N lt le h =
    (e, h.1, record { before = S; after = h.0; is_at = record { within = omega arith; after = refl }; is = refl; step = h.2 })
cut S (e ∷ es) (suc n) (suc to) N lt le h =
    let r = cut h.0 es n to N (omega (arith, lt)) (omega (arith, le)) h.3 in
    let m = r.2 in
    let w = m.is_at.within in
    (r.0, r.1, record { before = m.before; after = m.after; is_at = record { within = omega (arith, w); after = (h.0, h.1, h.2, m.is_at.after) }; is = m.is; step = m.step })

pub none_makes : (S : Network) (es : List Event) (n : ℕ) (e f : Event) (rows : List (Rule × ℕ)) (why : Cause) → MakesEvent S es n e rows → IsStuckAt S es n f why → ⊥
none_makes S es n e f rows why m k =
    let before : m.before ≡ k.before = one_network S es n m.before k.before m.is_at k.is_at in
    let event : e ≡ f = same_Some e f (sym m.is ∙ k.is) in
    let step : StepIn k.before f m.after rows = subst (λ (x : Event). StepIn k.before x m.after rows) event (subst (λ (N : Network). StepIn N e m.after rows) before m.step) in
    stuck_in_has_none k.before m.after f why rows k.stuck step

-- the schedule leads to nothing past a stuck event
not_past : (S : Network) (es : List Event) (n to : ℕ) (N : Network) (f : Event) (why : Cause) → n < to → IsNetworkAt S es to N → IsStuckAt S es n f why → ⊥
not_past S es n to N f why lt a k = let r = cut S es n to N lt a.within a.after in none_makes S es n r.0 f r.1 why r.2 k

pub one_cause : (S : Network) (es : List Event) (n : ℕ) (e f : Event) (why due : Cause) → IsStuckAt S es n e why → IsStuckAt S es n f due → (e ≡ f) × (why ≡ due)
one_cause S es n e f why due a b =
    let before : a.before ≡ b.before = one_network S es n a.before b.before a.is_at b.is_at in
    let event : e ≡ f = same_Some e f (sym a.is ∙ b.is) in
    let stuck : IsStuckIn b.before f why = subst (λ (x : Event). IsStuckIn b.before x why) event (subst (λ (N : Network). IsStuckIn N e why) before a.stuck) in
    (event, one_stuck_in b.before f why due stuck b.stuck)

same_stop : (S : Network) (es : List Event) (n : ℕ) (e f : Event) (why due : Cause) → IsStuckAt S es n e why → IsStuckAt S es n f due → ◌≡◌ {A = Option StuckEvent} (Some (e, why)) (Some (f, due))
same_stop S es n e f why due a b = let one = one_cause S es n e f why due a b in λ i. Some (one.0 i, one.1 i)

-- one of two numbers is less, or they are equal
by_order : (P : Type 0) (n m : ℕ) → (n < m → P) → (m < n → P) → (n ≡ m → P) → P
by_order P zero zero a b c = c refl
by_order P zero (suc m) a b c = a (omega arith)
by_order P (suc n) zero a b c = b (omega arith)
by_order P (suc n) (suc m) a b c = by_order P n m (λ h. a (omega (arith, h))) (λ h. b (omega (arith, h))) (λ h. c (ap suc h))

pub one_goes : (S : Network) (es : List Event) (from to p q : ℕ) (end other : Option StuckEvent) → GoesTo S es from to p end → GoesTo S es from to q other → (p ≡ q) × (end ≡ other)
one_goes S es from to p q end other (arrives a) (arrives b) = (refl, refl)
one_goes S es from to p q end other (arrives {network} a) (stops {n} {event} {why} le lt k) = absurd (not_past S es n to network event why lt a k)
one_goes S es from to p q end other (stops {n} {event} {why} le lt k) (arrives {network} a) = absurd (not_past S es n to network event why lt a k)
one_goes S es from to p q end other (stops {n} {event} {why} le lt k) (stops {n = m} {event = f} {why = due} le2 lt2 k2) =
    by_order ((n ≡ m) × ◌≡◌ {A = Option StuckEvent} (Some (event, why)) (Some (f, due))) n m
    (λ h. absurd (not_past S es n m k2.before event why h k2.is_at k))
    (λ h. absurd (not_past S es m n k.before f due h k.is_at k2))
    (λ h. (h, same_stop S es m event f why due (subst (λ (x : ℕ). IsStuckAt S es x event why) h k) k2))

pub one_least : (P : ℕ → Type 0) (i j : ℕ) → IsLeast P i → IsLeast P j → i ≡ j
one_least P i j a b = by_order (i ≡ j) i j (λ h. absurd (b.1 i h a.0)) (λ h. absurd (a.1 j h b.0)) (λ h. h)

-- a run that can end goes no further
ahead : (S : Network) (A : Session) (n m : ℕ) (end : RunOutcome) (N : Network) → RunEndsAt S A n end → IsNetworkAt S A.schedule m N → ((k : ℕ) → A.position < k → k < m → IsFree S A k) → n < m → ⊥
ahead S A n m (breaks j) N h a q lt = q n h.0 lt j h.1.0
ahead S A n m (sticks event why) N h a q lt = not_past S A.schedule n m N event why lt a h.1
ahead S A n m ends N h a q lt = let w = a.within in let e = h.0 in omega (arith, w, e, lt)

at_stuck : (S : Network) (A : Session) (n : ℕ) (event : Event) (why : Cause) → IsStuckAt S A.schedule n event why → n ≡ length A.schedule → ⊥
at_stuck S A n event why k e = let w = slice_get_within A.schedule n event k.is in omega (arith, w, e)

one_end : (S : Network) (A : Session) (n : ℕ) (end other : RunOutcome) → RunEndsAt S A n end → RunEndsAt S A n other → end ≡ other
one_end S A n (breaks i) (breaks j) a b = ap breaks (one_least (NamesAt S A n) i j a.1 b.1)
one_end S A n (breaks i) (sticks f due) a b = absurd (b.0 a.0 i a.1.0)
one_end S A n (breaks i) ends a b = absurd (b.1 i a.1.0)
one_end S A n (sticks e why) (breaks j) a b = absurd (a.0 b.0 j b.1.0)
one_end S A n (sticks e why) (sticks f due) a b = let one = one_cause S A.schedule n e f why due a.1 b.1 in λ i. sticks (one.0 i) (one.1 i)
one_end S A n (sticks e why) ends a b = absurd (at_stuck S A n e why a.1 b.0)
one_end S A n ends (breaks j) a b = absurd (a.1 j b.1.0)
one_end S A n ends (sticks f due) a b = absurd (at_stuck S A n f due b.1 a.0)
one_end S A n ends ends a b = refl

pub one_run : (S : Network) (A : Session) (n m : ℕ) (end other : RunOutcome) → Runs S A n end → Runs S A m other → (n ≡ m) × (end ≡ other)
one_run S A n m end other a b =
    by_order ((n ≡ m) × (end ≡ other)) n m
    (λ h. absurd (ahead S A n m end b.network a.at b.is_at b.quiet h))
    (λ h. absurd (ahead S A m n other a.network b.at a.is_at a.quiet h))
    (λ h. (h, one_end S A m end other (subst (λ (k : ℕ). RunEndsAt S A k end) h a.at) b.at))

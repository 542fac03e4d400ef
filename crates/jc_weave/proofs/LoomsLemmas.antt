-- About specs/Looms: who is drawn hasn't left, so fewer are left where it leaves.
use Rattle.std.proofs.Common.{arith, rules, ◌≡◌, ◌≢◌, ℕ, zero, suc, ◌<◌, ◌≤◌, ◌%◌, List, [], ◌∷◌, Bool, true, false, cond, nat_eq, refl, sym, ◌∙◌, ap, subst, length, slice_set, slice_index, inl, inr, ◌⊎◌}
use Rattle.std.proofs.lemmas.Nat.{mod_below}
use Rattle.rand_pcg.specs.Lcg.{Lcg}
use Rattle.rand_pcg.specs.Pcg.{pcg32}
use Rattle.jc_rules.specs.State.{State}
use Rattle.jc_choice.specs.declared.phase.Phase.{Phase}
use Rattle.jc_weave.specs.Looms.{is_waiting, eager_of, or_all, pool, drawn_of, without_replica}

-- beyond its end a list is left as it is
pub set_beyond : (xs : List Phase) (i : ℕ) (y : Phase) → length xs ≤ i → slice_set xs i y ≡ xs
set_beyond [] i y h = refl
set_beyond (x ∷ xs) zero y h = absurd (omega (arith, h))
set_beyond (x ∷ xs) (suc i) y h = ap (λ l. x ∷ l) (set_beyond xs i y (omega (arith, h)))

abbrev pub In : ℕ → List ℕ → Type 0
In q [] = ⊥
In q (x ∷ xs) = (x ≡ q) ⊎ In q xs

at_in : (xs : List ℕ) (k : ℕ) → k < length xs → In (slice_index xs k) xs
at_in [] k h = absurd (omega (arith, h))
at_in (x ∷ xs) zero h = inl refl
at_in (x ∷ xs) (suc k) h = inr (at_in xs k (omega (arith, h)))

positive : (xs : List ℕ) → xs ≢ [] → 0 < length xs
positive [] some = absurd (some refl)
positive (x ∷ xs) some = omega arith

eager_in : (states : List State) (phases : List Phase) (xs : List ℕ) (q : ℕ) → In q (eager_of states phases xs) → In q xs
eager_in states phases [] q h = h
eager_in states phases (x ∷ xs) q h = go (is_waiting states phases x) h (eager_in states phases xs q)
  where
    go : (b : Bool) → In q (cond b (eager_of states phases xs) (x ∷ eager_of states phases xs)) → (In q (eager_of states phases xs) → In q xs) → (x ≡ q) ⊎ In q xs
    go true k more = inr (more k)
    go false (inl k) more = inl k
    go false (inr k) more = inr (more k)

or_some : (es xs : List ℕ) → xs ≢ [] → or_all es xs ≢ []
or_some [] xs some = some
or_some (e ∷ es) xs some = λ h. absurd (search (rules, h))

or_in : (es xs : List ℕ) (q : ℕ) → (In q es → In q xs) → In q (or_all es xs) → In q xs
or_in [] xs q f h = h
or_in (e ∷ es) xs q f h = f h

no_longer : (p : ℕ) (xs : List ℕ) → length (without_replica p xs) ≤ length xs
no_longer p [] = omega arith
no_longer p (x ∷ xs) = go (nat_eq x p) (no_longer p xs)
  where
    go : (b : Bool) → length (without_replica p xs) ≤ length xs → length (cond b (without_replica p xs) (x ∷ without_replica p xs)) ≤ suc (length xs)
    go true h = omega (arith, h)
    go false h = omega (arith, h)

same_self : (n : ℕ) → nat_eq n n ≡ true
same_self n = search rules

shorter : (p : ℕ) (xs : List ℕ) → In p xs → length (without_replica p xs) < length xs
shorter p [] h = elim h [ ]
shorter p (x ∷ xs) (inl same) =
    let t : nat_eq x p ≡ true = ap (λ y. nat_eq y p) same ∙ same_self p in
    rw t (omega (arith, no_longer p xs))
shorter p (x ∷ xs) (inr later) = go (nat_eq x p) (shorter p xs later)
  where
    go : (b : Bool) → length (without_replica p xs) < length xs → length (cond b (without_replica p xs) (x ∷ without_replica p xs)) < suc (length xs)
    go true h = omega (arith, h)
    go false h = omega (arith, h)

-- who is drawn hasn't left
pub drawn_live : (states : List State) (phases : List Phase) (live : List ℕ) (g : Lcg) (p : ℕ) → live ≢ [] → p ≡ drawn_of (pool states phases live) g → In p live
drawn_live states phases live g p some at =
    let ps = pool states phases live in
    let low : (pcg32 g).0 % length ps < length ps = mod_below (pcg32 g).0 (length ps) (positive ps (or_some (eager_of states phases live) live some)) in
    let there : In p ps = subst (λ (q : ℕ). In q ps) (sym at) (at_in ps ((pcg32 g).0 % length ps) low) in
    or_in (eager_of states phases live) live p (eager_in states phases live p) there

-- where it leaves, fewer are left
pub fewer : (states : List State) (phases : List Phase) (live : List ℕ) (g : Lcg) (p : ℕ) → live ≢ [] → p ≡ drawn_of (pool states phases live) g → length (without_replica p live) < length live
fewer states phases live g p some at = shorter p live (drawn_live states phases live g p some at)

-- About specs/Ids: sets of identifiers as ascending lists.
use Rattle.std.proofs.Common.{◌≡◌, ℕ, zero, suc, ◌<◌, ◌≤◌, length, get_or, insert, Result, Ok, Err, is_ok, List, [], ◌∷◌, Bool, true, false, not, ◌||◌, ◌&&◌, refl, sym, ◌∙◌, arith}
use Rattle.std.specs.List.{AllByRecursion}
use Rattle.std.specs.List.Sorted.{IsBinarySearchResult, IsSearchInRange}
use Rattle.std.specs.declared.cmp.Ordering.{Ordering}
use Rattle.std.specs.declared.cmp.Ordering.TheVariants.{Less, Equal, Greater}
use Rattle.std.specs.Cmp.{tied_itself}
use Rattle.jc_rules.specs.declared.id.Id.{Id}
use Rattle.jc_rules.specs.Order.{id_cmp, same_id}
use Rattle.jc_rules.specs.Ids.{AreRising, has_id, with_id, added, union, without}
use Rattle.jc_rules.proofs.OrderLemmas.{ids_total, exact_ids}
use Rattle.jc_rules.proofs.RisingLemmas as rising
use Rattle.jc_rules.proofs.BoolLemmas.{no_truth, or_swap, or_false, and_false, or_assoc}

pub equal_itself : (i : Id) → id_cmp i i ≡ Equal
equal_itself i = tied_itself ids_total i

pub same_id-self : (i : Id) → same_id i i ≡ true
same_id-self i = rw (equal_itself i) refl

pub same_id-true : (i j : Id) → same_id i j ≡ true → i ≡ j
same_id-true i j h = go (id_cmp i j) refl h
  where
    go : (o : Ordering) → id_cmp i j ≡ o → same_id i j ≡ true → i ≡ j
    go Less e g = cc (rw e at g)
    go Equal e g = exact_ids i j e
    go Greater e g = cc (rw e at g)

less_greater : (i j : Id) → id_cmp i j ≡ Less → id_cmp j i ≡ Greater
less_greater = rising.less_greater ids_total

greater_less : (i j : Id) → id_cmp i j ≡ Greater → id_cmp j i ≡ Less
greater_less = rising.greater_less ids_total

or_same : (a b : Bool) → a || b ≡ a || (a || b)
or_same true b = refl
or_same false b = refl

-- what is in a set with one more
pub has_id-with : (k i : Id) (s : List Id) → has_id k (with_id i s) ≡ same_id k i || has_id k s
has_id-with k i [] = refl
has_id-with k i (j ∷ js) = go (id_cmp i j) refl (has_id-with k i js)
  where
    go : (o : Ordering) → id_cmp i j ≡ o → has_id k (with_id i js) ≡ same_id k i || has_id k js → has_id k (with_id i (j ∷ js)) ≡ same_id k i || has_id k (j ∷ js)
    go Less e ih = rw e refl
    go Equal e ih = let s : i ≡ j = exact_ids i j e in rw e (rw s (or_same (same_id k j) (has_id k js)))
    go Greater e ih = rw (e, ih) (or_swap (same_id k j) (same_id k i) (has_id k js))

has_id-added : (k : Id) (is js : List Id) → has_id k (added is js) ≡ has_id k is || has_id k js
has_id-added k [] js = refl
has_id-added k (i ∷ is) js = has_id-with k i (added is js) ∙ rw (has_id-added k is js) (or_assoc (same_id k i) (has_id k is) (has_id k js))

-- what is in a union
pub has_id-union : (k : Id) (is js : List Id) → has_id k (union is js) ≡ has_id k is || has_id k js
has_id-union k is js = has_id-added k is (added js []) ∙ rw (has_id-added k js []) (rw (or_false (has_id k js)) refl)

-- what is in the first and not in the second
pub has_id-without : (k : Id) (is deps : List Id) → has_id k (without is deps) ≡ has_id k is && not (has_id k deps)
has_id-without k [] deps = refl
has_id-without k (i ∷ is) deps = go (has_id i deps) refl (same_id k i) refl (has_id-without k is deps)
  where
    go : (b : Bool) → has_id i deps ≡ b → (c : Bool) → same_id k i ≡ c → has_id k (without is deps) ≡ has_id k is && not (has_id k deps) → has_id k (without (i ∷ is) deps) ≡ has_id k (i ∷ is) && not (has_id k deps)
    go true p false q ih = rw (p, q) ih
    go true p true q ih = let s : k ≡ i = same_id-true k i q in rw (p, q) (ih ∙ rw s (rw p (and_false (has_id i is))))
    go false p false q ih = rw (p, q) ih
    go false p true q ih = let s : k ≡ i = same_id-true k i q in rw (p, q) (rw s (rw p refl))

pub all_later : (i j : Id) (s : List Id) → id_cmp i j ≡ Less → AllByRecursion (λ k. id_cmp j k ≡ Less) s → AllByRecursion (λ k. id_cmp i k ≡ Less) s
all_later i j [] h a = tt
all_later i j (k ∷ s) h a = (ids_total.trans i j k h a.0, all_later i j s h a.1)

below_with : (j i : Id) (s : List Id) → id_cmp j i ≡ Less → AllByRecursion (λ k. id_cmp j k ≡ Less) s → AllByRecursion (λ k. id_cmp j k ≡ Less) (with_id i s)
below_with j i [] h a = (h, tt)
below_with j i (k ∷ s) h a = go (id_cmp i k) refl (below_with j i s h a.1)
  where
    go : (o : Ordering) → id_cmp i k ≡ o → AllByRecursion (λ l. id_cmp j l ≡ Less) (with_id i s) → AllByRecursion (λ l. id_cmp j l ≡ Less) (with_id i (k ∷ s))
    go Less e ih = rw e (h, a)
    go Equal e ih = rw e a
    go Greater e ih = rw e (a.0, ih)

-- a set with one more rises
pub with-rises : (i : Id) (s : List Id) → AreRising s → AreRising (with_id i s)
with-rises i [] h = (tt, tt)
with-rises i (j ∷ s) h = go (id_cmp i j) refl (with-rises i s h.1)
  where
    go : (o : Ordering) → id_cmp i j ≡ o → AreRising (with_id i s) → AreRising (with_id i (j ∷ s))
    go Less e ih = rw e ((e, all_later i j s e h.0), h)
    go Equal e ih = rw e h
    go Greater e ih = rw e (below_with j i s (greater_less i j e) h.0, ih)

added-rises : (is s : List Id) → AreRising s → AreRising (added is s)
added-rises [] s h = h
added-rises (i ∷ is) s h = with-rises i (added is s) (added-rises is s h)

-- a union rises, whatever it is of
pub union-rises : (is js : List Id) → AreRising (union is js)
union-rises is js = added-rises is (added js []) (added-rises js [] tt)

below_without : (i : Id) (is deps : List Id) → AllByRecursion (λ k. id_cmp i k ≡ Less) is → AllByRecursion (λ k. id_cmp i k ≡ Less) (without is deps)
below_without i [] deps a = tt
below_without i (j ∷ is) deps a = go (has_id j deps) refl (below_without i is deps a.1)
  where
    go : (b : Bool) → has_id j deps ≡ b → AllByRecursion (λ k. id_cmp i k ≡ Less) (without is deps) → AllByRecursion (λ k. id_cmp i k ≡ Less) (without (j ∷ is) deps)
    go true p ih = rw p ih
    go false p ih = rw p (a.0, ih)

pub without-rises : (is deps : List Id) → AreRising is → AreRising (without is deps)
without-rises [] deps h = tt
without-rises (i ∷ is) deps h = go (has_id i deps) refl (without-rises is deps h.1)
  where
    go : (b : Bool) → has_id i deps ≡ b → AreRising (without is deps) → AreRising (without (i ∷ is) deps)
    go true p ih = rw p ih
    go false p ih = rw p (below_without i is deps h.0, ih)

-- what is below a rising list isn't in it
pub below_none : (i : Id) (s : List Id) → AllByRecursion (λ k. id_cmp i k ≡ Less) s → has_id i s ≡ false
below_none i [] a = refl
below_none i (j ∷ s) a = let l : id_cmp i j ≡ Less = a.0 in rw l (below_none i s a.1)

-- a rising list is what its members make of it
with-first : (i : Id) (s : List Id) → AllByRecursion (λ k. id_cmp i k ≡ Less) s → with_id i s ≡ i ∷ s
with-first i [] a = refl
with-first i (j ∷ s) a = let l : id_cmp i j ≡ Less = a.0 in rw l refl

pub added-nothing : (s : List Id) → AreRising s → added s [] ≡ s
added-nothing [] h = refl
added-nothing (i ∷ s) h = rw (added-nothing s h.1) (with-first i s h.0)

pub union-nothing : (s : List Id) → AreRising s → union s [] ≡ s
union-nothing s h = added-nothing s h

pub nothing-union : (s : List Id) → AreRising s → union [] s ≡ s
nothing-union s h = added-nothing s h

same_head : (i j : Id) (is js : List Id) → AreRising (i ∷ is) → AreRising (j ∷ js) → ((k : Id) → has_id k (i ∷ is) ≡ has_id k (j ∷ js)) → i ≡ j
same_head i j is js h g e = go (id_cmp i j) refl
  where
    go : (o : Ordering) → id_cmp i j ≡ o → i ≡ j
    go Equal p = exact_ids i j p
    go Less p =
        let l : has_id i (j ∷ js) ≡ false = below_none i (j ∷ js) (p, all_later i j js p g.0) in
        let r : has_id i (i ∷ is) ≡ true = rw (same_id-self i) refl in
        no_truth (sym l ∙ sym (e i) ∙ r)
    go Greater p =
        let q : id_cmp j i ≡ Less = greater_less i j p in
        let l : has_id j (i ∷ is) ≡ false = below_none j (i ∷ is) (q, all_later j i is q h.0) in
        let r : has_id j (j ∷ js) ≡ true = rw (same_id-self j) refl in
        no_truth (sym l ∙ e j ∙ r)

same_tail : (i : Id) (is js : List Id) → AreRising (i ∷ is) → AreRising (i ∷ js) → ((k : Id) → has_id k (i ∷ is) ≡ has_id k (i ∷ js)) → (k : Id) → has_id k is ≡ has_id k js
same_tail i is js h g e k = go (same_id k i) refl
  where
    go : (b : Bool) → same_id k i ≡ b → has_id k is ≡ has_id k js
    go true p = let s : k ≡ i = same_id-true k i p in rw s (below_none i is h.0 ∙ sym (below_none i js g.0))
    go false p = let both : has_id k (i ∷ is) ≡ has_id k (i ∷ js) = e k in rw p at both

-- two rising lists of the same identifiers are one
pub same_members : (is js : List Id) → AreRising is → AreRising js → ((k : Id) → has_id k is ≡ has_id k js) → is ≡ js
same_members [] [] h g e = refl
same_members [] (j ∷ js) h g e = no_truth (e j ∙ rw (same_id-self j) refl)
same_members (i ∷ is) [] h g e = no_truth (sym (e i) ∙ rw (same_id-self i) refl)
same_members (i ∷ is) (j ∷ js) h g e =
    let s : i ≡ j = same_head i j is js h g e in
    let rest : is ≡ js = same_members is js h.1 g.1 (same_tail i is js h (rw (← s) at g) (rw (← s) at e)) in
    λ n. s n ∷ rest n

-- an identifier that is in the set already
pub with-present : (i : Id) (s : List Id) → AreRising s → has_id i s ≡ true → with_id i s ≡ s
with-present i s h p = same_members (with_id i s) s (with-rises i s h) h (λ k. has_id-with k i s ∙ go k (same_id k i) refl)
  where
    go : (k : Id) (b : Bool) → same_id k i ≡ b → same_id k i || has_id k s ≡ has_id k s
    go k true e = let q : k ≡ i = same_id-true k i e in rw e (rw q (sym p))
    go k false e = rw e refl

or_true : (a : Bool) → a || true ≡ true
or_true true = refl
or_true false = refl

found_at : (i : Id) (s : List Id) (k : ℕ) (d : Id) → k < length s → id_cmp (get_or s k d) i ≡ Equal → has_id i s ≡ true
found_at i [] k d h e = absurd (omega arith)
found_at i (j ∷ s) zero d h e = let q : id_cmp i j ≡ Equal = rising.equal_back ids_total j i e in rw q refl
found_at i (j ∷ s) (suc k) d h e = rw (found_at i s k d (omega arith) e) (or_true (same_id i j))

-- between the lesser and the greater ones
placed_at : (i : Id) (s : List Id) (p : ℕ) → p ≤ length s → ((k : ℕ) (d : Id) → k < p → id_cmp (get_or s k d) i ≡ Less) → ((k : ℕ) (d : Id) → p ≤ k → k < length s → id_cmp (get_or s k d) i ≡ Greater) → (has_id i s ≡ false) × (with_id i s ≡ insert s p i)
placed_at i [] zero h less more = (refl, refl)
placed_at i [] (suc p) h less more = absurd (omega arith)
placed_at i (j ∷ s) zero h less more =
    let q : id_cmp i j ≡ Less = greater_less j i (more 0 j (omega arith) (omega arith)) in
    let rest = placed_at i s 0 (omega arith) (λ k d l. absurd (omega arith)) (λ k d l m. more (suc k) d (omega arith) (omega arith)) in
    (rw (q, rest.0) refl, rw q refl)
placed_at i (j ∷ s) (suc p) h less more =
    let q : id_cmp i j ≡ Greater = less_greater j i (less 0 j (omega arith)) in
    let rest = placed_at i s p (omega arith) (λ k d l. less (suc k) d (omega arith)) (λ k d l m. more (suc k) d (omega arith) (omega arith)) in
    (rw (q, rest.0) refl, rw (q, rest.1) refl)

-- what a search for the identifier answers
pub searched : (i : Id) (s : List Id) (r : Result ℕ ℕ) → AreRising s → IsSearchInRange r (length s) → IsBinarySearchResult (λ j. id_cmp j i) s r → is_ok r ≡ has_id i s
searched i s (Ok k) h bound found = sym (found_at i s k i bound (found i))
searched i s (Err p) h bound found =
    let parts = found (rising.non_decreasing ids_total i s h) in
    sym (placed_at i s p bound (λ k d l. parts.0 k d (omega arith) l) parts.1).0

pub searched_place : (i : Id) (s : List Id) (p : ℕ) → AreRising s → p ≤ length s → IsBinarySearchResult (λ j. id_cmp j i) s (Err p) → with_id i s ≡ insert s p i
searched_place i s p h bound found =
    let parts = found (rising.non_decreasing ids_total i s h) in
    (placed_at i s p bound (λ k d l. parts.0 k d (omega arith) l) parts.1).1

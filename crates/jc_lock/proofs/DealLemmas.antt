-- About specs/Rules: opening a table and dealing its passes keep the rule.
use Rattle.std.proofs.Common.{◌≡◌, ℕ, zero, suc, ◌+◌, ◌-◌, ◌*◌, ◌^◌, ◌<◌, ◌≤◌, Option, Some, List, [], ◌∷◌, ◌++◌, length, map, set, sym, refl, ap, ◌∙◌, subst, arith, suc-mul, add-one}
use Rattle.std.specs.Prelude.{sum_by, count_by}
use Rattle.std.specs.List.{range_with_len}
use Rattle.std.proofs.lemmas.List.Elements.{All-nil}
use Rattle.std.proofs.lemmas.List.{map-append}
use Rattle.std.proofs.lemmas.List.Sums.{sum_by-cons, sum_by-append}
use mathlib.Core.Logic.{dite}
use mathlib.Core.Option.{some, some-injective, some-ne-none}
use native.Mathlib.Decide.{ℕ_discrete}
use lib.ListN.{get_elem?}
use Rattle.atomic_table.specs.Table.{State, Splits, opening}
use Rattle.atomic_table.proofs.Lists.{at_longer}
use Rattle.jc_lock.specs.declared.view.Known.{Known}
use Rattle.jc_lock.specs.declared.view.View.{View}
use Rattle.jc_lock.specs.declared.view.Terms.{Terms}
use Rattle.jc_lock.specs.declared.view.Stage.{Stage}
use Rattle.jc_lock.specs.declared.view.Stage.TheVariants.{Rests}
use Rattle.jc_lock.specs.Knowledge.{blank, blanks, is_for, first_of, others_of, AllTrueOf}
use Rattle.jc_lock.specs.Rules.{ticket_count, count_of_ticket, has_turn, OnceAnd, tickets_of, times_ticket, takes_left, times_known, FitsStage, FitsSeat, IsKept}
use Rattle.jc_lock.specs.Steps.{rest_of_deal, next_of_deal, dealer, first_dealer}
use Rattle.jc_lock.proofs.RulesSumsLemmas.{one_if-same, one_if-other, none_once, sum_by-same, sum_by-put, each_set, each_snoc, once_same}
use Rattle.jc_lock.proofs.StepsLemmas.{known_for, no_turn_before}

module _ (E : Type 0) where
  -- each number from k to below k + n is known once
  once_blanks : (p k n : ℕ) → OnceAnd (count_by (is_for {E = E} p) (blanks k n)) ((k ≤ p) × (p < k + n))
  once_blanks p k zero = (omega arith, λ pos. absurd (omega arith))
  once_blanks p k (suc n) =
      let h = once_blanks p (suc k) n in
      let most = h.0 in
      let parts = sum_by-cons (known_for {E = E} p) (blank k) (blanks (suc k) n) in
      dite (ℕ_discrete k p)
      (λ same.
      let o = one_if-same k p same in
      let none : count_by (is_for {E = E} p) (blanks (suc k) n) ≡ 0 = none_once _ h (λ q. let q0 = q.0 in omega arith) in
      (omega arith, λ _. (omega arith, omega arith)))
      (λ other.
      let o = one_if-other k p other in
      (omega arith, λ pos. let q = h.1 (omega arith) in let q0 = q.0 in let q1 = q.1 in (omega arith, omega arith)))

true_blanks : {E : Type 0} → (maker : E → ℕ) (k n : ℕ) → AllTrueOf maker [] (blanks k n)
true_blanks maker k zero = tt
true_blanks maker k (suc n) = ((([], refl), refl), true_blanks maker (suc k) n)

module _ {E : Type 0} where
  -- the numbers of a list are the first and the others
  count_dealt : (p : ℕ) (ks : List (Known E)) → count_by (is_for p) ks ≡ count_by (is_for p) (others_of ks) + count_by (is_for p) (first_of ks)
  count_dealt p [] = refl
  count_dealt p (x ∷ xs) = omega (arith, sum_by-cons (known_for p) x xs, sum_by-cons (known_for p) x [])

  some_first : (ks : List (Known E)) → 0 < length (first_of ks) → 0 < length ks
  some_first [] h = h
  some_first (x ∷ xs) h = omega arith

  some_others : (ks : List (Known E)) → 0 < length (others_of ks) → 0 < length ks
  some_others [] h = h
  some_others (x ∷ xs) h = omega arith

module _ {E : Type 0} (maker : E → ℕ) where
  true_first : (history : List E) (ks : List (Known E)) → AllTrueOf maker history ks → AllTrueOf maker history (first_of ks)
  true_first history [] t = tt
  true_first history (x ∷ xs) t = (t.0, tt)

  true_others : (history : List E) (ks : List (Known E)) → AllTrueOf maker history ks → AllTrueOf maker history (others_of ks)
  true_others history [] t = tt
  true_others history (x ∷ xs) t = t.1

module _ {K E O : Type 0} (origin : K → O) (list : K → List E) (maker : E → ℕ) (terms : Terms K) where
  abbrev V : Type 0
  V = View E O

  abbrev Rule : State (Option K) V → Type 0
  Rule = IsKept origin list maker terms

  pub deal_keeps : (id : ℕ) (v : V) → v.stage ≡ Rests → v.share ≤ v.left → Splits Rule id v (rest_of_deal v) (next_of_deal v)
  deal_keeps id v rests enough s r at =
      let a : V = rest_of_deal v in
      let b : V = next_of_deal v in
      let mine = r.seats id v at in
      let vs : List V = set s.views id a in
      let due : ℕ = Rattle.std.proofs.Common.get_or s.words 1 0 in
      let drawn : ℕ = Rattle.std.proofs.Common.get_or s.words 0 0 in record {
        history = r.history;
        wide = r.wide;
        queue =
            let q = r.queue in
            let e = sum_by-same tickets_of s.views id v a at refl in
            let f = sum_by-append tickets_of vs (b ∷ []) in
            let z : tickets_of b ≡ 0 = ap ticket_count rests in
            omega (arith, sum_by-cons tickets_of b []);
        tickets = λ t. once_same _ _
            (let e = sum_by-same (times_ticket t) s.views id v a at refl in let f = sum_by-append (times_ticket t) vs (b ∷ []) in let z : times_ticket t b ≡ 0 = ap (count_of_ticket t) rests in omega (arith, sum_by-cons (times_ticket t) b []))
            (r.tickets t);
        budget =
            let most : ℕ = terms.passes * terms.takes in
            let q : drawn + sum_by takes_left s.views ≡ most = r.budget in
            let e = sum_by-put takes_left s.views id v a at in
            let f = sum_by-append takes_left vs (b ∷ []) in
            let g : drawn + sum_by takes_left (vs ++ b ∷ []) ≡ most = omega (arith, sum_by-cons takes_left b []) in g;
        small = r.small;
        numbers = λ p. once_same _ _
            (let e = sum_by-put (times_known p) s.views id v a at in let f = sum_by-append (times_known p) vs (b ∷ []) in let g = count_dealt p v.knows in omega (arith, sum_by-cons (times_known p) b []))
            (r.numbers p);
        seats = each_snoc _ vs b
            ((λ h. mine.0 (some_first v.knows h)), true_first maker r.history v.knows mine.1, subst (λ (st : Stage). FitsStage due r.history (first_of v.knows) st) (sym rests) tt)
            (each_set _ s.views id a
            ((λ h. mine.0 (some_others v.knows h)), true_others maker r.history v.knows mine.1, subst (λ (st : Stage). FitsStage due r.history (others_of v.knows) st) (sym rests) tt)
            (λ j d _. r.seats j d));
        at_home = λ nobody. r.at_home (no_turn_before origin list maker terms s id v a at (ap has_turn rests) (λ j d there. nobody j d (at_longer vs (b ∷ []) j d there)));
        counted = r.counted;
        makers = r.makers;
      }

  pub open_keeps : (x : K) → terms.passes * terms.takes < 2 ^ 56 → origin x ≡ origin terms.opened.value → list x ≡ [] → Rule (opening (0 ∷ 0 ∷ 0 ∷ []) (Some x ∷ []) (first_dealer origin terms))
  open_keeps x few same empty = record {
    history = [];
    wide = refl;
    queue = refl;
    tickets = λ t. (omega arith, λ pos. absurd (omega arith));
    budget = let most : ℕ = terms.passes * terms.takes in let all : 0 + (0 + most) ≡ most = omega arith in all;
    small = few;
    numbers = λ p.
        let h = once_blanks E p 0 terms.passes in
        let count : ℕ = count_by (is_for {E = E} p) (blanks 0 terms.passes) in
        once_same count (0 + count) (omega arith) (h.0, λ pos. let q = h.1 pos in let q1 = q.1 in omega arith);
    seats = each_one (λ d. FitsSeat maker 0 [] (origin terms.opened.value) d) (first_dealer origin terms) ((λ _. refl), true_blanks maker 0 terms.passes, tt);
    at_home = λ _. (x, refl, same, empty);
    counted = refl;
    makers = All-nil (λ e. maker e < terms.passes);
  }
    where
      each_one : (P : V → Type 0) (v : V) → P v → (j : ℕ) (d : V) → get_elem? (v ∷ []) j ≡ some d → P d
      each_one P v h zero d e = subst P (some-injective v d e) h
      each_one P v h (suc j) d e = absurd (some-ne-none d (sym e))

-- the loop that deals
pub one_more : (k n : ℕ) → k < n → (r : ℕ) × (n - k ≡ suc r) × (n - (k + 1) ≡ r) × (suc k ≡ k + 1)
one_more k n h = (n - (k + 1), omega arith, refl, omega arith)

pub dealt_enough : (k n takes : ℕ) → k < n → takes ≤ (n - k) * takes
dealt_enough k n takes h = let m = one_more k n h in let e : (n - k) * takes ≡ suc m.0 * takes = ap (λ (z : ℕ). z * takes) m.1 in omega (arith, suc-mul m.0 takes)

module _ {E : Type 0} where
  pub dealt_head : (k n : ℕ) → k < n → blanks {E = E} k (n - k) ≡ blank k ∷ blanks (k + 1) (n - (k + 1))
  dealt_head k n h = let m = one_more k n h in ap (λ (z : ℕ). blanks {E = E} k z) m.1 ∙ (λ i. blank k ∷ blanks (m.3 i) (sym m.2 i))

module _ {E O : Type 0} where
  pub dealt_next : (o : O) (takes k n : ℕ) → k < n → rest_of_deal {E = E} (dealer o takes k (n - k)) ≡ dealer o takes (k + 1) (n - (k + 1))
  dealt_next o takes k n h =
      let m = one_more k n h in
      let less : suc m.0 * takes - takes ≡ m.0 * takes = (let x : ℕ = m.0 * takes in let e : suc m.0 * takes ≡ x + takes = omega (arith, suc-mul m.0 takes) in omega arith) in
      ap (λ (z : ℕ). rest_of_deal {E = E} (dealer o takes k z)) m.1 ∙ (λ i. record { stage = (dealer {E = E} o takes k (suc m.0)).stage; left = less i; share = takes; origin = Some o; knows = blanks (m.3 i) m.0 }) ∙ ap (λ (z : ℕ). dealer o takes (k + 1) z) (sym m.2)

-- one number more at the end
pub range_with_len-push : (a n : ℕ) → range_with_len a (suc n) ≡ range_with_len a n ++ (a + n) ∷ []
range_with_len-push a zero = ap (λ (k : ℕ). k ∷ []) (omega arith)
range_with_len-push a (suc n) = ap (λ l. a ∷ l) (range_with_len-push (a + 1) n) ∙ ap (λ (k : ℕ). a ∷ (range_with_len (a + 1) n ++ k ∷ [])) (omega arith)

-- the numbers of the passes that are dealt
pub numbers_dealt : {X : Type 0} → (f : X → ℕ) (xs : List X) (x : X) (n : ℕ) → map f xs ≡ range_with_len 0 n → f x ≡ n → map f (xs ++ x ∷ []) ≡ range_with_len 0 (n + 1)
numbers_dealt f xs x n old new = map-append f xs (x ∷ []) ∙ (ap (λ l. l ++ f x ∷ []) old ∙ (ap (λ (k : ℕ). range_with_len 0 n ++ k ∷ []) (new ∙ omega arith) ∙ (sym (range_with_len-push 0 n) ∙ ap (range_with_len 0) (sym (add-one n)))))

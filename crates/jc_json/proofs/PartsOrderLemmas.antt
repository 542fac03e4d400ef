-- About Parts: keys that are sorted by their texts stand as they do where each is put in its place, one after the other.
use Rattle.std.proofs.Common.{◌≡◌, ◌≢◌, ℕ, zero, suc, ◌+◌, ◌<◌, ◌≤◌, List, [], ◌∷◌, ◌++◌, map, length, get_or, Bool, true, false, eqb, eqb-true, ne_eqb, Contains, IsPermutation, IsSortedBy, is_lt, Bor, nat_cmp, refl, sym, ap, ◌∙◌, subst, append_assoc, append-nil, arith}
use denote.Param.Members.{Mut}
use Rattle.std.specs.List.{AllByRecursion, IsDistinct}
use Rattle.std.specs.Ordering.{ordering_then}
use Rattle.std.specs.declared.cmp.Ordering.{Ordering}
use Rattle.std.specs.declared.cmp.Ordering.TheVariants.{Less, Equal, Greater}
use Rattle.std.specs.Cmp.{IsTotalOrder, IsStrictWeakOrder, tied_itself, then_total, on_total, nat_cmp_total}
use Rattle.std.specs.BTreeMap.{insert_entry}
use Rattle.std.specs.Fn.{Called, ComparesAs}
use Rattle.std.proofs.lemmas.Bool.{eqb-false}
use Rattle.std.proofs.lemmas.Cmp.{ranked}
use Rattle.std.proofs.lemmas.Fn.{always_returns_same}
use Rattle.std.proofs.lemmas.List.Sorted.{ranks_by, sorted_far, IsPermutation-refl, IsPermutation-sym, IsPermutation-cons, IsPermutation-trans, IsPermutation-middle, IsPermutation-append_left, IsPermutation-map, Contains-permutation}
use Rattle.std.proofs.lemmas.List.{map-append}
use Rattle.std.proofs.lemmas.Map.Keys.{IsDistinct-head, IsDistinct-tail, IsDistinct-IsPermutation}
use Rattle.std.proofs.lemmas.Map.Made.{Contains-tail}
use Rattle.jc_rules.specs.declared.key.Key.{Key}
use Rattle.jc_rules.specs.Order.{key_cmp, name_cmp}
use Rattle.jc_rules.specs.Entries.{IsRising}
use Rattle.jc_rules.specs.Context.{Context}
use Rattle.jc_rules.specs.WellFormed.{IsWellFormedContext}
use Rattle.jc_rules.proofs.OrderLemmas.{names_total}
use Rattle.jc_rules.proofs.RisingLemmas.{greater_less}
use Rattle.jc_tree.specs.declared.store.Hint.{Hint}
use Rattle.jc_tree.specs.Tree.{all_keys}
use Rattle.jc_json.specs.Json.{closed_text}
use Rattle.jc_json.specs.Parts.{LentText, Texts, keys_in, HasTexts, AreNumbered, AreTextsFrom, text_cmp, AreInOrder, AreTextsOf}
use Rattle.jc_json.proofs.PartsTextsLemmas.{over, goes_first, goes_on, all_inserted, AreTextsSoFar, texts_begin, texts_go_on, texts_end}

-- ---- the order of the texts

texts_total : IsTotalOrder text_cmp
texts_total = then_total (on_total (λ (s : Bor (List ℕ) × ℕ). s.0.now) names_total) (on_total (λ (s : Bor (List ℕ) × ℕ). s.1) nat_cmp_total)

-- the test by which they are sorted
abbrev pub is_below : LentText → LentText → Bool
is_below t u = is_lt (text_cmp t.0 u.0)

below_ranks : IsStrictWeakOrder is_below
below_ranks = ranks_by texts_total (λ (t : LentText). t.0)

-- a sort whose calls compare the texts sorts by it
pub sorted_by_texts : {F : Type 0} {g : Mut F (Bor LentText × (Bor LentText × Unit {0})) Ordering} {f : F} (ts : Texts) → ((lt : LentText → LentText → Bool) → IsStrictWeakOrder lt → ComparesAs g lt f → IsSortedBy lt ts)
    → ((a : Bor LentText × (Bor LentText × Unit {0})) (r : Ordering) (f' : F) → Called g f a r f' → (r ≡ text_cmp a.0.now.0 a.1.0.now.0) × (f' ≡ f)) → IsSortedBy is_below ts
sorted_by_texts {g = g} {f = f} ts sorted h = sorted is_below below_ranks (always_returns_same g (λ a r. is_lt r ≡ is_below a.0.now a.1.0.now) f (λ a r f' k. (ap is_lt (h a r f' k).0, (h a r f' k).1)))

-- neither above nor of the same number
below_other : (s t : Bor (List ℕ) × ℕ) → is_lt (text_cmp t s) ≡ false → eqb s.1 t.1 ≡ false → text_cmp s t ≡ Less
below_other s t a d = go (name_cmp s.0.now t.0.now) (nat_cmp s.1 t.1) refl refl
  where
    above : text_cmp s t ≡ Greater → text_cmp s t ≡ Less
    above e = let f : text_cmp t s ≡ Less = greater_less texts_total s t e in let g : true ≡ false = sym (ap is_lt f) ∙ a in cc

    go : (o p : Ordering) → name_cmp s.0.now t.0.now ≡ o → nat_cmp s.1 t.1 ≡ p → text_cmp s t ≡ Less
    go Less p e f = ap (λ o. ordering_then o (nat_cmp s.1 t.1)) e
    go Greater p e f = above (ap (λ o. ordering_then o (nat_cmp s.1 t.1)) e)
    go Equal Less e f = ap (λ o. ordering_then o (nat_cmp s.1 t.1)) e ∙ f
    go Equal Greater e f = above (ap (λ o. ordering_then o (nat_cmp s.1 t.1)) e ∙ f)
    go Equal Equal e f = absurd (eqb-false s.1 t.1 d (ranked s.1 t.1 Equal (sym f)))

-- ---- numbers

abbrev numbers_in : Texts → List ℕ
numbers_in ts = map (λ (t : LentText). t.0.1) ts

-- one more
numbered_end : (n : ℕ) (ts : Texts) (t : LentText) → AreNumbered n ts → t.0.1 ≡ n + length ts → AreNumbered n (ts ++ t ∷ [])
numbered_end n [] t a h = (omega (arith, h), tt)
numbered_end n (u ∷ ts) t a h = (a.0, numbered_end (n + 1) ts t a.1 (omega (arith, h)))

other_numbers : (m n : ℕ) (ts : Texts) → m < n → AreNumbered n ts → AllByRecursion (λ k. eqb m k ≡ false) (numbers_in ts)
other_numbers m n [] l a = tt
other_numbers m n (t ∷ ts) l a = (ne_eqb m t.0.1 (λ e. omega (arith, l, a.0, e)), other_numbers m (n + 1) ts (omega (arith, l)) a.1)

distinct_numbers : (n : ℕ) (ts : Texts) → AreNumbered n ts → IsDistinct eqb (numbers_in ts)
unfolding IsDistinct
distinct_numbers n [] a = tt
distinct_numbers n (t ∷ ts) a = (other_numbers t.0.1 (n + 1) ts (omega (arith, a.0)) a.1, distinct_numbers (n + 1) ts a.1)

eqb-flips : (m n : ℕ) → eqb m n ≡ eqb n m
eqb-flips m n = go (eqb m n) (eqb n m) refl refl
  where
    go : (a b : Bool) → eqb m n ≡ a → eqb n m ≡ b → eqb m n ≡ eqb n m
    go true true e f = e ∙ sym f
    go false false e f = e ∙ sym f
    go true false e f = absurd (eqb-false n m f (sym (eqb-true m n e)))
    go false true e f = absurd (eqb-false m n e (sym (eqb-true n m f)))

-- ---- the texts of the keys, one after the other

all_end : (P : LentText → Type 0) (ts : Texts) (t : LentText) → AllByRecursion P ts → P t → AllByRecursion P (ts ++ t ∷ [])
all_end P [] t a p = (p, tt)
all_end P (u ∷ ts) t a p = (a.0, all_end P ts t a.1 p)

module _ (names : List (List ℕ)) where
  pub from_begins : AreTextsFrom names [] []
  from_begins = record { texts = tt; numbers = tt; keys = refl }

  pub from_goes_on : (ks : List Key) (n : ℕ) (ts : Texts) (s : Bor (List ℕ)) (v : Bor Key × Hint) → length ts ≡ n → s.now ≡ closed_text names v.0.now → AreTextsFrom names ks ts → AreTextsFrom names (ks ++ v.0.now ∷ []) (ts ++ ((s, n), v) ∷ [])
  from_goes_on ks n ts s v e is f = record {
    texts = all_end (λ (t : LentText). t.0.0.now ≡ closed_text names t.1.0.now) ts ((s, n), v) f.texts is;
    numbers = numbered_end 0 ts ((s, n), v) f.numbers (omega (arith, e));
    keys = map-append (λ (t : LentText). t.1.0.now) ts (((s, n), v) ∷ []) ∙ ap (λ js. js ++ v.0.now ∷ []) f.keys;
  }

-- ---- what is sorted and has numbers of its own rises

all_above : (d t : LentText) (us : Texts) → AllByRecursion (λ m. eqb t.0.1 m ≡ false) (numbers_in us) → ((k : ℕ) → k < length us → is_below (get_or us k d) t ≡ false) → AllByRecursion (λ (u : LentText). text_cmp t.0 u.0 ≡ Less) us
all_above d t [] a h = tt
all_above d t (u ∷ us) a h = (below_other t.0 u.0 (h 0 (omega arith)) a.0, all_above d t us a.1 (λ k l. h (suc k) (omega (arith, l))))

rises : (d : LentText) (ts : Texts) → IsDistinct eqb (numbers_in ts) → ((i j : ℕ) → i ≤ j → j < length ts → is_below (get_or ts j d) (get_or ts i d) ≡ false) → AreInOrder ts
rises d [] a h = tt
rises d (t ∷ ts) a h = (
  all_above d t ts (IsDistinct-head eqb t.0.1 (numbers_in ts) a) (λ k l. h 0 (suc k) (omega arith) (omega (arith, l))),
  rises d ts (IsDistinct-tail eqb t.0.1 (numbers_in ts) a) (λ i j p l. h (suc i) (suc j) (omega (arith, p)) (omega (arith, l))),
)

sorted_rises : (ts : Texts) → IsDistinct eqb (numbers_in ts) → IsSortedBy is_below ts → AreInOrder ts
sorted_rises [] a s = tt
sorted_rises (t ∷ ts) a s = rises t (t ∷ ts) a (λ i j p l. sorted_far is_below below_ranks (t ∷ ts) s i j t p l)

-- ---- lists that rise and have the same elements

-- what is there is above what all are above
above_at : (s : Bor (List ℕ) × ℕ) (ts : Texts) (u : LentText) (k : ℕ) → k < length ts → get_or ts k u ≡ u → AllByRecursion (λ (t : LentText). text_cmp s t.0 ≡ Less) ts → text_cmp s u.0 ≡ Less
above_at s [] u k l e a = absurd (omega (arith, l))
above_at s (t ∷ ts) u zero l e a = subst (λ (x : LentText). text_cmp s x.0 ≡ Less) e a.0
above_at s (t ∷ ts) u (suc k) l e a = above_at s ts u k (omega (arith, l)) e a.1

not_below_itself : (s : Bor (List ℕ) × ℕ) → text_cmp s s ≢ Less
not_below_itself s h = let e : Equal ≡ Less = sym (tied_itself texts_total s) ∙ h in cc

same_head : (t u : LentText) (ts us : Texts) → AreInOrder (t ∷ ts) → AreInOrder (u ∷ us) → Contains (u ∷ us) t → Contains (t ∷ ts) u → t ≡ u
same_head t u ts us a b c d = go c.0 d.0 c.1 c.2 d.1 d.2
  where
    go : (i j : ℕ) → i < length (u ∷ us) → get_or (u ∷ us) i t ≡ t → j < length (t ∷ ts) → get_or (t ∷ ts) j u ≡ u → t ≡ u
    go zero j l e m f = sym e
    go (suc i) zero l e m f = f
    go (suc i) (suc j) l e m f = absurd (not_below_itself t.0 (texts_total.trans t.0 u.0 t.0 (above_at t.0 ts u j (omega (arith, m)) f a.0) (above_at u.0 us t i (omega (arith, l)) e b.0)))

further : (t : LentText) (ts : Texts) (u : LentText) → Contains ts u → Contains (t ∷ ts) u
further t ts u c = (suc c.0, omega (arith, c.1), c.2)

apart : (t u : LentText) (ts : Texts) → AreInOrder (t ∷ ts) → Contains ts u → t ≢ u
apart t u ts a c e = not_below_itself t.0 (subst (λ (x : LentText). text_cmp t.0 x.0 ≡ Less) (sym e) (above_at t.0 ts u c.0 c.1 c.2 a.0))

same_texts : (ts us : Texts) → AreInOrder ts → AreInOrder us → ((t : LentText) → Contains ts t → Contains us t) → ((t : LentText) → Contains us t → Contains ts t) → ts ≡ us
same_texts [] [] a b f g = refl
same_texts [] (u ∷ us) a b f g = let c = g u (0, omega arith, refl) in absurd (omega (arith, c.1))
same_texts (t ∷ ts) [] a b f g = let c = f t (0, omega arith, refl) in absurd (omega (arith, c.1))
same_texts (t ∷ ts) (u ∷ us) a b f g =
    let e : t ≡ u = same_head t u ts us a b (f t (0, omega arith, refl)) (g u (0, omega arith, refl)) in
    let rest : ts ≡ us =
    same_texts ts us a.1 b.1
    (λ x c. Contains-tail u us x (subst (λ (y : LentText). y ≢ x) e (apart t x ts a c)) (f x (further t ts x c)))
    (λ x c. Contains-tail t ts x (subst (λ (y : LentText). y ≢ x) (sym e) (apart u x us b c)) (g x (further u us x c))) in
    ap (λ x. x ∷ ts) e ∙ ap (λ xs. u ∷ xs) rest

-- ---- each put in its place

abbrev put_in : Texts → Texts → Texts
put_in ts [] = ts
put_in ts (u ∷ us) = put_in (insert_entry text_cmp ts u.0 u.1) us

module _ (t : Bor (List ℕ)) (n : ℕ) (v : Bor Key × Hint) where
  below_all : (u : LentText) (ts : Texts) → text_cmp (t, n) u.0 ≡ Less → AllByRecursion (λ (w : LentText). text_cmp u.0 w.0 ≡ Less) ts → AllByRecursion (λ (w : LentText). text_cmp (t, n) w.0 ≡ Less) ts
  below_all u [] e a = tt
  below_all u (w ∷ ts) e a = (texts_total.trans (t, n) u.0 w.0 e a.0, below_all u ts e a.1)

  inserted_in_order : (ts : Texts) → AllByRecursion (λ (u : LentText). u.0.1 < n) ts → AreInOrder ts → AreInOrder (insert_entry text_cmp ts (t, n) v)
  inserted_in_order [] l s = (tt, tt)
  inserted_in_order (u ∷ ts) l s = go (name_cmp t.now u.0.0.now) refl (inserted_in_order ts l.1 s.1)
    where
      after : text_cmp (t, n) u.0 ≡ Greater → AreInOrder (insert_entry text_cmp ts (t, n) v) → AreInOrder (insert_entry text_cmp (u ∷ ts) (t, n) v)
      after e ih = subst AreInOrder (sym (goes_on t n v u ts e)) (all_inserted (λ (w : LentText). text_cmp u.0 w.0 ≡ Less) ts t n v l.1 (greater_less texts_total (t, n) u.0 e) s.0, ih)

      go : (o : Ordering) → name_cmp t.now u.0.0.now ≡ o → AreInOrder (insert_entry text_cmp ts (t, n) v) → AreInOrder (insert_entry text_cmp (u ∷ ts) (t, n) v)
      go Less f ih =
          let e : text_cmp (t, n) u.0 ≡ Less = ap (λ o. ordering_then o (nat_cmp n u.0.1)) f in
          subst AreInOrder (sym (goes_first t n v u ts e)) ((e, below_all u ts e s.0), s)
      go Equal f ih = after (ap (λ o. ordering_then o (nat_cmp n u.0.1)) f ∙ over u.0.1 n l.0) ih
      go Greater f ih = after (ap (λ o. ordering_then o (nat_cmp n u.0.1)) f) ih

  inserted_moves : (ts : Texts) → AllByRecursion (λ (u : LentText). u.0.1 < n) ts → IsPermutation (((t, n), v) ∷ ts) (insert_entry text_cmp ts (t, n) v)
  inserted_moves [] l = IsPermutation-refl _
  inserted_moves (u ∷ ts) l = go (name_cmp t.now u.0.0.now) refl (inserted_moves ts l.1)
    where
      after : text_cmp (t, n) u.0 ≡ Greater → IsPermutation (((t, n), v) ∷ ts) (insert_entry text_cmp ts (t, n) v) → IsPermutation (((t, n), v) ∷ u ∷ ts) (insert_entry text_cmp (u ∷ ts) (t, n) v)
      after e ih = subst (IsPermutation (((t, n), v) ∷ u ∷ ts)) (sym (goes_on t n v u ts e)) (IsPermutation-trans _ _ _ (IsPermutation-middle (((t, n), v) ∷ []) u ts) (IsPermutation-cons u _ _ ih))

      go : (o : Ordering) → name_cmp t.now u.0.0.now ≡ o → IsPermutation (((t, n), v) ∷ ts) (insert_entry text_cmp ts (t, n) v) → IsPermutation (((t, n), v) ∷ u ∷ ts) (insert_entry text_cmp (u ∷ ts) (t, n) v)
      go Less f ih = subst (IsPermutation (((t, n), v) ∷ u ∷ ts)) (sym (goes_first t n v u ts (ap (λ o. ordering_then o (nat_cmp n u.0.1)) f))) (IsPermutation-refl _)
      go Equal f ih = after (ap (λ o. ordering_then o (nat_cmp n u.0.1)) f ∙ over u.0.1 n l.0) ih
      go Greater f ih = after (ap (λ o. ordering_then o (nat_cmp n u.0.1)) f) ih

-- The texts are those of the keys, in order, and have the elements of this list.
record ArePutIn (names : List (List ℕ)) (ks : List Key) (all ts : Texts) : Type 0 where
  n : ℕ
  so_far : AreTextsSoFar names ks n ts
  order : AreInOrder ts
  moves : IsPermutation all ts

module _ (names : List (List ℕ)) where
  put_in_all : (ks : List Key) (n : ℕ) (all ts us : Texts) → AreTextsSoFar names ks n ts → AreInOrder ts → IsPermutation all (ts ++ us) → AreNumbered n us → HasTexts names us → ArePutIn names (ks ++ keys_in us) all (put_in ts us)
  put_in_all ks n all ts [] f o p a h = record {
    n = n;
    so_far = subst (λ js. AreTextsSoFar names js n ts) (sym (append-nil ks)) f;
    order = o;
    moves = subst (IsPermutation all) (append-nil ts) p;
  }
  put_in_all ks n all ts (u ∷ us) f o p a h =
      let new = insert_entry text_cmp ts (u.0.0, n) u.1 in
      let at : (u.0.0, n) ≡ u.0 = ap (λ m. (u.0.0, m)) (sym a.0) in
      let moved : IsPermutation all (new ++ us) = IsPermutation-trans _ _ _ p
      (IsPermutation-trans _ _ _ (IsPermutation-middle ts u us) (IsPermutation-append_left us (u ∷ ts) new
      (subst (λ s. IsPermutation ((s, u.1) ∷ ts) new) at (inserted_moves u.0.0 n u.1 ts f.numbers)))) in
      let rest : ArePutIn names ((ks ++ u.1.0.now ∷ []) ++ keys_in us) all (put_in new us) =
      put_in_all (ks ++ u.1.0.now ∷ []) (n + 1) all new us (texts_go_on names ks n ts new u.0.0 u.1 o h.0 refl f) (inserted_in_order u.0.0 n u.1 ts f.numbers o) moved a.1 h.1 in
      subst (λ (s : Bor (List ℕ) × ℕ). ArePutIn names (ks ++ u.1.0.now ∷ keys_in us) all (put_in (insert_entry text_cmp ts s u.1) us)) at
      (subst (λ js. ArePutIn names js all (put_in new us)) (append_assoc ks (u.1.0.now ∷ []) (keys_in us)) rest)

  -- so sorting them gives what putting them in their places gives
  sorted_are : (ks : List Key) (all ts : Texts) → AreTextsFrom names ks all → IsPermutation all ts → IsSortedBy is_below ts → ArePutIn names ks all ts
  sorted_are ks all ts f p s =
      let put : ArePutIn names (keys_in all) all (put_in [] all) = put_in_all [] 0 all [] all (texts_begin names) tt (IsPermutation-refl all) f.numbers f.texts in
      let other : IsDistinct eqb (numbers_in ts) = IsDistinct-IsPermutation eqb eqb-flips (numbers_in all) (numbers_in ts) (IsPermutation-map (λ (t : LentText). t.0.1) all ts p) (distinct_numbers 0 all f.numbers) in
      let order : AreInOrder ts = sorted_rises ts other s in
      let same : put_in [] all ≡ ts = same_texts (put_in [] all) ts put.order order
      (λ t c. Contains-permutation all ts t p (Contains-permutation (put_in [] all) all t (IsPermutation-sym _ _ put.moves) c))
      (λ t c. Contains-permutation all (put_in [] all) t put.moves (Contains-permutation ts all t (IsPermutation-sym _ _ p) c)) in
      subst (ArePutIn names ks all) same (subst (λ js. ArePutIn names js all (put_in [] all)) f.keys put)

  pub sorted_in_order : (ks : List Key) (all ts : Texts) → AreTextsFrom names ks all → IsPermutation all ts → IsSortedBy is_below ts → AreInOrder ts
  sorted_in_order ks all ts f p s = (sorted_are ks all ts f p s).order

  pub sorted_texts : (c : Context) (ks : List Key) (all ts : Texts) → IsWellFormedContext c → IsRising key_cmp ks → AllByRecursion (Contains ks) (all_keys c) → AreTextsFrom names ks all → IsPermutation all ts → IsSortedBy is_below ts → AreTextsOf names c ts
  sorted_texts c ks all ts kept r a f p s =
      let put = sorted_are ks all ts f p s in
      texts_end names c ks put.n ts kept r a put.so_far

-- About Numbered: keys with their numbers.
use Rattle.std.proofs.Common.{◌≡◌, ◌≢◌, ◌==◌, ◌&&◌, ◌<◌, ◌≤◌, ◌-◌, ◌+◌, ◌⊎◌, inl, inr, ℕ, zero, suc, List, [], ◌∷◌, ◌++◌, length, take, get_or, slice_get, position, filter, if◌then◌else◌, Option, Some, None, is_some, IsSome, option_to_list, Bool, true, false, cond, refl, sym, ◌∙◌, ap, subst, true≢false, arith}
use Rattle.std.specs.List.{AllByRecursion, list_any}
use Rattle.std.specs.Ordering.{eq_by_cmp}
use Rattle.std.specs.declared.cmp.Ordering.TheVariants.{Less}
use Rattle.std.proofs.lemmas.List.{length-append}
use Rattle.std.proofs.Math.Seq.{take-append_seam}
use Rattle.std.specs.BTreeMap.{insert_entry}
use Rattle.std.specs.BTreeMap.Range.{entries_between}
use Rattle.std.specs.declared.ops.Bound.TheVariants.{Excluded, Unbounded}
use Rattle.indexmap.specs.IndexSet.{insert_key}
use Rattle.std.proofs.lemmas.List.Folds.{list_any_at}
use Rattle.std.proofs.lemmas.List.Quantifiers.{position-Some}
use Rattle.std.proofs.lemmas.Option.{same_Some, slice_get_within, slice_get-get_or, get_or_from_slice_get, slice_get_cases}
use Rattle.std.proofs.lemmas.Bool.{eqb-true, eq-eqb}
use Rattle.std.specs.Cmp.Lexicographic.{bytes_decides}
use Rattle.jc_rules.specs.contracts.key.KeyOrd.TheImpl.{cmp-value}
use Rattle.jc_rules.specs.contracts.key.KeyPartialEq.TheImpl.{eq-value}
use Rattle.jc_rules.specs.declared.key.Key.{Key}
use Rattle.jc_rules.specs.declared.key.Key.TheVariants.{Doc, Head, Name, Elem}
use Rattle.jc_rules.specs.Order.{key_cmp}
use Rattle.jc_rules.specs.Entries.{keys_of, find, put}
use Rattle.jc_rules.proofs.OrderLemmas.{keys_total, exact_keys}
use Rattle.jc_rules.proofs.EntriesLemmas.{same-self, same-back, same-eq, find-put, found-put, rising-put}
use Rattle.jc_tree.specs.Sorted.{AreSorted}
use Rattle.jc_tree.specs.Tree.{is_after}
use Rattle.jc_tree.specs.Undo.{removed}
use Rattle.jc_tree.specs.Numbered.{Numbering, IsNumbered, GetsNumber, with_key}
use Rattle.jc_tree.specs.Numbered.GetsNumber.{had, gets}
use Rattle.jc_tree.proofs.SortedMapLemmas.{insert_is, between_is}

abbrev same : Key → Key → Bool
same j k = eq_by_cmp key_cmp j k

self : (k : Key) → same k k ≡ true
self k = same-self keys_total exact_keys k

equal : (j k : Key) → same j k ≡ true → j ≡ k
equal j k h = same-eq keys_total exact_keys j k h

get_left : {X : Type 0} (xs ys : List X) (n : ℕ) → n < length xs → slice_get (xs ++ ys) n ≡ slice_get xs n
get_left [] ys n h = absurd (omega (arith, h))
get_left (x ∷ xs) ys zero h = refl
get_left (x ∷ xs) ys (suc n) h = get_left xs ys n (omega (arith, h))

pub get_last : {X : Type 0} (xs : List X) (x : X) → slice_get (xs ++ x ∷ []) (length xs) ≡ Some x
get_last [] x = refl
get_last (y ∷ xs) x = get_last xs x

get_in_last : {X : Type 0} (xs : List X) (x y : X) (n : ℕ) → slice_get (xs ++ x ∷ []) n ≡ Some y → n ≢ length xs → n < length xs
get_in_last xs x y n h d =
    let w : n < length (xs ++ x ∷ []) = slice_get_within (xs ++ x ∷ []) n y h in
    let l : length (xs ++ x ∷ []) ≡ length xs + 1 = length-append xs (x ∷ []) in
    omega (arith, w, l, d)

pub get_taken : {X : Type 0} (xs : List X) (m n : ℕ) → n < m → slice_get (take m xs) n ≡ slice_get xs n
get_taken xs zero n h = absurd (omega (arith, h))
get_taken [] (suc m) n h = refl
get_taken (x ∷ xs) (suc m) zero h = refl
get_taken (x ∷ xs) (suc m) (suc n) h = get_taken xs m n (omega (arith, h))

pub length_taken : {X : Type 0} (m : ℕ) (xs : List X) → length (take m xs) ≤ m
length_taken zero xs = omega arith
length_taken (suc m) [] = omega arith
length_taken (suc m) (x ∷ xs) = omega (arith, length_taken m xs)

-- the number of a key that is found, and the key of a number
pub key_at : (t : Numbering) → IsNumbered t → (k : Key) (n : ℕ) → find key_cmp k t.order ≡ Some n → slice_get t.keys n ≡ Some k
key_at t i k n f = (i.same k n).0 f

pub number_at : (t : Numbering) → IsNumbered t → (k : Key) (n : ℕ) → slice_get t.keys n ≡ Some k → find key_cmp k t.order ≡ Some n
number_at t i k n g = (i.same k n).1 g

-- two keys with one number are the same
pub one_key : (t : Numbering) → IsNumbered t → (j k : Key) (n : ℕ) → find key_cmp j t.order ≡ Some n → find key_cmp k t.order ≡ Some n → j ≡ k
one_key t i j k n f g = same_Some j k (sym (key_at t i j n f) ∙ key_at t i k n g)

-- a key has the number that it gets
pub has_number : (k : Key) (n : ℕ) (old new : Numbering) → GetsNumber k n old new → find key_cmp k new.order ≡ Some n
has_number k n old new (had f s) = ap (λ (t : Numbering). find key_cmp k t.order) s ∙ f
has_number k n old new (gets f m s) = ap (λ (t : Numbering). find key_cmp k t.order) s ∙ found-put keys_total exact_keys k (length old.keys) old.order ∙ ap Some (sym m)

-- the number that a key gets is one of the numbers
pub number_within : (k : Key) (n : ℕ) (old new : Numbering) → IsNumbered new → GetsNumber k n old new → n < length new.keys
number_within k n old new i g = slice_get_within new.keys n k (key_at new i k n (has_number k n old new g))

-- there are no fewer keys than before
pub keys_grow : (k : Key) (n : ℕ) (old new : Numbering) → GetsNumber k n old new → length old.keys ≤ length new.keys
keys_grow k n old new (had f s) = let l : length new.keys ≡ length old.keys = ap (λ (t : Numbering). length t.keys) s in omega (arith, l)
keys_grow k n old new (gets f m s) =
    let l : length new.keys ≡ length old.keys + 1 = ap (λ (t : Numbering). length t.keys) s ∙ length-append old.keys (k ∷ []) in
    omega (arith, l)

-- what a search by the hash finds is the number
pub number_is : (eq : Key → Key → Bool) → ((j k : Key) → eq j k ≡ true → j ≡ k) → ((k : Key) → eq k k ≡ true) → (k : Key) (t : Numbering) (o : Option ℕ) → IsNumbered t → o ≡ position (eq k) t.keys → is_some o ≡ list_any (eq k) t.keys → o ≡ find key_cmp k t.order
number_is eq exact own k t (Some n) i p s =
    let f = position-Some (eq k) t.keys n k (sym p) in
    let e : k ≡ get_or t.keys n k = exact k (get_or t.keys n k) f.1 in
    sym (number_at t i k n (slice_get-get_or t.keys n k f.0 ∙ ap Some (sym e)))
number_is eq exact own k t None i p s = go (find key_cmp k t.order) refl
  where
    go : (o : Option ℕ) → find key_cmp k t.order ≡ o → None ≡ find key_cmp k t.order
    go None f = sym f
    go (Some n) f =
        let g : slice_get t.keys n ≡ Some k = key_at t i k n f in
        let e : get_or t.keys n k ≡ k = get_or_from_slice_get t.keys n k k g in
        let a : list_any (eq k) t.keys ≡ true = list_any_at (eq k) t.keys n k (slice_get_within t.keys n k g) (ap (eq k) e ∙ own k) in
        let c : false ≡ true = s ∙ a in
        cc

both : (a b : Bool) → a && b ≡ true → (a ≡ true) × (b ≡ true)
both true b h = (refl, h)
both false b h = absurd (true≢false (sym h))

-- the derived equality of keys tells different keys apart
equal_keys : (j k : Key) → eq-value.it j k ≡ true → j ≡ k
equal_keys Doc Doc h = refl
equal_keys Head Head h = refl
equal_keys (Name s) (Name t) h = ap Name ((bytes_decides s t).0 h)
equal_keys (Elem i) (Elem j) h =
    let b = both (i.counter == j.counter) (i.replica == j.replica) h in
    ap (λ (p : ℕ × ℕ). Elem (record { counter = p.0; replica = p.1 })) (λ a. (eqb-true i.counter j.counter b.0 a, eqb-true i.replica j.replica b.1 a))
equal_keys Doc Head h = cc
equal_keys Doc (Name t) h = cc
equal_keys Doc (Elem t) h = cc
equal_keys Head Doc h = cc
equal_keys Head (Name t) h = cc
equal_keys Head (Elem t) h = cc
equal_keys (Name s) Doc h = cc
equal_keys (Name s) Head h = cc
equal_keys (Name s) (Elem t) h = cc
equal_keys (Elem s) Doc h = cc
equal_keys (Elem s) Head h = cc
equal_keys (Elem s) (Name t) h = cc

-- and a key is equal to itself
equal_itself : (k : Key) → eq-value.it k k ≡ true
equal_itself Doc = refl
equal_itself Head = refl
equal_itself (Name s) = (bytes_decides s s).1 refl
equal_itself (Elem i) = rw (eq-eqb i.counter i.counter refl, eq-eqb i.replica i.replica refl) refl

pub number_of_key : (k : Key) (t : Numbering) (o : Option ℕ) → IsNumbered t → o ≡ position (eq-value.it k) t.keys → is_some o ≡ list_any (eq-value.it k) t.keys → o ≡ find key_cmp k t.order
number_of_key = number_is eq-value.it equal_keys equal_itself

not_among : (k : Key) (ks : List Key) → ((n : ℕ) → slice_get ks n ≢ Some k) → list_any (eq-value.it k) ks ≡ false
not_among k [] h = refl
not_among k (j ∷ ks) h = go (eq-value.it k j) refl (not_among k ks (λ n. h (suc n)))
  where
    go : (b : Bool) → eq-value.it k j ≡ b → list_any (eq-value.it k) ks ≡ false → list_any (eq-value.it k) (j ∷ ks) ≡ false
    go true e ih = absurd (h 0 (ap Some (sym (equal_keys k j e))))
    go false e ih = rw e ih

-- a key that has no number isn't among the keys
absent_key : (k : Key) (t : Numbering) → IsNumbered t → find key_cmp k t.order ≡ None → list_any (eq-value.it k) t.keys ≡ false
absent_key k t i f = not_among k t.keys (λ n g. let c : None ≡ Some n = sym f ∙ number_at t i k n g in cc)

-- a key that is put in last, with the next number, gets it
pub number_given : (k i j : Key) (n : ℕ) (t : Numbering) (ks ks' : List Key) (es : List (Key × ℕ)) → IsNumbered t → find key_cmp k t.order ≡ None → ks ≡ t.keys → n ≡ length ks → i ≡ k → j ≡ k → ks' ≡ insert_key eq-value.it ks i → es ≡ insert_entry cmp-value.it t.order j n → GetsNumber k n t (record { keys = ks'; order = es })
number_given k i j n t ks ks' es h f a m b c p q = gets f (m ∙ ap length a) (λ x. record { keys = keys x; order = order x })
  where
    keys : ks' ≡ t.keys ++ k ∷ []
    keys = p ∙ (λ x. insert_key eq-value.it (a x) (b x)) ∙ ap (λ (y : Bool). if y then t.keys else t.keys ++ k ∷ []) (absent_key k t h f)

    order : es ≡ put key_cmp k (length t.keys) t.order
    order = q ∙ insert_is j n t.order h.rise ∙ (λ x. put key_cmp (c x) ((m ∙ ap length a) x) t.order)

-- a numbering without a key is one with it
pub with_key_numbered : (k : Key) (t : Numbering) → IsNumbered t → find key_cmp k t.order ≡ None → IsNumbered (with_key k t)
with_key_numbered k t i f = record {
  rise = rising-put keys_total exact_keys k (length t.keys) t.order i.rise;
  same = λ j n. (there j n, back j n);
}
  where
    there : (j : Key) (n : ℕ) → find key_cmp j (put key_cmp k (length t.keys) t.order) ≡ Some n → slice_get (t.keys ++ k ∷ []) n ≡ Some j
    there j n h = go (same j k) refl
      where
        found : find key_cmp j (put key_cmp k (length t.keys) t.order) ≡ cond (same j k) (Some (length t.keys)) (find key_cmp j t.order)
        found = find-put keys_total exact_keys j k (length t.keys) t.order

        go : (b : Bool) → same j k ≡ b → slice_get (t.keys ++ k ∷ []) n ≡ Some j
        go true e =
            let s : Some (length t.keys) ≡ Some n = sym (ap (λ b. cond b (Some (length t.keys)) (find key_cmp j t.order)) e) ∙ sym found ∙ h in
            ap (slice_get (t.keys ++ k ∷ [])) (sym (same_Some (length t.keys) n s)) ∙ get_last t.keys k ∙ ap Some (sym (equal j k e))
        go false e =
            let s : find key_cmp j t.order ≡ Some n = sym (ap (λ b. cond b (Some (length t.keys)) (find key_cmp j t.order)) e) ∙ sym found ∙ h in
            let g : slice_get t.keys n ≡ Some j = key_at t i j n s in
            get_left t.keys (k ∷ []) n (slice_get_within t.keys n j g) ∙ g

    back : (j : Key) (n : ℕ) → slice_get (t.keys ++ k ∷ []) n ≡ Some j → find key_cmp j (put key_cmp k (length t.keys) t.order) ≡ Some n
    back j n h = find-put keys_total exact_keys j k (length t.keys) t.order ∙ go (same j k) refl
      where
        last : n ≡ length t.keys → k ≡ j
        last e = same_Some k j (sym (get_last t.keys k) ∙ ap (slice_get (t.keys ++ k ∷ [])) (sym e) ∙ h)

        within : n < length t.keys → find key_cmp j t.order ≡ Some n
        within l = number_at t i j n (sym (get_left t.keys (k ∷ []) n l) ∙ h)

        at_end : j ≡ k → n ≡ length t.keys
        at_end e = by (slice_get_cases t.keys n).1
          where
            by : (((x : Key) × (n < length t.keys) × (slice_get t.keys n ≡ Some x) × (get_or t.keys n x ≡ x)) ⊎ ((length t.keys ≤ n) × (slice_get t.keys n ≡ None))) → n ≡ length t.keys
            by (inl c) = let d : None ≡ Some n = sym f ∙ ap (λ i. find key_cmp i t.order) (sym e) ∙ within c.1 in cc
            by (inr c) =
                let w : n < length (t.keys ++ k ∷ []) = slice_get_within (t.keys ++ k ∷ []) n j h in
                let l : length (t.keys ++ k ∷ []) ≡ length t.keys + 1 = length-append t.keys (k ∷ []) in
                omega (arith, w, l, c.0)

        go : (b : Bool) → same j k ≡ b → cond (same j k) (Some (length t.keys)) (find key_cmp j t.order) ≡ Some n
        go true e = ap (λ b. cond b (Some (length t.keys)) (find key_cmp j t.order)) e ∙ ap Some (sym (at_end (equal j k e)))
        go false e = ap (λ b. cond b (Some (length t.keys)) (find key_cmp j t.order)) e ∙ within (get_in_last t.keys k j n h (λ l. true≢false (sym (self j) ∙ ap (same j) (sym (last l)) ∙ e)))

module _ {X : Type 0} where
  none_behind : (k : Key) (es : List (Key × X)) → AllByRecursion (λ j. key_cmp k j ≡ Less) (keys_of es) → find key_cmp k es ≡ None
  none_behind k [] a = refl
  none_behind k (f ∷ es) a = rw a.0 (none_behind k es a.1)

  -- what is found without an entry
  pub find_removed : (j k : Key) (es : List (Key × X)) → AreSorted es → find key_cmp j (removed key_cmp k es) ≡ cond (same j k) None (find key_cmp j es)
  find_removed j k [] h = go (same j k)
    where
      go : (b : Bool) → find {X = X} key_cmp j [] ≡ cond b None (find {X = X} key_cmp j [])
      go true = refl
      go false = refl
  find_removed j k (e ∷ es) h = go (same k e.0) refl (same j e.0) refl (find_removed j k es h.1)
    where
      go : (b : Bool) → same k e.0 ≡ b → (c : Bool) → same j e.0 ≡ c → find key_cmp j (removed key_cmp k es) ≡ cond (same j k) None (find key_cmp j es) → find key_cmp j (removed key_cmp k (e ∷ es)) ≡ cond (same j k) None (find key_cmp j (e ∷ es))
      go true q true r ih =
          let s : k ≡ e.0 = equal k e.0 q in
          let u : j ≡ e.0 = equal j e.0 r in
          let d : same j k ≡ true = ap (same j) s ∙ r in
          rw (q, d) (ap (λ i. find key_cmp i es) u ∙ none_behind e.0 es h.0)
      go true q false r ih =
          let s : k ≡ e.0 = equal k e.0 q in
          let d : same j k ≡ false = ap (same j) s ∙ r in
          rw (q, d, r) refl
      go false q true r ih =
          let u : j ≡ e.0 = equal j e.0 r in
          let d : same j k ≡ false = same-back keys_total exact_keys j k ∙ ap (same k) u ∙ q in
          rw (q, d, r) refl
      go false q false r ih = rw (q, r) ih

  all_removed : (P : Key → Type 0) (k : Key) (es : List (Key × X)) → AllByRecursion P (keys_of es) → AllByRecursion P (keys_of (removed key_cmp k es))
  all_removed P k [] a = tt
  all_removed P k (e ∷ es) a = go (same k e.0) refl (all_removed P k es a.1)
    where
      go : (b : Bool) → same k e.0 ≡ b → AllByRecursion P (keys_of (removed key_cmp k es)) → AllByRecursion P (keys_of (removed key_cmp k (e ∷ es)))
      go true q ih = rw q a.1
      go false q ih = rw q (a.0, ih)

  sorted_removed : (k : Key) (es : List (Key × X)) → AreSorted es → AreSorted (removed key_cmp k es)
  sorted_removed k [] h = tt
  sorted_removed k (e ∷ es) h = go (same k e.0) refl (sorted_removed k es h.1)
    where
      go : (b : Bool) → same k e.0 ≡ b → AreSorted (removed key_cmp k es) → AreSorted (removed key_cmp k (e ∷ es))
      go true q ih = rw q h.1
      go false q ih = rw q (all_removed (λ j. key_cmp e.0 j ≡ Less) k es h.0, ih)

-- without the last key, which has the number m
numbered_below : (k : Key) (m : ℕ) (t : Numbering) → IsNumbered t → length t.keys ≡ m + 1 → slice_get t.keys m ≡ Some k → IsNumbered (record { keys = take m t.keys; order = removed key_cmp k t.order })
numbered_below k m t i l h = record { rise = sorted_removed k t.order i.rise; same = λ j n. (there j n, back j n) }
  where
    found : (j : Key) → find key_cmp j (removed key_cmp k t.order) ≡ cond (same j k) None (find key_cmp j t.order)
    found j = find_removed j k t.order i.rise

    there : (j : Key) (n : ℕ) → find key_cmp j (removed key_cmp k t.order) ≡ Some n → slice_get (take m t.keys) n ≡ Some j
    there j n f = go (same j k) refl
      where
        go : (b : Bool) → same j k ≡ b → slice_get (take m t.keys) n ≡ Some j
        go true e = let c : None ≡ Some n = sym (ap (λ b. cond b None (find key_cmp j t.order)) e) ∙ sym (found j) ∙ f in cc
        go false e =
            let s : find key_cmp j t.order ≡ Some n = sym (ap (λ b. cond b None (find key_cmp j t.order)) e) ∙ sym (found j) ∙ f in
            let g : slice_get t.keys n ≡ Some j = key_at t i j n s in
            let w : n < length t.keys = slice_get_within t.keys n j g in
            let d : n ≢ m = λ q. true≢false (sym (self j) ∙ ap (same j) (same_Some j k (sym g ∙ ap (slice_get t.keys) q ∙ h)) ∙ e) in
            get_taken t.keys m n (omega (arith, w, d, l)) ∙ g

    back : (j : Key) (n : ℕ) → slice_get (take m t.keys) n ≡ Some j → find key_cmp j (removed key_cmp k t.order) ≡ Some n
    back j n g = found j ∙ go (same j k) refl
      where
        below : n < m
        below =
            let w : n < length (take m t.keys) = slice_get_within (take m t.keys) n j g in
            let u : length (take m t.keys) ≤ m = length_taken m t.keys in
            omega (arith, w, u)

        s : find key_cmp j t.order ≡ Some n
        s = number_at t i j n (sym (get_taken t.keys m n below) ∙ g)

        go : (b : Bool) → same j k ≡ b → cond (same j k) None (find key_cmp j t.order) ≡ Some n
        go true e =
            let q : n ≡ m = same_Some n m (sym s ∙ ap (λ a. find key_cmp a t.order) (equal j k e) ∙ number_at t i k m h) in
            absurd (omega (arith, q, below))
        go false e = ap (λ b. cond b None (find key_cmp j t.order)) e ∙ s

-- the numbering without its last key is one
pub popped_numbered : (k : Key) (old new : Numbering) → IsNumbered old → slice_get old.keys (length old.keys - 1) ≡ Some k → new.keys ≡ take (length old.keys - 1) old.keys → new.order ≡ removed key_cmp k old.order → IsNumbered new
popped_numbered k old new i h t o =
    let w : length old.keys - 1 < length old.keys = slice_get_within old.keys (length old.keys - 1) k h in
    let popped : Numbering = record { keys = take (length old.keys - 1) old.keys; order = removed key_cmp k old.order } in
    let is : new ≡ popped = λ a. record { keys = t a; order = o a } in
    subst IsNumbered (sym is) (numbered_below k (length old.keys - 1) old i (omega (arith, w)) h)

-- which is a numbering again
pub numbered_again : (k : Key) (n : ℕ) (old new : Numbering) → IsNumbered old → GetsNumber k n old new → IsNumbered new
numbered_again k n old new i (had f s) = subst IsNumbered (sym s) i
numbered_again k n old new i (gets f m s) = subst IsNumbered (sym s) (with_key_numbered k old i f)

last_index : (ks : List Key) (k : Key) → length (ks ++ k ∷ []) - 1 ≡ length ks
last_index ks k = let l : length (ks ++ k ∷ []) ≡ length ks + 1 = length-append ks (k ∷ []) in omega (arith, l)

-- what a pop leaves of keys
pub keys_left : (k : Key) (js ks : List Key) (o : Option Key) → slice_get js (length js - 1) ≡ Some k → (0 < length js → IsSome o) → js ≡ ks ++ option_to_list o → ks ≡ take (length js - 1) js
keys_left k js ks None l s h =
    let w : length js - 1 < length js = slice_get_within js (length js - 1) k l in
    absurd (true≢false (sym (s (omega (arith, w)))))
keys_left k js ks (Some j) l s h = sym (ap (λ (l : List Key). take (length l - 1) l) h ∙ ap (λ n. take n (ks ++ j ∷ [])) (last_index ks j) ∙ take-append_seam ks (j ∷ []))

module _ {X : Type 0} where
  still_found : (j : Key) (x : X) (e : Key × X) (es : List (Key × X)) → AreSorted (e ∷ es) → find key_cmp j es ≡ Some x → find key_cmp j (e ∷ es) ≡ Some x
  still_found j x e es h f = go (same j e.0) refl
    where
      go : (b : Bool) → same j e.0 ≡ b → find key_cmp j (e ∷ es) ≡ Some x
      go true q = let c : None ≡ Some x = sym (none_behind e.0 es h.0) ∙ ap (λ i. find key_cmp i es) (sym (equal j e.0 q)) ∙ f in cc
      go false q = rw q f

  head_found : (d e : Key × X) (es : List (Key × X)) → d ≡ e → find key_cmp e.0 (d ∷ es) ≡ Some e.1
  head_found d e es q = ap (λ (b : Key × X). find key_cmp e.0 (b ∷ es)) q ∙ rw (self e.0) refl

  -- the first entry is found, by its key
  pub first_found : (e : Key × X) (es : List (Key × X)) → slice_get es 0 ≡ Some e → find key_cmp e.0 es ≡ Some e.1
  first_found e [] h = cc
  first_found e (d ∷ es) h = head_found d e es (same_Some d e h)

  -- so is the first that passes
  pub passing_found : (p : Key → Bool) (e : Key × X) (t es : List (Key × X)) → AreSorted es → filter (λ e. p e.0) es ≡ e ∷ t → find key_cmp e.0 es ≡ Some e.1
  passing_found p e t [] h g = let c : None ≡ Some e = ap (λ l. slice_get l 0) g in cc
  passing_found p e t (d ∷ es) h g = go (p d.0) refl (passing_found p e t es h.1)
    where
      go : (b : Bool) → p d.0 ≡ b → (filter (λ e. p e.0) es ≡ e ∷ t → find key_cmp e.0 es ≡ Some e.1) → find key_cmp e.0 (d ∷ es) ≡ Some e.1
      go true q ih =
          let l : d ∷ filter (λ e. p e.0) es ≡ e ∷ t = rw q at g in
          head_found d e es (same_Some d e (ap (λ l. slice_get l 0) l))
      go false q ih = still_found e.0 e.1 d es h (ih (rw q at g))

  -- and so is the first that comes after a key
  pub above_found : (k : Key) (es s t : List (Key × X)) (e : Key × X) → AreSorted es → s ≡ entries_between cmp-value.it (Excluded k) Unbounded es → s ≡ e ∷ t → find key_cmp e.0 es ≡ Some e.1
  above_found k es s t e h b g = passing_found (is_after (Some k)) e t es h (sym (between_is k es) ∙ sym b ∙ g)

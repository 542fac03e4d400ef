-- About Numbered: the entries of a column, in the words of entries by key.
use Rattle.std.proofs.Common.{◌≡◌, ◌≢◌, ◌<◌, ◌≤◌, ◌-◌, ◌+◌, ◌⊎◌, inl, inr, ℕ, zero, suc, slice_set, List, [], ◌∷◌, length, take, get_or, slice_get, Option, Some, None, Bool, true, false, refl, sym, ◌∙◌, ap, subst, true≢false, arith}
use Rattle.std.specs.List.{AllByRecursion}
use Rattle.std.specs.Ordering.{eq_by_cmp}
use Rattle.std.specs.declared.cmp.Ordering.TheVariants.{Less}
use Rattle.std.proofs.lemmas.List.{length-set, length-take-le}
use Rattle.std.proofs.lemmas.Option.{slice_get_past, slice_get_within, slice_get_cases}
use Rattle.jc_rules.specs.declared.key.Key.{Key}
use Rattle.jc_rules.specs.Order.{key_cmp}
use Rattle.jc_rules.specs.Entries.{keys_of, find, replaced, put}
use Rattle.jc_rules.proofs.OrderLemmas.{keys_total, exact_keys}
use Rattle.jc_rules.proofs.EntriesLemmas.{same-self}
use Rattle.jc_rules.proofs.RisingLemmas.{less_greater}
use Rattle.jc_tree.specs.Arena.{go_on}
use Rattle.jc_tree.specs.Sorted.{AreSorted}
use Rattle.jc_tree.specs.Tree.{least_after}
use Rattle.jc_tree.specs.Undo.{removed, restored}
use Rattle.jc_tree.specs.Numbered.{Numbering, IsNumbered, GetsNumber, at_number, IsSetAt, shown, column_entries}
use Rattle.jc_tree.specs.Numbered.GetsNumber.{had, gets}
pub use Rattle.jc_tree.proofs.NumberedLemmas.{number_within, keys_grow, has_number, one_key, key_at, number_at, numbered_again, popped_numbered}
use Rattle.jc_tree.proofs.NumberedLemmas.{get_taken, length_taken}
use Rattle.jc_tree.proofs.ShownLemmas.{rising-shown, find-shown, put-shown, take-shown, new-shown, gone-shown, same-shown}
use Rattle.jc_tree.proofs.ShownLeastLemmas.{none-shown, there-shown, further-shown}
use Rattle.jc_tree.proofs.SortedMapLemmas.{replaced_absent}

module _ {N : Type 0} where
  below_all : (P : Key × N → Type 0) (k : Key) (es : List (Key × N)) → AllByRecursion (λ j. key_cmp k j ≡ Less) (keys_of es) → AllByRecursion (λ f. key_cmp k f.0 ≡ Less → P f) es → AllByRecursion P es
  below_all P k [] a b = tt
  below_all P k (f ∷ es) a b = (b.0 a.0, below_all P k es a.1 b.1)

  -- what goes for each entry that is found goes for all entries
  each_found : (P : Key × N → Type 0) (es : List (Key × N)) → AreSorted es → ((e : Key × N) → find key_cmp e.0 es ≡ Some e.1 → P e) → AllByRecursion P es
  each_found P [] r h = tt
  each_found P (e ∷ es) r h = (
    h e (rw (same-self keys_total exact_keys e.0) refl),
    below_all P e.0 es r.0 (each_found (λ f. key_cmp e.0 f.0 ≡ Less → P f) es r.1 (λ f g l. h f (rw (less_greater keys_total e.0 f.0 l) g))),
  )

module _ {X : Type 0} where
  -- what is set at a key's number leaves what other keys have
  others_stay : (k : Key) (n : ℕ) (o : Option X) (col col' : List (Option X)) (t : Numbering) → IsNumbered t → find key_cmp k t.order ≡ Some n → IsSetAt n o col col' → AllByRecursion (λ e. eq_by_cmp key_cmp k e.0 ≡ false → at_number col' e.1 ≡ at_number col e.1) t.order
  others_stay k n o col col' t i f s =
      each_found (λ e. eq_by_cmp key_cmp k e.0 ≡ false → at_number col' e.1 ≡ at_number col e.1) t.order i.rise
      (λ e g d. s.others e.1 (λ q. true≢false (sym (same-self keys_total exact_keys k) ∙ ap (eq_by_cmp key_cmp k) (one_key t i k e.0 n f (g ∙ ap Some q)) ∙ d)))

  removed_absent : (k : Key) (es : List (Key × X)) → find key_cmp k es ≡ None → removed key_cmp k es ≡ es
  removed_absent k [] h = refl
  removed_absent k (e ∷ es) h = go (eq_by_cmp key_cmp k e.0) refl (removed_absent k es) h
    where
      go : (b : Bool) → eq_by_cmp key_cmp k e.0 ≡ b → (find key_cmp k es ≡ None → removed key_cmp k es ≡ es) → find key_cmp k (e ∷ es) ≡ None → removed key_cmp k (e ∷ es) ≡ e ∷ es
      go true q ih f = let n : Some e.1 ≡ None = rw q at f in cc
      go false q ih f = rw q (ap (λ r. e ∷ r) (ih (rw q at f)))

  put_there : (k : Key) (x w : X) (es : List (Key × X)) → find key_cmp k es ≡ Some w → put key_cmp k x es ≡ replaced key_cmp k x es
  put_there k x w es f = rw f refl

  -- nothing is past the end of a column
  pub past_column : (col : List (Option X)) (n : ℕ) → length col ≤ n → at_number col n ≡ None
  past_column col n h = ap (λ o. go_on o (λ o. o)) (slice_get_past col n h)

  pub sorted_column : (col : List (Option X)) (t : Numbering) → IsNumbered t → AreSorted (column_entries col t)
  sorted_column col t i = rising-shown keys_total exact_keys (λ n. at_number col n) t.order i.rise

  -- what is found is what the column has at the key's number
  pub find_column : (k : Key) (col : List (Option X)) (t : Numbering) → IsNumbered t → find key_cmp k (column_entries col t) ≡ go_on (find key_cmp k t.order) (λ n. at_number col n)
  find_column k col t i = find-shown keys_total exact_keys k (λ n. at_number col n) t.order i.rise

  -- a key that gets a number changes no entry
  pub same_column : (k : Key) (n : ℕ) (col : List (Option X)) (old new : Numbering) → IsNumbered old → GetsNumber k n old new → length col ≤ length old.keys → column_entries col new ≡ column_entries col old
  same_column k n col old new i (had f s) l = ap (column_entries col) s
  same_column k n col old new i (gets f m s) l = ap (column_entries col) s ∙ new-shown keys_total exact_keys k (length old.keys) (λ n. at_number col n) old.order f (past_column col (length old.keys) l)

  -- what the column has at the number that a key gets is what was found under the key
  pub former_column : (k : Key) (n : ℕ) (col : List (Option X)) (old new : Numbering) → IsNumbered old → GetsNumber k n old new → length col ≤ length old.keys → at_number col n ≡ find key_cmp k (column_entries col old)
  former_column k n col old new i (had f s) l = sym (find_column k col old i ∙ ap (λ o. go_on o (λ n. at_number col n)) f)
  former_column k n col old new i (gets f m s) l = past_column col n (subst (λ n. length col ≤ n) (sym m) l) ∙ sym (find_column k col old i ∙ ap (λ o. go_on o (λ n. at_number col n)) f)

  -- a value that is set at the number that a key gets is put under the key
  pub put_column : (k : Key) (n : ℕ) (x : X) (col col' : List (Option X)) (old new : Numbering) → IsNumbered old → IsNumbered new → GetsNumber k n old new → length col ≤ length old.keys → IsSetAt n (Some x) col col' → column_entries col' new ≡ put key_cmp k x (column_entries col old)
  put_column k n x col col' old new i j g l s =
      put-shown keys_total exact_keys k n x (λ n. at_number col n) (λ n. at_number col' n) new.order j.rise (has_number k n old new g) s.here (others_stay k n (Some x) col col' new j (has_number k n old new g) s)
      ∙ ap (put key_cmp k x) (same_column k n col old new i g l)

  -- where the column has a value at the key's number, what is set there is what the key is restored to
  pub restored_column : (k : Key) (n : ℕ) (w : X) (former : Option X) (col col' : List (Option X)) (t : Numbering) → IsNumbered t → find key_cmp k t.order ≡ Some n → at_number col n ≡ Some w → IsSetAt n former col col' → column_entries col' t ≡ restored key_cmp k former (column_entries col t)
  restored_column k n w None col col' t i f h s = take-shown keys_total exact_keys k n (λ n. at_number col n) (λ n. at_number col' n) t.order i.rise f s.here (others_stay k n None col col' t i f s)
  restored_column k n w (Some x) col col' t i f h s =
      put-shown keys_total exact_keys k n x (λ n. at_number col n) (λ n. at_number col' n) t.order i.rise f s.here (others_stay k n (Some x) col col' t i f s)
      ∙ put_there k x w (column_entries col t) (find_column k col t i ∙ ap (λ o. go_on o (λ n. at_number col n)) f ∙ h)

  -- where nothing is found, nothing is restored
  pub not_restored : (k : Key) (former : Option X) (es : List (Key × X)) → find key_cmp k es ≡ None → restored key_cmp k former es ≡ es
  not_restored k None es h = removed_absent k es h
  not_restored k (Some x) es h = replaced_absent k x es h

  -- where the key has no number, nothing is restored
  pub not_restored_unnumbered : (k : Key) (former : Option X) (col : List (Option X)) (t : Numbering) → IsNumbered t → find key_cmp k t.order ≡ None → restored key_cmp k former (column_entries col t) ≡ column_entries col t
  not_restored_unnumbered k former col t i f = not_restored k former (column_entries col t) (find_column k col t i ∙ ap (λ o. go_on o (λ n. at_number col n)) f)

  -- where the column has nothing at the key's number, nothing is restored
  pub not_restored_blank : (k : Key) (n : ℕ) (former : Option X) (col : List (Option X)) (t : Numbering) → IsNumbered t → find key_cmp k t.order ≡ Some n → at_number col n ≡ None → restored key_cmp k former (column_entries col t) ≡ column_entries col t
  not_restored_blank k n former col t i f h = not_restored k former (column_entries col t) (find_column k col t i ∙ ap (λ o. go_on o (λ n. at_number col n)) f ∙ h)

  -- without the last key, which has the number m and nothing in the column
  column_below : (k : Key) (m : ℕ) (col : List (Option X)) (t : Numbering) → IsNumbered t → length t.keys ≡ m + 1 → slice_get t.keys m ≡ Some k → at_number col m ≡ None → shown (λ n. at_number (take m col) n) (removed key_cmp k t.order) ≡ column_entries col t
  column_below k m col t i l h a =
      gone-shown keys_total exact_keys k m (λ n. at_number (take m col) n) t.order (number_at t i k m h) cut
      ∙ same-shown keys_total exact_keys (λ n. at_number col n) (λ n. at_number (take m col) n) t.order (each_found (λ e. at_number (take m col) e.1 ≡ at_number col e.1) t.order i.rise stays)
    where
      cut : at_number (take m col) m ≡ None
      cut = past_column (take m col) m (length_taken m col)

      stays : (e : Key × ℕ) → find key_cmp e.0 t.order ≡ Some e.1 → at_number (take m col) e.1 ≡ at_number col e.1
      stays e f = by (slice_get_cases (take m t.keys) e.1).1
        where
          w : e.1 < length t.keys
          w = slice_get_within t.keys e.1 e.0 (key_at t i e.0 e.1 f)

          by : (((x : Key) × (e.1 < length (take m t.keys)) × (slice_get (take m t.keys) e.1 ≡ Some x) × (get_or (take m t.keys) e.1 x ≡ x)) ⊎ ((length (take m t.keys) ≤ e.1) × (slice_get (take m t.keys) e.1 ≡ None))) → at_number (take m col) e.1 ≡ at_number col e.1
          by (inl c) =
              let u : length (take m t.keys) ≤ m = length_taken m t.keys in
              ap (λ o. go_on o (λ o. o)) (get_taken col m e.1 (omega (arith, u, c.1)))
          by (inr c) =
              let u : length (take m t.keys) ≡ m = length-take-le m t.keys (omega (arith, l)) in
              let z : e.1 ≡ m = omega (arith, w, u, l, c.0) in
              ap (at_number (take m col)) z ∙ cut ∙ sym (ap (at_number col) z ∙ a)

  -- the last key that goes, where the column has nothing at its number, takes no entry with it
  pub popped_column : (k : Key) (col : List (Option X)) (old new : Numbering) → IsNumbered old → slice_get old.keys (length old.keys - 1) ≡ Some k → new.order ≡ removed key_cmp k old.order → at_number col (length old.keys - 1) ≡ None → column_entries (take (length old.keys - 1) col) new ≡ column_entries col old
  popped_column k col old new i h o a =
      let w : length old.keys - 1 < length old.keys = slice_get_within old.keys (length old.keys - 1) k h in
      ap (λ es. shown (λ n. at_number (take (length old.keys - 1) col) n) es) o ∙ column_below k (length old.keys - 1) col old i (omega (arith, w)) h a

  get_set : (col : List (Option X)) (n : ℕ) (o : Option X) → n < length col → slice_get (slice_set col n o) n ≡ Some o
  get_set [] n o h = absurd (omega (arith, h))
  get_set (p ∷ col) zero o h = refl
  get_set (p ∷ col) (suc n) o h = get_set col n o (omega (arith, h))

  get_other : (col : List (Option X)) (n m : ℕ) (o : Option X) → m ≢ n → slice_get (slice_set col n o) m ≡ slice_get col m
  get_other [] n m o d = refl
  get_other (p ∷ col) zero zero o d = absurd (d refl)
  get_other (p ∷ col) zero (suc m) o d = refl
  get_other (p ∷ col) (suc n) zero o d = refl
  get_other (p ∷ col) (suc n) (suc m) o d = get_other col n m o (λ q. d (ap suc q))

  -- what is written in a slot that is there is set at its number
  pub set_at : (n : ℕ) (o : Option X) (col : List (Option X)) → n < length col → IsSetAt n o col (slice_set col n o)
  set_at n o col h = record {
    here = ap (λ s. go_on s (λ o. o)) (get_set col n o h);
    others = λ m d. ap (λ s. go_on s (λ o. o)) (get_other col n m o d);
    within = λ most l g. let s : length (slice_set col n o) ≡ length col = length-set col n o in omega (arith, s, l);
  }

  -- where no key of the order comes after the given one, no key of the entries does
  pub none_above_column : (after : Option Key) (col : List (Option X)) (t : Numbering) → IsNumbered t → least_after after (keys_of t.order) ≡ None → least_after after (keys_of (column_entries col t)) ≡ None
  none_above_column after col t i h = none-shown (λ n. at_number col n) after t.order i.rise h

  -- where the next key of the order has something in the column, it is the next key of the entries
  pub there_above_column : (after : Option Key) (k : Key) (n : ℕ) (x : X) (col : List (Option X)) (t : Numbering) → IsNumbered t → least_after after (keys_of t.order) ≡ Some k → find key_cmp k t.order ≡ Some n → at_number col n ≡ Some x → least_after after (keys_of (column_entries col t)) ≡ Some k
  there_above_column after k n x col t i h f a = there-shown (λ n. at_number col n) after k n x t.order i.rise h f a

  -- where it has nothing there, the next key of the entries is the one after it
  pub further_above_column : (after : Option Key) (k : Key) (n : ℕ) (col : List (Option X)) (t : Numbering) → IsNumbered t → least_after after (keys_of t.order) ≡ Some k → find key_cmp k t.order ≡ Some n → at_number col n ≡ None → least_after after (keys_of (column_entries col t)) ≡ least_after (Some k) (keys_of (column_entries col t))
  further_above_column after k n col t i h f a = further-shown (λ n. at_number col n) after k n t.order i.rise h f a

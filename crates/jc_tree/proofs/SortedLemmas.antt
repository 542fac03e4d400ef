-- About Sorted: finding, putting and taking away at a place of a sorted list.
use Rattle.std.proofs.Common.{◌≡◌, ℕ, zero, suc, ◌≤◌, ◌<◌, List, [], ◌∷◌, length, take, drop, filter, get_or, slice_get, slice_set, insert, remove, option_map, Option, Some, None, true, false, Result, Ok, Err, Bor, MatchOption, IsSomeAnd, option_copied, refl, sym, ◌∙◌, ap, arith}
use Rattle.std.specs.List.{AllByRecursion, AllWithin}
use Rattle.std.specs.Slice.{IsItemAt}
use Rattle.std.specs.List.Sorted.{IsNonDecreasingBy, IsSearchInRange, IsBinarySearchResult}
use Rattle.std.specs.Ordering.{ordering_index}
use Rattle.std.specs.declared.cmp.Ordering.{Ordering}
use Rattle.std.specs.declared.cmp.Ordering.TheVariants.{Less, Greater}
use Rattle.std.proofs.lemmas.List.{get_or-map, length-map}
use Rattle.std.proofs.lemmas.Option.{slice_get-get_or, get_or_from_slice_get, slice_get_past, slice_get_read}
use Rattle.std.specs.Cmp.{IsTotalOrder, tied_itself}
use Rattle.std.proofs.lemmas.Map.Lookups.{CmpEqualImpliesEq}
use Rattle.jc_rules.specs.declared.key.Key.{Key}
use Rattle.jc_rules.specs.Order.{key_cmp}
use Rattle.jc_rules.specs.Entries.{IsRising, keys_of, find, replaced, placed, put}
use Rattle.jc_rules.specs.Table.{least}
use Rattle.jc_rules.proofs.OrderLemmas.{keys_total, exact_keys}
use Rattle.jc_rules.proofs.RisingLemmas.{non_decreasing, less_greater, greater_less}
use Rattle.jc_rules.proofs.EntriesLemmas.{same-self}
use Rattle.jc_tree.specs.Tree.{is_after, least_after}
use Rattle.jc_tree.specs.Sorted.{AreSorted, IsEntryAt, EntryBelongsAt, IsEntryPlace}
use Rattle.jc_tree.specs.Undo.{removed, restored}

module _ {K X : Type 0} where
  first_ones : (P : K × X → Type 0) (es : List (K × X)) (i : ℕ) → i ≤ length es → AllWithin P es 0 i → AllByRecursion P (take i es)
  first_ones P es zero within h = tt
  first_ones P [] (suc i) within h = absurd (omega arith)
  first_ones P (e ∷ es) (suc i) within h = (h 0 e (omega arith) (omega arith), first_ones P es i (omega arith) (λ k d low high. h (suc k) d (omega arith) (omega arith)))

  last_ones : (P : K × X → Type 0) (es : List (K × X)) (i : ℕ) → AllWithin P es i (length es) → AllByRecursion P (drop i es)
  last_ones P [] zero h = tt
  last_ones P [] (suc i) h = tt
  last_ones P (e ∷ es) zero h = (h 0 e (omega arith) (omega arith), last_ones P es zero (λ k d low high. h (suc k) d (omega arith) (omega arith)))
  last_ones P (e ∷ es) (suc i) h = last_ones P es i (λ k d low high. h (suc k) d (omega arith) (omega arith))

  -- the entry at a key's place
  standing : (q : K) (es : List (K × X)) (i : ℕ) (e : K × X) (s : IsEntryAt q es i) → e ≡ get_or es i e → e ≡ (q, s.value)
  standing q es i e s is = is ∙ get_or_from_slice_get es i (q, s.value) e s.entry

  nowhere : (q : K) (i : ℕ) → IsEntryAt {X = X} q [] i → ⊥
  nowhere q i s = let x = s.value in let none : slice_get {X = K × X} [] i ≡ Some (q, x) = s.entry in cc

  pub standing_within : (q : K) (es : List (K × X)) (i : ℕ) → IsEntryAt q es i → i < length es
  standing_within q [] i s = absurd (nowhere q i s)
  standing_within q (e ∷ es) zero s = omega arith
  standing_within q (e ∷ es) (suc i) s = omega (arith, standing_within q es i (record { value = s.value; entry = s.entry }))

  all_left : (P : K → Type 0) (es : List (K × X)) (i : ℕ) → AllByRecursion P (keys_of es) → AllByRecursion P (keys_of (remove es i))
  all_left P [] zero h = tt
  all_left P [] (suc i) h = tt
  all_left P (e ∷ es) zero h = h.1
  all_left P (e ∷ es) (suc i) h = (h.0, all_left P es i h.1)

module _ {K X : Type 0} (R : K → K → Ordering) where
  -- what is left of a sorted list is sorted
  pub sorted_left : (es : List (K × X)) (i : ℕ) → IsRising R (keys_of es) → IsRising R (keys_of (remove es i))
  sorted_left [] zero h = tt
  sorted_left [] (suc i) h = tt
  sorted_left (e ∷ es) zero h = h.1
  sorted_left (e ∷ es) (suc i) h = (all_left (λ k. R e.0 k ≡ Less) es i h.0, sorted_left es i h.1)

module _ {K : Type 0} {R : K → K → Ordering} (total : IsTotalOrder R) (exact : CmpEqualImpliesEq R) {X : Type 0} where
  do_not_fall : (q : K) (es : List (K × X)) → IsRising R (keys_of es) → IsNonDecreasingBy (λ e. ordering_index (R e.0 q)) es
  do_not_fall q es h i j d le within =
      let n : length (keys_of es) ≡ length es = length-map es (λ e. e.0) in
      rw (← get_or-map (λ (e : K × X). e.0) es i d d.0 (omega arith), ← get_or-map (λ (e : K × X). e.0) es j d d.0 within) (non_decreasing total q (keys_of es) h i j d.0 le (omega arith))

  back : (q : K) (es : List (K × X)) → AllByRecursion (λ e. R e.0 q ≡ Greater) es → AllByRecursion (λ e. R q e.0 ≡ Less) es
  back q [] h = tt
  back q (e ∷ es) h = (greater_less total e.0 q h.0, back q es h.1)

  -- what a binary search by key finds
  pub searched : (q : K) (es : List (K × X)) (r : Result ℕ ℕ) → IsRising R (keys_of es) → IsSearchInRange r (length es) → IsBinarySearchResult (λ e. R e.0 q) es r → IsEntryPlace R q es r
  searched q [] (Ok i) h b f = absurd (omega arith)
  searched q (e ∷ es) (Ok i) h b f =
      let x = get_or (e ∷ es) i e in
      let same : x.0 ≡ q = exact x.0 q (f e) in
      record { value = x.1; entry = slice_get-get_or (e ∷ es) i e b ∙ ap (λ (k : K). Some (k, x.1)) same }
  searched q es (Err i) h b f =
      let parts = f (do_not_fall q es h) in
      record { within = b; lesser = first_ones (λ e. R e.0 q ≡ Less) es i b parts.0; greater = back q (drop i es) (last_ones (λ e. R e.0 q ≡ Greater) es i parts.1) }

  -- the later ones of a sorted list are greater than the first
  later : (e d : K × X) (es : List (K × X)) (i : ℕ) → IsRising R (keys_of (e ∷ es)) → slice_get es i ≡ Some d → R d.0 e.0 ≡ Greater
  later e d [] i h g = cc
  later e d (f ∷ es) zero h g = let same : f ≡ d = cc in rw (← same) (less_greater total e.0 f.0 h.0.0)
  later e d (f ∷ es) (suc i) h g = later e d es i (h.0.1, h.1.1) g

  find-at : (q : K) (es : List (K × X)) (i : ℕ) (x : X) → IsRising R (keys_of es) → slice_get es i ≡ Some (q, x) → find R q es ≡ Some x
  find-at q [] i x h g = cc
  find-at q (e ∷ es) zero x h g = let same : e ≡ (q, x) = cc in rw same (rw (same-self total exact q) refl)
  find-at q (e ∷ es) (suc i) x h g = rw (later e (q, x) es i h g) (find-at q es i x h.1 g)

  replaced-at : (q : K) (es : List (K × X)) (i : ℕ) (x v : X) → IsRising R (keys_of es) → slice_get es i ≡ Some (q, x) → replaced R q v es ≡ slice_set es i (q, v)
  replaced-at q [] i x v h g = cc
  replaced-at q (e ∷ es) zero x v h g = let same : e ≡ (q, x) = cc in rw same (rw (same-self total exact q) refl)
  replaced-at q (e ∷ es) (suc i) x v h g = rw (later e (q, x) es i h g) (ap (λ r. e ∷ r) (replaced-at q es i x v h.1 g))

  put-at : (q : K) (es : List (K × X)) (i : ℕ) (x v : X) → IsRising R (keys_of es) → slice_get es i ≡ Some (q, x) → put R q v es ≡ slice_set es i (q, v)
  put-at q es i x v h g = rw (find-at q es i x h g) (replaced-at q es i x v h g)

  pub find-absent : (q : K) (es : List (K × X)) (i : ℕ) → EntryBelongsAt R q es i → find R q es ≡ None
  find-absent q [] i b = refl
  find-absent q (e ∷ es) zero b = rw b.greater.0 (find-absent q es zero (record { within = omega arith; lesser = tt; greater = b.greater.1 }))
  find-absent q (e ∷ es) (suc i) b = rw (less_greater total e.0 q b.lesser.0) (find-absent q es i (record { within = omega (arith, b.within); lesser = b.lesser.1; greater = b.greater }))

  placed-at : (q : K) (es : List (K × X)) (i : ℕ) (v : X) → EntryBelongsAt R q es i → placed R q v es ≡ insert es i (q, v)
  placed-at q [] zero v b = refl
  placed-at q [] (suc i) v b = refl
  placed-at q (e ∷ es) zero v b = rw b.greater.0 refl
  placed-at q (e ∷ es) (suc i) v b = rw (less_greater total e.0 q b.lesser.0) (ap (λ r. e ∷ r) (placed-at q es i v (record { within = omega (arith, b.within); lesser = b.lesser.1; greater = b.greater })))

  pub put-absent : (q : K) (es : List (K × X)) (i : ℕ) (v : X) → EntryBelongsAt R q es i → put R q v es ≡ insert es i (q, v)
  put-absent q es i v b = rw (find-absent q es i b) (placed-at q es i v b)

  pub find-standing : (q : K) (es : List (K × X)) (i : ℕ) (e : K × X) → IsRising R (keys_of es) → IsEntryAt q es i → e ≡ get_or es i e → find R q es ≡ Some e.1
  find-standing q es i e h s is = find-at q es i s.value h s.entry ∙ ap (λ (d : K × X). Some d.1) (sym (standing q es i e s is))

  pub put-standing : (q : K) (es : List (K × X)) (i : ℕ) (e : K × X) (v : X) → IsRising R (keys_of es) → IsEntryAt q es i → e ≡ get_or es i e → put R q v es ≡ slice_set es i (e.0, v)
  put-standing q es i e v h s is = put-at q es i s.value v h s.entry ∙ ap (λ (d : K × X). slice_set es i (d.0, v)) (sym (standing q es i e s is))

  removed-at : (q : K) (es : List (K × X)) (i : ℕ) (x : X) → IsRising R (keys_of es) → slice_get es i ≡ Some (q, x) → removed R q es ≡ remove es i
  removed-at q [] i x h g = cc
  removed-at q (e ∷ es) zero x h g = let same : e ≡ (q, x) = cc in rw same (rw (same-self total exact q) refl)
  removed-at q (e ∷ es) (suc i) x h g = rw (later e (q, x) es i h g) (ap (λ r. e ∷ r) (removed-at q es i x h.1 g))

  -- the entry at a key's place, taken away or with the value that it had
  pub removed-standing : (q : K) (es : List (K × X)) (i : ℕ) → IsRising R (keys_of es) → IsEntryAt q es i → removed R q es ≡ remove es i
  removed-standing q es i h s = removed-at q es i s.value h s.entry

  pub replaced-standing : (q : K) (es : List (K × X)) (i : ℕ) (e : K × X) (v : X) → IsRising R (keys_of es) → IsEntryAt q es i → e ≡ get_or es i e → replaced R q v es ≡ slice_set es i (e.0, v)
  replaced-standing q es i e v h s is = replaced-at q es i s.value v h s.entry ∙ ap (λ (d : K × X). slice_set es i (d.0, v)) (sym (standing q es i e s is))

  -- what nothing stood under stays so
  pub restored-absent : (q : K) (es : List (K × X)) (i : ℕ) (o : Option X) → EntryBelongsAt R q es i → restored R q o es ≡ es
  restored-absent q [] i None b = refl
  restored-absent q [] i (Some v) b = refl
  restored-absent q (e ∷ es) zero None b = rw b.greater.0 (ap (λ r. e ∷ r) (restored-absent q es zero None (record { within = omega arith; lesser = tt; greater = b.greater.1 })))
  restored-absent q (e ∷ es) zero (Some v) b = rw b.greater.0 (ap (λ r. e ∷ r) (restored-absent q es zero (Some v) (record { within = omega arith; lesser = tt; greater = b.greater.1 })))
  restored-absent q (e ∷ es) (suc i) None b = rw (less_greater total e.0 q b.lesser.0) (ap (λ r. e ∷ r) (restored-absent q es i None (record { within = omega (arith, b.within); lesser = b.lesser.1; greater = b.greater })))
  restored-absent q (e ∷ es) (suc i) (Some v) b = rw (less_greater total e.0 q b.lesser.0) (ap (λ r. e ∷ r) (restored-absent q es i (Some v) (record { within = omega (arith, b.within); lesser = b.lesser.1; greater = b.greater })))

module _ {X : Type 0} where
  least-first : (e : Key × X) (es : List (Key × X)) → AreSorted (e ∷ es) → least (keys_of (e ∷ es)) ≡ Some e.0
  least-first e [] h = refl
  least-first e (d ∷ es) h = rw (least-first d es h.1) (rw h.0.0 refl)

  all_after : (j : Option Key) (es : List (Key × X)) → AllByRecursion (λ e. is_after j e.0 ≡ true) es → filter (λ k. is_after j k) (keys_of es) ≡ keys_of es
  all_after j [] h = refl
  all_after j (e ∷ es) h = rw h.0 (ap (λ r. e.0 ∷ r) (all_after j es h.1))

  least-all : (j : Option Key) (es : List (Key × X)) → AreSorted es → AllByRecursion (λ e. is_after j e.0 ≡ true) es → least_after j (keys_of es) ≡ option_map (λ e. e.0) (slice_get es 0)
  least-all j [] h a = refl
  least-all j (e ∷ es) h a = rw (all_after j (e ∷ es) a) (least-first e es h)

  -- the least key after one that parts a sorted list at i
  least-parted : (j : Option Key) (es : List (Key × X)) (i : ℕ) → AreSorted es → AllByRecursion (λ e. is_after j e.0 ≡ false) (take i es) → AllByRecursion (λ e. is_after j e.0 ≡ true) (drop i es) → least_after j (keys_of es) ≡ option_map (λ e. e.0) (slice_get es i)
  least-parted j [] zero h b a = refl
  least-parted j [] (suc i) h b a = refl
  least-parted j (e ∷ es) zero h b a = least-all j (e ∷ es) h a
  least-parted j (e ∷ es) (suc i) h b a = rw b.0 (least-parted j es i h.1 b.1 a)

  pub least-none : (es : List (Key × X)) → AreSorted es → least_after None (keys_of es) ≡ option_map (λ e. e.0) (slice_get es 0)
  least-none es h = least-all None es h (all es)
    where
      all : (es : List (Key × X)) → AllByRecursion (λ e. is_after None e.0 ≡ true) es
      all [] = tt
      all (e ∷ es) = (refl, all es)

  lesser_before : (q : Key) (es : List (Key × X)) → AllByRecursion (λ e. key_cmp e.0 q ≡ Less) es → AllByRecursion (λ e. is_after (Some q) e.0 ≡ false) es
  lesser_before q [] h = tt
  lesser_before q (e ∷ es) h = (rw (less_greater keys_total e.0 q h.0) refl, lesser_before q es h.1)

  greater_after : (q : Key) (es : List (Key × X)) → AllByRecursion (λ e. key_cmp q e.0 ≡ Less) es → AllByRecursion (λ e. is_after (Some q) e.0 ≡ true) es
  greater_after q [] h = tt
  greater_after q (e ∷ es) h = (rw h.0 refl, greater_after q es h.1)

  -- after a key that has no entry: the entry where it belongs
  pub least-belongs : (q : Key) (es : List (Key × X)) (i : ℕ) → AreSorted es → EntryBelongsAt key_cmp q es i → least_after (Some q) (keys_of es) ≡ option_map (λ e. e.0) (slice_get es i)
  least-belongs q es i h b = least-parted (Some q) es i h (lesser_before q (take i es) b.lesser) (greater_after q (drop i es) b.greater)

  greater_ones : (e : Key × X) (es : List (Key × X)) → AllByRecursion (λ k. key_cmp e.0 k ≡ Less) (keys_of es) → AllByRecursion (λ d. key_cmp e.0 d.0 ≡ Less) es
  greater_ones e [] h = tt
  greater_ones e (d ∷ es) h = (h.0, greater_ones e es h.1)

  -- after a key that has an entry: the next one
  pub least-stands : (q : Key) (es : List (Key × X)) (i : ℕ) → AreSorted es → IsEntryAt q es i → least_after (Some q) (keys_of es) ≡ option_map (λ e. e.0) (slice_get es (suc i))
  least-stands q [] i h s = absurd (nowhere q i s)
  least-stands q (e ∷ es) zero h s =
      let x = s.value in
      let same : e ≡ (q, x) = cc (s.entry) in
      let k : e.0 ≡ q = ap (λ (p : Key × X). p.0) same in
      let not_after : is_after (Some q) e.0 ≡ false = rw (k, tied_itself keys_total q) refl in
      rw not_after (least-all (Some q) es h.1 (greater_after q es (rw k at (greater_ones e es h.0))))
  least-stands q (e ∷ es) (suc i) h s =
      let x = s.value in
      let there : slice_get es i ≡ Some (q, x) = s.entry in
      let not_after : is_after (Some q) e.0 ≡ false = rw (later keys_total exact_keys e (q, x) es i h there) refl in
      rw not_after (least-stands q es i h.1 (record { value = x; entry = there }))

  -- the key of an entry that is lent
  pub lent_key : (es : List (Key × X)) (i : ℕ) (r : Option (Bor (Key × X))) (m : Option (Bor Key)) (P : Bor (Key × X) → Bor Key → Type 0) → IsItemAt es i r → MatchOption r (m ≡ None) (λ x. IsSomeAnd m (P x)) → ((x : Bor (Key × X)) (y : Bor Key) → P x y → y.now ≡ x.now.0) → option_copied m ≡ option_map (λ e. e.0) (slice_get es i)
  lent_key es i None m P f h p = rw (h, slice_get_past es i f.3) refl
  lent_key es i (Some x) None P f h p = absurd h
  lent_key es i (Some x) (Some y) P f h p = rw (slice_get_read es (length es) i x.now refl f.3.0 (f.3.1 x.now), p x y h) refl

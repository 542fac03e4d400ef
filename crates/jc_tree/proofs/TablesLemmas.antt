-- About Tables: what calls by key make of the entries of a column.
use Rattle.std.proofs.Common.{◌≡◌, ◌<◌, ◌≤◌, ℕ, zero, suc, List, [], ◌∷◌, length, slice_get, slice_set, slice_index_or, IfSome, IfNone, Option, Some, None, is_some, true, false, Bor, option_map, option_copied, refl, sym, ◌∙◌, ap, subst, arith}
use Rattle.std.proofs.lemmas.Option.{slice_get_past}
use Rattle.jc_rules.specs.declared.key.Key.{Key}
use Rattle.jc_rules.specs.Order.{key_cmp}
use Rattle.jc_rules.specs.Entries.{keys_of, find, put}
use Rattle.jc_tree.specs.Arena.{go_on}
use Rattle.jc_tree.specs.Undo.{restored}
use Rattle.jc_tree.specs.Tree.{least_after}
use Rattle.jc_tree.specs.Numbered.{Numbering, IsNumbered, GetsNumber, at_number, IsSetAt, column_entries}
use Rattle.jc_tree.specs.Numbered.GetsNumber.{had}
use Rattle.jc_tree.specs.Tables.{MayNumber}
use Rattle.jc_tree.specs.Tables.MayNumber.{same, numbers}
use Rattle.jc_tree.proofs.ColumnLemmas.{set_at, number_within, keys_grow, find_column, same_column, former_column, put_column, restored_column, not_restored_blank, there_above_column, further_above_column}

module _ {X : Type 0} where
  set_same : (col : List X) (n : ℕ) (x : X) → slice_get col n ≡ Some x → slice_set col n x ≡ col
  set_same [] n x h = refl
  set_same (y ∷ ys) zero x h = let e : Some y ≡ Some x = h in cc
  set_same (y ∷ ys) (suc n) x h = ap (λ l. y ∷ l) (set_same ys n x h)

  some_within : (col : List X) (n : ℕ) (x : X) → slice_get col n ≡ Some x → n < length col
  some_within [] n x h = cc
  some_within (y ∷ ys) zero x h = omega arith
  some_within (y ∷ ys) (suc n) x h = omega (arith, some_within ys n x h)

module _ {X : Type 0} where
  -- what is written in a slot is set there
  pub slot_set : (n : ℕ) (o w : Option X) (col : List (Option X)) → slice_get col n ≡ Some w → IsSetAt n o col (slice_set col n o)
  slot_set n o w col h = set_at n o col (some_within col n w h)

  -- a value that is written back leaves the column as it was
  pub set_back : (n : ℕ) (o w : Option X) (col : List (Option X)) → slice_get col n ≡ Some w → o ≡ w → slice_set col n o ≡ col
  set_back n o w col h e = ap (λ p. slice_set col n p) e ∙ set_same col n w h

  -- what is found, by the slot at the key's number
  pub found_slot : (k : Key) (n : ℕ) (o : Option (Option X)) (col : List (Option X)) (t : Numbering) → IsNumbered t → find key_cmp k t.order ≡ Some n → slice_get col n ≡ o → find key_cmp k (column_entries col t) ≡ go_on o (λ q. q)
  found_slot k n o col t i f h = find_column k col t i ∙ ap (λ p. go_on p (λ m. at_number col m)) f ∙ ap (λ p. go_on p (λ q. q)) h

  pub found_none : (k : Key) (col : List (Option X)) (t : Numbering) → IsNumbered t → find key_cmp k t.order ≡ None → find key_cmp k (column_entries col t) ≡ None
  found_none k col t i f = find_column k col t i ∙ ap (λ p. go_on p (λ m. at_number col m)) f

  -- A slot that is changed in place, where it has a value.
  pub in_place : (k : Key) (n : ℕ) (f : X → X) (G : Option X → List (Key × X)) (w v : Option X) (col : List (Option X)) (t : Numbering) → IsNumbered t → find key_cmp k t.order ≡ Some n → slice_get col n ≡ Some w → v ≡ option_map f w → length col ≤ length t.keys → G None ≡ column_entries col t → ((x : X) → G (Some x) ≡ put key_cmp k (f x) (column_entries col t)) → column_entries (slice_set col n v) t ≡ G (find key_cmp k (column_entries col t))
  in_place k n f G None v col t i e h c l a b = ap (λ d. column_entries d t) (set_back n v None col h c) ∙ sym a ∙ ap G (sym (found_slot k n (Some None) col t i e h))
  in_place k n f G (Some x) v col t i e h c l a b =
      put_column k n (f x) col (slice_set col n v) t t i i (had e refl) l (subst (λ o. IsSetAt n o col (slice_set col n v)) c (slot_set n v (Some x) col h)) ∙ sym (b x) ∙ ap G (sym (found_slot k n (Some (Some x)) col t i e h))

  -- a key that may have got a number changes no entry
  pub may_same : (k : Key) (col : List (Option X)) (old new : Numbering) → MayNumber k old new → length col ≤ length old.keys → column_entries col new ≡ column_entries col old
  may_same k col old new (same e) l = ap (λ t. column_entries col t) e
  may_same k col old new (numbers n i g) l = same_column k n col old new i g l

  -- a slot that is put by the number that the key gets
  pub put_slot : (k : Key) (n : ℕ) (x : X) (w : Option X) (v : Option X) (col : List (Option X)) (old new : Numbering) → IsNumbered old × IsNumbered new → GetsNumber k n old new → length col ≤ length old.keys → slice_get col n ≡ Some w → v ≡ Some x → column_entries (slice_set col n v) new ≡ put key_cmp k x (column_entries col old)
  put_slot k n x w v col old new i g l h e = put_column k n x col (slice_set col n v) old new i.0 i.1 g l (subst (λ o. IsSetAt n o col (slice_set col n v)) e (slot_set n v w col h))

  pub former_slot : (k : Key) (n : ℕ) (o : Option (Option X)) (col : List (Option X)) (old new : Numbering) → IsNumbered old × IsNumbered new → GetsNumber k n old new → length col ≤ length old.keys → slice_get col n ≡ o → find key_cmp k (column_entries col old) ≡ go_on o (λ q. q)
  former_slot k n o col old new i g l h = sym (former_column k n col old new i.0 g l) ∙ ap (λ p. go_on p (λ q. q)) h

pub may_grow : (k : Key) (old new : Numbering) → MayNumber k old new → length old.keys ≤ length new.keys
may_grow k old new (same e) = omega (arith, ap (λ t. length t.keys) e)
may_grow k old new (numbers n i g) = keys_grow k n old new g

module _ {X : Type 0} where
  -- the slot that a column lends
  pub slot_here : (col : List X) (n : ℕ) (x : X) → n < length col → x ≡ slice_index_or col n x → slice_get col n ≡ Some x
  slot_here [] n x h e = absurd (omega (arith, h))
  slot_here (y ∷ ys) zero x h e = ap Some (sym e)
  slot_here (y ∷ ys) (suc n) x h e = slot_here ys n x (omega (arith, h)) e

  pub no_slot : (col : List X) (n : ℕ) → length col ≤ n → slice_get col n ≡ None
  no_slot col n h = slice_get_past col n h

module _ {X : Type 0} where
  -- what a call by the key's number that restores does
  pub restored_slot : (k : Key) (n : ℕ) (r former : Option X) (col new : List (Option X)) (t : Numbering) → IsNumbered t → find key_cmp k t.order ≡ Some n → r ≡ at_number col n → IfSome r (λ w. IsSetAt n former col new) → IfNone r (new ≡ col) → column_entries new t ≡ restored key_cmp k former (column_entries col t)
  restored_slot k n None former col new t i f h s e = ap (λ d. column_entries d t) e ∙ sym (not_restored_blank k n former col t i f (sym h))
  restored_slot k n (Some w) former col new t i f h s e = restored_column k n w former col new t i f (sym h) s

  pub restored_within : (k : Key) (n : ℕ) (r former : Option X) (col new : List (Option X)) (t : Numbering) → IsNumbered t → find key_cmp k t.order ≡ Some n → length col ≤ length t.keys → IfSome r (λ w. IsSetAt n former col new) → IfNone r (new ≡ col) → length new ≤ length t.keys
  restored_within k n None former col new t i f l s e = omega (arith, l, ap (λ d. length d) e)
  restored_within k n (Some w) former col new t i f l s e = s.within (length t.keys) l (number_within k n t t i (had f refl))

  -- what is set at the number that a key gets is within the keys
  pub put_within : (k : Key) (n : ℕ) (o : Option X) (col new : List (Option X)) (old t : Numbering) → IsNumbered old × IsNumbered t → GetsNumber k n old t → length col ≤ length old.keys → IsSetAt n o col new → length new ≤ length t.keys
  put_within k n o col new old t i g l s = s.within (length t.keys) (omega (arith, l, keys_grow k n old t g)) (number_within k n old t i.1 g)

  -- the next key of the order, by whether the column has something at its number
  pub there_above : (after : Option Key) (k : Key) (n : ℕ) (col : List (Option X)) (t : Numbering) → IsNumbered t → least_after after (keys_of t.order) ≡ Some k → find key_cmp k t.order ≡ Some n → (r : Option (Bor X)) → option_copied r ≡ at_number col n → is_some r ≡ true → least_after after (keys_of (column_entries col t)) ≡ Some k
  there_above after k n col t i h f None e s = cc
  there_above after k n col t i h f (Some x) e s = there_above_column after k n x.now col t i h f (sym e)

  pub further_above : (after : Option Key) (k : Key) (n : ℕ) (col : List (Option X)) (t : Numbering) → IsNumbered t → least_after after (keys_of t.order) ≡ Some k → find key_cmp k t.order ≡ Some n → (r : Option (Bor X)) → option_copied r ≡ at_number col n → is_some r ≡ false → least_after after (keys_of (column_entries col t)) ≡ least_after (Some k) (keys_of (column_entries col t))
  further_above after k n col t i h f None e s = further_above_column after k n col t i h f (sym e)
  further_above after k n col t i h f (Some x) e s = cc

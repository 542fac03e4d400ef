-- About Sorted: the calls of std's B-tree in the words of entries by key.
use Rattle.std.proofs.Common.{◌≡◌, ◌<◌, List, [], ◌∷◌, length, Bool, true, false, cond, filter, Option, Some, None, Result, Ok, Err, OnErr, option_map, slice_get, refl, sym, ◌∙◌, ap, arith}
use Rattle.std.specs.List.{AllByRecursion}
use Rattle.std.specs.Ordering.{is_eq, is_lt}
use Rattle.std.specs.BTreeMap.{is_at, insert_entry}
use Rattle.std.specs.BTreeMap.Range.{entries_between}
use Rattle.std.specs.declared.ops.Bound.TheVariants.{Excluded, Unbounded}
use Rattle.std.specs.Map.{remove_entry}
use Rattle.std.specs.declared.cmp.Ordering.{Ordering}
use Rattle.std.specs.declared.cmp.Ordering.TheVariants.{Less, Equal, Greater}
use Rattle.jc_rules.specs.contracts.key.KeyOrd.TheImpl.{cmp-value}
use Rattle.jc_rules.specs.declared.key.Key.{Key}
use Rattle.jc_rules.specs.Order.{key_cmp}
use Rattle.jc_rules.specs.Entries.{IsRising, keys_of, find, if_found, replaced, placed, put}
use Rattle.jc_rules.specs.Table.{least}
use Rattle.jc_rules.proofs.OrderLemmas.{same_cmp, keys_total, exact_keys}
use Rattle.jc_rules.proofs.EntriesLemmas.{none-below}
use Rattle.jc_tree.specs.Sorted.{AreSorted}
use Rattle.jc_tree.specs.Tree.{is_after, least_after}
use Rattle.jc_tree.specs.Undo.{removed}
use Rattle.jc_tree.proofs.SortedLemmas.{least-none}
use Rattle.jc_rules.proofs.BoolLemmas.{and_true}

-- the order of keys is that of the rules
pub same_order : cmp-value.it ≡ key_cmp
same_order i j k = same_cmp j k i

pub on_err : {A E P Q : Type 0} (r : Result A E) → (P → Q) → OnErr r P → OnErr r Q
on_err (Ok a) f h = h
on_err (Err e) f h = f h

pub as_err : {A E P : Type 0} (r : Result A E) → P → OnErr r P
as_err (Ok a) h = tt
as_err (Err e) h = h

if_cons : {X Y : Type 0} (o : Option X) (e : Y) (y z : List Y) → if_found o (e ∷ y) (e ∷ z) ≡ e ∷ if_found o y z
if_cons None e y z = refl
if_cons (Some x) e y z = refl

-- the least of rising keys is the first
least_first : (ks : List Key) → IsRising key_cmp ks → least ks ≡ slice_get ks 0
least_first [] h = refl
least_first (k ∷ []) h = refl
least_first (k ∷ j ∷ ks) h = rw (least_first (j ∷ ks) h.1) (rw h.0.0 refl)

all_filtered : (P : Key → Type 0) (p : Key → Bool) (ks : List Key) → AllByRecursion P ks → AllByRecursion P (filter p ks)
all_filtered P p [] h = tt
all_filtered P p (k ∷ ks) h = go (p k) refl (all_filtered P p ks h.1)
  where
    go : (b : Bool) → p k ≡ b → AllByRecursion P (filter p ks) → AllByRecursion P (filter p (k ∷ ks))
    go true e ih = rw e (h.0, ih)
    go false e ih = rw e ih

rising_filtered : (p : Key → Bool) (ks : List Key) → IsRising key_cmp ks → IsRising key_cmp (filter p ks)
rising_filtered p [] h = tt
rising_filtered p (k ∷ ks) h = go (p k) refl (rising_filtered p ks h.1)
  where
    go : (b : Bool) → p k ≡ b → IsRising key_cmp (filter p ks) → IsRising key_cmp (filter p (k ∷ ks))
    go true e ih = rw e (all_filtered (λ j. key_cmp k j ≡ Less) p ks h.0, ih)
    go false e ih = rw e ih

module _ {X : Type 0} where
  pub remove_is : (k : Key) (es : List (Key × X)) → remove_entry (is_at (cmp-value.it k)) es ≡ removed key_cmp k es
  remove_is k [] = refl
  remove_is k (e ∷ es) = λ i. cond (is_eq (same_cmp k e.0 i)) es (e ∷ remove_is k es i)

  inserted : (k : Key) (v : X) (es : List (Key × X)) → AreSorted es → insert_entry key_cmp es k v ≡ put key_cmp k v es
  inserted k v [] h = refl
  inserted k v (e ∷ es) h = go (key_cmp k e.0) refl (inserted k v es h.1)
    where
      go : (o : Ordering) → key_cmp k e.0 ≡ o → insert_entry key_cmp es k v ≡ put key_cmp k v es → insert_entry key_cmp (e ∷ es) k v ≡ put key_cmp k v (e ∷ es)
      go Less p ih = rw (none-below keys_total exact_keys k e es h p, p) refl
      go Equal p ih = rw p (ap (λ (j : Key). (j, v) ∷ es) (sym (exact_keys k e.0 p)))
      go Greater p ih = rw p (ap (λ r. e ∷ r) ih ∙ sym (if_cons (find key_cmp k es) e (replaced key_cmp k v es) (placed key_cmp k v es)))

  pub insert_is : (k : Key) (v : X) (es : List (Key × X)) → AreSorted es → insert_entry cmp-value.it es k v ≡ put key_cmp k v es
  insert_is k v es h = ap (λ c. insert_entry c es k v) same_order ∙ inserted k v es h

  pub replaced_absent : (k : Key) (v : X) (es : List (Key × X)) → find key_cmp k es ≡ None → replaced key_cmp k v es ≡ es
  replaced_absent k v [] h = refl
  replaced_absent k v (e ∷ es) h = go (key_cmp k e.0) refl (λ f. replaced_absent k v es f) h
    where
      go : (o : Ordering) → key_cmp k e.0 ≡ o → (find key_cmp k es ≡ None → replaced key_cmp k v es ≡ es) → find key_cmp k (e ∷ es) ≡ None → replaced key_cmp k v (e ∷ es) ≡ e ∷ es
      go Less p ih f = rw p (ap (λ r. e ∷ r) (ih (rw p at f)))
      go Equal p ih f = let n : Some e.1 ≡ None = rw p at f in cc
      go Greater p ih f = rw p (ap (λ r. e ∷ r) (ih (rw p at f)))

  keys_filtered : (p : Key → Bool) (es : List (Key × X)) → keys_of (filter (λ e. p e.0) es) ≡ filter p (keys_of es)
  keys_filtered p [] = refl
  keys_filtered p (e ∷ es) = go (p e.0) refl (keys_filtered p es)
    where
      go : (b : Bool) → p e.0 ≡ b → keys_of (filter (λ e. p e.0) es) ≡ filter p (keys_of es) → keys_of (filter (λ e. p e.0) (e ∷ es)) ≡ filter p (keys_of (e ∷ es))
      go true f ih = rw f (ap (λ ks. e.0 ∷ ks) ih)
      go false f ih = rw f ih

  pub between_is : (k : Key) (es : List (Key × X)) → entries_between cmp-value.it (Excluded k) Unbounded es ≡ filter (λ e. is_after (Some k) e.0) es
  between_is k es = ap (λ (p : Key → Bool). filter (λ e. p e.0) es) (λ i j. (and_true (is_lt (cmp-value.it k j)) ∙ ap is_lt (same_cmp k j)) i)

  first_key : (es : List (Key × X)) → slice_get (keys_of es) 0 ≡ option_map (λ e. e.0) (slice_get es 0)
  first_key [] = refl
  first_key (e ∷ es) = refl

  -- the least key that passes is that of the first entry that does
  pub least_passing : (p : Key → Bool) (es : List (Key × X)) → AreSorted es → least (filter p (keys_of es)) ≡ option_map (λ e. e.0) (slice_get (filter (λ e. p e.0) es) 0)
  least_passing p es h = least_first (filter p (keys_of es)) (rising_filtered p (keys_of es) h) ∙ ap (λ ks. slice_get ks 0) (sym (keys_filtered p es)) ∙ first_key (filter (λ e. p e.0) es)

  -- what comes after a key, by the entries that do
  pub above_some : (k : Key) (es s t : List (Key × X)) (e : Key × X) → AreSorted es → s ≡ entries_between cmp-value.it (Excluded k) Unbounded es → s ≡ e ∷ t → least_after (Some k) (keys_of es) ≡ Some e.0
  above_some k es s t e h b g = least_passing (λ j. is_after (Some k) j) es h ∙ ap (λ l. option_map (λ e. e.0) (slice_get l 0)) (sym (between_is k es) ∙ sym b ∙ g)

  pub above_none : (k : Key) (es s : List (Key × X)) → AreSorted es → s ≡ entries_between cmp-value.it (Excluded k) Unbounded es → s ≡ [] → least_after (Some k) (keys_of es) ≡ None
  above_none k es s h b g = least_passing (λ j. is_after (Some k) j) es h ∙ ap (λ l. option_map (λ e. e.0) (slice_get l 0)) (sym (between_is k es) ∙ sym b ∙ g)

  -- the least key of all, by the first entry
  pub first_some : (es : List (Key × X)) (e : Key × X) → AreSorted es → slice_get es 0 ≡ Some e → least_after None (keys_of es) ≡ Some e.0
  first_some es e h g = least-none es h ∙ ap (λ o. option_map (λ e. e.0) o) g

  pub first_none : (es : List (Key × X)) → (0 < length es → ⊥) → least_after None (keys_of es) ≡ None
  first_none [] h = refl
  first_none (e ∷ es) h = absurd (h (omega arith))

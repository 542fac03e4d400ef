-- About specs/Entries: lemmas at the order of keys.
use Rattle.std.proofs.Common.{◌≡◌, ◌≢◌, List, [], ◌∷◌, Option, Some, None, Bool, true, false, refl, sym}
use Rattle.std.specs.List.{AllByRecursion}
use Rattle.std.specs.Ordering.{eq_by_cmp}
use Rattle.std.specs.declared.cmp.Ordering.{Ordering}
use Rattle.std.specs.declared.cmp.Ordering.TheVariants.{Less, Equal, Greater}
use Rattle.jc_rules.specs.declared.key.Key.{Key}
use Rattle.jc_rules.specs.Order.{key_cmp}
use Rattle.jc_rules.specs.Entries.{find, if_found, replaced, placed, put, keys_of}
use Rattle.jc_rules.proofs.OrderLemmas.{keys_total, exact_keys}
use Rattle.jc_rules.proofs.EntriesLemmas.{same-eq}

module _ {X : Type 0} where
  -- what goes for all keys goes for one that is found
  pub key-found : (P : Key → Type 0) (k : Key) (x : X) (es : List (Key × X)) → AllByRecursion P (keys_of es) → find key_cmp k es ≡ Some x → P k
  key-found P k x [] a e = cc
  key-found P k x (f ∷ es) a e = go (eq_by_cmp key_cmp k f.0) refl (key-found P k x es a.1) e
    where
      go : (b : Bool) → eq_by_cmp key_cmp k f.0 ≡ b → (find key_cmp k es ≡ Some x → P k) → find key_cmp k (f ∷ es) ≡ Some x → P k
      go true p ih g = rw (same-eq keys_total exact_keys k f.0 p) a.0
      go false p ih g = ih (rw p at g)

  keys-replaced : (P : Key → Type 0) (k : Key) (x : X) (es : List (Key × X)) → P k → AllByRecursion P (keys_of es) → AllByRecursion P (keys_of (replaced key_cmp k x es))
  keys-replaced P k x [] h a = tt
  keys-replaced P k x (e ∷ es) h a = go (eq_by_cmp key_cmp k e.0) refl (keys-replaced P k x es h a.1)
    where
      go : (b : Bool) → eq_by_cmp key_cmp k e.0 ≡ b → AllByRecursion P (keys_of (replaced key_cmp k x es)) → AllByRecursion P (keys_of (replaced key_cmp k x (e ∷ es)))
      go true p ih = rw p (h, a.1)
      go false p ih = rw p (a.0, ih)

  keys-placed : (P : Key → Type 0) (k : Key) (x : X) (es : List (Key × X)) → P k → AllByRecursion P (keys_of es) → AllByRecursion P (keys_of (placed key_cmp k x es))
  keys-placed P k x [] h a = (h, tt)
  keys-placed P k x (e ∷ es) h a = go (key_cmp k e.0) refl (keys-placed P k x es h a.1)
    where
      go : (o : Ordering) → key_cmp k e.0 ≡ o → AllByRecursion P (keys_of (placed key_cmp k x es)) → AllByRecursion P (keys_of (placed key_cmp k x (e ∷ es)))
      go Less p ih = rw p (h, a)
      go Equal p ih = rw p (h, a)
      go Greater p ih = rw p (a.0, ih)

  -- what goes for the key that is put and for all that were there goes for all that are there
  pub keys-put : (P : Key → Type 0) (k : Key) (x : X) (es : List (Key × X)) → P k → AllByRecursion P (keys_of es) → AllByRecursion P (keys_of (put key_cmp k x es))
  keys-put P k x es h a = go (find key_cmp k es)
    where
      go : (o : Option X) → AllByRecursion P (keys_of (if_found o (replaced key_cmp k x es) (placed key_cmp k x es)))
      go None = keys-placed P k x es h a
      go (Some y) = keys-replaced P k x es h a

  -- a key that is none of the keys isn't found
  pub not_found : (k : Key) (es : List (Key × X)) → AllByRecursion (λ e. e.0 ≢ k) es → find key_cmp k es ≡ None
  not_found k [] a = refl
  not_found k (e ∷ es) a = go (eq_by_cmp key_cmp k e.0) refl (not_found k es a.1)
    where
      go : (b : Bool) → eq_by_cmp key_cmp k e.0 ≡ b → find key_cmp k es ≡ None → find key_cmp k (e ∷ es) ≡ None
      go true p ih = absurd (a.0 (sym (same-eq keys_total exact_keys k e.0 p)))
      go false p ih = rw p ih

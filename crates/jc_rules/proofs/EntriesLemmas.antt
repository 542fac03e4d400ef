-- About specs/Entries: entries by key, in an order that is total and tells different keys apart.
use Rattle.std.proofs.Common.{◌≡◌, List, [], ◌∷◌, Option, Some, None, Bool, true, false, cond, refl, ap, ◌∙◌}
use Rattle.std.specs.List.{AllByRecursion}
use Rattle.std.specs.Ordering.{eq_by_cmp, is_eq}
use Rattle.std.specs.declared.cmp.Ordering.{Ordering}
use Rattle.std.specs.declared.cmp.Ordering.TheVariants.{Less, Equal, Greater}
use Rattle.std.specs.Cmp.{IsTotalOrder, tied_itself, eq_by_cmp_equiv}
use Rattle.std.proofs.lemmas.Map.Lookups.{CmpEqualImpliesEq}
use Rattle.std.proofs.lemmas.Option.{same_Some}
use Rattle.jc_rules.specs.Entries.{IsRising, keys_of, if_found, find, replaced, placed, put}

-- two choices that are not both made, in either order
swapped : {Y : Type 0} (p q : Bool) (a b c : Y) → (p ≡ true → q ≡ false) → cond p a (cond q b c) ≡ cond q b (cond p a c)
swapped true true a b c h = let e : true ≡ false = h refl in cc
swapped true false a b c h = refl
swapped false q a b c h = refl

-- one choice twice
repeated : {Y : Type 0} (p : Bool) (a b c : Y) → cond p a c ≡ cond p a (cond p b c)
repeated true a b c = refl
repeated false a b c = refl

module _ {K : Type 0} {R : K → K → Ordering} (total : IsTotalOrder R) (exact : CmpEqualImpliesEq R) where
  abbrev same : K → K → Bool
  same j k = eq_by_cmp R j k

  pub same-self : (k : K) → eq_by_cmp R k k ≡ true
  same-self k = rw (tied_itself total k) refl

  pub same-back : (j k : K) → eq_by_cmp R j k ≡ eq_by_cmp R k j
  same-back = (eq_by_cmp_equiv total).symm

  -- keys that are the same are equal
  pub same-eq : (j k : K) → eq_by_cmp R j k ≡ true → j ≡ k
  same-eq j k h = go (R j k) refl h
    where
      go : (o : Ordering) → R j k ≡ o → is_eq (R j k) ≡ true → j ≡ k
      go Less e f = let b : false ≡ true = rw e at f in cc
      go Equal e f = exact j k e
      go Greater e f = let b : false ≡ true = rw e at f in cc

  -- a key that is the third one is not another that differs from it
  apart : (j k e : K) → same j e ≡ false → same k e ≡ true → same k j ≡ false
  apart j k e h g = let s : k ≡ e = same-eq k e g in rw (s, same-back e j) h

  less_back : (j k : K) → R j k ≡ Greater → R k j ≡ Less
  less_back j k h = total.antisymm k j ∙ rw h refl

  above : (k e : K) (ks : List K) → R k e ≡ Less → AllByRecursion (λ j. R e j ≡ Less) ks → AllByRecursion (λ j. R k j ≡ Less) ks
  above k e [] l a = tt
  above k e (j ∷ ks) l a = (total.trans k e j l a.0, above k e ks l a.1)

  module _ {X : Type 0} where
    find-replaced : (k j : K) (v x : X) (es : List (K × X)) → find R j es ≡ Some x → find R k (replaced R j v es) ≡ cond (same k j) (Some v) (find R k es)
    find-replaced k j v x [] h = cc
    find-replaced k j v x (e ∷ es) h = go (same j e.0) refl (λ i. find-replaced k j v x es i) h
      where
        go : (b : Bool) → same j e.0 ≡ b → (find R j es ≡ Some x → find R k (replaced R j v es) ≡ cond (same k j) (Some v) (find R k es)) → find R j (e ∷ es) ≡ Some x → find R k (replaced R j v (e ∷ es)) ≡ cond (same k j) (Some v) (find R k (e ∷ es))
        go true p ih g = let s : j ≡ e.0 = same-eq j e.0 p in rw p (rw s (repeated (same k e.0) (Some v) (Some e.1) (find R k es)))
        go false p ih g = rw (p, ih (rw p at g)) (swapped (same k e.0) (same k j) (Some e.1) (Some v) (find R k es) (apart j k e.0 p))

    find-placed : (k j : K) (v : X) (es : List (K × X)) → find R j es ≡ None → find R k (placed R j v es) ≡ cond (same k j) (Some v) (find R k es)
    find-placed k j v [] h = refl
    find-placed k j v (e ∷ es) h = go (R j e.0) refl (λ i. find-placed k j v es i) h
      where
        go : (o : Ordering) → R j e.0 ≡ o → (find R j es ≡ None → find R k (placed R j v es) ≡ cond (same k j) (Some v) (find R k es)) → find R j (e ∷ es) ≡ None → find R k (placed R j v (e ∷ es)) ≡ cond (same k j) (Some v) (find R k (e ∷ es))
        go Less p ih g = rw p refl
        go Equal p ih g = rw p refl
        go Greater p ih g = rw (p, ih (rw p at g)) (swapped (same k e.0) (same k j) (Some e.1) (Some v) (find R k es) (apart j k e.0 (rw p refl)))

    -- what is found after a put: what was put at its key, and what was there at another
    pub find-put : (k j : K) (v : X) (es : List (K × X)) → find R k (put R j v es) ≡ cond (eq_by_cmp R k j) (Some v) (find R k es)
    find-put k j v es = go (find R j es) refl
      where
        go : (o : Option X) → find R j es ≡ o → find R k (if_found (find R j es) (replaced R j v es) (placed R j v es)) ≡ cond (same k j) (Some v) (find R k es)
        go None p = rw p (find-placed k j v es p)
        go (Some x) p = rw p (find-replaced k j v x es p)

    pub found-put : (k : K) (v : X) (es : List (K × X)) → find R k (put R k v es) ≡ Some v
    found-put k v es = rw (find-put k k v es, same-self k) refl

    pub other-put : (k j : K) (v : X) (es : List (K × X)) → eq_by_cmp R k j ≡ false → find R k (put R j v es) ≡ find R k es
    other-put k j v es h = rw (find-put k j v es, h) refl

    replaced-same : (k : K) (x : X) (es : List (K × X)) → find R k es ≡ Some x → replaced R k x es ≡ es
    replaced-same k x [] h = refl
    replaced-same k x (e ∷ es) h = go (same k e.0) refl (λ i. replaced-same k x es i) h
      where
        go : (b : Bool) → same k e.0 ≡ b → (find R k es ≡ Some x → replaced R k x es ≡ es) → find R k (e ∷ es) ≡ Some x → replaced R k x (e ∷ es) ≡ e ∷ es
        go true p ih g = let s : k ≡ e.0 = same-eq k e.0 p in let v : e.1 ≡ x = same_Some e.1 x (rw p at g) in rw p (rw (s, ← v) refl)
        go false p ih g = rw p (ap (λ r. e ∷ r) (ih (rw p at g)))

    -- what is there, put again
    pub put-same : (k : K) (x : X) (es : List (K × X)) → find R k es ≡ Some x → put R k x es ≡ es
    put-same k x es h = rw h (replaced-same k x es h)

    replaced-replaced : (k : K) (v w : X) (es : List (K × X)) → replaced R k v (replaced R k w es) ≡ replaced R k v es
    replaced-replaced k v w [] = refl
    replaced-replaced k v w (e ∷ es) = go (same k e.0) refl (replaced-replaced k v w es)
      where
        go : (b : Bool) → same k e.0 ≡ b → replaced R k v (replaced R k w es) ≡ replaced R k v es → replaced R k v (replaced R k w (e ∷ es)) ≡ replaced R k v (e ∷ es)
        go true p ih = rw p (rw (same-self k) refl)
        go false p ih = rw (p, p) (ap (λ r. e ∷ r) ih)

    replaced-placed : (k : K) (v w : X) (es : List (K × X)) → find R k es ≡ None → replaced R k v (placed R k w es) ≡ placed R k v es
    replaced-placed k v w [] h = rw (same-self k) refl
    replaced-placed k v w (e ∷ es) h = go (R k e.0) refl (λ i. replaced-placed k v w es i) h
      where
        go : (o : Ordering) → R k e.0 ≡ o → (find R k es ≡ None → replaced R k v (placed R k w es) ≡ placed R k v es) → find R k (e ∷ es) ≡ None → replaced R k v (placed R k w (e ∷ es)) ≡ placed R k v (e ∷ es)
        go Less p ih g = rw p (rw (same-self k) refl)
        go Equal p ih g = let n : Some e.1 ≡ None = rw p at g in cc
        go Greater p ih g = rw (p, p) (ap (λ r. e ∷ r) (ih (rw p at g)))

    -- of two that are put under one key, the later
    pub put-put : (k : K) (v w : X) (es : List (K × X)) → put R k v (put R k w es) ≡ put R k v es
    put-put k v w es = rw (found-put k w es) (go (find R k es) refl)
      where
        go : (o : Option X) → find R k es ≡ o → replaced R k v (if_found (find R k es) (replaced R k w es) (placed R k w es)) ≡ if_found (find R k es) (replaced R k v es) (placed R k v es)
        go None p = rw p (replaced-placed k v w es p)
        go (Some x) p = rw p (replaced-replaced k v w es)

    keys-replaced : (k : K) (v : X) (es : List (K × X)) → keys_of (replaced R k v es) ≡ keys_of es
    keys-replaced k v [] = refl
    keys-replaced k v (e ∷ es) = go (same k e.0) refl (keys-replaced k v es)
      where
        go : (b : Bool) → same k e.0 ≡ b → keys_of (replaced R k v es) ≡ keys_of es → keys_of (replaced R k v (e ∷ es)) ≡ keys_of (e ∷ es)
        go true p ih = let s : k ≡ e.0 = same-eq k e.0 p in rw p (rw s refl)
        go false p ih = rw p (ap (λ r. e.0 ∷ r) ih)

    keys-placed : (P : K → Type 0) (k : K) (v : X) (es : List (K × X)) → P k → AllByRecursion P (keys_of es) → AllByRecursion P (keys_of (placed R k v es))
    keys-placed P k v [] h a = (h, tt)
    keys-placed P k v (e ∷ es) h a = go (R k e.0) refl (λ i. keys-placed P k v es h i) a
      where
        go : (o : Ordering) → R k e.0 ≡ o → (AllByRecursion P (keys_of es) → AllByRecursion P (keys_of (placed R k v es))) → AllByRecursion P (keys_of (e ∷ es)) → AllByRecursion P (keys_of (placed R k v (e ∷ es)))
        go Less p ih b = rw p (h, b)
        go Equal p ih b = rw p (h, b)
        go Greater p ih b = rw p (b.0, ih b.1)

    rising-placed : (k : K) (v : X) (es : List (K × X)) → find R k es ≡ None → IsRising R (keys_of es) → IsRising R (keys_of (placed R k v es))
    rising-placed k v [] h r = (tt, tt)
    rising-placed k v (e ∷ es) h r = go (R k e.0) refl (λ i j. rising-placed k v es i j) h r
      where
        go : (o : Ordering) → R k e.0 ≡ o → (find R k es ≡ None → IsRising R (keys_of es) → IsRising R (keys_of (placed R k v es))) → find R k (e ∷ es) ≡ None → IsRising R (keys_of (e ∷ es)) → IsRising R (keys_of (placed R k v (e ∷ es)))
        go Less p ih g s = rw p ((p, above k e.0 (keys_of es) p s.0), s)
        go Equal p ih g s = let n : Some e.1 ≡ None = rw p at g in cc
        go Greater p ih g s = rw p (keys-placed (λ j. R e.0 j ≡ Less) k v es (less_back k e.0 p) s.0, ih (rw p at g) s.1)

    -- a put keeps the keys rising
    pub rising-put : (k : K) (v : X) (es : List (K × X)) → IsRising R (keys_of es) → IsRising R (keys_of (put R k v es))
    rising-put k v es r = go (find R k es) refl
      where
        go : (o : Option X) → find R k es ≡ o → IsRising R (keys_of (if_found (find R k es) (replaced R k v es) (placed R k v es)))
        go None p = rw p (rising-placed k v es p r)
        go (Some x) p = rw (p, keys-replaced k v es) r

    none_below : (k e : K) (es : List (K × X)) → R k e ≡ Less → AllByRecursion (λ j. R e j ≡ Less) (keys_of es) → find R k es ≡ None
    none_below k e [] l a = refl
    none_below k e (f ∷ es) l a = rw (total.trans k e f.0 l a.0) (none_below k e es l a.1)

    -- In a rising list nothing is found under a key that is below the first.
    pub none-below : (k : K) (e : K × X) (es : List (K × X)) → IsRising R (keys_of (e ∷ es)) → R k e.0 ≡ Less → find R k (e ∷ es) ≡ None
    none-below k e es r l = rw l (none_below k e.0 es l r.0)

    values-replaced : (P : X → Type 0) (k : K) (v : X) (es : List (K × X)) → P v → AllByRecursion (λ e. P e.1) es → AllByRecursion (λ e. P e.1) (replaced R k v es)
    values-replaced P k v [] h a = tt
    values-replaced P k v (e ∷ es) h a = go (same k e.0) refl (values-replaced P k v es h a.1)
      where
        go : (b : Bool) → same k e.0 ≡ b → AllByRecursion (λ e. P e.1) (replaced R k v es) → AllByRecursion (λ e. P e.1) (replaced R k v (e ∷ es))
        go true p ih = rw p (h, a.1)
        go false p ih = rw p (a.0, ih)

    values-placed : (P : X → Type 0) (k : K) (v : X) (es : List (K × X)) → P v → AllByRecursion (λ e. P e.1) es → AllByRecursion (λ e. P e.1) (placed R k v es)
    values-placed P k v [] h a = (h, tt)
    values-placed P k v (e ∷ es) h a = go (R k e.0) refl (values-placed P k v es h a.1)
      where
        go : (o : Ordering) → R k e.0 ≡ o → AllByRecursion (λ e. P e.1) (placed R k v es) → AllByRecursion (λ e. P e.1) (placed R k v (e ∷ es))
        go Less p ih = rw p (h, a)
        go Equal p ih = rw p (h, a)
        go Greater p ih = rw p (a.0, ih)

    -- what goes for the value that is put and for all that were there goes for all that are there
    pub values-put : (P : X → Type 0) (k : K) (v : X) (es : List (K × X)) → P v → AllByRecursion (λ e. P e.1) es → AllByRecursion (λ e. P e.1) (put R k v es)
    values-put P k v es h a = go (find R k es) refl
      where
        go : (o : Option X) → find R k es ≡ o → AllByRecursion (λ e. P e.1) (if_found (find R k es) (replaced R k v es) (placed R k v es))
        go None p = rw p (values-placed P k v es h a)
        go (Some x) p = rw p (values-replaced P k v es h a)

    -- what goes for all values goes for the one that is found
    pub value-found : (P : X → Type 0) (k : K) (x : X) (es : List (K × X)) → AllByRecursion (λ e. P e.1) es → find R k es ≡ Some x → P x
    value-found P k x [] a h = cc
    value-found P k x (e ∷ es) a h = go (same k e.0) refl (value-found P k x es a.1) h
      where
        go : (b : Bool) → same k e.0 ≡ b → (find R k es ≡ Some x → P x) → find R k (e ∷ es) ≡ Some x → P x
        go true p ih g = rw (same_Some e.1 x (rw p at g)) at a.0
        go false p ih g = ih (rw p at g)

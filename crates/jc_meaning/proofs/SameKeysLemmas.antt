-- About Compared: rising lists of entries in which the same keys are found have the same keys, entry by entry.
use Rattle.std.proofs.Common.{◌≡◌, List, [], ◌∷◌, Bool, true, false, cond, Option, Some, None, filter, refl, sym, ◌∙◌, ap, subst}
use Rattle.std.specs.List.{AllByRecursion}
use Rattle.std.specs.Ordering.{eq_by_cmp}
use Rattle.std.specs.declared.cmp.Ordering.{Ordering}
use Rattle.std.specs.declared.cmp.Ordering.TheVariants.{Less, Equal, Greater}
use Rattle.std.specs.Cmp.{IsTotalOrder}
use Rattle.std.proofs.lemmas.Map.Lookups.{CmpEqualImpliesEq}
use Rattle.std.proofs.lemmas.Option.{same_Some}
use Rattle.jc_rules.specs.Entries.{IsRising, keys_of, find}
use Rattle.jc_meaning.specs.Compared.{Both}
use Rattle.jc_rules.proofs.EntriesLemmas.{same-eq, same-self}
use Rattle.jc_rules.proofs.RisingLemmas as rising

-- the same keys, and related values
abbrev pub Zipped : {K X Y : Type 0} → (X → Y → Type 0) → List (K × X) → List (K × Y) → Type 0
Zipped S [] [] = Unit {0}
Zipped S (e ∷ es) (f ∷ fs) = (e.0 ≡ f.0) × S e.1 f.1 × Zipped S es fs
Zipped S [] (f ∷ fs) = ⊥
Zipped S (e ∷ es) [] = ⊥

pub both_equal : {X : Type 0} (x y : Option X) → x ≡ y → Both (λ (a b : X). a ≡ b) x y
both_equal None None e = tt
both_equal (Some a) (Some b) e = same_Some a b e
both_equal None (Some b) e = cc
both_equal (Some a) None e = cc

pub zipped_equal : {K X : Type 0} (es fs : List (K × X)) → Zipped (λ (a b : X). a ≡ b) es fs → es ≡ fs
zipped_equal [] [] z = refl
zipped_equal [] (f ∷ fs) z = absurd z
zipped_equal (e ∷ es) [] z = absurd z
zipped_equal (e ∷ es) (f ∷ fs) z = let r = zipped_equal es fs z.2 in λ i. (z.0 i, z.1 i) ∷ r i

module _ {K : Type 0} {R : K → K → Ordering} (total : IsTotalOrder R) (exact : CmpEqualImpliesEq R) where
  module _ {X : Type 0} where
    first : (e : K × X) (es : List (K × X)) → find R e.0 (e ∷ es) ≡ Some e.1
    first e es = ap (λ b. cond b (Some e.1) (find R e.0 es)) (same-self total exact e.0)

    -- a key below all isn't there
    pub below_all : (q : K) (es : List (K × X)) → AllByRecursion (λ j. R q j ≡ Less) (keys_of es) → find R q es ≡ None
    below_all q [] h = refl
    below_all q (e ∷ es) h = rw h.0 (below_all q es h.1)

    less_all : (q j : K) (es : List (K × X)) → R q j ≡ Less → AllByRecursion (λ k. R j k ≡ Less) (keys_of es) → AllByRecursion (λ k. R q k ≡ Less) (keys_of es)
    less_all q j [] l h = tt
    less_all q j (e ∷ es) l h = (total.trans q j e.0 l h.0, less_all q j es l h.1)

    absent : (q : K) (f : K × X) (fs : List (K × X)) → R q f.0 ≡ Less → AllByRecursion (λ k. R f.0 k ≡ Less) (keys_of fs) → find R q (f ∷ fs) ≡ None
    absent q f fs l h = below_all q (f ∷ fs) (l, less_all q f.0 fs l h)

    later : (q : K) (e : K × X) (es : List (K × X)) → eq_by_cmp R q e.0 ≡ false → find R q (e ∷ es) ≡ find R q es
    later q e es h = ap (λ b. cond b (Some e.1) (find R q es)) h

    -- a test drops entries, in their order
    pub filter_all : (P : K → Type 0) (test : K × X → Bool) (es : List (K × X)) → AllByRecursion P (keys_of es) → AllByRecursion P (keys_of (filter test es))
    filter_all P test [] h = tt
    filter_all P test (e ∷ es) h = go (test e) refl (filter_all P test es h.1)
      where
        go : (b : Bool) → test e ≡ b → AllByRecursion P (keys_of (filter test es)) → AllByRecursion P (keys_of (filter test (e ∷ es)))
        go true x r = rw x (h.0, r)
        go false x r = rw x r

    pub filter_rises : (test : K × X → Bool) (es : List (K × X)) → IsRising R (keys_of es) → IsRising R (keys_of (filter test es))
    filter_rises test [] h = tt
    filter_rises test (e ∷ es) h = go (test e) refl (filter_rises test es h.1)
      where
        go : (b : Bool) → test e ≡ b → IsRising R (keys_of (filter test es)) → IsRising R (keys_of (filter test (e ∷ es)))
        go true x r = rw x (filter_all (λ j. R e.0 j ≡ Less) test es h.0, r)
        go false x r = rw x r

  module _ {X Y : Type 0} (S : X → Y → Type 0) where
    heads : (e : K × X) (es : List (K × X)) (f : K × Y) (fs : List (K × Y)) → AllByRecursion (λ j. R e.0 j ≡ Less) (keys_of es) → AllByRecursion (λ j. R f.0 j ≡ Less) (keys_of fs)
        → ((k : K) → Both S (find R k (e ∷ es)) (find R k (f ∷ fs))) → e.0 ≡ f.0
    heads e es f fs s t h = go (R e.0 f.0) refl
      where
        go : (o : Ordering) → R e.0 f.0 ≡ o → e.0 ≡ f.0
        go Less x = absurd (subst (λ o. Both S (Some e.1) o) (absent e.0 f fs x t) (subst (λ o. Both S o (find R e.0 (f ∷ fs))) (first e es) (h e.0)))
        go Equal x = exact e.0 f.0 x
        go Greater x = absurd (subst (λ o. Both S o (Some f.1)) (absent f.0 e es (rising.greater_less total e.0 f.0 x) s) (subst (λ o. Both S (find R f.0 (e ∷ es)) o) (first f fs) (h f.0)))

    pub zipped : (es : List (K × X)) (fs : List (K × Y)) → IsRising R (keys_of es) → IsRising R (keys_of fs) → ((k : K) → Both S (find R k es) (find R k fs)) → Zipped S es fs
    zipped [] [] s t h = tt
    zipped [] (f ∷ fs) s t h = absurd (subst (λ o. Both S None o) (first f fs) (h f.0))
    zipped (e ∷ es) [] s t h = absurd (subst (λ o. Both S o None) (first e es) (h e.0))
    zipped (e ∷ es) (f ∷ fs) s t h = (same, value, zipped es fs s.1 t.1 rest)
      where
        same : e.0 ≡ f.0
        same = heads e es f fs s.0 t.0 h

        value : S e.1 f.1
        value = subst (λ o. Both S (Some e.1) o) (ap (λ q. find R q (f ∷ fs)) same ∙ first f fs) (subst (λ o. Both S o (find R e.0 (f ∷ fs))) (first e es) (h e.0))

        rest : (q : K) → Both S (find R q es) (find R q fs)
        rest q = go (eq_by_cmp R q e.0) refl
          where
            go : (b : Bool) → eq_by_cmp R q e.0 ≡ b → Both S (find R q es) (find R q fs)
            go true x =
                let is : q ≡ e.0 = same-eq total exact q e.0 x in
                let n : find R q es ≡ None = ap (λ k. find R k es) is ∙ below_all e.0 es s.0 in
                let m : find R q fs ≡ None = ap (λ k. find R k fs) (is ∙ same) ∙ below_all f.0 fs t.0 in
                subst (λ o. Both S o (find R q fs)) (sym n) (subst (λ o. Both S None o) (sym m) tt)
            go false x =
                let y : eq_by_cmp R q f.0 ≡ false = ap (eq_by_cmp R q) (sym same) ∙ x in
                subst (λ o. Both S o (find R q fs)) (later q e es x) (subst (λ o. Both S (find R q (e ∷ es)) o) (later q f fs y) (h q))

  -- found alike, they are one list
  pub same_entries : {X : Type 0} (es fs : List (K × X)) → IsRising R (keys_of es) → IsRising R (keys_of fs) → ((k : K) → find R k es ≡ find R k fs) → es ≡ fs
  same_entries {X} es fs s t h = zipped_equal es fs (zipped (λ (a b : X). a ≡ b) es fs s t (λ k. both_equal (find R k es) (find R k fs) (h k)))

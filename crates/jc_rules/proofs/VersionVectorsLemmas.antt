-- About specs/VersionVectors: the greatest counter that a version vector has of each replica.
use Rattle.std.proofs.Common.{◌≡◌, ℕ, zero, suc, ◌+◌, ◌<◌, ◌≤◌, List, [], ◌∷◌, ◌++◌, Bool, true, false, eqb, length, get_or, set, remove, eqb-true, eq-eqb, Option, Some, None, refl, sym, ◌∙◌, ap, subst, arith}
use Rattle.std.specs.Prelude.{position}
use Rattle.std.specs.List.{AllByRecursion, position_or_len}
use Rattle.std.proofs.lemmas.Grind.{common_steps}
use Rattle.std.proofs.lemmas.List.Quantifiers.{position-Some}
use Rattle.jc_rules.specs.declared.id.Id.{Id}
use Rattle.jc_rules.specs.VersionVectors.{greatest_of, IsVersionVector}
use Rattle.jc_rules.proofs.CoveredLemmas.{greatest_here, greatest_there}
use Rattle.jc_rules.proofs.BoolLemmas.{no_truth}

-- none is the replica's
abbrev pub NoneOf : ℕ → List Id → Type 0
NoneOf p s = AllByRecursion (λ j. eqb j.replica p ≡ false) s

pub other_way : (m n : ℕ) → eqb m n ≡ false → eqb n m ≡ false
other_way m n h = go (eqb n m) refl
  where
    go : (b : Bool) → eqb n m ≡ b → eqb n m ≡ false
    go false e = e
    go true e = no_truth (sym h ∙ eq-eqb m n (sym (eqb-true n m e)))

pub none_left : (p : ℕ) (s : List Id) → NoneOf p s → greatest_of p s ≡ 0
none_left p [] h = refl
none_left p (i ∷ s) h = greatest_there i s p h.0 ∙ none_left p s h.1

-- the first of its replica is the only one
only_first : (i : Id) (s : List Id) (p : ℕ) → i.replica ≡ p → NoneOf i.replica s → greatest_of p (i ∷ s) ≡ i.counter
only_first i s p r h =
    let g = greatest_here i s p r in
    let rest : greatest_of p s ≡ 0 = none_left p s (subst (λ (q : ℕ). NoneOf q s) r h) in
    omega arith

-- one at a place of such a list is of another replica
pub apart : (p q : ℕ) (s : List Id) (n : ℕ) (d : Id) → n < length s → (get_or s n d).replica ≡ p → NoneOf q s → eqb q p ≡ false
apart p q [] n d l r a = absurd (omega arith)
apart p q (k ∷ s) zero d l r a = other_way p q (subst (λ (x : ℕ). eqb x q ≡ false) r a.0)
apart p q (k ∷ s) (suc n) d l r a = apart p q s n d (omega arith) r a.1

-- the one at a place tells the greatest counter of its replica
pub greatest_at : (p : ℕ) (s : List Id) (n : ℕ) (d : Id) → IsVersionVector s → n < length s → (get_or s n d).replica ≡ p → greatest_of p s ≡ (get_or s n d).counter
greatest_at p [] n d h l r = absurd (omega arith)
greatest_at p (i ∷ s) zero d h l r = only_first i s p r h.0
greatest_at p (i ∷ s) (suc n) d h l r = greatest_there i s p (apart p i.replica s n d (omega arith) r h.0) ∙ greatest_at p s n d h.1 (omega arith) r

-- the place of a replica
pub record IsPlace (p n : ℕ) (s : List Id) (d : Id) : Type 0 where
  pub within : n < length s
  pub replica : (get_or s n d).replica ≡ p

pub is_place : (p n : ℕ) (s : List Id) (d : Id) (o : Option ℕ) → o ≡ position (λ i. eqb i.replica p) s → o ≡ Some n → IsPlace p n s d
is_place p n s d o e f =
    let t = position-Some (λ (i : Id). eqb i.replica p) s n d (sym e ∙ f) in
    record { within = t.0; replica = eqb-true (get_or s n d).replica p t.1 }

none_before : (p : ℕ) (s : List Id) → length s ≤ position_or_len (λ i. eqb i.replica p) s → NoneOf p s
none_before p [] l = tt
none_before p (i ∷ s) l = go (eqb i.replica p) refl (none_before p s) l
  where
    go : (b : Bool) → eqb i.replica p ≡ b → (length s ≤ position_or_len (λ j. eqb j.replica p) s → NoneOf p s) → length (i ∷ s) ≤ position_or_len (λ j. eqb j.replica p) (i ∷ s) → NoneOf p (i ∷ s)
    go true e ih m = let no : length (i ∷ s) ≤ 0 = rw e at m in absurd (omega arith)
    go false e ih m = let more : length (i ∷ s) ≤ 1 + position_or_len (λ j. eqb j.replica p) s = rw e at m in (e, ih (omega arith))

pub no_place : (p : ℕ) (s : List Id) (o : Option ℕ) → o ≡ position (λ i. eqb i.replica p) s → o ≡ None → NoneOf p s
no_place p s o e f =
    let none : position (λ (i : Id). eqb i.replica p) s ≡ None = sym e ∙ f in
    none_before p s (grind (arith, common_steps))

-- with another counter at the place of its replica
none_of-set : (p : ℕ) (i : Id) (s : List Id) (n : ℕ) (d : Id) → n < length s → (get_or s n d).replica ≡ i.replica → NoneOf p s → NoneOf p (set s n i)
none_of-set p i [] n d l r h = absurd (omega arith)
none_of-set p i (j ∷ s) zero d l r h = let same : eqb i.replica p ≡ false = ap (λ (x : ℕ). eqb x p) (sym r) ∙ h.0 in (same, h.1)
none_of-set p i (j ∷ s) (suc n) d l r h = (h.0, none_of-set p i s n d (omega arith) r h.1)

pub one_each-set : (i : Id) (s : List Id) (n : ℕ) (d : Id) → IsPlace i.replica n s d → IsVersionVector s → IsVersionVector (set s n i)
one_each-set i s n d w h = go s n w.within w.replica h
  where
    go : (s : List Id) (n : ℕ) → n < length s → (get_or s n d).replica ≡ i.replica → IsVersionVector s → IsVersionVector (set s n i)
    go [] n l r h = absurd (omega arith)
    go (j ∷ s) zero l r h = (subst (λ (x : ℕ). NoneOf x s) r h.0, h.1)
    go (j ∷ s) (suc n) l r h = (none_of-set j.replica i s n d (omega arith) r h.0, go s n (omega arith) r h.1)

-- with one of a new replica at the end
none_of-push : (p : ℕ) (i : Id) (s : List Id) → eqb i.replica p ≡ false → NoneOf p s → NoneOf p (s ++ i ∷ [])
none_of-push p i [] e h = (e, tt)
none_of-push p i (j ∷ s) e h = (h.0, none_of-push p i s e h.1)

pub one_each-push : (i : Id) (s : List Id) → NoneOf i.replica s → IsVersionVector s → IsVersionVector (s ++ i ∷ [])
one_each-push i [] a h = (tt, tt)
one_each-push i (j ∷ s) a h = (none_of-push j.replica i s (other_way j.replica i.replica a.0) h.0, one_each-push i s a.1 h.1)

-- without the one at a place
none_of-remove : (p : ℕ) (s : List Id) (n : ℕ) → n < length s → NoneOf p s → NoneOf p (remove s n)
none_of-remove p [] n l h = absurd (omega arith)
none_of-remove p (j ∷ s) zero l h = h.1
none_of-remove p (j ∷ s) (suc n) l h = (h.0, none_of-remove p s n (omega arith) h.1)

pub one_each-remove : (s : List Id) (n : ℕ) → n < length s → IsVersionVector s → IsVersionVector (remove s n)
one_each-remove [] n l h = absurd (omega arith)
one_each-remove (j ∷ s) zero l h = h.1
one_each-remove (j ∷ s) (suc n) l h = (none_of-remove j.replica s n (omega arith) h.0, one_each-remove s n (omega arith) h.1)

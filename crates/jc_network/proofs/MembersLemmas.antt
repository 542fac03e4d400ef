-- Lemmas about members of lists of operations and of networks, for the other proofs and the crates above.
use Rattle.std.proofs.Common.{◌≡◌, ◌≢◌, ℕ, zero, suc, ◌<◌, List, [], ◌∷◌, length, Some, Bool, true, false, Contains, ◌⊎◌, inl, inr, slice_get, slice_set, refl, sym, ◌∙◌, ap, subst, arith}
use Rattle.std.specs.declared.cmp.Ordering.{Ordering}
use Rattle.std.specs.declared.cmp.Ordering.TheVariants.{Less, Equal, Greater}
use Rattle.std.proofs.lemmas.Option.{same_Some}
use Rattle.jc_rules.specs.declared.id.Id.{Id}
use Rattle.jc_rules.specs.declared.operation.Op.{Op}
use Rattle.jc_rules.specs.Order.{id_cmp, same_id}
use Rattle.jc_rules.specs.Ids.{has_id, with_id}
use Rattle.jc_rules.specs.Table.{op_of, with_op, both}
use Rattle.jc_rules.proofs.OrderLemmas.{exact_ids}
use Rattle.jc_rules.proofs.IdsLemmas.{same_id-self, same_id-true, has_id-with}
use Rattle.jc_rules.proofs.BoolLemmas.{or_right, or_cases}

pub none_in : {X A : Type 0} (x : X) → Contains [] x → A
none_in x (k, lt, e) = absurd (omega (arith, lt))

pub first_in : {X : Type 0} (x : X) (xs : List X) → Contains (x ∷ xs) x
first_in x xs = (0, omega arith, refl)

pub later_in : {X : Type 0} (x y : X) (xs : List X) → Contains xs x → Contains (y ∷ xs) x
later_in x y xs (k, lt, e) = (suc k, omega (arith, lt), e)

pub in_cons : {X : Type 0} (x y : X) (xs : List X) → Contains (y ∷ xs) x → (y ≡ x) ⊎ Contains xs x
in_cons x y xs (zero, lt, e) = inl e
in_cons x y xs (suc k, lt, e) = inr (k, omega (arith, lt), e)

-- what is in the list with one operation more
pub in_with : (o : Op) (os : List Op) (x : Op) → Contains (with_op o os) x → (o ≡ x) ⊎ Contains os x
in_with o [] x h = in_cons x o [] h
in_with o (p ∷ ps) x h = go (id_cmp o.id p.id) refl (in_with o ps x)
  where
    later : (p ≡ x) ⊎ Contains (with_op o ps) x → (Contains (with_op o ps) x → (o ≡ x) ⊎ Contains ps x) → (o ≡ x) ⊎ Contains (p ∷ ps) x
    later (inl e) f = inr (subst (λ y. Contains (p ∷ ps) y) e (first_in p ps))
    later (inr g) f = after (f g)
      where
        after : (o ≡ x) ⊎ Contains ps x → (o ≡ x) ⊎ Contains (p ∷ ps) x
        after (inl e) = inl e
        after (inr k) = inr (later_in x p ps k)

    go : (r : Ordering) → id_cmp o.id p.id ≡ r → (Contains (with_op o ps) x → (o ≡ x) ⊎ Contains ps x) → (o ≡ x) ⊎ Contains (p ∷ ps) x
    go Less e ih = in_cons x o (p ∷ ps) (rw e at h)
    go Equal e ih = inr (rw e at h)
    go Greater e ih = later (in_cons x p (with_op o ps) (rw e at h)) ih

-- what was in it still is
pub still_with : (o : Op) (os : List Op) (x : Op) → Contains os x → Contains (with_op o os) x
still_with o [] x h = none_in x h
still_with o (p ∷ ps) x h = go (id_cmp o.id p.id) refl (still_with o ps x)
  where
    later : (p ≡ x) ⊎ Contains ps x → (Contains ps x → Contains (with_op o ps) x) → Contains (p ∷ with_op o ps) x
    later (inl e) f = subst (λ y. Contains (p ∷ with_op o ps) y) e (first_in p (with_op o ps))
    later (inr g) f = later_in x p (with_op o ps) (f g)

    go : (r : Ordering) → id_cmp o.id p.id ≡ r → (Contains ps x → Contains (with_op o ps) x) → Contains (with_op o (p ∷ ps)) x
    go Less e ih = rw e (later_in x o (p ∷ ps) h)
    go Equal e ih = rw e h
    go Greater e ih = rw e (later (in_cons x p ps h) ih)

-- an operation whose identifier is new is in it
pub now_with : (o : Op) (os : List Op) → ((x : Op) → Contains os x → x.id ≢ o.id) → Contains (with_op o os) o
now_with o [] h = first_in o []
now_with o (p ∷ ps) h = go (id_cmp o.id p.id) refl (now_with o ps (λ x g. h x (later_in x p ps g)))
  where
    go : (r : Ordering) → id_cmp o.id p.id ≡ r → Contains (with_op o ps) o → Contains (with_op o (p ∷ ps)) o
    go Less e ih = rw e (first_in o (p ∷ ps))
    go Equal e ih = absurd (h p (first_in p ps) (sym (exact_ids o.id p.id e)))
    go Greater e ih = rw e (later_in o p (with_op o ps) ih)

pub in_both : (os ps : List Op) (x : Op) → Contains (both os ps) x → Contains os x ⊎ Contains ps x
in_both os [] x h = inl h
in_both os (p ∷ ps) x h = go (in_with p (both os ps) x h) (in_both os ps x)
  where
    after : Contains os x ⊎ Contains ps x → Contains os x ⊎ Contains (p ∷ ps) x
    after (inl g) = inl g
    after (inr g) = inr (later_in x p ps g)

    go : (p ≡ x) ⊎ Contains (both os ps) x → (Contains (both os ps) x → Contains os x ⊎ Contains ps x) → Contains os x ⊎ Contains (p ∷ ps) x
    go (inl e) ih = inr (subst (λ y. Contains (p ∷ ps) y) e (first_in p ps))
    go (inr g) ih = after (ih g)

pub still_both : (os ps : List Op) (x : Op) → Contains os x → Contains (both os ps) x
still_both os [] x h = h
still_both os (p ∷ ps) x h = still_with p (both os ps) x (still_both os ps x h)

-- the operation of an identifier is in the list
pub op_in : (i : Id) (os : List Op) (o : Op) → op_of i os ≡ Some o → Contains os o × (o.id ≡ i)
op_in i [] o h = cc
op_in i (p ∷ ps) o h = go (same_id i p.id) refl (op_in i ps o) h
  where
    go : (b : Bool) → same_id i p.id ≡ b → (op_of i ps ≡ Some o → Contains ps o × (o.id ≡ i)) → op_of i (p ∷ ps) ≡ Some o → Contains (p ∷ ps) o × (o.id ≡ i)
    go true e ih g =
        let s : p ≡ o = same_Some p o (rw e at g) in
        let j : i ≡ p.id = same_id-true i p.id e in
        (subst (λ y. Contains (p ∷ ps) y) s (first_in p ps), sym (j ∙ ap (λ (y : Op). y.id) s))
    go false e ih g = let x = ih (rw e at g) in (later_in o p ps x.0, x.1)

-- where operations with one identifier are one, an operation of the list is that of its identifier
pub of_id : (os : List Op) (o : Op) → ((x : Op) → Contains os x → x.id ≡ o.id → x ≡ o) → Contains os o → op_of o.id os ≡ Some o
of_id [] o f h = none_in o h
of_id (p ∷ ps) o f h = go (same_id o.id p.id) refl (of_id ps o (λ x g. f x (later_in x p ps g))) (in_cons o p ps h)
  where
    go : (b : Bool) → same_id o.id p.id ≡ b → (Contains ps o → op_of o.id ps ≡ Some o) → (p ≡ o) ⊎ Contains ps o → op_of o.id (p ∷ ps) ≡ Some o
    go true e ih g = let s : p ≡ o = f p (first_in p ps) (sym (same_id-true o.id p.id e)) in rw e (ap (λ y. Some y) s)
    go false e ih (inl g) = let t : same_id o.id p.id ≡ true = subst (λ (y : Op). same_id o.id y.id ≡ true) (sym g) (same_id-self o.id) in cc
    go false e ih (inr g) = rw e (ih g)

pub in_with_id : (k i : Id) (s : List Id) → has_id k (with_id i s) ≡ true → (k ≡ i) ⊎ (has_id k s ≡ true)
in_with_id k i s h = go (or_cases (same_id k i) (has_id k s) (sym (has_id-with k i s) ∙ h))
  where
    go : (same_id k i ≡ true) ⊎ (has_id k s ≡ true) → (k ≡ i) ⊎ (has_id k s ≡ true)
    go (inl e) = inl (same_id-true k i e)
    go (inr e) = inr e

pub still_with_id : (k i : Id) (s : List Id) → has_id k s ≡ true → has_id k (with_id i s) ≡ true
still_with_id k i s h = has_id-with k i s ∙ or_right (same_id k i) (has_id k s) h

pub now_with_id : (i : Id) (s : List Id) → has_id i (with_id i s) ≡ true
now_with_id i s = has_id-with i i s ∙ rw (same_id-self i) refl

-- ---- one state of a network

pub some_at : {X : Type 0} (xs : List X) (p : ℕ) → p < length xs → (x : X) × (slice_get xs p ≡ Some x)
some_at [] p l = absurd (omega (arith, l))
some_at (x ∷ xs) zero l = (x, refl)
some_at (x ∷ xs) (suc p) l = some_at xs p (omega (arith, l))

-- ---- it is set

pub set_there : {X : Type 0} (xs : List X) (p : ℕ) (a b : X) → slice_get xs p ≡ Some a → slice_get (slice_set xs p b) p ≡ Some b
set_there [] p a b h = cc
set_there (x ∷ xs) zero a b h = refl
set_there (x ∷ xs) (suc p) a b h = set_there xs p a b h

pub set_other : {X : Type 0} (xs : List X) (p q : ℕ) (b : X) → (q ≡ p) ⊎ (slice_get (slice_set xs p b) q ≡ slice_get xs q)
set_other [] p q b = inr refl
set_other (x ∷ xs) zero zero b = inl refl
set_other (x ∷ xs) zero (suc q) b = inr refl
set_other (x ∷ xs) (suc p) zero b = inr refl
set_other (x ∷ xs) (suc p) (suc q) b = go (set_other xs p q b)
  where
    go : (q ≡ p) ⊎ (slice_get (slice_set xs p b) q ≡ slice_get xs q) → (suc q ≡ suc p) ⊎ (slice_get (slice_set xs p b) q ≡ slice_get xs q)
    go (inl e) = inl (ap suc e)
    go (inr e) = inr e

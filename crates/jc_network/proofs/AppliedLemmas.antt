-- Lemmas about Applied: what a replica has applied, in stored states and in the states that they represent.
use Rattle.std.proofs.Common.{◌≡◌, ℕ, List, [], ◌∷◌, ◌++◌, append_assoc, length, map, filter, Some, Bool, true, false, Contains, ◌⊎◌, inl, inr, slice_get, refl, sym, ◌∙◌, ap, subst, arith}
use Rattle.std.specs.List.{AllByRecursion}
use Rattle.std.specs.declared.cmp.Ordering.{Ordering}
use Rattle.std.specs.declared.cmp.Ordering.TheVariants.{Less, Equal, Greater}
use Rattle.jc_rules.specs.declared.id.Id.{Id}
use Rattle.jc_rules.specs.declared.operation.Op.{Op}
use Rattle.jc_rules.specs.VersionVectors.{covered}
use Rattle.jc_rules.specs.Ids.{has_id}
use Rattle.jc_rules.specs.Order.{id_cmp}
use Rattle.jc_rules.specs.State.{State}
use Rattle.jc_rules.specs.Table.{op_of, with_op, both}
use Rattle.jc_rules.proofs.OrderLemmas.{ids_total, exact_ids}
use Rattle.jc_rules.proofs.RisingLemmas as rising
use Rattle.jc_rules.proofs.RepresentationLemmas.{counters_tell}
use Rattle.jc_vectors.specs.StoredStates.{stored_op, AreOf, RepresentsState}
use Rattle.jc_vectors.proofs.UnionStandsLemmas.{union_stands}
use Rattle.jc_replica.specs.Operations.{identifiers, AreInOrder}
use Rattle.jc_replica.proofs.ReceivedUnionLemmas.{all_both, both-in_order, filter-in_order}
use Rattle.jc_network.specs.Applied.{applied_ops, IsApplied}
use Rattle.jc_network.specs.RunInvariant.{IsReplicaAt, IsMadeOp, IsWell}
use Rattle.jc_network.specs.Refines.{AreSeen}
use Rattle.jc_network.proofs.EnabledOrderLemmas.{IsOrdered}
use Rattle.jc_network.proofs.MembersLemmas.{none_in, first_in, later_in, in_cons, in_both, still_both, still_with}

-- ---- both lists, from the front

-- all have greater identifiers
abbrev pub AreAfter : Id → List Op → Type 0
AreAfter i os = AllByRecursion (λ o. id_cmp i o.id ≡ Less) os

pub after_first : (i : Id) (os : List Op) → AllByRecursion (λ j. id_cmp i j ≡ Less) (identifiers os) → AreAfter i os
after_first i [] h = tt
after_first i (o ∷ os) h = (h.0, after_first i os h.1)

after_less : (i j : Id) (os : List Op) → id_cmp i j ≡ Less → AreAfter j os → AreAfter i os
after_less i j [] l h = tt
after_less i j (o ∷ os) l h = (ids_total.trans i j o.id l h.0, after_less i j os l h.1)

-- one that is less than all comes first
with-first : (o : Op) (os : List Op) → AreAfter o.id os → with_op o os ≡ o ∷ os
with-first o [] h = refl
with-first o (p ∷ os) h = rw (h.0) refl

both-first : (o : Op) (os ps : List Op) → AreAfter o.id ps → both (o ∷ os) ps ≡ o ∷ both os ps
both-first o os [] h = refl
both-first o os (p ∷ ps) h = ap (with_op p) (both-first o os ps h.1) ∙ later
  where
    later : with_op p (o ∷ both os ps) ≡ o ∷ with_op p (both os ps)
    later = rw (rising.less_greater ids_total o.id p.id h.0) refl

-- what comes next, and what is left
pub both_less : (o p : Op) (os ps : List Op) → AreInOrder (o ∷ os) → AreInOrder (p ∷ ps) → id_cmp o.id p.id ≡ Less → both (o ∷ os) (p ∷ ps) ≡ o ∷ both os (p ∷ ps)
both_less o p os ps h g l = both-first o os (p ∷ ps) (l, after_less o.id p.id ps l (after_first p.id ps g.0))

pub both_greater : (o p : Op) (os ps : List Op) → AreInOrder (o ∷ os) → AreInOrder (p ∷ ps) → id_cmp o.id p.id ≡ Greater → both (o ∷ os) (p ∷ ps) ≡ p ∷ both (o ∷ os) ps
both_greater o p os ps h g l =
    let m : id_cmp p.id o.id ≡ Less = rising.greater_less ids_total o.id p.id l in
    with-first p (both (o ∷ os) ps) (all_both (λ q. id_cmp p.id q.id ≡ Less) (o ∷ os) ps (m, after_less p.id o.id os m (after_first o.id os h.0)) (after_first p.id ps g.0))

pub both_equal : (o p : Op) (os ps : List Op) → AreInOrder (p ∷ ps) → id_cmp o.id p.id ≡ Equal → both (o ∷ os) (p ∷ ps) ≡ o ∷ both os ps
both_equal o p os ps g l =
    let same : o.id ≡ p.id = exact_ids o.id p.id l in
    let after : AreAfter o.id ps = subst (λ i. AreAfter i ps) (sym same) (after_first p.id ps g.0) in
    let back : id_cmp p.id o.id ≡ Equal = rising.equal_back ids_total o.id p.id l in
    ap (with_op p) (both-first o os ps after) ∙ rw back refl

pub both_rest : (p : Op) (ps : List Op) → AreInOrder (p ∷ ps) → both [] (p ∷ ps) ≡ p ∷ both [] ps
both_rest p ps g = with-first p (both [] ps) (all_both (λ q. id_cmp p.id q.id ≡ Less) [] ps tt (after_first p.id ps g.0))

pub next_less : (ms rs : List Op) (o p : Op) (os ps : List Op) → AreInOrder ms → AreInOrder rs → ms ≡ o ∷ os → rs ≡ p ∷ ps → id_cmp o.id p.id ≡ Less → both ms rs ≡ o ∷ both os rs
next_less ms rs o p os ps a b m r l =
    ap (λ (x : List Op). both x rs) m ∙ ap (both (o ∷ os)) r
    ∙ both_less o p os ps (subst AreInOrder m a) (subst AreInOrder r b) l
    ∙ ap (λ (x : List Op). o ∷ both os x) (sym r)

pub next_greater : (ms rs : List Op) (o p : Op) (os ps : List Op) → AreInOrder ms → AreInOrder rs → ms ≡ o ∷ os → rs ≡ p ∷ ps → id_cmp o.id p.id ≡ Greater → both ms rs ≡ p ∷ both ms ps
next_greater ms rs o p os ps a b m r l =
    ap (λ (x : List Op). both x rs) m ∙ ap (both (o ∷ os)) r
    ∙ both_greater o p os ps (subst AreInOrder m a) (subst AreInOrder r b) l
    ∙ ap (λ (x : List Op). p ∷ both x ps) (sym m)

pub next_equal : (ms rs : List Op) (o p : Op) (os ps : List Op) → AreInOrder rs → ms ≡ o ∷ os → rs ≡ p ∷ ps → id_cmp o.id p.id ≡ Equal → both ms rs ≡ o ∷ both os ps
next_equal ms rs o p os ps b m r l =
    ap (λ (x : List Op). both x rs) m ∙ ap (both (o ∷ os)) r ∙ both_equal o p os ps (subst AreInOrder r b) l

pub next_rest : (ms rs : List Op) (p : Op) (ps : List Op) → AreInOrder rs → length ms ≡ 0 → rs ≡ p ∷ ps → both ms rs ≡ p ∷ both ms ps
next_rest [] rs p ps b m r = ap (both []) r ∙ both_rest p ps (subst AreInOrder r b)
next_rest (o ∷ ms) rs p ps b m r = absurd (omega (arith, m))

-- the first of what is left was put at the end of what was found
pub found_on : {A : Type 0} (all found left rest more : List A) (x : A) → all ≡ found ++ left → left ≡ x ∷ rest → more ≡ found ++ x ∷ [] → all ≡ more ++ rest
found_on all found left rest more x e f g = e ∙ ap (λ l. found ++ l) f ∙ sym (append_assoc found (x ∷ []) rest) ∙ ap (λ l. l ++ rest) (sym g)

-- ---- as they are kept

filter_kept : (set : List Op) (A : State) (os : List Op) → ((o : Op) → op_of o.id set ≡ Some o → has_id o.id (covered A.ops) ≡ has_id o.id A.ops) → AreOf set os → filter (λ o. has_id o.id (covered A.ops)) (map stored_op os) ≡ map stored_op (filter (λ o. has_id o.id A.ops) os)
filter_kept set A [] f h = refl
filter_kept set A (o ∷ os) f h = go (has_id o.id A.ops) refl (filter_kept set A os f h.1)
  where
    go : (b : Bool) → has_id o.id A.ops ≡ b → filter (λ e. has_id e.id (covered A.ops)) (map stored_op os) ≡ map stored_op (filter (λ e. has_id e.id A.ops) os) → filter (λ e. has_id e.id (covered A.ops)) (map stored_op (o ∷ os)) ≡ map stored_op (filter (λ e. has_id e.id A.ops) (o ∷ os))
    go true e ih = rw (f o h.0 ∙ e, e) (ap (λ (l : List Op). stored_op o ∷ l) ih)
    go false e ih = rw (f o h.0 ∙ e, e) ih

pub applied_kept : (set : List Op) (A K : State) → RepresentsState set A K → applied_ops K ≡ map stored_op (applied_ops A)
applied_kept set A K s =
    let u = union_stands set A.queue A.recv s.made s.received in
    ap applied_ops s.is
    ∙ ap (λ (os : List Op). filter (λ o. has_id o.id (covered A.ops)) os) u.0
    ∙ filter_kept set A (both A.queue A.recv) (λ o e. counters_tell set A.ops s.sound s.applied o.id o e) u.1

pub applied_stands : (set : List Op) (network kept : List State) → AreSeen set network kept → (p : ℕ) (K : State) → IsReplicaAt kept p K → IsApplied network p (applied_ops K)
applied_stands set network kept seen p K t =
    let x = seen.each p K t in
    record { at = x.at; there = x.there; ops_are = applied_kept set x.at K x.seen.stands }

-- ---- in every run

in_filter : (f : Op → Bool) (os : List Op) (o : Op) → Contains (filter f os) o → Contains os o × (f o ≡ true)
in_filter f [] o k = none_in o k
in_filter f (p ∷ os) o k = go (f p) refl (in_filter f os o)
  where
    later : Contains os o × (f o ≡ true) → Contains (p ∷ os) o × (f o ≡ true)
    later x = (later_in o p os x.0, x.1)

    here : f p ≡ true → (Contains (filter f os) o → Contains os o × (f o ≡ true)) → (p ≡ o) ⊎ Contains (filter f os) o → Contains (p ∷ os) o × (f o ≡ true)
    here e ih (inl s) = (subst (λ x. Contains (p ∷ os) x) s (first_in p os), subst (λ x. f x ≡ true) s e)
    here e ih (inr m) = later (ih m)

    go : (b : Bool) → f p ≡ b → (Contains (filter f os) o → Contains os o × (f o ≡ true)) → Contains (p ∷ os) o × (f o ≡ true)
    go true e ih = here e ih (in_cons o p (filter f os) (rw e at k))
    go false e ih = later (ih (rw e at k))

filter_in : (f : Op → Bool) (os : List Op) (o : Op) → Contains os o → f o ≡ true → Contains (filter f os) o
filter_in f [] o k h = none_in o k
filter_in f (p ∷ os) o k h = go (f p) refl (in_cons o p os k) (λ m. filter_in f os o m h)
  where
    go : (b : Bool) → f p ≡ b → (p ≡ o) ⊎ Contains os o → (Contains os o → Contains (filter f os) o) → Contains (filter f (p ∷ os)) o
    go true e (inl s) ih = rw e (subst (λ x. Contains (p ∷ filter f os) x) s (first_in p (filter f os)))
    go true e (inr m) ih = rw e (later_in o p (filter f os) (ih m))
    go false e (inl s) ih = let z : false ≡ true = sym e ∙ (ap f s ∙ h) in cc
    go false e (inr m) ih = rw e (ih m)

-- an operation is in the list with it, where those with its identifier are itself
with_itself : (o : Op) (os : List Op) → ((x : Op) → Contains os x → x.id ≡ o.id → x ≡ o) → Contains (with_op o os) o
with_itself o [] h = first_in o []
with_itself o (p ∷ os) h = go (id_cmp o.id p.id) refl (with_itself o os (λ x k e. h x (later_in x p os k) e))
  where
    go : (c : Ordering) → id_cmp o.id p.id ≡ c → Contains (with_op o os) o → Contains (with_op o (p ∷ os)) o
    go Less e ih = rw e (first_in o (p ∷ os))
    go Equal e ih =
        let same : p ≡ o = h p (first_in p os) (sym (exact_ids o.id p.id e)) in
        rw e (subst (λ x. Contains (p ∷ os) x) same (first_in p os))
    go Greater e ih = rw e (later_in o p (with_op o os) ih)

both_second : (os ps : List Op) (o : Op) → ((x : Op) → Contains os x ⊎ Contains ps x → x.id ≡ o.id → x ≡ o) → Contains ps o → Contains (both os ps) o
both_second os [] o h k = none_in o k
both_second os (p ∷ ps) o h k = go (in_cons o p ps k) (both_second os ps o (λ x m. h x (more x m)))
  where
    more : (x : Op) → Contains os x ⊎ Contains ps x → Contains os x ⊎ Contains (p ∷ ps) x
    more x (inl m) = inl m
    more x (inr m) = inr (later_in x p ps m)

    go : (p ≡ o) ⊎ Contains ps o → (Contains ps o → Contains (both os ps) o) → Contains (both os (p ∷ ps)) o
    go (inl s) ih =
        let there : Contains (with_op p (both os ps)) p = with_itself p (both os ps) (λ x m e. h x (more x (in_both os ps x m)) (e ∙ ap (λ (y : Op). y.id) s) ∙ sym s) in
        subst (λ x. Contains (with_op p (both os ps)) x) s there
    go (inr m) ih = still_with p (both os ps) o (ih m)

module _ (network : List State) (w : IsWell network) (p : ℕ) (A : State) (there : IsReplicaAt network p A) where
  held_made : (o : Op) → Contains A.queue o ⊎ Contains A.recv o → IsMadeOp network o
  held_made o (inl m) = record { at = A; there = ap (slice_get network) ((w.sets.own p A o there m).0) ∙ there; queued = m }
  held_made o (inr m) = w.sets.received p A o there m

  held_both : (o : Op) → Contains A.queue o ⊎ Contains A.recv o → Contains (both A.queue A.recv) o
  held_both o (inl m) = still_both A.queue A.recv o m
  held_both o (inr m) = both_second A.queue A.recv o (λ x k e. w.sets.sound.one_each x o (held_made x k) (held_made o (inr m)) e) m

  abbrev is_applied : Op → Bool
  is_applied o = has_id o.id A.ops

  pub applied_is : (o : Op) → (Contains (applied_ops A) o → (Contains A.queue o ⊎ Contains A.recv o) × (has_id o.id A.ops ≡ true)) × ((Contains A.queue o ⊎ Contains A.recv o) × (has_id o.id A.ops ≡ true) → Contains (applied_ops A) o)
  applied_is o = (λ k. let x = in_filter is_applied (both A.queue A.recv) o k in (in_both A.queue A.recv o x.0, x.1), λ x. filter_in is_applied (both A.queue A.recv) o (held_both o x.0) x.1)

  pub applied_has : (i : Id) → has_id i A.ops ≡ true → (o : Op) × Contains (applied_ops A) o × (o.id ≡ i)
  applied_has i d =
      let x = w.sets.applied p A i there d in
      let e : has_id x.0.id A.ops ≡ true = subst (λ j. has_id j A.ops ≡ true) (sym x.2) d in
      (x.0, filter_in is_applied (both A.queue A.recv) x.0 (held_both x.0 x.1) e, x.2)

  pub applied_order : IsOrdered A → AreInOrder (applied_ops A)
  applied_order h = filter-in_order is_applied (both A.queue A.recv) (both-in_order A.queue A.recv h.made)

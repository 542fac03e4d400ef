-- Lemmas about Abstract: stored states represent the network that is computed from them.
use Rattle.std.proofs.Common.{◌≡◌, ℕ, zero, suc, List, [], ◌∷◌, Some, true, Contains, ◌⊎◌, inl, inr, map, length, slice_get, refl, sym, ◌∙◌, ap, subst, arith}
use Rattle.std.proofs.lemmas.List.Elements.{Contains-append_left, Contains-append_right, Contains-append_cases}
use Rattle.std.proofs.lemmas.Option.{same_Some}
use Rattle.jc_rules.specs.declared.id.Id.{Id}
use Rattle.jc_rules.specs.declared.operation.Op.{Op}
use Rattle.jc_rules.specs.Ids.{has_id}
use Rattle.jc_rules.specs.Sound.{IsSound}
use Rattle.jc_rules.specs.State.{State}
use Rattle.jc_rules.specs.Table.{op_of}
use Rattle.jc_rules.proofs.IdsLemmas.{same_members}
use Rattle.jc_vectors.specs.OperationIds.{ids_of_ops, ids_within}
use Rattle.jc_vectors.specs.StoredStates.{stored_op, RepresentsState, AreOf}
use Rattle.jc_vectors.proofs.ApplyStandsLemmas.{deps_closed}
use Rattle.jc_vectors.proofs.OperationIdsLemmas.{of_operation, operation_of, within_is, ids-rise}
use Rattle.jc_network.specs.RunInvariant.{IsReplicaAt, IsMadeOp}
use Rattle.jc_network.specs.Abstract.{queues, real_op, real_state, real}
use Rattle.jc_network.specs.Refines.{AreSeen}
use Rattle.jc_network.proofs.MembersLemmas.{none_in, first_in, later_in, in_cons, op_in, still_with_id, now_with_id}
use Rattle.jc_network.proofs.RefinesLemmas.{all_in}
use Rattle.jc_rules.proofs.BoolLemmas.{same_tests}

-- ---- two lists, place by place

other_at : {X Y : Type 0} (xs : List X) (ys : List Y) (p : ℕ) (x : X) → length xs ≡ length ys → slice_get xs p ≡ Some x → (y : Y) × (slice_get ys p ≡ Some y)
other_at [] ys p x l e = cc
other_at (z ∷ xs) [] p x l e = absurd (omega (arith, l))
other_at (z ∷ xs) (y ∷ ys) zero x l e = (y, refl)
other_at (z ∷ xs) (y ∷ ys) (suc p) x l e = other_at xs ys p x (omega (arith, l)) e

same_places : {X Y : Type 0} (f : Y → X) (xs : List X) (ys : List Y) → length xs ≡ length ys → ((p : ℕ) (y : Y) → slice_get ys p ≡ Some y → slice_get xs p ≡ Some (f y)) → xs ≡ map f ys
same_places f [] [] l h = refl
same_places f [] (y ∷ ys) l h = absurd (omega (arith, l))
same_places f (x ∷ xs) [] l h = absurd (omega (arith, l))
same_places f (x ∷ xs) (y ∷ ys) l h =
    let first : x ≡ f y = same_Some x (f y) (h 0 y refl) in
    let rest : xs ≡ map f ys = same_places f xs ys (omega (arith, l)) (λ p z e. h (suc p) z e) in
    λ n. first n ∷ rest n

-- ---- all queues

in_queues : (kept : List State) (p : ℕ) (K : State) (o : Op) → IsReplicaAt kept p K → Contains K.queue o → Contains (queues kept) o
in_queues [] p K o e c = cc
in_queues (L ∷ kept) zero K o e c =
    let s : K ≡ L = sym (same_Some L K e) in
    Contains-append_left L.queue (queues kept) o (subst (λ (S : State). Contains S.queue o) s c)
in_queues (L ∷ kept) (suc p) K o e c = Contains-append_right L.queue (queues kept) o (in_queues kept p K o e c)

-- whose queue it is in
record IsQueued (kept : List State) (o : Op) : Type 0 where
  place : ℕ
  at : State
  there : IsReplicaAt kept place at
  queued : Contains at.queue o

queued_by : (kept : List State) (o : Op) → Contains (queues kept) o → IsQueued kept o
queued_by [] o c = none_in o c
queued_by (K ∷ kept) o c = go (Contains-append_cases K.queue (queues kept) o c) (λ m. queued_by kept o m)
  where
    go : Contains K.queue o ⊎ Contains (queues kept) o → (Contains (queues kept) o → IsQueued kept o) → IsQueued (K ∷ kept) o
    go (inl m) f = record { place = 0; at = K; there = refl; queued = m }
    go (inr m) f = let x = f m in record { place = suc x.place; at = x.at; there = x.there; queued = x.queued }

id_in : (os : List Op) (o : Op) → Contains os o → has_id o.id (ids_of_ops os) ≡ true
id_in [] o c = none_in o c
id_in (p ∷ os) o c = go (in_cons o p os c) (id_in os o)
  where
    go : (p ≡ o) ⊎ Contains os o → (Contains os o → has_id o.id (ids_of_ops os) ≡ true) → has_id o.id (ids_of_ops (p ∷ os)) ≡ true
    go (inl s) f = subst (λ (x : Op). has_id o.id (ids_of_ops (x ∷ os)) ≡ true) (sym s) (now_with_id o.id (ids_of_ops os))
    go (inr m) f = still_with_id o.id p.id (ids_of_ops os) (f m)

pub mapped_in : (os : List Op) (o : Op) → Contains os o → Contains (map stored_op os) (stored_op o)
mapped_in [] o c = none_in o c
mapped_in (p ∷ os) o c = go (in_cons o p os c) (mapped_in os o)
  where
    go : (p ≡ o) ⊎ Contains os o → (Contains os o → Contains (map stored_op os) (stored_op o)) → Contains (map stored_op (p ∷ os)) (stored_op o)
    go (inl s) f = subst (λ x. Contains (map stored_op (p ∷ os)) (stored_op x)) s (first_in (stored_op p) (map stored_op os))
    go (inr m) f = later_in (stored_op o) (stored_op p) (map stored_op os) (f m)

pub in_mapped : (os : List Op) (k : Op) → Contains (map stored_op os) k → (o : Op) × Contains os o × (stored_op o ≡ k)
in_mapped [] k c = none_in k c
in_mapped (p ∷ os) k c = go (in_cons k (stored_op p) (map stored_op os) c) (in_mapped os k)
  where
    go : (stored_op p ≡ k) ⊎ Contains (map stored_op os) k → (Contains (map stored_op os) k → (o : Op) × Contains os o × (stored_op o ≡ k)) → (o : Op) × Contains (p ∷ os) o × (stored_op o ≡ k)
    go (inl s) f = (p, first_in p os, s)
    go (inr m) f = let x = f m in (x.0, later_in x.0 p os x.1, x.2)

-- ---- one state

module _ (set ops : List Op) (ids : ids_of_ops set ≡ ids_of_ops ops) where
  within_same : (s : List Id) → ids_within ops s ≡ ids_within set s
  within_same s = rw ids refl

  real_of_kept : IsSound set → (o : Op) → op_of o.id set ≡ Some o → real_op ops (stored_op o) ≡ o
  real_of_kept sound o of =
      let e : ids_within ops (stored_op o).deps ≡ o.deps = within_same (stored_op o).deps ∙ within_is set o.deps sound (deps_closed set o.id o sound of) in
      λ n. record { id = o.id; deps = e n; cursor = o.cursor; mutation = o.mutation }

  real_of_all : IsSound set → (os : List Op) → AreOf set os → map (real_op ops) (map stored_op os) ≡ os
  real_of_all sound [] h = refl
  real_of_all sound (o ∷ os) h =
      let first = real_of_kept sound o h.0 in
      let rest = real_of_all sound os h.1 in
      λ n. first n ∷ rest n

  real_of_state : (A K : State) → RepresentsState set A K → real_state ops K ≡ A
  real_of_state A K h =
      let left = ap (λ (S : State). S.left) h.is in
      let acted = ap (λ (S : State). S.acted) h.is in
      let vars = ap (λ (S : State). S.vars) h.is in
      let tree = ap (λ (S : State). S.tree) h.is in
      let applied = ap (λ (S : State). ids_within ops S.ops) h.is ∙ (within_same _ ∙ within_is set A.ops h.sound h.applied) in
      let queue = ap (λ (S : State). map (real_op ops) S.queue) h.is ∙ real_of_all h.sound A.queue h.made in
      let send = ap (λ (S : State). map (real_op ops) S.send) h.is ∙ real_of_all h.sound A.send h.offered in
      let recv = ap (λ (S : State). map (real_op ops) S.recv) h.is ∙ real_of_all h.sound A.recv h.received in
      λ n. record { left = left n; acted = acted n; vars = vars n; tree = tree n; ops = applied n; queue = queue n; send = send n; recv = recv n }

-- ---- the network

module _ (set : List Op) (network kept : List State) (seen : AreSeen set network kept) where
  made_queued : (o : Op) → IsMadeOp network o → has_id o.id (ids_of_ops (queues kept)) ≡ true
  made_queued o m =
      let k = other_at network kept o.id.replica m.at seen.as_many m.there in
      let x = seen.each o.id.replica k.0 k.1 in
      let same : m.at ≡ x.at = same_Some m.at x.at (sym m.there ∙ x.there) in
      let here : Contains x.at.queue o = subst (λ (S : State). Contains S.queue o) same m.queued in
      let held : Contains k.0.queue (stored_op o) = subst (λ l. Contains l (stored_op o)) (sym (ap (λ (S : State). S.queue) x.seen.stands.is)) (mapped_in x.at.queue o here) in
      id_in (queues kept) (stored_op o) (in_queues kept o.id.replica k.0 (stored_op o) k.1 held)

  queued_made : (k : Op) → Contains (queues kept) k → has_id k.id (ids_of_ops set) ≡ true
  queued_made k c =
      let q = queued_by kept k c in
      let x = seen.each q.place q.at q.there in
      let o = in_mapped x.at.queue k (subst (λ l. Contains l k) (ap (λ (S : State). S.queue) x.seen.stands.is) q.queued) in
      let of : op_of o.0.id set ≡ Some o.0 = all_in (λ e. op_of e.id set ≡ Some e) x.at.queue x.seen.stands.made o.0 o.1 in
      subst (λ (e : Op). has_id e.id (ids_of_ops set) ≡ true) o.2 (operation_of o.0.id set o.0 of)

  -- the set has the identifiers of all queues
  pub same_ids : ids_of_ops set ≡ ids_of_ops (queues kept)
  same_ids = same_members (ids_of_ops set) (ids_of_ops (queues kept)) (ids-rise set) (ids-rise (queues kept)) (λ i. same_tests (has_id i (ids_of_ops set)) (has_id i (ids_of_ops (queues kept))) (down i) (up i))
    where
      down : (i : Id) → has_id i (ids_of_ops set) ≡ true → has_id i (ids_of_ops (queues kept)) ≡ true
      down i h =
          let t = of_operation i set h in
          let m = op_in i set t.0 t.1 in
          subst (λ j. has_id j (ids_of_ops (queues kept)) ≡ true) m.1 (made_queued t.0 (seen.all t.0 m.0))

      up : (i : Id) → has_id i (ids_of_ops (queues kept)) ≡ true → has_id i (ids_of_ops set) ≡ true
      up i h =
          let t = of_operation i (queues kept) h in
          let m = op_in i (queues kept) t.0 t.1 in
          subst (λ j. has_id j (ids_of_ops set) ≡ true) m.1 (queued_made t.0 m.0)

  pub seen_is_real : network ≡ real kept
  seen_is_real = same_places (real_state (queues kept)) network kept seen.as_many (λ p K e. let x = seen.each p K e in x.there ∙ ap (λ S. Some S) (sym (real_of_state set (queues kept) same_ids x.at K x.seen.stands)))

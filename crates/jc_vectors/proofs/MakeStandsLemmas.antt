-- About MakeStands of specs/StateLaws: making a stored operation, and the one that it represents.
use Rattle.std.proofs.Common.{◌≡◌, ℕ, zero, suc, ◌+◌, ◌<◌, ◌≤◌, List, ◌∷◌, true, ◌⊎◌, inl, inr, Option, Some, None, refl, sym, ◌∙◌, ap, subst, arith}
use Rattle.std.specs.Prelude.{Contains}
use Rattle.jc_rules.specs.declared.id.Id.{Id}
use Rattle.jc_rules.specs.declared.operation.Op.{Op}
use Rattle.jc_rules.specs.declared.operation.Cursor.{Cursor}
use Rattle.jc_rules.specs.declared.operation.Mutation.{Mutation}
use Rattle.jc_rules.specs.Order.{same_id}
use Rattle.jc_rules.specs.Ids.{AreRising, has_id, with_id, greatest}
use Rattle.jc_rules.specs.Context.{Context}
use Rattle.jc_rules.specs.State.{State}
use Rattle.jc_rules.specs.Table.{op_of}
use Rattle.jc_rules.specs.Sound.{IsSound, IsDependency}
use Rattle.jc_rules.specs.Derivation.{Operate, ToContext}
use Rattle.jc_rules.specs.Derives.{Derives}
use Rattle.jc_rules.proofs.IdsLemmas.{same_id-self, has_id-with}
use Rattle.jc_rules.specs.VersionVectors.{covered}
use Rattle.jc_rules.specs.Representation.{IsCausallyClosed, Represents}
use Rattle.jc_vectors.specs.OperationIds.{ids_of_ops, with_deps}
use Rattle.jc_vectors.specs.KnownIds.{KnowsOnly}
use Rattle.jc_rules.proofs.CoveredLemmas.{filled-with}
use Rattle.jc_rules.proofs.IdSetLemmas.{member_greatest, greatest-filled}
use Rattle.jc_rules.proofs.RepresentationLemmas.{looked_up, closed_with}
use Rattle.jc_vectors.specs.StoredStates.{stored_op, stored_state, RepresentsState, HasOwn, new_op, after_making, after_making_stored}
use Rattle.jc_vectors.specs.StateLaws.{MakeStands}
use Rattle.jc_vectors.proofs.LawsLemmas.{operate_stands}
use Rattle.jc_vectors.proofs.StoredStatesLemmas.{found_more, closed_more, of_more, known_more}
use Rattle.jc_rules.proofs.BoolLemmas.{or_right}
use Rattle.jc_rules.proofs.CoveredLemmas.{left_in}
use Rattle.jc_vectors.proofs.UnionStandsLemmas.{map-with, of-with}

-- an operation that a replica makes next
module _ (set : List Op) (A : State) (p : ℕ) (cur : Cursor) (m : Mutation) (sound : IsSound set) (applied : IsCausallyClosed set A.ops) (all : HasOwn set p A) where
  abbrev new : Op
  new = new_op p A.ops cur m

  split : (e : Op) → Contains (new ∷ set) e → (new ≡ e) ⊎ Contains set e
  split e (zero, l, h) = inl h
  split e (suc k, l, h) = inr (k, (omega arith), h)

  own_below : (e : Op) → Contains set e → e.id.replica ≡ p → e.id.counter ≤ greatest A.ops
  own_below e c r = member_greatest e.id A.ops (all e c r)

  pub is_new : op_of new.id set ≡ None
  is_new = go (op_of new.id set) refl
    where
      go : (o : Option Op) → op_of new.id set ≡ o → op_of new.id set ≡ None
      go None e = e
      go (Some o) e =
          let t = looked_up new.id set o e in
          let r : o.id.replica ≡ p = ap (λ (i : Id). i.replica) t.0 in
          let n : o.id.counter ≡ greatest A.ops + 1 = ap (λ (i : Id). i.counter) t.0 in
          let b = own_below o t.1 r in
          absurd (omega arith)

  dependency : (o : Op) → (i : Id) → ((e : Op) × (op_of i set ≡ Some e) × IsDependency e o) → (e : Op) × (op_of i (new ∷ set) ≡ Some e) × IsDependency e o
  dependency o i t = (t.0, found_more set new i t.0 is_new t.1, t.2)

  depends : (i : Id) → has_id i A.ops ≡ true → ((e : Op) × (op_of i set ≡ Some e)) → (e : Op) × (op_of i (new ∷ set) ≡ Some e) × IsDependency e new
  depends i h t =
      let same : t.0.id.counter ≡ i.counter = ap (λ (j : Id). j.counter) (looked_up i set t.0 t.1).0 in
      let b = member_greatest i A.ops h in
      (t.0, found_more set new i t.0 is_new t.1, record { earlier = omega arith; closed = applied.closed i t.0 h t.1 })

  counted_all : (o : Op) → (new ≡ o) ⊎ Contains set o → 1 ≤ o.id.counter
  counted_all o (inl e) = let n : greatest A.ops + 1 ≡ o.id.counter = ap (λ (x : Op). x.id.counter) e in omega arith
  counted_all o (inr c) = sound.counted o c

  one_of : (o : Op) → (new ≡ o) ⊎ Contains set o → op_of o.id (new ∷ set) ≡ Some o
  one_of o (inl e) = subst (λ (x : Op). op_of x.id (new ∷ set) ≡ Some x) e (rw (same_id-self new.id) refl)
  one_of o (inr c) = found_more set new o.id o is_new (sound.one_each o c)

  closed_all : (o : Op) → (new ≡ o) ⊎ Contains set o → (i : Id) → has_id i o.deps ≡ true → (e : Op) × (op_of i (new ∷ set) ≡ Some e) × IsDependency e o
  closed_all o (inl e) i h = subst (λ (x : Op). (f : Op) × (op_of i (new ∷ set) ≡ Some f) × IsDependency f x) e (depends i here (applied.known i here))
    where
      here : has_id i A.ops ≡ true
      here = subst (λ (x : Op). has_id i x.deps ≡ true) (sym e) h
  closed_all o (inr c) i h = dependency o i (sound.closed o c i h)

  in_order_all : (e o : Op) → (new ≡ e) ⊎ Contains set e → (new ≡ o) ⊎ Contains set o → e.id.replica ≡ o.id.replica → e.id.counter < o.id.counter → has_id e.id o.deps ≡ true
  in_order_all e o (inr c) (inr d) r l = sound.in_order e o c d r l
  in_order_all e o (inr c) (inl g) r l = subst (λ (x : Op). has_id e.id x.deps ≡ true) g (all e c (r ∙ ap (λ (x : Op). x.id.replica) (sym g)))
  in_order_all e o (inl f) (inr d) r l =
      let n : greatest A.ops + 1 ≡ e.id.counter = ap (λ (x : Op). x.id.counter) f in
      let q : p ≡ e.id.replica = ap (λ (x : Op). x.id.replica) f in
      let b = own_below o d (sym r ∙ sym q) in
      absurd (omega arith)
  in_order_all e o (inl f) (inl g) r l =
      let n : greatest A.ops + 1 ≡ e.id.counter = ap (λ (x : Op). x.id.counter) f in
      let q : greatest A.ops + 1 ≡ o.id.counter = ap (λ (x : Op). x.id.counter) g in
      absurd (omega arith)

  rising_all : (o : Op) → (new ≡ o) ⊎ Contains set o → AreRising o.deps
  rising_all o (inl e) = subst (λ (x : Op). AreRising x.deps) e applied.rises
  rising_all o (inr c) = sound.rising o c

  pub grown : IsSound (new ∷ set)
  grown = record {
    counted = λ o c. counted_all o (split o c);
    one_each = λ o c. one_of o (split o c);
    rising = λ o c. rising_all o (split o c);
    closed = λ o c. closed_all o (split o c);
    in_order = λ e o c d. in_order_all e o (split e c) (split o d);
  }

  own_all : (t : Context) → (e : Op) → (new ≡ e) ⊎ Contains set e → e.id.replica ≡ p → has_id e.id (with_id new.id A.ops) ≡ true
  own_all t e (inl f) r = subst (λ (x : Op). has_id x.id (with_id new.id A.ops) ≡ true) f (has_id-with new.id new.id A.ops ∙ left_in (same_id new.id new.id) (has_id new.id A.ops) (same_id-self new.id))
  own_all t e (inr c) r = has_id-with e.id new.id A.ops ∙ or_right (same_id e.id new.id) (has_id e.id A.ops) (all e c r)

  pub still_own : (t : Context) → HasOwn (new ∷ set) p (after_making new t A)
  still_own t e c r = own_all t e (split e c) r

pub make_stands : MakeStands
make_stands set A kept p cur m t r u h all derived =
    (fresh, real.0, now, still_own set A p cur m h.sound h.applied all t)
  where
    o : Op
    o = new_op p A.ops cur m

    fresh : op_of (new_op p A.ops cur m).id set ≡ None
    fresh = is_new set A p cur m h.sound h.applied all

    sound : IsSound (new_op p A.ops cur m ∷ set)
    sound = grown set A p cur m h.sound h.applied all

    there : op_of (new_op p A.ops cur m).id (new_op p A.ops cur m ∷ set) ≡ Some (new_op p A.ops cur m)
    there = rw (same_id-self (new_op p A.ops cur m).id) refl

    ops : kept.ops ≡ covered A.ops
    ops = ap (λ (S : State). S.ops) h.is

    counter : greatest kept.ops ≡ greatest A.ops
    counter = ap (λ (s : List Id). greatest s) ops ∙ greatest-filled A.ops

    same : new_op p kept.ops cur m ≡ stored_op (new_op p A.ops cur m)
    same = λ n. record { id = record { counter = counter n + 1; replica = p }; deps = ops n; cursor = cur; mutation = m }

    derived_kept : Derives (Operate A.tree (stored_op (new_op p A.ops cur m))) (ToContext t) r u
    derived_kept = subst (λ (c : Context). Derives (Operate c (stored_op (new_op p A.ops cur m))) (ToContext t) r u) (ap (λ (S : State). S.tree) h.is) (subst (λ (j : Op). Derives (Operate kept.tree j) (ToContext t) r u) same derived)

    closed : IsCausallyClosed (new_op p A.ops cur m ∷ set) A.ops
    closed = closed_more set (new_op p A.ops cur m) A.ops fresh h.applied

    stood : Represents (new_op p A.ops cur m ∷ set) A.ops (covered A.ops)
    stood = record { sound = sound; closed = closed; is = refl }

    real : Derives (Operate A.tree (with_deps A.ops (stored_op (new_op p A.ops cur m)))) (ToContext t) r u × KnowsOnly (ids_of_ops (new_op p A.ops cur m ∷ set)) t
    real = operate_stands (new_op p A.ops cur m ∷ set) A.ops A.tree t (stored_op (new_op p A.ops cur m)) (new_op p A.ops cur m) r u stood there (known_more set (new_op p A.ops cur m) A.tree h.knows) derived_kept

    is : after_making_stored (new_op p kept.ops cur m) t kept ≡ stored_state (after_making (new_op p A.ops cur m) t A)
    is =
        ap (λ (S : State). after_making_stored (new_op p kept.ops cur m) t S) h.is
        ∙ ap (λ (e : Op). after_making_stored e t (stored_state A)) same
        ∙ sym (ap (λ (s : List Id). record (stored_state (after_making (new_op p A.ops cur m) t A)) { ops = s }) (filled-with (new_op p A.ops cur m).id A.ops) ∙ ap (λ (q : List Op). record (after_making_stored (stored_op (new_op p A.ops cur m)) t (stored_state A)) { queue = q }) (map-with (new_op p A.ops cur m) A.queue))

    now : RepresentsState (new_op p A.ops cur m ∷ set) (after_making (new_op p A.ops cur m) t A) (after_making_stored (new_op p kept.ops cur m) t kept)
    now = record {
      sound = sound;
      is = is;
      applied = closed_with (new_op p A.ops cur m ∷ set) A.ops (new_op p A.ops cur m).id (new_op p A.ops cur m) closed there (λ i e. e);
      made = of-with (new_op p A.ops cur m ∷ set) (new_op p A.ops cur m) A.queue there (of_more set (new_op p A.ops cur m) A.queue fresh h.made);
      offered = of_more set (new_op p A.ops cur m) A.send fresh h.offered;
      received = of_more set (new_op p A.ops cur m) A.recv fresh h.received;
      knows = real.1;
    }

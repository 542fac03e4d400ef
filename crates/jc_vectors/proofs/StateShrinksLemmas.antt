-- About StateShrinks of specs/StateLaws: a set of operations without the last one.
use Rattle.std.proofs.Common.{◌≡◌, zero, suc, List, [], ◌∷◌, Bool, true, false, ◌||◌, Option, Some, None, refl, sym, ◌∙◌, ap, subst, arith}
use Rattle.std.specs.Prelude.{Contains}
use Rattle.jc_rules.specs.declared.id.Id.{Id}
use Rattle.jc_rules.specs.declared.operation.Op.{Op}
use Rattle.jc_rules.specs.Context.{Context}
use Rattle.jc_rules.specs.Ids.{has_id}
use Rattle.jc_rules.specs.Order.{same_id}
use Rattle.jc_rules.specs.Sound.{IsSound, IsDependency}
use Rattle.jc_rules.specs.Representation.{IsCausallyClosed}
use Rattle.jc_rules.specs.Table.{op_of}
use Rattle.jc_rules.proofs.IdsLemmas.{same_id-self, same_id-true, has_id-with}
use Rattle.jc_vectors.specs.KnownIds.{EachId, KnowsOnly}
use Rattle.jc_vectors.specs.OperationIds.{ids_of_ops}
use Rattle.jc_vectors.specs.StateLaws.{StateShrinks, NewIsUnknown}
use Rattle.jc_vectors.specs.StoredStates.{AreOf, IsUnknown}
use Rattle.jc_vectors.proofs.ApplyStandsLemmas.{of_set}
use Rattle.jc_vectors.proofs.OperationIdsLemmas.{of_operation}
use Rattle.jc_vectors.proofs.StoredStatesLemmas.{each_both}
use Rattle.jc_rules.proofs.BoolLemmas.{no_truth}

no_some : {A : Type 0} (o : Op) → None ≡ Some o → A
no_some o e = absurd (let f : ⊥ = cc in f)

-- what is found beside the last one is found without it
found_less : (set : List Op) (o : Op) (i : Id) (e : Op) → same_id i o.id ≡ false → op_of i (o ∷ set) ≡ Some e → op_of i set ≡ Some e
found_less set o i e n h = rw n at h

pub further : (o : Op) (set : List Op) (e : Op) → Contains set e → Contains (o ∷ set) e
further o set e c = (suc c.0, (let l = c.1 in omega arith), c.2)

-- an operation of a list is found there by its identifier
pub some_of : (set : List Op) (e : Op) → Contains set e → op_of e.id set ≡ None → ⊥
some_of [] e (k, l, f) n = omega arith
some_of (o ∷ set) e (zero, l, f) n =
    let same : op_of o.id (o ∷ set) ≡ None = subst (λ (x : Op). op_of x.id (o ∷ set) ≡ None) (sym f) n in
    no_some o (sym (rw (same_id-self o.id) at same))
some_of (o ∷ set) e (suc k, l, f) n = go (same_id e.id o.id) refl (λ m. some_of set e (k, (omega arith), f) m) n
  where
    go : (b : Bool) → same_id e.id o.id ≡ b → (op_of e.id set ≡ None → ⊥) → op_of e.id (o ∷ set) ≡ None → ⊥
    go true p further h = no_some o (sym (rw p at h))
    go false p further h = further (rw p at h)

-- it isn't the last one, where that one was new
apart : (set : List Op) (o e : Op) → op_of o.id set ≡ None → Contains set e → same_id e.id o.id ≡ false
apart set o e fresh c = go (same_id e.id o.id) refl
  where
    go : (b : Bool) → same_id e.id o.id ≡ b → same_id e.id o.id ≡ false
    go false p = p
    go true p = absurd (some_of set e c (ap (λ (i : Id). op_of i set) (same_id-true e.id o.id p) ∙ fresh))

-- a member of a set that hasn't the identifier is another one
other : (i j : Id) (s : List Id) → has_id j s ≡ true → has_id i s ≡ false → same_id j i ≡ false
other i j s h n = go (same_id j i) refl
  where
    go : (b : Bool) → same_id j i ≡ b → same_id j i ≡ false
    go false p = p
    go true p = no_truth (sym n ∙ sym (ap (λ (k : Id). has_id k s) (same_id-true j i p)) ∙ h)

sound_less : (set : List Op) (o : Op) → IsSound (o ∷ set) → op_of o.id set ≡ None → ((e : Op) → Contains set e → has_id o.id e.deps ≡ false) → IsSound set
sound_less set o sound fresh last = record {
  counted = λ e c. sound.counted e (further o set e c);
  one_each = λ e c. found_less set o e.id e (apart set o e fresh c) (sound.one_each e (further o set e c));
  rising = λ e c. sound.rising e (further o set e c);
  closed = λ e c i h. inside e c i h (sound.closed e (further o set e c) i h);
  in_order = λ e f c d. sound.in_order e f (further o set e c) (further o set f d);
}
  where
    inside : (e : Op) → Contains set e → (i : Id) → has_id i e.deps ≡ true → ((f : Op) × (op_of i (o ∷ set) ≡ Some f) × IsDependency f e) → (f : Op) × (op_of i set ≡ Some f) × IsDependency f e
    inside e c i h t = (t.0, found_less set o i t.0 (other o.id i e.deps h (last e c)) t.1, t.2)

closed_less : (set : List Op) (o : Op) (s : List Id) → IsCausallyClosed (o ∷ set) s → has_id o.id s ≡ false → IsCausallyClosed set s
closed_less set o s closed n = record {
  rises = closed.rises;
  known = λ i h. let t = closed.known i h in (t.0, found_less set o i t.0 (other o.id i s h n) t.1);
  closed = λ i e h f. closed.closed i e h (rw (other o.id i s h n) f);
}

-- operations that don't have it
of_less : (set : List Op) (o : Op) (os : List Op) → AreOf (o ∷ set) os → op_of o.id os ≡ None → AreOf set os
of_less set o [] h n = tt
of_less set o (e ∷ os) h n = go (same_id o.id e.id) refl (of_less set o os h.1) n
  where
    go : (b : Bool) → same_id o.id e.id ≡ b → (op_of o.id os ≡ None → AreOf set os) → op_of o.id (e ∷ os) ≡ None → AreOf set (e ∷ os)
    go true p rest m = no_some e (sym (rw p at m))
    go false p rest m = (found_less set o e.id e (turned (same_id e.id o.id) refl) h.0, rest (rw p at m))
      where
        turned : (b : Bool) → same_id e.id o.id ≡ b → same_id e.id o.id ≡ false
        turned false q = q
        turned true q =
            let same : e.id ≡ o.id = same_id-true e.id o.id q in
            no_truth (sym p ∙ ap (λ (i : Id). same_id o.id i) same ∙ same_id-self o.id)

known_less : (set : List Op) (o : Op) (c : Context) → KnowsOnly (ids_of_ops (o ∷ set)) c → EachId (λ j. same_id j o.id ≡ false) c → KnowsOnly (ids_of_ops set) c
known_less set o c h g = each_both (λ i. has_id i (ids_of_ops (o ∷ set)) ≡ true) (λ i. same_id i o.id ≡ false) (λ i. has_id i (ids_of_ops set) ≡ true) (λ i e n. go i n (sym (has_id-with i o.id (ids_of_ops set)) ∙ e)) c h g
  where
    go : (i : Id) → same_id i o.id ≡ false → same_id i o.id || has_id i (ids_of_ops set) ≡ true → has_id i (ids_of_ops set) ≡ true
    go i n e = rw n at e

pub state_shrinks : StateShrinks
state_shrinks set o A kept h fresh last strange = record {
  sound = sound_less set o h.sound fresh last;
  is = h.is;
  applied = closed_less set o A.ops h.applied strange.applied;
  made = of_less set o A.queue h.made strange.made;
  offered = of_less set o A.send h.offered strange.offered;
  received = of_less set o A.recv h.received strange.received;
  knows = known_less set o A.tree h.knows strange.tree;
}

-- what no operation has
unfound : (set os : List Op) (i : Id) → AreOf set os → op_of i set ≡ None → op_of i os ≡ None
unfound set os i h n = go (op_of i os) refl
  where
    go : (x : Option Op) → op_of i os ≡ x → op_of i os ≡ None
    go None e = e
    go (Some o) e = no_some o (sym n ∙ of_set set os i o h e)

absent : (i : Id) (s : List Id) (A : Type 0) → (has_id i s ≡ true → A) → (A → ⊥) → has_id i s ≡ false
absent i s A f never = go (has_id i s) refl
  where
    go : (b : Bool) → has_id i s ≡ b → has_id i s ≡ false
    go false e = e
    go true e = absurd (never (f e))

pub new_is_unknown : NewIsUnknown
new_is_unknown set A kept i h fresh = (unknown, undepended)
  where
    found : ((o : Op) × (op_of i set ≡ Some o)) → ⊥
    found t = no_some t.0 (sym fresh ∙ t.1)

    apart_from : (j : Id) → has_id j (ids_of_ops set) ≡ true → same_id j i ≡ false
    apart_from j e = other i j (ids_of_ops set) e (absent i (ids_of_ops set) ((o : Op) × (op_of i set ≡ Some o)) (of_operation i set) found)

    unknown : IsUnknown i A
    unknown = record {
      applied = absent i A.ops ((o : Op) × (op_of i set ≡ Some o)) (h.applied.known i) found;
      made = unfound set A.queue i h.made fresh;
      offered = unfound set A.send i h.offered fresh;
      received = unfound set A.recv i h.received fresh;
      tree = each_both (λ j. has_id j (ids_of_ops set) ≡ true) (λ j. has_id j (ids_of_ops set) ≡ true) (λ j. same_id j i ≡ false) (λ j e f. apart_from j e) A.tree h.knows h.knows;
    }

    undepended : (e : Op) → Contains set e → has_id i e.deps ≡ false
    undepended e c = absent i e.deps ((o : Op) × (op_of i set ≡ Some o)) (λ d. let t = h.sound.closed e c i d in (t.0, t.1)) found

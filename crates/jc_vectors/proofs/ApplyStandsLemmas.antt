-- About ApplyStands of specs/StateLaws: applying a stored operation, and the one that it represents.
use Rattle.std.proofs.Common.{◌≡◌, List, [], ◌∷◌, Bool, true, false, map, Some, refl, sym, ◌∙◌, ap, subst}
use Rattle.std.specs.Prelude.{Contains}
use Rattle.jc_rules.specs.declared.id.Id.{Id}
use Rattle.jc_rules.specs.declared.operation.Op.{Op}
use Rattle.jc_rules.specs.Order.{same_id}
use Rattle.jc_rules.specs.Ids.{has_id, AreIn}
use Rattle.jc_rules.specs.Context.{Context}
use Rattle.jc_rules.specs.State.{State}
use Rattle.jc_rules.specs.Table.{op_of}
use Rattle.jc_rules.specs.Sound.{IsSound, IsDependency}
use Rattle.jc_rules.specs.Derivation.{Operate, ToContext}
use Rattle.jc_rules.specs.Derives.{Derives}
use Rattle.jc_rules.proofs.IdsLemmas.{same_id-true}
use Rattle.jc_rules.specs.VersionVectors.{covered}
use Rattle.jc_rules.specs.Representation.{IsCausallyClosed, Represents}
use Rattle.jc_rules.proofs.CoveredLemmas.{filled-with}
use Rattle.jc_rules.proofs.RepresentationLemmas.{looked_up, counters_tell, closed_with, subset_both}
use Rattle.jc_vectors.specs.StoredStates.{stored_op, stored_state, AreOf, RepresentsState, after_taking, after_taking_stored}
use Rattle.jc_vectors.specs.StateLaws.{ApplyStands}
use Rattle.jc_vectors.proofs.LawsLemmas.{operate_stands}

-- what an operation of the set depends on
pub deps_closed : (set : List Op) (i : Id) (o : Op) → IsSound set → op_of i set ≡ Some o → IsCausallyClosed set o.deps
deps_closed set i o sound h =
    let here = looked_up i set o h in
    record {
      rises = sound.rising o here.1;
      known = λ j e. let t = sound.closed o here.1 j e in (t.0, t.1);
      closed = λ j p e f. inside here.1 j p e f (sound.closed o here.1 j e);
    }
  where
    inside : Contains set o → (j : Id) (p : Op) → has_id j o.deps ≡ true → op_of j set ≡ Some p → ((e : Op) × (op_of j set ≡ Some e) × IsDependency e o) → AreIn p.deps o.deps
    inside c j p e f t =
        let two : Some t.0 ≡ Some p = sym t.1 ∙ f in
        let same : t.0 ≡ p = cc in
        let closed : AreIn t.0.deps o.deps = t.2.closed in
        subst (λ (x : Op). AreIn x.deps o.deps) same closed

-- the operation that was kept
pub kept_found : (i : Id) (os : List Op) (k : Op) → op_of i (map stored_op os) ≡ Some k → (o : Op) × (op_of i os ≡ Some o) × (k ≡ stored_op o)
kept_found i [] k h = absurd (let f : ⊥ = cc in f)
kept_found i (e ∷ os) k h = go (same_id i e.id) refl (kept_found i os k) h
  where
    further : ((o : Op) × (op_of i os ≡ Some o) × (k ≡ stored_op o)) → same_id i e.id ≡ false → (o : Op) × (op_of i (e ∷ os) ≡ Some o) × (k ≡ stored_op o)
    further t p = (t.0, rw p t.1, t.2)

    go : (b : Bool) → same_id i e.id ≡ b → (op_of i (map stored_op os) ≡ Some k → (o : Op) × (op_of i os ≡ Some o) × (k ≡ stored_op o)) → op_of i (map stored_op (e ∷ os)) ≡ Some k → (o : Op) × (op_of i (e ∷ os) ≡ Some o) × (k ≡ stored_op o)
    go true p ih g =
        let two : Some (stored_op e) ≡ Some k = rw p at g in
        let same : stored_op e ≡ k = cc in
        (e, rw p refl, sym same)
    go false p ih g = further (ih (rw p at g)) p

pub of_set : (set : List Op) (os : List Op) (i : Id) (o : Op) → AreOf set os → op_of i os ≡ Some o → op_of i set ≡ Some o
of_set set [] i o h e = absurd (let f : ⊥ = cc in f)
of_set set (p ∷ os) i o h e = go (same_id i p.id) refl (of_set set os i o h.1) e
  where
    go : (b : Bool) → same_id i p.id ≡ b → (op_of i os ≡ Some o → op_of i set ≡ Some o) → op_of i (p ∷ os) ≡ Some o → op_of i set ≡ Some o
    go true q ih g =
        let two : Some p ≡ Some o = rw q at g in
        let same : p ≡ o = cc in
        let is : i ≡ p.id = same_id-true i p.id q in
        ap (λ (j : Id). op_of j set) is ∙ h.0 ∙ ap Some same
    go false q ih g = ih (rw q at g)

pub apply_stands : ApplyStands
apply_stands set A kept i k t r u h found fresh deps derived =
    let in_recv : op_of i (map stored_op A.recv) ≡ Some k = sym (ap (λ (S : State). op_of i S.recv) h.is) ∙ found in
    rest (kept_found i A.recv k in_recv)
  where
    rest : ((o : Op) × (op_of i A.recv ≡ Some o) × (k ≡ stored_op o)) → (o : Op) × (op_of i A.recv ≡ Some o) × (has_id i A.ops ≡ false) × AreIn o.deps A.ops × Derives (Operate A.tree o) (ToContext t) r u × RepresentsState set (after_taking i t A) (after_taking_stored i t kept)
    rest x =
        let o : Op = x.0 in
        let of : op_of i set ≡ Some o = of_set set A.recv i o h.received x.1 in
        let own : o.id ≡ i = (looked_up i set o of).0 in
        let closed : IsCausallyClosed set o.deps = deps_closed set i o h.sound of in
        let ops : kept.ops ≡ covered A.ops = ap (λ (S : State). S.ops) h.is in
        let tree : kept.tree ≡ A.tree = ap (λ (S : State). S.tree) h.is in
        let new : has_id i A.ops ≡ false = sym (counters_tell set A.ops h.sound h.applied i o of) ∙ sym (ap (λ (s : List Id). has_id i s) ops) ∙ fresh in
        let stood : Represents set o.deps (covered o.deps) = record { sound = h.sound; closed = closed; is = refl } in
        let into : AreIn (covered o.deps) (covered A.ops) = subst (λ (s : List Id). AreIn (covered o.deps) s) ops (subst (λ (j : Op). AreIn j.deps kept.ops) x.2 deps) in
        let inside : AreIn o.deps A.ops = (subset_both set o.deps A.ops h.sound closed h.applied).0 into in
        let there : Derives (Operate A.tree (stored_op o)) (ToContext t) r u = subst (λ (c : Context). Derives (Operate c (stored_op o)) (ToContext t) r u) tree (subst (λ (j : Op). Derives (Operate kept.tree j) (ToContext t) r u) x.2 derived) in
        let real = operate_stands set o.deps A.tree t (stored_op o) o r u stood (subst (λ (j : Id). op_of j set ≡ Some o) (sym own) of) h.knows there in
        let now : RepresentsState set (after_taking i t A) (after_taking_stored i t kept) = record {
          sound = h.sound;
          is = ap (λ (S : State). after_taking_stored i t S) h.is ∙ sym (ap (λ (s : List Id). record (stored_state (after_taking i t A)) { ops = s }) (filled-with i A.ops));
          applied = closed_with set A.ops i o h.applied of inside;
          made = h.made;
          offered = h.offered;
          received = h.received;
          knows = real.1;
        } in
        (o, x.1, new, inside, real.0, now)

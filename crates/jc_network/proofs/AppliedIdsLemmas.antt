-- Lemmas about Applied: in a run the identifiers of what a replica has applied are those of the rules.
use Rattle.std.proofs.Common.{◌≡◌, ℕ, List, [], ◌∷◌, Bool, true, false, Contains, ◌⊎◌, inl, inr, Some, slice_get, map, refl, sym, ◌∙◌, ap, subst}
use Rattle.std.proofs.lemmas.Option.{same_Some}
use Rattle.jc_rules.specs.declared.id.Id.{Id}
use Rattle.jc_rules.specs.declared.operation.Op.{Op}
use Rattle.jc_rules.specs.Ids.{has_id}
use Rattle.jc_rules.specs.Order.{same_id}
use Rattle.jc_rules.specs.State.{State}
use Rattle.jc_rules.specs.Syntax.{Cmd as AnyCmd}
use Rattle.jc_rules.proofs.IdsLemmas.{same_id-self, same_id-true, same_members}
use Rattle.jc_vectors.specs.StoredStates.{stored_op}
use Rattle.jc_replica.specs.Operations.{identifiers}
use Rattle.jc_network.specs.Applied.{applied_ops, IsApplied, AreAppliedIds}
use Rattle.jc_network.specs.Laws.{IsReached}
use Rattle.jc_network.specs.RunInvariant.{IsWell}
use Rattle.jc_network.specs.Invariant.{IsFromStart}
use Rattle.jc_network.proofs.StepsLemmas.{well}
use Rattle.jc_network.proofs.AppliedLemmas.{applied_is, applied_has, applied_order}
use Rattle.jc_network.proofs.EnabledOrderLemmas.{ordered}
use Rattle.jc_network.proofs.MembersLemmas.{none_in, first_in, later_in, in_cons}
use Rattle.jc_rules.proofs.BoolLemmas.{same_tests, or_right}

pub id_in : (os : List Op) (o : Op) → Contains os o → has_id o.id (identifiers os) ≡ true
id_in [] o k = none_in o k
id_in (p ∷ os) o k = go (in_cons o p os k) (id_in os o)
  where
    go : (p ≡ o) ⊎ Contains os o → (Contains os o → has_id o.id (identifiers os) ≡ true) → has_id o.id (identifiers (p ∷ os)) ≡ true
    go (inl s) ih = subst (λ (x : Op). has_id o.id (identifiers (x ∷ os)) ≡ true) (sym s) (rw (same_id-self o.id) refl)
    go (inr m) ih = or_right (same_id o.id p.id) (has_id o.id (identifiers os)) (ih m)

pub of_id_in : (os : List Op) (i : Id) → has_id i (identifiers os) ≡ true → (o : Op) × Contains os o × (o.id ≡ i)
of_id_in [] i h = cc
of_id_in (p ∷ os) i h = go (same_id i p.id) refl (of_id_in os i) h
  where
    go : (b : Bool) → same_id i p.id ≡ b → (has_id i (identifiers os) ≡ true → (o : Op) × Contains os o × (o.id ≡ i)) → has_id i (identifiers (p ∷ os)) ≡ true → (o : Op) × Contains (p ∷ os) o × (o.id ≡ i)
    go true e ih h = (p, first_in p os, sym (same_id-true i p.id e))
    go false e ih h = let x = ih (rw e at h) in (x.0, later_in x.0 p os x.1, x.2)

module _ (scripts : List (List AnyCmd)) (network : List State) (reached : IsReached scripts network) (p : ℕ) (A : State) (there : slice_get network p ≡ Some A) where
  run : IsWell network
  run = well scripts network reached

  applied_down : (i : Id) → has_id i (identifiers (applied_ops A)) ≡ true → has_id i A.ops ≡ true
  applied_down i h = let x = of_id_in (applied_ops A) i h in subst (λ j. has_id j A.ops ≡ true) x.2 ((applied_is network run p A there x.0).0 x.1).1

  applied_up : (i : Id) → has_id i A.ops ≡ true → has_id i (identifiers (applied_ops A)) ≡ true
  applied_up i h = let x = applied_has network run p A there i h in subst (λ j. has_id j (identifiers (applied_ops A)) ≡ true) x.2 (id_in (applied_ops A) x.0 x.1)

  -- in a run the identifiers of what is applied are those applied
  pub applied_ids : identifiers (applied_ops A) ≡ A.ops
  applied_ids =
      same_members (identifiers (applied_ops A)) A.ops (applied_order network run p A there (ordered scripts network reached p A there)) (run.sets.rising p A there)
      (λ i. same_tests (has_id i (identifiers (applied_ops A))) (has_id i A.ops) (applied_down i) (applied_up i))

-- operations keep their identifiers
pub kept_ids : (os : List Op) → identifiers (map stored_op os) ≡ identifiers os
kept_ids [] = refl
kept_ids (o ∷ os) = ap (λ is. o.id ∷ is) (kept_ids os)

pub are_applied_ids : (network : List State) (p : ℕ) (ops : List Op) → IsFromStart network → IsApplied network p ops → AreAppliedIds network p (identifiers ops)
are_applied_ids network p ops from is A there =
    ap identifiers (is.ops_are ∙ ap (λ (S : State). map stored_op (applied_ops S)) (same_Some is.at A (sym is.there ∙ there)))
    ∙ (kept_ids (applied_ops A) ∙ applied_ids from.0 network from.1 p A there)

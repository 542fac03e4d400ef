-- About Replicas: the meaning of the operations that a replica has applied is its tree but for empty presence
-- sets.
use Rattle.std.proofs.Common.{◌≡◌, ◌≢◌, List, [], ◌∷◌, map, filter, Some, Contains, ◌⊎◌, inl, inr, refl, sym, ◌∙◌, ap, subst}
use Rattle.std.specs.List.{AllByRecursion}
use Rattle.std.proofs.lemmas.Option.{same_Some}
use Rattle.jc_rules.specs.declared.id.Id.{Id}
use Rattle.jc_rules.specs.declared.key.Key.{Key}
use Rattle.jc_rules.specs.declared.operation.Op.{Op}
use Rattle.jc_rules.specs.Context.{Context, context, Children, no_child, child}
use Rattle.jc_rules.specs.WellFormed.{IsWellFormedContext, is_some_id, drop, drop_all}
use Rattle.jc_rules.specs.State.{State}
use Rattle.jc_rules.specs.Syntax.{Cmd}
use Rattle.jc_rules.specs.Table.{op_of}
use Rattle.jc_vectors.specs.StoredStates.{AreOf, stored_op}
use Rattle.jc_network.specs.Applied.{applied_ops}
use Rattle.jc_network.specs.Laws.{IsReached, ops_held}
use Rattle.jc_network.specs.RunInvariant.{IsWell}
use Rattle.jc_network.proofs.AppliedLemmas.{applied_is}
use Rattle.jc_network.proofs.MembersLemmas.{none_in, first_in, later_in, in_cons, of_id}
use Rattle.jc_network.proofs.RunInvariantStartLemmas.{sound, at_member}
use Rattle.jc_network.proofs.AbstractLemmas.{mapped_in, in_mapped}
use Rattle.jc_meaning.specs.Meaning.{Means, IsMeaning, AreFilled, AreAllFilled}
use Rattle.jc_meaning.specs.Replicas.{HasApplied, IsTreeOfReplicas}
use Rattle.jc_meaning.proofs.ComparedLemmas.{one_tree}
use Rattle.jc_meaning.proofs.ComparisonLemmas.{held_has, run_well}
use Rattle.jc_meaning.proofs.StoredMeaningLemmas.{meant_kept}
use Rattle.jc_meaning.proofs.RunsLemmas.{trees_meant, kept_tree}
use Rattle.jc_meaning.proofs.MeaningOfSetLemmas.{same_lists, means_same}

-- ---- a tree without empty presence sets

presences_same : (p : List (Key × List Id)) → AllByRecursion (λ e. e.1 ≢ []) p → filter (λ e. is_some_id e.1) p ≡ p
presences_same [] h = refl
presences_same ((k, []) ∷ p) h = absurd (h.0 refl)
presences_same ((k, i ∷ is) ∷ p) h = ap (λ q. (k, i ∷ is) ∷ q) (presences_same p h.1)

mutual
  filled_same : (c : Context) → AreFilled c → drop c ≡ c
  filled_same (context m l r p n) h =
      let ps : filter (λ e. is_some_id e.1) p ≡ p = presences_same p h.0 in
      let ms : drop_all m ≡ m = children_same m h.1 in
      let ls : drop_all l ≡ l = children_same l h.2 in
      λ i. context (ms i) (ls i) r (ps i) n

  children_same : (cs : Children) → AreAllFilled cs → drop_all cs ≡ cs
  children_same no_child h = refl
  children_same (child k c cs) h =
      let one : drop c ≡ c = filled_same c h.0 in
      let rest : drop_all cs ≡ cs = children_same cs h.1 in
      λ i. child k (one i) (rest i)

-- ---- the operations that kept ones stand for

-- kept operations that are all of a list stand for some of the list
record Stand (ops all : List Op) : Type 0 where
  own : List Op
  are : ops ≡ map stored_op own
  among : (o : Op) → Contains own o → Contains all o

standing : (ops all : List Op) → ((o : Op) → Contains ops o → Contains (map stored_op all) o) → Stand ops all
standing [] all f = record { own = []; are = refl; among = λ o c. none_in o c }
standing (k ∷ ops) all f =
    let x = in_mapped all k (f k (first_in k ops)) in
    let rest = standing ops all (λ o c. f o (later_in o k ops c)) in
    record {
      own = x.0 ∷ rest.own;
      are = λ i. sym x.2 i ∷ rest.are i;
      among = λ o c. go x.0 x.1 rest.own rest.among o (in_cons o x.0 rest.own c);
    }
  where
    go : (p : Op) → Contains all p → (own : List Op) → ((o : Op) → Contains own o → Contains all o) → (o : Op) → (p ≡ o) ⊎ Contains own o → Contains all o
    go p c own g o (inl s) = subst (Contains all) s c
    go p c own g o (inr m) = g o m

are_of : (set os : List Op) → ((o : Op) → Contains os o → op_of o.id set ≡ Some o) → AreOf set os
are_of set [] f = tt
are_of set (o ∷ os) f = (f o (first_in o os), are_of set os (λ p c. f p (later_in p o os c)))

-- ---- in a network

module _ (scripts : List (List Cmd)) (N : List State) (r : IsReached scripts N) (A : State) (there : Contains N A) (ops : List Op) (has : HasApplied A ops) where
  well : IsWell N
  well = run_well N (scripts, r)

  known : (o : Op) → Contains (applied_ops A) o → op_of o.id (ops_held N) ≡ Some o
  known o c =
      let m = at_member N A there in
      (sound N well).one_each o (held_has N m.0 A o m.1 ((applied_is N well m.0 A m.1 o).0 c).0)

  -- one identifier, one operation
  one_each : (o p : Op) → Contains (applied_ops A) o → Contains (applied_ops A) p → o.id ≡ p.id → o ≡ p
  one_each o p c d e = same_Some o p (sym (known o c) ∙ ap (λ i. op_of i (ops_held N)) e ∙ known p d)

  stand : Stand ops (applied_ops A)
  stand = standing ops (applied_ops A) (λ o c. (has o).0 c)

  all_stand : (o : Op) → Contains (applied_ops A) o → Contains stand.own o
  all_stand o c =
      let given : Contains ops (stored_op o) = (has (stored_op o)).1 (mapped_in (applied_ops A) o c) in
      let x = in_mapped stand.own (stored_op o) (subst (λ os. Contains os (stored_op o)) stand.are given) in
      subst (Contains stand.own) (one_each x.0 o (stand.among x.0 x.1) c (ap (λ (p : Op). p.id) x.2)) x.1

  own_means : Means stand.own A.tree
  own_means =
      means_same (applied_ops A) stand.own A.tree
      (same_lists (applied_ops A) stand.own
      (λ o c. of_id (applied_ops A) o (λ x d e. one_each x o d c e) c)
      (λ o c. of_id stand.own o (λ x d e. one_each x o (stand.among x d) (stand.among o c) e) c)
      (λ o. (all_stand o, stand.among o)))
      (trees_meant scripts N r A there)

  is_tree : (t : Context) → IsWellFormedContext t → IsMeaning ops t → drop A.tree ≡ t
  is_tree t kept m =
      let own : IsMeaning stand.own t = meant_kept (ops_held N) (sound N well) stand.own (are_of (ops_held N) stand.own (λ o c. known o (stand.among o c))) t (subst (λ os. IsMeaning os t) stand.are m) in
      one_tree stand.own A.tree t (kept_tree scripts N r A there) kept own_means own.means ∙ filled_same t m.filled

pub meaning_is_tree : (ops : List Op) (t : Context) → IsWellFormedContext t → IsMeaning ops t → IsTreeOfReplicas ops t
meaning_is_tree ops t kept m = λ scripts network r A there has. is_tree scripts network r A there ops has t kept m

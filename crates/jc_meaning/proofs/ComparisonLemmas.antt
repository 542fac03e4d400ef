-- About Comparison: the version vectors of two replicas of a network determine what they have applied.
use Rattle.std.proofs.Common.{◌≡◌, ◌≤◌, ℕ, zero, suc, length, arith, List, [], ◌∷◌, ◌++◌, Some, Bool, true, IsTrue, ◌↔◌, Contains, ◌⊎◌, inl, inr, slice_get, refl, sym, ◌∙◌, ap, subst}
use Rattle.std.proofs.lemmas.List.Elements.{Contains-append_left, Contains-append_right}
use Rattle.std.proofs.lemmas.Option.{same_Some}
use Rattle.jc_rules.specs.declared.id.Id.{Id}
use Rattle.jc_rules.specs.declared.operation.Op.{Op}
use Rattle.jc_rules.specs.Context.{Context}
use Rattle.jc_rules.specs.VersionVectors.{covered}
use Rattle.jc_rules.specs.Ids.{has_id, AreIn}
use Rattle.jc_rules.specs.WellFormed.{drop}
use Rattle.jc_rules.specs.Representation.{IsCausallyClosed, Represents}
use Rattle.jc_rules.specs.State.{State}
use Rattle.jc_rules.specs.Table.{op_of}
use Rattle.jc_rules.proofs.IdsLemmas.{same_members}
use Rattle.jc_replica.specs.ReplicaHistory.{ReplicaHistory}
use Rattle.jc_network.specs.Laws.{starts, ops_held}
use Rattle.jc_network.specs.Steps.{HasReplica}
use Rattle.jc_network.specs.RunInvariant.{IsReplicaAt, IsWell}
use Rattle.jc_network.specs.Invariant.{IsFromStart}
use Rattle.jc_network.proofs.MembersLemmas.{op_in}
use Rattle.jc_network.proofs.RunInvariantStartLemmas.{start_well, after_well, held_made, sound}
use Rattle.jc_meaning.specs.declared.comparison.Comparison.TheVariants.{SameOps}
use Rattle.jc_meaning.specs.Comparison.{IsComparison}
use Rattle.jc_meaning.proofs.RunsLemmas.{trees_converge}
use Rattle.jc_network.proofs.MembersLemmas.{first_in, later_in}
use Rattle.jc_rules.proofs.BoolLemmas.{same_tests}

pub held_has : (N : List State) (p : ℕ) (A : State) (o : Op) → IsReplicaAt N p A → Contains A.queue o ⊎ Contains A.recv o → Contains (ops_held N) o
held_has [] p A o e k = cc
held_has (B ∷ N) zero A o e k = go (subst (λ (S : State). Contains S.queue o ⊎ Contains S.recv o) (sym (same_Some B A e)) k)
  where
    go : Contains B.queue o ⊎ Contains B.recv o → Contains (ops_held (B ∷ N)) o
    go (inl m) = Contains-append_left B.queue (B.send ++ (B.recv ++ ops_held N)) o m
    go (inr m) = Contains-append_right B.queue (B.send ++ (B.recv ++ ops_held N)) o (Contains-append_right B.send (B.recv ++ ops_held N) o (Contains-append_left B.recv (ops_held N) o m))
held_has (B ∷ N) (suc p) A o e k = Contains-append_right B.queue (B.send ++ (B.recv ++ ops_held N)) o (Contains-append_right B.send (B.recv ++ ops_held N) o (Contains-append_right B.recv (ops_held N) o (held_has N p A o e k)))

module _ (N : List State) (w : IsWell N) where
  closed_held : (p : ℕ) (A : State) → IsReplicaAt N p A → IsCausallyClosed (ops_held N) A.ops
  closed_held p A there =
      record {
        rises = w.sets.rising p A there;
        known = λ i d. known i (w.sets.applied p A i there d);
        closed = λ i o d e.
            let x = op_in i (ops_held N) o e in
            w.sets.closed p A o there (held_made N w o x.0) (subst (λ j. has_id j A.ops ≡ true) (sym x.1) d);
      }
    where
      known : (i : Id) → (o : Op) × (Contains A.queue o ⊎ Contains A.recv o) × (o.id ≡ i) → (o : Op) × (op_of i (ops_held N) ≡ Some o)
      known i (o, k, e) = (o, subst (λ j. op_of j (ops_held N) ≡ Some o) e ((sound N w).one_each o (held_has N p A o there k)))

  pub stands_held : (p : ℕ) (A : State) → IsReplicaAt N p A → Represents (ops_held N) A.ops (covered A.ops)
  stands_held p A there = record { sound = sound N w; closed = closed_held p A there; is = refl }

  pub same_applied : (p q : ℕ) (A B : State) → IsReplicaAt N p A → IsReplicaAt N q B → AreIn A.ops B.ops → AreIn B.ops A.ops → A.ops ≡ B.ops
  same_applied p q A B one other f g = same_members A.ops B.ops (w.sets.rising p A one) (w.sets.rising q B other) (λ i. same_tests (has_id i A.ops) (has_id i B.ops) (f i) (g i))

pub in_list : (M : List State) (k : ℕ) (A : State) → slice_get M k ≡ Some A → Contains M A
in_list [] k A e = cc
in_list (B ∷ M) zero A e = subst (λ (S : State). Contains (B ∷ M) S) (same_Some B A e) (first_in B M)
in_list (B ∷ M) (suc k) A e = later_in A B M (in_list M k A e)

within : (M : List State) (k : ℕ) (A : State) → slice_get M k ≡ Some A → length M ≤ k → ⊥
within [] k A e h = cc
within (B ∷ M) zero A e h = omega (arith, h)
within (B ∷ M) (suc k) A e h = within M k A e (omega (arith, h))

pub run_well : (N : List State) → IsFromStart N → IsWell N
run_well N r = after_well (starts r.0) r.1.0 N (start_well r.0) r.1.1

-- the greatest counters of two replicas, for what they have applied
module _ (N : List State) (r : IsFromStart N) (p q : ℕ) (L R : ReplicaHistory) (one : HasReplica N p L) (other : HasReplica N q R) where
  pub stands_one : (ops : List Id) → ops ≡ L.history.now.ops → Represents (ops_held N) one.at.ops ops
  stands_one ops e = subst (Represents (ops_held N) one.at.ops) (sym (e ∙ ap (λ (S : State). S.ops) one.kept)) (stands_held N (run_well N r) p one.at one.there)

  pub stands_other : (ops : List Id) → ops ≡ R.history.now.ops → Represents (ops_held N) other.at.ops ops
  stands_other ops e = subst (Represents (ops_held N) other.at.ops) (sym (e ∙ ap (λ (S : State). S.ops) other.kept)) (stands_held N (run_well N r) q other.at other.there)

  pub are_same : (same : Bool) → AreIn one.at.ops other.at.ops → AreIn other.at.ops one.at.ops → (t u : Context) → t ≡ L.history.now.tree → u ≡ R.history.now.tree → IsTrue same ↔ drop t ≡ drop u → IsComparison N p q (SameOps same)
  are_same same f g t u et eu e =
      let ops : one.at.ops ≡ other.at.ops = same_applied N (run_well N r) p q one.at other.at one.there other.there f g in
      let trees : drop one.at.tree ≡ drop other.at.tree = trees_converge r.0 N r.1 one.at other.at (in_list N p one.at one.there) (in_list N q other.at other.there) ops in
      let kept_one : drop t ≡ drop one.at.tree = ap drop et ∙ ap (λ (S : State). drop S.tree) one.kept in
      let kept_other : drop u ≡ drop other.at.tree = ap drop eu ∙ ap (λ (S : State). drop S.tree) other.kept in
      record {
        one = one.at;
        other = other.at;
        one_there = one.there;
        other_there = other.there;
        found = (ops, trees, e.1 (kept_one ∙ trees ∙ sym kept_other));
      }

  pub none_missing : (length N ≤ p) ⊎ (length N ≤ q) → ⊥
  none_missing (inl h) = within N p one.at one.there h
  none_missing (inr h) = within N q other.at other.there h

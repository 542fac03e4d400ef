-- About specs/Chosen: a replica's stored state chooses the same as the state that it represents.
use Rattle.std.proofs.Common.{◌≡◌, ℕ, zero, suc, List, [], ◌∷◌, ◌++◌, Bool, true, false, not, ◌&&◌, ◌||◌, refl, sym, ◌∙◌, ap, subst, Some, cond, nat_lt, length, map, slice_get, Contains, ◌⊎◌, inl, inr, ◌+◌}
use Rattle.std.specs.List.{list_all, AllByRecursion}
use Rattle.std.proofs.lemmas.List.Elements.{Contains-append_left, Contains-append_right}
use Rattle.std.proofs.lemmas.Option.{same_Some}
use Rattle.jc_rules.specs.declared.id.Id.{Id}
use Rattle.jc_rules.specs.declared.operation.Event.TheVariants as E
use Rattle.jc_rules.specs.declared.operation.Op.{Op}
use Rattle.jc_rules.specs.VersionVectors.{covered}
use Rattle.jc_rules.specs.Ids.{has_id, AreIn}
use Rattle.jc_rules.specs.Order.{same_id}
use Rattle.jc_rules.specs.Sound.{IsSound}
use Rattle.jc_rules.specs.Representation.{IsCausallyClosed}
use Rattle.jc_rules.specs.State.{State}
use Rattle.jc_rules.specs.Syntax.{Cmd}
use Rattle.jc_rules.specs.Table.{op_of}
use Rattle.jc_rules.proofs.BoolLemmas.{or_right, same_tests}
use Rattle.jc_rules.proofs.IdsLemmas.{same_id-self, same_id-true}
use Rattle.jc_rules.proofs.RepresentationLemmas.{looked_up, counters_tell, subset_both}
use Rattle.jc_vectors.specs.StoredStates.{stored_op, stored_state, AreOf}
use Rattle.jc_vectors.proofs.ApplyStandsLemmas.{deps_closed}
use Rattle.jc_replica.specs.ReplicaHistory.{ReplicaHistory}
use Rattle.jc_network.specs.Laws.{starts, ops_held}
use Rattle.jc_network.specs.Steps.{HasReplica}
use Rattle.jc_network.specs.RunInvariant.{IsWell}
use Rattle.jc_network.specs.Invariant.{IsFromStart}
use Rattle.jc_network.proofs.MembersLemmas.{first_in, later_in}
use Rattle.jc_network.proofs.RunInvariantStartLemmas.{start_well, after_well, held_made, sound}
use Rattle.jc_choice.specs.declared.phase.Phase.{Phase}
use Rattle.jc_choice.specs.declared.phase.Phase.TheVariants as P
use Rattle.jc_choice.specs.Chosen.{is_ready, first_ready, apply_or_end, past_own, at_yield, is_yield, chosen_by, chosen_in, choice}

-- ---- sets in sets

pub all_in : (s is : List Id) → AreIn is s → list_all (λ i. has_id i s) is ≡ true
all_in s [] f = refl
all_in s (i ∷ is) f =
    let first : has_id i s ≡ true = f i (ap (λ b. b || has_id i is) (same_id-self i)) in
    let rest : list_all (λ j. has_id j s) is ≡ true = all_in s is (λ k h. f k (or_right (same_id k i) (has_id k is) h)) in
    (λ n. first n && rest n)

pub in_all : (s is : List Id) → list_all (λ i. has_id i s) is ≡ true → AreIn is s
in_all s [] h k at = cc
in_all s (i ∷ is) h k at = go (has_id i s) refl (same_id k i) refl (λ rest. in_all s is rest k)
  where
    go : (a : Bool) → has_id i s ≡ a → (b : Bool) → same_id k i ≡ b → (list_all (λ j. has_id j s) is ≡ true → has_id k is ≡ true → has_id k s ≡ true) → has_id k s ≡ true
    go false e b f more = let z : false ≡ true = sym (ap (λ x. x && list_all (λ j. has_id j s) is) e) ∙ h in cc
    go true e true f more = ap (λ j. has_id j s) (same_id-true k i f) ∙ e
    go true e false f more = more (sym (ap (λ x. x && list_all (λ j. has_id j s) is) e) ∙ h) (sym (ap (λ x. x || has_id k is) f) ∙ at)

-- ---- what is ready

kept_ready : (set : List Op) (s : List Id) (o : Op) → IsSound set → IsCausallyClosed set s → op_of o.id set ≡ Some o → is_ready (covered s) (stored_op o) ≡ is_ready s o
kept_ready set s o sound closed of =
    let applied : has_id o.id (covered s) ≡ has_id o.id s = counters_tell set s sound closed o.id o of in
    let both = subset_both set o.deps s sound (deps_closed set o.id o sound of) closed in
    let deps : list_all (λ i. has_id i (covered s)) (covered o.deps) ≡ list_all (λ i. has_id i s) o.deps =
    same_tests _ _ (λ h. all_in s o.deps (both.0 (in_all (covered s) (covered o.deps) h))) (λ h. all_in (covered s) (covered o.deps) (both.1 (in_all s o.deps h))) in
    (λ n. not (applied n) && deps n)

kept_first : (set : List Op) (s : List Id) → IsSound set → IsCausallyClosed set s → (os : List Op) → AreOf set os → first_ready (covered s) (map stored_op os) ≡ first_ready s os
kept_first set s sound closed [] of = refl
kept_first set s sound closed (o ∷ os) of = go (is_ready s o) refl (kept_first set s sound closed os of.1)
  where
    go : (b : Bool) → is_ready s o ≡ b → first_ready (covered s) (map stored_op os) ≡ first_ready s os → first_ready (covered s) (map stored_op (o ∷ os)) ≡ first_ready s (o ∷ os)
    go true e rest = rw (kept_ready set s o sound closed of.0 ∙ e, e) refl
    go false e rest = rw (kept_ready set s o sound closed of.0 ∙ e, e) rest

-- ---- in every run

queue_held : (N : List State) (p : ℕ) (A : State) (o : Op) → slice_get N p ≡ Some A → Contains A.queue o → Contains (ops_held N) o
queue_held [] p A o e k = cc
queue_held (B ∷ N) zero A o e k = let s : A ≡ B = sym (same_Some B A e) in Contains-append_left B.queue (B.send ++ (B.recv ++ ops_held N)) o (subst (λ (S : State). Contains S.queue o) s k)
queue_held (B ∷ N) (suc p) A o e k = Contains-append_right B.queue (B.send ++ (B.recv ++ ops_held N)) o (Contains-append_right B.send (B.recv ++ ops_held N) o (Contains-append_right B.recv (ops_held N) o (queue_held N p A o e k)))

recv_held : (N : List State) (p : ℕ) (A : State) (o : Op) → slice_get N p ≡ Some A → Contains A.recv o → Contains (ops_held N) o
recv_held [] p A o e k = cc
recv_held (B ∷ N) zero A o e k = let s : A ≡ B = sym (same_Some B A e) in Contains-append_right B.queue (B.send ++ (B.recv ++ ops_held N)) o (Contains-append_right B.send (B.recv ++ ops_held N) o (Contains-append_left B.recv (ops_held N) o (subst (λ (S : State). Contains S.recv o) s k)))
recv_held (B ∷ N) (suc p) A o e k = Contains-append_right B.queue (B.send ++ (B.recv ++ ops_held N)) o (Contains-append_right B.send (B.recv ++ ops_held N) o (Contains-append_right B.recv (ops_held N) o (recv_held N p A o e k)))

each_of : (P : Op → Type 0) (os : List Op) → ((o : Op) → Contains os o → P o) → AllByRecursion P os
each_of P [] f = tt
each_of P (o ∷ os) f = (f o (first_in o os), each_of P os (λ x k. f x (later_in x o os k)))

module _ (N : List State) (w : IsWell N) (p : ℕ) (A : State) (there : slice_get N p ≡ Some A) where
  found : (o : Op) → Contains A.queue o ⊎ Contains A.recv o → op_of o.id (ops_held N) ≡ Some o
  found o (inl k) = (sound N w).one_each o (queue_held N p A o there k)
  found o (inr k) = (sound N w).one_each o (recv_held N p A o there k)

  -- what the replica has applied is causally closed
  applied_closed : IsCausallyClosed (ops_held N) A.ops
  applied_closed = record {
    rises = w.sets.rising p A there;
    known = λ i h. let x = w.sets.applied p A i there h in (x.0, ap (λ j. op_of j (ops_held N)) (sym x.2) ∙ found x.0 x.1);
    closed = λ i o h of.
        let l = looked_up i (ops_held N) o of in
        w.sets.closed p A o there (held_made N w o l.1) (subst (λ j. has_id j A.ops ≡ true) (sym l.0) h);
  }

  pub kept_first_ready : first_ready (covered A.ops) (map stored_op A.recv) ≡ first_ready A.ops A.recv
  kept_first_ready = kept_first (ops_held N) A.ops (sound N w) applied_closed A.recv (each_of (λ o. op_of o.id (ops_held N) ≡ Some o) A.recv (λ o k. found o (inr k)))

  kept_at_yield : (n q : ℕ) (phase : Phase) → at_yield n q (stored_state A) phase ≡ at_yield n q A phase
  kept_at_yield n q P.Start = refl
  kept_at_yield n q (P.Receiving r) = ap (λ f. cond (nat_lt (past_own q r) n) (E.Recv q (past_own q r), P.Receiving (past_own q r + 1)) (apply_or_end q f)) kept_first_ready
  kept_at_yield n q P.Applying = ap (apply_or_end q) kept_first_ready

  kept_chosen : (n q : ℕ) (phase : Phase) (left : List Cmd) → chosen_by n q (stored_state A) phase left ≡ chosen_by n q A phase left
  kept_chosen n q phase [] = refl
  kept_chosen n q phase (c ∷ rest) = ap (λ y. Some (cond (is_yield c) y (E.Exec q, P.Start))) (kept_at_yield n q phase)

-- the choice of the stored state is that of the network
pub chosen_of_kept : (N : List State) (p : ℕ) (replica : ReplicaHistory) (phase : Phase) → IsFromStart N → HasReplica N p replica → chosen_by (length N) replica.number replica.history.now phase replica.history.now.left ≡ choice N p phase
chosen_of_kept N p replica phase run has =
    let well : IsWell N = after_well (starts run.0) run.1.0 N (start_well run.0) run.1.1 in
    (λ n. chosen_by (length N) (has.number n) (has.kept n) phase (has.kept n).left)
    ∙ (kept_chosen N well p has.at has.there (length N) p phase has.at.left
    ∙ ap (chosen_in (length N) p phase) (sym has.there))

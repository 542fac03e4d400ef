-- About Visible: which operations go through a tagged key, by what a replica has applied (`goes_by`).
use Rattle.std.proofs.Common.{◌≡◌, ℕ, List, map, Bool, true, false, cond, Option, Some, None, Contains, ◌⊎◌, inl, inr, refl, sym, ◌∙◌, ap, subst}
use Rattle.jc_rules.specs.declared.id.Id.{Id}
use Rattle.jc_rules.specs.declared.key.Tagged.{Tagged}
use Rattle.jc_rules.specs.declared.operation.Op.{Op}
use Rattle.jc_rules.specs.VersionVectors.{covered}
use Rattle.jc_rules.specs.Ids.{has_id}
use Rattle.jc_rules.specs.State.{State}
use Rattle.jc_rules.specs.Syntax.{Cmd}
use Rattle.jc_rules.specs.Table.{op_of}
use Rattle.jc_rules.proofs.RepresentationLemmas.{counters_tell}
use Rattle.jc_vectors.specs.StoredStates.{stored_op, stored_state}
use Rattle.jc_network.specs.Applied.{applied_ops}
use Rattle.jc_network.specs.Laws.{ops_held, IsReached}
use Rattle.jc_network.specs.RunInvariant.{IsReplicaAt, IsWell}
use Rattle.jc_network.proofs.AppliedLemmas.{applied_is as all_applied}
use Rattle.jc_network.proofs.MembersLemmas.{op_in, of_id}
use Rattle.jc_network.proofs.RunInvariantStartLemmas.{held_made, sound, at_member}
use Rattle.jc_meaning.specs.Effects.{goes_through}
use Rattle.jc_meaning.specs.Meaning.{holds_of}
use Rattle.jc_meaning.proofs.ComparisonLemmas.{held_has, run_well, stands_held}
use Rattle.jc_meaning.proofs.StoredMeaningLemmas.{kept_of, found_kept}
use Rattle.jc_view.specs.Visible.{made_or, applied_op, goes_by}

module _ (N : List State) (w : IsWell N) (p : ℕ) (A : State) (there : IsReplicaAt N p A) where
  -- of what the replica made or received one operation has the identifier
  held_of : (i : Id) (o : Op) → Contains A.queue o ⊎ Contains A.recv o → o.id ≡ i → op_of i (ops_held N) ≡ Some o
  held_of i o k e = subst (λ j. op_of j (ops_held N) ≡ Some o) e ((sound N w).one_each o (held_has N p A o there k))

  known_of : (i : Id) (o : Op) → made_or (op_of i A.queue) (op_of i A.recv) ≡ Some o → op_of i (ops_held N) ≡ Some o
  known_of i o h = go (op_of i A.queue) refl h
    where
      go : (x : Option Op) → op_of i A.queue ≡ x → made_or x (op_of i A.recv) ≡ Some o → op_of i (ops_held N) ≡ Some o
      go None e f = let z = op_in i A.recv o f in held_of i o (inr z.0) z.1
      go (Some y) e f = let z = op_in i A.queue o (e ∙ f) in held_of i o (inl z.0) z.1

  found_in : (os : List Op) → ((o : Op) → Contains os o → Contains A.queue o ⊎ Contains A.recv o) → (i : Id) (o : Op) → Contains os o → o.id ≡ i → op_of i os ≡ Some o
  found_in os among i o k e =
      subst (λ j. op_of j os ≡ Some o) e (of_id os o (λ x m f. w.sets.sound.one_each x o (held_made N w x (held_has N p A x there (among x m))) (held_made N w o (held_has N p A o there (among o k))) f) k)

  there_of : (i : Id) (o : Op) → Contains A.queue o ⊎ Contains A.recv o → o.id ≡ i → made_or (op_of i A.queue) (op_of i A.recv) ≡ None → ⊥
  there_of i o (inl k) e h =
      let f : op_of i A.queue ≡ Some o = found_in A.queue (λ x m. inl m) i o k e in
      let z : Some o ≡ None = ap (λ x. made_or x (op_of i A.recv)) (sym f) ∙ h in cc
  there_of i o (inr k) e h = go (op_of i A.queue) h
    where
      go : (x : Option Op) → made_or x (op_of i A.recv) ≡ None → ⊥
      go (Some y) f = cc
      go None f = let z : Some o ≡ None = sym (found_in A.recv (λ x m. inr m) i o k e) ∙ f in cc

  -- the applied operation with an identifier is the one of all that are held
  applied_is : (i : Id) → applied_op A i ≡ cond (has_id i A.ops) (op_of i (ops_held N)) None
  applied_is i = go (has_id i A.ops) refl
    where
      at : has_id i A.ops ≡ true → (x : Option Op) → made_or (op_of i A.queue) (op_of i A.recv) ≡ x → x ≡ op_of i (ops_held N)
      at d None e = let z = w.sets.applied p A i there d in absurd (there_of i z.0 z.1 z.2 e)
      at d (Some o) e = sym (known_of i o e)

      go : (b : Bool) → has_id i A.ops ≡ b → cond b (made_or (op_of i A.queue) (op_of i A.recv)) None ≡ cond b (op_of i (ops_held N)) None
      go true d = at d (made_or (op_of i A.queue) (op_of i A.recv)) refl
      go false d = refl

  -- and of those that are applied it is the one with the identifier
  pub applied_found : (i : Id) (o : Op) → op_of i (applied_ops A) ≡ Some o → applied_op A i ≡ Some o
  applied_found i o e =
      let x = op_in i (applied_ops A) o e in
      let y = (all_applied N w p A there o).0 x.0 in
      let d : has_id i A.ops ≡ true = subst (λ j. has_id j A.ops ≡ true) x.1 y.1 in
      applied_is i ∙ ap (λ b. cond b (op_of i (ops_held N)) None) d ∙ held_of i o y.0 x.1

  -- the state as it is kept tells the same
  kept_goes : (i : Id) (at : List Tagged) (t : Tagged) → goes_by (stored_state A) i at t ≡ goes_by A i at t
  kept_goes i at t =
      ap (λ x. holds_of (λ o. goes_through o at t) (cond (has_id i (covered A.ops)) (made_or x (op_of i (map stored_op A.recv))) None)) (found_kept i A.queue)
      ∙ ap (λ x. holds_of (λ o. goes_through o at t) (cond (has_id i (covered A.ops)) (made_or (kept_of (op_of i A.queue)) x) None)) (found_kept i A.recv)
      ∙ go (op_of i A.queue) (op_of i A.recv) refl refl
    where
      nothing : (b : Bool) → holds_of (λ o. goes_through o at t) (cond b None None) ≡ false
      nothing true = refl
      nothing false = refl

      one : (b : Bool) (o : Op) → holds_of (λ o. goes_through o at t) (cond b (Some (stored_op o)) None) ≡ holds_of (λ o. goes_through o at t) (cond b (Some o) None)
      one true o = refl
      one false o = refl

      told : (o : Op) → made_or (op_of i A.queue) (op_of i A.recv) ≡ Some o → has_id i (covered A.ops) ≡ has_id i A.ops
      told o e = let s = stands_held N w p A there in counters_tell (ops_held N) A.ops s.sound s.closed i o (known_of i o e)

      go : (x y : Option Op) → op_of i A.queue ≡ x → op_of i A.recv ≡ y
          → holds_of (λ o. goes_through o at t) (cond (has_id i (covered A.ops)) (made_or (kept_of (op_of i A.queue)) (kept_of (op_of i A.recv))) None)
          ≡ holds_of (λ o. goes_through o at t) (cond (has_id i A.ops) (made_or (op_of i A.queue) (op_of i A.recv)) None)
      go None None e f = rw (e, f) (nothing (has_id i (covered A.ops)) ∙ sym (nothing (has_id i A.ops)))
      go (Some o) y e f =
          let same = told o (ap (λ x. made_or x (op_of i A.recv)) e) in
          rw (e, same) (one (has_id i A.ops) o)
      go None (Some o) e f =
          let same = told o (ap (λ x. made_or x (op_of i A.recv)) e ∙ f) in
          rw (e, f, same) (one (has_id i A.ops) o)

pub goes_kept : (N : List State) (w : IsWell N) (p : ℕ) (A : State) → IsReplicaAt N p A → goes_by (stored_state A) ≡ goes_by A
goes_kept N w p A there = λ j. λ i at t. kept_goes N w p A there i at t j

pub same_goes : (scripts : List (List Cmd)) (network : List State) → IsReached scripts network → (A B : State) → Contains network A → Contains network B → A.ops ≡ B.ops → goes_by A ≡ goes_by B
same_goes scripts network r A B k l e = λ j. λ i at t. holds_of (λ o. goes_through o at t) (same i j)
  where
    w : IsWell network
    w = run_well network (scripts, r)

    same : (i : Id) → applied_op A i ≡ applied_op B i
    same i =
        let m = at_member network A k in
        let n = at_member network B l in
        applied_is network w m.0 A m.1 i
        ∙ ap (λ s. cond (has_id i s) (op_of i (ops_held network)) None) e
        ∙ sym (applied_is network w n.0 B n.1 i)

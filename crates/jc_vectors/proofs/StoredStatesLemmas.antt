-- About specs/StoredStates.
use Rattle.std.proofs.Common.{◌≡◌, List, [], ◌∷◌, Bool, true, false, map, Some, None, refl, sym, ◌∙◌, ap}
use Rattle.std.specs.List.{AllByRecursion}
use Rattle.jc_rules.specs.declared.id.Id.{Id}
use Rattle.jc_rules.specs.declared.key.Key.{Key}
use Rattle.jc_rules.specs.declared.operation.Op.{Op}
use Rattle.jc_rules.specs.Order.{same_id}
use Rattle.jc_rules.specs.Ids.{has_id, AreIn}
use Rattle.jc_rules.specs.Context.{Context, context, Children, no_child, child, Register}
use Rattle.jc_rules.specs.State.{State}
use Rattle.jc_rules.specs.Table.{op_of}
use Rattle.jc_rules.proofs.IdsLemmas.{same_id-true, has_id-with}
use Rattle.jc_rules.specs.Representation.{IsCausallyClosed}
use Rattle.jc_vectors.specs.OperationIds.{ids_of_ops}
use Rattle.jc_vectors.specs.KnownIds.{EachId, EachIdIn, KnowsOnly}
use Rattle.jc_vectors.specs.StoredStates.{stored_op, stored_state, AreOf}
use Rattle.jc_vectors.specs.StateLaws.{OneState, StateStays}
use Rattle.jc_vectors.proofs.OperationIdsLemmas.{one_set}
use Rattle.jc_rules.proofs.BoolLemmas.{or_right}

-- a set of operations that grew
pub found_more : (set : List Op) (o : Op) (i : Id) (e : Op) → op_of o.id set ≡ None → op_of i set ≡ Some e → op_of i (o ∷ set) ≡ Some e
found_more set o i e fresh h = go (same_id i o.id) refl
  where
    go : (b : Bool) → same_id i o.id ≡ b → op_of i (o ∷ set) ≡ Some e
    go false p = rw p h
    go true p =
        let same : i ≡ o.id = same_id-true i o.id p in
        let no : None ≡ Some e = sym fresh ∙ sym (ap (λ (j : Id). op_of j set) same) ∙ h in
        absurd (let f : ⊥ = cc in f)

pub closed_more : (set : List Op) (o : Op) (s : List Id) → op_of o.id set ≡ None → IsCausallyClosed set s → IsCausallyClosed (o ∷ set) s
closed_more set o s fresh h = record {
  rises = h.rises;
  known = λ i e. let t = h.known i e in (t.0, found_more set o i t.0 fresh t.1);
  closed = λ i p e f. inside i p e f (h.known i e);
}
  where
    inside : (i : Id) (p : Op) → has_id i s ≡ true → op_of i (o ∷ set) ≡ Some p → ((e : Op) × (op_of i set ≡ Some e)) → AreIn p.deps s
    inside i p e f t =
        let two : Some t.0 ≡ Some p = sym (found_more set o i t.0 fresh t.1) ∙ f in
        let same : t.0 ≡ p = cc in
        let in_it : AreIn t.0.deps s = h.closed i t.0 e t.1 in
        λ k d. in_it k (rw (← same) at d)

pub of_more : (set : List Op) (o : Op) (os : List Op) → op_of o.id set ≡ None → AreOf set os → AreOf (o ∷ set) os
of_more set o [] fresh h = tt
of_more set o (p ∷ os) fresh h = (found_more set o p.id p fresh h.0, of_more set o os fresh h.1)

module _ (P : Id → Type 0) (Q : Id → Type 0) (R : Id → Type 0) (both : (i : Id) → P i → Q i → R i) where
  ids_both : (s : List Id) → AllByRecursion P s → AllByRecursion Q s → AllByRecursion R s
  ids_both [] h g = tt
  ids_both (i ∷ s) h g = (both i h.0 g.0, ids_both s h.1 g.1)

  pairs_both : (r : Register) → AllByRecursion (λ v. P v.0) r → AllByRecursion (λ v. Q v.0) r → AllByRecursion (λ v. R v.0) r
  pairs_both [] h g = tt
  pairs_both (v ∷ r) h g = (both v.0 h.0 g.0, pairs_both r h.1 g.1)

  sets_both : (p : List (Key × List Id)) → AllByRecursion (λ e. AllByRecursion P e.1) p → AllByRecursion (λ e. AllByRecursion Q e.1) p → AllByRecursion (λ e. AllByRecursion R e.1) p
  sets_both [] h g = tt
  sets_both (e ∷ p) h g = (ids_both e.1 h.0 g.0, sets_both p h.1 g.1)

  registers_both : (r : List (Key × Register)) → AllByRecursion (λ e. AllByRecursion (λ v. P v.0) e.1) r → AllByRecursion (λ e. AllByRecursion (λ v. Q v.0) e.1) r → AllByRecursion (λ e. AllByRecursion (λ v. R v.0) e.1) r
  registers_both [] h g = tt
  registers_both (e ∷ r) h g = (pairs_both e.1 h.0 g.0, registers_both r h.1 g.1)

  mutual
    -- what follows for an identifier from two facts follows at every depth
    pub each_both : (c : Context) → EachId P c → EachId Q c → EachId R c
    each_both (context m l r p n) h g = (all_both m h.0 g.0, all_both l h.1 g.1, registers_both r h.2 g.2, sets_both p h.3 g.3)

    all_both : (cs : Children) → EachIdIn P cs → EachIdIn Q cs → EachIdIn R cs
    all_both no_child h g = tt
    all_both (child k c cs) h g = (each_both c h.0 g.0, all_both cs h.1 g.1)

pub known_more : (set : List Op) (o : Op) (c : Context) → KnowsOnly (ids_of_ops set) c → KnowsOnly (ids_of_ops (o ∷ set)) c
known_more set o c h =
    let known = λ (i : Id). has_id i (ids_of_ops set) ≡ true in
    each_both known known (λ i. has_id i (ids_of_ops (o ∷ set)) ≡ true) (λ i e f. has_id-with i o.id (ids_of_ops set) ∙ or_right (same_id i o.id) (has_id i (ids_of_ops set)) e) c h h

pub state_stays : StateStays
state_stays set o A kept h fresh sound = record {
  sound = sound;
  is = h.is;
  applied = closed_more set o A.ops fresh h.applied;
  made = of_more set o A.queue fresh h.made;
  offered = of_more set o A.send fresh h.offered;
  received = of_more set o A.recv fresh h.received;
  knows = known_more set o A.tree h.knows;
}

-- what operations stand for
same_op : (set : List Op) (a b : Op) → op_of a.id set ≡ Some a → op_of b.id set ≡ Some b → stored_op a ≡ stored_op b → a ≡ b
same_op set a b h g e =
    let i : a.id ≡ b.id = ap (λ (o : Op). o.id) e in
    let two : Some a ≡ Some b = sym h ∙ ap (λ (j : Id). op_of j set) i ∙ g in
    cc

same_ops : (set : List Op) (s t : List Op) → AreOf set s → AreOf set t → map stored_op s ≡ map stored_op t → s ≡ t
same_ops set [] [] h g e = refl
same_ops set [] (b ∷ t) h g e = absurd (let f : ⊥ = cc in f)
same_ops set (a ∷ s) [] h g e = absurd (let f : ⊥ = cc in f)
same_ops set (a ∷ s) (b ∷ t) h g e =
    let heads : stored_op a ≡ stored_op b = cc in
    let tails : map stored_op s ≡ map stored_op t = cc in
    let first : a ≡ b = same_op set a b h.0 g.0 heads in
    let rest : s ≡ t = same_ops set s t h.1 g.1 tails in
    λ n. first n ∷ rest n

pub one_state : OneState
one_state set A B kept h g =
    let e : stored_state A ≡ stored_state B = sym h.is ∙ g.is in
    let left = ap (λ (S : State). S.left) e in
    let acted = ap (λ (S : State). S.acted) e in
    let vars = ap (λ (S : State). S.vars) e in
    let tree = ap (λ (S : State). S.tree) e in
    let ops = one_set set A.ops B.ops h.sound h.applied g.applied (ap (λ (S : State). S.ops) e) in
    let queue = same_ops set A.queue B.queue h.made g.made (ap (λ (S : State). S.queue) e) in
    let send = same_ops set A.send B.send h.offered g.offered (ap (λ (S : State). S.send) e) in
    let recv = same_ops set A.recv B.recv h.received g.received (ap (λ (S : State). S.recv) e) in
    λ n. record { left = left n; acted = acted n; vars = vars n; tree = tree n; ops = ops n; queue = queue n; send = send n; recv = recv n }

-- About Laws: what an event of a run does to its replica's tree.
use Rattle.std.proofs.Common.{◌≡◌, ◌≢◌, ℕ, List, [], ◌∷◌, ◌++◌, Bool, true, false, not, cond, Option, Some, None, is_some, filter, Contains, ◌⊎◌, inl, inr, slice_get, refl, sym, ◌∙◌, ap, subst}
use Rattle.std.specs.declared.cmp.Ordering.{Ordering}
use Rattle.std.specs.declared.cmp.Ordering.TheVariants.{Less, Equal, Greater}
use Rattle.jc_rules.specs.declared.id.Id.{Id}
use Rattle.jc_rules.specs.declared.key.Key.{Key}
use Rattle.jc_rules.specs.declared.key.Key.TheVariants.{Head}
use Rattle.jc_rules.specs.declared.key.Tagged.{Tagged}
use Rattle.jc_rules.specs.declared.key.Tagged.TheVariants.{ListT}
use Rattle.jc_rules.specs.declared.operation.Cursor.{Cursor}
use Rattle.jc_rules.specs.declared.operation.Mutation.{Mutation}
use Rattle.jc_rules.specs.declared.operation.Event.{Event}
use Rattle.jc_rules.specs.declared.operation.Event.TheVariants as E
use Rattle.jc_rules.specs.declared.operation.Op.{Op}
use Rattle.jc_rules.specs.declared.rule.Rule.{Rule}
use Rattle.jc_rules.specs.Order.{id_cmp, same_id}
use Rattle.jc_rules.specs.Ids.{has_id, with_id, AreIn}
use Rattle.jc_rules.specs.Context.{Context}
use Rattle.jc_rules.specs.Derivation.{Operate, ToContext}
use Rattle.jc_rules.specs.Refused.{IsAnswered}
use Rattle.jc_rules.specs.Sound.{IsSound, IsRooted, IsRootedAt, IsDependency}
use Rattle.jc_rules.specs.State.{State}
use Rattle.jc_rules.specs.Step.{Step, replica_of}
use Rattle.jc_rules.specs.Syntax.{Cmd}
use Rattle.jc_rules.specs.Table.{op_of, with_op}
use Rattle.jc_rules.proofs.BoolLemmas.{no_truth, or_right, no_either, not_so}
use Rattle.jc_rules.proofs.IdsLemmas.{same_id-self, same_id-true}
use Rattle.jc_rules.proofs.OrderLemmas.{exact_ids}
use Rattle.jc_vectors.specs.StoredStates.{stored_op}
use Rattle.jc_vectors.proofs.StateShrinksLemmas.{some_of}
use Rattle.jc_replica.specs.Operations.{identifiers}
use Rattle.jc_replica.specs.Received.{is_new}
use Rattle.jc_network.specs.Applied.{applied_ops}
use Rattle.jc_network.specs.Laws.{IsReached}
use Rattle.jc_network.specs.Rooted.{IsRootKey, head, element}
use Rattle.jc_network.specs.RunInvariant.{IsReplicaAt, IsMadeOp, IsWell}
use Rattle.jc_network.proofs.AppliedLemmas.{applied_is, applied_has}
use Rattle.jc_network.proofs.ChainedLemmas.{new_unapplied}
use Rattle.jc_network.proofs.EventDidLemmas.{new_op, Did, bound, made, sent, received, took, applied, done, did}
use Rattle.jc_network.proofs.MembersLemmas.{none_in, first_in, later_in, in_cons, still_with, now_with, still_both, op_in, of_id, in_with_id, now_with_id, set_there}
use Rattle.jc_network.proofs.RunInvariantLemmas.{step_well}
use Rattle.jc_network.proofs.StepsLemmas.{well}
use Rattle.jc_meaning.specs.Laws.{AreDepsIn}
use Rattle.jc_meaning.proofs.ComparisonLemmas.{in_list}
use Rattle.jc_meaning.proofs.RunsLemmas.{trees_meant}
use Rattle.jc_effects.specs.Laws.{IsNextTree, IsChangedBy, AppliesOp}

-- ---- operations that were made

-- what a replica has made or received
abbrev IsHeldBy : State → Op → Type 0
IsHeldBy A o = Contains A.queue o ⊎ Contains A.recv o

held_made : (N : List State) → IsWell N → (p : ℕ) (A : State) → IsReplicaAt N p A → (o : Op) → IsHeldBy A o → IsMadeOp N o
held_made N w p A there o (inl m) = record { at = A; there = ap (slice_get N) ((w.sets.own p A o there m).0) ∙ there; queued = m }
held_made N w p A there o (inr m) = w.sets.received p A o there m

-- A list of operations that were made, with all that they depend on, is sound and rooted.
module _ (N : List State) (w : IsWell N) (set : List Op) (all_made : (o : Op) → Contains set o → IsMadeOp N o) (closed : (o : Op) → Contains set o → AreDepsIn set o) where
  -- the operation of an identifier is the one that was made with it
  found : (i : Id) → is_some (op_of i set) ≡ true → (e : Op) → IsMadeOp N e → e.id ≡ i → op_of i set ≡ Some e
  found i h e m s = go (op_of i set) refl h
    where
      go : (x : Option Op) → op_of i set ≡ x → is_some x ≡ true → x ≡ Some e
      go None f g = cc
      go (Some y) f g = let z = op_in i set y f in ap (λ v. Some v) (w.sets.sound.one_each y e (all_made y z.0) m (z.1 ∙ sym s))

  made_sound : IsSound set
  made_sound =
      record {
        counted = λ o k. w.sets.sound.counted o (all_made o k);
        one_each = λ o k. of_id set o (λ x m e. w.sets.sound.one_each x o (all_made x m) (all_made o k) e) k;
        rising = λ o k. w.sets.sound.rising o (all_made o k);
        closed = λ o k i d. dependency o k i d (w.sets.sound.closed o (all_made o k) i d);
        in_order = λ e o k m s l. w.sets.sound.in_order e o (all_made e k) (all_made o m) s l;
      }
    where
      dependency : (o : Op) → Contains set o → (i : Id) → has_id i o.deps ≡ true → (e : Op) × IsMadeOp N e × (e.id ≡ i) × IsDependency e o → (e : Op) × (op_of i set ≡ Some e) × IsDependency e o
      dependency o k i d (e, m, s, x) = (e, found i (closed o k i d) e m s, x)

  rooted_at : (o : Op) → Contains set o → (P : List Tagged) (k : Key) → IsRootKey (IsMadeOp N) o.deps P k → (k ≡ Head) ⊎ IsRootedAt set o P k
  rooted_at o c P k (head e) = inl e
  rooted_at o c P k (element i e d h) = inr (i, e, d, h.op, found i (closed o c i d) h.op h.made h.is, h.inserts, h.path)

  made_rooted : IsRooted set
  made_rooted = λ o k above l key s. rooted_at o k (above ++ ListT l ∷ []) key ((w.trees.rooted o (all_made o k)).rooted above l key s)

-- ---- what an event does

-- what was held still is
still_held : (A : State) (event : Event) (read : List Op) (B : State) → Did A event read B → (x : Op) → IsHeldBy A x → IsHeldBy B x
still_held A event read B (bound p rest y e b is left s new) x k = subst (λ (S : State). IsHeldBy S x) (sym new) k
still_held A event read B (made p rest c e cur m t is left s op new) x (inl k) = subst (λ (S : State). IsHeldBy S x) (sym new) (inl (still_with (new_op p A cur m) A.queue x k))
still_held A event read B (made p rest c e cur m t is left s op new) x (inr k) = subst (λ (S : State). IsHeldBy S x) (sym new) (inr k)
still_held A event read B (sent p rest is left new) x k = subst (λ (S : State). IsHeldBy S x) (sym new) k
still_held A event read B (received p q rest is left new) x (inl k) = subst (λ (S : State). IsHeldBy S x) (sym new) (inl k)
still_held A event read B (received p q rest is left new) x (inr k) = subst (λ (S : State). IsHeldBy S x) (sym new) (inr (still_both A.recv read x k))
still_held A event read B (took p q i rest o is left there new) x (inl k) = subst (λ (S : State). IsHeldBy S x) (sym new) (inl k)
still_held A event read B (took p q i rest o is left there new) x (inr k) = subst (λ (S : State). IsHeldBy S x) (sym new) (inr (still_both A.recv (o ∷ []) x k))
still_held A event read B (applied p i rest o t is left there unapplied deps op new) x k = subst (λ (S : State). IsHeldBy S x) (sym new) k
still_held A event read B (done p rest is left new) x k = subst (λ (S : State). IsHeldBy S x) (sym new) k

-- The operation was applied: it is new, what it depends on was applied before, and it leads from tree to tree.
record Operated (A B : State) (o : Op) : Type 0 where
  new : has_id o.id A.ops ≡ false
  deps : AreIn o.deps A.ops
  leads : IsAnswered (Operate A.tree o) (ToContext B.tree)
  ops : B.ops ≡ with_id o.id A.ops
  held : IsHeldBy B o

data Acted (A B : State) : Type 0 where
  quiet : B.tree ≡ A.tree → B.ops ≡ A.ops → Acted A B
  operated : (o : Op) → Operated A B o → Acted A B

-- what the replica has made has other identifiers than one that isn't applied
fresh : (A : State) (i : Id) → has_id i A.ops ≡ false → ((x : Op) → Contains A.queue x → has_id x.id A.ops ≡ true) → (x : Op) → Contains A.queue x → x.id ≢ i
fresh A i new own x k e =
    let there : has_id i A.ops ≡ true = subst (λ j. has_id j A.ops ≡ true) e (own x k) in
    no_truth (sym new ∙ there)

made_operated : (A B : State) (p : ℕ) (rest : List Cmd) (cur : Cursor) (m : Mutation) (t : Context) → ((x : Op) → Contains A.queue x → has_id x.id A.ops ≡ true) → IsAnswered (Operate A.tree (new_op p A cur m)) (ToContext t)
    → B ≡ record A { left = rest; tree = t; queue = with_op (new_op p A cur m) A.queue; ops = with_id (new_op p A cur m).id A.ops }
    → Operated A B (new_op p A cur m)
made_operated A B p rest cur m t own op new =
    let o = new_op p A cur m in
    subst (λ (S : State). Operated A S o) (sym new)
    (record { new = new_unapplied p A; deps = λ i d. d; leads = op; ops = refl; held = inl (now_with o A.queue (fresh A o.id (new_unapplied p A) own)) })

applied_operated : (A B : State) (i : Id) (o : Op) (t : Context) → op_of i A.recv ≡ Some o → has_id i A.ops ≡ false → AreIn o.deps A.ops → IsAnswered (Operate A.tree o) (ToContext t)
    → B ≡ record A { acted = true; tree = t; ops = with_id i A.ops }
    → Operated A B o
applied_operated A B i o t there unapplied deps op new =
    let x = op_in i A.recv o there in
    subst (λ (S : State). Operated A S o) (sym new)
    (record { new = subst (λ j. has_id j A.ops ≡ false) (sym x.1) unapplied; deps = deps; leads = op; ops = ap (λ j. with_id j A.ops) (sym x.1); held = inr x.0 })

acted : (A : State) (event : Event) (read : List Op) (B : State) → ((x : Op) → Contains A.queue x → has_id x.id A.ops ≡ true) → Did A event read B → Acted A B
acted A event read B own (bound p rest y e b is left s new) = subst (λ (S : State). Acted A S) (sym new) (quiet refl refl)
acted A event read B own (made p rest c e cur m t is left s op new) = operated (new_op p A cur m) (made_operated A B p rest cur m t own op new)
acted A event read B own (sent p rest is left new) = subst (λ (S : State). Acted A S) (sym new) (quiet refl refl)
acted A event read B own (received p q rest is left new) = subst (λ (S : State). Acted A S) (sym new) (quiet refl refl)
acted A event read B own (took p q i rest o is left there new) = subst (λ (S : State). Acted A S) (sym new) (quiet refl refl)
acted A event read B own (applied p i rest o t is left there unapplied deps op new) = operated o (applied_operated A B i o t there unapplied deps op new)
acted A event read B own (done p rest is left new) = subst (λ (S : State). Acted A S) (sym new) (quiet refl refl)

-- ---- what is new in a queue

listed : (os : List Op) (x : Op) → Contains os x → has_id x.id (identifiers os) ≡ true
listed [] x k = none_in x k
listed (p ∷ ps) x k = go (in_cons x p ps k) (listed ps x)
  where
    go : (p ≡ x) ⊎ Contains ps x → (Contains ps x → has_id x.id (identifiers ps) ≡ true) → has_id x.id (identifiers (p ∷ ps)) ≡ true
    go (inl e) ih = subst (λ (y : Op). has_id y.id (identifiers (p ∷ ps)) ≡ true) e (rw (same_id-self p.id) refl)
    go (inr m) ih = or_right (same_id x.id p.id) (has_id x.id (identifiers ps)) (ih m)

unlisted : (i : Id) (os : List Op) → ((x : Op) → Contains os x → x.id ≢ i) → has_id i (identifiers os) ≡ false
unlisted i [] h = refl
unlisted i (p ∷ ps) h =
    no_either (same_id i p.id) (has_id i (identifiers ps))
    (not_so (same_id i p.id) (λ e. h p (first_in p ps) (sym (same_id-true i p.id e))))
    (unlisted i ps (λ x k. h x (later_in x p ps k)))

none_left : (f : Op → Bool) (os : List Op) → ((x : Op) → Contains os x → f x ≡ false) → filter f os ≡ []
none_left f [] h = refl
none_left f (p ∷ ps) h = rw (h p (first_in p ps)) (none_left f ps (λ x k. h x (later_in x p ps k)))

one_left : (f : Op → Bool) (o : Op) (os : List Op) → ((x : Op) → Contains os x → f x ≡ false) → ((x : Op) → Contains os x → x.id ≢ o.id) → f o ≡ true → filter f (with_op o os) ≡ o ∷ []
one_left f o [] h g e = rw e refl
one_left f o (p ∷ ps) h g e = go (id_cmp o.id p.id) refl (one_left f o ps (λ x k. h x (later_in x p ps k)) (λ x k. g x (later_in x p ps k)) e)
  where
    go : (c : Ordering) → id_cmp o.id p.id ≡ c → filter f (with_op o ps) ≡ o ∷ [] → filter f (with_op o (p ∷ ps)) ≡ o ∷ []
    go Less c ih = rw (c, e) (ap (λ (os : List Op). o ∷ os) (none_left f (p ∷ ps) h))
    go Equal c ih = absurd (g p (first_in p ps) (sym (exact_ids o.id p.id c)))
    go Greater c ih = rw (c, h p (first_in p ps)) ih

-- where nothing was made nothing is new
queue_has_none_new : (A B : State) → B.queue ≡ A.queue → slice_get (filter (is_new A.queue) B.queue) 0 ≡ None
queue_has_none_new A B e = ap (λ (os : List Op). slice_get (filter (is_new A.queue) os) 0) e ∙ ap (λ (os : List Op). slice_get os 0) (none_left (is_new A.queue) A.queue (λ x k. ap not (listed A.queue x k)))

queue_has_one_new : (A B : State) (o : Op) → has_id o.id A.ops ≡ false → ((x : Op) → Contains A.queue x → has_id x.id A.ops ≡ true) → B.queue ≡ with_op o A.queue → slice_get (filter (is_new A.queue) B.queue) 0 ≡ Some o
queue_has_one_new A B o new own e =
    let apart = fresh A o.id new own in
    ap (λ (os : List Op). slice_get (filter (is_new A.queue) os) 0) e
    ∙ ap (λ (os : List Op). slice_get os 0) (one_left (is_new A.queue) o A.queue (λ x k. ap not (listed A.queue x k)) apart (ap not (unlisted o.id A.queue apart)))

-- ---- an event of a run

-- the operation was applied, or there is none and none was applied
abbrev pub AppliesJust : State → State → Option Op → Type 0
AppliesJust A B (Some o) = AppliesOp A B o
AppliesJust A B None = (o : Op) → AppliesOp A B o → ⊥

-- an event by which no operation is ever applied
abbrev pub IsOtherEvent : Event → Type 0
IsOtherEvent (E.Exec p) = ⊥
IsOtherEvent (E.Apply p i) = ⊥
IsOtherEvent _ = Unit {0}

module _ (scripts : List (List Cmd)) (network new : List State) (event : Event) (rows : List (Rule × ℕ)) (r : IsReached scripts network) (s : Step network event new rows) where
  abbrev A : State
  A = s.before

  abbrev B : State
  B = s.after

  abbrev set : List Op
  set = applied_ops A

  w : IsWell network
  w = well scripts network r

  v : IsWell new
  v = step_well network event new rows w s

  now : IsReplicaAt new (replica_of event) B
  now = ap (λ N. slice_get N (replica_of event)) s.is_new ∙ set_there network (replica_of event) A B s.is_there

  own : (x : Op) → Contains A.queue x → has_id x.id A.ops ≡ true
  own x k = (w.sets.own (replica_of event) A x s.is_there k).1

  step_did : Did A event s.read B
  step_did = did A event s.read B (record { derivation = s.derivation; holds = s.holds; concludes = s.concludes })

  -- ---- what was applied before

  was_applied : (o : Op) → Contains set o → IsHeldBy A o × (has_id o.id A.ops ≡ true)
  was_applied o = (applied_is network w (replica_of event) A s.is_there o).0

  -- what is applied is in the set
  in_set : (i : Id) → has_id i A.ops ≡ true → is_some (op_of i set) ≡ true
  in_set i d =
      let x = applied_has network w (replica_of event) A s.is_there i d in
      subst (λ j. is_some (op_of j set) ≡ true) x.2 (go x.0 x.1 (op_of x.0.id set) refl)
    where
      go : (o : Op) → Contains set o → (x : Option Op) → op_of o.id set ≡ x → is_some x ≡ true
      go o k None e = absurd (some_of set o k e)
      go o k (Some q) e = refl

  set_closed : (o : Op) → Contains set o → AreDepsIn set o
  set_closed o k i d =
      let x = was_applied o k in
      in_set i (w.sets.closed (replica_of event) A o s.is_there (held_made network w (replica_of event) A s.is_there o x.0) x.1 i d)

  -- ---- the operation

  now_applied : (o : Op) → Contains (applied_ops B) o → IsHeldBy B o × (has_id o.id B.ops ≡ true)
  now_applied o = (applied_is new v (replica_of event) B now o).0

  now_made : (o : Op) → IsHeldBy B o → IsMadeOp new o
  now_made o k = held_made new v (replica_of event) B now o k

  none_applied : B.ops ≡ A.ops → (o : Op) → AppliesOp A B o → ⊥
  none_applied e o a = no_truth (sym a.before ∙ (ap (has_id o.id) (sym e) ∙ (now_applied o a.now).1))

  applies : (o : Op) → Operated A B o → AppliesOp A B o
  applies o x = record { now = (applied_is new v (replica_of event) B now o).1 (x.held, ap (has_id o.id) x.ops ∙ now_with_id o.id A.ops); before = x.new }

  -- it is the only one
  only : (o : Op) → Operated A B o → (x : Op) → AppliesOp A B x → o ≡ x
  only o y x a = go (in_with_id x.id o.id A.ops (ap (has_id x.id) (sym y.ops) ∙ (now_applied x a.now).1))
    where
      go : (x.id ≡ o.id) ⊎ (has_id x.id A.ops ≡ true) → o ≡ x
      go (inl e) = v.sets.sound.one_each o x (now_made o y.held) (now_made x (now_applied x a.now).0) (sym e)
      go (inr e) = no_truth (sym a.before ∙ e)

  module _ (o : Op) (x : Operated A B o) where
    with_made : (q : Op) → Contains (o ∷ set) q → IsMadeOp new q
    with_made q k = go (in_cons q o set k)
      where
        go : (o ≡ q) ⊎ Contains set q → IsMadeOp new q
        go (inl e) = subst (IsMadeOp new) e (now_made o x.held)
        go (inr m) = now_made q (still_held A event s.read B step_did q (was_applied q m).0)

    or_there : (b : Bool) (y : Option Op) → is_some y ≡ true → is_some (cond b (Some o) y) ≡ true
    or_there true y e = refl
    or_there false y e = e

    with_closed : (q : Op) → Contains (o ∷ set) q → AreDepsIn (o ∷ set) q
    with_closed q k i d = or_there (same_id i o.id) (op_of i set) (go (in_cons q o set k))
      where
        go : (o ≡ q) ⊎ Contains set q → is_some (op_of i set) ≡ true
        go (inl e) = in_set i (x.deps i (subst (λ (y : Op). has_id i y.deps ≡ true) (sym e) d))
        go (inr m) = set_closed q m i d

    outside : op_of o.id set ≡ None
    outside = go (op_of o.id set) refl
      where
        go : (y : Option Op) → op_of o.id set ≡ y → y ≡ None
        go None e = refl
        go (Some q) e =
            let z = op_in o.id set q e in
            no_truth (sym x.new ∙ subst (λ j. has_id j A.ops ≡ true) z.1 (was_applied q z.0).1)

    next_tree : IsNextTree o A.tree B.tree
    next_tree =
        record {
          set = set;
          next =
              record {
                outside = outside;
                sound = made_sound new v (o ∷ set) with_made with_closed;
                rooted = made_rooted new v (o ∷ set) with_made with_closed;
                closed = set_closed;
                deps = λ i d. in_set i (x.deps i d);
              };
          means = trees_meant scripts network r A (in_list network (replica_of event) A s.is_there);
          leads = x.leads;
        }

  did_act : Acted A B
  did_act = acted A event s.read B own step_did

  pub changes : (o : Op) → AppliesOp A B o → IsNextTree o A.tree B.tree
  changes o a = go did_act
    where
      go : Acted A B → IsNextTree o A.tree B.tree
      go (quiet t e) = absurd (none_applied e o a)
      go (operated p x) = subst (λ (q : Op). IsNextTree q A.tree B.tree) (only p x o a) (next_tree p x)

  pub one_applied : (o p : Op) → AppliesOp A B o → AppliesOp A B p → o ≡ p
  one_applied o p a b = go did_act
    where
      go : Acted A B → o ≡ p
      go (quiet t e) = absurd (none_applied e o a)
      go (operated q x) = sym (only q x o a) ∙ only q x p b

  pub unchanged : ((o : Op) → AppliesOp A B o → ⊥) → B.tree ≡ A.tree
  unchanged none = go did_act
    where
      go : Acted A B → B.tree ≡ A.tree
      go (quiet t e) = t
      go (operated o x) = absurd (none o (applies o x))

  -- ---- the operation that tells of it

  exec_did : (p : ℕ) → event ≡ E.Exec p → Did A event s.read B → AppliesJust A B (slice_get (filter (is_new A.queue) B.queue) 0)
  exec_did p is (bound q rest y e b at left t next) = subst (AppliesJust A B) (sym (queue_has_none_new A B (ap (λ (S : State). S.queue) next))) (none_applied (ap (λ (S : State). S.ops) next))
  exec_did p is (made q rest c e cur m t at left g op next) =
      let o = new_op q A cur m in
      subst (AppliesJust A B) (sym (queue_has_one_new A B o (new_unapplied q A) own (ap (λ (S : State). S.queue) next))) (applies o (made_operated A B q rest cur m t own op next))
  exec_did p is (sent q rest at left next) = cc
  exec_did p is (received q o rest at left next) = cc
  exec_did p is (took q o i rest x at left there next) = cc
  exec_did p is (applied q i rest o t at left there unapplied deps op next) = cc
  exec_did p is (done q rest at left next) = cc

  apply_did : (p : ℕ) (i : Id) → event ≡ E.Apply p i → Did A event s.read B → AppliesJust A B (op_of i A.recv)
  apply_did p i is (applied q j rest o t at left there unapplied deps op next) =
      let same : j ≡ i = cc in
      subst (λ k. AppliesJust A B (op_of k A.recv)) same (subst (AppliesJust A B) (sym there) (applies o (applied_operated A B j o t there unapplied deps op next)))
  apply_did p i is (bound q rest y e b at left t next) = cc
  apply_did p i is (made q rest c e cur m t at left g op next) = cc
  apply_did p i is (sent q rest at left next) = cc
  apply_did p i is (received q o rest at left next) = cc
  apply_did p i is (took q o j rest x at left there next) = cc
  apply_did p i is (done q rest at left next) = cc

  other_did : IsOtherEvent event → Did A event s.read B → AppliesJust A B None
  other_did h (bound q rest y e b at left t next) = absurd (subst IsOtherEvent at h)
  other_did h (made q rest c e cur m t at left g op next) = absurd (subst IsOtherEvent at h)
  other_did h (sent q rest at left next) = none_applied (ap (λ (S : State). S.ops) next)
  other_did h (received q o rest at left next) = none_applied (ap (λ (S : State). S.ops) next)
  other_did h (took q o i rest x at left there next) = none_applied (ap (λ (S : State). S.ops) next)
  other_did h (applied q i rest o t at left there unapplied deps op next) = absurd (subst IsOtherEvent at h)
  other_did h (done q rest at left next) = none_applied (ap (λ (S : State). S.ops) next)

-- A command has applied the operation that is new in the queue, if there is one.
pub exec_applies : (scripts : List (List Cmd)) (network new : List State) (p : ℕ) (rows : List (Rule × ℕ)) → IsReached scripts network → (s : Step network (E.Exec p) new rows)
    → AppliesJust s.before s.after (slice_get (filter (is_new s.before.queue) s.after.queue) 0)
exec_applies scripts network new p rows r s = exec_did scripts network new (E.Exec p) rows r s p refl (step_did scripts network new (E.Exec p) rows r s)

-- An apply has applied the operation that was received.
pub apply_applies : (scripts : List (List Cmd)) (network new : List State) (p : ℕ) (i : Id) (rows : List (Rule × ℕ)) → IsReached scripts network → (s : Step network (E.Apply p i) new rows)
    → AppliesJust s.before s.after (op_of i s.before.recv)
apply_applies scripts network new p i rows r s = apply_did scripts network new (E.Apply p i) rows r s p i refl (step_did scripts network new (E.Apply p i) rows r s)

-- Other events have applied none.
pub others_apply : (scripts : List (List Cmd)) (network new : List State) (event : Event) (rows : List (Rule × ℕ)) → IsReached scripts network → (s : Step network event new rows) → IsOtherEvent event
    → AppliesJust s.before s.after None
others_apply scripts network new event rows r s h = other_did scripts network new event rows r s h (step_did scripts network new event rows r s)

-- ---- the operation as it is kept

pub stored_changed : (o : Op) (c d : Context) → IsNextTree o c d → IsChangedBy (stored_op o) c d
stored_changed o c d x = (o.deps, x)

-- the operation as it is kept leads to the tree, or there is none and the tree is the same
abbrev pub IsTreeAfter : Option Op → Context → Context → Type 0
IsTreeAfter (Some o) c d = IsChangedBy (stored_op o) c d
IsTreeAfter None c d = d ≡ c

pub tree_after : (scripts : List (List Cmd)) (network new : List State) (event : Event) (rows : List (Rule × ℕ)) → IsReached scripts network → (s : Step network event new rows) → (found : Option Op)
    → AppliesJust s.before s.after found → IsTreeAfter found s.before.tree s.after.tree
tree_after scripts network new event rows r s (Some o) a = stored_changed o s.before.tree s.after.tree (changes scripts network new event rows r s o a)
tree_after scripts network new event rows r s None a = unchanged scripts network new event rows r s a

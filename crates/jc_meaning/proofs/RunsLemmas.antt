-- About Laws: in every run the tree of a replica is what the operations mean that it has applied.
use Rattle.std.proofs.Common.{◌≡◌, ◌≢◌, ℕ, ◌<◌, List, [], ◌∷◌, ◌++◌, Option, Some, None, is_some, Bool, true, false, ◌||◌, cond, Contains, ◌⊎◌, inl, inr, slice_get, slice_set, refl, sym, ◌∙◌, ap, subst}
use Rattle.std.proofs.lemmas.Option.{same_Some}
use Rattle.jc_rules.specs.declared.id.Id.{Id}
use Rattle.jc_rules.specs.declared.key.Key.{Key}
use Rattle.jc_rules.specs.declared.key.Tagged.{Tagged}
use Rattle.jc_rules.specs.declared.key.Tagged.TheVariants.{ListT}
use Rattle.jc_rules.specs.declared.operation.Op.{Op}
use Rattle.jc_rules.specs.declared.operation.Event.{Event}
use Rattle.jc_rules.specs.Order.{same_id}
use Rattle.jc_rules.specs.Ids.{has_id, with_id, AreIn}
use Rattle.jc_rules.specs.Derivation.{Operate, ToContext}
use Rattle.jc_rules.specs.ContextsAt.{IsAtOrAbove}
use Rattle.jc_rules.specs.Refused.{IsAnswered}
use Rattle.jc_rules.specs.WellFormed.{IsWellFormedContext, drop}
use Rattle.jc_rules.specs.State.{State}
use Rattle.jc_rules.specs.Step.{After, replica_of}
use Rattle.jc_rules.specs.Syntax.{Cmd}
use Rattle.jc_rules.specs.Table.{op_of}
use Rattle.jc_rules.proofs.IdsLemmas.{has_id-with}
use Rattle.jc_network.specs.Applied.{applied_ops}
use Rattle.jc_network.specs.Laws.{starts, IsReached}
use Rattle.jc_network.specs.RunInvariant.{IsReplicaAt, IsMadeOp, IsWell}
use Rattle.jc_network.specs.Rooted.{IsRootKey, head, element}
use Rattle.jc_network.proofs.AppliedLemmas.{applied_is, applied_has}
use Rattle.jc_network.proofs.EventDidLemmas.{new_op, Did, bound, made, sent, received, took, applied, done, did}
use Rattle.jc_network.proofs.MembersLemmas.{none_in, in_cons, op_in, of_id, set_there, set_other, still_with, now_with}
use Rattle.jc_network.proofs.RunInvariantStartLemmas.{start_well, started, at_member}
use Rattle.jc_network.proofs.RunInvariantLemmas.{step_well}
use Rattle.jc_meaning.specs.Effects.{same_path}
use Rattle.jc_meaning.specs.Meaning.{Means, IsMeaning}
use Rattle.jc_meaning.proofs.NextOperationLemmas.{at_list, paths_self, insert_is, inserted_by, DepsIn, IsRoot, RootedIn, IsGood, NewFor}
use Rattle.jc_meaning.proofs.DroppedLemmas.{dropped_alike, alike_means, dropped_filled}
use Rattle.jc_meaning.proofs.MeaningStepLemmas.{means_with, nothing_means}
use Rattle.jc_meaning.proofs.ComparedLemmas.{one_tree}
use Rattle.jc_meaning.proofs.WellFormedLemmas.{operated_kept}
use Rattle.jc_meaning.proofs.MeaningOfSetLemmas.{SameOps, same_ops, means_same}
use Rattle.jc_rules.proofs.BoolLemmas.{same_tests}
use Rattle.jc_network.proofs.ChainedLemmas.{new_unapplied}

-- a list of the operations that a replica has applied, of which the tree is the meaning
record Built (In : Op → Type 0) (A : State) : Type 0 where
  ops : List Op
  made : (o : Op) → Contains ops o → In o
  ids : (i : Id) → is_some (op_of i ops) ≡ has_id i A.ops
  means : Means ops A.tree
  kept : IsWellFormedContext A.tree

-- ---- the operations of a list that were made are rooted

module _ (N : List State) (w : IsWell N) (ops : List Op) (in_made : (o : Op) → Contains ops o → IsMadeOp N o) where
  found_one : (o : Op) → Contains ops o → op_of o.id ops ≡ Some o
  found_one o k = of_id ops o (λ x m e. w.sets.sound.one_each x o (in_made x m) (in_made o k) e) k

  -- the operation of an identifier is the one that was made with it
  found_made : (i : Id) → is_some (op_of i ops) ≡ true → (e : Op) → IsMadeOp N e → e.id ≡ i → op_of i ops ≡ Some e
  found_made i h e m s = go (op_of i ops) refl h
    where
      go : (x : Option Op) → op_of i ops ≡ x → is_some x ≡ true → x ≡ Some e
      go None f g = cc
      go (Some y) f g = let z = op_in i ops y f in ap (λ v. Some v) (w.sets.sound.one_each y e (in_made y z.0) m (z.1 ∙ sym s))

  rooted_made : (p : Op) → IsMadeOp N p → DepsIn ops p → RootedIn ops p
  rooted_made p m deps P k list above = go (at_list P k p.cursor.path p.cursor.last list above)
    where
      root : (above : List Tagged) (l : Key) → P ≡ above ++ ListT l ∷ [] → IsRootKey (IsMadeOp N) p.deps (above ++ ListT l ∷ []) k → IsRoot ops p P k
      root above l s (head e) = subst (IsRoot ops p P) (sym e) tt
      root above l s (element i e d h) =
          let found : op_of i ops ≡ Some h.op = found_made i (deps i d) h.op h.made h.is in
          subst (IsRoot ops p P) (sym e) (d, inserted_by ops P i h.op found (insert_is h.op.mutation h.inserts) (subst (λ Q. same_path Q P ≡ true) (sym (h.path ∙ sym s)) (paths_self P)))

      go : (above : List Tagged) × (l : Key) × (P ≡ above ++ ListT l ∷ []) × IsAtOrAbove (above ++ ListT l ∷ []) k p.cursor.path p.cursor.last → IsRoot ops p P k
      go (above, l, s, x) = root above l s ((w.trees.rooted p m).rooted above l k x)

  older_made : (p : Op) → IsMadeOp N p → (i : Id) → has_id i p.deps ≡ true → i.counter < p.id.counter
  older_made p m i d = let x = w.sets.sound.closed p m i d in subst (λ (j : Id). j.counter < p.id.counter) x.2 (x.3).earlier

module _ (N : List State) (w : IsWell N) (p : ℕ) (A : State) (there : IsReplicaAt N p A) (b : Built (IsMadeOp N) A) where
  built_good : IsGood b.ops
  built_good =
      record {
        one = found_one N w b.ops b.made;
        closed = closed;
        older = λ o k. older_made N w b.ops b.made o (b.made o k);
        rooted = λ o k. rooted_made N w b.ops b.made o (b.made o k) (closed o k);
      }
    where
      closed : (o : Op) → Contains b.ops o → DepsIn b.ops o
      closed o k i d = b.ids i ∙ w.sets.closed p A o there (b.made o k) (sym (b.ids o.id) ∙ ap is_some (found_one N w b.ops b.made o k)) i d

  module _ (M : List State) (v : IsWell M) (still : (x : Op) → IsMadeOp N x → IsMadeOp M x) (o : Op) (new : has_id o.id A.ops ≡ false) (deps : AreIn o.deps A.ops) (now : IsMadeOp M o) where
    comes_next : NewFor b.ops o
    comes_next =
        record {
          outside = none (op_of o.id b.ops) (b.ids o.id ∙ new);
          deps_in = deps_in;
          older = older_made M v b.ops (λ x k. still x (b.made x k)) o now;
          rooted = rooted_made M v b.ops (λ x k. still x (b.made x k)) o now deps_in;
          good = built_good;
        }
      where
        none : (x : Option Op) → is_some x ≡ false → x ≡ None
        none None e = refl
        none (Some y) e = cc

        deps_in : DepsIn b.ops o
        deps_in i d = b.ids i ∙ deps i d

    built_with : (B : State) → IsAnswered (Operate A.tree o) (ToContext B.tree) → B.ops ≡ with_id o.id A.ops → Built (IsMadeOp M) B
    built_with B a e =
        record {
          ops = o ∷ b.ops;
          made = λ x k. held x (in_cons x o b.ops k);
          ids = λ i. with_one i (same_id i o.id) ∙ sym (has_id-with i o.id A.ops) ∙ ap (has_id i) (sym e);
          means = means_with b.ops o A.tree B.tree comes_next b.means a;
          kept = operated_kept A.tree B.tree o b.kept a;
        }
      where
        held : (x : Op) → (o ≡ x) ⊎ Contains b.ops x → IsMadeOp M x
        held x (inl s) = subst (IsMadeOp M) s now
        held x (inr k) = still x (b.made x k)

        with_one : (i : Id) (c : Bool) → is_some (cond c (Some o) (op_of i b.ops)) ≡ (c || has_id i A.ops)
        with_one i true = refl
        with_one i false = b.ids i

-- ---- what a step did to the tree

data Treed (A B : State) : Type 0 where
  quiet : B.tree ≡ A.tree → B.ops ≡ A.ops → ((x : Op) → Contains A.queue x → Contains B.queue x) → Treed A B
  operated : (o : Op) → has_id o.id A.ops ≡ false → AreIn o.deps A.ops → IsAnswered (Operate A.tree o) (ToContext B.tree) → B.ops ≡ with_id o.id A.ops → ((x : Op) → Contains A.queue x → Contains B.queue x) → Contains B.queue o ⊎ Contains A.recv o → Treed A B

treed : (A : State) (event : Event) (read : List Op) (B : State) → ((x : Op) → Contains A.queue x → has_id x.id A.ops ≡ true) → Did A event read B → Treed A B
treed A event read B own (bound p rest x e b is left s new) = subst (λ (S : State). Treed A S) (sym new) (quiet refl refl (λ y k. k))
treed A event read B own (made p rest c e cur m t is left s op new) = subst (λ (S : State). Treed A S) (sym new) (operated (new_op p A cur m) (new_unapplied p A) (λ i d. d) op refl (λ x k. still_with (new_op p A cur m) A.queue x k) (inl (now_with (new_op p A cur m) A.queue fresh)))
  where
    fresh : (x : Op) → Contains A.queue x → x.id ≢ (new_op p A cur m).id
    fresh x k f =
        let there : has_id (new_op p A cur m).id A.ops ≡ true = subst (λ j. has_id j A.ops ≡ true) f (own x k) in
        let z : true ≡ false = sym there ∙ new_unapplied p A in
        cc
treed A event read B own (sent p rest is left new) = subst (λ (S : State). Treed A S) (sym new) (quiet refl refl (λ y k. k))
treed A event read B own (received p q rest is left new) = subst (λ (S : State). Treed A S) (sym new) (quiet refl refl (λ y k. k))
treed A event read B own (took p q i rest o is left found new) = subst (λ (S : State). Treed A S) (sym new) (quiet refl refl (λ y k. k))
treed A event read B own (applied p i rest o t is left found unapplied deps op new) =
    let x = op_in i A.recv o found in
    subst (λ (S : State). Treed A S) (sym new) (operated o (subst (λ j. has_id j A.ops ≡ false) (sym x.1) unapplied) deps op (ap (λ j. with_id j A.ops) (sym x.1)) (λ y k. k) (inr x.0))
treed A event read B own (done p rest is left new) = subst (λ (S : State). Treed A S) (sym new) (quiet refl refl (λ y k. k))

-- ---- each step

abbrev AreBuilt : List State → Type 0
AreBuilt N = (p : ℕ) (A : State) → IsReplicaAt N p A → Built (IsMadeOp N) A

module _ (N : List State) (p : ℕ) (A B : State) (there : IsReplicaAt N p A) (w : IsWell N) (v : IsWell (slice_set N p B)) where
  abbrev next : List State
  next = slice_set N p B

  made_still : ((x : Op) → Contains A.queue x → Contains B.queue x) → (x : Op) → IsMadeOp N x → IsMadeOp next x
  made_still more x m = go (set_other N p x.id.replica B)
    where
      go : (x.id.replica ≡ p) ⊎ (slice_get next x.id.replica ≡ slice_get N x.id.replica) → IsMadeOp next x
      go (inl s) =
          let same : m.at ≡ A = same_Some m.at A (sym m.there ∙ (ap (slice_get N) s ∙ there)) in
          record { at = B; there = ap (slice_get next) s ∙ set_there N p A B there; queued = more x (subst (λ (S : State). Contains S.queue x) same m.queued) }
      go (inr s) = record { at = m.at; there = s ∙ m.there; queued = m.queued }

  same_built : (M : List State) (C D : State) → ((x : Op) → IsMadeOp N x → IsMadeOp M x) → D.tree ≡ C.tree → D.ops ≡ C.ops → Built (IsMadeOp N) C → Built (IsMadeOp M) D
  same_built M C D still t e b = record { ops = b.ops; made = λ x k. still x (b.made x k); ids = λ i. b.ids i ∙ ap (has_id i) (sym e); means = subst (Means b.ops) (sym t) b.means; kept = subst IsWellFormedContext (sym t) b.kept }

  new_made : (o : Op) → o.id.replica ≡ p → Contains B.queue o → IsMadeOp next o
  new_made o r k = record { at = B; there = ap (slice_get next) r ∙ set_there N p A B there; queued = k }

  own_made : (o : Op) → Contains B.queue o → IsMadeOp next o
  own_made o k = new_made o ((v.sets.own p B o (set_there N p A B there) k).0) k

  built_after : AreBuilt N → Treed A B → AreBuilt next
  built_after h t q C e = go (set_other N p q B) t
    where
      at_p : Treed A B → Built (IsMadeOp next) B
      at_p (quiet s f more) = same_built next A B (made_still more) s f (h p A there)
      at_p (operated o new deps a f more (inl k)) = built_with N w p A there (h p A there) next v (made_still more) o new deps (own_made o k) B a f
      at_p (operated o new deps a f more (inr k)) = built_with N w p A there (h p A there) next v (made_still more) o new deps (made_still more o (w.sets.received p A o there k)) B a f

      still : Treed A B → (x : Op) → IsMadeOp N x → IsMadeOp next x
      still (quiet s f more) = made_still more
      still (operated o new deps a f more k) = made_still more

      go : (q ≡ p) ⊎ (slice_get next q ≡ slice_get N q) → Treed A B → Built (IsMadeOp next) C
      go (inl s) x =
          let f : slice_get next q ≡ Some B = ap (slice_get next) s ∙ set_there N p A B there in
          subst (Built (IsMadeOp next)) (same_Some B C (sym f ∙ e)) (at_p x)
      go (inr s) x = same_built next C C (still x) refl refl (h q C (sym s ∙ e))

after_built : (N : List State) (events : List Event) (M : List State) → IsWell N → AreBuilt N → After N events M → IsWell M × AreBuilt M
after_built N [] M w h a = (subst IsWell a w, subst AreBuilt a h)
after_built N (e ∷ es) M w h a =
    let s = a.2 in
    let next_well : IsWell a.0 = step_well N e a.0 a.1 w s in
    let t = treed s.before e s.read s.after (λ x k. (w.sets.own (replica_of e) s.before x s.is_there k).1) (did s.before e s.read s.after (record { derivation = s.derivation; holds = s.holds; concludes = s.concludes })) in
    let built = built_after N (replica_of e) s.before s.after s.is_there w (subst IsWell s.is_new next_well) h t in
    after_built a.0 es M next_well (subst AreBuilt (sym s.is_new) built) a.3

start_built : (scripts : List (List Cmd)) → AreBuilt (starts scripts)
start_built scripts p A e =
    let x = started scripts p A e in
    record {
      ops = [];
      made = λ o k. none_in o k;
      ids = λ i. ap (λ (S : State). has_id i S.ops) (sym x.1);
      means = subst (λ (S : State). Means [] S.tree) (sym x.1) nothing_means;
      kept = subst (λ (S : State). IsWellFormedContext S.tree) (sym x.1) (tt, tt, tt, tt, tt, tt, tt, tt, tt);
    }

-- ---- what is applied

module _ (N : List State) (w : IsWell N) (p : ℕ) (A : State) (there : IsReplicaAt N p A) (b : Built (IsMadeOp N) A) where
  is_made : (o : Op) → Contains (applied_ops A) o → IsMadeOp N o
  is_made o k = go ((applied_is N w p A there o).0 k).0
    where
      go : Contains A.queue o ⊎ Contains A.recv o → IsMadeOp N o
      go (inl m) = record { at = A; there = ap (slice_get N) ((w.sets.own p A o there m).0) ∙ there; queued = m }
      go (inr m) = w.sets.received p A o there m

  applied_ids : (i : Id) → is_some (op_of i (applied_ops A)) ≡ has_id i A.ops
  applied_ids i = same_tests (is_some (op_of i (applied_ops A))) (has_id i A.ops) (known (op_of i (applied_ops A)) refl) there_too
    where
      known : (x : Option Op) → op_of i (applied_ops A) ≡ x → is_some x ≡ true → has_id i A.ops ≡ true
      known None f g = cc
      known (Some o) f g = let y = op_in i (applied_ops A) o f in subst (λ j. has_id j A.ops ≡ true) y.1 ((applied_is N w p A there o).0 y.0).1

      there_too : has_id i A.ops ≡ true → is_some (op_of i (applied_ops A)) ≡ true
      there_too d =
          let x = applied_has N w p A there i d in
          subst (λ j. is_some (op_of j (applied_ops A)) ≡ true) x.2 (ap is_some (found_one N w (applied_ops A) is_made x.0 x.1))

  applied_meant : Means (applied_ops A) A.tree
  applied_meant =
      means_same b.ops (applied_ops A) A.tree
      (same_ops (IsMadeOp N) w.sets.sound.one_each b.ops (applied_ops A)
      (record { all = b.made; one = found_one N w b.ops b.made })
      (record { all = is_made; one = found_one N w (applied_ops A) is_made })
      (λ i. b.ids i ∙ sym (applied_ids i)))
      b.means

-- ---- from a start

module _ (scripts : List (List Cmd)) (network : List State) (r : IsReached scripts network) where
  run : IsWell network × AreBuilt network
  run = after_built (starts scripts) r.0 network (start_well scripts) (start_built scripts) r.1

  pub trees_meant : (A : State) → Contains network A → Means (applied_ops A) A.tree
  trees_meant A k = let m = at_member network A k in applied_meant network run.0 m.0 A m.1 (run.1 m.0 A m.1)

  pub kept_tree : (A : State) → Contains network A → IsWellFormedContext A.tree
  kept_tree A k = let m = at_member network A k in (run.1 m.0 A m.1).kept

  -- of two replicas with the same identifiers both trees are what one list means
  pub trees_converge : (A B : State) → Contains network A → Contains network B → A.ops ≡ B.ops → drop A.tree ≡ drop B.tree
  trees_converge A B k l e =
      let m = at_member network A k in
      let n = at_member network B l in
      let x = run.1 m.0 A m.1 in
      let y = run.1 n.0 B n.1 in
      let well = run.0 in
      let same : SameOps y.ops x.ops = same_ops (IsMadeOp network) well.sets.sound.one_each y.ops x.ops
      (record { all = y.made; one = found_one network well y.ops y.made })
      (record { all = x.made; one = found_one network well x.ops x.made })
      (λ i. y.ids i ∙ ap (has_id i) (sym e) ∙ sym (x.ids i)) in
      one_tree x.ops A.tree B.tree x.kept y.kept x.means (means_same y.ops x.ops B.tree same y.means)

  pub dropped_is_meaning : (A : State) → Contains network A → IsMeaning (applied_ops A) (drop A.tree)
  dropped_is_meaning A k =
      let m = at_member network A k in
      let x = run.1 m.0 A m.1 in
      record { means = alike_means (applied_ops A) A.tree (drop A.tree) (dropped_alike A.tree x.kept) (trees_meant A k); filled = dropped_filled A.tree }

-- About StuckLine: which replicas offer an operation, and which of its dependencies are missing.
use Rattle.std.proofs.Common.{◌≡◌, ℕ, zero, suc, ◌+◌, ◌<◌, List, [], ◌∷◌, ◌++◌, Bool, true, false, not, ◌||◌, ◌&&◌, cond, Contains, ◌⊎◌, inl, inr, Option, Some, None, Bor, option_copied, is_some, length, drop, take, map, slice_get, get_or, refl, sym, ◌∙◌, ap, subst, add-one}
use Rattle.std.proofs.lemmas.Option.{same_Some, slice_get_read}
use Rattle.std.proofs.lemmas.List.Elements.{Contains-append_left, Contains-append_right}
use Rattle.json.specs.Token as T
use Rattle.json.specs.Tree.{items_tokens}
use Rattle.jc_rules.specs.declared.id.Id.{Id}
use Rattle.jc_rules.specs.declared.operation.Op.{Op}
use Rattle.jc_rules.specs.Ids.{AreRising, has_id, with_id, without}
use Rattle.jc_rules.specs.Order.{same_id}
use Rattle.jc_rules.specs.ReplicaNames.{name_at}
use Rattle.jc_rules.specs.State.{State}
use Rattle.jc_rules.specs.Table.{op_of}
use Rattle.jc_rules.specs.VersionVectors.{covered}
use Rattle.jc_rules.proofs.BoolLemmas.{or_right, or_cases}
use Rattle.jc_rules.proofs.CoveredLemmas.{left_in}
use Rattle.jc_rules.proofs.IdsLemmas.{same_id-true, has_id-with, has_id-without, without-rises, same_members}
use Rattle.jc_rules.proofs.RepresentationLemmas.{counters_tell}
use Rattle.jc_vectors.specs.StoredStates.{stored_op}
use Rattle.jc_vectors.proofs.ApplyStandsLemmas.{deps_closed, kept_found}
use Rattle.jc_replica.specs.Operations.{identifiers}
use Rattle.jc_replica.specs.ReplicaHistory.{ReplicaHistory}
use Rattle.jc_replica.proofs.MayApplyLemmas.{kept_absent}
use Rattle.jc_replica.proofs.ReceivedUnionLemmas.{there_found, not_there_absent}
use Rattle.jc_network.specs.Laws.{ops_held}
use Rattle.jc_network.specs.Invariant.{IsFromStart}
use Rattle.jc_network.specs.RunInvariant.{IsReplicaAt, IsWell}
use Rattle.jc_network.specs.Steps.{HasReplica}
use Rattle.jc_network.proofs.AfterLemmas.{take_more}
use Rattle.jc_network.proofs.AppliedIdsLemmas.{kept_ids, id_in, of_id_in}
use Rattle.jc_network.proofs.MembersLemmas.{op_in}
use Rattle.jc_network.proofs.RunInvariantStartLemmas.{held_made, sound}
use Rattle.jc_meaning.proofs.ComparisonLemmas.{held_has, run_well, stands_held}
use Rattle.jc_json.specs.Values.{string_items}
use Rattle.jc_journal.specs.StuckLine.{offering_from, deps_of, missing_ids}
use Rattle.jc_journal.specs.Parts.{name_tokens, made_ids, IsMissingOf}

identifiers-append : (os ps : List Op) → identifiers (os ++ ps) ≡ identifiers os ++ identifiers ps
identifiers-append [] ps = refl
identifiers-append (o ∷ os) ps = ap (λ (is : List Id). o.id ∷ is) (identifiers-append os ps)

-- whether an operation is found
pub found_tells : (i : Id) (os : List Op) (found : Option (Bor Op)) → option_copied found ≡ op_of i os → is_some found ≡ has_id i (identifiers os)
found_tells i os None e = sym (not_there_absent i os (sym e))
found_tells i os (Some o) e = sym (there_found i os o.now (sym e))

-- ---- who offers it

pub state_next : (network : List State) (p : ℕ) (A : State) → slice_get network p ≡ Some A → drop p network ≡ A ∷ drop (suc p) network
state_next [] p A e = cc
state_next (B ∷ network) zero A e = let s : B ≡ A = same_Some B A e in ap (λ (S : State). S ∷ network) s
state_next (B ∷ network) (suc p) A e = state_next network p A e

offering_tokens : (names : List (List ℕ)) (i : Id) (p : ℕ) (A : State) (rest : List State)
    → items_tokens (string_items (offering_from p names i (A ∷ rest))) ≡ name_tokens names p i A ++ items_tokens (string_items (offering_from (suc p) names i rest))
offering_tokens names i p A rest = go (has_id i (identifiers A.send)) refl
  where
    go : (b : Bool) → has_id i (identifiers A.send) ≡ b
        → items_tokens (string_items (offering_from p names i (A ∷ rest))) ≡ name_tokens names p i A ++ items_tokens (string_items (offering_from (suc p) names i rest))
    go true e = rw e refl
    go false e = rw e refl

-- the names from replica p on
pub offering_next : (names : List (List ℕ)) (i : Id) (network : List State) (p : ℕ) (A : State) → slice_get network p ≡ Some A
    → items_tokens (string_items (offering_from p names i (drop p network))) ≡ name_tokens names p i A ++ items_tokens (string_items (offering_from (suc p) names i (drop (suc p) network)))
offering_next names i network p A e =
    ap (λ (N : List State). items_tokens (string_items (offering_from p names i N))) (state_next network p A e)
    ∙ offering_tokens names i p A (drop (suc p) network)

-- ---- what was made

pub has_id-append : (k : Id) (is js : List Id) → has_id k (is ++ js) ≡ has_id k is || has_id k js
has_id-append k [] js = refl
has_id-append k (i ∷ is) js = go (same_id k i) (has_id-append k is js)
  where
    go : (b : Bool) → has_id k (is ++ js) ≡ has_id k is || has_id k js → b || has_id k (is ++ js) ≡ (b || has_id k is) || has_id k js
    go true ih = refl
    go false ih = ih

made_ids-append : (N M : List State) → made_ids (N ++ M) ≡ made_ids N ++ made_ids M
made_ids-append [] M = refl
made_ids-append (A ∷ N) M = ap (λ (is : List Id). identifiers A.queue ++ is) (made_ids-append N M) ∙ sym (assoc (identifiers A.queue) (made_ids N) (made_ids M))
  where
    assoc : (is js ks : List Id) → (is ++ js) ++ ks ≡ is ++ (js ++ ks)
    assoc [] js ks = refl
    assoc (i ∷ is) js ks = ap (λ (x : List Id). i ∷ x) (assoc is js ks)

last_or : (a b : Bool) → a || (b || false) ≡ a || b
last_or true b = refl
last_or false true = refl
last_or false false = refl

-- with one replica more
pub made_more : (network : List State) (p : ℕ) (A : State) (k : Id) → slice_get network p ≡ Some A
    → has_id k (made_ids (take (suc p) network)) ≡ has_id k (made_ids (take p network)) || has_id k (identifiers A.queue)
made_more network p A k e =
    ap (λ (N : List State). has_id k (made_ids N)) (take_more network p A e)
    ∙ ap (has_id k) (made_ids-append (take p network) (A ∷ []))
    ∙ has_id-append k (made_ids (take p network)) (identifiers A.queue ++ [])
    ∙ ap (λ b. has_id k (made_ids (take p network)) || b) (has_id-append k (identifiers A.queue) [])
    ∙ last_or (has_id k (made_ids (take p network))) (has_id k (identifiers A.queue))

-- ---- one operation more that is looked at

or_false : (b : Bool) → b || false ≡ b
or_false true = refl
or_false false = refl

taken_ids : (k : Id) (made : List Op) (n : ℕ) (o : Op) → n < length made → o ≡ get_or made n o → has_id k (identifiers (take (n + 1) made)) ≡ has_id k (identifiers (take n made)) || same_id k o.id
taken_ids k made n o l e =
    ap (λ (m : ℕ). has_id k (identifiers (take m made))) (add-one n)
    ∙ ap (λ (os : List Op). has_id k (identifiers os)) (take_more made n o (slice_get_read made (length made) n o refl l e))
    ∙ ap (has_id k) (identifiers-append (take n made) (o ∷ []))
    ∙ has_id-append k (identifiers (take n made)) (o.id ∷ [])
    ∙ ap (λ b. has_id k (identifiers (take n made)) || b) (or_false (same_id k o.id))

with_one : (s old t f : Bool) → (s ≡ true → f ≡ true) → s || (old || (t && f)) ≡ old || ((t || s) && f)
with_one true true t f h = refl
with_one true false true f h = sym (h refl)
with_one true false false f h = sym (h refl)
with_one false old true f h = refl
with_one false old false f h = refl

without_one : (s old t f : Bool) → (s ≡ true → f ≡ false) → old || (t && f) ≡ old || ((t || s) && f)
without_one true old true f h = refl
without_one true old false f h = ap (λ b. old || b) (sym (h refl))
without_one false old true f h = refl
without_one false old false f h = refl

module _ (old ids deps applied : List Id) (made : List Op) (n : ℕ) (o : Op) (l : n < length made) (is : o ≡ get_or made n o)
    (so_far : (k : Id) → has_id k ids ≡ has_id k old || (has_id k (identifiers (take n made)) && (has_id k deps && not (has_id k applied)))) where
  abbrev pub wanted : Id → Bool
  wanted k = has_id k deps && not (has_id k applied)

  same : (k : Id) (b : Bool) → wanted o.id ≡ b → same_id k o.id ≡ true → wanted k ≡ b
  same k b h e = ap (λ (j : Id). has_id j deps && not (has_id j applied)) (same_id-true k o.id e) ∙ h

  pub added_one : wanted o.id ≡ true → (new : List Id) → new ≡ with_id o.id ids
      → (k : Id) → has_id k new ≡ has_id k old || (has_id k (identifiers (take (n + 1) made)) && (has_id k deps && not (has_id k applied)))
  added_one h new e k =
      ap (has_id k) e ∙ has_id-with k o.id ids ∙ ap (λ b. same_id k o.id || b) (so_far k)
      ∙ with_one (same_id k o.id) (has_id k old) (has_id k (identifiers (take n made))) (has_id k deps && not (has_id k applied)) (same k true h)
      ∙ ap (λ b. has_id k old || (b && (has_id k deps && not (has_id k applied)))) (sym (taken_ids k made n o l is))

  pub passed_one : wanted o.id ≡ false → (k : Id) → has_id k ids ≡ has_id k old || (has_id k (identifiers (take (n + 1) made)) && (has_id k deps && not (has_id k applied)))
  passed_one h k =
      so_far k
      ∙ without_one (same_id k o.id) (has_id k old) (has_id k (identifiers (take n made))) (has_id k deps && not (has_id k applied)) (same k false h)
      ∙ ap (λ b. has_id k old || (b && (has_id k deps && not (has_id k applied)))) (sym (taken_ids k made n o l is))

-- whether it is wanted, by its two tests
pub both_tests : (i : Id) (deps applied : List Id) (a b : Bool) → has_id i deps ≡ a → has_id i applied ≡ b → has_id i deps && not (has_id i applied) ≡ a && not b
both_tests i deps applied a b e f = ap (λ x. x && not (has_id i applied)) e ∙ ap (λ x. a && not x) f

-- one replica more
either_made : (m q f : Bool) → (m && f) || (q && f) ≡ (m || q) && f
either_made true true true = refl
either_made true true false = refl
either_made true false true = refl
either_made true false false = refl
either_made false q f = refl

pub replica_missing : (network : List State) (p : ℕ) (replica : ReplicaHistory) (old new deps applied : List Id) (queue : List Op) → HasReplica network p replica → queue ≡ replica.history.now.queue
    → ((k : Id) → has_id k old ≡ has_id k (made_ids (take p network)) && (has_id k deps && not (has_id k applied)))
    → ((k : Id) → has_id k new ≡ has_id k old || (has_id k (identifiers queue) && (has_id k deps && not (has_id k applied))))
    → (k : Id) → has_id k new ≡ has_id k (made_ids (take (p + 1) network)) && (has_id k deps && not (has_id k applied))
replica_missing network p replica old new deps applied queue has q h g k =
    let f = has_id k deps && not (has_id k applied) in
    let ids : identifiers queue ≡ identifiers has.at.queue = ap identifiers (q ∙ ap (λ (S : State). S.queue) has.kept) ∙ kept_ids has.at.queue in
    g k
    ∙ ap (λ b. b || (has_id k (identifiers queue) && f)) (h k)
    ∙ ap (λ (is : List Id). (has_id k (made_ids (take p network)) && f) || (has_id k is && f)) ids
    ∙ either_made (has_id k (made_ids (take p network))) (has_id k (identifiers has.at.queue)) f
    ∙ ap (λ b. b && f) (sym (made_more network p has.at k has.there))
    ∙ ap (λ (n : ℕ). has_id k (made_ids (take n network)) && f) (sym (add-one p))

-- ---- the identifiers of what was made are those of the sound set

made_held : (N : List State) (i : Id) → has_id i (made_ids N) ≡ true → (o : Op) × Contains (ops_held N) o × (o.id ≡ i)
made_held [] i h = cc
made_held (A ∷ N) i h = go (or_cases (has_id i (identifiers A.queue)) (has_id i (made_ids N)) (sym (has_id-append i (identifiers A.queue) (made_ids N)) ∙ h)) (made_held N i)
  where
    go : (has_id i (identifiers A.queue) ≡ true) ⊎ (has_id i (made_ids N) ≡ true) → (has_id i (made_ids N) ≡ true → (o : Op) × Contains (ops_held N) o × (o.id ≡ i)) → (o : Op) × Contains (ops_held (A ∷ N)) o × (o.id ≡ i)
    go (inl e) ih =
        let x = of_id_in A.queue i e in
        (x.0, Contains-append_left A.queue (A.send ++ (A.recv ++ ops_held N)) x.0 x.1, x.2)
    go (inr e) ih =
        let x = ih e in
        (x.0, Contains-append_right A.queue (A.send ++ (A.recv ++ ops_held N)) x.0 (Contains-append_right A.send (A.recv ++ ops_held N) x.0 (Contains-append_right A.recv (ops_held N) x.0 x.1)), x.2)

queued_made : (N : List State) (p : ℕ) (A : State) (o : Op) → slice_get N p ≡ Some A → Contains A.queue o → has_id o.id (made_ids N) ≡ true
queued_made [] p A o e k = cc
queued_made (B ∷ N) zero A o e k =
    let s : A ≡ B = sym (same_Some B A e) in
    has_id-append o.id (identifiers B.queue) (made_ids N)
    ∙ left_in (has_id o.id (identifiers B.queue)) (has_id o.id (made_ids N)) (id_in B.queue o (subst (λ (S : State). Contains S.queue o) s k))
queued_made (B ∷ N) (suc p) A o e k =
    has_id-append o.id (identifiers B.queue) (made_ids N)
    ∙ or_right (has_id o.id (identifiers B.queue)) (has_id o.id (made_ids N)) (queued_made N p A o e k)

module _ (N : List State) (r : IsFromStart N) (p : ℕ) (A : State) (there : IsReplicaAt N p A) where
  abbrev set : List Op
  set = ops_held N

  run : IsWell N
  run = run_well N r

  made_op : (k : Id) → has_id k (made_ids N) ≡ true → (o : Op) × (op_of k set ≡ Some o)
  made_op k h =
      let x = made_held N k h in
      (x.0, subst (λ (j : Id). op_of j set ≡ Some x.0) x.2 ((sound N run).one_each x.0 x.1))

  op_made : (k : Id) (o : Op) → op_of k set ≡ Some o → has_id k (made_ids N) ≡ true
  op_made k o h =
      let x = op_in k set o h in
      let m = held_made N run o x.0 in
      subst (λ (j : Id). has_id j (made_ids N) ≡ true) x.1 (queued_made N o.id.replica m.at o m.there m.queued)

  -- The identifiers of made operations that the one version vector covers and the other doesn't.
  pub missing_is : (o : Op) (i : Id) (ids : List Id) → op_of i A.recv ≡ Some o → AreRising ids
      → ((k : Id) → has_id k ids ≡ has_id k (made_ids N) && (has_id k (covered o.deps) && not (has_id k (covered A.ops))))
      → ids ≡ without o.deps A.ops
  missing_is o i ids found rises has =
      same_members ids (without o.deps A.ops) rises (without-rises o.deps A.ops ((sound N run).rising o held))
      (λ k. has k ∙ tells k (has_id k (made_ids N)) refl ∙ sym (has_id-without k o.deps A.ops))
    where
      held : Contains set o
      held = held_has N p A o there (inr ((op_in i A.recv o found).0))

      one : op_of o.id set ≡ Some o
      one = (sound N run).one_each o held

      tells : (k : Id) (b : Bool) → has_id k (made_ids N) ≡ b
          → has_id k (made_ids N) && (has_id k (covered o.deps) && not (has_id k (covered A.ops))) ≡ has_id k o.deps && not (has_id k A.ops)
      tells k true e =
          let x = made_op k e in
          let d : has_id k (covered o.deps) ≡ has_id k o.deps = counters_tell set o.deps (sound N run) (deps_closed set o.id o (sound N run) one) k x.0 x.1 in
          let a : has_id k (covered A.ops) ≡ has_id k A.ops = counters_tell set A.ops (sound N run) ((stands_held N run p A there).closed) k x.0 x.1 in
          rw (e, d, a) refl
      tells k false e = rw e (none (has_id k o.deps) refl)
        where
          none : (b : Bool) → has_id k o.deps ≡ b → false ≡ has_id k o.deps && not (has_id k A.ops)
          none true f =
              let x = (deps_closed set o.id o (sound N run) one).known k f in
              let m : has_id k (made_ids N) ≡ true = op_made k x.0 x.1 in
              absurd (let z : ⊥ = cc in z)
          none false f = rw f refl

-- what is found among the stored operations
pub missing_found : (N : List State) → IsFromStart N → (p : ℕ) (replica : ReplicaHistory) (i : Id) (k : Op) (recv : List Op) (applied ids : List Id) → HasReplica N p replica
    → Some k ≡ op_of i recv → recv ≡ replica.history.now.recv → applied ≡ replica.history.now.ops → IsMissingOf N k.deps applied ids
    → ids ≡ missing_ids (slice_get N p) i
missing_found N r p replica i k recv applied ids has found is ops m =
    let A : State = has.at in
    let kept : op_of i (map stored_op A.recv) ≡ Some k = sym (found ∙ ap (op_of i) (is ∙ ap (λ (S : State). S.recv) has.kept)) in
    let x = kept_found i A.recv k kept in
    let deps : k.deps ≡ covered x.0.deps = ap (λ (o : Op). o.deps) x.2 in
    let all : applied ≡ covered A.ops = ops ∙ ap (λ (S : State). S.ops) has.kept in
    missing_is N r p A has.there x.0 i ids x.1 m.rises
    (λ j. m.each j
    ∙ ap (λ (s : List Id). has_id j (made_ids N) && (has_id j s && not (has_id j applied))) deps
    ∙ ap (λ (s : List Id). has_id j (made_ids N) && (has_id j (covered x.0.deps) && not (has_id j s))) all)
    ∙ ap (λ (o : Option Op). without (deps_of o) A.ops) (sym x.1)
    ∙ ap (λ (S : Option State). missing_ids S i) (sym has.there)

pub missing_none : (N : List State) (p : ℕ) (replica : ReplicaHistory) (i : Id) (recv : List Op) → HasReplica N p replica → None ≡ op_of i recv → recv ≡ replica.history.now.recv → missing_ids (slice_get N p) i ≡ []
missing_none N p replica i recv has none is =
    let A : State = has.at in
    let kept : op_of i (map stored_op A.recv) ≡ None = sym (none ∙ ap (op_of i) (is ∙ ap (λ (S : State). S.recv) has.kept)) in
    ap (λ (S : Option State). missing_ids S i) has.there ∙ ap (λ (o : Option Op). without (deps_of o) A.ops) (kept_absent i A.recv kept)

-- whether a replica offers the operation
pub offers_tell : (N : List State) (p : ℕ) (replica : ReplicaHistory) (A : State) (i : Id) (sent : List Op) (b : Bool) → HasReplica N p replica → slice_get N p ≡ Some A → sent ≡ replica.history.now.send → b ≡ has_id i (identifiers sent) → b ≡ has_id i (identifiers A.send)
offers_tell N p replica A i sent b has there is e =
    let same : has.at ≡ A = same_Some has.at A (sym has.there ∙ there) in
    e
    ∙ ap (λ (os : List Op). has_id i (identifiers os)) (is ∙ ap (λ (S : State). S.send) has.kept)
    ∙ ap (has_id i) (kept_ids has.at.send)
    ∙ ap (λ (S : State). has_id i (identifiers S.send)) same

pub name_tells : (names : List (List ℕ)) (p : ℕ) (i : Id) (A : State) (b : Bool) → b ≡ has_id i (identifiers A.send) → name_tokens names p i A ≡ cond b (T.string (name_at names p) ∷ []) []
name_tells names p i A b e = ap (λ x. cond x (T.string (name_at names p) ∷ []) []) (sym e)

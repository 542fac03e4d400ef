-- Lemmas about Can: which events can be made in the state that is represented.
use Rattle.std.proofs.Common.{◌≡◌, ◌≢◌, ◌⊎◌, inl, inr, ℕ, List, ◌∷◌, Option, Some, None, IfSome, IsSome, Bool, true, false, IsTrue, IsFalse, Result, Ok, Err, IfOk, refl, sym, ◌∙◌, ap, subst}
use Rattle.std.specs.declared.alloc.AllocError.{AllocError}
use Rattle.jc_rules.specs.declared.id.Id.{Id}
use Rattle.jc_rules.specs.declared.operation.Event.{Event}
use Rattle.jc_rules.specs.declared.operation.Event.TheVariants as E
use Rattle.jc_rules.specs.declared.operation.Op.{Op}
use Rattle.jc_rules.specs.declared.refusal.Refusal.TheVariants as F
use Rattle.jc_rules.specs.Context.{Context}
use Rattle.jc_rules.specs.Derivation.{Run, Evaluate, Operate, ToBound}
use Rattle.jc_rules.specs.Refused.{Cause, because, Refused, IsAnswered, not_acted}
use Rattle.jc_rules.specs.State.{State, Bound}
use Rattle.jc_rules.specs.Syntax.{Cmd, LetIn, SetTo, InsertAfter, DeleteAt, Yield}
use Rattle.jc_rules.specs.Table.{op_of}
use Rattle.jc_rules.specs.Trace.{Rows}
use Rattle.jc_apply.specs.Fits.{EachOp}
use Rattle.jc_vectors.specs.OperationIds.{with_deps}
use Rattle.jc_vectors.specs.StoredStates.{new_op}
use Rattle.jc_vectors.proofs.ApplyStandsLemmas.{kept_found}
use Rattle.jc_replica.specs.declared.fault.ReplicaFault.{ReplicaFault}
use Rattle.jc_replica.specs.Answers.{fault_cause_of, RefusedFor, IsEventRefused}
use Rattle.jc_replica.specs.Can.{CanOccur, MayRead}
use Rattle.jc_replica.specs.NextCommand.{MakesOp, Binds, IsMaking, mutation_by, expr_by}
use Rattle.jc_replica.specs.ReplicaHistory.{ReplicaHistory}
use Rattle.jc_replica.specs.MayApply.{TakesOp}
use Rattle.jc_replica.proofs.NextCommandSeenLemmas.{not_yield, refused_made}
use Rattle.jc_replica.proofs.PassesLemmas.{IsFree, IsOpen, IsMakable, answered_free, unrefused}
use Rattle.jc_replica.proofs.RefinesLemmas.{left_seen, has_seen, acted_seen}
use Rattle.jc_replica.proofs.MayApplyLemmas.{stood_for, refused_taken}

-- refused for a cause
cause_there : (x : Option Cause) → IsSome x → (P : Cause → Type 0) → IfSome x P → (why : Cause) × P why
cause_there None s P h = cc
cause_there (Some why) s P h = (why, h)

-- An event can't be made that is refused whatever it may read.
pub cannot_occur : (event : Event) (now : ReplicaHistory) (fault : ReplicaFault) → ((read : List Op) → MayRead event read → IsEventRefused event read now fault) → (r : Result Bool AllocError) → IfOk r (λ b. IsFalse b × IsSome (fault_cause_of fault)) → IfOk r (λ b. CanOccur event now b)
cannot_occur event now fault h (Err e) t = tt
cannot_occur event now fault h (Ok b) t = subst (CanOccur event now) (sym t.0) (λ set os read A may stands of.
    let w = cause_there (fault_cause_of fault) t.1 (RefusedFor event read now) (h read may) in
    (w.0, w.1 set os A stands of))

-- commands

open_run : (p : ℕ) (A : State) (c : Cmd) → IsMaking c → IsMakable p A (expr_by c) (mutation_by c) → IsOpen (Run p A c)
open_run p A (SetTo e v) making h = h
open_run p A (InsertAfter e v) making h = h
open_run p A (DeleteAt e) making h = h
open_run p A (LetIn x e) making h = absurd making
open_run p A Yield making h = absurd making

pub can_bind : (now : ReplicaHistory) (x : List ℕ) (b : Bound) (t u : Rows) → Binds now.history.now x b t u → CanOccur (E.Exec now.number) now true
can_bind now x b t u m = λ set os read A why may stands of r.
    let d = m.evaluates A (has_seen set A now.history.now stands) in
    let s : IsAnswered (Evaluate A m.next.expr) (ToBound b) = record { derivation = d.derivation; holds = d.holds; concludes = d.concludes } in
    let free : IsFree (Run now.number A (LetIn m.next.name m.next.expr)) = λ w k. unrefused k (answered_free (Evaluate A m.next.expr) (ToBound b) s) in
    let other : LetIn m.next.name m.next.expr ≢ Yield = λ e. cc in
    unrefused r (LetIn m.next.name m.next.expr, m.next.rest, left_seen set A now.history.now stands ∙ m.next.next, other, free)

module _ (now : ReplicaHistory) (o : Op) (t u : Rows) (m : MakesOp now.history.now now.number o t u) where
  at_cursor : o.cursor ≡ m.cursor
  at_cursor = ap (λ (x : Op). x.cursor) m.is

  does : o.mutation ≡ mutation_by m.next.command
  does = ap (λ (x : Op). x.mutation) m.is

  can_make : EachOp o.cursor o.mutation (λ x. IsFree (Operate now.history.now.tree x)) → CanOccur (E.Exec now.number) now true
  can_make each = λ set os read A why may stands of r.
      let p = now.number in
      let c = m.next.command in
      let d = m.evaluates A (has_seen set A now.history.now stands) in
      let a = new_op p A.ops m.cursor (mutation_by c) in
      let tree : now.history.now.tree ≡ A.tree = ap (λ (S : State). S.tree) stands.is in
      let free : IsFree (Operate A.tree a) = subst (λ (x : Context). IsFree (Operate x a)) tree (each a (sym at_cursor) (sym does)) in
      let makable : IsMakable p A (expr_by c) (mutation_by c) = record { cursor = m.cursor; answered = record { derivation = d.derivation; holds = d.holds; concludes = d.concludes }; free = free } in
      let run : IsFree (Run p A c) = λ w k. unrefused k (open_run p A c m.next.makes makable) in
      unrefused r (c, m.next.rest, left_seen set A now.history.now stands ∙ m.next.next, not_yield c m.next.makes, run)

  cannot_make : EachOp o.cursor o.mutation (λ x. Refused (Operate now.history.now.tree x) (because F.NotInList)) → CanOccur (E.Exec now.number) now false
  cannot_make each = λ set os read A may stands of.
      let c = m.next.command in
      let k = new_op now.number now.history.now.ops m.cursor (mutation_by c) in
      (because F.NotInList, refused_made set now.number A now.history.now stands c m.next.rest m.next.next m.next.makes os m.cursor _ _ (because F.NotInList) m.evaluates (λ deps. each (with_deps deps k) (sym at_cursor) (sym does)))

  pub can_make_where : (b : Bool) → (IsFalse b → EachOp o.cursor o.mutation (λ x. Refused (Operate now.history.now.tree x) (because F.NotInList))) → (IsTrue b → EachOp o.cursor o.mutation (λ x. IsFree (Operate now.history.now.tree x))) → CanOccur (E.Exec now.number) now b
  can_make_where true g h = can_make (h refl)
  can_make_where false g h = cannot_make (g refl)

-- received operations

module _ (now : ReplicaHistory) (i : Id) (k : Op) (takes : TakesOp now.history.now i k) where
  can_take : EachOp k.cursor k.mutation (λ x. IsFree (Operate now.history.now.tree x)) → CanOccur (E.Apply now.number i) now true
  can_take each = λ set os read A why may stands of r.
      let x = stood_for set now.number A now.history.now stands i k takes.received in
      let o = x.operation in
      let tree : now.history.now.tree ≡ A.tree = ap (λ (S : State). S.tree) stands.is in
      let free : IsFree (Operate A.tree o) = subst (λ (c : Context). IsFree (Operate c o)) tree (each o (sym (ap (λ (e : Op). e.cursor) x.is)) (sym (ap (λ (e : Op). e.mutation) x.is))) in
      unrefused r (takes.rest, left_seen set A now.history.now stands ∙ takes.yields, o, x.found, sym x.applied ∙ takes.new, x.deps.0 takes.deps, free)

  cannot_take : EachOp k.cursor k.mutation (λ x. Refused (Operate now.history.now.tree x) (because F.NotInList)) → CanOccur (E.Apply now.number i) now false
  cannot_take each = λ set os read A may stands of.
      (because F.NotInList, refused_taken set now.number A now.history.now stands i k os (because F.NotInList) takes (λ deps. each (with_deps deps k) refl refl))

  pub can_take_where : (b : Bool) → (IsFalse b → EachOp k.cursor k.mutation (λ x. Refused (Operate now.history.now.tree x) (because F.NotInList))) → (IsTrue b → EachOp k.cursor k.mutation (λ x. IsFree (Operate now.history.now.tree x))) → CanOccur (E.Apply now.number i) now b
  can_take_where true g h = can_take (h refl)
  can_take_where false g h = cannot_take (g refl)

-- at a yield

-- an event that sends or receives
abbrev pub IsReading : Event → Type 0
IsReading (E.Send p) = Unit {0}
IsReading (E.Recv p q) = Unit {0}
IsReading (E.Take p q i) = Unit {0}
IsReading _ = ⊥

pub is_reading : (event : Event) → ((p : ℕ) × (event ≡ E.Send p)) ⊎ (((p : ℕ) × (q : ℕ) × (event ≡ E.Recv p q)) ⊎ ((p : ℕ) × (q : ℕ) × (i : Id) × (event ≡ E.Take p q i))) → IsReading event
is_reading event (inl (p, e)) = subst IsReading (sym e) tt
is_reading event (inr (inl (p, q, e))) = subst IsReading (sym e) tt
is_reading event (inr (inr (p, q, i, e))) = subst IsReading (sym e) tt

is_some : {X : Type 0} (x : Option X) → IsSome x → (k : X) × (x ≡ Some k)
is_some None s = cc
is_some (Some k) s = (k, refl)

pub can_read : (now : ReplicaHistory) (event : Event) (rest : List Cmd) → now.history.now.left ≡ Yield ∷ rest → IsReading event → CanOccur event now true
can_read now (E.Send p) rest l y = λ set os read A why may stands of r. unrefused r (rest, left_seen set A now.history.now stands ∙ l)
can_read now (E.Recv p q) rest l y = λ set os read A why may stands of r. unrefused r (rest, left_seen set A now.history.now stands ∙ l)
can_read now (E.Take p q i) rest l y = λ set os read A why may stands of r.
    let k = is_some (op_of i read) may in
    let x = kept_found i os k.0 (ap (op_of i) (sym of.is) ∙ k.1) in
    unrefused r (rest, left_seen set A now.history.now stands ∙ l, x.0, x.1)
can_read now (E.Exec p) rest l y = absurd y
can_read now (E.Apply p i) rest l y = absurd y
can_read now (E.Done p) rest l y = absurd y

-- the end of a yield

can_end : (now : ReplicaHistory) (p : ℕ) (rest : List Cmd) → now.history.now.left ≡ Yield ∷ rest → now.history.now.acted ≡ true → CanOccur (E.Done p) now true
can_end now p rest l a = λ set os read A why may stands of r. unrefused r (rest, left_seen set A now.history.now stands ∙ l, acted_seen set A now.history.now stands ∙ a)

cannot_end : (now : ReplicaHistory) (p : ℕ) (rest : List Cmd) → now.history.now.left ≡ Yield ∷ rest → now.history.now.acted ≡ false → CanOccur (E.Done p) now false
cannot_end now p rest l a = λ set os read A may stands of. (because F.NotActed, not_acted (left_seen set A now.history.now stands ∙ l) (acted_seen set A now.history.now stands ∙ a))

pub can_end_where : (now : ReplicaHistory) (p : ℕ) (rest : List Cmd) → now.history.now.left ≡ Yield ∷ rest → (b : Bool) → now.history.now.acted ≡ b → CanOccur (E.Done p) now b
can_end_where now p rest l true a = can_end now p rest l a
can_end_where now p rest l false a = cannot_end now p rest l a

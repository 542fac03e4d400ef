-- Lemmas about NextCommand: commands that make operations, in the state that is represented.
use Rattle.std.proofs.Common.{◌≡◌, ◌≢◌, ℕ, ◌+◌, List, ◌∷◌, Some, refl, ◌∙◌, ap, subst}
use Rattle.jc_rules.specs.declared.id.Id.{Id}
use Rattle.jc_rules.specs.declared.operation.Cursor.{Cursor}
use Rattle.jc_rules.specs.declared.operation.Event.TheVariants as E
use Rattle.jc_rules.specs.declared.operation.Mutation.{Mutation}
use Rattle.jc_rules.specs.declared.operation.Op.{Op}
use Rattle.jc_rules.specs.declared.refusal.Refusal.TheVariants as F
use Rattle.jc_rules.specs.declared.rule.Rule.{Rule}
use Rattle.jc_rules.specs.declared.rule.Rule.TheVariants as R
use Rattle.jc_rules.specs.Context.{Context}
use Rattle.jc_rules.specs.Derivation.{Occur, Run, Evaluate, Make, ApplyOp, Operate, ToState, ToBound, ToContext, Answer, Judgement}
use Rattle.jc_rules.specs.Derives.{Derives}
use Rattle.jc_rules.specs.Ids.{greatest}
use Rattle.jc_rules.specs.Refused.{Cause, because, Refused, IsCursor, WantsCursor, first_expr, made_by, in_command, in_first, in_making, in_made, in_applied, not_a_cursor}
use Rattle.jc_rules.specs.Representation.{Represents}
use Rattle.jc_rules.specs.State.{State, Bound, ACursor}
use Rattle.jc_rules.specs.Syntax.{Expr, Cmd, LetIn, SetTo, InsertAfter, DeleteAt, Yield}
use Rattle.jc_rules.specs.Table.{Follows, IsMake}
use Rattle.jc_rules.specs.Trace.{Rows, at_depth}
use Rattle.jc_rules.proofs.RepresentationLemmas.{greatest_stands}
use Rattle.jc_rules.proofs.DerivesLemmas.{one_premise, two_premises}
use Rattle.jc_cursor.specs.Evaluates.{Evaluates, IsEvalRefused}
use Rattle.jc_vectors.specs.OperationIds.{with_deps}
use Rattle.jc_vectors.specs.StoredStates.{new_op, after_making, after_making_stored, stored_state, RepresentsState, HasOwn}
use Rattle.jc_vectors.proofs.MakeStandsLemmas.{make_stands}
use Rattle.jc_replica.specs.ReplicaHistory.{no_rows}
use Rattle.jc_replica.specs.NextCommand.{MakesOp, MakesNext, BindsNext, IsMaking, IsLet, opened, rule_by, expr_by, mutation_by}
use Rattle.jc_replica.specs.Refines.{LeadsReplica}
use Rattle.jc_replica.proofs.RefinesLemmas.{left_seen, has_seen}

-- a command that makes an operation
pub not_yield : (c : Cmd) → IsMaking c → c ≢ Yield
not_yield c m e = subst IsMaking e m

follows_make : (p : ℕ) (A : State) (c : Cmd) → IsMaking c → (a : Answer) (ps : List Judgement) → IsMake p A (expr_by c) (mutation_by c) a ps → Follows (rule_by c) (Run p A c) a ps
follows_make p A (SetTo e v) m a ps h = h
follows_make p A (InsertAfter e v) m a ps h = h
follows_make p A (DeleteAt e) m a ps h = h
follows_make p A (LetIn x e) m a ps h = absurd m
follows_make p A Yield m a ps h = absurd m

first_is : (p : ℕ) (A : State) (c : Cmd) → IsMaking c → first_expr (Run p A c) ≡ Some (A, expr_by c)
first_is p A (SetTo e v) m = refl
first_is p A (InsertAfter e v) m = refl
first_is p A (DeleteAt e) m = refl
first_is p A (LetIn x e) m = absurd m
first_is p A Yield m = absurd m

wants_cursor : (p : ℕ) (A : State) (c : Cmd) → IsMaking c → WantsCursor (Run p A c)
wants_cursor p A (SetTo e v) m = tt
wants_cursor p A (InsertAfter e v) m = tt
wants_cursor p A (DeleteAt e) m = tt
wants_cursor p A (LetIn x e) m = absurd m
wants_cursor p A Yield m = absurd m

made_is : (c : Cmd) → IsMaking c → made_by c ≡ Some (expr_by c, mutation_by c)
made_is (LetIn x e) m = absurd m
made_is Yield m = absurd m
made_is _ m = refl

-- the event of such a command, from the derivation of its operation
executed : (A : State) (p : ℕ) (c : Cmd) (rest : List Cmd) (cursor : Cursor) (tree : Context) (os : List Op) (t between w : Rows) → A.left ≡ c ∷ rest → IsMaking c → Derives (Evaluate A (expr_by c)) (ToBound (ACursor cursor)) (opened (opened t R.Exec) (rule_by c)) between → Derives (Operate A.tree (new_op p A.ops cursor (mutation_by c))) (ToContext tree) (opened (opened between R.MakeOp) R.ApplyLocal) w → Derives (Occur A (E.Exec p) os) (ToState (record (after_making (new_op p A.ops cursor (mutation_by c)) tree A) { left = rest })) t (at_depth t.depth w)
executed A p c rest cursor tree os t between w l making de d1 =
    let m = mutation_by c in
    let o = new_op p A.ops cursor m in
    let B : State = after_making o tree A in
    let d2 : Derives (ApplyOp p A o) (ToState B) (opened between R.MakeOp) (at_depth (between.depth + 1) w) = one_premise R.ApplyLocal (ApplyOp p A o) (ToState B) (Operate A.tree o) (ToContext tree) (opened between R.MakeOp) w d1 (tree, refl, refl) in
    let d4 = one_premise R.MakeOp (Make p A cursor m) (ToState B) (ApplyOp p A o) (ToState B) between (at_depth (between.depth + 1) w) d2 (B, refl, refl) in
    let d5 = two_premises (rule_by c) (Run p A c) (ToState B) (Evaluate A (expr_by c)) (ToBound (ACursor cursor)) (Make p A cursor m) (ToState B) (opened t R.Exec) between (at_depth between.depth w) de d4 (follows_make p A c making _ _ (cursor, B, refl, refl)) in
    one_premise R.Exec (Occur A (E.Exec p) os) (ToState (record B { left = rest })) (Run p A c) (ToState B) t (at_depth (t.depth + 1) w) d5 (c, rest, B, l, not_yield c making, refl, refl)

pub leads_made : (set : List Op) (p : ℕ) (A K : State) → RepresentsState set A K → HasOwn set p A → (os : List Op) (o : Op) (tree : Context) (new : State) (u v w : Rows) → (m : MakesOp K p o no_rows u) → Derives (Operate K.tree o) (ToContext tree) u v → new ≡ record (after_making_stored o tree K) { left = m.next.rest } → w ≡ at_depth 0 v → LeadsReplica set (E.Exec p) p os A new w
leads_made set p A K stands own os o tree new u v w m d ne we =
    let c = m.next.command in
    let k = new_op p K.ops m.cursor (mutation_by c) in
    let a = new_op p A.ops m.cursor (mutation_by c) in
    let d0 : Derives (Operate K.tree k) (ToContext tree) (opened (opened m.between R.MakeOp) R.ApplyLocal) v = subst (λ (r : Rows). Derives (Operate K.tree k) (ToContext tree) r v) m.rows (subst (λ (x : Op). Derives (Operate K.tree x) (ToContext tree) u v) m.is d) in
    let all = make_stands set A K p m.cursor (mutation_by c) tree _ v stands own d0 in
    let after = all.2 in
    let B : State = record (after_making a tree A) { left = m.next.rest } in
    let is : new ≡ stored_state B = ne ∙ ap (λ (x : Op). record (after_making_stored x tree K) { left = m.next.rest }) m.is ∙ ap (λ (S : State). record S { left = m.next.rest }) after.is in
    record {
      now = B;
      made = Some a;
      derives = rw we (executed A p c m.next.rest m.cursor tree os no_rows m.between v (left_seen set A K stands ∙ m.next.next) m.next.makes (m.evaluates A (has_seen set A K stands)) all.1);
      stands = record { sound = after.sound; is = is; applied = after.applied; made = after.made; offered = after.offered; received = after.received; knows = after.knows };
      own = λ were. all.3;
      queue = refl;
      fresh = (all.0, refl);
    }

-- why it is refused
module _ (set : List Op) (p : ℕ) (A K : State) (stands : RepresentsState set A K) (c : Cmd) (rest : List Cmd) (l : K.left ≡ c ∷ rest) (making : IsMaking c) (os : List Op) where
  pub refused_first : (why : Cause) → IsEvalRefused K.tree K.vars (expr_by c) why → Refused (Occur A (E.Exec p) os) why
  refused_first why h = in_command (left_seen set A K stands ∙ l) (not_yield c making) (in_first (first_is p A c making) (h A (has_seen set A K stands)))

  pub refused_bound : (b : Bound) (t u : Rows) → Evaluates K.tree K.vars (expr_by c) b t u → (IsCursor b → ⊥) → Refused (Occur A (E.Exec p) os) (because F.NotACursor)
  refused_bound b t u h n =
      let d = h A (has_seen set A K stands) in
      in_command (left_seen set A K stands ∙ l) (not_yield c making) (not_a_cursor (first_is p A c making) (wants_cursor p A c making) (record { derivation = d.derivation; holds = d.holds; concludes = d.concludes }) n)

  pub refused_made : (cursor : Cursor) (t u : Rows) (why : Cause) → Evaluates K.tree K.vars (expr_by c) (ACursor cursor) t u → ((deps : List Id) → Refused (Operate K.tree (with_deps deps (new_op p K.ops cursor (mutation_by c)))) why) → Refused (Occur A (E.Exec p) os) why
  refused_made cursor t u why h r =
      let d = h A (has_seen set A K stands) in
      let for_ops : Represents set A.ops K.ops = record { sound = stands.sound; closed = stands.applied; is = ap (λ (S : State). S.ops) stands.is } in
      let tree : K.tree ≡ A.tree = ap (λ (S : State). S.tree) stands.is in
      let one : with_deps A.ops (new_op p K.ops cursor (mutation_by c)) ≡ new_op p A.ops cursor (mutation_by c) = ap (λ (n : ℕ). record { id = record { counter = n + 1; replica = p }; deps = A.ops; cursor = cursor; mutation = mutation_by c }) (greatest_stands set A.ops K.ops for_ops) in
      let s : Refused (Operate A.tree (new_op p A.ops cursor (mutation_by c))) why = subst (λ (x : Context). Refused (Operate x (new_op p A.ops cursor (mutation_by c))) why) tree (subst (λ (o : Op). Refused (Operate K.tree o) why) one (r A.ops)) in
      in_command (left_seen set A K stands ∙ l) (not_yield c making) (in_making (made_is c making) (record { derivation = d.derivation; holds = d.holds; concludes = d.concludes }) (in_made (in_applied s)))

-- what is said of a document and variables by other words
pub evaluated_in : {c d : Context} {vs ws : List (List ℕ × Bound)} {e f : Expr} {b : Bound} {t u : Rows} → c ≡ d → vs ≡ ws → e ≡ f → Evaluates c vs e b t u → Evaluates d ws f b t u
evaluated_in {c} {d} {vs} {ws} {e} {f} {b} {t} {u} ce ve ee h = subst (λ (x : Context). Evaluates x ws f b t u) ce (subst (λ (y : List (List ℕ × Bound)). Evaluates c y f b t u) ve (subst (λ (z : Expr). Evaluates c vs z b t u) ee h))

pub refused_in : {c d : Context} {vs ws : List (List ℕ × Bound)} {e f : Expr} {why : Cause} → c ≡ d → vs ≡ ws → e ≡ f → IsEvalRefused c vs e why → IsEvalRefused d ws f why
refused_in {c} {d} {vs} {ws} {e} {f} {why} ce ve ee h = subst (λ (x : Context). IsEvalRefused x ws f why) ce (subst (λ (y : List (List ℕ × Bound)). IsEvalRefused c y f why) ve (subst (λ (z : Expr). IsEvalRefused c vs z why) ee h))

-- the operation that the next command makes
pub makes : (K : State) (p q : ℕ) (next : MakesNext K.left) (cursor : Cursor) (mutation : Mutation) (most : ℕ) (deps : List Id) (r : Rule) (t t1 t2 t3 t4 t5 : Rows) → t1 ≡ opened t R.Exec → t2 ≡ opened t1 r → r ≡ rule_by next.command → Evaluates K.tree K.vars (expr_by next.command) (ACursor cursor) t2 t3 → t4 ≡ opened t3 R.MakeOp → t5 ≡ opened t4 R.ApplyLocal → most ≡ greatest K.ops → deps ≡ K.ops → mutation ≡ mutation_by next.command → q ≡ p → MakesOp K p (record { id = record { counter = most + 1; replica = q }; deps = deps; cursor = cursor; mutation = mutation }) t t5
makes K p q next cursor mutation most deps r t t1 t2 t3 t4 t5 e1 e2 re x e4 e5 me de ve qe =
    record {
      next = next;
      cursor = cursor;
      between = t3;
      evaluates = subst (λ (s : Rows). Evaluates K.tree K.vars (expr_by next.command) (ACursor cursor) s t3) (e2 ∙ ap (λ (s : Rule). opened t1 s) re ∙ ap (λ (s : Rows). opened s (rule_by next.command)) e1) x;
      is = rw (me, de, ve, qe) refl;
      rows = e5 ∙ ap (λ (s : Rows). opened s R.ApplyLocal) e4;
    }

-- which kind the next command is
pub binds_next : (left rest : List Cmd) (c : Cmd) → left ≡ c ∷ rest → IsLet c → BindsNext left
binds_next left rest (LetIn x e) l h = record { name = x; expr = e; rest = rest; next = l }
binds_next left rest _ l h = absurd h

pub makes_next : (left rest : List Cmd) (c : Cmd) → left ≡ c ∷ rest → c ≢ Yield → (IsLet c → ⊥) → MakesNext left
makes_next left rest (LetIn x e) l y h = absurd (h tt)
makes_next left rest (SetTo e v) l y h = record { command = SetTo e v; rest = rest; next = l; makes = tt }
makes_next left rest (InsertAfter e v) l y h = record { command = InsertAfter e v; rest = rest; next = l; makes = tt }
makes_next left rest (DeleteAt e) l y h = record { command = DeleteAt e; rest = rest; next = l; makes = tt }
makes_next left rest Yield l y h = absurd (y refl)

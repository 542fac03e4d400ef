-- Lemmas about one event: what it has done to its replica, read from its derivation.
use Rattle.std.proofs.Common.{◌≡◌, ℕ, ◌+◌, List, [], ◌∷◌, Some, true, false, refl, sym, ◌∙◌, ap, subst}
use Rattle.jc_rules.specs.declared.id.Id.{Id}
use Rattle.jc_rules.specs.declared.operation.Op.{Op}
use Rattle.jc_rules.specs.declared.operation.Cursor.{Cursor}
use Rattle.jc_rules.specs.declared.operation.Mutation.{Mutation}
use Rattle.jc_rules.specs.declared.operation.Mutation.TheVariants as M
use Rattle.jc_rules.specs.declared.operation.Event.{Event}
use Rattle.jc_rules.specs.declared.operation.Event.TheVariants as E
use Rattle.jc_rules.specs.declared.rule.Rule.{Rule}
use Rattle.jc_rules.specs.declared.rule.Rule.TheVariants as R
use Rattle.jc_rules.specs.Ids.{has_id, with_id, greatest, AreIn}
use Rattle.jc_rules.specs.Context.{Context}
use Rattle.jc_rules.specs.State.{State, Bound, ACursor}
use Rattle.jc_rules.specs.Syntax.{Expr, Cmd, LetIn, SetTo, InsertAfter, DeleteAt, Yield}
use Rattle.jc_rules.specs.Derivation.{Question, Occur, Run, Evaluate, Make, ApplyOp, Operate, Answer, ToState, ToBound, ToContext, Judgement, gives, Derivation, derive, Premises, conclusion, conclusions}
use Rattle.jc_rules.specs.Table.{Follows, Holds, AllHold, bind, op_of, with_op, both, IsMake}
use Rattle.jc_rules.specs.Refused.{IsAnswered}
use Rattle.jc_rules.proofs.RefusedLemmas.{first_is, second_is}

-- the operation that a replica makes
abbrev pub new_op : ℕ → State → Cursor → Mutation → Op
new_op p A cur m = record { id = record { counter = greatest A.ops + 1; replica = p }; deps = A.ops; cursor = cur; mutation = m }

pub data Did (A : State) (event : Event) (read : List Op) (B : State) : Type 0 where
  bound : (p : ℕ) (rest : List Cmd) (x : List ℕ) (e : Expr) (b : Bound) → event ≡ E.Exec p → A.left ≡ LetIn x e ∷ rest → IsAnswered (Evaluate A e) (ToBound b) → B ≡ record A { left = rest; vars = bind x b A.vars } → Did A event read B
  made : (p : ℕ) (rest : List Cmd) (c : Cmd) (e : Expr) (cur : Cursor) (m : Mutation) (t : Context) → event ≡ E.Exec p → A.left ≡ c ∷ rest → IsAnswered (Evaluate A e) (ToBound (ACursor cur)) → IsAnswered (Operate A.tree (new_op p A cur m)) (ToContext t) → B ≡ record A { left = rest; tree = t; queue = with_op (new_op p A cur m) A.queue; ops = with_id (record { counter = greatest A.ops + 1; replica = p }) A.ops } → Did A event read B
  sent : (p : ℕ) (rest : List Cmd) → event ≡ E.Send p → A.left ≡ Yield ∷ rest → B ≡ record A { acted = true; send = both A.send A.queue } → Did A event read B
  received : (p q : ℕ) (rest : List Cmd) → event ≡ E.Recv p q → A.left ≡ Yield ∷ rest → B ≡ record A { acted = true; recv = both A.recv read } → Did A event read B
  took : (p q : ℕ) (i : Id) (rest : List Cmd) (o : Op) → event ≡ E.Take p q i → A.left ≡ Yield ∷ rest → op_of i read ≡ Some o → B ≡ record A { acted = true; recv = both A.recv (o ∷ []) } → Did A event read B
  applied : (p : ℕ) (i : Id) (rest : List Cmd) (o : Op) (t : Context) → event ≡ E.Apply p i → A.left ≡ Yield ∷ rest → op_of i A.recv ≡ Some o → has_id i A.ops ≡ false → AreIn o.deps A.ops → IsAnswered (Operate A.tree o) (ToContext t) → B ≡ record A { acted = true; tree = t; ops = with_id i A.ops } → Did A event read B
  done : (p : ℕ) (rest : List Cmd) → event ≡ E.Done p → A.left ≡ Yield ∷ rest → B ≡ record A { left = rest; acted = false } → Did A event read B

-- the rule and the premises of an answer
record Rests (q : Question) (a : Answer) : Type 0 where
  rule : Rule
  premises : Premises
  follows : Follows rule q a (conclusions premises)
  hold : AllHold premises

abbrev Resting : Judgement → Type 0
Resting (gives q a) = Rests q a

rests : (q : Question) (a : Answer) → IsAnswered q a → Rests q a
rests q a s = go s.derivation s.holds s.concludes
  where
    go : (d : Derivation) → Holds d → conclusion d ≡ gives q a → Rests q a
    go (derive r (gives p b) ps) h e = subst Resting e (record { rule = r; premises = ps; follows = h.0; hold = h.1 })

same_state : (A B : State) → ToState A ≡ ToState B → A ≡ B
same_state A B e = cc

-- an operation is made and applied
record Makes (p : ℕ) (A : State) (cur : Cursor) (m : Mutation) (B : State) : Type 0 where
  tree : Context
  operates : IsAnswered (Operate A.tree (new_op p A cur m)) (ToContext tree)
  is : B ≡ record A { tree = tree; queue = with_op (new_op p A cur m) A.queue; ops = with_id (record { counter = greatest A.ops + 1; replica = p }) A.ops }

applies : (r : Rule) (p : ℕ) (A : State) (cur : Cursor) (m : Mutation) (B : State) (ps : Premises) → Follows r (ApplyOp p A (new_op p A cur m)) (ToState B) (conclusions ps) → AllHold ps → Makes p A cur m B
applies R.ApplyLocal p A cur m B ps (t, e, q) h = record { tree = t; operates = first_is _ _ [] ps h e; is = same_state _ _ q }
applies _ p A cur m B ps h hs = absurd h

makes : (r : Rule) (p : ℕ) (A : State) (cur : Cursor) (m : Mutation) (B : State) (ps : Premises) → Follows r (Make p A cur m) (ToState B) (conclusions ps) → AllHold ps → Makes p A cur m B
makes R.MakeOp p A cur m B ps (C, e, q) h =
    let inner : Rests (ApplyOp p A (new_op p A cur m)) (ToState C) = rests _ _ (first_is _ _ [] ps h e) in
    subst (λ (D : State). Makes p A cur m D) (sym (same_state _ _ q)) (applies inner.rule p A cur m C inner.premises inner.follows inner.hold)
makes _ p A cur m B ps h hs = absurd h

-- a command has bound a variable or made an operation
data Ran (p : ℕ) (A : State) (c : Cmd) (B : State) : Type 0 where
  ran_let : (x : List ℕ) (e : Expr) (b : Bound) → c ≡ LetIn x e → IsAnswered (Evaluate A e) (ToBound b) → B ≡ record A { vars = bind x b A.vars } → Ran p A c B
  ran_make : (e : Expr) (cur : Cursor) (m : Mutation) → IsAnswered (Evaluate A e) (ToBound (ACursor cur)) → Makes p A cur m B → Ran p A c B

is_make : (p : ℕ) (A : State) (c : Cmd) (e : Expr) (m : Mutation) (B : State) (ps : Premises) → IsMake p A e m (ToState B) (conclusions ps) → AllHold ps → Ran p A c B
is_make p A c e m B ps (cur, C, f, q) h =
    let inner : Rests (Make p A cur m) (ToState C) = rests _ _ (second_is _ _ _ [] ps h f) in
    ran_make e cur m (first_is _ _ _ ps h f) (subst (λ (D : State). Makes p A cur m D) (sym (same_state _ _ q)) (makes inner.rule p A cur m C inner.premises inner.follows inner.hold))

runs : (r : Rule) (p : ℕ) (A : State) (c : Cmd) (B : State) (ps : Premises) → Follows r (Run p A c) (ToState B) (conclusions ps) → AllHold ps → Ran p A c B
runs R.Let p A (LetIn x e) B ps (b, f, q) h = ran_let x e b refl (first_is _ _ [] ps h f) (same_state _ _ q)
runs R.MakeAssign p A (SetTo e v) B ps x h = is_make p A (SetTo e v) e (M.Assign v) B ps x h
runs R.MakeInsert p A (InsertAfter e v) B ps x h = is_make p A (InsertAfter e v) e (M.Insert v) B ps x h
runs R.MakeDelete p A (DeleteAt e) B ps x h = is_make p A (DeleteAt e) e M.Delete B ps x h
runs _ p A c B ps h hs = absurd h

with_left : (B C D : State) (rest : List Cmd) → B ≡ record C { left = rest } → C ≡ D → B ≡ record D { left = rest }
with_left B C D rest e f = e ∙ ap (λ (S : State). record S { left = rest }) f

occurs : (r : Rule) (A : State) (event : Event) (read : List Op) (B : State) (ps : Premises) → Follows r (Occur A event read) (ToState B) (conclusions ps) → AllHold ps → Did A event read B
occurs R.Exec A (E.Exec p) read B ps (c, rest, C, left, other, f, q) h =
    let inner : Rests (Run p A c) (ToState C) = rests _ _ (first_is _ _ [] ps h f) in
    go (runs inner.rule p A c C inner.premises inner.follows inner.hold)
  where
    go : Ran p A c C → Did A (E.Exec p) read B
    go (ran_let x e b s t is) = bound p rest x e b refl (left ∙ ap (λ y. y ∷ rest) s) t (with_left B C _ rest (same_state _ _ q) is)
    go (ran_make e cur m t k) = made p rest c e cur m k.tree refl left t k.operates (with_left B C _ rest (same_state _ _ q) k.is)
occurs R.Send A (E.Send p) read B ps (rest, left, f, q) h = sent p rest refl left (same_state _ _ q)
occurs R.Recv A (E.Recv p q) read B ps (rest, left, f, e) h = received p q rest refl left (same_state _ _ e)
occurs R.RecvOne A (E.Take p q i) read B ps (rest, o, left, found, f, e) h = took p q i rest o refl left found (same_state _ _ e)
occurs R.ApplyRemote A (E.Apply p i) read B ps (rest, o, t, left, there, new, deps, f, q) h = applied p i rest o t refl left there new deps (first_is _ _ [] ps h f) (same_state _ _ q)
occurs R.Done A (E.Done p) read B ps (rest, left, acted, f, q) h = done p rest refl left (same_state _ _ q)
occurs _ A event read B ps h hs = absurd h

-- what an event that led to a state has done
pub did : (A : State) (event : Event) (read : List Op) (B : State) → IsAnswered (Occur A event read) (ToState B) → Did A event read B
did A event read B s = let r : Rests (Occur A event read) (ToState B) = rests _ _ s in occurs r.rule A event read B r.premises r.follows r.hold

-- Why a question has no answer: the first numbered condition that fails in a rule for it, premises from left to right,
-- or the refusal of a premise, which is handed up.
use Rattle.std.specs.Prelude.{◌≡◌, ◌≢◌, ℕ, suc, ◌+◌, ◌≤◌, ◌<◌, List, [], ◌∷◌, ◌++◌, length, true, false, Option, Some, None, slice_get}
use Rattle.jc_rules.specs.declared.id.Id.{Id}
use Rattle.jc_rules.specs.declared.key.Key.TheVariants as K
use Rattle.jc_rules.specs.declared.key.Tagged.{Tagged}
use Rattle.jc_rules.specs.declared.key.Tagged.TheVariants.{MapT, ListT, RegT}
use Rattle.jc_rules.specs.declared.key.Next.TheVariants.{Elem as To}
use Rattle.jc_rules.specs.declared.operation.Mutation.{Mutation}
use Rattle.jc_rules.specs.declared.operation.Mutation.TheVariants as M
use Rattle.jc_rules.specs.declared.operation.Cursor.{Cursor}
use Rattle.jc_rules.specs.declared.operation.Op.{Op}
use Rattle.jc_rules.specs.declared.operation.Event.{Event}
use Rattle.jc_rules.specs.declared.operation.Event.TheVariants as E
use Rattle.jc_rules.specs.declared.value.Value.{Value}
use Rattle.jc_rules.specs.declared.refusal.Refusal.{Refusal}
use Rattle.jc_rules.specs.declared.refusal.Refusal.TheVariants as F
use Rattle.std.specs.declared.cmp.Ordering.TheVariants.{Less}
use Rattle.jc_rules.specs.Order.{id_cmp, name_cmp}
use Rattle.jc_rules.specs.Entries.{find}
use Rattle.jc_rules.specs.Ids.{has_id, greatest, AreIn}
use Rattle.jc_rules.specs.Context.{Context, Node, content, presence, next}
use Rattle.jc_rules.specs.Syntax.{Expr, Variable, GetKey, Index, KeysOf, ValuesOf, Cmd, LetIn, SetTo, InsertAfter, DeleteAt, Yield}
use Rattle.jc_rules.specs.State.{State, Bound, ACursor}
use Rattle.jc_rules.specs.Derivation.{Question, Occur, Run, Evaluate, SelectIndex, SelectKeys, SelectValues, Make, ApplyOp, Operate, Child, Answer, ToBound, ToContent, gives, Derivation, conclusion}
use Rattle.jc_rules.specs.Table.{Holds, cursor, moved, IsEmptyIds, op_of}
use Rattle.jc_rules.specs.Step.{replica_of, read_by, Network}
use Rattle.jc_rules.specs.Version.{Allows}

-- The refusal, and for a node that isn't there its tagged key. Only the refusals of rules and of replicas that aren't
-- there are ever derived: 20, 22 to 24, 26 to 37 and 39 by `because`, and 25 by `no_node` alone, never without its key. The
-- other numbers are those of texts and of other calls.
pub data Cause : Type 0 where
  because : Refusal → Cause
  no_node : Tagged → Cause

abbrev pub refusal_of : Cause → Refusal
refusal_of (because refusal) = refusal
refusal_of (no_node k) = F.NoSuchNode

-- a derivation gives the question this answer
pub record IsAnswered (q : Question) (a : Answer) : Type 0 where
  pub derivation : Derivation
  pub holds : Holds derivation
  pub concludes : conclusion derivation ≡ gives q a

abbrev pub IsCursor : Bound → Type 0
IsCursor (ACursor cur) = Unit {0}
IsCursor _ = ⊥

-- the events of a yield
abbrev pub IsYieldEvent : Event → Type 0
IsYieldEvent (E.Exec p) = ⊥
IsYieldEvent _ = Unit {0}

-- the expression that is evaluated first, in the rules LET, GET, IDX1, KEYS1, VAL1 and the three that make an operation
abbrev pub first_expr : Question → Option (State × Expr)
first_expr (Run p A (LetIn x e)) = Some (A, e)
first_expr (Run p A (SetTo e v)) = Some (A, e)
first_expr (Run p A (InsertAfter e v)) = Some (A, e)
first_expr (Run p A (DeleteAt e)) = Some (A, e)
first_expr (Evaluate A (GetKey e name)) = Some (A, e)
first_expr (Evaluate A (Index e i)) = Some (A, e)
first_expr (Evaluate A (KeysOf e)) = Some (A, e)
first_expr (Evaluate A (ValuesOf e)) = Some (A, e)
first_expr _ = None

-- whether what is evaluated first has to be a cursor: in all of them but LET
abbrev pub WantsCursor : Question → Type 0
WantsCursor (Run p A (LetIn x e)) = ⊥
WantsCursor _ = Unit {0}

-- the cursor's expression and the mutation of a command that makes an operation
abbrev pub made_by : Cmd → Option (Expr × Mutation)
made_by (SetTo e v) = Some (e, M.Assign v)
made_by (InsertAfter e v) = Some (e, M.Insert v)
made_by (DeleteAt e) = Some (e, M.Delete)
made_by _ = None

-- One constructor for each numbered condition, and one for each premise that hands up a refusal, each with all that
-- comes before it in its rule. The premises that aren't named here are never refused: children, presence sets,
-- clearing, and the assignment under INSERT1.
pub data Refused : Question → Cause → Type 0 where
  -- commands (EXEC)
  no_command : {A : State} {p : ℕ} {read : List Op}
      → A.left ≡ []
      → Refused (Occur A (E.Exec p) read) (because F.NoCommand)
  at_yield : {A : State} {p : ℕ} {read : List Op} {rest : List Cmd}
      → A.left ≡ Yield ∷ rest
      → Refused (Occur A (E.Exec p) read) (because F.AtYield)
  in_command : {A : State} {p : ℕ} {read : List Op} {c : Cmd} {rest : List Cmd} {why : Cause}
      → A.left ≡ c ∷ rest
      → c ≢ Yield
      → Refused (Run p A c) why
      → Refused (Occur A (E.Exec p) read) why
  -- events of a yield (SEND, RECV, RECV-ONE, APPLY-REMOTE, DONE)
  no_yield : {A : State} {event : Event} {read : List Op}
      → IsYieldEvent event
      → A.left ≡ []
      → Refused (Occur A event read) (because F.NoCommand)
  not_at_yield : {A : State} {event : Event} {read : List Op} {c : Cmd} {rest : List Cmd}
      → IsYieldEvent event
      → A.left ≡ c ∷ rest
      → c ≢ Yield
      → Refused (Occur A event read) (because F.NotAtYield)
  not_acted : {A : State} {p : ℕ} {read : List Op} {rest : List Cmd}
      → A.left ≡ Yield ∷ rest
      → A.acted ≡ false
      → Refused (Occur A (E.Done p) read) (because F.NotActed)
  not_received : {A : State} {p : ℕ} {i : Id} {read : List Op} {rest : List Cmd}
      → A.left ≡ Yield ∷ rest
      → op_of i A.recv ≡ None
      → Refused (Occur A (E.Apply p i) read) (because F.NotReceived)
  already_applied : {A : State} {p : ℕ} {i : Id} {read : List Op} {rest : List Cmd} {o : Op}
      → A.left ≡ Yield ∷ rest
      → op_of i A.recv ≡ Some o
      → has_id i A.ops ≡ true
      → Refused (Occur A (E.Apply p i) read) (because F.AlreadyApplied)
  deps_missing : {A : State} {p : ℕ} {i : Id} {read : List Op} {rest : List Cmd} {o : Op}
      → A.left ≡ Yield ∷ rest
      → op_of i A.recv ≡ Some o
      → has_id i A.ops ≡ false
      → (AreIn o.deps A.ops → ⊥)
      → Refused (Occur A (E.Apply p i) read) (because F.DepsMissing)
  in_received : {A : State} {p : ℕ} {i : Id} {read : List Op} {rest : List Cmd} {o : Op} {why : Cause}
      → A.left ≡ Yield ∷ rest
      → op_of i A.recv ≡ Some o
      → has_id i A.ops ≡ false
      → AreIn o.deps A.ops
      → Refused (Operate A.tree o) why
      → Refused (Occur A (E.Apply p i) read) why
  not_offered : {A : State} {p q : ℕ} {i : Id} {read : List Op} {rest : List Cmd}
      → A.left ≡ Yield ∷ rest
      → op_of i read ≡ None
      → Refused (Occur A (E.Take p q i) read) (because F.NotReceived)
  -- what is evaluated first
  in_first : {q : Question} {A : State} {e : Expr} {why : Cause}
      → first_expr q ≡ Some (A, e)
      → Refused (Evaluate A e) why
      → Refused q why
  not_a_cursor : {q : Question} {A : State} {e : Expr} {b : Bound}
      → first_expr q ≡ Some (A, e)
      → WantsCursor q
      → IsAnswered (Evaluate A e) (ToBound b)
      → (IsCursor b → ⊥)
      → Refused q (because F.NotACursor)
  -- making an operation (MAKE-ASSIGN, MAKE-INSERT, MAKE-DELETE, MAKE-OP, APPLY-LOCAL)
  in_making : {p : ℕ} {A : State} {c : Cmd} {e : Expr} {m : Mutation} {cur : Cursor} {why : Cause}
      → made_by c ≡ Some (e, m)
      → IsAnswered (Evaluate A e) (ToBound (ACursor cur))
      → Refused (Make p A cur m) why
      → Refused (Run p A c) why
  in_made : {p : ℕ} {A : State} {cur : Cursor} {m : Mutation} {why : Cause}
      → Refused (ApplyOp p A (record {
        id = record { counter = greatest A.ops + 1; replica = p };
        deps = A.ops;
        cursor = cur;
        mutation = m;
      })) why
      → Refused (Make p A cur m) why
  in_applied : {p : ℕ} {A : State} {o : Op} {why : Cause}
      → Refused (Operate A.tree o) why
      → Refused (ApplyOp p A o) why
  -- expressions (VAR, GET, IDX1, KEYS1, VAL1)
  unbound : {A : State} {x : List ℕ}
      → find name_cmp x A.vars ≡ None
      → Refused (Evaluate A (Variable x)) (because F.UnboundVariable)
  get_on_head : {A : State} {e : Expr} {name : List ℕ} {cur : Cursor}
      → IsAnswered (Evaluate A e) (ToBound (ACursor cur))
      → cur.last ≡ K.Head
      → Refused (Evaluate A (GetKey e name)) (because F.GetOnHead)
  get_too_deep : {A : State} {e : Expr} {name : List ℕ} {cur : Cursor}
      → IsAnswered (Evaluate A e) (ToBound (ACursor cur))
      → cur.last ≢ K.Head
      → 511 < length cur.path
      → Refused (Evaluate A (GetKey e name)) (because F.TooDeep)
  index_too_deep : {A : State} {e : Expr} {i : ℕ} {cur : Cursor}
      → IsAnswered (Evaluate A e) (ToBound (ACursor cur))
      → 511 < length cur.path
      → Refused (Evaluate A (Index e i)) (because F.TooDeep)
  in_index : {A : State} {e : Expr} {i : ℕ} {cur : Cursor} {why : Cause}
      → IsAnswered (Evaluate A e) (ToBound (ACursor cur))
      → length cur.path ≤ 511
      → Refused (SelectIndex A.tree (cursor (cur.path ++ ListT cur.last ∷ []) K.Head) i) why
      → Refused (Evaluate A (Index e i)) why
  in_keys : {A : State} {e : Expr} {cur : Cursor} {why : Cause}
      → IsAnswered (Evaluate A e) (ToBound (ACursor cur))
      → Refused (SelectKeys A.tree cur) why
      → Refused (Evaluate A (KeysOf e)) why
  in_values : {A : State} {e : Expr} {cur : Cursor} {why : Cause}
      → IsAnswered (Evaluate A e) (ToBound (ACursor cur))
      → Refused (SelectValues A.tree cur) why
      → Refused (Evaluate A (ValuesOf e)) why
  -- selections below a path (IDX2, KEYS3, VAL3)
  index_no_node : {c : Context} {cur : Cursor} {i : ℕ} {k : Tagged} {rest : List Tagged}
      → cur.path ≡ k ∷ rest
      → content k c ≡ None
      → Refused (SelectIndex c cur i) (no_node k)
  keys_no_node : {c : Context} {cur : Cursor} {k : Tagged} {rest : List Tagged}
      → cur.path ≡ k ∷ rest
      → content k c ≡ None
      → Refused (SelectKeys c cur) (no_node k)
  values_no_node : {c : Context} {cur : Cursor} {k : Tagged} {rest : List Tagged}
      → cur.path ≡ k ∷ rest
      → content k c ≡ None
      → Refused (SelectValues c cur) (no_node k)
  index_below : {c : Context} {cur : Cursor} {i : ℕ} {k : Tagged} {rest : List Tagged} {d : Context} {why : Cause}
      → cur.path ≡ k ∷ rest
      → content k c ≡ Some (Node d)
      → Refused (SelectIndex d (cursor rest cur.last) i) why
      → Refused (SelectIndex c cur i) why
  keys_below : {c : Context} {cur : Cursor} {k : Tagged} {rest : List Tagged} {d : Context} {why : Cause}
      → cur.path ≡ k ∷ rest
      → content k c ≡ Some (Node d)
      → Refused (SelectKeys d (cursor rest cur.last)) why
      → Refused (SelectKeys c cur) why
  values_below : {c : Context} {cur : Cursor} {k : Tagged} {rest : List Tagged} {d : Context} {why : Cause}
      → cur.path ≡ k ∷ rest
      → content k c ≡ Some (Node d)
      → Refused (SelectValues d (cursor rest cur.last)) why
      → Refused (SelectValues c cur) why
  -- selections at the end of the path (IDX3, IDX4, KEYS2, VAL2)
  past_end : {c : Context} {cur : Cursor} {i : ℕ}
      → cur.path ≡ []
      → ((j : Id) → next cur.last c ≢ Some (To j))
      → Refused (SelectIndex c cur (suc i)) (because F.PastEnd)
  in_counted : {c : Context} {cur : Cursor} {i : ℕ} {j : Id} {why : Cause}
      → cur.path ≡ []
      → next cur.last c ≡ Some (To j)
      → (IsEmptyIds (presence (K.Elem j) c) → ⊥)
      → Refused (SelectIndex c (cursor [] (K.Elem j)) i) why
      → Refused (SelectIndex c cur (suc i)) why
  in_passed : {c : Context} {cur : Cursor} {i : ℕ} {j : Id} {why : Cause}
      → cur.path ≡ []
      → next cur.last c ≡ Some (To j)
      → IsEmptyIds (presence (K.Elem j) c)
      → Refused (SelectIndex c (cursor [] (K.Elem j)) (suc i)) why
      → Refused (SelectIndex c cur (suc i)) why
  no_map : {c : Context} {cur : Cursor}
      → cur.path ≡ []
      → content (MapT cur.last) c ≡ None
      → Refused (SelectKeys c cur) (because F.NoMap)
  no_register : {c : Context} {cur : Cursor}
      → cur.path ≡ []
      → content (RegT cur.last) c ≡ None
      → Refused (SelectValues c cur) (because F.NoRegister)
  -- operations (DESCEND, INSERT1, INSERT2)
  operate_below : {c : Context} {o : Op} {k : Tagged} {rest : List Tagged} {d : Context} {why : Cause}
      → o.cursor.path ≡ k ∷ rest
      → IsAnswered (Child c k) (ToContent (Node d))
      → Refused (Operate d (moved o rest o.cursor.last o.mutation)) why
      → Refused (Operate c o) why
  not_in_list : {c : Context} {o : Op} {v : Value}
      → o.cursor.path ≡ []
      → o.mutation ≡ M.Insert v
      → next o.cursor.last c ≡ None
      → Refused (Operate c o) (because F.NotInList)
  insert_later : {c : Context} {o : Op} {v : Value} {n : Id} {why : Cause}
      → o.cursor.path ≡ []
      → o.mutation ≡ M.Insert v
      → next o.cursor.last c ≡ Some (To n)
      → id_cmp o.id n ≡ Less
      → Refused (Operate c (moved o [] (K.Elem n) o.mutation)) why
      → Refused (Operate c o) why

-- The event can't be made in the network: a replica that it names is missing, or its question is refused.
pub data IsStuck : List State → Event → Cause → Type 0 where
  no_replica : {network : List State} {event : Event}
      → slice_get network (replica_of event) ≡ None
      → IsStuck network event (because F.NoSuchReplica)
  no_sender : {network : List State} {event : Event}
      → read_by event network ≡ None
      → IsStuck network event (because F.NoSuchReplica)
  refused : {network : List State} {event : Event} {A : State} {read : List Op} {why : Cause}
      → slice_get network (replica_of event) ≡ Some A
      → read_by event network ≡ Some read
      → Refused (Occur A event read) why
      → IsStuck network event why

-- The same in a network of some version: first that a replica is missing, then that the version has no such event, then
-- what its question is refused for.
pub data IsStuckIn : Network → Event → Cause → Type 0 where
  replica_missing : {network : Network} {event : Event}
      → slice_get network.states (replica_of event) ≡ None
      → IsStuckIn network event (because F.NoSuchReplica)
  sender_missing : {network : Network} {event : Event}
      → read_by event network.states ≡ None
      → IsStuckIn network event (because F.NoSuchReplica)
  wrong_version : {network : Network} {event : Event} {A : State} {read : List Op}
      → slice_get network.states (replica_of event) ≡ Some A
      → read_by event network.states ≡ Some read
      → (Allows event network.version → ⊥)
      → IsStuckIn network event (because F.WrongVersion)
  question_refused : {network : Network} {event : Event} {A : State} {read : List Op} {why : Cause}
      → slice_get network.states (replica_of event) ≡ Some A
      → read_by event network.states ≡ Some read
      → Allows event network.version
      → Refused (Occur A event read) why
      → IsStuckIn network event why

-- The table of rules: one clause for each rule, with its premises in the order in which they are tried.
use Rattle.std.specs.Prelude.{◌≡◌, ◌≢◌, ℕ, zero, suc, ◌+◌, ◌≤◌, List, [], ◌∷◌, ◌++◌, length, Bool, true, false, not, cond, Option, Some, None, filter, filter_map}
use Rattle.std.specs.Ordering.{match_ordering}
use Rattle.std.specs.declared.cmp.Ordering.TheVariants.{Less, Greater}
use Rattle.jc_rules.specs.declared.id.Id.{Id}
use Rattle.jc_rules.specs.declared.key.Key.{Key}
use Rattle.jc_rules.specs.declared.key.Key.TheVariants as K
use Rattle.jc_rules.specs.declared.key.Tagged.{Tagged}
use Rattle.jc_rules.specs.declared.key.Tagged.TheVariants.{MapT, ListT, RegT}
use Rattle.jc_rules.specs.declared.key.Next.{Next}
use Rattle.jc_rules.specs.declared.key.Next.TheVariants.{Tail, Elem as To}
use Rattle.jc_rules.specs.declared.operation.Mutation.{Mutation}
use Rattle.jc_rules.specs.declared.operation.Mutation.TheVariants as M
use Rattle.jc_rules.specs.declared.operation.Cursor.{Cursor}
use Rattle.jc_rules.specs.declared.operation.Op.{Op}
use Rattle.jc_rules.specs.declared.operation.Event.TheVariants as E
use Rattle.jc_rules.specs.declared.rule.Rule.{Rule}
use Rattle.jc_rules.specs.declared.rule.Rule.TheVariants as R
use Rattle.jc_rules.specs.declared.value.Value.{Value}
use Rattle.jc_rules.specs.declared.value.Value.TheVariants as V
use Rattle.jc_rules.specs.Order.{id_cmp, key_cmp, name_cmp, same_id, same_key}
use Rattle.jc_rules.specs.Entries.{find, put, keys_of}
use Rattle.jc_rules.specs.Ids.{has_id, with_id, union, without, greatest, AreIn}
use Rattle.jc_rules.specs.Context.{Context, Content, Node, Values, Register, IsPrimitive, content, with_content, new_content, presence, with_presence, next, with_next, key_of_tagged, keys, presences}
use Rattle.jc_rules.specs.Syntax.{Expr, TheDoc, Variable, GetKey, Index, KeysOf, ValuesOf, Cmd, LetIn, SetTo, InsertAfter, DeleteAt, Yield}
use Rattle.jc_rules.specs.State.{State, Bound, ACursor, Names, Pairs}
use Rattle.jc_rules.specs.Derivation.{Question, Occur, Run, Evaluate, SelectIndex, SelectKeys, SelectValues, Make, ApplyOp, Operate, Child, AddId, Presence, Clear, ClearAny, ClearElem, ClearMap, ClearList, Answer, ToState, ToBound, ToCursor, ToNames, ToPairs, ToContext, ToContent, ToIds, Cleared, Judgement, gives, Derivation, derive, Premises, none, premise, conclusions}

abbrev pub cursor : List Tagged → Key → Cursor
cursor path k = record { path = path; last = k }

-- the operation at another cursor, with another mutation
abbrev pub moved : Op → List Tagged → Key → Mutation → Op
moved o path k m = record { id = o.id; deps = o.deps; cursor = cursor path k; mutation = m }

-- a presence set that is empty or absent
abbrev pub IsEmptyIds : Option (List Id) → Type 0
IsEmptyIds None = Unit {0}
IsEmptyIds (Some []) = Unit {0}
IsEmptyIds (Some (i ∷ is)) = ⊥

-- the list ends there, or goes on with a lesser identifier
abbrev pub IsBefore : Next → Id → Type 0
IsBefore Tail i = Unit {0}
IsBefore (To j) i = id_cmp i j ≡ Greater

abbrev pub bind : List ℕ → Bound → List (List ℕ × Bound) → List (List ℕ × Bound)
bind x b vars = put name_cmp x b vars

-- the pairs of a register whose identifier is not among the given ones
abbrev pub kept : List Id → Register → Register
kept deps r = filter (λ e. not (has_id e.0 deps)) r

abbrev pub is_done : List Key → Key → Bool
is_done [] k = false
is_done (j ∷ js) k = cond (same_key j k) true (is_done js k)

abbrev pub lesser : Key → Option Key → Option Key
lesser k None = Some k
lesser k (Some j) = match_ordering (key_cmp k j) (Some k) (Some k) (Some j)

abbrev pub least : List Key → Option Key
least [] = None
least (k ∷ ks) = lesser k (least ks)

-- the least key with a tag in the context that is not done
abbrev pub least_left : List Key → Context → Option Key
least_left done c = least (filter (λ k. not (is_done done k)) (keys c))

-- a name whose presence set is not empty
abbrev pub name_in_presence : (Key × List Id) → Option (List ℕ)
name_in_presence ((K.Name s), (i ∷ is)) = Some s
name_in_presence _ = None

abbrev pub names_in : Context → List (List ℕ)
names_in c = filter_map name_in_presence (presences c)

-- the operation with the identifier
abbrev pub op_of : Id → List Op → Option Op
op_of i [] = None
op_of i (o ∷ os) = cond (same_id i o.id) (Some o) (op_of i os)

abbrev pub with_op : Op → List Op → List Op
with_op o [] = o ∷ []
with_op o (p ∷ ps) = match_ordering (id_cmp o.id p.id) (o ∷ p ∷ ps) (p ∷ ps) (p ∷ with_op o ps)

-- the operations of both, those of the first where both have one
abbrev pub both : List Op → List Op → List Op
both os [] = os
both os (p ∷ ps) = with_op p (both os ps)

-- the key that a list goes on with, if it doesn't end
abbrev pub after : Next → Option Key
after Tail = None
after (To i) = Some (K.Elem i)

-- a command that makes an operation: the cursor's expression and the mutation
abbrev pub IsMake : ℕ → State → Expr → Mutation → Answer → List Judgement → Type 0
IsMake p A e m a ps =
    (cur : Cursor) × (B : State)
    × (ps ≡ gives (Evaluate A e) (ToBound (ACursor cur))
    ∷ gives (Make p A cur m) (ToState B)
    ∷ [])
    × (a ≡ ToState B)

-- The fifty rules of version 1.
-- FollowsFifty rule question answer premises: the rule concludes the answer from the premises.
-- In each clause what the question leaves unknown is named first. Then come the conditions, one a line, in the order in
-- which they are tried, and together in ps the judgements from which the rule concludes. The last line is the answer.
abbrev pub FollowsFifty : Rule → Question → Answer → List Judgement → Type 0
-- Commands and expressions
FollowsFifty R.Exec (Occur A (E.Exec p) _) a ps =
    (c : Cmd) × (rest : List Cmd) × (B : State)
    × (A.left ≡ c ∷ rest)
    × (c ≢ Yield)
    × (ps ≡ gives (Run p A c) (ToState B) ∷ [])
    × (a ≡ ToState (record B { left = rest }))
FollowsFifty R.Let (Run p A (LetIn x e)) a ps =
    (b : Bound)
    × (ps ≡ gives (Evaluate A e) (ToBound b) ∷ [])
    × (a ≡ ToState (record A { vars = bind x b A.vars }))
FollowsFifty R.Var (Evaluate A (Variable x)) a ps =
    (b : Bound)
    × (find name_cmp x A.vars ≡ Some b)
    × (ps ≡ [])
    × (a ≡ ToBound b)
FollowsFifty R.Doc (Evaluate A TheDoc) a ps =
    (ps ≡ [])
    × (a ≡ ToBound (ACursor (cursor [] K.Doc)))
FollowsFifty R.Get (Evaluate A (GetKey e name)) a ps =
    (cur : Cursor)
    × (ps ≡ gives (Evaluate A e) (ToBound (ACursor cur)) ∷ [])
    × (cur.last ≢ K.Head)
    × (length cur.path ≤ 511)
    × (a ≡ ToBound (ACursor (cursor (cur.path ++ MapT cur.last ∷ []) (K.Name name))))
FollowsFifty R.Idx1 (Evaluate A (Index e i)) a ps =
    (cur : Cursor) × (new : Cursor)
    × (length cur.path ≤ 511)
    × (ps ≡ gives (Evaluate A e) (ToBound (ACursor cur))
    ∷ gives (SelectIndex A.tree (cursor (cur.path ++ ListT cur.last ∷ []) K.Head) i) (ToCursor new)
    ∷ [])
    × (a ≡ ToBound (ACursor new))
FollowsFifty R.Idx2 (SelectIndex c cur i) a ps =
    (k1 : Tagged) × (rest : List Tagged) × (d : Context) × (new : Cursor)
    × (cur.path ≡ k1 ∷ rest)
    × (content k1 c ≡ Some (Node d))
    × (new.path ≡ rest)
    × (ps ≡ gives (SelectIndex d (cursor rest cur.last) i) (ToCursor new) ∷ [])
    × (a ≡ ToCursor (cursor cur.path new.last))
FollowsFifty R.Idx3 (SelectIndex c cur (suc i)) a ps =
    (j : Id) × (new : Cursor)
    × (cur.path ≡ [])
    × (next cur.last c ≡ Some (To j))
    × (IsEmptyIds (presence (K.Elem j) c) → ⊥)
    × (ps ≡ gives (SelectIndex c (cursor [] (K.Elem j)) i) (ToCursor new) ∷ [])
    × (a ≡ ToCursor new)
FollowsFifty R.Idx4 (SelectIndex c cur (suc i)) a ps =
    (j : Id) × (new : Cursor)
    × (cur.path ≡ [])
    × (next cur.last c ≡ Some (To j))
    × IsEmptyIds (presence (K.Elem j) c)
    × (ps ≡ gives (SelectIndex c (cursor [] (K.Elem j)) (suc i)) (ToCursor new) ∷ [])
    × (a ≡ ToCursor new)
FollowsFifty R.Idx5 (SelectIndex c cur zero) a ps =
    (cur.path ≡ [])
    × (ps ≡ [])
    × (a ≡ ToCursor (cursor [] cur.last))
FollowsFifty R.Keys1 (Evaluate A (KeysOf e)) a ps =
    (cur : Cursor) × (ks : List (List ℕ))
    × (ps ≡ gives (Evaluate A e) (ToBound (ACursor cur))
    ∷ gives (SelectKeys A.tree cur) (ToNames ks)
    ∷ [])
    × (a ≡ ToBound (Names ks))
FollowsFifty R.Keys2 (SelectKeys c cur) a ps =
    (d : Context)
    × (cur.path ≡ [])
    × (content (MapT cur.last) c ≡ Some (Node d))
    × (ps ≡ [])
    × (a ≡ ToNames (names_in d))
FollowsFifty R.Keys3 (SelectKeys c cur) a ps =
    (k1 : Tagged) × (rest : List Tagged) × (d : Context) × (ks : List (List ℕ))
    × (cur.path ≡ k1 ∷ rest)
    × (content k1 c ≡ Some (Node d))
    × (ps ≡ gives (SelectKeys d (cursor rest cur.last)) (ToNames ks) ∷ [])
    × (a ≡ ToNames ks)
FollowsFifty R.Val1 (Evaluate A (ValuesOf e)) a ps =
    (cur : Cursor) × (vs : List (Id × Value))
    × (ps ≡ gives (Evaluate A e) (ToBound (ACursor cur))
    ∷ gives (SelectValues A.tree cur) (ToPairs vs)
    ∷ [])
    × (a ≡ ToBound (Pairs vs))
FollowsFifty R.Val2 (SelectValues c cur) a ps =
    (r : Register)
    × (cur.path ≡ [])
    × (content (RegT cur.last) c ≡ Some (Values r))
    × (ps ≡ [])
    × (a ≡ ToPairs r)
FollowsFifty R.Val3 (SelectValues c cur) a ps =
    (k1 : Tagged) × (rest : List Tagged) × (d : Context) × (vs : List (Id × Value))
    × (cur.path ≡ k1 ∷ rest)
    × (content k1 c ≡ Some (Node d))
    × (ps ≡ gives (SelectValues d (cursor rest cur.last)) (ToPairs vs) ∷ [])
    × (a ≡ ToPairs vs)
FollowsFifty R.MakeAssign (Run p A (SetTo e v)) a ps = IsMake p A e (M.Assign v) a ps
FollowsFifty R.MakeInsert (Run p A (InsertAfter e v)) a ps = IsMake p A e (M.Insert v) a ps
FollowsFifty R.MakeDelete (Run p A (DeleteAt e)) a ps = IsMake p A e M.Delete a ps
FollowsFifty R.MakeOp (Make p A cur m) a ps =
    (B : State)
    × (ps ≡ gives (ApplyOp p A (record {
      id = record { counter = greatest A.ops + 1; replica = p };
      deps = A.ops;
      cursor = cur;
      mutation = m;
    })) (ToState B) ∷ [])
    × (a ≡ ToState B)
FollowsFifty R.ApplyLocal (ApplyOp p A o) a ps =
    (t : Context)
    × (ps ≡ gives (Operate A.tree o) (ToContext t) ∷ [])
    × (a ≡ ToState (record A { tree = t; queue = with_op o A.queue; ops = with_id o.id A.ops }))
-- Yield events
FollowsFifty R.Send (Occur A (E.Send p) _) a ps =
    (rest : List Cmd)
    × (A.left ≡ Yield ∷ rest)
    × (ps ≡ [])
    × (a ≡ ToState (record A { acted = true; send = both A.send A.queue }))
FollowsFifty R.Recv (Occur A (E.Recv p q) sent) a ps =
    (rest : List Cmd)
    × (A.left ≡ Yield ∷ rest)
    × (ps ≡ [])
    × (a ≡ ToState (record A { acted = true; recv = both A.recv sent }))
FollowsFifty R.ApplyRemote (Occur A (E.Apply p i) _) a ps =
    (rest : List Cmd) × (o : Op) × (t : Context)
    × (A.left ≡ Yield ∷ rest)
    × (op_of i A.recv ≡ Some o)
    × (has_id i A.ops ≡ false)
    × AreIn o.deps A.ops
    × (ps ≡ gives (Operate A.tree o) (ToContext t) ∷ [])
    × (a ≡ ToState (record A { acted = true; tree = t; ops = with_id i A.ops }))
FollowsFifty R.Done (Occur A (E.Done p) _) a ps =
    (rest : List Cmd)
    × (A.left ≡ Yield ∷ rest)
    × (A.acted ≡ true)
    × (ps ≡ [])
    × (a ≡ ToState (record A { left = rest; acted = false }))
-- Operations
FollowsFifty R.Descend (Operate c o) a ps =
    (k1 : Tagged) × (rest : List Tagged) × (d : Context) × (e : Context) × (c2 : Context)
    × (o.cursor.path ≡ k1 ∷ rest)
    × (ps ≡ gives (Child c k1) (ToContent (Node d))
    ∷ gives (Operate d (moved o rest o.cursor.last o.mutation)) (ToContext e)
    ∷ gives (AddId c k1 o.id o.mutation) (ToContext c2)
    ∷ [])
    × (a ≡ ToContext (with_content k1 (Node e) c2))
FollowsFifty R.ChildGet (Child c k) a ps =
    (x : Content)
    × (content k c ≡ Some x)
    × (ps ≡ [])
    × (a ≡ ToContent x)
FollowsFifty R.ChildMap (Child c (MapT k)) a ps =
    (content (MapT k) c ≡ None)
    × (ps ≡ [])
    × (a ≡ ToContent (new_content (MapT k)))
FollowsFifty R.ChildList (Child c (ListT k)) a ps =
    (content (ListT k) c ≡ None)
    × (ps ≡ [])
    × (a ≡ ToContent (new_content (ListT k)))
FollowsFifty R.ChildReg (Child c (RegT k)) a ps =
    (content (RegT k) c ≡ None)
    × (ps ≡ [])
    × (a ≡ ToContent (new_content (RegT k)))
FollowsFifty R.AddId1 (AddId c k i m) a ps =
    (s : List Id)
    × (m ≢ M.Delete)
    × (ps ≡ gives (Presence c (key_of_tagged k)) (ToIds s) ∷ [])
    × (a ≡ ToContext (with_presence (key_of_tagged k) (with_id i s) c))
FollowsFifty R.AddId2 (AddId c k i m) a ps =
    (m ≡ M.Delete)
    × (ps ≡ [])
    × (a ≡ ToContext c)
FollowsFifty R.Presence1 (Presence c k) a ps =
    (s : List Id)
    × (presence k c ≡ Some s)
    × (ps ≡ [])
    × (a ≡ ToIds s)
FollowsFifty R.Presence2 (Presence c k) a ps =
    (presence k c ≡ None)
    × (ps ≡ [])
    × (a ≡ ToIds [])
FollowsFifty R.Assign (Operate c o) a ps =
    (v : Value) × (c1 : Context) × (s : List Id) × (c2 : Context) × (r : Register)
    × (o.cursor.path ≡ [])
    × (o.mutation ≡ M.Assign v)
    × IsPrimitive v
    × (ps ≡ gives (Clear c o.deps (RegT o.cursor.last)) (Cleared c1 s)
    ∷ gives (AddId c1 (RegT o.cursor.last) o.id o.mutation) (ToContext c2)
    ∷ gives (Child c2 (RegT o.cursor.last)) (ToContent (Values r))
    ∷ [])
    × (a ≡ ToContext (with_content (RegT o.cursor.last) (Values (put id_cmp o.id v r)) c2))
FollowsFifty R.EmptyMap (Operate c o) a ps =
    (c1 : Context) × (s : List Id) × (c2 : Context) × (x : Content)
    × (o.cursor.path ≡ [])
    × (o.mutation ≡ M.Assign V.EmptyMap)
    × (ps ≡ gives (ClearElem c o.deps o.cursor.last) (Cleared c1 s)
    ∷ gives (AddId c1 (MapT o.cursor.last) o.id o.mutation) (ToContext c2)
    ∷ gives (Child c2 (MapT o.cursor.last)) (ToContent x)
    ∷ [])
    × (a ≡ ToContext (with_content (MapT o.cursor.last) x c2))
FollowsFifty R.EmptyList (Operate c o) a ps =
    (c1 : Context) × (s : List Id) × (c2 : Context) × (x : Content)
    × (o.cursor.path ≡ [])
    × (o.mutation ≡ M.Assign V.EmptyList)
    × (ps ≡ gives (ClearElem c o.deps o.cursor.last) (Cleared c1 s)
    ∷ gives (AddId c1 (ListT o.cursor.last) o.id o.mutation) (ToContext c2)
    ∷ gives (Child c2 (ListT o.cursor.last)) (ToContent x)
    ∷ [])
    × (a ≡ ToContext (with_content (ListT o.cursor.last) x c2))
FollowsFifty R.Insert1 (Operate c o) a ps =
    (v : Value) × (n : Next) × (d : Context)
    × (o.cursor.path ≡ [])
    × (o.mutation ≡ M.Insert v)
    × (next o.cursor.last c ≡ Some n)
    × IsBefore n o.id
    × (ps ≡ gives (Operate c (moved o [] (K.Elem o.id) (M.Assign v))) (ToContext d) ∷ [])
    × (a ≡ ToContext (with_next (K.Elem o.id) n (with_next o.cursor.last (To o.id) d)))
FollowsFifty R.Insert2 (Operate c o) a ps =
    (v : Value) × (n : Id) × (d : Context)
    × (o.cursor.path ≡ [])
    × (o.mutation ≡ M.Insert v)
    × (next o.cursor.last c ≡ Some (To n))
    × (id_cmp o.id n ≡ Less)
    × (ps ≡ gives (Operate c (moved o [] (K.Elem n) o.mutation)) (ToContext d) ∷ [])
    × (a ≡ ToContext d)
FollowsFifty R.Delete (Operate c o) a ps =
    (d : Context) × (s : List Id)
    × (o.cursor.path ≡ [])
    × (o.mutation ≡ M.Delete)
    × (ps ≡ gives (ClearElem c o.deps o.cursor.last) (Cleared d s) ∷ [])
    × (a ≡ ToContext d)
-- Clearing
FollowsFifty R.ClearElem (ClearElem c deps k) a ps =
    (d : Context) × (s1 : List Id) × (s2 : List Id)
    × (ps ≡ gives (ClearAny c deps k) (Cleared d s1)
    ∷ gives (Presence d k) (ToIds s2)
    ∷ [])
    × (a ≡ Cleared (with_presence k (without (union s1 s2) deps) d) (without (union s1 s2) deps))
FollowsFifty R.ClearAny (ClearAny c deps k) a ps =
    (c1 : Context) × (s1 : List Id) × (c2 : Context) × (s2 : List Id) × (c3 : Context) × (s3 : List Id)
    × (ps ≡ gives (Clear c deps (MapT k)) (Cleared c1 s1)
    ∷ gives (Clear c1 deps (ListT k)) (Cleared c2 s2)
    ∷ gives (Clear c2 deps (RegT k)) (Cleared c3 s3)
    ∷ [])
    × (a ≡ Cleared c3 (union s1 (union s2 s3)))
FollowsFifty R.ClearNone (Clear c deps k) a ps =
    (content k c ≡ None)
    × (ps ≡ [])
    × (a ≡ Cleared c [])
FollowsFifty R.ClearReg (Clear c deps (RegT k)) a ps =
    (r : Register)
    × (content (RegT k) c ≡ Some (Values r))
    × (ps ≡ [])
    × (a ≡ Cleared (with_content (RegT k) (Values (kept deps r)) c) (keys_of (kept deps r)))
FollowsFifty R.ClearMap1 (Clear c deps (MapT k)) a ps =
    (d : Context) × (e : Context) × (s : List Id)
    × (content (MapT k) c ≡ Some (Node d))
    × (ps ≡ gives (ClearMap d deps []) (Cleared e s) ∷ [])
    × (a ≡ Cleared (with_content (MapT k) (Node e) c) s)
FollowsFifty R.ClearMap2 (ClearMap c deps done) a ps =
    (k : Key) × (c1 : Context) × (s1 : List Id) × (c2 : Context) × (s2 : List Id)
    × (least_left done c ≡ Some k)
    × (ps ≡ gives (ClearElem c deps k) (Cleared c1 s1)
    ∷ gives (ClearMap c1 deps (k ∷ done)) (Cleared c2 s2)
    ∷ [])
    × (a ≡ Cleared c2 (union s1 s2))
FollowsFifty R.ClearMap3 (ClearMap c deps done) a ps =
    (least_left done c ≡ None)
    × (ps ≡ [])
    × (a ≡ Cleared c [])
FollowsFifty R.ClearList1 (Clear c deps (ListT k)) a ps =
    (d : Context) × (e : Context) × (s : List Id)
    × (content (ListT k) c ≡ Some (Node d))
    × (ps ≡ gives (ClearList d deps (Some K.Head)) (Cleared e s) ∷ [])
    × (a ≡ Cleared (with_content (ListT k) (Node e) c) s)
FollowsFifty R.ClearList2 (ClearList c deps (Some k)) a ps =
    (n : Next) × (c1 : Context) × (s1 : List Id) × (c2 : Context) × (s2 : List Id)
    × (next k c ≡ Some n)
    × (ps ≡ gives (ClearElem c deps k) (Cleared c1 s1)
    ∷ gives (ClearList c1 deps (after n)) (Cleared c2 s2)
    ∷ [])
    × (a ≡ Cleared c2 (union s1 s2))
FollowsFifty R.ClearList3 (ClearList c deps None) a ps =
    (ps ≡ [])
    × (a ≡ Cleared c [])
FollowsFifty _ _ _ _ = ⊥

-- each node follows by one of the fifty rules from its premises
abbrev mutual
  pub HoldsFifty : Derivation → Type 0
  HoldsFifty (derive r (gives q a) ps) = FollowsFifty r q a (conclusions ps) × AllHoldFifty ps

  pub AllHoldFifty : Premises → Type 0
  AllHoldFifty none = Unit {0}
  AllHoldFifty (premise d ps) = HoldsFifty d × AllHoldFifty ps

-- The rule that version 2 has beside them (RECV-ONE): of what the other replica offers the operation with the
-- identifier is received.
abbrev pub TakesOne : Question → Answer → List Judgement → Type 0
TakesOne (Occur A (E.Take p q i) sent) a ps =
    (rest : List Cmd) × (o : Op)
    × (A.left ≡ Yield ∷ rest)
    × (op_of i sent ≡ Some o)
    × (ps ≡ [])
    × (a ≡ ToState (record A { acted = true; recv = both A.recv (o ∷ []) }))
TakesOne _ _ _ = ⊥

-- The table: this rule, and the fifty.
abbrev pub Follows : Rule → Question → Answer → List Judgement → Type 0
Follows R.RecvOne q a ps = TakesOne q a ps
Follows r q a ps = FollowsFifty r q a ps

-- each node follows by its rule from its premises
abbrev mutual
  pub Holds : Derivation → Type 0
  Holds (derive r (gives q a) ps) = Follows r q a (conclusions ps) × AllHold ps

  pub AllHold : Premises → Type 0
  AllHold none = Unit {0}
  AllHold (premise d ps) = Holds d × AllHold ps

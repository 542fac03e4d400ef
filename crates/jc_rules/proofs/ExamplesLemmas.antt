-- About specs/Examples: derivations put together from their parts, by one lemma for each rule of the table.
use Rattle.std.specs.Prelude.{◌≡◌, ◌≢◌, ℕ, suc, ◌+◌, ◌≤◌, List, [], ◌∷◌, ◌++◌, Bool, true, false, ◌||◌, Some, None, refl, length, slice_get, slice_set}
use Rattle.std.specs.declared.cmp.Ordering.TheVariants.{Less}
use Rattle.std.proofs.Math.Path.{subst, sym}
use Rattle.jc_rules.specs.declared.id.Id.{Id}
use Rattle.jc_rules.specs.declared.key.Key.{Key}
use Rattle.jc_rules.specs.declared.key.Key.TheVariants as K
use Rattle.jc_rules.specs.declared.key.Tagged.{Tagged}
use Rattle.jc_rules.specs.declared.key.Tagged.TheVariants.{MapT, ListT, RegT}
use Rattle.jc_rules.specs.declared.key.Next.{Next}
use Rattle.jc_rules.specs.declared.key.Next.TheVariants.{Elem as To}
use Rattle.jc_rules.specs.declared.operation.Mutation.{Mutation}
use Rattle.jc_rules.specs.declared.operation.Mutation.TheVariants as M
use Rattle.jc_rules.specs.declared.operation.Cursor.{Cursor}
use Rattle.jc_rules.specs.declared.operation.Op.{Op}
use Rattle.jc_rules.specs.declared.operation.Event.{Event}
use Rattle.jc_rules.specs.declared.operation.Event.TheVariants as E
use Rattle.jc_rules.specs.declared.rule.Rule.{Rule}
use Rattle.jc_rules.specs.declared.rule.Rule.TheVariants as R
use Rattle.jc_rules.specs.declared.value.Value.{Value}
use Rattle.jc_rules.specs.declared.value.Value.TheVariants as V
use Rattle.jc_rules.specs.Order.{id_cmp, name_cmp, same_id}
use Rattle.jc_rules.specs.Entries.{find, put, keys_of}
use Rattle.jc_rules.specs.Ids.{has_id, with_id, union, without, greatest, AreIn}
use Rattle.jc_rules.specs.Context.{Context, Content, Node, Values, Register, IsPrimitive, content, with_content, empty, empty_list, presence, with_presence, next, with_next, key_of_tagged}
use Rattle.jc_rules.specs.Syntax.{Expr, TheDoc, Variable, GetKey, Index, KeysOf, ValuesOf, Cmd, LetIn, SetTo, InsertAfter, DeleteAt, Yield}
use Rattle.jc_rules.specs.State.{State, Bound, ACursor, Names, Pairs}
use Rattle.jc_rules.specs.Derivation.{Question, Occur, Run, Evaluate, SelectIndex, SelectKeys, SelectValues, Make, ApplyOp, Operate, Child, AddId, Presence, Clear, ClearAny, ClearElem, ClearMap, ClearList, Answer, ToState, ToBound, ToCursor, ToNames, ToPairs, ToContext, ToContent, ToIds, Cleared, Judgement, gives, Derivation, derive, Premises, none, premise, conclusion, conclusions, trace, traces}
use Rattle.jc_rules.specs.Table.{Holds, AllHold, Follows, cursor, moved, IsEmptyIds, IsBefore, bind, kept, least_left, names_in, op_of, with_op, both, after}
use Rattle.jc_rules.specs.Refused.{IsAnswered}
use Rattle.jc_rules.specs.Step.{replica_of, read_by, Step, After}
use Rattle.jc_rules.specs.Examples.{IsExample}

-- a derivation of the answer, with these rows from the depth on
pub record Shown (n : ℕ) (q : Question) (a : Answer) (rows : List (Rule × ℕ)) : Type 0 where
  pub derivation : Derivation
  pub holds : Holds derivation
  pub concludes : conclusion derivation ≡ gives q a
  pub is_trace : trace n derivation ≡ rows

pub answered : {n : ℕ} {q : Question} {a : Answer} {rows : List (Rule × ℕ)} → Shown n q a rows → IsAnswered q a
answered s = record { derivation = s.derivation; holds = s.holds; concludes = s.concludes }

-- premises with these conclusions
pub record AllShown (n : ℕ) (js : List Judgement) (rows : List (Rule × ℕ)) : Type 0 where
  pub premises : Premises
  pub hold : AllHold premises
  pub conclude : conclusions premises ≡ js
  pub are_traces : traces n premises ≡ rows

either : (b c d : Bool) → (c ≡ true → d ≡ true) → b || c ≡ true → b || d ≡ true
either true c d f h = refl
either false c d f h = f h

nothing : {n : ℕ} → AllShown n [] []
nothing = record { premises = none; hold = tt; conclude = refl; are_traces = refl }

also : {n : ℕ} {q : Question} {a : Answer} {js : List Judgement} {rows more : List (Rule × ℕ)}
    → Shown n q a rows → AllShown n js more → AllShown n (gives q a ∷ js) (rows ++ more)
also s t = record {
  premises = premise s.derivation t.premises;
  hold = (s.holds, t.hold);
  conclude = cc;
  are_traces = cc;
}

by : {n : ℕ} {q : Question} {a : Answer} {js : List Judgement} {rows : List (Rule × ℕ)}
    (r : Rule) → AllShown (n + 1) js rows → Follows r q a js → Shown n q a ((r, n) ∷ rows)
by {n = n} {q = q} {a = a} r t f = record {
  derivation = derive r (gives q a) t.premises;
  holds = (subst (λ js. Follows r q a js) (sym t.conclude) f, t.hold);
  concludes = refl;
  is_trace = cc;
}

-- a set is in itself with more behind
pub in_front : (is js : List Id) → AreIn is (is ++ js)
in_front [] js i h = cc
in_front (j ∷ is) js i h = either (same_id i j) (has_id i is) (has_id i (is ++ js)) (in_front is js i) h

-- a derivation from the root on
pub worked : {A : State} {e : Event} {read : List Op} {a : Answer} {B : State} {rows expected : List (Rule × ℕ)}
    → Shown 0 (Occur A e read) a rows → a ≡ ToState B → rows ≡ expected → IsExample A e read B expected
worked s h g = record {
  derivation = s.derivation;
  holds = s.holds;
  concludes = cc;
  is_trace = cc;
}

-- a step of a network
pub stepped : {network new : List State} {e : Event} {A : State} {read : List Op} {B : State} {rows expected : List (Rule × ℕ)}
    → slice_get network (replica_of e) ≡ Some A → read_by e network ≡ Some read
    → Shown 0 (Occur A e read) (ToState B) rows → new ≡ slice_set network (replica_of e) B → rows ≡ expected
    → Step network e new expected
stepped {A = A} {read = read} {B = B} g r s n t = record {
  before = A;
  after = B;
  read = read;
  derivation = s.derivation;
  is_there = g;
  reads = r;
  holds = s.holds;
  concludes = s.concludes;
  is_new = n;
  is_trace = cc;
}

-- a network that follows from another by the events
pub record Runs (network : List State) (events : List Event) (last : List State) : Type 0 where
  pub is : After network events last

pub over : {network last : List State} → network ≡ last → Runs network [] last
over e = record { is = e }

pub then : {network : List State} {e : Event} {events : List Event} {last : List State} {A : State} {read : List Op} {B : State} {rows : List (Rule × ℕ)}
    → slice_get network (replica_of e) ≡ Some A → read_by e network ≡ Some read
    → Shown 0 (Occur A e read) (ToState B) rows → Runs (slice_set network (replica_of e) B) events last
    → Runs network (e ∷ events) last
then {network = network} {e = e} {B = B} {rows = rows} g r s t = record {
  is = (slice_set network (replica_of e) B, rows, stepped g r s refl refl, t.is);
}

-- commands and expressions

pub exec : {n p : ℕ} {A : State} {read : List Op} {c : Cmd} {rest : List Cmd} {B : State} {rs : List (Rule × ℕ)}
    → A.left ≡ c ∷ rest → c ≢ Yield → Shown (n + 1) (Run p A c) (ToState B) rs
    → Shown n (Occur A (E.Exec p) read) (ToState (record B { left = rest })) ((R.Exec, n) ∷ (rs ++ []))
exec {c = c} {rest = rest} {B = B} e h s = by R.Exec (also s nothing) (c, rest, B, e, h, refl, refl)

pub let_in : {n p : ℕ} {A : State} {x : List ℕ} {e : Expr} {b : Bound} {rs : List (Rule × ℕ)}
    → Shown (n + 1) (Evaluate A e) (ToBound b) rs
    → Shown n (Run p A (LetIn x e)) (ToState (record A { vars = bind x b A.vars })) ((R.Let, n) ∷ (rs ++ []))
let_in {b = b} s = by R.Let (also s nothing) (b, refl, refl)

pub var : {n : ℕ} {A : State} {x : List ℕ} {b : Bound}
    → find name_cmp x A.vars ≡ Some b
    → Shown n (Evaluate A (Variable x)) (ToBound b) ((R.Var, n) ∷ [])
var {b = b} e = by R.Var nothing (b, e, refl, refl)

pub doc : {n : ℕ} {A : State} → Shown n (Evaluate A TheDoc) (ToBound (ACursor (cursor [] K.Doc))) ((R.Doc, n) ∷ [])
doc = by R.Doc nothing (refl, refl)

pub get : {n : ℕ} {A : State} {e : Expr} {name : List ℕ} {cur : Cursor} {rs : List (Rule × ℕ)}
    → Shown (n + 1) (Evaluate A e) (ToBound (ACursor cur)) rs → cur.last ≢ K.Head → length cur.path ≤ 511
    → Shown n (Evaluate A (GetKey e name)) (ToBound (ACursor (cursor (cur.path ++ MapT cur.last ∷ []) (K.Name name)))) ((R.Get, n) ∷ (rs ++ []))
get {cur = cur} s h l = by R.Get (also s nothing) (cur, refl, h, l, refl)

pub idx1 : {n : ℕ} {A : State} {e : Expr} {i : ℕ} {cur new : Cursor} {rs ss : List (Rule × ℕ)}
    → Shown (n + 1) (Evaluate A e) (ToBound (ACursor cur)) rs → length cur.path ≤ 511
    → Shown (n + 1) (SelectIndex A.tree (cursor (cur.path ++ ListT cur.last ∷ []) K.Head) i) (ToCursor new) ss
    → Shown n (Evaluate A (Index e i)) (ToBound (ACursor new)) ((R.Idx1, n) ∷ (rs ++ (ss ++ [])))
idx1 {cur = cur} {new = new} s l t = by R.Idx1 (also s (also t nothing)) (cur, new, l, refl, refl)

pub idx2 : {n : ℕ} {c : Context} {cur : Cursor} {i : ℕ} {k : Tagged} {rest : List Tagged} {d : Context} {new : Cursor} {rs : List (Rule × ℕ)}
    → cur.path ≡ k ∷ rest → content k c ≡ Some (Node d)
    → Shown (n + 1) (SelectIndex d (cursor rest cur.last) i) (ToCursor new) rs → new.path ≡ rest
    → Shown n (SelectIndex c cur i) (ToCursor (cursor cur.path new.last)) ((R.Idx2, n) ∷ (rs ++ []))
idx2 {k = k} {rest = rest} {d = d} {new = new} e h s g = by R.Idx2 (also s nothing) (k, rest, d, new, e, h, g, refl, refl)

pub idx3 : {n : ℕ} {c : Context} {cur : Cursor} {i : ℕ} {j : Id} {new : Cursor} {rs : List (Rule × ℕ)}
    → cur.path ≡ [] → next cur.last c ≡ Some (To j) → (IsEmptyIds (presence (K.Elem j) c) → ⊥)
    → Shown (n + 1) (SelectIndex c (cursor [] (K.Elem j)) i) (ToCursor new) rs
    → Shown n (SelectIndex c cur (suc i)) (ToCursor new) ((R.Idx3, n) ∷ (rs ++ []))
idx3 {j = j} {new = new} e h g s = by R.Idx3 (also s nothing) (j, new, e, h, g, refl, refl)

pub idx4 : {n : ℕ} {c : Context} {cur : Cursor} {i : ℕ} {j : Id} {new : Cursor} {rs : List (Rule × ℕ)}
    → cur.path ≡ [] → next cur.last c ≡ Some (To j) → IsEmptyIds (presence (K.Elem j) c)
    → Shown (n + 1) (SelectIndex c (cursor [] (K.Elem j)) (suc i)) (ToCursor new) rs
    → Shown n (SelectIndex c cur (suc i)) (ToCursor new) ((R.Idx4, n) ∷ (rs ++ []))
idx4 {j = j} {new = new} e h g s = by R.Idx4 (also s nothing) (j, new, e, h, g, refl, refl)

pub idx5 : {n : ℕ} {c : Context} {cur : Cursor}
    → cur.path ≡ []
    → Shown n (SelectIndex c cur 0) (ToCursor (cursor [] cur.last)) ((R.Idx5, n) ∷ [])
idx5 e = by R.Idx5 nothing (e, refl, refl)

pub keys1 : {n : ℕ} {A : State} {e : Expr} {cur : Cursor} {ks : List (List ℕ)} {rs ss : List (Rule × ℕ)}
    → Shown (n + 1) (Evaluate A e) (ToBound (ACursor cur)) rs → Shown (n + 1) (SelectKeys A.tree cur) (ToNames ks) ss
    → Shown n (Evaluate A (KeysOf e)) (ToBound (Names ks)) ((R.Keys1, n) ∷ (rs ++ (ss ++ [])))
keys1 {cur = cur} {ks = ks} s t = by R.Keys1 (also s (also t nothing)) (cur, ks, refl, refl)

pub keys2 : {n : ℕ} {c : Context} {cur : Cursor} {d : Context}
    → cur.path ≡ [] → content (MapT cur.last) c ≡ Some (Node d)
    → Shown n (SelectKeys c cur) (ToNames (names_in d)) ((R.Keys2, n) ∷ [])
keys2 {d = d} e h = by R.Keys2 nothing (d, e, h, refl, refl)

pub keys3 : {n : ℕ} {c : Context} {cur : Cursor} {k : Tagged} {rest : List Tagged} {d : Context} {ks : List (List ℕ)} {rs : List (Rule × ℕ)}
    → cur.path ≡ k ∷ rest → content k c ≡ Some (Node d) → Shown (n + 1) (SelectKeys d (cursor rest cur.last)) (ToNames ks) rs
    → Shown n (SelectKeys c cur) (ToNames ks) ((R.Keys3, n) ∷ (rs ++ []))
keys3 {k = k} {rest = rest} {d = d} {ks = ks} e h s = by R.Keys3 (also s nothing) (k, rest, d, ks, e, h, refl, refl)

pub val1 : {n : ℕ} {A : State} {e : Expr} {cur : Cursor} {vs : List (Id × Value)} {rs ss : List (Rule × ℕ)}
    → Shown (n + 1) (Evaluate A e) (ToBound (ACursor cur)) rs → Shown (n + 1) (SelectValues A.tree cur) (ToPairs vs) ss
    → Shown n (Evaluate A (ValuesOf e)) (ToBound (Pairs vs)) ((R.Val1, n) ∷ (rs ++ (ss ++ [])))
val1 {cur = cur} {vs = vs} s t = by R.Val1 (also s (also t nothing)) (cur, vs, refl, refl)

pub val2 : {n : ℕ} {c : Context} {cur : Cursor} {r : Register}
    → cur.path ≡ [] → content (RegT cur.last) c ≡ Some (Values r)
    → Shown n (SelectValues c cur) (ToPairs r) ((R.Val2, n) ∷ [])
val2 {r = r} e h = by R.Val2 nothing (r, e, h, refl, refl)

pub val3 : {n : ℕ} {c : Context} {cur : Cursor} {k : Tagged} {rest : List Tagged} {d : Context} {vs : List (Id × Value)} {rs : List (Rule × ℕ)}
    → cur.path ≡ k ∷ rest → content k c ≡ Some (Node d) → Shown (n + 1) (SelectValues d (cursor rest cur.last)) (ToPairs vs) rs
    → Shown n (SelectValues c cur) (ToPairs vs) ((R.Val3, n) ∷ (rs ++ []))
val3 {k = k} {rest = rest} {d = d} {vs = vs} e h s = by R.Val3 (also s nothing) (k, rest, d, vs, e, h, refl, refl)

pub make_assign : {n p : ℕ} {A : State} {e : Expr} {v : Value} {cur : Cursor} {B : State} {rs ss : List (Rule × ℕ)}
    → Shown (n + 1) (Evaluate A e) (ToBound (ACursor cur)) rs → Shown (n + 1) (Make p A cur (M.Assign v)) (ToState B) ss
    → Shown n (Run p A (SetTo e v)) (ToState B) ((R.MakeAssign, n) ∷ (rs ++ (ss ++ [])))
make_assign {cur = cur} {B = B} s t = by R.MakeAssign (also s (also t nothing)) (cur, B, refl, refl)

pub make_insert : {n p : ℕ} {A : State} {e : Expr} {v : Value} {cur : Cursor} {B : State} {rs ss : List (Rule × ℕ)}
    → Shown (n + 1) (Evaluate A e) (ToBound (ACursor cur)) rs → Shown (n + 1) (Make p A cur (M.Insert v)) (ToState B) ss
    → Shown n (Run p A (InsertAfter e v)) (ToState B) ((R.MakeInsert, n) ∷ (rs ++ (ss ++ [])))
make_insert {cur = cur} {B = B} s t = by R.MakeInsert (also s (also t nothing)) (cur, B, refl, refl)

pub make_delete : {n p : ℕ} {A : State} {e : Expr} {cur : Cursor} {B : State} {rs ss : List (Rule × ℕ)}
    → Shown (n + 1) (Evaluate A e) (ToBound (ACursor cur)) rs → Shown (n + 1) (Make p A cur M.Delete) (ToState B) ss
    → Shown n (Run p A (DeleteAt e)) (ToState B) ((R.MakeDelete, n) ∷ (rs ++ (ss ++ [])))
make_delete {cur = cur} {B = B} s t = by R.MakeDelete (also s (also t nothing)) (cur, B, refl, refl)

pub make_op : {n p : ℕ} {A : State} {cur : Cursor} {m : Mutation} {B : State} {rs : List (Rule × ℕ)}
    → Shown (n + 1) (ApplyOp p A (record { id = record { counter = greatest A.ops + 1; replica = p }; deps = A.ops; cursor = cur; mutation = m })) (ToState B) rs
    → Shown n (Make p A cur m) (ToState B) ((R.MakeOp, n) ∷ (rs ++ []))
make_op {B = B} s = by R.MakeOp (also s nothing) (B, refl, refl)

pub apply_local : {n p : ℕ} {A : State} {o : Op} {t : Context} {rs : List (Rule × ℕ)}
    → Shown (n + 1) (Operate A.tree o) (ToContext t) rs
    → Shown n (ApplyOp p A o) (ToState (record A { tree = t; queue = with_op o A.queue; ops = with_id o.id A.ops })) ((R.ApplyLocal, n) ∷ (rs ++ []))
apply_local {t = t} s = by R.ApplyLocal (also s nothing) (t, refl, refl)

-- yield events

pub send : {n p : ℕ} {A : State} {read : List Op} {rest : List Cmd}
    → A.left ≡ Yield ∷ rest
    → Shown n (Occur A (E.Send p) read) (ToState (record A { acted = true; send = both A.send A.queue })) ((R.Send, n) ∷ [])
send {rest = rest} e = by R.Send nothing (rest, e, refl, refl)

pub recv : {n p q : ℕ} {A : State} {sent : List Op} {rest : List Cmd}
    → A.left ≡ Yield ∷ rest
    → Shown n (Occur A (E.Recv p q) sent) (ToState (record A { acted = true; recv = both A.recv sent })) ((R.Recv, n) ∷ [])
recv {rest = rest} e = by R.Recv nothing (rest, e, refl, refl)

pub take_one : {n p q : ℕ} {i : Id} {A : State} {sent : List Op} {rest : List Cmd} {o : Op}
    → A.left ≡ Yield ∷ rest → op_of i sent ≡ Some o
    → Shown n (Occur A (E.Take p q i) sent) (ToState (record A { acted = true; recv = both A.recv (o ∷ []) })) ((R.RecvOne, n) ∷ [])
take_one {rest = rest} {o = o} e f = by R.RecvOne nothing (rest, o, e, f, refl, refl)

pub apply_remote : {n p : ℕ} {i : Id} {A : State} {read : List Op} {rest : List Cmd} {o : Op} {t : Context} {rs : List (Rule × ℕ)}
    → A.left ≡ Yield ∷ rest → op_of i A.recv ≡ Some o → has_id i A.ops ≡ false → AreIn o.deps A.ops
    → Shown (n + 1) (Operate A.tree o) (ToContext t) rs
    → Shown n (Occur A (E.Apply p i) read) (ToState (record A { acted = true; tree = t; ops = with_id i A.ops })) ((R.ApplyRemote, n) ∷ (rs ++ []))
apply_remote {rest = rest} {o = o} {t = t} e h g d s = by R.ApplyRemote (also s nothing) (rest, o, t, e, h, g, d, refl, refl)

pub done : {n p : ℕ} {A : State} {read : List Op} {rest : List Cmd}
    → A.left ≡ Yield ∷ rest → A.acted ≡ true
    → Shown n (Occur A (E.Done p) read) (ToState (record A { left = rest; acted = false })) ((R.Done, n) ∷ [])
done {rest = rest} e h = by R.Done nothing (rest, e, h, refl, refl)

-- operations

pub descend : {n : ℕ} {c : Context} {o : Op} {k : Tagged} {rest : List Tagged} {d e c2 : Context} {rs ss ts : List (Rule × ℕ)}
    → o.cursor.path ≡ k ∷ rest
    → Shown (n + 1) (Child c k) (ToContent (Node d)) rs
    → Shown (n + 1) (Operate d (moved o rest o.cursor.last o.mutation)) (ToContext e) ss
    → Shown (n + 1) (AddId c k o.id o.mutation) (ToContext c2) ts
    → Shown n (Operate c o) (ToContext (with_content k (Node e) c2)) ((R.Descend, n) ∷ (rs ++ (ss ++ (ts ++ []))))
descend {k = k} {rest = rest} {d = d} {e = e} {c2 = c2} h s1 s2 s3 = by R.Descend (also s1 (also s2 (also s3 nothing))) (k, rest, d, e, c2, h, refl, refl)

pub child_get : {n : ℕ} {c : Context} {k : Tagged} {x : Content}
    → content k c ≡ Some x → Shown n (Child c k) (ToContent x) ((R.ChildGet, n) ∷ [])
child_get {x = x} e = by R.ChildGet nothing (x, e, refl, refl)

pub child_map : {n : ℕ} {c : Context} {k : Key}
    → content (MapT k) c ≡ None → Shown n (Child c (MapT k)) (ToContent (Node empty)) ((R.ChildMap, n) ∷ [])
child_map e = by R.ChildMap nothing (e, refl, refl)

pub child_list : {n : ℕ} {c : Context} {k : Key}
    → content (ListT k) c ≡ None → Shown n (Child c (ListT k)) (ToContent (Node empty_list)) ((R.ChildList, n) ∷ [])
child_list e = by R.ChildList nothing (e, refl, refl)

pub child_reg : {n : ℕ} {c : Context} {k : Key}
    → content (RegT k) c ≡ None → Shown n (Child c (RegT k)) (ToContent (Values [])) ((R.ChildReg, n) ∷ [])
child_reg e = by R.ChildReg nothing (e, refl, refl)

pub add_id1 : {n : ℕ} {c : Context} {k : Tagged} {i : Id} {m : Mutation} {s : List Id} {rs : List (Rule × ℕ)}
    → m ≢ M.Delete → Shown (n + 1) (Presence c (key_of_tagged k)) (ToIds s) rs
    → Shown n (AddId c k i m) (ToContext (with_presence (key_of_tagged k) (with_id i s) c)) ((R.AddId1, n) ∷ (rs ++ []))
add_id1 {s = s} h t = by R.AddId1 (also t nothing) (s, h, refl, refl)

pub add_id2 : {n : ℕ} {c : Context} {k : Tagged} {i : Id} → Shown n (AddId c k i M.Delete) (ToContext c) ((R.AddId2, n) ∷ [])
add_id2 = by R.AddId2 nothing (refl, refl, refl)

pub presence1 : {n : ℕ} {c : Context} {k : Key} {s : List Id}
    → presence k c ≡ Some s → Shown n (Presence c k) (ToIds s) ((R.Presence1, n) ∷ [])
presence1 {s = s} e = by R.Presence1 nothing (s, e, refl, refl)

pub presence2 : {n : ℕ} {c : Context} {k : Key}
    → presence k c ≡ None → Shown n (Presence c k) (ToIds []) ((R.Presence2, n) ∷ [])
presence2 e = by R.Presence2 nothing (e, refl, refl)

pub assign : {n : ℕ} {c : Context} {o : Op} {v : Value} {c1 : Context} {s : List Id} {c2 : Context} {r : Register} {rs ss ts : List (Rule × ℕ)}
    → o.cursor.path ≡ [] → o.mutation ≡ M.Assign v → IsPrimitive v
    → Shown (n + 1) (Clear c o.deps (RegT o.cursor.last)) (Cleared c1 s) rs
    → Shown (n + 1) (AddId c1 (RegT o.cursor.last) o.id o.mutation) (ToContext c2) ss
    → Shown (n + 1) (Child c2 (RegT o.cursor.last)) (ToContent (Values r)) ts
    → Shown n (Operate c o) (ToContext (with_content (RegT o.cursor.last) (Values (put id_cmp o.id v r)) c2)) ((R.Assign, n) ∷ (rs ++ (ss ++ (ts ++ []))))
assign {v = v} {c1 = c1} {s = s} {c2 = c2} {r = r} e h g t u w = by R.Assign (also t (also u (also w nothing))) (v, c1, s, c2, r, e, h, g, refl, refl)

pub empty_map : {n : ℕ} {c : Context} {o : Op} {c1 : Context} {s : List Id} {c2 : Context} {x : Content} {rs ss ts : List (Rule × ℕ)}
    → o.cursor.path ≡ [] → o.mutation ≡ M.Assign V.EmptyMap
    → Shown (n + 1) (ClearElem c o.deps o.cursor.last) (Cleared c1 s) rs
    → Shown (n + 1) (AddId c1 (MapT o.cursor.last) o.id o.mutation) (ToContext c2) ss
    → Shown (n + 1) (Child c2 (MapT o.cursor.last)) (ToContent x) ts
    → Shown n (Operate c o) (ToContext (with_content (MapT o.cursor.last) x c2)) ((R.EmptyMap, n) ∷ (rs ++ (ss ++ (ts ++ []))))
empty_map {c1 = c1} {s = s} {c2 = c2} {x = x} e h t u w = by R.EmptyMap (also t (also u (also w nothing))) (c1, s, c2, x, e, h, refl, refl)

pub empty_list_at : {n : ℕ} {c : Context} {o : Op} {c1 : Context} {s : List Id} {c2 : Context} {x : Content} {rs ss ts : List (Rule × ℕ)}
    → o.cursor.path ≡ [] → o.mutation ≡ M.Assign V.EmptyList
    → Shown (n + 1) (ClearElem c o.deps o.cursor.last) (Cleared c1 s) rs
    → Shown (n + 1) (AddId c1 (ListT o.cursor.last) o.id o.mutation) (ToContext c2) ss
    → Shown (n + 1) (Child c2 (ListT o.cursor.last)) (ToContent x) ts
    → Shown n (Operate c o) (ToContext (with_content (ListT o.cursor.last) x c2)) ((R.EmptyList, n) ∷ (rs ++ (ss ++ (ts ++ []))))
empty_list_at {c1 = c1} {s = s} {c2 = c2} {x = x} e h t u w = by R.EmptyList (also t (also u (also w nothing))) (c1, s, c2, x, e, h, refl, refl)

pub insert1 : {n : ℕ} {c : Context} {o : Op} {v : Value} {x : Next} {d : Context} {rs : List (Rule × ℕ)}
    → o.cursor.path ≡ [] → o.mutation ≡ M.Insert v → next o.cursor.last c ≡ Some x → IsBefore x o.id
    → Shown (n + 1) (Operate c (moved o [] (K.Elem o.id) (M.Assign v))) (ToContext d) rs
    → Shown n (Operate c o) (ToContext (with_next (K.Elem o.id) x (with_next o.cursor.last (To o.id) d))) ((R.Insert1, n) ∷ (rs ++ []))
insert1 {v = v} {x = x} {d = d} e h g b s = by R.Insert1 (also s nothing) (v, x, d, e, h, g, b, refl, refl)

pub insert2 : {n : ℕ} {c : Context} {o : Op} {v : Value} {j : Id} {d : Context} {rs : List (Rule × ℕ)}
    → o.cursor.path ≡ [] → o.mutation ≡ M.Insert v → next o.cursor.last c ≡ Some (To j) → id_cmp o.id j ≡ Less
    → Shown (n + 1) (Operate c (moved o [] (K.Elem j) o.mutation)) (ToContext d) rs
    → Shown n (Operate c o) (ToContext d) ((R.Insert2, n) ∷ (rs ++ []))
insert2 {v = v} {j = j} {d = d} e h g b s = by R.Insert2 (also s nothing) (v, j, d, e, h, g, b, refl, refl)

pub delete : {n : ℕ} {c : Context} {o : Op} {d : Context} {s : List Id} {rs : List (Rule × ℕ)}
    → o.cursor.path ≡ [] → o.mutation ≡ M.Delete → Shown (n + 1) (ClearElem c o.deps o.cursor.last) (Cleared d s) rs
    → Shown n (Operate c o) (ToContext d) ((R.Delete, n) ∷ (rs ++ []))
delete {d = d} {s = s} e h t = by R.Delete (also t nothing) (d, s, e, h, refl, refl)

-- clearing

pub clear_elem : {n : ℕ} {c : Context} {deps : List Id} {k : Key} {d : Context} {s1 s2 : List Id} {rs ss : List (Rule × ℕ)}
    → Shown (n + 1) (ClearAny c deps k) (Cleared d s1) rs → Shown (n + 1) (Presence d k) (ToIds s2) ss
    → Shown n (ClearElem c deps k) (Cleared (with_presence k (without (union s1 s2) deps) d) (without (union s1 s2) deps)) ((R.ClearElem, n) ∷ (rs ++ (ss ++ [])))
clear_elem {d = d} {s1 = s1} {s2 = s2} t u = by R.ClearElem (also t (also u nothing)) (d, s1, s2, refl, refl)

pub clear_any : {n : ℕ} {c : Context} {deps : List Id} {k : Key} {c1 : Context} {s1 : List Id} {c2 : Context} {s2 : List Id} {c3 : Context} {s3 : List Id} {rs ss ts : List (Rule × ℕ)}
    → Shown (n + 1) (Clear c deps (MapT k)) (Cleared c1 s1) rs
    → Shown (n + 1) (Clear c1 deps (ListT k)) (Cleared c2 s2) ss
    → Shown (n + 1) (Clear c2 deps (RegT k)) (Cleared c3 s3) ts
    → Shown n (ClearAny c deps k) (Cleared c3 (union s1 (union s2 s3))) ((R.ClearAny, n) ∷ (rs ++ (ss ++ (ts ++ []))))
clear_any {c1 = c1} {s1 = s1} {c2 = c2} {s2 = s2} {c3 = c3} {s3 = s3} t u w = by R.ClearAny (also t (also u (also w nothing))) (c1, s1, c2, s2, c3, s3, refl, refl)

pub clear_none : {n : ℕ} {c : Context} {deps : List Id} {k : Tagged}
    → content k c ≡ None → Shown n (Clear c deps k) (Cleared c []) ((R.ClearNone, n) ∷ [])
clear_none e = by R.ClearNone nothing (e, refl, refl)

pub clear_reg : {n : ℕ} {c : Context} {deps : List Id} {k : Key} {r : Register}
    → content (RegT k) c ≡ Some (Values r)
    → Shown n (Clear c deps (RegT k)) (Cleared (with_content (RegT k) (Values (kept deps r)) c) (keys_of (kept deps r))) ((R.ClearReg, n) ∷ [])
clear_reg {r = r} e = by R.ClearReg nothing (r, e, refl, refl)

pub clear_map1 : {n : ℕ} {c : Context} {deps : List Id} {k : Key} {d e : Context} {s : List Id} {rs : List (Rule × ℕ)}
    → content (MapT k) c ≡ Some (Node d) → Shown (n + 1) (ClearMap d deps []) (Cleared e s) rs
    → Shown n (Clear c deps (MapT k)) (Cleared (with_content (MapT k) (Node e) c) s) ((R.ClearMap1, n) ∷ (rs ++ []))
clear_map1 {d = d} {e = e} {s = s} h t = by R.ClearMap1 (also t nothing) (d, e, s, h, refl, refl)

pub clear_map2 : {n : ℕ} {c : Context} {deps : List Id} {done : List Key} {k : Key} {c1 : Context} {s1 : List Id} {c2 : Context} {s2 : List Id} {rs ss : List (Rule × ℕ)}
    → least_left done c ≡ Some k → Shown (n + 1) (ClearElem c deps k) (Cleared c1 s1) rs → Shown (n + 1) (ClearMap c1 deps (k ∷ done)) (Cleared c2 s2) ss
    → Shown n (ClearMap c deps done) (Cleared c2 (union s1 s2)) ((R.ClearMap2, n) ∷ (rs ++ (ss ++ [])))
clear_map2 {k = k} {c1 = c1} {s1 = s1} {c2 = c2} {s2 = s2} e t u = by R.ClearMap2 (also t (also u nothing)) (k, c1, s1, c2, s2, e, refl, refl)

pub clear_map3 : {n : ℕ} {c : Context} {deps : List Id} {done : List Key}
    → least_left done c ≡ None → Shown n (ClearMap c deps done) (Cleared c []) ((R.ClearMap3, n) ∷ [])
clear_map3 e = by R.ClearMap3 nothing (e, refl, refl)

pub clear_list1 : {n : ℕ} {c : Context} {deps : List Id} {k : Key} {d e : Context} {s : List Id} {rs : List (Rule × ℕ)}
    → content (ListT k) c ≡ Some (Node d) → Shown (n + 1) (ClearList d deps (Some K.Head)) (Cleared e s) rs
    → Shown n (Clear c deps (ListT k)) (Cleared (with_content (ListT k) (Node e) c) s) ((R.ClearList1, n) ∷ (rs ++ []))
clear_list1 {d = d} {e = e} {s = s} h t = by R.ClearList1 (also t nothing) (d, e, s, h, refl, refl)

pub clear_list2 : {n : ℕ} {c : Context} {deps : List Id} {k : Key} {x : Next} {c1 : Context} {s1 : List Id} {c2 : Context} {s2 : List Id} {rs ss : List (Rule × ℕ)}
    → next k c ≡ Some x → Shown (n + 1) (ClearElem c deps k) (Cleared c1 s1) rs → Shown (n + 1) (ClearList c1 deps (after x)) (Cleared c2 s2) ss
    → Shown n (ClearList c deps (Some k)) (Cleared c2 (union s1 s2)) ((R.ClearList2, n) ∷ (rs ++ (ss ++ [])))
clear_list2 {x = x} {c1 = c1} {s1 = s1} {c2 = c2} {s2 = s2} e t u = by R.ClearList2 (also t (also u nothing)) (x, c1, s1, c2, s2, e, refl, refl)

pub clear_list3 : {n : ℕ} {c : Context} {deps : List Id} → Shown n (ClearList c deps None) (Cleared c []) ((R.ClearList3, n) ∷ [])
clear_list3 = by R.ClearList3 nothing (refl, refl)

-- parts that occur often

pub first_id : {n : ℕ} {c : Context} {k : Tagged} {i : Id} {m : Mutation}
    → m ≢ M.Delete → presence (key_of_tagged k) c ≡ None
    → Shown n (AddId c k i m) (ToContext (with_presence (key_of_tagged k) (i ∷ []) c)) ((R.AddId1, n) ∷ (R.Presence2, n + 1) ∷ [])
first_id h e = add_id1 h (presence2 e)

pub further_id : {n : ℕ} {c : Context} {k : Tagged} {i : Id} {m : Mutation} {s : List Id}
    → m ≢ M.Delete → presence (key_of_tagged k) c ≡ Some s
    → Shown n (AddId c k i m) (ToContext (with_presence (key_of_tagged k) (with_id i s) c)) ((R.AddId1, n) ∷ (R.Presence1, n + 1) ∷ [])
further_id h e = add_id1 h (presence1 e)

-- clearing a key with nothing under it
pub clear_nothing : {n : ℕ} {c : Context} {deps : List Id} {k : Key}
    → content (MapT k) c ≡ None → content (ListT k) c ≡ None → content (RegT k) c ≡ None → presence k c ≡ None
    → Shown n (ClearElem c deps k) (Cleared (with_presence k [] c) [])
    ((R.ClearElem, n) ∷ (R.ClearAny, n + 1) ∷ (R.ClearNone, n + 1 + 1) ∷ (R.ClearNone, n + 1 + 1) ∷ (R.ClearNone, n + 1 + 1) ∷ (R.Presence2, n + 1) ∷ [])
clear_nothing m l r p = clear_elem (clear_any (clear_none m) (clear_none l) (clear_none r)) (presence2 p)

-- clearing a key with a register alone
pub clear_register : {n : ℕ} {c : Context} {deps : List Id} {k : Key} {r : Register} {s : List Id}
    → content (MapT k) c ≡ None → content (ListT k) c ≡ None → content (RegT k) c ≡ Some (Values r)
    → presence k (with_content (RegT k) (Values (kept deps r)) c) ≡ Some s
    → Shown n (ClearElem c deps k)
    (Cleared
    (with_presence k (without (union (union [] (union [] (keys_of (kept deps r)))) s) deps) (with_content (RegT k) (Values (kept deps r)) c))
    (without (union (union [] (union [] (keys_of (kept deps r)))) s) deps))
    ((R.ClearElem, n) ∷ (R.ClearAny, n + 1) ∷ (R.ClearNone, n + 1 + 1) ∷ (R.ClearNone, n + 1 + 1) ∷ (R.ClearReg, n + 1 + 1) ∷ (R.Presence1, n + 1) ∷ [])
clear_register m l e p = clear_elem (clear_any (clear_none m) (clear_none l) (clear_reg e)) (presence1 p)

-- assigning to a key with nothing under it
pub assign_new : {n : ℕ} {c : Context} {o : Op} {v : Value}
    → o.cursor.path ≡ [] → o.mutation ≡ M.Assign v → IsPrimitive v
    → content (RegT o.cursor.last) c ≡ None → presence o.cursor.last c ≡ None → content (RegT o.cursor.last) (with_presence o.cursor.last (o.id ∷ []) c) ≡ None
    → Shown n (Operate c o) (ToContext (with_content (RegT o.cursor.last) (Values ((o.id, v) ∷ [])) (with_presence o.cursor.last (o.id ∷ []) c)))
    ((R.Assign, n) ∷ (R.ClearNone, n + 1) ∷ (R.AddId1, n + 1) ∷ (R.Presence2, n + 1 + 1) ∷ (R.ChildReg, n + 1) ∷ [])
assign_new h e g r p x = assign h e g (clear_none r) (first_id (λ d. cc) p) (child_reg x)

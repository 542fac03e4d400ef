-- About specs/Refused: a refused question has no derivation, and one cause.
-- Both follow from the list of what is tried for a question: each rule passes all of it, and each refusal stops at one place of it.
use Rattle.std.specs.Prelude.{◌≡◌, ◌≢◌, ℕ, zero, suc, ◌+◌, ◌≤◌, List, [], ◌∷◌, ◌++◌, length, true, false, Option, Some, None, refl, ◌⊎◌}
use Rattle.std.proofs.Common.{sym, ◌∙◌, ap, subst, arith, inl, inr}
use Rattle.std.specs.declared.cmp.Ordering.{Ordering}
use Rattle.std.specs.declared.cmp.Ordering.TheVariants.{Less}
use Rattle.std.proofs.lemmas.Option.{same_Some}
use Rattle.jc_rules.specs.declared.value.Value.{Value}
use Rattle.jc_rules.specs.declared.id.Id.{Id}
use Rattle.jc_rules.specs.declared.key.Key.{Key}
use Rattle.jc_rules.specs.declared.key.Key.TheVariants as K
use Rattle.jc_rules.specs.declared.key.Tagged.{Tagged}
use Rattle.jc_rules.specs.declared.key.Tagged.TheVariants.{MapT, ListT, RegT}
use Rattle.jc_rules.specs.declared.key.Next.{Next}
use Rattle.jc_rules.specs.declared.key.Next.TheVariants.{Tail, Elem as To}
use Rattle.jc_rules.specs.declared.operation.Mutation.{Mutation}
use Rattle.jc_rules.specs.declared.operation.Mutation.TheVariants as M
use Rattle.jc_rules.specs.declared.operation.Cursor.{Cursor}
use Rattle.jc_rules.specs.declared.operation.Op.{Op}
use Rattle.jc_rules.specs.declared.operation.Event.{Event}
use Rattle.jc_rules.specs.declared.operation.Event.TheVariants as E
use Rattle.jc_rules.specs.declared.rule.Rule.{Rule}
use Rattle.jc_rules.specs.declared.rule.Rule.TheVariants as R
use Rattle.jc_rules.specs.declared.refusal.Refusal.TheVariants as F
use Rattle.jc_rules.specs.Order.{name_cmp, id_cmp}
use Rattle.jc_rules.specs.Entries.{find}
use Rattle.jc_rules.specs.Ids.{has_id, greatest, AreIn}
use Rattle.jc_rules.specs.Context.{Context, Content, Node, Values, content, presence, next}
use Rattle.jc_rules.specs.Syntax.{Expr, TheDoc, Variable, GetKey, Index, KeysOf, ValuesOf, Cmd, LetIn, SetTo, InsertAfter, DeleteAt, Yield}
use Rattle.jc_rules.specs.State.{State, Bound, ACursor, Names, Pairs}
use Rattle.jc_rules.specs.Derivation.{Question, Occur, Run, Evaluate, SelectIndex, SelectKeys, SelectValues, Make, ApplyOp, Operate, Child, AddId, Presence, Clear, ClearAny, ClearElem, ClearMap, ClearList, Answer, ToBound, ToContent, Judgement, gives, asked, answered, Derivation, derive, Premises, none, premise, conclusion, conclusions}
use Rattle.jc_rules.specs.Table.{Follows, Holds, AllHold, cursor, moved, op_of, IsEmptyIds}
use Rattle.jc_rules.specs.Step.{Step}
use Rattle.jc_rules.specs.Refused.{Cause, because, no_node, IsAnswered, IsCursor, IsYieldEvent, first_expr, WantsCursor, made_by, Refused, no_command, at_yield, in_command, no_yield, not_at_yield, not_acted, not_received, not_offered, already_applied, deps_missing, in_received, in_first, not_a_cursor, in_making, in_made, in_applied, unbound, get_on_head, get_too_deep, index_too_deep, in_index, in_keys, in_values, index_no_node, keys_no_node, values_no_node, index_below, keys_below, values_below, past_end, in_counted, in_passed, no_map, no_register, operate_below, not_in_list, insert_later, IsStuck, no_replica, no_sender, refused}
use Rattle.jc_rules.proofs.DerivationLemmas.{same_derivation}

-- what is tried, in order: a numbered condition, or a premise and what its answer leads to
pub data Tests : Type 1 where
  passed : Tests
  stop : Cause → Tests
  condition : Type 0 → Cause → Tests → Tests
  ask : Question → (Answer → Tests) → Tests

abbrev no_more : Answer → Tests
no_more a = passed

abbrev if_cursor : (Cursor → Tests) → Answer → Tests
if_cursor f (ToBound (ACursor cur)) = f cur
if_cursor f _ = stop (because F.NotACursor)

abbrev on_cursor : State → Expr → (Cursor → Tests) → Tests
on_cursor A e f = ask (Evaluate A e) (if_cursor f)

abbrev at_command : List Cmd → (Cmd → Tests) → Tests
at_command [] f = stop (because F.NoCommand)
at_command (c ∷ cs) f = f c

abbrev at_the_yield : State → Tests → Tests
at_the_yield A t = at_command A.left (λ c. condition (c ≡ Yield) (because F.NotAtYield) t)

abbrev if_none : {X : Type 0} → Option X → Cause → (X → Tests) → Tests
if_none None why f = stop why
if_none (Some x) why f = f x

abbrev in_node : Option Content → Cause → (Context → Tests) → Tests
in_node None why f = stop why
in_node (Some (Node d)) why f = f d
in_node (Some (Values r)) why f = passed

abbrev to_next : Option Next → (Id → Tests) → Tests
to_next (Some (To j)) f = f j
to_next _ f = stop (because F.PastEnd)

abbrev counted : Option (List Id) → Tests → Tests → Tests
counted (Some (i ∷ is)) t u = t
counted _ t u = u

abbrev walk : Context → Key → ℕ → Tests
walk c k zero = passed
walk c k (suc i) = to_next (next k c) (λ j. counted (presence (K.Elem j) c) (ask (SelectIndex c (cursor [] (K.Elem j)) i) no_more) (ask (SelectIndex c (cursor [] (K.Elem j)) (suc i)) no_more))

abbrev if_less : Ordering → Tests → Tests
if_less Less t = t
if_less _ t = passed

abbrev insert : Context → Op → Option Next → Tests
insert c o None = stop (because F.NotInList)
insert c o (Some Tail) = passed
insert c o (Some (To n)) = if_less (id_cmp o.id n) (ask (Operate c (moved o [] (K.Elem n) o.mutation)) no_more)

abbrev by_mutation : Context → Op → Mutation → Tests
by_mutation c o (M.Insert v) = insert c o (next o.cursor.last c)
by_mutation c o _ = passed

abbrev at_child : Op → List Tagged → Answer → Tests
at_child o rest (ToContent (Node d)) = ask (Operate d (moved o rest o.cursor.last o.mutation)) no_more
at_child o rest _ = passed

abbrev along : {X : Type 1} → List Tagged → X → (Tagged → List Tagged → X) → X
along [] x f = x
along (k ∷ ks) x f = f k ks

abbrev pub tests_of : Question → Tests
tests_of (Occur A (E.Exec p) _) = at_command A.left (λ c. condition (c ≢ Yield) (because F.AtYield) (ask (Run p A c) no_more))
tests_of (Occur A (E.Send p) _) = at_the_yield A passed
tests_of (Occur A (E.Recv p q) _) = at_the_yield A passed
tests_of (Occur A (E.Take p q i) sent) = at_the_yield A (if_none (op_of i sent) (because F.NotReceived) (λ o. passed))
tests_of (Occur A (E.Apply p i) _) = at_the_yield A (if_none (op_of i A.recv) (because F.NotReceived) (λ o. condition (has_id i A.ops ≡ false) (because F.AlreadyApplied) (condition (AreIn o.deps A.ops) (because F.DepsMissing) (ask (Operate A.tree o) no_more))))
tests_of (Occur A (E.Done p) _) = at_the_yield A (condition (A.acted ≡ true) (because F.NotActed) passed)
tests_of (Run p A (LetIn x e)) = ask (Evaluate A e) no_more
tests_of (Run p A (SetTo e v)) = on_cursor A e (λ cur. ask (Make p A cur (M.Assign v)) no_more)
tests_of (Run p A (InsertAfter e v)) = on_cursor A e (λ cur. ask (Make p A cur (M.Insert v)) no_more)
tests_of (Run p A (DeleteAt e)) = on_cursor A e (λ cur. ask (Make p A cur M.Delete) no_more)
tests_of (Evaluate A (Variable x)) = if_none (find name_cmp x A.vars) (because F.UnboundVariable) (λ b. passed)
tests_of (Evaluate A (GetKey e name)) = on_cursor A e (λ cur. condition (cur.last ≢ K.Head) (because F.GetOnHead) (condition (length cur.path ≤ 511) (because F.TooDeep) passed))
tests_of (Evaluate A (Index e i)) = on_cursor A e (λ cur. condition (length cur.path ≤ 511) (because F.TooDeep) (ask (SelectIndex A.tree (cursor (cur.path ++ ListT cur.last ∷ []) K.Head) i) no_more))
tests_of (Evaluate A (KeysOf e)) = on_cursor A e (λ cur. ask (SelectKeys A.tree cur) no_more)
tests_of (Evaluate A (ValuesOf e)) = on_cursor A e (λ cur. ask (SelectValues A.tree cur) no_more)
tests_of (SelectIndex c cur i) = along cur.path (walk c cur.last i) (λ k rest. in_node (content k c) (no_node k) (λ d. ask (SelectIndex d (cursor rest cur.last) i) no_more))
tests_of (SelectKeys c cur) = along cur.path (in_node (content (MapT cur.last) c) (because F.NoMap) (λ d. passed)) (λ k rest. in_node (content k c) (no_node k) (λ d. ask (SelectKeys d (cursor rest cur.last)) no_more))
tests_of (SelectValues c cur) = along cur.path (in_node (content (RegT cur.last) c) (because F.NoRegister) (λ d. passed)) (λ k rest. in_node (content k c) (no_node k) (λ d. ask (SelectValues d (cursor rest cur.last)) no_more))
tests_of (Make p A cur m) = ask (ApplyOp p A (record { id = record { counter = greatest A.ops + 1; replica = p }; deps = A.ops; cursor = cur; mutation = m })) no_more
tests_of (ApplyOp p A o) = ask (Operate A.tree o) no_more
tests_of (Operate c o) = along o.cursor.path (by_mutation c o o.mutation) (λ k rest. ask (Child c k) (at_child o rest))
tests_of _ = passed

-- all of it holds
abbrev pub Passes : Tests → Type 0
Passes passed = Unit {0}
Passes (stop why) = ⊥
Passes (condition P why t) = P × Passes t
Passes (ask q f) = (a : Answer) × IsAnswered q a × Passes (f a)

-- It stops at one place of it, premises being refused by R.
abbrev pub Stops : (Question → Cause → Type 0) → Tests → Cause → Type 0
Stops R passed why = ⊥
Stops R (stop is) why = why ≡ is
Stops R (condition P is t) why = ((P → ⊥) × (why ≡ is)) ⊎ (P × Stops R t why)
Stops R (ask q f) why = R q why ⊎ ((a : Answer) × IsAnswered q a × Stops R (f a) why)

-- refused, below so many premises
abbrev pub RefusedIn : ℕ → Question → Cause → Type 0
RefusedIn zero q why = ⊥
RefusedIn (suc n) q why = Stops (RefusedIn n) (tests_of q) why

-- premises and their derivations

pub first_is : (q : Question) (a : Answer) (js : List Judgement) (ps : Premises) → AllHold ps → conclusions ps ≡ gives q a ∷ js → IsAnswered q a
first_is q a js none h e = cc
first_is q a js (premise d ps) h e = record { derivation = d; holds = h.0; concludes = cc }

pub second_is : (j : Judgement) (q : Question) (a : Answer) (js : List Judgement) (ps : Premises) → AllHold ps → conclusions ps ≡ j ∷ gives q a ∷ js → IsAnswered q a
second_is j q a js none h e = cc
second_is j q a js (premise d ps) h e = first_is q a js ps h.1 (cc)

alone : (q : Question) (a : Answer) (ps : Premises) → AllHold ps → conclusions ps ≡ gives q a ∷ [] → Passes (ask q no_more)
alone q a ps h e = (a, first_is q a [] ps h e, tt)

from_cursor : {A : State} {e : Expr} (cur : Cursor) (js : List Judgement) (f : Cursor → Tests) (ps : Premises) → AllHold ps → conclusions ps ≡ gives (Evaluate A e) (ToBound (ACursor cur)) ∷ js → Passes (f cur) → Passes (on_cursor A e f)
from_cursor {A = A} {e = e} cur js f ps h is k = (ToBound (ACursor cur), first_is _ _ js ps h is, k)

-- what is tried, where a case of it is known: whatever holds of the case holds of the whole

command_is : (P : Tests → Type 0) (cs : List Cmd) (c : Cmd) (rest : List Cmd) (f : Cmd → Tests) → cs ≡ c ∷ rest → P (f c) → P (at_command cs f)
command_is P cs c rest f e h = rw e h

some_is : {X : Type 0} (P : Tests → Type 0) (o : Option X) (x : X) (why : Cause) (f : X → Tests) → o ≡ Some x → P (f x) → P (if_none o why f)
some_is P o x why f e h = rw e h

next_is : (P : Tests → Type 0) (n : Option Next) (j : Id) (f : Id → Tests) → n ≡ Some (To j) → P (f j) → P (to_next n f)
next_is P n j f e h = rw e h

counts : (P : Tests → Type 0) (s : Option (List Id)) (t u : Tests) → (IsEmptyIds s → ⊥) → P t → P (counted s t u)
counts P None t u h k = absurd (h tt)
counts P (Some []) t u h k = absurd (h tt)
counts P (Some (i ∷ is)) t u h k = k

passes_by : (P : Tests → Type 0) (s : Option (List Id)) (t u : Tests) → IsEmptyIds s → P u → P (counted s t u)
passes_by P None t u h k = k
passes_by P (Some []) t u h k = k
passes_by P (Some (i ∷ is)) t u h k = absurd h

path_ends : (P : Tests → Type 0) (ks : List Tagged) (t : Tests) (f : Tagged → List Tagged → Tests) → ks ≡ [] → P t → P (along ks t f)
path_ends P ks t f e h = rw e h

is_insert : (P : Tests → Type 0) (c : Context) (o : Op) (m : Mutation) (v : Value) → m ≡ M.Insert v → P (insert c o (next o.cursor.last c)) → P (by_mutation c o m)
is_insert P c o m v e h = rw e h

is_less : (P : Tests → Type 0) (r : Ordering) (t : Tests) → r ≡ Less → P t → P (if_less r t)
is_less P r t e h = rw e h

links_on : (P : Tests → Type 0) (c : Context) (o : Op) (x : Option Next) (n : Id) → x ≡ Some (To n) → P (if_less (id_cmp o.id n) (ask (Operate c (moved o [] (K.Elem n) o.mutation)) no_more)) → P (insert c o x)
links_on P c o x n e h = rw e h

inserts_later : (P : Tests → Type 0) (c : Context) (o : Op) (v : Value) (n : Id) → o.cursor.path ≡ [] → o.mutation ≡ M.Insert v → next o.cursor.last c ≡ Some (To n) → id_cmp o.id n ≡ Less
    → P (ask (Operate c (moved o [] (K.Elem n) o.mutation)) no_more) → P (tests_of (Operate c o))
inserts_later P c o v n e m f l h = path_ends P o.cursor.path _ _ e (is_insert P c o o.mutation v m (links_on P c o (next o.cursor.last c) n f (is_less P (id_cmp o.id n) _ l h)))

walks_on : (P : Tests → Type 0) (c : Context) (cur : Cursor) (i : ℕ) (j : Id) → cur.path ≡ [] → next cur.last c ≡ Some (To j)
    → P (counted (presence (K.Elem j) c) (ask (SelectIndex c (cursor [] (K.Elem j)) i) no_more) (ask (SelectIndex c (cursor [] (K.Elem j)) (suc i)) no_more)) → P (tests_of (SelectIndex c cur (suc i)))
walks_on P c cur i j e f h = path_ends P cur.path _ _ e (next_is P (next cur.last c) j _ f h)

-- a rule's premises pass all that is tried for its question
rule_passes : (r : Rule) (q : Question) (a : Answer) (ps : Premises) → Follows r q a (conclusions ps) → AllHold ps → Passes (tests_of q)
rule_passes R.Exec (Occur A (E.Exec p) _) a ps (c, rest, B, x3, x4, x5, x6) h = command_is Passes A.left c rest _ x3 (x4, alone _ _ ps h x5)
rule_passes R.Let (Run p A (LetIn x e)) a ps (b, x1, x2) h = alone _ _ ps h x1
rule_passes R.Var (Evaluate A (Variable x)) a ps (b, x1, x2, x3) h = rw x1 tt
rule_passes R.Doc (Evaluate A TheDoc) a ps x h = tt
rule_passes R.Get (Evaluate A (GetKey e name)) a ps (cur, x1, x2, x3, x4) h = from_cursor cur [] _ ps h x1 (x2, (x3, tt))
rule_passes R.Idx1 (Evaluate A (Index e i)) a ps (cur, new, x2, x3, x4) h = from_cursor cur _ _ ps h x3 (x2, (_, second_is _ _ _ [] ps h x3, tt))
rule_passes R.Idx2 (SelectIndex c cur i) a ps (k1, rest, d, new, x4, x5, x6, x7, x8) h = rw (x4, x5) (alone _ _ ps h x7)
rule_passes R.Idx3 (SelectIndex c cur (suc i)) a ps (j, new, x2, x3, x4, x5, x6) h = walks_on Passes c cur i j x2 x3 (counts Passes _ _ _ x4 (alone _ _ ps h x5))
rule_passes R.Idx4 (SelectIndex c cur (suc i)) a ps (j, new, x2, x3, x4, x5, x6) h = walks_on Passes c cur i j x2 x3 (passes_by Passes _ _ _ x4 (alone _ _ ps h x5))
rule_passes R.Idx5 (SelectIndex c cur zero) a ps (x0, x1, x2) h = rw x0 tt
rule_passes R.Keys1 (Evaluate A (KeysOf e)) a ps (cur, ks, x2, x3) h = from_cursor cur _ _ ps h x2 (_, second_is _ _ _ [] ps h x2, tt)
rule_passes R.Keys2 (SelectKeys c cur) a ps (d, x1, x2, x3, x4) h = rw (x1, x2) tt
rule_passes R.Keys3 (SelectKeys c cur) a ps (k1, rest, d, ks, x4, x5, x6, x7) h = rw (x4, x5) (alone _ _ ps h x6)
rule_passes R.Val1 (Evaluate A (ValuesOf e)) a ps (cur, vs, x2, x3) h = from_cursor cur _ _ ps h x2 (_, second_is _ _ _ [] ps h x2, tt)
rule_passes R.Val2 (SelectValues c cur) a ps (r, x1, x2, x3, x4) h = rw (x1, x2) tt
rule_passes R.Val3 (SelectValues c cur) a ps (k1, rest, d, vs, x4, x5, x6, x7) h = rw (x4, x5) (alone _ _ ps h x6)
rule_passes R.MakeAssign (Run p A (SetTo e v)) a ps (cur, B, x2, x3) h = from_cursor cur _ _ ps h x2 (_, second_is _ _ _ [] ps h x2, tt)
rule_passes R.MakeInsert (Run p A (InsertAfter e v)) a ps (cur, B, x2, x3) h = from_cursor cur _ _ ps h x2 (_, second_is _ _ _ [] ps h x2, tt)
rule_passes R.MakeDelete (Run p A (DeleteAt e)) a ps (cur, B, x2, x3) h = from_cursor cur _ _ ps h x2 (_, second_is _ _ _ [] ps h x2, tt)
rule_passes R.MakeOp (Make p A cur m) a ps (B, x1, x2) h = alone _ _ ps h x1
rule_passes R.ApplyLocal (ApplyOp p A o) a ps (t, x1, x2) h = alone _ _ ps h x1
rule_passes R.Send (Occur A (E.Send p) _) a ps (rest, x1, x2, x3) h = rw x1 (refl, tt)
rule_passes R.Recv (Occur A (E.Recv p q) sent) a ps (rest, x1, x2, x3) h = rw x1 (refl, tt)
rule_passes R.RecvOne (Occur A (E.Take p q i) sent) a ps (rest, o, x2, x3, x4, x5) h = rw (x2, x3) (refl, tt)
rule_passes R.ApplyRemote (Occur A (E.Apply p i) _) a ps (rest, o, t, x3, x4, x5, x6, x7, x8) h = rw (x3, x4) (refl, (x5, (x6, alone _ _ ps h x7)))
rule_passes R.Done (Occur A (E.Done p) _) a ps (rest, x1, x2, x3, x4) h = rw x1 (refl, (x2, tt))
rule_passes R.Descend (Operate c o) a ps (k1, rest, d, e, c2, x5, x6, x7) h = rw x5 (_, first_is _ _ _ ps h x6, (_, second_is _ _ _ _ ps h x6, tt))
rule_passes R.Assign (Operate c o) a ps (v, c1, s, c2, r, x5, x6, x7, x8, x9) h = rw (x5, x6) tt
rule_passes R.EmptyMap (Operate c o) a ps (c1, s, c2, x, x4, x5, x6, x7) h = rw (x4, x5) tt
rule_passes R.EmptyList (Operate c o) a ps (c1, s, c2, x, x4, x5, x6, x7) h = rw (x4, x5) tt
rule_passes R.Insert1 (Operate c o) a ps (v, Tail, d, x3, x4, x5, x6, x7, x8) h = rw (x3, x4, x5) tt
rule_passes R.Insert1 (Operate c o) a ps (v, To n, d, x3, x4, x5, x6, x7, x8) h = rw (x3, x4, x5, x6) tt
rule_passes R.Insert2 (Operate c o) a ps (v, n, d, x3, x4, x5, x6, x7, x8) h = inserts_later Passes c o v n x3 x4 x5 x6 (alone _ _ ps h x7)
rule_passes R.Delete (Operate c o) a ps (d, s, x2, x3, x4, x5) h = rw (x2, x3) tt
rule_passes r (Child c k) a ps x h = tt
rule_passes r (AddId c k i m) a ps x h = tt
rule_passes r (Presence c k) a ps x h = tt
rule_passes r (Clear c deps k) a ps x h = tt
rule_passes r (ClearAny c deps k) a ps x h = tt
rule_passes r (ClearElem c deps k) a ps x h = tt
rule_passes r (ClearMap c deps done) a ps x h = tt
rule_passes r (ClearList c deps k) a ps x h = tt
rule_passes _ _ a ps x h = absurd x

answered_passes : (q : Question) (a : Answer) → IsAnswered q a → Passes (tests_of q)
answered_passes q a s = passing s.derivation s.holds s.concludes
  where
    passing : (d : Derivation) → Holds d → conclusion d ≡ gives q a → Passes (tests_of q)
    passing (derive r (gives p b) ps) h e =
        let same : p ≡ q = ap asked e in
        subst (λ (x : Question). Passes (tests_of x)) same (rule_passes r p b ps h.0 h.1)

pub one_answer : (q : Question) (a b : Answer) → IsAnswered q a → IsAnswered q b → a ≡ b
one_answer q a b s t =
    let same : s.derivation ≡ t.derivation = same_derivation s.derivation t.derivation s.holds t.holds (ap asked s.concludes ∙ sym (ap asked t.concludes)) in
    ap answered (sym s.concludes ∙ ap conclusion same ∙ t.concludes)

-- what passes doesn't stop, where premises that are answered aren't refused
unstopped : (R : Question → Cause → Type 0) (t : Tests) (why : Cause) → ((q : Question) (a : Answer) (w : Cause) → IsAnswered q a → R q w → ⊥) → Passes t → Stops R t why → ⊥
unstopped R passed why u p s = s
unstopped R (stop is) why u p s = p
unstopped R (condition P is t) why u p (inl s) = s.0 p.0
unstopped R (condition P is t) why u p (inr s) = unstopped R t why u p.1 s.1
unstopped R (ask q f) why u p (inl s) = u q p.0 why p.1 s
unstopped R (ask q f) why u p (inr s) = unstopped R (f p.0) why u p.2 (subst (λ (a : Answer). Stops R (f a) why) (one_answer q s.0 p.0 s.1 p.1) s.2)

unrefused : (n : ℕ) (q : Question) (a : Answer) (why : Cause) → IsAnswered q a → RefusedIn n q why → ⊥
unrefused zero q a why d s = s
unrefused (suc n) q a why d s = unstopped (RefusedIn n) (tests_of q) why (λ p b w. unrefused n p b w) (answered_passes q a d) s

-- it stops at one place, where a premise is refused in one way and not answered then
one_stop : (R S : Question → Cause → Type 0) (t : Tests) (why other : Cause) → ((q : Question) (v w : Cause) → R q v → S q w → v ≡ w)
    → ((q : Question) (a : Answer) (w : Cause) → IsAnswered q a → R q w → ⊥) → ((q : Question) (a : Answer) (w : Cause) → IsAnswered q a → S q w → ⊥)
    → Stops R t why → Stops S t other → why ≡ other
one_stop R S passed why other o u v r s = absurd r
one_stop R S (stop is) why other o u v r s = r ∙ sym s
one_stop R S (condition P is t) why other o u v (inl r) (inl s) = r.1 ∙ sym s.1
one_stop R S (condition P is t) why other o u v (inl r) (inr s) = absurd (r.0 s.0)
one_stop R S (condition P is t) why other o u v (inr r) (inl s) = absurd (s.0 r.0)
one_stop R S (condition P is t) why other o u v (inr r) (inr s) = one_stop R S t why other o u v r.1 s.1
one_stop R S (ask q f) why other o u v (inl r) (inl s) = o q why other r s
one_stop R S (ask q f) why other o u v (inl r) (inr s) = absurd (u q s.0 why s.1 r)
one_stop R S (ask q f) why other o u v (inr r) (inl s) = absurd (v q r.0 other r.1 s)
one_stop R S (ask q f) why other o u v (inr r) (inr s) = one_stop R S (f r.0) why other o u v r.2 (subst (λ (a : Answer). Stops S (f a) other) (one_answer q s.0 r.0 s.1 r.1) s.2)

one_refusal : (n m : ℕ) (q : Question) (why other : Cause) → RefusedIn n q why → RefusedIn m q other → why ≡ other
one_refusal zero m q why other s u = absurd s
one_refusal (suc n) zero q why other s u = absurd u
one_refusal (suc n) (suc m) q why other s u = one_stop (RefusedIn n) (RefusedIn m) (tests_of q) why other (λ p v w. one_refusal n m p v w) (λ p a w. unrefused n p a w) (λ p a w. unrefused m p a w) s u

-- each refusal stops at its place

abbrev IsIn : Question → Cause → Type 0
IsIn q why = (n : ℕ) × RefusedIn n q why

-- what is evaluated first, and where it has to be a cursor
record Begins (q : Question) (A : State) (e : Expr) : Type 1 where
  after : Answer → Tests
  is : tests_of q ≡ ask (Evaluate A e) after
  stops : WantsCursor q → (b : Bound) → (IsCursor b → ⊥) → after (ToBound b) ≡ stop (because F.NotACursor)

no_cursor : (f : Cursor → Tests) (b : Bound) → (IsCursor b → ⊥) → if_cursor f (ToBound b) ≡ stop (because F.NotACursor)
no_cursor f (ACursor cur) h = absurd (h tt)
no_cursor f (Names ks) h = refl
no_cursor f (Pairs vs) h = refl

begins_with : (q : Question) (B : State) (d : Expr) (A : State) (e : Expr) (f : Cursor → Tests) → tests_of q ≡ on_cursor B d f → ◌≡◌ {A = Option (State × Expr)} (Some (B, d)) (Some (A, e)) → Begins q A e
begins_with q B d A e f t h = record { after = if_cursor f; is = t ∙ ap (λ (i : State × Expr). on_cursor i.0 i.1 f) (cc); stops = λ w. no_cursor f }

begins : (q : Question) (A : State) (e : Expr) → first_expr q ≡ Some (A, e) → Begins q A e
begins (Run p B (LetIn x d)) A e h = record { after = no_more; is = ap (λ (i : State × Expr). ask (Evaluate i.0 i.1) no_more) (cc); stops = λ w b n. absurd w }
begins (Run p B (SetTo d v)) A e h = begins_with _ B d A e _ refl h
begins (Run p B (InsertAfter d v)) A e h = begins_with _ B d A e _ refl h
begins (Run p B (DeleteAt d)) A e h = begins_with _ B d A e _ refl h
begins (Evaluate B (GetKey d name)) A e h = begins_with _ B d A e _ refl h
begins (Evaluate B (Index d i)) A e h = begins_with _ B d A e _ refl h
begins (Evaluate B (KeysOf d)) A e h = begins_with _ B d A e _ refl h
begins (Evaluate B (ValuesOf d)) A e h = begins_with _ B d A e _ refl h
begins q A e h = cc

yields : (A : State) (event : Event) (read : List Op) → IsYieldEvent event → (t : Tests) × (tests_of (Occur A event read) ≡ at_the_yield A t)
yields A (E.Exec p) read h = absurd h
yields A _ read h = (_, refl)

makes : (p : ℕ) (A : State) (c : Cmd) (e : Expr) (m : Mutation) → made_by c ≡ Some (e, m) → tests_of (Run p A c) ≡ on_cursor A e (λ cur. ask (Make p A cur m) no_more)
makes p A (SetTo d v) e m h = ap (λ (i : Expr × Mutation). on_cursor A i.0 (λ cur. ask (Make p A cur i.1) no_more)) (cc)
makes p A (InsertAfter d v) e m h = ap (λ (i : Expr × Mutation). on_cursor A i.0 (λ cur. ask (Make p A cur i.1) no_more)) (cc)
makes p A (DeleteAt d) e m h = ap (λ (i : Expr × Mutation). on_cursor A i.0 (λ cur. ask (Make p A cur i.1) no_more)) (cc)
makes p A c e m h = cc

ends : (R : Question → Cause → Type 0) (x : Option Next) (f : Id → Tests) → ((j : Id) → x ≢ Some (To j)) → Stops R (to_next x f) (because F.PastEnd)
ends R None f h = refl
ends R (Some Tail) f h = refl
ends R (Some (To j)) f h = absurd (h j refl)

at_cursor : {A : State} {e : Expr} (R : Question → Cause → Type 0) (cur : Cursor) (f : Cursor → Tests) (why : Cause) → IsAnswered (Evaluate A e) (ToBound (ACursor cur)) → Stops R (f cur) why → Stops R (on_cursor A e f) why
at_cursor R cur f why s h = inr (_, s, h)

abbrev At : ℕ → Cause → Tests → Type 0
At n why t = Stops (RefusedIn n) t why

refusal_stops : {q : Question} {why : Cause} → Refused q why → IsIn q why
refusal_stops (no_command {A = A} e) = (1, rw e refl)
refusal_stops (at_yield {A = A} {rest = rest} e) = (1, command_is (At 0 (because F.AtYield)) A.left Yield rest _ e (inl ((λ h. h refl), refl)))
refusal_stops (in_command {A = A} {c = c} {rest = rest} {why = why} e h r) = let x = refusal_stops r in (suc x.0, command_is (At x.0 why) A.left c rest _ e (inr (h, inl x.1)))
refusal_stops (no_yield {A = A} {event = event} {read = read} h e) = (1, rw ((yields A event read h).1, e) refl)
refusal_stops (not_at_yield {A = A} {event = event} {read = read} {c = c} {rest = rest} h e k) = (1, rw ((yields A event read h).1) (command_is (At 0 (because F.NotAtYield)) A.left c rest _ e (inl (k, refl))))
refusal_stops (not_acted {A = A} {rest = rest} e f) = (1, command_is (At 0 (because F.NotActed)) A.left Yield rest _ e (inr (refl, inl ((λ h. cc), refl))))
refusal_stops (not_received {A = A} {rest = rest} e f) = (1, command_is (At 0 (because F.NotReceived)) A.left Yield rest _ e (inr (refl, rw f refl)))
refusal_stops (not_offered {A = A} {rest = rest} e f) = (1, command_is (At 0 (because F.NotReceived)) A.left Yield rest _ e (inr (refl, rw f refl)))
refusal_stops (already_applied {A = A} {i = i} {rest = rest} {o = o} e f g) = (1, command_is (At 0 (because F.AlreadyApplied)) A.left Yield rest _ e (inr (refl, some_is (At 0 (because F.AlreadyApplied)) (op_of i A.recv) o _ _ f (inl ((λ h. cc), refl)))))
refusal_stops (deps_missing {A = A} {i = i} {rest = rest} {o = o} e f g h) = (1, command_is (At 0 (because F.DepsMissing)) A.left Yield rest _ e (inr (refl, some_is (At 0 (because F.DepsMissing)) (op_of i A.recv) o _ _ f (inr (g, inl (h, refl))))))
refusal_stops (in_received {A = A} {i = i} {rest = rest} {o = o} {why = why} e f g h r) =
    let x = refusal_stops r in
    (suc x.0, command_is (At x.0 why) A.left Yield rest _ e (inr (refl, some_is (At x.0 why) (op_of i A.recv) o _ _ f (inr (g, inr (h, inl x.1))))))
refusal_stops (in_first {q = q} {A = A} {e = e} is r) = let x = refusal_stops r in (suc x.0, rw ((begins q A e is).is) (inl x.1))
refusal_stops (not_a_cursor {q = q} {A = A} {e = e} {b = b} is w s h) = let x = begins q A e is in (1, rw (x.is) (inr (ToBound b, s, rw (x.stops w b h) refl)))
refusal_stops (in_making {p = p} {A = A} {c = c} {e = e} {m = m} {cur = cur} {why = why} is s r) = let x = refusal_stops r in (suc x.0, rw (makes p A c e m is) (at_cursor (RefusedIn x.0) cur _ why s (inl x.1)))
refusal_stops (in_made r) = let x = refusal_stops r in (suc x.0, inl x.1)
refusal_stops (in_applied r) = let x = refusal_stops r in (suc x.0, inl x.1)
refusal_stops (unbound e) = (1, rw e refl)
refusal_stops (get_on_head {cur = cur} s h) = (1, at_cursor (RefusedIn 0) cur _ _ s (inl ((λ k. k h), refl)))
refusal_stops (get_too_deep {cur = cur} s h l) = (1, at_cursor (RefusedIn 0) cur _ _ s (inr (h, inl ((λ k. omega arith), refl))))
refusal_stops (index_too_deep {cur = cur} s l) = (1, at_cursor (RefusedIn 0) cur _ _ s (inl ((λ k. omega arith), refl)))
refusal_stops (in_index {cur = cur} s l r) = let x = refusal_stops r in (suc x.0, at_cursor (RefusedIn x.0) cur _ _ s (inr (l, inl x.1)))
refusal_stops (in_keys {cur = cur} s r) = let x = refusal_stops r in (suc x.0, at_cursor (RefusedIn x.0) cur _ _ s (inl x.1))
refusal_stops (in_values {cur = cur} s r) = let x = refusal_stops r in (suc x.0, at_cursor (RefusedIn x.0) cur _ _ s (inl x.1))
refusal_stops (index_no_node e f) = (1, rw (e, f) refl)
refusal_stops (keys_no_node e f) = (1, rw (e, f) refl)
refusal_stops (values_no_node e f) = (1, rw (e, f) refl)
refusal_stops (index_below e f r) = let x = refusal_stops r in (suc x.0, rw (e, f) (inl x.1))
refusal_stops (keys_below e f r) = let x = refusal_stops r in (suc x.0, rw (e, f) (inl x.1))
refusal_stops (values_below e f r) = let x = refusal_stops r in (suc x.0, rw (e, f) (inl x.1))
refusal_stops (past_end {c = c} {cur = cur} e h) = (1, path_ends (At 0 (because F.PastEnd)) cur.path _ _ e (ends (RefusedIn 0) (next cur.last c) _ h))
refusal_stops (in_counted {c = c} {cur = cur} {i = i} {j = j} {why = why} e f h r) = let x = refusal_stops r in (suc x.0, walks_on (At x.0 why) c cur i j e f (counts (At x.0 why) _ _ _ h (inl x.1)))
refusal_stops (in_passed {c = c} {cur = cur} {i = i} {j = j} {why = why} e f h r) = let x = refusal_stops r in (suc x.0, walks_on (At x.0 why) c cur i j e f (passes_by (At x.0 why) _ _ _ h (inl x.1)))
refusal_stops (no_map e f) = (1, rw (e, f) refl)
refusal_stops (no_register e f) = (1, rw (e, f) refl)
refusal_stops (operate_below e s r) = let x = refusal_stops r in (suc x.0, rw e (inr (_, s, inl x.1)))
refusal_stops (not_in_list {c = c} {o = o} {v = v} e m f) = (1, path_ends (At 0 (because F.NotInList)) o.cursor.path _ _ e (is_insert (At 0 (because F.NotInList)) c o o.mutation v m (rw f refl)))
refusal_stops (insert_later {c = c} {o = o} {v = v} {n = n} {why = why} e m f l r) = let x = refusal_stops r in (suc x.0, inserts_later (At x.0 why) c o v n e m f l (inl x.1))

pub one_cause : (q : Question) (why other : Cause) → Refused q why → Refused q other → why ≡ other
one_cause q why other r s = let x = refusal_stops r in let y = refusal_stops s in one_refusal x.0 y.0 q why other x.1 y.1

parts : (j : Judgement) → j ≡ gives (asked j) (answered j)
parts (gives q a) = refl

pub refused_has_none : (q : Question) (why : Cause) → Refused q why → (d : Derivation) → Holds d → asked (conclusion d) ≢ q
refused_has_none q why r d h e =
    let x = refusal_stops r in
    let is : conclusion d ≡ gives q (answered (conclusion d)) = parts (conclusion d) ∙ ap (λ (p : Question). gives p (answered (conclusion d))) e in
    unrefused x.0 q (answered (conclusion d)) why (record { derivation = d; holds = h; concludes = is }) x.1

pub stuck_has_none : (network new : List State) (event : Event) (why : Cause) (rows : List (Rule × ℕ)) → IsStuck network event why → Step network event new rows → ⊥
stuck_has_none network new event why rows (no_replica e) s = let f = s.is_there in cc
stuck_has_none network new event why rows (no_sender e) s = let f = s.reads in cc
stuck_has_none network new event why rows (refused {A = A} {read = read} e f r) s =
    let before : s.before ≡ A = same_Some s.before A (sym s.is_there ∙ e) in
    let reads : s.read ≡ read = same_Some s.read read (sym s.reads ∙ f) in
    refused_has_none (Occur A event read) why r s.derivation s.holds (ap asked s.concludes ∙ λ i. Occur (before i) event (reads i))

pub one_stuck : (network : List State) (event : Event) (why other : Cause) → IsStuck network event why → IsStuck network event other → why ≡ other
one_stuck network event why other (no_replica e) (no_replica f) = refl
one_stuck network event why other (no_replica e) (no_sender f) = refl
one_stuck network event why other (no_replica e) (refused f g s) = cc
one_stuck network event why other (no_sender e) (no_replica f) = refl
one_stuck network event why other (no_sender e) (no_sender f) = refl
one_stuck network event why other (no_sender e) (refused f g s) = cc
one_stuck network event why other (refused e f r) (no_replica g) = cc
one_stuck network event why other (refused e f r) (no_sender g) = cc
one_stuck network event why other (refused {A = A} {read = read} e f r) (refused {A = B} {read = sent} g h s) =
    let same : B ≡ A = same_Some B A (sym g ∙ e) in
    let reads : sent ≡ read = same_Some sent read (sym h ∙ f) in
    one_cause (Occur A event read) why other r (subst (λ (x : State × List Op). Refused (Occur x.0 event x.1) other) (λ i. (same i, reads i)) s)

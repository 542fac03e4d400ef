-- One register: an assignment, and what is read and deleted after it.
use Rattle.std.specs.Prelude.{ℕ, List, [], ◌∷◌, codes, true, false}
use Rattle.jc_rules.specs.declared.id.Id.{Id}
use Rattle.jc_rules.specs.declared.key.Key.{Key}
use Rattle.jc_rules.specs.declared.key.Key.TheVariants as K
use Rattle.jc_rules.specs.declared.key.Tagged.TheVariants.{MapT}
use Rattle.jc_rules.specs.declared.operation.Mutation.TheVariants as M
use Rattle.jc_rules.specs.declared.operation.Op.{Op}
use Rattle.jc_rules.specs.declared.operation.Event.TheVariants as E
use Rattle.jc_rules.specs.declared.rule.Rule.TheVariants as R
use Rattle.jc_rules.specs.declared.value.Value.{Value}
use Rattle.jc_rules.specs.declared.value.Value.TheVariants as V
use Rattle.jc_rules.specs.Context.{Context, context, no_child, child}
use Rattle.jc_rules.specs.Syntax.{Cmd, TheDoc, Variable, GetKey, KeysOf, ValuesOf, LetIn, SetTo, DeleteAt, Yield}
use Rattle.jc_rules.specs.State.{State, start, Bound, ACursor, Names, Pairs}
use Rattle.jc_rules.specs.Table.{cursor}
use Rattle.jc_rules.specs.Examples.{IsExample, by_a, by_b, alone, met}

abbrev pub key_a : Key
key_a = K.Name (codes "a")

abbrev pub one : Value
one = V.Number (codes "1")

-- the operation of `doc.get("a") := 1`
abbrev pub assign_one : Op
assign_one = record { id = by_a 1; deps = []; cursor = cursor (MapT K.Doc ∷ []) key_a; mutation = M.Assign one }

-- the document with 1 under "a"
abbrev pub tree_of_one : Context
tree_of_one = context
    (child K.Doc (context no_child no_child ((key_a, (by_a 1, one) ∷ []) ∷ []) ((key_a, by_a 1 ∷ []) ∷ []) []) no_child)
    no_child [] ((K.Doc, by_a 1 ∷ []) ∷ []) []

-- after the assignment
abbrev pub assigned : List Cmd → List (List ℕ × Bound) → State
assigned rest vars = alone rest vars tree_of_one (by_a 1 ∷ []) (assign_one ∷ [])

-- `doc.get("a") := 1` on a fresh replica
abbrev pub FirstAssignment : Type 0
FirstAssignment = IsExample
    (start (SetTo (GetKey TheDoc (codes "a")) one ∷ [])) (E.Exec 0) []
    (assigned [] [])
    ((R.Exec, 0) ∷ (R.MakeAssign, 1)
    ∷ (R.Get, 2) ∷ (R.Doc, 3)
    ∷ (R.MakeOp, 2) ∷ (R.ApplyLocal, 3)
    ∷ (R.Descend, 4) ∷ (R.ChildMap, 5)
    ∷ (R.Assign, 5) ∷ (R.ClearNone, 6) ∷ (R.AddId1, 6) ∷ (R.Presence2, 7) ∷ (R.ChildReg, 6)
    ∷ (R.AddId1, 5) ∷ (R.Presence2, 6) ∷ [])

-- then `let s = doc.keys`
abbrev pub KeysOfDocument : Type 0
KeysOfDocument = IsExample
    (assigned (LetIn (codes "s") (KeysOf TheDoc) ∷ SetTo (Variable (codes "s")) one ∷ []) []) (E.Exec 0) []
    (assigned (SetTo (Variable (codes "s")) one ∷ []) ((codes "s", Names (codes "a" ∷ [])) ∷ []))
    ((R.Exec, 0) ∷ (R.Let, 1) ∷ (R.Keys1, 2) ∷ (R.Doc, 3) ∷ (R.Keys2, 3) ∷ [])

-- or `let v = doc.get("a").values`
abbrev pub ValuesOfRegister : Type 0
ValuesOfRegister = IsExample
    (assigned (LetIn (codes "v") (ValuesOf (GetKey TheDoc (codes "a"))) ∷ []) []) (E.Exec 0) []
    (assigned [] ((codes "v", Pairs ((by_a 1, one) ∷ [])) ∷ []))
    ((R.Exec, 0) ∷ (R.Let, 1) ∷ (R.Val1, 2) ∷ (R.Get, 3) ∷ (R.Doc, 4) ∷ (R.Val3, 3) ∷ (R.Val2, 4) ∷ [])

abbrev pub delete_x : Cmd
delete_x = DeleteAt (Variable (codes "x"))

abbrev pub let_x_doc : Cmd
let_x_doc = LetIn (codes "x") TheDoc

abbrev pub x_at_a : List (List ℕ × Bound)
x_at_a = (codes "x", ACursor (cursor (MapT K.Doc ∷ []) key_a)) ∷ []

-- `let x = x.get("a")` where x is the document
abbrev pub VariableGoesOn : Type 0
VariableGoesOn = IsExample
    (assigned
    (LetIn (codes "x") (GetKey (Variable (codes "x")) (codes "a")) ∷ delete_x ∷ let_x_doc ∷ [])
    ((codes "x", ACursor (cursor [] K.Doc)) ∷ []))
    (E.Exec 0) []
    (assigned (delete_x ∷ let_x_doc ∷ []) x_at_a)
    ((R.Exec, 0) ∷ (R.Let, 1) ∷ (R.Get, 2) ∷ (R.Var, 3) ∷ [])

-- the operation of `x.delete`
abbrev pub delete_a : Op
delete_a = record { id = by_a 2; deps = by_a 1 ∷ []; cursor = cursor (MapT K.Doc ∷ []) key_a; mutation = M.Delete }

-- the document without the value
abbrev pub tree_of_none : Context
tree_of_none = context
    (child K.Doc (context no_child no_child ((key_a, []) ∷ []) ((key_a, []) ∷ []) []) no_child)
    no_child [] ((K.Doc, by_a 1 ∷ []) ∷ []) []

-- then `x.delete`
abbrev pub RegisterDeleted : Type 0
RegisterDeleted = IsExample
    (assigned (delete_x ∷ let_x_doc ∷ []) x_at_a) (E.Exec 0) []
    (alone (let_x_doc ∷ []) x_at_a tree_of_none (by_a 1 ∷ by_a 2 ∷ []) (assign_one ∷ delete_a ∷ []))
    ((R.Exec, 0) ∷ (R.MakeDelete, 1)
    ∷ (R.Var, 2)
    ∷ (R.MakeOp, 2) ∷ (R.ApplyLocal, 3)
    ∷ (R.Descend, 4) ∷ (R.ChildGet, 5)
    ∷ (R.Delete, 5) ∷ (R.ClearElem, 6)
    ∷ (R.ClearAny, 7) ∷ (R.ClearNone, 8) ∷ (R.ClearNone, 8) ∷ (R.ClearReg, 8)
    ∷ (R.Presence1, 7)
    ∷ (R.AddId2, 5) ∷ [])

-- the operation of `doc.get("a") := 2` after that of 1
abbrev pub assign_two : Op
assign_two = record {
  id = by_a 2;
  deps = by_a 1 ∷ [];
  cursor = cursor (MapT K.Doc ∷ []) key_a;
  mutation = M.Assign (V.Number (codes "2"));
}

-- the document with 2 in the place of 1
abbrev pub tree_of_two : Context
tree_of_two = context
    (child K.Doc (context no_child no_child
    ((key_a, (by_a 2, V.Number (codes "2")) ∷ []) ∷ [])
    ((key_a, by_a 1 ∷ by_a 2 ∷ []) ∷ []) []) no_child)
    no_child [] ((K.Doc, by_a 1 ∷ by_a 2 ∷ []) ∷ []) []

-- b, which received both and applied the first
abbrev pub received : State
received = record {
  left = Yield ∷ [];
  acted = true;
  vars = [];
  tree = tree_of_one;
  ops = by_a 1 ∷ [];
  queue = [];
  send = [];
  recv = assign_one ∷ assign_two ∷ [];
}

-- `b.apply(2, a)`
abbrev pub LaterAssignment : Type 0
LaterAssignment = IsExample
    received (E.Apply 1 (by_a 2)) []
    (record received { tree = tree_of_two; ops = by_a 1 ∷ by_a 2 ∷ [] })
    ((R.ApplyRemote, 0)
    ∷ (R.Descend, 1) ∷ (R.ChildGet, 2)
    ∷ (R.Assign, 2) ∷ (R.ClearReg, 3) ∷ (R.AddId1, 3) ∷ (R.Presence1, 4) ∷ (R.ChildGet, 3)
    ∷ (R.AddId1, 2) ∷ (R.Presence1, 3) ∷ [])

-- b assigned 3 there meanwhile: a, which made both of its own, keeps its value and b's, whose identifier comes first
abbrev pub assign_three : Op
assign_three = record {
  id = by_b 1;
  deps = [];
  cursor = cursor (MapT K.Doc ∷ []) key_a;
  mutation = M.Assign (V.Number (codes "3"));
}

abbrev pub both_values : List (Id × Value)
both_values = (by_b 1, V.Number (codes "3")) ∷ (by_a 2, V.Number (codes "2")) ∷ []

abbrev pub tree_of_both : Context
tree_of_both = context
    (child K.Doc (context no_child no_child
    ((key_a, both_values) ∷ [])
    ((key_a, by_a 1 ∷ by_b 1 ∷ by_a 2 ∷ []) ∷ []) []) no_child)
    no_child [] ((K.Doc, by_a 1 ∷ by_b 1 ∷ by_a 2 ∷ []) ∷ []) []

abbrev pub with_both : State
with_both = met tree_of_both (by_a 1 ∷ by_b 1 ∷ by_a 2 ∷ []) (assign_one ∷ assign_two ∷ []) (assign_three ∷ [])

-- `a.apply(1, b)`
abbrev pub ConcurrentAssignment : Type 0
ConcurrentAssignment = IsExample
    (met tree_of_two (by_a 1 ∷ by_a 2 ∷ []) (assign_one ∷ assign_two ∷ []) (assign_three ∷ []))
    (E.Apply 0 (by_b 1)) []
    with_both
    ((R.ApplyRemote, 0)
    ∷ (R.Descend, 1) ∷ (R.ChildGet, 2)
    ∷ (R.Assign, 2) ∷ (R.ClearReg, 3) ∷ (R.AddId1, 3) ∷ (R.Presence1, 4) ∷ (R.ChildGet, 3)
    ∷ (R.AddId1, 2) ∷ (R.Presence1, 3) ∷ [])

-- then, after the yield, `let v = doc.get("a").values`
abbrev pub ValuesOfBoth : Type 0
ValuesOfBoth = IsExample
    (record with_both { left = LetIn (codes "v") (ValuesOf (GetKey TheDoc (codes "a"))) ∷ []; acted = false })
    (E.Exec 0) []
    (record with_both { left = []; acted = false; vars = (codes "v", Pairs both_values) ∷ [] })
    ((R.Exec, 0) ∷ (R.Let, 1) ∷ (R.Val1, 2) ∷ (R.Get, 3) ∷ (R.Doc, 4) ∷ (R.Val3, 3) ∷ (R.Val2, 4) ∷ [])

-- `doc.get("b") := 1` after `x.delete`: `let s = doc.keys` passes over the name that was deleted
abbrev pub key_b : Key
key_b = K.Name (codes "b")

abbrev pub assign_b : Op
assign_b = record {
  id = by_a 3;
  deps = by_a 1 ∷ by_a 2 ∷ [];
  cursor = cursor (MapT K.Doc ∷ []) key_b;
  mutation = M.Assign one;
}

abbrev pub tree_of_b : Context
tree_of_b = context
    (child K.Doc (context no_child no_child
    ((key_a, []) ∷ (key_b, (by_a 3, one) ∷ []) ∷ [])
    ((key_a, []) ∷ (key_b, by_a 3 ∷ []) ∷ []) []) no_child)
    no_child [] ((K.Doc, by_a 1 ∷ by_a 3 ∷ []) ∷ []) []

abbrev pub assigned_b : List Cmd → List (List ℕ × Bound) → State
assigned_b rest vars =
    alone rest vars tree_of_b (by_a 1 ∷ by_a 2 ∷ by_a 3 ∷ []) (assign_one ∷ delete_a ∷ assign_b ∷ [])

abbrev pub KeysPastDeleted : Type 0
KeysPastDeleted = IsExample
    (assigned_b (LetIn (codes "s") (KeysOf TheDoc) ∷ []) x_at_a) (E.Exec 0) []
    (assigned_b [] ((codes "s", Names (codes "b" ∷ [])) ∷ x_at_a))
    ((R.Exec, 0) ∷ (R.Let, 1) ∷ (R.Keys1, 2) ∷ (R.Doc, 3) ∷ (R.Keys2, 3) ∷ [])

-- `doc := 1` on a fresh replica: a register for the whole document
abbrev pub assign_document : Op
assign_document = record { id = by_a 1; deps = []; cursor = cursor [] K.Doc; mutation = M.Assign one }

abbrev pub AssignmentOfDocument : Type 0
AssignmentOfDocument = IsExample
    (start (SetTo TheDoc one ∷ [])) (E.Exec 0) []
    (alone [] []
    (context no_child no_child ((K.Doc, (by_a 1, one) ∷ []) ∷ []) ((K.Doc, by_a 1 ∷ []) ∷ []) [])
    (by_a 1 ∷ []) (assign_document ∷ []))
    ((R.Exec, 0) ∷ (R.MakeAssign, 1)
    ∷ (R.Doc, 2)
    ∷ (R.MakeOp, 2) ∷ (R.ApplyLocal, 3)
    ∷ (R.Assign, 4) ∷ (R.ClearNone, 5) ∷ (R.AddId1, 5) ∷ (R.Presence2, 6) ∷ (R.ChildReg, 5) ∷ [])

-- Two replicas that exchange operations. Replica a makes a list under "l" and then inserts "x" at its head, while b
-- inserts "y" there.
use Rattle.std.specs.Prelude.{List, [], ◌∷◌, codes, true}
use Rattle.jc_rules.specs.declared.id.Id.{Id}
use Rattle.jc_rules.specs.declared.key.Key.{Key}
use Rattle.jc_rules.specs.declared.key.Key.TheVariants.{Doc, Head, Name, Elem}
use Rattle.jc_rules.specs.declared.key.Next.TheVariants.{Tail, Elem as To}
use Rattle.jc_rules.specs.declared.key.Tagged.TheVariants.{MapT, ListT}
use Rattle.jc_rules.specs.declared.operation.Mutation.TheVariants as M
use Rattle.jc_rules.specs.declared.operation.Op.{Op}
use Rattle.jc_rules.specs.declared.operation.Event.TheVariants as E
use Rattle.jc_rules.specs.declared.rule.Rule.TheVariants as R
use Rattle.jc_rules.specs.declared.value.Value.{Value}
use Rattle.jc_rules.specs.declared.value.Value.TheVariants as V
use Rattle.jc_rules.specs.Context.{Context, context, no_child, child, empty_list}
use Rattle.jc_rules.specs.Syntax.{Cmd, Expr, TheDoc, GetKey, Index, InsertAfter, Yield}
use Rattle.jc_rules.specs.State.{State, start}
use Rattle.jc_rules.specs.Step.{Step}
use Rattle.jc_rules.specs.Table.{cursor}
use Rattle.jc_rules.specs.Examples.{IsExample, by_a, by_b, alone, met}

abbrev pub key_l : Key
key_l = Name (codes "l")

abbrev pub text_x : Value
text_x = V.Str (codes "x")

abbrev pub text_y : Value
text_y = V.Str (codes "y")

-- `doc.get("l").idx(0)`
abbrev pub at_head : Expr
at_head = Index (GetKey TheDoc (codes "l")) 0

-- the operations
abbrev pub make_list : Op
make_list = record { id = by_a 1; deps = []; cursor = cursor (MapT Doc ∷ []) key_l; mutation = M.Assign V.EmptyList }

abbrev pub insert_x : Op
insert_x = record {
  id = by_a 2;
  deps = by_a 1 ∷ [];
  cursor = cursor (MapT Doc ∷ ListT key_l ∷ []) Head;
  mutation = M.Insert text_x;
}

abbrev pub insert_y : Op
insert_y = record {
  id = by_b 2;
  deps = by_a 1 ∷ [];
  cursor = cursor (MapT Doc ∷ ListT key_l ∷ []) Head;
  mutation = M.Insert text_y;
}

-- the document with this list under "l", and with this presence set of "l" and of the document itself
abbrev pub tree_of : Context → List Id → Context
tree_of list s = context
    (child Doc (context no_child (child key_l list no_child) [] ((key_l, s) ∷ []) []) no_child)
    no_child [] ((Doc, s) ∷ []) []

-- a list of one element
abbrev pub list_of_one : Id → Value → Context
list_of_one i v = context no_child no_child
    ((Elem i, (i, v) ∷ []) ∷ [])
    ((Elem i, i ∷ []) ∷ [])
    ((Head, To i) ∷ (Elem i, Tail) ∷ [])

-- the new list, the list of each replica after its own insert, and the list of both
abbrev pub new_tree : Context
new_tree = tree_of empty_list (by_a 1 ∷ [])

abbrev pub tree_of_x : Context
tree_of_x = tree_of (list_of_one (by_a 2) text_x) (by_a 1 ∷ by_a 2 ∷ [])

abbrev pub tree_of_y : Context
tree_of_y = tree_of (list_of_one (by_b 2) text_y) (by_a 1 ∷ by_b 2 ∷ [])

abbrev pub tree_of_both : Context
tree_of_both = tree_of
    (context no_child no_child
    ((Elem (by_a 2), (by_a 2, text_x) ∷ []) ∷ (Elem (by_b 2), (by_b 2, text_y) ∷ []) ∷ [])
    ((Elem (by_a 2), by_a 2 ∷ []) ∷ (Elem (by_b 2), by_b 2 ∷ []) ∷ [])
    ((Head, To (by_b 2)) ∷ (Elem (by_a 2), Tail) ∷ (Elem (by_b 2), To (by_a 2)) ∷ []))
    (by_a 1 ∷ by_a 2 ∷ by_b 2 ∷ [])

-- a after its assignment: `yield; doc.get("l").idx(0).insertAfter("x"); yield` is left
abbrev pub a_from_x : List Cmd
a_from_x = InsertAfter at_head text_x ∷ Yield ∷ []

abbrev pub a_made : State
a_made = alone (Yield ∷ a_from_x) [] new_tree (by_a 1 ∷ []) (make_list ∷ [])

abbrev pub a_offering : State
a_offering = record a_made { acted = true; send = make_list ∷ [] }

abbrev pub a_went_on : State
a_went_on = record a_made { left = a_from_x; send = make_list ∷ [] }

-- `a.send`
abbrev pub SendsMade : Type 0
SendsMade = IsExample a_made (E.Send 0) [] a_offering ((R.Send, 0) ∷ [])

-- `a.done`
abbrev pub YieldEnds : Type 0
YieldEnds = IsExample a_offering (E.Done 0) [] a_went_on ((R.Done, 0) ∷ [])

-- b from its start on: `yield; doc.get("l").idx(0).insertAfter("y"); yield`
abbrev pub b_script : List Cmd
b_script = Yield ∷ InsertAfter at_head text_y ∷ Yield ∷ []

abbrev pub b_received : State
b_received = record (start b_script) { acted = true; recv = make_list ∷ [] }

abbrev pub b_applied : State
b_applied = record b_received { tree = new_tree; ops = by_a 1 ∷ [] }

-- `b.recv(a)`
abbrev pub ReceivesOffered : Type 0
ReceivesOffered = IsExample (start b_script) (E.Recv 1 0) (make_list ∷ []) b_received ((R.Recv, 0) ∷ [])

-- `b.take(a, 1, a)`: it offers no other, so this comes to the same, by another rule
abbrev pub TakesOffered : Type 0
TakesOffered = IsExample (start b_script) (E.Take 1 0 (by_a 1)) (make_list ∷ []) b_received ((R.RecvOne, 0) ∷ [])

-- `a.recv(a)`, as a step of a network of a alone: a receives what it offers itself
abbrev pub ReceivesOwn : Type 0
ReceivesOwn = Step
    (a_offering ∷ []) (E.Recv 0 0)
    (record a_offering { recv = make_list ∷ [] } ∷ [])
    ((R.Recv, 0) ∷ [])

-- `b.apply(1, a)`
abbrev pub AppliesReceived : Type 0
AppliesReceived = IsExample b_received (E.Apply 1 (by_a 1)) [] b_applied
    ((R.ApplyRemote, 0)
    ∷ (R.Descend, 1) ∷ (R.ChildMap, 2)
    ∷ (R.EmptyList, 2)
    ∷ (R.ClearElem, 3) ∷ (R.ClearAny, 4) ∷ (R.ClearNone, 5) ∷ (R.ClearNone, 5) ∷ (R.ClearNone, 5) ∷ (R.Presence2, 4)
    ∷ (R.AddId1, 3) ∷ (R.Presence1, 4)
    ∷ (R.ChildList, 3)
    ∷ (R.AddId1, 2) ∷ (R.Presence2, 3) ∷ [])

-- `b.apply(2, a)`: b's element has the greater identifier, so a's goes past it
abbrev pub ConcurrentInsert : Type 0
ConcurrentInsert = IsExample
    (met tree_of_y (by_a 1 ∷ by_b 2 ∷ []) (insert_y ∷ []) (make_list ∷ insert_x ∷ [])) (E.Apply 1 (by_a 2)) []
    (met tree_of_both (by_a 1 ∷ by_a 2 ∷ by_b 2 ∷ []) (insert_y ∷ []) (make_list ∷ insert_x ∷ []))
    ((R.ApplyRemote, 0)
    ∷ (R.Descend, 1) ∷ (R.ChildGet, 2)
    ∷ (R.Descend, 2) ∷ (R.ChildGet, 3)
    ∷ (R.Insert2, 3) ∷ (R.Insert1, 4)
    ∷ (R.Assign, 5) ∷ (R.ClearNone, 6) ∷ (R.AddId1, 6) ∷ (R.Presence2, 7) ∷ (R.ChildReg, 6)
    ∷ (R.AddId1, 3) ∷ (R.Presence1, 4)
    ∷ (R.AddId1, 2) ∷ (R.Presence1, 3) ∷ [])

-- `a.apply(2, b)`: b's element goes before a's
abbrev pub InsertBeforeLesser : Type 0
InsertBeforeLesser = IsExample
    (met tree_of_x (by_a 1 ∷ by_a 2 ∷ []) (make_list ∷ insert_x ∷ []) (insert_y ∷ [])) (E.Apply 0 (by_b 2)) []
    (met tree_of_both (by_a 1 ∷ by_a 2 ∷ by_b 2 ∷ []) (make_list ∷ insert_x ∷ []) (insert_y ∷ []))
    ((R.ApplyRemote, 0)
    ∷ (R.Descend, 1) ∷ (R.ChildGet, 2)
    ∷ (R.Descend, 2) ∷ (R.ChildGet, 3)
    ∷ (R.Insert1, 3) ∷ (R.Assign, 4) ∷ (R.ClearNone, 5) ∷ (R.AddId1, 5) ∷ (R.Presence2, 6) ∷ (R.ChildReg, 5)
    ∷ (R.AddId1, 3) ∷ (R.Presence1, 4)
    ∷ (R.AddId1, 2) ∷ (R.Presence1, 3) ∷ [])

-- a, had it applied b's insert before its own: its identifier is above each that it applied, so its element goes before
-- b's
abbrev pub insert_later : Op
insert_later = record {
  id = by_a 3;
  deps = by_a 1 ∷ by_b 2 ∷ [];
  cursor = cursor (MapT Doc ∷ ListT key_l ∷ []) Head;
  mutation = M.Insert text_x;
}

abbrev pub tree_later : Context
tree_later = tree_of
    (context no_child no_child
    ((Elem (by_b 2), (by_b 2, text_y) ∷ []) ∷ (Elem (by_a 3), (by_a 3, text_x) ∷ []) ∷ [])
    ((Elem (by_b 2), by_b 2 ∷ []) ∷ (Elem (by_a 3), by_a 3 ∷ []) ∷ [])
    ((Head, To (by_a 3)) ∷ (Elem (by_b 2), Tail) ∷ (Elem (by_a 3), To (by_b 2)) ∷ []))
    (by_a 1 ∷ by_b 2 ∷ by_a 3 ∷ [])

abbrev pub a_applied : State
a_applied = record a_went_on { tree = tree_of_y; ops = by_a 1 ∷ by_b 2 ∷ []; recv = insert_y ∷ [] }

abbrev pub InsertLater : Type 0
InsertLater = IsExample
    a_applied (E.Exec 0) []
    (record a_applied {
      left = Yield ∷ [];
      tree = tree_later;
      ops = by_a 1 ∷ by_b 2 ∷ by_a 3 ∷ [];
      queue = make_list ∷ insert_later ∷ [];
    })
    ((R.Exec, 0) ∷ (R.MakeInsert, 1)
    ∷ (R.Idx1, 2) ∷ (R.Get, 3) ∷ (R.Doc, 4) ∷ (R.Idx2, 3) ∷ (R.Idx2, 4) ∷ (R.Idx5, 5)
    ∷ (R.MakeOp, 2) ∷ (R.ApplyLocal, 3)
    ∷ (R.Descend, 4) ∷ (R.ChildGet, 5)
    ∷ (R.Descend, 5) ∷ (R.ChildGet, 6)
    ∷ (R.Insert1, 6) ∷ (R.Assign, 7) ∷ (R.ClearNone, 8) ∷ (R.AddId1, 8) ∷ (R.Presence2, 9) ∷ (R.ChildReg, 8)
    ∷ (R.AddId1, 6) ∷ (R.Presence1, 7)
    ∷ (R.AddId1, 5) ∷ (R.Presence1, 6) ∷ [])

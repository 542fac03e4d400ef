-- One replica's list: two elements are inserted, and the first is deleted.
use Rattle.std.specs.Prelude.{List, [], ◌∷◌, codes}
use Rattle.jc_rules.specs.declared.key.Key.TheVariants.{Doc, Head, Elem}
use Rattle.jc_rules.specs.declared.key.Next.TheVariants.{Tail, Elem as To}
use Rattle.jc_rules.specs.declared.key.Tagged.TheVariants.{ListT}
use Rattle.jc_rules.specs.declared.operation.Mutation.TheVariants as M
use Rattle.jc_rules.specs.declared.operation.Op.{Op}
use Rattle.jc_rules.specs.declared.operation.Event.TheVariants as E
use Rattle.jc_rules.specs.declared.rule.Rule.TheVariants as R
use Rattle.jc_rules.specs.declared.value.Value.{Value}
use Rattle.jc_rules.specs.declared.value.Value.TheVariants as V
use Rattle.jc_rules.specs.Context.{Context, context, no_child, child, empty, empty_list}
use Rattle.jc_rules.specs.Syntax.{Cmd, TheDoc, Index, LetIn, SetTo, InsertAfter, DeleteAt}
use Rattle.jc_rules.specs.State.{State, start, ACursor}
use Rattle.jc_rules.specs.Table.{cursor}
use Rattle.jc_rules.specs.Examples.{IsExample, by_a, alone}

abbrev pub text_x : Value
text_x = V.Str (codes "x")

abbrev pub text_y : Value
text_y = V.Str (codes "y")

-- the script `doc := []; doc.idx(0).insertAfter("x"); doc.idx(1).insertAfter("y"); doc.idx(1).delete;
-- let z = doc.idx(1); let w = doc.idx(2)`, and what is left of it after each event
abbrev pub left_5 : List Cmd
left_5 = LetIn (codes "w") (Index TheDoc 2) ∷ []

abbrev pub left_4 : List Cmd
left_4 = LetIn (codes "z") (Index TheDoc 1) ∷ left_5

abbrev pub left_3 : List Cmd
left_3 = DeleteAt (Index TheDoc 1) ∷ left_4

abbrev pub left_2 : List Cmd
left_2 = InsertAfter (Index TheDoc 1) text_y ∷ left_3

abbrev pub left_1 : List Cmd
left_1 = InsertAfter (Index TheDoc 0) text_x ∷ left_2

abbrev pub script : List Cmd
script = SetTo TheDoc V.EmptyList ∷ left_1

-- the operations
abbrev pub make_list : Op
make_list = record { id = by_a 1; deps = []; cursor = cursor [] Doc; mutation = M.Assign V.EmptyList }

abbrev pub insert_x : Op
insert_x = record { id = by_a 2; deps = by_a 1 ∷ []; cursor = cursor (ListT Doc ∷ []) Head; mutation = M.Insert text_x }

abbrev pub insert_y : Op
insert_y = record {
  id = by_a 3;
  deps = by_a 1 ∷ by_a 2 ∷ [];
  cursor = cursor (ListT Doc ∷ []) (Elem (by_a 2));
  mutation = M.Insert text_y;
}

abbrev pub delete_x : Op
delete_x = record {
  id = by_a 4;
  deps = by_a 1 ∷ by_a 2 ∷ by_a 3 ∷ [];
  cursor = cursor (ListT Doc ∷ []) (Elem (by_a 2));
  mutation = M.Delete;
}

-- the document after each of them
abbrev pub tree_1 : Context
tree_1 = context no_child (child Doc empty_list no_child) [] ((Doc, by_a 1 ∷ []) ∷ []) []

abbrev pub tree_2 : Context
tree_2 = context no_child
    (child Doc (context no_child no_child
    ((Elem (by_a 2), (by_a 2, text_x) ∷ []) ∷ [])
    ((Elem (by_a 2), by_a 2 ∷ []) ∷ [])
    ((Head, To (by_a 2)) ∷ (Elem (by_a 2), Tail) ∷ [])) no_child)
    [] ((Doc, by_a 1 ∷ by_a 2 ∷ []) ∷ []) []

abbrev pub tree_3 : Context
tree_3 = context no_child
    (child Doc (context no_child no_child
    ((Elem (by_a 2), (by_a 2, text_x) ∷ []) ∷ (Elem (by_a 3), (by_a 3, text_y) ∷ []) ∷ [])
    ((Elem (by_a 2), by_a 2 ∷ []) ∷ (Elem (by_a 3), by_a 3 ∷ []) ∷ [])
    ((Head, To (by_a 2)) ∷ (Elem (by_a 2), To (by_a 3)) ∷ (Elem (by_a 3), Tail) ∷ [])) no_child)
    [] ((Doc, by_a 1 ∷ by_a 2 ∷ by_a 3 ∷ []) ∷ []) []

abbrev pub tree_4 : Context
tree_4 = context no_child
    (child Doc (context no_child no_child
    ((Elem (by_a 2), []) ∷ (Elem (by_a 3), (by_a 3, text_y) ∷ []) ∷ [])
    ((Elem (by_a 2), []) ∷ (Elem (by_a 3), by_a 3 ∷ []) ∷ [])
    ((Head, To (by_a 2)) ∷ (Elem (by_a 2), To (by_a 3)) ∷ (Elem (by_a 3), Tail) ∷ [])) no_child)
    [] ((Doc, by_a 1 ∷ by_a 2 ∷ by_a 3 ∷ []) ∷ []) []

-- the states after them
abbrev pub after_1 : State
after_1 = alone left_1 [] tree_1 (by_a 1 ∷ []) (make_list ∷ [])

abbrev pub after_2 : State
after_2 = alone left_2 [] tree_2 (by_a 1 ∷ by_a 2 ∷ []) (make_list ∷ insert_x ∷ [])

abbrev pub after_3 : State
after_3 = alone left_3 [] tree_3 (by_a 1 ∷ by_a 2 ∷ by_a 3 ∷ []) (make_list ∷ insert_x ∷ insert_y ∷ [])

abbrev pub after_4 : State
after_4 =
    alone left_4 [] tree_4 (by_a 1 ∷ by_a 2 ∷ by_a 3 ∷ by_a 4 ∷ []) (make_list ∷ insert_x ∷ insert_y ∷ delete_x ∷ [])

-- and after `let z = doc.idx(1)`
abbrev pub after_5 : State
after_5 = record after_4 { left = left_5; vars = (codes "z", ACursor (cursor (ListT Doc ∷ []) (Elem (by_a 3)))) ∷ [] }

abbrev pub FirstList : Type 0
FirstList = IsExample (start script) (E.Exec 0) [] after_1
    ((R.Exec, 0) ∷ (R.MakeAssign, 1)
    ∷ (R.Doc, 2)
    ∷ (R.MakeOp, 2) ∷ (R.ApplyLocal, 3)
    ∷ (R.EmptyList, 4)
    ∷ (R.ClearElem, 5) ∷ (R.ClearAny, 6) ∷ (R.ClearNone, 7) ∷ (R.ClearNone, 7) ∷ (R.ClearNone, 7) ∷ (R.Presence2, 6)
    ∷ (R.AddId1, 5) ∷ (R.Presence1, 6)
    ∷ (R.ChildList, 5) ∷ [])

abbrev pub InsertAtHead : Type 0
InsertAtHead = IsExample after_1 (E.Exec 0) [] after_2
    ((R.Exec, 0) ∷ (R.MakeInsert, 1)
    ∷ (R.Idx1, 2) ∷ (R.Doc, 3) ∷ (R.Idx2, 3) ∷ (R.Idx5, 4)
    ∷ (R.MakeOp, 2) ∷ (R.ApplyLocal, 3)
    ∷ (R.Descend, 4) ∷ (R.ChildGet, 5)
    ∷ (R.Insert1, 5) ∷ (R.Assign, 6) ∷ (R.ClearNone, 7) ∷ (R.AddId1, 7) ∷ (R.Presence2, 8) ∷ (R.ChildReg, 7)
    ∷ (R.AddId1, 5) ∷ (R.Presence1, 6) ∷ [])

abbrev pub InsertAfterElement : Type 0
InsertAfterElement = IsExample after_2 (E.Exec 0) [] after_3
    ((R.Exec, 0) ∷ (R.MakeInsert, 1)
    ∷ (R.Idx1, 2) ∷ (R.Doc, 3) ∷ (R.Idx2, 3) ∷ (R.Idx3, 4) ∷ (R.Idx5, 5)
    ∷ (R.MakeOp, 2) ∷ (R.ApplyLocal, 3)
    ∷ (R.Descend, 4) ∷ (R.ChildGet, 5)
    ∷ (R.Insert1, 5) ∷ (R.Assign, 6) ∷ (R.ClearNone, 7) ∷ (R.AddId1, 7) ∷ (R.Presence2, 8) ∷ (R.ChildReg, 7)
    ∷ (R.AddId1, 5) ∷ (R.Presence1, 6) ∷ [])

abbrev pub DeleteElement : Type 0
DeleteElement = IsExample after_3 (E.Exec 0) [] after_4
    ((R.Exec, 0) ∷ (R.MakeDelete, 1)
    ∷ (R.Idx1, 2) ∷ (R.Doc, 3) ∷ (R.Idx2, 3) ∷ (R.Idx3, 4) ∷ (R.Idx5, 5)
    ∷ (R.MakeOp, 2) ∷ (R.ApplyLocal, 3)
    ∷ (R.Descend, 4) ∷ (R.ChildGet, 5)
    ∷ (R.Delete, 5) ∷ (R.ClearElem, 6)
    ∷ (R.ClearAny, 7) ∷ (R.ClearNone, 8) ∷ (R.ClearNone, 8) ∷ (R.ClearReg, 8)
    ∷ (R.Presence1, 7)
    ∷ (R.AddId2, 5) ∷ [])

-- the deleted element isn't counted
abbrev pub IndexPastTombstone : Type 0
IndexPastTombstone = IsExample after_4 (E.Exec 0) [] after_5
    ((R.Exec, 0) ∷ (R.Let, 1)
    ∷ (R.Idx1, 2) ∷ (R.Doc, 3) ∷ (R.Idx2, 3) ∷ (R.Idx4, 4) ∷ (R.Idx3, 5) ∷ (R.Idx5, 6) ∷ [])

-- `doc.delete` in the place of `doc.idx(1).delete`
abbrev pub delete_all : Op
delete_all = record { id = by_a 4; deps = by_a 1 ∷ by_a 2 ∷ by_a 3 ∷ []; cursor = cursor [] Doc; mutation = M.Delete }

abbrev pub tree_of_none : Context
tree_of_none = context no_child
    (child Doc (context no_child no_child
    ((Elem (by_a 2), []) ∷ (Elem (by_a 3), []) ∷ [])
    ((Head, []) ∷ (Elem (by_a 2), []) ∷ (Elem (by_a 3), []) ∷ [])
    ((Head, To (by_a 2)) ∷ (Elem (by_a 2), To (by_a 3)) ∷ (Elem (by_a 3), Tail) ∷ [])) no_child)
    [] ((Doc, []) ∷ []) []

abbrev pub WholeListDeleted : Type 0
WholeListDeleted = IsExample
    (record after_3 { left = DeleteAt TheDoc ∷ left_4 }) (E.Exec 0) []
    (record after_4 { tree = tree_of_none; queue = make_list ∷ insert_x ∷ insert_y ∷ delete_all ∷ [] })
    ((R.Exec, 0) ∷ (R.MakeDelete, 1)
    ∷ (R.Doc, 2)
    ∷ (R.MakeOp, 2) ∷ (R.ApplyLocal, 3)
    ∷ (R.Delete, 4) ∷ (R.ClearElem, 5)
    ∷ (R.ClearAny, 6) ∷ (R.ClearNone, 7)
    ∷ (R.ClearList1, 7)
    ∷ (R.ClearList2, 8)
    ∷ (R.ClearElem, 9) ∷ (R.ClearAny, 10) ∷ (R.ClearNone, 11)
    ∷ (R.ClearNone, 11) ∷ (R.ClearNone, 11) ∷ (R.Presence2, 10)
    ∷ (R.ClearList2, 9)
    ∷ (R.ClearElem, 10) ∷ (R.ClearAny, 11) ∷ (R.ClearNone, 12)
    ∷ (R.ClearNone, 12) ∷ (R.ClearReg, 12) ∷ (R.Presence1, 11)
    ∷ (R.ClearList2, 10)
    ∷ (R.ClearElem, 11) ∷ (R.ClearAny, 12) ∷ (R.ClearNone, 13)
    ∷ (R.ClearNone, 13) ∷ (R.ClearReg, 13) ∷ (R.Presence1, 12)
    ∷ (R.ClearList3, 11)
    ∷ (R.ClearNone, 7)
    ∷ (R.Presence1, 6) ∷ [])

-- `doc.idx(0).insertAfter({})` in the place of the first insert: the element is a map
abbrev pub insert_map : Op
insert_map = record {
  id = by_a 2;
  deps = by_a 1 ∷ [];
  cursor = cursor (ListT Doc ∷ []) Head;
  mutation = M.Insert V.EmptyMap;
}

abbrev pub tree_of_map : Context
tree_of_map = context no_child
    (child Doc (context (child (Elem (by_a 2)) empty no_child) no_child []
    ((Elem (by_a 2), by_a 2 ∷ []) ∷ [])
    ((Head, To (by_a 2)) ∷ (Elem (by_a 2), Tail) ∷ [])) no_child)
    [] ((Doc, by_a 1 ∷ by_a 2 ∷ []) ∷ []) []

abbrev pub InsertOfMap : Type 0
InsertOfMap = IsExample
    (record after_1 { left = InsertAfter (Index TheDoc 0) V.EmptyMap ∷ [] }) (E.Exec 0) []
    (alone [] [] tree_of_map (by_a 1 ∷ by_a 2 ∷ []) (make_list ∷ insert_map ∷ []))
    ((R.Exec, 0) ∷ (R.MakeInsert, 1)
    ∷ (R.Idx1, 2) ∷ (R.Doc, 3) ∷ (R.Idx2, 3) ∷ (R.Idx5, 4)
    ∷ (R.MakeOp, 2) ∷ (R.ApplyLocal, 3)
    ∷ (R.Descend, 4) ∷ (R.ChildGet, 5)
    ∷ (R.Insert1, 5)
    ∷ (R.EmptyMap, 6)
    ∷ (R.ClearElem, 7) ∷ (R.ClearAny, 8) ∷ (R.ClearNone, 9) ∷ (R.ClearNone, 9) ∷ (R.ClearNone, 9) ∷ (R.Presence2, 8)
    ∷ (R.AddId1, 7) ∷ (R.Presence1, 8)
    ∷ (R.ChildMap, 7)
    ∷ (R.AddId1, 5) ∷ (R.Presence1, 6) ∷ [])

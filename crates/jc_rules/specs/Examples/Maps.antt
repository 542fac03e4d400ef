-- Maps, and registers under the same key.
use Rattle.std.specs.Prelude.{ℕ, List, [], ◌∷◌, codes}
use Rattle.jc_rules.specs.declared.id.Id.{Id}
use Rattle.jc_rules.specs.declared.key.Key.{Key}
use Rattle.jc_rules.specs.declared.key.Key.TheVariants as K
use Rattle.jc_rules.specs.declared.key.Tagged.TheVariants.{MapT}
use Rattle.jc_rules.specs.declared.operation.Mutation.TheVariants as M
use Rattle.jc_rules.specs.declared.operation.Op.{Op}
use Rattle.jc_rules.specs.declared.operation.Event.TheVariants as E
use Rattle.jc_rules.specs.declared.rule.Rule.TheVariants as R
use Rattle.jc_rules.specs.declared.value.Value.{Value}
use Rattle.jc_rules.specs.declared.value.Value.TheVariants as V
use Rattle.jc_rules.specs.Context.{Context, context, no_child, child, empty}
use Rattle.jc_rules.specs.Syntax.{Cmd, TheDoc, GetKey, KeysOf, ValuesOf, LetIn, SetTo, DeleteAt}
use Rattle.jc_rules.specs.State.{start, Names, Pairs}
use Rattle.jc_rules.specs.Table.{cursor}
use Rattle.jc_rules.specs.Examples.{IsExample, by_a, alone}

abbrev pub key_k : Key
key_k = K.Name (codes "k")

abbrev pub one : Value
one = V.Number (codes "1")

-- `doc.get("k") := {}`, `doc.get("k") := 1` and `let v = doc.get("k").values`
abbrev pub set_map : Cmd
set_map = SetTo (GetKey TheDoc (codes "k")) V.EmptyMap

abbrev pub set_one : Cmd
set_one = SetTo (GetKey TheDoc (codes "k")) one

abbrev pub let_v : Cmd
let_v = LetIn (codes "v") (ValuesOf (GetKey TheDoc (codes "k")))

-- an operation that assigns under "k"
abbrev pub assign_k : ℕ → List Id → Value → Op
assign_k c deps v = record { id = by_a c; deps = deps; cursor = cursor (MapT K.Doc ∷ []) key_k; mutation = M.Assign v }

abbrev pub tree_of_map : Context
tree_of_map = context
    (child K.Doc (context (child key_k empty no_child) no_child [] ((key_k, by_a 1 ∷ []) ∷ []) []) no_child)
    no_child [] ((K.Doc, by_a 1 ∷ []) ∷ []) []

-- the map with a register beside it
abbrev pub tree_of_both : Context
tree_of_both = context
    (child K.Doc (context
    (child key_k empty no_child) no_child
    ((key_k, (by_a 2, one) ∷ []) ∷ [])
    ((key_k, by_a 1 ∷ by_a 2 ∷ []) ∷ []) []) no_child)
    no_child [] ((K.Doc, by_a 1 ∷ by_a 2 ∷ []) ∷ []) []

-- `doc.get("k") := {}` on a fresh replica
abbrev pub FirstMap : Type 0
FirstMap = IsExample
    (start (set_map ∷ set_one ∷ [])) (E.Exec 0) []
    (alone (set_one ∷ []) [] tree_of_map (by_a 1 ∷ []) (assign_k 1 [] V.EmptyMap ∷ []))
    ((R.Exec, 0) ∷ (R.MakeAssign, 1)
    ∷ (R.Get, 2) ∷ (R.Doc, 3)
    ∷ (R.MakeOp, 2) ∷ (R.ApplyLocal, 3)
    ∷ (R.Descend, 4) ∷ (R.ChildMap, 5)
    ∷ (R.EmptyMap, 5)
    ∷ (R.ClearElem, 6) ∷ (R.ClearAny, 7) ∷ (R.ClearNone, 8) ∷ (R.ClearNone, 8) ∷ (R.ClearNone, 8) ∷ (R.Presence2, 7)
    ∷ (R.AddId1, 6) ∷ (R.Presence1, 7)
    ∷ (R.ChildMap, 6)
    ∷ (R.AddId1, 5) ∷ (R.Presence2, 6) ∷ [])

-- then `doc.get("k") := 1`: the map stays
abbrev pub AssignmentOverMap : Type 0
AssignmentOverMap = IsExample
    (alone (set_one ∷ []) [] tree_of_map (by_a 1 ∷ []) (assign_k 1 [] V.EmptyMap ∷ [])) (E.Exec 0) []
    (alone [] [] tree_of_both (by_a 1 ∷ by_a 2 ∷ []) (assign_k 1 [] V.EmptyMap ∷ assign_k 2 (by_a 1 ∷ []) one ∷ []))
    ((R.Exec, 0) ∷ (R.MakeAssign, 1)
    ∷ (R.Get, 2) ∷ (R.Doc, 3)
    ∷ (R.MakeOp, 2) ∷ (R.ApplyLocal, 3)
    ∷ (R.Descend, 4) ∷ (R.ChildGet, 5)
    ∷ (R.Assign, 5) ∷ (R.ClearNone, 6) ∷ (R.AddId1, 6) ∷ (R.Presence1, 7) ∷ (R.ChildReg, 6)
    ∷ (R.AddId1, 5) ∷ (R.Presence1, 6) ∷ [])

-- the other order: 1 under "k", and then the map
abbrev pub tree_of_register : Context
tree_of_register = context
    (child K.Doc (context no_child no_child ((key_k, (by_a 1, one) ∷ []) ∷ []) ((key_k, by_a 1 ∷ []) ∷ []) []) no_child)
    no_child [] ((K.Doc, by_a 1 ∷ []) ∷ []) []

abbrev pub tree_of_new_map : Context
tree_of_new_map = context
    (child K.Doc (context
    (child key_k empty no_child) no_child
    ((key_k, []) ∷ [])
    ((key_k, by_a 2 ∷ []) ∷ []) []) no_child)
    no_child [] ((K.Doc, by_a 1 ∷ by_a 2 ∷ []) ∷ []) []

abbrev pub assigned_both : List Op
assigned_both = assign_k 1 [] one ∷ assign_k 2 (by_a 1 ∷ []) V.EmptyMap ∷ []

-- `doc.get("k") := {}` where 1 is: the register is emptied
abbrev pub MapOverAssignment : Type 0
MapOverAssignment = IsExample
    (alone (set_map ∷ let_v ∷ []) [] tree_of_register (by_a 1 ∷ []) (assign_k 1 [] one ∷ [])) (E.Exec 0) []
    (alone (let_v ∷ []) [] tree_of_new_map (by_a 1 ∷ by_a 2 ∷ []) assigned_both)
    ((R.Exec, 0) ∷ (R.MakeAssign, 1)
    ∷ (R.Get, 2) ∷ (R.Doc, 3)
    ∷ (R.MakeOp, 2) ∷ (R.ApplyLocal, 3)
    ∷ (R.Descend, 4) ∷ (R.ChildGet, 5)
    ∷ (R.EmptyMap, 5)
    ∷ (R.ClearElem, 6) ∷ (R.ClearAny, 7) ∷ (R.ClearNone, 8) ∷ (R.ClearNone, 8) ∷ (R.ClearReg, 8) ∷ (R.Presence1, 7)
    ∷ (R.AddId1, 6) ∷ (R.Presence1, 7)
    ∷ (R.ChildMap, 6)
    ∷ (R.AddId1, 5) ∷ (R.Presence1, 6) ∷ [])

-- then `let v = doc.get("k").values`: none is left
abbrev pub ValuesUnderMap : Type 0
ValuesUnderMap = IsExample
    (alone (let_v ∷ []) [] tree_of_new_map (by_a 1 ∷ by_a 2 ∷ []) assigned_both) (E.Exec 0) []
    (alone [] ((codes "v", Pairs []) ∷ []) tree_of_new_map (by_a 1 ∷ by_a 2 ∷ []) assigned_both)
    ((R.Exec, 0) ∷ (R.Let, 1) ∷ (R.Val1, 2) ∷ (R.Get, 3) ∷ (R.Doc, 4) ∷ (R.Val3, 3) ∷ (R.Val2, 4) ∷ [])

abbrev pub key_m : Key
key_m = K.Name (codes "m")

-- the operation of `doc.get("m").get("k") := 1`, made first
abbrev pub assign_inside : Op
assign_inside = record {
  id = by_a 1;
  deps = [];
  cursor = cursor (MapT K.Doc ∷ MapT key_m ∷ []) key_k;
  mutation = M.Assign one;
}

abbrev pub tree_of_inner : Context
tree_of_inner = context
    (child K.Doc (context
    (child key_m (context no_child no_child
    ((key_k, (by_a 1, one) ∷ []) ∷ [])
    ((key_k, by_a 1 ∷ []) ∷ []) []) no_child)
    no_child [] ((key_m, by_a 1 ∷ []) ∷ []) []) no_child)
    no_child [] ((K.Doc, by_a 1 ∷ []) ∷ []) []

-- after `doc.get("m").get("k") := 1`: `let s = doc.get("m").keys`
abbrev pub KeysOfInnerMap : Type 0
KeysOfInnerMap = IsExample
    (alone
    (LetIn (codes "s") (KeysOf (GetKey TheDoc (codes "m"))) ∷ []) []
    tree_of_inner (by_a 1 ∷ []) (assign_inside ∷ []))
    (E.Exec 0) []
    (alone [] ((codes "s", Names (codes "k" ∷ [])) ∷ []) tree_of_inner (by_a 1 ∷ []) (assign_inside ∷ []))
    ((R.Exec, 0) ∷ (R.Let, 1) ∷ (R.Keys1, 2) ∷ (R.Get, 3) ∷ (R.Doc, 4) ∷ (R.Keys3, 3) ∷ (R.Keys2, 4) ∷ [])

-- A map under "m" with a map under "a" and 1 under "b", and `doc.get("m").delete`: the lesser key is cleared first.
abbrev pub key_a : Key
key_a = K.Name (codes "a")

abbrev pub key_b : Key
key_b = K.Name (codes "b")

abbrev pub assign_a : Op
assign_a = record {
  id = by_a 1;
  deps = [];
  cursor = cursor (MapT K.Doc ∷ MapT key_m ∷ []) key_a;
  mutation = M.Assign V.EmptyMap;
}

abbrev pub assign_b : Op
assign_b = record {
  id = by_a 2;
  deps = by_a 1 ∷ [];
  cursor = cursor (MapT K.Doc ∷ MapT key_m ∷ []) key_b;
  mutation = M.Assign one;
}

abbrev pub delete_m : Op
delete_m = record {
  id = by_a 3;
  deps = by_a 1 ∷ by_a 2 ∷ [];
  cursor = cursor (MapT K.Doc ∷ []) key_m;
  mutation = M.Delete;
}

abbrev pub tree_of_two : Context
tree_of_two = context
    (child K.Doc (context
    (child key_m (context
    (child key_a empty no_child) no_child
    ((key_b, (by_a 2, one) ∷ []) ∷ [])
    ((key_a, by_a 1 ∷ []) ∷ (key_b, by_a 2 ∷ []) ∷ []) []) no_child)
    no_child [] ((key_m, by_a 1 ∷ by_a 2 ∷ []) ∷ []) []) no_child)
    no_child [] ((K.Doc, by_a 1 ∷ by_a 2 ∷ []) ∷ []) []

abbrev pub tree_of_none : Context
tree_of_none = context
    (child K.Doc (context
    (child key_m (context
    (child key_a empty no_child) no_child
    ((key_b, []) ∷ [])
    ((key_a, []) ∷ (key_b, []) ∷ []) []) no_child)
    no_child [] ((key_m, []) ∷ []) []) no_child)
    no_child [] ((K.Doc, by_a 1 ∷ by_a 2 ∷ []) ∷ []) []

abbrev pub MapOfTwoDeleted : Type 0
MapOfTwoDeleted = IsExample
    (alone (DeleteAt (GetKey TheDoc (codes "m")) ∷ []) [] tree_of_two (by_a 1 ∷ by_a 2 ∷ []) (assign_a ∷ assign_b ∷ []))
    (E.Exec 0) []
    (alone [] [] tree_of_none (by_a 1 ∷ by_a 2 ∷ by_a 3 ∷ []) (assign_a ∷ assign_b ∷ delete_m ∷ []))
    ((R.Exec, 0) ∷ (R.MakeDelete, 1)
    ∷ (R.Get, 2) ∷ (R.Doc, 3)
    ∷ (R.MakeOp, 2) ∷ (R.ApplyLocal, 3)
    ∷ (R.Descend, 4) ∷ (R.ChildGet, 5)
    ∷ (R.Delete, 5) ∷ (R.ClearElem, 6)
    ∷ (R.ClearAny, 7)
    ∷ (R.ClearMap1, 8)
    ∷ (R.ClearMap2, 9)
    ∷ (R.ClearElem, 10) ∷ (R.ClearAny, 11) ∷ (R.ClearMap1, 12) ∷ (R.ClearMap3, 13)
    ∷ (R.ClearNone, 12) ∷ (R.ClearNone, 12) ∷ (R.Presence1, 11)
    ∷ (R.ClearMap2, 10)
    ∷ (R.ClearElem, 11) ∷ (R.ClearAny, 12) ∷ (R.ClearNone, 13)
    ∷ (R.ClearNone, 13) ∷ (R.ClearReg, 13) ∷ (R.Presence1, 12)
    ∷ (R.ClearMap3, 11)
    ∷ (R.ClearNone, 8) ∷ (R.ClearNone, 8)
    ∷ (R.Presence1, 7)
    ∷ (R.AddId2, 5) ∷ [])

-- `doc.get("a").get("b").delete` on a fresh replica: both maps are made, and no presence set gets the identifier
abbrev pub delete_b : Op
delete_b = record { id = by_a 1; deps = []; cursor = cursor (MapT K.Doc ∷ MapT key_a ∷ []) key_b; mutation = M.Delete }

abbrev pub tree_of_nothing : Context
tree_of_nothing = context
    (child K.Doc (context
    (child key_a (context no_child no_child [] ((key_b, []) ∷ []) []) no_child)
    no_child [] [] []) no_child)
    no_child [] [] []

abbrev pub NothingDeleted : Type 0
NothingDeleted = IsExample
    (start (DeleteAt (GetKey (GetKey TheDoc (codes "a")) (codes "b")) ∷ [])) (E.Exec 0) []
    (alone [] [] tree_of_nothing (by_a 1 ∷ []) (delete_b ∷ []))
    ((R.Exec, 0) ∷ (R.MakeDelete, 1)
    ∷ (R.Get, 2) ∷ (R.Get, 3) ∷ (R.Doc, 4)
    ∷ (R.MakeOp, 2) ∷ (R.ApplyLocal, 3)
    ∷ (R.Descend, 4) ∷ (R.ChildMap, 5)
    ∷ (R.Descend, 5) ∷ (R.ChildMap, 6)
    ∷ (R.Delete, 6) ∷ (R.ClearElem, 7)
    ∷ (R.ClearAny, 8) ∷ (R.ClearNone, 9) ∷ (R.ClearNone, 9) ∷ (R.ClearNone, 9)
    ∷ (R.Presence2, 8)
    ∷ (R.AddId2, 6)
    ∷ (R.AddId2, 5) ∷ [])

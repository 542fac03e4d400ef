-- Deletions by one replica that meet assignments by another.
use Rattle.std.specs.Prelude.{List, [], ◌∷◌, codes}
use Rattle.jc_rules.specs.declared.id.Id.{Id}
use Rattle.jc_rules.specs.declared.key.Key.{Key}
use Rattle.jc_rules.specs.declared.key.Key.TheVariants.{Doc, Head, Name}
use Rattle.jc_rules.specs.declared.key.Next.TheVariants.{Tail}
use Rattle.jc_rules.specs.declared.key.Tagged.TheVariants.{MapT}
use Rattle.jc_rules.specs.declared.operation.Mutation.TheVariants as M
use Rattle.jc_rules.specs.declared.operation.Op.{Op}
use Rattle.jc_rules.specs.declared.operation.Event.TheVariants as E
use Rattle.jc_rules.specs.declared.rule.Rule.TheVariants as R
use Rattle.jc_rules.specs.declared.value.Value.{Value}
use Rattle.jc_rules.specs.declared.value.Value.TheVariants as V
use Rattle.jc_rules.specs.Context.{Context, context, no_child, child, empty}
use Rattle.jc_rules.specs.Table.{cursor}
use Rattle.jc_rules.specs.Examples.{IsExample, by_a, by_b, met}

abbrev pub one : Value
one = V.Number (codes "1")

abbrev pub key_k : Key
key_k = Name (codes "k")

abbrev pub key_l : Key
key_l = Name (codes "l")

abbrev pub key_m : Key
key_m = Name (codes "m")

-- Replica a makes a map under "m" and deletes it, while b assigns 1 under "k" in it.
abbrev pub make_m : Op
make_m = record { id = by_a 1; deps = []; cursor = cursor (MapT Doc ∷ []) key_m; mutation = M.Assign V.EmptyMap }

abbrev pub delete_m : Op
delete_m = record { id = by_a 2; deps = by_a 1 ∷ []; cursor = cursor (MapT Doc ∷ []) key_m; mutation = M.Delete }

abbrev pub assign_in_m : Op
assign_in_m = record {
  id = by_b 2;
  deps = by_a 1 ∷ [];
  cursor = cursor (MapT Doc ∷ MapT key_m ∷ []) key_k;
  mutation = M.Assign one;
}

-- the map under "m" with b's assignment, and with the presence set of "m"
abbrev pub tree_of_m : List Id → Context
tree_of_m s = context
    (child Doc (context
    (child key_m (context no_child no_child
    ((key_k, (by_b 2, one) ∷ []) ∷ [])
    ((key_k, by_b 2 ∷ []) ∷ []) []) no_child)
    no_child [] ((key_m, s) ∷ []) []) no_child)
    no_child [] ((Doc, by_a 1 ∷ by_b 2 ∷ []) ∷ []) []

-- the map under "m" as a deleted it, before b's assignment
abbrev pub tree_of_deleted : Context
tree_of_deleted = context
    (child Doc (context (child key_m empty no_child) no_child [] ((key_m, []) ∷ []) []) no_child)
    no_child [] ((Doc, by_a 1 ∷ []) ∷ []) []

-- b applies the deletion: its own assignment stays
abbrev pub MapDeletion : Type 0
MapDeletion = IsExample
    (met (tree_of_m (by_a 1 ∷ by_b 2 ∷ [])) (by_a 1 ∷ by_b 2 ∷ []) (assign_in_m ∷ []) (make_m ∷ delete_m ∷ []))
    (E.Apply 1 (by_a 2)) []
    (met (tree_of_m (by_b 2 ∷ [])) (by_a 1 ∷ by_a 2 ∷ by_b 2 ∷ []) (assign_in_m ∷ []) (make_m ∷ delete_m ∷ []))
    ((R.ApplyRemote, 0)
    ∷ (R.Descend, 1) ∷ (R.ChildGet, 2)
    ∷ (R.Delete, 2) ∷ (R.ClearElem, 3)
    ∷ (R.ClearAny, 4)
    ∷ (R.ClearMap1, 5) ∷ (R.ClearMap2, 6)
    ∷ (R.ClearElem, 7) ∷ (R.ClearAny, 8) ∷ (R.ClearNone, 9) ∷ (R.ClearNone, 9) ∷ (R.ClearReg, 9) ∷ (R.Presence1, 8)
    ∷ (R.ClearMap3, 7)
    ∷ (R.ClearNone, 5) ∷ (R.ClearNone, 5)
    ∷ (R.Presence1, 4)
    ∷ (R.AddId2, 2) ∷ [])

-- a applies the assignment: the map is there again
abbrev pub AssignmentInDeletedMap : Type 0
AssignmentInDeletedMap = IsExample
    (met tree_of_deleted (by_a 1 ∷ by_a 2 ∷ []) (make_m ∷ delete_m ∷ []) (assign_in_m ∷ [])) (E.Apply 0 (by_b 2)) []
    (met (tree_of_m (by_b 2 ∷ [])) (by_a 1 ∷ by_a 2 ∷ by_b 2 ∷ []) (make_m ∷ delete_m ∷ []) (assign_in_m ∷ []))
    ((R.ApplyRemote, 0)
    ∷ (R.Descend, 1) ∷ (R.ChildGet, 2)
    ∷ (R.Descend, 2) ∷ (R.ChildGet, 3)
    ∷ (R.Assign, 3) ∷ (R.ClearNone, 4) ∷ (R.AddId1, 4) ∷ (R.Presence2, 5) ∷ (R.ChildReg, 4)
    ∷ (R.AddId1, 3) ∷ (R.Presence1, 4)
    ∷ (R.AddId1, 2) ∷ (R.Presence1, 3) ∷ [])

-- Another two: a assigns 1 under "l" and deletes it, while b assigns a list there.
abbrev pub assign_one : Op
assign_one = record { id = by_a 1; deps = []; cursor = cursor (MapT Doc ∷ []) key_l; mutation = M.Assign one }

abbrev pub delete_l : Op
delete_l = record { id = by_a 2; deps = by_a 1 ∷ []; cursor = cursor (MapT Doc ∷ []) key_l; mutation = M.Delete }

abbrev pub assign_list : Op
assign_list = record {
  id = by_b 2;
  deps = by_a 1 ∷ [];
  cursor = cursor (MapT Doc ∷ []) key_l;
  mutation = M.Assign V.EmptyList;
}

-- the list under "l" with the presence sets of its keys, beside the emptied register
abbrev pub tree_beside : List (Key × List Id) → Context
tree_beside s = context
    (child Doc (context no_child
    (child key_l (context no_child no_child [] s ((Head, Tail) ∷ [])) no_child)
    ((key_l, []) ∷ [])
    ((key_l, by_b 2 ∷ []) ∷ []) []) no_child)
    no_child [] ((Doc, by_a 1 ∷ by_b 2 ∷ []) ∷ []) []

-- the emptied register, before there is a list
abbrev pub tree_emptied : Context
tree_emptied = context
    (child Doc (context no_child no_child ((key_l, []) ∷ []) ((key_l, []) ∷ []) []) no_child)
    no_child [] ((Doc, by_a 1 ∷ []) ∷ []) []

-- `b.apply(2, a)`: the list stays, and its head gets an empty presence set
abbrev pub ListDeletion : Type 0
ListDeletion = IsExample
    (met (tree_beside []) (by_a 1 ∷ by_b 2 ∷ []) (assign_list ∷ []) (assign_one ∷ delete_l ∷ []))
    (E.Apply 1 (by_a 2)) []
    (met (tree_beside ((Head, []) ∷ [])) (by_a 1 ∷ by_a 2 ∷ by_b 2 ∷ [])
    (assign_list ∷ []) (assign_one ∷ delete_l ∷ []))
    ((R.ApplyRemote, 0)
    ∷ (R.Descend, 1) ∷ (R.ChildGet, 2)
    ∷ (R.Delete, 2) ∷ (R.ClearElem, 3)
    ∷ (R.ClearAny, 4) ∷ (R.ClearNone, 5)
    ∷ (R.ClearList1, 5) ∷ (R.ClearList2, 6)
    ∷ (R.ClearElem, 7) ∷ (R.ClearAny, 8) ∷ (R.ClearNone, 9) ∷ (R.ClearNone, 9) ∷ (R.ClearNone, 9) ∷ (R.Presence2, 8)
    ∷ (R.ClearList3, 7)
    ∷ (R.ClearReg, 5)
    ∷ (R.Presence1, 4)
    ∷ (R.AddId2, 2) ∷ [])

-- `a.apply(2, b)`: the list comes where the register was emptied
abbrev pub ListAfterDeletion : Type 0
ListAfterDeletion = IsExample
    (met tree_emptied (by_a 1 ∷ by_a 2 ∷ []) (assign_one ∷ delete_l ∷ []) (assign_list ∷ [])) (E.Apply 0 (by_b 2)) []
    (met (tree_beside []) (by_a 1 ∷ by_a 2 ∷ by_b 2 ∷ []) (assign_one ∷ delete_l ∷ []) (assign_list ∷ []))
    ((R.ApplyRemote, 0)
    ∷ (R.Descend, 1) ∷ (R.ChildGet, 2)
    ∷ (R.EmptyList, 2)
    ∷ (R.ClearElem, 3) ∷ (R.ClearAny, 4) ∷ (R.ClearNone, 5) ∷ (R.ClearNone, 5) ∷ (R.ClearReg, 5) ∷ (R.Presence1, 4)
    ∷ (R.AddId1, 3) ∷ (R.Presence1, 4)
    ∷ (R.ChildList, 3)
    ∷ (R.AddId1, 2) ∷ (R.Presence1, 3) ∷ [])

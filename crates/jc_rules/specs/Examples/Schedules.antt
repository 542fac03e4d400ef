-- Whole schedules of two replicas, from their start on.
use Rattle.std.specs.Prelude.{List, [], ◌∷◌, codes}
use Rattle.jc_rules.specs.declared.key.Key.TheVariants.{Head}
use Rattle.jc_rules.specs.declared.operation.Event.{Event}
use Rattle.jc_rules.specs.declared.operation.Event.TheVariants.{Exec, Send, Recv, Apply, Done}
use Rattle.jc_rules.specs.declared.value.Value.TheVariants.{EmptyMap, EmptyList}
use Rattle.jc_rules.specs.Syntax.{Expr, TheDoc, GetKey, SetTo, DeleteAt, Yield}
use Rattle.jc_rules.specs.State.{State, start}
use Rattle.jc_rules.specs.Step.{After}
use Rattle.jc_rules.specs.Examples.{by_a, by_b, met}
use Rattle.jc_rules.specs.Examples.Inserts.{make_list, insert_x, insert_y, tree_of_both, a_from_x, b_script}
use Rattle.jc_rules.specs.Examples.Deletions.{one, make_m, delete_m, assign_in_m, tree_of_m, assign_one, delete_l, assign_list, tree_beside}

-- a makes an operation and offers it, b applies it, each makes one more, and they exchange these
abbrev pub meeting : List Event
meeting =
    Exec 0 ∷ Send 0 ∷ Done 0
    ∷ Recv 1 0 ∷ Apply 1 (by_a 1) ∷ Done 1
    ∷ Exec 0 ∷ Exec 1
    ∷ Send 0 ∷ Send 1
    ∷ Recv 0 1 ∷ Recv 1 0
    ∷ Apply 0 (by_b 2) ∷ Apply 1 (by_a 2) ∷ []

-- a: `doc.get("l") := []; yield; doc.get("l").idx(0).insertAfter("x"); yield`;
-- b: `yield; doc.get("l").idx(0).insertAfter("y"); yield`
abbrev pub inserting : List State
inserting = start (SetTo (GetKey TheDoc (codes "l")) EmptyList ∷ Yield ∷ a_from_x) ∷ start b_script ∷ []

abbrev pub inserted : List State
inserted =
    met tree_of_both (by_a 1 ∷ by_a 2 ∷ by_b 2 ∷ []) (make_list ∷ insert_x ∷ []) (insert_y ∷ [])
    ∷ met tree_of_both (by_a 1 ∷ by_a 2 ∷ by_b 2 ∷ []) (insert_y ∷ []) (make_list ∷ insert_x ∷ []) ∷ []

abbrev pub InsertsMeet : Type 0
InsertsMeet = After inserting meeting inserted

-- a: `doc.get("m") := {}; yield; doc.get("m").delete; yield`; b: `yield; doc.get("m").get("k") := 1; yield`
abbrev pub at_m : Expr
at_m = GetKey TheDoc (codes "m")

abbrev pub deleting_map : List State
deleting_map =
    start (SetTo at_m EmptyMap ∷ Yield ∷ DeleteAt at_m ∷ Yield ∷ [])
    ∷ start (Yield ∷ SetTo (GetKey at_m (codes "k")) one ∷ Yield ∷ []) ∷ []

abbrev pub deleted_map : List State
deleted_map =
    met (tree_of_m (by_b 2 ∷ [])) (by_a 1 ∷ by_a 2 ∷ by_b 2 ∷ []) (make_m ∷ delete_m ∷ []) (assign_in_m ∷ [])
    ∷ met (tree_of_m (by_b 2 ∷ [])) (by_a 1 ∷ by_a 2 ∷ by_b 2 ∷ []) (assign_in_m ∷ []) (make_m ∷ delete_m ∷ []) ∷ []

abbrev pub MapDeletionMeets : Type 0
MapDeletionMeets = After deleting_map meeting deleted_map

-- a: `doc.get("l") := 1; yield; doc.get("l").delete; yield`; b: `yield; doc.get("l") := []; yield`
abbrev pub at_l : Expr
at_l = GetKey TheDoc (codes "l")

abbrev pub deleting_list : List State
deleting_list =
    start (SetTo at_l one ∷ Yield ∷ DeleteAt at_l ∷ Yield ∷ [])
    ∷ start (Yield ∷ SetTo at_l EmptyList ∷ Yield ∷ []) ∷ []

-- the documents differ by an empty presence set
abbrev pub deleted_list : List State
deleted_list =
    met (tree_beside []) (by_a 1 ∷ by_a 2 ∷ by_b 2 ∷ []) (assign_one ∷ delete_l ∷ []) (assign_list ∷ [])
    ∷ met (tree_beside ((Head, []) ∷ [])) (by_a 1 ∷ by_a 2 ∷ by_b 2 ∷ [])
    (assign_list ∷ []) (assign_one ∷ delete_l ∷ []) ∷ []

abbrev pub ListDeletionMeets : Type 0
ListDeletionMeets = After deleting_list meeting deleted_list

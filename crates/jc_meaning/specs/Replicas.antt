-- The tree of the replicas that have applied a set of operations; `meaning` and a law cite it.
use Rattle.std.specs.Prelude.{◌≡◌, ◌↔◌, List, map, Contains}
use Rattle.jc_rules.specs.declared.operation.Op.{Op}
use Rattle.jc_rules.specs.Context.{Context}
use Rattle.jc_rules.specs.WellFormed.{drop}
use Rattle.jc_rules.specs.State.{State}
use Rattle.jc_rules.specs.Syntax.{Cmd}
use Rattle.jc_vectors.specs.StoredStates.{stored_op}
use Rattle.jc_network.specs.Applied.{applied_ops}
use Rattle.jc_network.specs.Laws.{IsReached}

-- These are just the operations that the replica has applied, as they are kept, in any order.
abbrev pub HasApplied : State → List Op → Type 0
HasApplied A ops = (o : Op) → Contains ops o ↔ Contains (map stored_op (applied_ops A)) o

-- In each network that events lead to from a start, it is the tree of each replica that has applied just these
-- operations, without its empty presence sets.
abbrev pub IsTreeOfReplicas : List Op → Context → Type 0
IsTreeOfReplicas ops t =
    (scripts : List (List Cmd)) (network : List State)
    → IsReached scripts network
    → (A : State)
    → Contains network A
    → HasApplied A ops
    → drop A.tree ≡ t

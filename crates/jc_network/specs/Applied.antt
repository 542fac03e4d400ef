-- The operations that a replica has applied, for `Net::applied` and `applied_ids`.
use Rattle.std.specs.Prelude.{◌≡◌, ◌↔◌, ℕ, List, true, Some, filter, map, slice_get, Contains, ◌⊎◌}
use Rattle.jc_rules.specs.declared.id.Id.{Id}
use Rattle.jc_rules.specs.declared.operation.Op.{Op}
use Rattle.jc_rules.specs.Ids.{has_id}
use Rattle.jc_rules.specs.State.{State}
use Rattle.jc_rules.specs.Syntax.{Cmd}
use Rattle.jc_rules.specs.Table.{both}
use Rattle.jc_vectors.specs.StoredStates.{stored_op}
use Rattle.jc_replica.specs.Operations.{AreInOrder}
use Rattle.jc_network.specs.Laws.{IsReached}

-- of the operations that it made or received those whose identifiers are applied
abbrev pub applied_ops : State → List Op
applied_ops A = filter (λ o. has_id o.id A.ops) (both A.queue A.recv)

-- what replica p has applied, as stored operations
pub record IsApplied (network : List State) (p : ℕ) (ops : List Op) : Type 0 where
  pub at : State
  pub there : slice_get network p ≡ Some at
  pub ops_are : ops ≡ map stored_op (applied_ops at)

-- the identifiers that replica p has applied
abbrev pub AreAppliedIds : List State → ℕ → List Id → Type 0
AreAppliedIds network p ids = (A : State) → slice_get network p ≡ Some A → ids ≡ A.ops

-- In each network that is reached from a start these are sorted by identifier, none twice; each was made or received;
-- and each identifier that is applied is that of one of them.
abbrev pub AppliedAreAll : Type 0
AppliedAreAll =
    (scripts : List (List Cmd)) (network : List State)
    → IsReached scripts network
    → (A : State)
    → Contains network A
    → AreInOrder (applied_ops A)
    × ((o : Op)
    → Contains (applied_ops A) o ↔ ((Contains A.queue o ⊎ Contains A.recv o) × (has_id o.id A.ops ≡ true)))
    × ((i : Id) → has_id i A.ops ≡ true → (o : Op) × Contains (applied_ops A) o × (o.id ≡ i))

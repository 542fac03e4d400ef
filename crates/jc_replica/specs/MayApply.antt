-- When a received operation can be applied, for the event `apply`.
use Rattle.std.specs.Prelude.{◌≡◌, List, [], ◌∷◌, Some, false}
use Rattle.jc_rules.specs.declared.id.Id.{Id}
use Rattle.jc_rules.specs.declared.operation.Event.TheVariants.{Apply}
use Rattle.jc_rules.specs.declared.operation.Op.{Op}
use Rattle.jc_rules.specs.Ids.{has_id, AreIn}
use Rattle.jc_rules.specs.State.{State}
use Rattle.jc_rules.specs.Syntax.{Cmd, Yield}
use Rattle.jc_rules.specs.Table.{op_of}
use Rattle.jc_replica.specs.declared.fault.ReplicaFault.{ReplicaFault}
use Rattle.jc_replica.specs.Answers.{IsEventRefused}
use Rattle.jc_replica.specs.ReplicaHistory.{ReplicaHistory}

-- Among those received there is the operation with the identifier. All that it depends on was applied, but not the
-- operation itself.
pub record IsDueOp (received : List Op) (applied : List Id) (i : Id) (o : Op) : Type 0 where
  pub found : op_of i received ≡ Some o
  pub new : has_id i applied ≡ false
  pub deps : AreIn o.deps applied

-- At each yield with these the event is refused for the fault.
abbrev pub IsUndueFor : List Op → List Id → Id → ReplicaFault → Type 0
IsUndueFor received applied i fault =
    (now : ReplicaHistory) (rest : List Cmd)
    → now.history.now.left ≡ Yield ∷ rest
    → now.history.now.recv ≡ received
    → now.history.now.ops ≡ applied
    → IsEventRefused (Apply now.number i) [] now fault

-- At a yield: the operation was received, and all that it depends on was applied, but not the operation itself.
pub record TakesOp (K : State) (i : Id) (o : Op) : Type 0 where
  pub rest : List Cmd
  pub yields : K.left ≡ Yield ∷ rest
  pub received : op_of i K.recv ≡ Some o
  pub new : has_id i K.ops ≡ false
  pub deps : AreIn o.deps K.ops

-- What the stored state of a replica represents, and how its events refine those of the table.
use Rattle.std.specs.Prelude.{◌≡◌, ℕ, List, ◌∷◌, Option, Some, None, IfSome, map}
use Rattle.jc_rules.specs.declared.operation.Event.{Event}
use Rattle.jc_rules.specs.declared.operation.Event.TheVariants as E
use Rattle.jc_rules.specs.declared.operation.Op.{Op}
use Rattle.jc_rules.specs.Derivation.{Occur, ToState}
use Rattle.jc_rules.specs.Derives.{Derives}
use Rattle.jc_rules.specs.State.{State}
use Rattle.jc_rules.specs.Table.{op_of, with_op}
use Rattle.jc_rules.specs.Trace.{Rows}
use Rattle.jc_vectors.specs.StoredStates.{RepresentsState, HasOwn, stored_op, AreOf}
use Rattle.jc_replica.specs.Operations.{AreOfOne}
use Rattle.jc_replica.specs.ReplicaHistory.{no_rows}

-- The stored state of the replica p represents the state A in the sound set of operations, and all of p's own among
-- them were applied.
pub record IsSeenAs (set : List Op) (p : ℕ) (A kept : State) : Type 0 where
  pub stands : RepresentsState set A kept
  pub own : HasOwn set p A

-- What an event's promise needs beside that A is represented. A command can make an operation, whose identifier is new
-- only where all of p's own operations in the set were applied. A yield event makes none, and needs nothing.
abbrev pub HasOwnFor : Event → List Op → ℕ → State → Type 0
HasOwnFor (E.Exec q) set p A = HasOwn set p A
HasOwnFor _ set p A = Unit {0}

-- the stored operations that are read represent these of the set: what one replica offers of its own
pub record IsRead (set os read : List Op) : Type 0 where
  pub of : AreOf set os
  pub is : read ≡ map stored_op os
  pub one : AreOfOne read

-- the set with the operation that was made, if one was
abbrev pub grown : Option Op → List Op → List Op
grown None set = set
grown (Some o) set = o ∷ set

abbrev pub queued : Option Op → List Op → List Op
queued None queue = queue
queued (Some o) queue = with_op o queue

-- The event leads from A to a state that the new stored state represents, in the set with what was made. If all of p's
-- own operations in the set were applied, they still are, with what was made.
pub record LeadsReplica
    (set : List Op) (event : Event) (p : ℕ) (os : List Op) (A kept : State) (rows : Rows) : Type 0 where
  pub now : State
  pub made : Option Op
  pub derives : Derives (Occur A event os) (ToState now) no_rows rows
  pub stands : RepresentsState (grown made set) now kept
  pub own : HasOwn set p A → HasOwn (grown made set) p now
  pub queue : now.queue ≡ queued made A.queue
  pub fresh : IfSome made (λ o. (op_of o.id set ≡ None) × (o.id.replica ≡ p))

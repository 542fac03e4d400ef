-- Lists of received operations, and up to which counter a sender's operations are complete in them.
use Rattle.std.specs.Prelude.{◌≡◌, ◌≤◌, ◌<◌, ℕ, Bool, true, List, [], ◌∷◌, length, insert, not, slice_get, Option, Some, None, option_map, Result, Ok, Err}
use Rattle.std.specs.List.{AllByRecursion}
use Rattle.jc_rules.specs.declared.id.Id.{Id}
use Rattle.jc_rules.specs.declared.operation.Event.{Event}
use Rattle.jc_rules.specs.declared.operation.Event.TheVariants as E
use Rattle.jc_rules.specs.declared.operation.Op.{Op}
use Rattle.jc_rules.specs.declared.rule.Rule.{Rule}
use Rattle.jc_rules.specs.declared.rule.Rule.TheVariants as R
use Rattle.jc_rules.specs.VersionVectors.{covered, greatest_of}
use Rattle.jc_rules.specs.Ids.{has_id}
use Rattle.jc_rules.specs.Sound.{IsSound}
use Rattle.jc_rules.specs.Table.{op_of, with_op, both}
use Rattle.jc_vectors.specs.StoredStates.{stored_op}
use Rattle.jc_replica.specs.Operations.{identifiers, AreInOrder, AreOfOne}
use Rattle.jc_rules.specs.History.{timeline}
use Rattle.jc_replica.specs.ReplicaHistory.{ReplicaHistory}

-- the operation with the identifier is there
pub record IsOpAt (i : Id) (os : List Op) (n : ℕ) : Type 0 where
  pub operation : Op
  pub entry : slice_get os n ≡ Some operation
  pub found : op_of i os ≡ Some operation

-- no operation has the identifier, and there is its place
pub record OpBelongsAt (i : Id) (os : List Op) (n : ℕ) : Type 0 where
  pub within : n ≤ length os
  pub absent : op_of i os ≡ None
  pub place : (o : Op) → o.id ≡ i → with_op o os ≡ insert os n o

abbrev pub IsOpPlace : Id → List Op → Result ℕ ℕ → Type 0
IsOpPlace i os (Ok n) = IsOpAt i os n
IsOpPlace i os (Err n) = OpBelongsAt i os n

-- no operation of the list has the identifier of this one
abbrev pub is_new : List Op → Op → Bool
is_new os p = not (has_id p.id (identifiers os))

-- each represents an operation of the set
abbrev pub AreKeptOf : List Op → List Op → Type 0
AreKeptOf set os = AllByRecursion (λ k. (o : Op) × (op_of k.id set ≡ Some o) × (k ≡ stored_op o)) os

-- in each sound set of which both are, the new list is their union
abbrev pub IsUnited : List Op → List Op → List Op → Type 0
IsUnited old read new =
    (set : List Op) → IsSound set → AreKeptOf set old → AreKeptOf set read → AreOfOne read → new ≡ both old read

-- the event in which replica p receives from q: all that it offers, or the operation with the identifier
abbrev pub receiving_event : ℕ → Option Id → ℕ → Event
receiving_event q None p = E.Recv p q
receiving_event q (Some i) p = E.Take p q i

abbrev pub receiving_rule : Option Id → Rule
receiving_rule None = R.Recv
receiving_rule (Some i) = R.RecvOne

-- what is received of what is offered
abbrev pub read_of : Option Id → List Op → Option (List Op)
read_of None os = Some os
read_of (Some i) os = option_map (λ o. o ∷ []) (op_of i os)

-- these were received: one step adds them to what was received before
pub record HasReceived (read : List Op) (old new : ReplicaHistory) : Type 0 where
  pub united : IsUnited old.history.now.recv read new.history.now.recv
  pub now : new.history.now ≡ record old.history.now { acted = true; recv = new.history.now.recv }
  pub earlier : new.history.earlier ≡ timeline old.history
  pub number : new.number ≡ old.number

-- No operation of the replica is missing up to the counter: the operation that has it is there, and so are all of the
-- replica's on which that one depends, the nearest first.
pub data IsContiguousTo (q : ℕ) (os : List Op) : ℕ → Type 0 where
  none : IsContiguousTo q os 0
  more : {n : ℕ} {o : Op}
      → op_of (record { counter = n; replica = q }) os ≡ Some o
      → greatest_of q o.deps < n
      → IsContiguousTo q os (greatest_of q o.deps)
      → IsContiguousTo q os n

-- each is in the list
abbrev pub AreAmong : List Op → List Op → Type 0
AreAmong ps os = AllByRecursion (λ p. op_of p.id os ≡ Some p) ps

-- what is found in the first list is found in the other
abbrev pub HasEach : List Op → List Op → Type 0
HasEach ps os = (i : Id) (o : Op) → op_of i ps ≡ Some o → op_of i os ≡ Some o

-- the list is sorted by identifier, and no operation of a replica is missing up to the replica's counter
pub record IsKeptList (os : List Op) (whole : List Id) : Type 0 where
  pub order : AreInOrder os
  pub filled : whole ≡ covered whole
  pub missing : (q : ℕ) → IsContiguousTo q os (greatest_of q whole)

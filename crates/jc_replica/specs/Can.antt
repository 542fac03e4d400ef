-- Which events a replica can make, for the contract of `can`.
use Rattle.std.specs.Prelude.{◌≡◌, List, [], Bool, true, false, IsSome}
use Rattle.jc_rules.specs.declared.operation.Event.{Event}
use Rattle.jc_rules.specs.declared.operation.Event.TheVariants as E
use Rattle.jc_rules.specs.declared.operation.Op.{Op}
use Rattle.jc_rules.specs.Derivation.{Occur}
use Rattle.jc_rules.specs.Refused.{Cause, Refused}
use Rattle.jc_rules.specs.State.{State}
use Rattle.jc_vectors.specs.StoredStates.{RepresentsState}
use Rattle.jc_rules.specs.Table.{op_of}
use Rattle.jc_replica.specs.ReplicaHistory.{ReplicaHistory}
use Rattle.jc_replica.specs.Refines.{IsRead}

-- What an event may read: any list where it receives all, a list with the identifier where it takes one, and else
-- nothing.
abbrev pub MayRead : Event → List Op → Type 0
MayRead (E.Recv p q) read = Unit {0}
MayRead (E.Take p q i) read = IsSome (op_of i read)
MayRead _ read = read ≡ []

-- In each sound set, whatever is read, the state that is represented refuses the event for no cause, or for one.
abbrev pub CanOccur : Event → ReplicaHistory → Bool → Type 0
CanOccur event now true =
    (set os read : List Op) (A : State) (why : Cause)
    → MayRead event read → RepresentsState set A now.history.now → IsRead set os read
    → Refused (Occur A event os) why → ⊥
CanOccur event now false =
    (set os read : List Op) (A : State)
    → MayRead event read → RepresentsState set A now.history.now → IsRead set os read
    → (why : Cause) × Refused (Occur A event os) why

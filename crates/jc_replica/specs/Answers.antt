-- What a call returns that makes an event. Each such call of a replica has one clause by it.
use Rattle.std.specs.Prelude.{◌≡◌, List, Option, Some, None, IfSome, Result, Ok, Err}
use Rattle.std.specs.Option.{option_map}
use Rattle.jc_rules.specs.declared.operation.Event.{Event}
use Rattle.jc_rules.specs.declared.operation.Op.{Op}
use Rattle.jc_rules.specs.declared.refusal.Refusal.{Refusal}
use Rattle.jc_rules.specs.declared.refusal.Refusal.TheVariants as F
use Rattle.jc_rules.specs.Derivation.{Occur}
use Rattle.jc_rules.specs.Refused.{Cause, because, no_node, refusal_of, Refused}
use Rattle.jc_rules.specs.State.{State}
use Rattle.jc_rules.specs.Trace.{Rows}
use Rattle.jc_apply.specs.declared.apply.ApplyFault.{ApplyFault}
use Rattle.jc_apply.specs.declared.apply.ApplyFault.TheVariants as A
use Rattle.jc_replica.specs.declared.fault.ReplicaFault.{ReplicaFault}
use Rattle.jc_replica.specs.declared.fault.ReplicaFault.TheVariants as E
use Rattle.jc_rules.specs.History.{timeline}
use Rattle.jc_replica.specs.ReplicaHistory.{ReplicaHistory}
use Rattle.jc_vectors.specs.StoredStates.{RepresentsState}
use Rattle.jc_replica.specs.Refines.{HasOwnFor, IsRead, LeadsReplica}

-- One step: in each sound set the event leads by the table from the state that the old stored state represents to the
-- one that the new stored state represents, with these rules. The old stored state is kept.
pub record Occurs (event : Event) (read : List Op) (old new : ReplicaHistory) (rows : Rows) : Type 0 where
  pub leads : (set os : List Op) (A : State)
      → RepresentsState set A old.history.now → HasOwnFor event set old.number A → IsRead set os read
      → LeadsReplica set event old.number os A new.history.now rows
  pub earlier : new.history.earlier ≡ timeline old.history
  pub number : new.number ≡ old.number

-- the cause in the table, none for want of memory
abbrev pub fault_cause_of : ReplicaFault → Option Cause
fault_cause_of E.NotInList = Some (because F.NotInList)
fault_cause_of E.UnboundVariable = Some (because F.UnboundVariable)
fault_cause_of E.GetOnHead = Some (because F.GetOnHead)
fault_cause_of E.NotACursor = Some (because F.NotACursor)
fault_cause_of (E.NoSuchNode k) = Some (no_node k)
fault_cause_of E.PastEnd = Some (because F.PastEnd)
fault_cause_of E.NoMap = Some (because F.NoMap)
fault_cause_of E.NoRegister = Some (because F.NoRegister)
fault_cause_of E.TooDeep = Some (because F.TooDeep)
fault_cause_of E.NoCommand = Some (because F.NoCommand)
fault_cause_of E.AtYield = Some (because F.AtYield)
fault_cause_of E.NotAtYield = Some (because F.NotAtYield)
fault_cause_of E.NotActed = Some (because F.NotActed)
fault_cause_of E.NotReceived = Some (because F.NotReceived)
fault_cause_of E.AlreadyApplied = Some (because F.AlreadyApplied)
fault_cause_of E.DepsMissing = Some (because F.DepsMissing)
fault_cause_of E.Memory = None

-- the refusal of the fault's cause
abbrev pub fault_refusal_of : ReplicaFault → Option Refusal
fault_refusal_of fault = option_map refusal_of (fault_cause_of fault)

-- the same of an operation that isn't applied
abbrev pub apply_cause : ApplyFault → Option Cause
apply_cause A.NotInList = Some (because F.NotInList)
apply_cause A.Memory = None

-- In each sound set the state that is represented refuses the event for this cause.
abbrev pub RefusedFor : Event → List Op → ReplicaHistory → Cause → Type 0
RefusedFor event read old why =
    (set os : List Op) (A : State)
    → RepresentsState set A old.history.now → IsRead set os read
    → Refused (Occur A event os) why

-- the event is refused for the fault's cause, unless memory was refused
abbrev pub IsEventRefused : Event → List Op → ReplicaHistory → ReplicaFault → Type 0
IsEventRefused event read old fault = IfSome (fault_cause_of fault) (λ why. RefusedFor event read old why)

-- A call makes its event, or it is refused; then all is as it was.
abbrev pub AnswersEvent : Event → List Op → ReplicaHistory → ReplicaHistory → Result Rows ReplicaFault → Type 0
AnswersEvent event read old new (Ok rows) = Occurs event read old new rows
AnswersEvent event read old new (Err fault) = (new ≡ old) × IsEventRefused event read old fault

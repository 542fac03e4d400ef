-- What a network's call returns that makes an event: a step, or a stuck event with its cause.
use Rattle.std.specs.Prelude.{◌≡◌, ◌≤◌, ◌<◌, ◌⊎◌, ℕ, List, [], Option, Some, None, Result, Ok, Err, length, slice_get, slice_set}
use Rattle.jc_rules.specs.declared.key.Tagged.{Tagged}
use Rattle.jc_rules.specs.declared.operation.Event.{Event}
use Rattle.jc_rules.specs.declared.operation.Event.TheVariants as V
use Rattle.jc_rules.specs.declared.operation.Op.{Op}
use Rattle.jc_rules.specs.declared.refusal.Refusal.TheVariants.{NoSuchReplica, WrongVersion}
use Rattle.jc_rules.specs.declared.version.Version.{Version}
use Rattle.jc_rules.specs.Refusals.{refusal_number}
use Rattle.jc_rules.specs.Refused.{Cause, because, no_node, refusal_of, IsStuckIn}
use Rattle.jc_rules.specs.State.{State}
use Rattle.jc_rules.specs.Step.{replica_of, read_by, Network}
use Rattle.jc_rules.specs.Version.{Allows}
use Rattle.jc_rules.specs.Trace.{Rows}
use Rattle.jc_vectors.specs.StoredStates.{stored_state}
use Rattle.jc_replica.specs.declared.fault.ReplicaFault.{ReplicaFault}
use Rattle.jc_replica.specs.Answers.{AnswersEvent, RefusedFor}
use Rattle.jc_replica.specs.Operations.{AreHanded, AreOfOne}
use Rattle.jc_replica.specs.ReplicaHistory.{ReplicaHistory}
use Rattle.jc_network.specs.declared.fault.StepFault.{StepFault}
use Rattle.jc_network.specs.declared.fault.StepFault.TheVariants as E
use Rattle.jc_network.specs.declared.fault.Stuck.{Stuck}
use Rattle.jc_network.specs.NetworkHistory.{kept_of}
use Rattle.jc_network.specs.Refines.{IsAsked}

-- ---- stuck events

abbrev pub key_of_event : Cause → Option Tagged
key_of_event (because refusal) = None
key_of_event (no_node k) = Some k

-- the number and its refusal, the key and the event
abbrev pub stuck_for : Cause → Event → Stuck
stuck_for why event = record {
  number = refusal_number (refusal_of why);
  refusal = refusal_of why;
  key = key_of_event why;
  event = event;
}

-- The event is stuck in the network, for this cause.
pub record IsStuckFor (network : Network) (event : Event) (s : Stuck) : Type 0 where
  pub why : Cause
  pub stuck : IsStuckIn network event why
  pub is : s ≡ stuck_for why event

-- the fault for the cause, or for want of memory
abbrev pub fault_for : Option Cause → Event → StepFault
fault_for (Some why) event = E.Stuck (stuck_for why event)
fault_for None event = E.Memory

-- ---- a replica of the network

-- this is replica p of the network: its stored state is that of the network's state
pub record HasReplica (network : List State) (p : ℕ) (replica : ReplicaHistory) : Type 0 where
  pub at : State
  pub there : slice_get network p ≡ Some at
  pub number : replica.number ≡ p
  pub kept : replica.history.now ≡ stored_state at

-- ---- one call

-- what a replica offers
abbrev pub sent_by : Option ReplicaHistory → List Op
sent_by None = []
sent_by (Some replica) = replica.history.now.send

-- all that replicas offer may be passed on
abbrev pub AllHand : List ReplicaHistory → Type 0
AllHand ps = (q : ℕ) (replica : ReplicaHistory) → slice_get ps q ≡ Some replica → AreHanded replica.history.now.send

-- what each offers is one replica's own
abbrev pub AllOwn : List ReplicaHistory → Type 0
AllOwn ps = (q : ℕ) (replica : ReplicaHistory) → slice_get ps q ≡ Some replica → AreOfOne replica.history.now.send

-- Replica p made the event or refused it, and no other replica changed.
pub record Moves
    (p : ℕ) (event : Event) (read : List Op) (old new : List ReplicaHistory)
    (result : Result Rows ReplicaFault) : Type 0 where
  pub before : ReplicaHistory
  pub after : ReplicaHistory
  pub there : slice_get old p ≡ Some before
  pub now : new ≡ slice_set old p after
  pub answers : AnswersEvent event read before after result

-- the event's replica made it or refused it
pub record ActsReplica (event : Event) (old new : List ReplicaHistory)
    (result : Result Rows ReplicaFault) : Type 0 where
  pub read : List Op
  pub reads : read_by event (kept_of old) ≡ Some read
  pub moves : Moves (replica_of event) event read old new result

-- the replica from which the event receives
abbrev pub sender_of : Event → Option ℕ
sender_of (V.Recv p q) = Some q
sender_of (V.Take p q i) = Some q
sender_of event = None

-- the replicas that the event names are there
abbrev pub HasReplicas : Event → List ReplicaHistory → Type 0
HasReplicas event ps =
    (replica_of event < length ps) × ((q : ℕ) → sender_of event ≡ Some q → q < length ps)

-- one of them isn't
abbrev pub IsMissing : Event → List ReplicaHistory → Type 0
IsMissing event ps =
    (length ps ≤ replica_of event) ⊎ ((q : ℕ) × (sender_of event ≡ Some q) × (length ps ≤ q))

-- the event's replica refuses it
pub record IsRefusedBy (event : Event) (ps : List ReplicaHistory) (why : Cause) : Type 0 where
  pub read : List Op
  pub replica : ReplicaHistory
  pub asked : IsAsked (kept_of ps) event read replica
  pub refuses : RefusedFor event read replica why

-- A network of the version doesn't make the event, for this cause.
pub data Stops (version : Version) (event : Event) (ps : List ReplicaHistory) : Cause → Type 0 where
  stops_missing : IsMissing event ps → Stops version event ps (because NoSuchReplica)
  stops_version : HasReplicas event ps → (Allows event version → ⊥) → Stops version event ps (because WrongVersion)
  stops_refused : {why : Cause} → Allows event version → IsRefusedBy event ps why → Stops version event ps why

abbrev pub MakesStep : Version → Event → List ReplicaHistory → List ReplicaHistory → Result Rows StepFault → Type 0
MakesStep version event old new (Ok rows) = Allows event version × ActsReplica event old new (Ok rows)
MakesStep version event old new (Err (E.Stuck s)) =
    (new ≡ old) × (why : Cause) × (s ≡ stuck_for why event) × Stops version event old why
MakesStep version event old new (Err E.Memory) = new ≡ old
MakesStep version event old new (Err E.Full) = ⊥

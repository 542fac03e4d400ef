-- The stored states of a network refine the states of the table: what they represent, and what calls make of them.
use Rattle.std.specs.Prelude.{◌≡◌, ◌≤◌, ℕ, List, [], Some, Contains, length, slice_set}
use Rattle.std.specs.List.{AllByRecursion}
use Rattle.jc_rules.specs.declared.operation.Event.{Event}
use Rattle.jc_rules.specs.declared.operation.Op.{Op}
use Rattle.jc_rules.specs.declared.limits.TheConstants.{MAX_COMMANDS, MAX_REPLICAS}
use Rattle.jc_rules.specs.Refused.{Cause, IsStuck}
use Rattle.jc_rules.specs.State.{State}
use Rattle.jc_rules.specs.Step.{Step, replica_of, read_by}
use Rattle.jc_rules.specs.Syntax.{Cmd}
use Rattle.jc_rules.specs.Trace.{Rows}
use Rattle.jc_replica.specs.Answers.{Occurs, RefusedFor}
use Rattle.jc_replica.specs.Operations.{AreHanded}
use Rattle.jc_replica.specs.ReplicaHistory.{ReplicaHistory}
use Rattle.jc_replica.specs.Refines.{IsSeenAs}
use Rattle.jc_network.specs.Laws.{starts, IsReached}
use Rattle.jc_network.specs.RunInvariant.{IsReplicaAt, IsMadeOp}

-- the state of replica p, which its stored state represents
pub record HasSeen (set : List Op) (p : ℕ) (network : List State) (kept : State) : Type 0 where
  pub at : State
  pub there : IsReplicaAt network p at
  pub seen : IsSeenAs set p at kept

-- In the set of all operations that were made, the stored states represent the network's states, one for one.
pub record AreSeen (set : List Op) (network kept : List State) : Type 0 where
  pub all : (o : Op) → Contains set o → IsMadeOp network o
  pub as_many : length network ≡ length kept
  pub each : (p : ℕ) (K : State) → IsReplicaAt kept p K → HasSeen set p network K

-- The event is one of this replica, and it reads these stored operations.
pub record IsAsked (kept : List State) (event : Event) (read : List Op) (replica : ReplicaHistory) : Type 0 where
  pub number : replica.number ≡ replica_of event
  pub there : IsReplicaAt kept (replica_of event) replica.history.now
  pub reads : read_by event kept ≡ Some read

-- The event is a step of the network to one that the new stored states represent.
pub record StepsOn (network : List State) (event : Event) (rows : Rows) (kept : List State) : Type 0 where
  pub new : List State
  pub set : List Op
  pub step : Step network event new rows.rows
  pub depth : rows.depth ≡ 0
  pub seen : AreSeen set new kept

-- At the start, where nothing was made, stored states represent themselves.
abbrev pub StartIsSeen : Type 0
StartIsSeen = (scripts : List (List Cmd)) → AreSeen [] (starts scripts) (starts scripts)

-- In each network that is reached from a start, what a replica's call makes is a step of the network, and nothing of
-- the other replicas changes.
abbrev pub EventSteps : Type 0
EventSteps =
    (scripts : List (List Cmd)) (network : List State)
    → IsReached scripts network
    → (set : List Op) (kept : List State)
    → AreSeen set network kept
    → (event : Event) (read : List Op) (old new : ReplicaHistory) (rows : Rows)
    → IsAsked kept event read old
    → Occurs event read old new rows
    → StepsOn network event rows (slice_set kept (replica_of event) new.history.now)

-- The cause for which a replica's call is refused is one for which the network's event is stuck.
abbrev pub EventIsStuck : Type 0
EventIsStuck =
    (scripts : List (List Cmd)) (network : List State)
    → IsReached scripts network
    → (set : List Op) (kept : List State)
    → AreSeen set network kept
    → (event : Event) (read : List Op) (old : ReplicaHistory) (why : Cause)
    → IsAsked kept event read old
    → RefusedFor event read old why
    → IsStuck network event why

-- at most MAX_REPLICAS scripts, none with more than MAX_COMMANDS commands
pub record AreShort (scripts : List (List Cmd)) : Type 0 where
  pub many : length scripts ≤ MAX_REPLICAS
  pub each : AllByRecursion (λ s. length s ≤ MAX_COMMANDS) scripts

-- Where scripts are short, a replica may receive all that is offered: its counters are small enough.
abbrev pub OfferedIsHanded : Type 0
OfferedIsHanded =
    (scripts : List (List Cmd)) (network : List State)
    → IsReached scripts network
    → AreShort scripts
    → (set : List Op) (kept : List State)
    → AreSeen set network kept
    → (q : ℕ) (K : State)
    → IsReplicaAt kept q K
    → AreHanded K.send

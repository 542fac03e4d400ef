-- Steps of a network of replicas: of the list of their states in the order of their names, and of a network of some
-- version.
use Rattle.std.specs.Prelude.{◌≡◌, ℕ, List, [], ◌∷◌, Option, Some, None, slice_get, slice_set}
use Rattle.jc_rules.specs.declared.operation.Op.{Op}
use Rattle.jc_rules.specs.declared.operation.Event.{Event}
use Rattle.jc_rules.specs.declared.operation.Event.TheVariants.{Exec, Send, Recv, Take, Apply, Done}
use Rattle.jc_rules.specs.declared.rule.Rule.{Rule}
use Rattle.jc_rules.specs.declared.version.Version.{Version}
use Rattle.jc_rules.specs.State.{State}
use Rattle.jc_rules.specs.Derivation.{Derivation, conclusion, gives, Occur, ToState, trace}
use Rattle.jc_rules.specs.Table.{Holds}
use Rattle.jc_rules.specs.Version.{Allows}

-- the replica whose event it is
abbrev pub replica_of : Event → ℕ
replica_of (Exec p) = p
replica_of (Send p) = p
replica_of (Recv p q) = p
replica_of (Take p q i) = p
replica_of (Apply p i) = p
replica_of (Done p) = p

abbrev pub send_of : Option State → Option (List Op)
send_of None = None
send_of (Some A) = Some A.send

-- the operations that the event reads: those that the other replica offers, where it receives
abbrev pub read_by : Event → List State → Option (List Op)
read_by (Recv p q) network = send_of (slice_get network q)
read_by (Take p q i) network = send_of (slice_get network q)
read_by (Exec p) network = Some []
read_by (Send p) network = Some []
read_by (Apply p i) network = Some []
read_by (Done p) network = Some []

-- One event of one replica: a derivation leads from its state to its new one, and every other replica stays as it was.
pub record Step (network : List State) (event : Event) (new_network : List State)
    (rows : List (Rule × ℕ)) : Type 0 where
  pub before : State
  pub after : State
  pub read : List Op
  pub derivation : Derivation
  pub is_there : slice_get network (replica_of event) ≡ Some before
  pub reads : read_by event network ≡ Some read
  pub holds : Holds derivation
  pub concludes : conclusion derivation ≡ gives (Occur before event read) (ToState after)
  pub is_new : new_network ≡ slice_set network (replica_of event) after
  pub is_trace : rows ≡ trace 0 derivation

-- one network follows from another by the events, in their order
abbrev pub After : List State → List Event → List State → Type 0
After network [] last = network ≡ last
After network (e ∷ es) last =
    (between : List State) × (rows : List (Rule × ℕ))
    × Step network e between rows
    × After between es last

-- ---- networks of a version

pub record Network : Type 0 where
  pub version : Version
  pub states : List State

-- A step by an event that the network's version has.
pub record StepIn (network : Network) (event : Event) (new_network : Network)
    (rows : List (Rule × ℕ)) : Type 0 where
  pub allowed : Allows event network.version
  pub version : new_network.version ≡ network.version
  pub step : Step network.states event new_network.states rows

-- one network follows from another by the events, in their order
abbrev pub AfterIn : Network → List Event → Network → Type 0
AfterIn network [] last = network ≡ last
AfterIn network (e ∷ es) last =
    (between : Network) × (rows : List (Rule × ℕ))
    × StepIn network e between rows
    × AfterIn between es last

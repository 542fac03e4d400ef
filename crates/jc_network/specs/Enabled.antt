-- The candidates for events of a network, and those that aren't stuck, for `Net::enabled`.
use Rattle.std.specs.Prelude.{◌≡◌, ◌++◌, ◌↔◌, ℕ, zero, suc, List, [], ◌∷◌, Bool, true, false, Some, Contains, map, length, slice_get}
use Rattle.jc_rules.specs.declared.operation.Event.{Event}
use Rattle.jc_rules.specs.declared.operation.Event.TheVariants.{Exec, Send, Recv, Take, Apply, Done}
use Rattle.jc_rules.specs.declared.operation.Op.{Op}
use Rattle.jc_rules.specs.declared.refusal.Refusal.{Refusal}
use Rattle.jc_rules.specs.declared.refusal.Refusal.TheVariants as F
use Rattle.jc_rules.specs.declared.rule.Rule.{Rule}
use Rattle.jc_rules.specs.declared.version.Version.{Version}
use Rattle.jc_rules.specs.declared.version.Version.TheVariants.{One, Two}
use Rattle.jc_rules.specs.Refused.{Cause, because, IsStuckIn}
use Rattle.jc_rules.specs.State.{State}
use Rattle.jc_rules.specs.Step.{Network, StepIn, replica_of}
use Rattle.jc_rules.specs.Syntax.{Cmd}
use Rattle.jc_replica.specs.Can.{CanOccur}
use Rattle.jc_replica.specs.ReplicaHistory.{ReplicaHistory}
use Rattle.jc_network.specs.NetworkHistory.{kept_of, of_version}
use Rattle.jc_network.specs.Laws.{IsReached}

-- replica p receives from each of the first n replicas
abbrev pub receivings : ℕ → ℕ → List Event
receivings p zero = []
receivings p (suc n) = receivings p n ++ Recv p n ∷ []

-- it takes each of these operations of replica q
abbrev pub takings_of : ℕ → ℕ → List Op → List Event
takings_of p q os = map (λ o. Take p q o.id) os

-- it takes each operation that these replicas offer, of which the first one is q
abbrev pub takings_from : ℕ → ℕ → List State → List Event
takings_from p q [] = []
takings_from p q (B ∷ states) = takings_of p q B.send ++ takings_from p (suc q) states

-- in version 2 alone
abbrev pub takings : Version → ℕ → List State → List Event
takings One p states = []
takings Two p states = takings_from p 0 states

-- it applies each of these operations
abbrev pub applyings : ℕ → List Op → List Event
applyings p os = map (λ o. Apply p o.id) os

-- The candidates of replica p in the network; the replica has received these operations.
abbrev pub applyings_of : Network → ℕ → List Op → List Event
applyings_of network p received =
    Exec p ∷ Send p ∷ receivings p (length network.states) ++ takings network.version p network.states
    ++ applyings p received ++ Done p ∷ []

-- those of these replicas, of which the first one is p
abbrev pub events_from : Network → ℕ → List State → List Event
events_from network p [] = []
events_from network p (A ∷ states) = applyings_of network p A.recv ++ events_from network (suc p) states

-- The candidates of a network: of each replica in order exec, send, recv from each replica, in version 2
-- take of each operation that each replica offers, apply of each operation that it has received, and done.
abbrev pub candidates : Network → List Event
candidates network = events_from network 0 network.states

-- Some of the events, in their order: those of which Yes holds. Of each that is left out No holds.
pub data AreChosen (Yes No : Event → Type 0) : List Event → List Event → Type 0 where
  no_more : AreChosen Yes No [] []
  chosen : {event : Event} {asked listed : List Event}
      → Yes event
      → AreChosen Yes No asked listed
      → AreChosen Yes No (event ∷ asked) (event ∷ listed)
  left_out : {event : Event} {asked listed : List Event}
      → No event
      → AreChosen Yes No asked listed
      → AreChosen Yes No (event ∷ asked) listed

-- the event is stuck for a cause
abbrev pub IsAnyStuck : Network → Event → Type 0
IsAnyStuck network event = (why : Cause) × IsStuckIn network event why

-- it is stuck for none
abbrev pub IsNotStuck : Network → Event → Type 0
IsNotStuck network event = (why : Cause) → IsStuckIn network event why → ⊥

-- Of the candidates just those are listed, in their order, that aren't stuck.
abbrev pub AreEnabled : Network → List Event → List Event → Type 0
AreEnabled network asked listed = AreChosen (IsNotStuck network) (IsAnyStuck network) asked listed

-- ---- laws

-- the refusals of events that aren't candidates
abbrev pub IsOfOther : Refusal → Type 0
IsOfOther F.NoSuchReplica = Unit {0}
IsOfOther F.WrongVersion = Unit {0}
IsOfOther F.NoCommand = Unit {0}
IsOfOther F.NotAtYield = Unit {0}
IsOfOther F.NotReceived = Unit {0}
IsOfOther _ = ⊥

-- An event that isn't a candidate is stuck: a replica is missing, or the version has no such event, or the operation
-- wasn't offered or received, or no yield comes next.
abbrev pub OthersAreStuck : Type 0
OthersAreStuck =
    (network : Network) (event : Event)
    → (Contains (candidates network) event → ⊥)
    → (why : Refusal) × IsOfOther why × IsStuckIn network event (because why)

-- the event has a step
abbrev pub HasStep : Network → Event → Type 0
HasStep network event = (new : Network) × (rows : List (Rule × ℕ)) × StepIn network event new rows

-- no event is in the list twice
abbrev pub AreOnce : List Event → Type 0
AreOnce [] = Unit {0}
AreOnce (event ∷ events) = (Contains events event → ⊥) × AreOnce events

-- In each network that is reached from a start just those events are listed that have a step, each once.
abbrev pub EnabledHaveSteps : Type 0
EnabledHaveSteps =
    (scripts : List (List Cmd)) (network : Network)
    → IsReached scripts network.states
    → (listed : List Event)
    → AreEnabled network (candidates network) listed
    → AreOnce listed
    × ((event : Event) → Contains listed event ↔ HasStep network event)

-- ---- replicas

-- Of these events just those are appended that the replica can make.
pub record Lists (replica : ReplicaHistory) (asked old new : List Event) : Type 0 where
  pub listed : List Event
  pub behind : new ≡ old ++ listed
  pub those : AreChosen (λ e. CanOccur e replica true) (λ e. CanOccur e replica false) asked listed

-- the event's replica can make it, or can't
pub record TellsEnabled (replicas : List ReplicaHistory) (can : Bool) (event : Event) : Type 0 where
  pub replica : ReplicaHistory
  pub there : slice_get replicas (replica_of event) ≡ Some replica
  pub answer : CanOccur event replica can

-- Of the candidates just those are listed that their replicas can make.
abbrev pub AreEnabledAsKnown : Version → List ReplicaHistory → List Event → Type 0
AreEnabledAsKnown version replicas listed =
    AreChosen (TellsEnabled replicas true) (TellsEnabled replicas false)
    (candidates (of_version version (kept_of replicas))) listed

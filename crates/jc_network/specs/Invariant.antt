-- The invariant of a network's type, and what it promises its callers.
use Rattle.std.specs.Prelude.{◌≡◌, ◌≢◌, ◌≤◌, ◌+◌, ℕ, List, [], ◌∷◌, Some, Contains, length, slice_get}
use Rattle.jc_rules.specs.declared.operation.Event.{Event}
use Rattle.jc_rules.specs.declared.operation.Op.{Op}
use Rattle.jc_rules.specs.declared.version.Version.{Version}
use Rattle.jc_rules.specs.State.{State}
use Rattle.jc_rules.specs.Step.{AfterIn}
use Rattle.jc_rules.specs.Syntax.{Cmd}
use Rattle.jc_replica.specs.ReplicaHistory.{ReplicaHistory}
use Rattle.jc_scenario.specs.WellFormed.{Scenario}
use Rattle.jc_rules.specs.History.{first_of}
use Rattle.jc_network.specs.NetworkHistory.{NetworkHistory, of_version, kept_of, network_of, back_at}
use Rattle.jc_network.specs.Given.{IsStart}
use Rattle.jc_network.specs.Laws.{starts, ops_held, IsReached}
use Rattle.jc_network.specs.RunInvariant.{commands_left}
use Rattle.jc_network.specs.Refines.{AreSeen, AreShort}

-- Events of the version have led from the start of the scripts, which are short, to the first network, and others from
-- there to the network. In the set of what was made the stored states represent it.
pub record IsInRun (version : Version) (scripts : List (List Cmd)) (first network kept : List State) : Type 0 where
  pub short : AreShort scripts
  pub given : List Event
  pub before : AfterIn (of_version version (starts scripts)) given (of_version version first)
  pub events : List Event
  pub led : AfterIn (of_version version first) events (of_version version network)
  pub set : List Op
  pub seen : AreSeen set network kept

-- events have led to the network from the start of some scripts
abbrev pub IsFromStart : List State → Type 0
IsFromStart network = (scripts : List (List Cmd)) × IsReached scripts network

-- Events have led to the first network of a history from the start of some scripts, in the version of the one now, and
-- others from there to the one now.
pub record HasBegun (c : NetworkHistory) : Type 0 where
  pub scripts : List (List Cmd)
  pub given : List Event
  pub before : AfterIn (of_version c.history.now.version (starts scripts)) given (first_of c.history)
  pub events : List Event
  pub led : AfterIn (first_of c.history) events c.history.now

-- In a history that began at the start of a scenario, no counter is above the number of that scenario's commands that
-- were run.
abbrev pub OwnCountersAreRun : Type 0
OwnCountersAreRun =
    (s : Scenario) (c : NetworkHistory)
    → IsStart s (first_of c.history)
    → HasBegun c
    → (o : Op)
    → Contains (ops_held c.history.now.states) o
    → o.id.counter + commands_left c.history.now.states ≤ commands_left (starts s.scripts)

-- The network and all before it, back to the first one, by whose steps they were, the last one first.
abbrev pub AreInRun : Version → List (List Cmd) → List State → List ℕ → List ReplicaHistory → Type 0
AreInRun version scripts first [] ps =
    IsInRun version scripts first (network_of ps) (kept_of ps) × (network_of ps ≡ first)
AreInRun version scripts first (i ∷ is) ps =
    IsInRun version scripts first (network_of ps) (kept_of ps) × AreInRun version scripts first is (back_at i ps)

-- the replica i can go back
pub record NetCanGoBack (i : ℕ) (ps : List ReplicaHistory) : Type 0 where
  pub replica : ReplicaHistory
  pub there : slice_get ps i ≡ Some replica
  pub some : replica.history.earlier ≢ []

abbrev pub AreBacked : List ℕ → List ReplicaHistory → Type 0
AreBacked [] ps = Unit {0}
AreBacked (i ∷ is) ps = NetCanGoBack i ps × AreBacked is (back_at i ps)

-- each replica has the number of its place
abbrev pub AreNumbered : List ReplicaHistory → Type 0
AreNumbered ps = (p : ℕ) (replica : ReplicaHistory) → slice_get ps p ≡ Some replica → replica.number ≡ p

-- a replica for each of so many names
pub record IsNet (version : Version) (count : ℕ) (whose : List ℕ) (ps : List ReplicaHistory) : Type 0 where
  pub each : length ps ≡ count
  pub numbered : AreNumbered ps
  pub backed : AreBacked whose ps
  pub scripts : List (List Cmd)
  pub first : List State
  pub runs : AreInRun version scripts first whose ps

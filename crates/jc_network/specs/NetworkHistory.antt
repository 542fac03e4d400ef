-- The value of a network's model: its names and the history of the network.
use Rattle.std.specs.Prelude.{◌≡◌, ℕ, zero, suc, List, [], ◌∷◌, ◌++◌, map, refl}
use Rattle.std.specs.Coded.{Coded, code_by, coded×, coded_ℕ, coded_list}
use Rattle.jc_rules.specs.declared.operation.Event.{Event}
use Rattle.jc_rules.specs.declared.version.Version.{Version}
use Rattle.jc_rules.specs.contracts.version.Version.{the_row as version_row}
use Rattle.jc_rules.specs.History.{History, history_code, timeline, begun, one_back}
use Rattle.jc_rules.specs.State.{State}
use Rattle.jc_rules.specs.Step.{Network, StepIn}
use Rattle.jc_rules.specs.Trace.{Rows}
use Rattle.jc_replica.specs.Codes.{state_code}
use Rattle.jc_replica.specs.ReplicaHistory.{ReplicaHistory}
use Rattle.jc_network.specs.Abstract.{real}

-- the replicas' names, and the history of the network
pub record NetworkHistory : Type 0 where
  pub names : List (List ℕ)
  pub history : History Network

-- the states as a network of the version
abbrev pub of_version : Version → List State → Network
of_version version states = record { version = version; states = states }

abbrev pub network_code : Coded Network
network_code =
    code_by (Version × List State)
    (coded× version_row.coded (coded_list state_code))
    (λ n. (n.version, n.states))
    (λ t. record { version = t.0; states = t.1 })
    (λ _. refl)

abbrev pub network_history_code : Coded NetworkHistory
network_history_code =
    code_by (List (List ℕ) × History Network)
    (coded× (coded_list (coded_list coded_ℕ)) (history_code network_code))
    (λ c. (c.names, c.history))
    (λ t. record { names = t.0; history = t.1 })
    (λ _. refl)

-- The event is a step by these rules, in the network's version, and the network before it is kept.
pub record StepsTo (old : NetworkHistory) (event : Event) (new : NetworkHistory) (rows : Rows) : Type 0 where
  pub step : StepIn old.history.now event new.history.now rows.rows
  pub depth : rows.depth ≡ 0
  pub earlier : new.history.earlier ≡ timeline old.history
  pub names : new.names ≡ old.names

-- ---- the replicas

abbrev pub kept_of : List ReplicaHistory → List State
kept_of ps = map (λ p. p.history.now) ps

-- the network that the replicas' stored states represent
abbrev pub network_of : List ReplicaHistory → List State
network_of ps = real (kept_of ps)

-- without the states before its steps
abbrev pub begin_now : ReplicaHistory → ReplicaHistory
begin_now p = record p { history = begun p.history.now }

-- before the last step
abbrev pub back_one : ReplicaHistory → ReplicaHistory
back_one p = record p { history = one_back p.history }

abbrev pub back_at : ℕ → List ReplicaHistory → List ReplicaHistory
back_at i [] = []
back_at zero (p ∷ ps) = back_one p ∷ ps
back_at (suc i) (p ∷ ps) = p ∷ back_at i ps

-- the networks before each step, the oldest first; whose steps they were, the last one first
abbrev pub earlier_of : List ℕ → List ReplicaHistory → List (List State)
earlier_of [] ps = []
earlier_of (i ∷ is) ps = earlier_of is (back_at i ps) ++ network_of (back_at i ps) ∷ []

abbrev pub network_history_of : Version → List (List ℕ) → List ℕ → List ReplicaHistory → NetworkHistory
network_history_of version names whose ps = record {
  names = names;
  history = record {
    now = of_version version (network_of ps);
    earlier = map (of_version version) (earlier_of whose ps);
  };
}

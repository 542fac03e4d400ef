-- The value of a replica's model: its number and the history of its stored state.
use Rattle.std.specs.Prelude.{ℕ, [], refl}
use Rattle.std.specs.Coded.{Coded, code_by, coded×, coded_ℕ}
use Rattle.jc_rules.specs.History.{History, history_code}
use Rattle.jc_rules.specs.State.{State}
use Rattle.jc_rules.specs.Trace.{Rows}
use Rattle.jc_replica.specs.Codes.{state_code}

-- the replica's number in the order of names, and the history of its stored state
pub record ReplicaHistory : Type 0 where
  pub number : ℕ
  pub history : History State

abbrev pub replica_history_code : Coded ReplicaHistory
replica_history_code =
    code_by (ℕ × History State)
    (coded× coded_ℕ (history_code state_code))
    (λ p. (p.number, p.history))
    (λ t. record { number = t.0; history = t.1 })
    (λ _. refl)

-- a trace without a rule
abbrev pub no_rows : Rows
no_rows = record { rows = []; depth = 0 }

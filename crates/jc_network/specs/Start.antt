-- The replicas of a network at its start.
use Rattle.std.specs.Prelude.{ℕ, suc, List, [], ◌∷◌}
use Rattle.jc_rules.specs.History.{begun}
use Rattle.jc_rules.specs.State.{start}
use Rattle.jc_rules.specs.Syntax.{Cmd}
use Rattle.jc_replica.specs.ReplicaHistory.{ReplicaHistory}

-- a replica at its start for each script, numbered from n
abbrev pub replicas_from : ℕ → List (List Cmd) → List ReplicaHistory
replicas_from n [] = []
replicas_from n (s ∷ scripts) =
    record { number = n; history = begun (start s) } ∷ replicas_from (suc n) scripts

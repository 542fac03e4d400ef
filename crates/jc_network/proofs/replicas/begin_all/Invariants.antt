use Rattle.std.proofs.Common.{◌≡◌, ◌++◌, map, take, drop}
use Rattle.jc_network.specs.NetworkHistory.{begin_now}
use Rattle.jc_network.proofs.replicas.begin_all.Given as goal

-- those before the index begin, and the others are as they were
abbrev pub invariant-loop-p : goal.invariant-loop-p
invariant-loop-p l = l.replicas ≡ map begin_now (take l.p l.fn.replicas) ++ drop l.p l.fn.replicas

use Rattle.std.proofs.Common.{◌≡◌, length}
use Rattle.jc_scenario.specs.Views.{scripts_view}
use Rattle.jc_network.specs.Start.{replicas_from}
use Rattle.jc_network.proofs.replicas.replicas_of.Given as goal

-- a replica for each script so far
abbrev pub invariant-loop-script : goal.invariant-loop-script
invariant-loop-script l = record {
  counted : l.number ≡ length l.yielded;
  made : l.replicas.items ≡ replicas_from 0 (scripts_view l.yielded);
}

use Rattle.std.proofs.Common.{◌≡◌, map, take}
use Rattle.jc_parser.specs.ScenarioViews.{part_view}
use Rattle.jc_parser.proofs.scenarios.copy_replicas.Given as goal

-- the replicas before the index were copied
abbrev pub invariant-loop-replica : goal.invariant-loop-replica
invariant-loop-replica l = map part_view l.copies.items ≡ map part_view (take l.replica-index l.replicas)

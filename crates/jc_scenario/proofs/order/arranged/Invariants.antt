use Rattle.std.proofs.Common.{◌≡◌, map, length}
use Rattle.std.specs.List.Sorted.{IsPermutation}
use Rattle.jc_rules.specs.Entries.{IsRising}
use Rattle.jc_rules.specs.Order.{name_cmp}
use Rattle.jc_parser.specs.ScenarioViews.{part_view}
use Rattle.jc_scenario.specs.WellFormed.{parts_of}
use Rattle.jc_scenario.specs.Views.{scripts_view}
use Rattle.jc_scenario.proofs.order.arranged.Given as goal

-- the replicas so far stand in the order of their names
abbrev pub invariant-loop-replica : goal.invariant-loop-replica
invariant-loop-replica l =
    IsRising name_cmp l.names.items
    × (length l.scripts.items ≡ length l.names.items)
    × IsPermutation (map part_view l.yielded) (parts_of l.names.items (scripts_view l.scripts.items))

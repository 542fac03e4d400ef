use Rattle.jc_tree.specs.Numbered.{column_entries}
use Rattle.jc_tree.specs.Blocks.{AreFit}
use Rattle.jc_tree.proofs.arena_node.grow.Given as goal

abbrev pub invariant-loop-step : goal.invariant-loop-step
invariant-loop-step l =
    AreFit l.keys.keys (column_entries l.links l.keys) (column_entries l.presences l.keys) l.initial.blocks
    → AreFit l.keys.keys (column_entries l.links l.keys) (column_entries l.presences l.keys) l.blocks

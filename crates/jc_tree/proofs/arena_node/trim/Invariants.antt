use Rattle.std.proofs.Common.{◌≡◌, length, take}
use Rattle.jc_tree.specs.Tables.{AreColumnsWithin, flat_of}
use Rattle.jc_tree.proofs.arena_node.trim.Given as goal

abbrev pub invariant-loop-last : goal.invariant-loop-last
invariant-loop-last l =
    AreColumnsWithin l.keys l.maps.items l.lists.items l.registers.items l.presences l.links.items
    × (flat_of l.keys l.maps.items l.lists.items l.registers.items l.presences l.links.items
    ≡ flat_of l.fn.keys l.fn.maps.items l.fn.lists.items l.fn.registers.items l.fn.presences l.fn.links.items)
    × (l.keys.keys ≡ take (length l.keys.keys) l.fn.keys.keys)

abbrev pub decreases-loop-last : goal.decreases-loop-last
decreases-loop-last l = length l.keys.keys

use Rattle.std.proofs.Common.{◌≡◌, ◌+◌, ◌≤◌, ◌++◌, [], ◌∷◌, length, take}
use Rattle.jc_tree.specs.Arena.{content_of_arena}
use Rattle.jc_tree.specs.ArenaUndo.{arena_contents, AreOldNumbers}
use Rattle.jc_tree.proofs.arena.ArenaTreeTreeStore.undo_to.Given as goal

abbrev pub invariant-loop-mark : goal.invariant-loop-mark
invariant-loop-mark l =
    (l.mark.changes ≤ length l.self.undos.items)
    × AreOldNumbers l.self.nodes.items l.initial.self.nodes.items
    × (arena_contents l.self.undos.items l.self.nodes.items ++ content_of_arena l.self.nodes.items ∷ [] ≡ take (length l.self.undos.items + 1) (arena_contents l.initial.self.undos.items l.initial.self.nodes.items ++ content_of_arena l.initial.self.nodes.items ∷ []))

abbrev pub decreases-loop-mark : goal.decreases-loop-mark
decreases-loop-mark l = length l.self.undos.items

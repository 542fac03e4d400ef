use Rattle.std.proofs.Common.{◌≡◌, ◌+◌, ◌≤◌, ◌++◌, [], ◌∷◌, length, take}
use Rattle.jc_tree.specs.Undo.{earlier_contents}
use Rattle.jc_tree.proofs.plain.PlainTreeTreeStore.undo_to.Given as goal

abbrev pub invariant-loop-mark : goal.invariant-loop-mark
invariant-loop-mark l =
    (l.mark.changes ≤ length l.self.undos.items)
    × (l.self.paths.items ≡ l.initial.self.paths.items)
    × (earlier_contents l.self.undos.items l.self.root ++ l.self.root ∷ [] ≡ take (length l.self.undos.items + 1) (earlier_contents l.initial.self.undos.items l.initial.self.root ++ l.initial.self.root ∷ []))

abbrev pub decreases-loop-mark : goal.decreases-loop-mark
decreases-loop-mark l = length l.self.undos.items

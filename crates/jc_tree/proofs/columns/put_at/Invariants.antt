use Rattle.std.proofs.Common.{◌≡◌, ◌-◌, ◌+◌, ◌≤◌, ℕ, length, vec_capacity}
use Rattle.jc_tree.specs.Numbered.{at_number}
use Rattle.jc_tree.proofs.columns.put_at.Given as goal

abbrev pub invariant-loop-column : goal.invariant-loop-column
invariant-loop-column g l =
    (length l.column.items ≤ l.number)
    × (l.number + 1 ≤ vec_capacity l.column)
    × ((m : ℕ) → at_number l.column.items m ≡ at_number l.fn.column.items m)

abbrev pub decreases-loop-column : goal.decreases-loop-column
decreases-loop-column g l = l.number - length l.column.items

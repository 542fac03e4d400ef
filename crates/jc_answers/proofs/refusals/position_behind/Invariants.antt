use Rattle.std.proofs.Common.{◌≡◌, ◌≤◌, ◌+◌, take}
use Rattle.jc_answers.specs.Refusals.{line_behind, column_behind}
use Rattle.jc_answers.proofs.refusals.position_behind.Given as goal

-- the position behind the bytes so far
abbrev pub invariant-loop-byte : goal.invariant-loop-byte
invariant-loop-byte l =
    (l.line ≡ line_behind (take l.byte-index l.before)) × (l.column ≡ column_behind (take l.byte-index l.before))
    × (l.line ≤ l.byte-index + 1) × (l.column ≤ l.byte-index + 1)

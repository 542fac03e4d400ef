use Rattle.std.proofs.Common.{◌<◌, length, ◌∙◌, arith}
use Rattle.jc_answers.proofs.PositionsLemmas.{line_more, column_more}
use Rattle.jc_answers.proofs.refusals.position_behind.Goals as goal

pub loop-byte-preserved : goal.loop-byte-preserved
loop-byte-preserved c =
    let before = c.args.before.now in
    let i = c.loop-byte.byte-index in
    let lt : i < length before = omega arith in (
      c.next_line-line.ensures.line ∙ line_more before i c.loop-byte.line lt c.loop-byte.invariant.0,
      c.next_column-column.ensures.column ∙ column_more before i c.loop-byte.column lt c.loop-byte.invariant.1,
      omega (arith, c.next_line-line.ensures.bound, c.loop-byte.invariant.2),
      omega (arith, c.next_column-column.ensures.bound, c.loop-byte.invariant.3),
    )

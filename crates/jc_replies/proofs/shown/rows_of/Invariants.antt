use Rattle.std.proofs.Common.{map, take}
use Rattle.jc_rules.specs.Runs.{rows_of_all}
use Rattle.jc_answers.specs.Parts.{HasItems}
use Rattle.jc_replies.specs.ReplyTexts.{row_text}
use Rattle.jc_replies.proofs.shown.rows_of.Given as goal

-- the rules of the runs so far
abbrev pub invariant-loop-run : goal.invariant-loop-run
invariant-loop-run l = HasItems l.list (map row_text (rows_of_all (take l.run-index l.runs)))

use Rattle.std.proofs.Common.{List, ℕ, ◌++◌, map}
use Rattle.jc_rules.specs.Runs.{deeper}
use Rattle.jc_answers.specs.Parts.{HasItems}
use Rattle.jc_replies.specs.ReplyTexts.{row_text}
use Rattle.jc_replies.proofs.shown.push_run.Given as goal

-- the rules so far
abbrev pub invariant-loop-i : goal.invariant-loop-i
invariant-loop-i l = record {
  rules : (ts : List (List ℕ)) → HasItems l.initial.list ts → HasItems l.list (ts ++ map row_text (deeper l.run.rule l.run.depth l.i));
}

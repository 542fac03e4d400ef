use Rattle.std.proofs.Common.{map, take}
use Rattle.std.proofs.lemmas.Result.{IfOk-weaker}
use Rattle.jc_rules.specs.Runs.{rows_of_all}
use Rattle.jc_replies.specs.ReplyTexts.{row_text}
use Rattle.jc_replies.proofs.ShownLemmas.{runs_items, all_runs}
use Rattle.jc_replies.proofs.shown.rows_of.Goals as goal

pub loop-run-preserved : goal.loop-run-preserved
loop-run-preserved c =
    let runs = c.args.runs.now in
    let i = c.loop-run.run-index in
    runs_items runs i c.run-item.result c.push_run.new.list c.loop-run-test.true c.run-item.is (c.in_ok-push_run.ensures (map row_text (rows_of_all (take i runs))) c.loop-run.invariant)

pub returns : goal.returns
returns c =
    let runs = c.args.runs.now in
    IfOk-weaker c.end.result _ _ (λ text h. h (map row_text (rows_of_all runs)) (all_runs runs c.loop-run.run-index c.loop-run.list c.loop-run-test.false c.loop-run.invariant)) c.end.ensures

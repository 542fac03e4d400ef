use Rattle.std.proofs.Common.{◌+◌, ◌++◌, refl, ap, ◌∙◌}
use Rattle.std.proofs.lemmas.Slice.{pushed}
use Rattle.jc_dump.specs.Lines.{row_text}
use Rattle.jc_dump.proofs.RowsLemmas.{run_more}
use Rattle.jc_dump.proofs.rows.push_run.Goals as goal

pub loop-i-preserved : goal.loop-i-preserved
loop-i-preserved c =
    let run = c.args.run.now in
    let l = c.loop-i in
    let row = row_text (run.rule, run.depth + c.from.result) in
    record {
      line = c.in_ok-push.ensures.line;
      lines = run_more run.rule run.depth l.i c.args.out.now.items l.out.items c.push.new.out.items l.invariant.lines (pushed {was = l.out.items} row refl c.in_ok-push.was c.push.ensures.bytes ∙ ap (λ i. l.out.items ++ row_text (run.rule, run.depth + i)) c.from.ensures);
      utf8 = λ h. c.push.ensures.utf8 (l.invariant.utf8 h);
    }

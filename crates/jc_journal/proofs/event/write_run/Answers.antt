use Rattle.jc_journal.proofs.TokensLemmas.{run_then}
use Rattle.jc_journal.proofs.event.write_run.Goals as goal

pub loop-i-preserved : goal.loop-i-preserved
loop-i-preserved c = let run = c.args.run.now in run_then _ _ _ run.rule run.depth c.loop-i.i c.from.result c.from.ensures c.loop-i.invariant c.in_ok-write_rule.ensures

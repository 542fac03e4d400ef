use Rattle.jc_journal.proofs.StuckLineLemmas.{replica_missing}
use Rattle.jc_journal.proofs.stuck.made_missing.Goals as goal

pub loop-p-preserved : goal.loop-p-preserved
loop-p-preserved c = (
  c.in_ok-add_missing-in-Some.ensures.rises,
  replica_missing c.args.net.now.history.now.states c.loop-p.p c.in-Some.replica.now c.loop-p.ids.items c.add_missing.new.ids.items c.args.deps.now c.args.applied.now c.queue.result.now c.in-Some.ensures.some c.queue.ensures.queue c.loop-p.invariant.1 c.in_ok-add_missing-in-Some.ensures.added,
)

use Rattle.std.proofs.Common.{arith}
use Rattle.jc_meaning.proofs.GrowthAllLemmas.{next_brought}
use Rattle.jc_meaning.proofs.building.fill.Goals as goal

pub loop-op-preserved : goal.loop-op-preserved
loop-op-preserved g c = next_brought c.args.ops.now c.loop-op.op-index c.op-item.result _ _ _ (omega arith) c.op-item.is c.requires c.loop-op.invariant c.in_ok-add.ensures

use Rattle.std.proofs.Common.{length, ◌-◌}
use Rattle.jc_apply.proofs.apply.+operate.Given as goal

abbrev pub decreases-operate : goal.decreases-operate
decreases-operate g l = length l.op.now.cursor.path - l.depth

use Rattle.std.proofs.Common.{length}
use Rattle.jc_view.proofs.alive.+passes.Given as goal

abbrev pub decreases-passes : goal.decreases-passes
decreases-passes l = length l.path.now

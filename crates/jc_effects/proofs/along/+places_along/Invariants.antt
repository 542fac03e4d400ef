use Rattle.std.proofs.Common.{◌-◌, length}
use Rattle.jc_effects.proofs.along.+places_along.Given as goal

abbrev pub decreases-places_along : goal.decreases-places_along
decreases-places_along g l = length l.change.now.op.now.cursor.path - l.depth

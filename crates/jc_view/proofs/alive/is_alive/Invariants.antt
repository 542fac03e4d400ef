use Rattle.std.proofs.Common.{◌≡◌, drop}
use Rattle.jc_view.specs.Visible.{goes_by, some_goes}
use Rattle.jc_view.proofs.alive.is_alive.Given as goal

abbrev pub invariant-loop-id : goal.invariant-loop-id
invariant-loop-id g l = some_goes (goes_by l.replica.history.now) l.at l.tagged l.ids ≡ some_goes (goes_by l.replica.history.now) l.at l.tagged (drop l.id-index l.ids)

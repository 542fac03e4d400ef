use Rattle.std.proofs.Common.{◌≡◌, ◌+◌, [], length}
use Rattle.jc_network.specs.Given.{IsStarted}
use Rattle.jc_scenario.specs.WellFormed.{Scenario}
use Rattle.jc_weave.specs.Weaving.{IsLoomAfter, loom}
use Rattle.jc_weave.proofs.weaving.weave_from.Given as goal

abbrev pub invariant-loop-loom : goal.invariant-loop-loom
invariant-loop-loom l = record {
  after : (s : Scenario) → IsStarted s l.fn.net → IsLoomAfter s l.seed l.limit (loom l.loom.net.history.now l.loom.phases.items l.loom.live.items l.loom.rng l.loom.left) l.loom.schedule.items l.loom.stucks.items;
  begun : l.loom.net.history.earlier ≡ [];
  listed : length l.loom.schedule.items + l.loom.left ≡ l.limit;
  names : l.loom.net.names ≡ l.fn.net.names;
}

abbrev pub decreases-loop-loom : goal.decreases-loop-loom
decreases-loop-loom l = l.loom.left + length l.loom.live.items

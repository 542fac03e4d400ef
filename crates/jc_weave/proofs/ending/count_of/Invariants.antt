use Rattle.std.proofs.Common.{◌≡◌, ◌≤◌, ◌+◌, length}
use Rattle.jc_choice.specs.Legal.{own_events}
use Rattle.jc_weave.proofs.ending.count_of.Given as goal

abbrev pub invariant-loop-event : goal.invariant-loop-event
invariant-loop-event l = record {
  so_far : l.count + length (own_events l.rest l.p) ≡ length (own_events l.fn.schedule l.p);
  few : l.count + length l.rest ≤ 100000;
}

abbrev pub decreases-loop-event : goal.decreases-loop-event
decreases-loop-event l = length l.rest

-- About specs/Moves: moves forward that end before an event which isn't made.
use Rattle.std.proofs.Common.{◌≡◌, ℕ, length, slice_get, Some}
use Rattle.jc_rules.specs.declared.operation.Event.{Event}
use Rattle.jc_network.specs.declared.fault.Stuck.{Stuck}
use Rattle.jc_network.specs.Steps.{IsStuckFor}
use Rattle.jc_debug.specs.declared.fault.Halt.TheVariants as H
use Rattle.jc_debug.specs.Moves.{IsToldAt, IsNextHalted}
use Rattle.jc_debug.specs.Invariant.{Seen, IsDebugger, IsMoved, start_of}
use Rattle.jc_debug.proofs.InvariantLemmas.{is_at, carried}

-- the event at the position is stuck in the network
pub told_here : (d : Seen) → IsDebugger d → (event : Event) → slice_get d.schedule (length d.traces) ≡ Some event → (s : Stuck) → IsStuckFor d.net.history.now event s → IsNextHalted d (H.Stuck s)
told_here d h event is s k = record {
  why = k.why;
  event = event;
  is = k.is;
  stuck = record { before = d.net.history.now; is_at = is_at d h; is = is; stuck = k.stuck };
}

pub told_old : (old now : Seen) (n : ℕ) (s : Stuck) → IsMoved old now n → IsNextHalted now (H.Stuck s) → IsToldAt (start_of old) old.schedule n s
told_old old now n s m told = carried (λ S es bs k. IsToldAt S es k s) old now n m told

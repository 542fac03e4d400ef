-- About specs/DebuggerState and specs/Moves: what the contracts of a debugger's calls say of its `Session`. jc_session
-- cites it.
use Rattle.std.proofs.Common.{◌≡◌, ℕ, List, [], ◌∷◌, ◌++◌, length, slice_get, unwrap_or, Some, None, ap, sym, subst}
use Rattle.jc_rules.specs.declared.operation.Event.{Event}
use Rattle.jc_rules.specs.Refused.{Cause}
use Rattle.jc_rules.specs.Step.{Network}
use Rattle.jc_network.specs.declared.fault.Stuck.{Stuck}
use Rattle.jc_network.specs.Given.{IsStart, IsStarted}
use Rattle.jc_network.specs.Steps.{stuck_for}
use Rattle.jc_scenario.specs.WellFormed.{Scenario}
use Rattle.jc_debug.specs.declared.fault.Halt.TheVariants as H
use Rattle.jc_debug.specs.Moves.{IsHalted}
use Rattle.jc_debug.specs.DebuggerState.{GoesTo, arrives, stops, moved_to}
use Rattle.jc_debug.specs.Invariant.{Seen, start_of, session_of, IsDebugger, IsMoved}
use Rattle.jc_debug.proofs.InvariantLemmas.{at_old}

-- a new debugger is at the scenario's start
pub begun_at : (d : Seen) (s : Scenario) → IsStarted s d.net → IsStart s (start_of d)
begun_at d s h =
    let first : start_of d ≡ d.net.history.now = ap (λ (es : List Network). unwrap_or (slice_get (es ++ d.net.history.now ∷ []) 0) d.net.history.now) h.earlier in
    subst (IsStart s) (sym first) h.start

pub moved_session : (d e : Seen) (n : ℕ) → IsMoved d e n → session_of e ≡ moved_to (session_of d) n
moved_session d e n m = λ i. record { schedule = m.schedule i; position = m.position i; breaks = m.breaks i }

-- a move that arrived
pub arrived : (d e : Seen) (to : ℕ) → IsDebugger e → IsMoved d e to → GoesTo (start_of d) d.schedule (length d.traces) to to None
arrived d e to h m = arrives (at_old d e to m h)

-- a move that stopped before a stuck event
pub record Stopped (d e : Seen) (to : ℕ) (s : Stuck) : Type 0 where
  pub position : ℕ
  pub event : Event
  pub why : Cause
  pub is : s ≡ stuck_for why event
  pub moved : IsMoved d e position
  pub goes : GoesTo (start_of d) d.schedule (length d.traces) to position (Some (event, why))

pub stopped : (d e : Seen) (to : ℕ) (s : Stuck) → IsHalted d e to (H.Stuck s) → Stopped d e to s
stopped d e to s h = record {
  position = h.0;
  event = h.2.event;
  why = h.2.why;
  is = h.2.is;
  moved = h.1.moved;
  goes = stops h.1.forward h.1.short h.2.stuck;
}

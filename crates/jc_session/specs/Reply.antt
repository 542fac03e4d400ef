-- What is answered to a request, apart from how it is written: the answers are these, and their texts are made of them.
use Rattle.std.specs.Prelude.{ℕ, List, Option}
use Rattle.jc_rules.specs.declared.operation.Event.{Event}
use Rattle.jc_rules.specs.declared.refusal.Refusal.{Refusal}
use Rattle.jc_rules.specs.declared.rule.Rule.{Rule}
use Rattle.jc_rules.specs.State.{State}
use Rattle.jc_debug.specs.DebuggerState.{StuckEvent, RunOutcome}
use Rattle.jc_meaning.specs.declared.comparison.Comparison.{Comparison}

-- A refusal, also one of the text of an event, with the offset in it; the position that a move or a run reached, and
-- the event that is stuck there or how the run ended; the number of a breakpoint that was set or taken away; the states
-- of all replicas, or the name and the state of one; the number and the rules of the event that led to the position, or
-- that none did; the events that can be made, or those of the schedule; the position and the schedule's length; how two
-- replicas compare.
pub data Reply : Type 0 where
  refused : Refusal → Reply
  misspelled : Refusal → ℕ → Reply
  went : ℕ → Option StuckEvent → Reply
  ran : ℕ → RunOutcome → Reply
  set : ℕ → Reply
  cleared : ℕ → Reply
  states : List State → Reply
  state_of : List ℕ → State → Reply
  traced : ℕ → Event → List (Rule × ℕ) → Reply
  at_start : Reply
  enabled : List Event → Reply
  scheduled : List Event → Reply
  stands : ℕ → ℕ → Reply
  compared : Comparison → Reply

-- What the last step of a network did: the contract of `last_step`.
use Rattle.std.specs.Prelude.{◌≡◌, ◌≢◌, ℕ, Some, option_map, slice_get}
use Rattle.jc_rules.specs.History.{History, timeline}
use Rattle.jc_rules.specs.State.{State}
use Rattle.jc_rules.specs.Step.{Network}
use Rattle.jc_vectors.specs.StoredStates.{stored_state}
use Rattle.jc_replica.specs.declared.last_step.LastStep.{LastStep}
use Rattle.jc_replica.specs.LastStep.{IsLastStep}
use Rattle.jc_network.specs.Invariant.{IsFromStart}

-- The last step of the history is the one that is returned: one replica made it, by its stored states before and after
-- it, and those of the others stayed. The network before it was reached from a start.
pub record NetHasLastStep (h : History Network) (step : LastStep) : Type 0 where
  pub old : History Network
  pub earlier : h.earlier ≡ timeline old
  pub reached : IsFromStart old.now.states
  pub number : ℕ
  pub before : State
  pub after : State
  pub was : slice_get old.now.states number ≡ Some before
  pub is : slice_get h.now.states number ≡ Some after
  pub did : IsLastStep (stored_state before) (stored_state after) step
  pub others : (q : ℕ) → q ≢ number
      → option_map stored_state (slice_get h.now.states q) ≡ option_map stored_state (slice_get old.now.states q)

-- The results of a step at the bench: the contract of `Bench::step`.
use Rattle.std.specs.Prelude.{◌≡◌, ℕ, ◌+◌, ◌<◌, List, [], ◌∷◌, ◌++◌, length}
use Rattle.jc_rules.specs.declared.limits.TheConstants.{MAX_EVENTS}
use Rattle.jc_rules.specs.declared.operation.Event.{Event}
use Rattle.jc_rules.specs.declared.rule.Rule.{Rule}
use Rattle.jc_rules.specs.Step.{Network, StepIn}
use Rattle.jc_network.specs.declared.fault.Stuck.{Stuck}
use Rattle.jc_network.specs.Steps.{IsStuckFor}
use Rattle.jc_scenario.specs.WellFormed.{Scenario}
use Rattle.jc_runner.specs.declared.bench.StepAnswer.{StepAnswer}
use Rattle.jc_runner.specs.declared.bench.StepAnswer.TheVariants as A
use Rattle.jc_choice.specs.Legal.{IsLegal}

-- The history ends with the event, whose number is the history's length; it is a step from the network before it.
pub record IsMadeEvent (s : Scenario) (e : Event) (seen mine new_mine : List Event) (number : ℕ)
    (rows : List (Rule × ℕ)) : Type 0 where
  pub before : List Event
  pub network : Network
  pub new_network : Network
  pub ends : seen ≡ before ++ e ∷ []
  pub is_number : number ≡ length seen
  pub grew : new_mine ≡ mine ++ e ∷ []
  pub legal : IsLegal before s network
  pub step : StepIn network e new_network rows

-- The event is stuck after the history, which has `front` events, and less than a schedule may have.
pub record IsStepRefused (s : Scenario) (e : Event) (seen mine new_mine : List Event) (front : ℕ)
    (stuck : Stuck) : Type 0 where
  pub network : Network
  pub is_front : front ≡ length seen
  pub room : length seen < MAX_EVENTS
  pub stays : new_mine ≡ mine
  pub legal : IsLegal seen s network
  pub is_stuck : IsStuckFor network e stuck

-- what a result says of the history that the pass has then seen, of its own events before and after, and of its takes
abbrev pub IsStepAnswered : Scenario → Event → List Event → List Event → List Event → ℕ → ℕ → StepAnswer → Type 0
IsStepAnswered s e seen mine new_mine left new_left (A.Made number trace) =
    IsMadeEvent s e seen mine new_mine number trace.rows × (new_left + 1 ≡ left)
IsStepAnswered s e seen mine new_mine left new_left (A.Refused front stuck) =
    IsStepRefused s e seen mine new_mine front stuck × (new_left + 1 ≡ left)
IsStepAnswered s e seen mine new_mine left new_left (A.Full front) =
    (front ≡ MAX_EVENTS) × (length seen ≡ MAX_EVENTS) × (new_mine ≡ mine) × (new_left + 1 ≡ left)
IsStepAnswered s e seen mine new_mine left new_left A.Memory =
    (length seen < MAX_EVENTS) × (new_mine ≡ mine) × (new_left + 1 ≡ left)
IsStepAnswered s e seen mine new_mine left new_left A.Spent = (new_mine ≡ mine) × (new_left ≡ left)

-- the history after the step
abbrev pub seen_after : List Event → Event → StepAnswer → List Event
seen_after history e (A.Made number trace) = history ++ e ∷ []
seen_after history e (A.Refused front stuck) = history
seen_after history e (A.Full front) = history
seen_after history e A.Memory = history
seen_after history e A.Spent = history

abbrev pub IsSpent : StepAnswer → Type 0
IsSpent A.Spent = Unit {0}
IsSpent _ = ⊥

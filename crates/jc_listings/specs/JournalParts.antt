-- What the functions of `journal` leave, for their contracts: two networks behind the same events, and one line.
use Rattle.std.specs.Prelude.{◌≡◌, ℕ, ◌<◌, Bool, true, false, List, [], Option, Some, None}
use Rattle.jc_rules.specs.declared.operation.Event.{Event}
use Rattle.jc_rules.specs.declared.rule.Rule.{Rule}
use Rattle.jc_rules.specs.Refused.{Cause, IsStuckIn}
use Rattle.jc_rules.specs.Step.{Network, StepIn}
use Rattle.jc_scenario.specs.WellFormed.{Scenario}
use Rattle.jc_network.specs.NetworkHistory.{NetworkHistory}
use Rattle.jc_journal.specs.declared.event.NumberedEvent.{NumberedEvent}
use Rattle.jc_listings.specs.declared.journals.Details.{Details}
use Rattle.jc_listings.specs.declared.journals.Networks.{Networks}
use Rattle.jc_listings.specs.Journals.{IsMadeLine, stuck_line_in}
use Rattle.jc_listings.specs.Positions.{IsAt, StopsAt}

-- ---- two networks

-- They are the same network, and nothing is kept to go back with.
pub record AreTwins (first second : NetworkHistory) : Type 0 where
  pub same : second.history.now ≡ first.history.now
  pub first_new : first.history.earlier ≡ []
  pub second_new : second.history.earlier ≡ []

-- so many of the events lead to both, which have the scenario's names
pub record AreBehind (s : Scenario) (schedule : List Event) (count : ℕ) (found : Networks) : Type 0 where
  pub is_at : IsAt s schedule count found.first.history.now
  pub twins : AreTwins found.first found.second
  pub names : found.first.names ≡ s.names

-- one of so many events is stuck
pub record IsUnreached (s : Scenario) (schedule : List Event) (count : ℕ) : Type 0 where
  pub stop : ℕ
  pub network : Network
  pub event : Event
  pub why : Cause
  pub before : stop < count
  pub stops : StopsAt s schedule stop network event why

-- the networks behind so many events, or none where one of these is stuck
abbrev pub AreFound : Scenario → List Event → ℕ → Option Networks → Type 0
AreFound s schedule count None = IsUnreached s schedule count
AreFound s schedule count (Some found) = AreBehind s schedule count found

-- ---- a line

-- the event led from the one network to the other, and this is its line
abbrev pub IsLineMade : Details → List (List ℕ) → NumberedEvent → Network → Network → List ℕ → Type 0
IsLineMade details names next old new text =
    (rows : List (Rule × ℕ)) × (step : StepIn old next.event new rows)
    × IsMadeLine details names (next.given, next.number) next.event rows step.step.before step.step.after text

-- it is stuck in the network, and this is its line
abbrev pub IsLineStuck : List (List ℕ) → NumberedEvent → Network → List ℕ → Type 0
IsLineStuck names next network text =
    (why : Cause) × IsStuckIn network next.event why
    × (text ≡ stuck_line_in names (next.given, next.number) network why next.event)

-- whether it is stuck, and its line
abbrev pub IsNextLine : Details → List (List ℕ) → NumberedEvent → Network → Network → Bool → List ℕ → Type 0
IsNextLine details names next old new false text = IsLineMade details names next old new text
IsNextLine details names next old new true text = IsLineStuck names next old text

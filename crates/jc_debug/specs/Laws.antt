-- The laws of this crate: each question about a schedule has one answer at most, so what a session shows is determined.
use Rattle.std.specs.Prelude.{◌≡◌, ℕ, List, Option}
use Rattle.jc_rules.specs.declared.operation.Event.{Event}
use Rattle.jc_rules.specs.declared.rule.Rule.{Rule}
use Rattle.jc_rules.specs.Refused.{Cause}
use Rattle.jc_rules.specs.Step.{Network}
use Rattle.jc_debug.specs.DebuggerState.{Session, IsNetworkAt, MakesEvent, IsStuckAt, StuckEvent, GoesTo, RunOutcome, Runs}

-- A position has one network at most.
abbrev pub OneNetwork : Type 0
OneNetwork =
    (start : Network) (events : List Event) (n : ℕ) (network other : Network)
    → IsNetworkAt start events n network
    → IsNetworkAt start events n other
    → network ≡ other

-- One event at most leads on from a position, by one trace.
abbrev pub OneTrace : Type 0
OneTrace =
    (start : Network) (events : List Event) (n : ℕ) (event other : Event) (rows other_rows : List (Rule × ℕ))
    → MakesEvent start events n event rows
    → MakesEvent start events n other other_rows
    → (event ≡ other)
    × (rows ≡ other_rows)

-- One event at most is stuck at a position, for one cause, and then none leads on.
abbrev pub OneStuckEvent : Type 0
OneStuckEvent =
    (start : Network) (events : List Event) (n : ℕ) (event other : Event) (why : Cause)
    → IsStuckAt start events n event why
    → ((due : Cause) → IsStuckAt start events n other due → (event ≡ other) × (why ≡ due))
    × ((rows : List (Rule × ℕ)) → MakesEvent start events n other rows → ⊥)

-- A move forward has one end.
abbrev pub OneMove : Type 0
OneMove =
    (start : Network) (events : List Event) (from to n m : ℕ) (end other : Option StuckEvent)
    → GoesTo start events from to n end
    → GoesTo start events from to m other
    → (n ≡ m)
    × (end ≡ other)

-- A run has one end.
abbrev pub OneDebugRun : Type 0
OneDebugRun =
    (start : Network) (A : Session) (n m : ℕ) (outcome other : RunOutcome)
    → Runs start A n outcome
    → Runs start A m other
    → (n ≡ m)
    × (outcome ≡ other)

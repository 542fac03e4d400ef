-- Examples: single events, with the states before and after and the traces written out.
use Rattle.std.specs.Prelude.{◌≡◌, ℕ, List, [], ◌∷◌, true, false}
use Rattle.jc_rules.specs.declared.id.Id.{Id}
use Rattle.jc_rules.specs.declared.operation.Op.{Op}
use Rattle.jc_rules.specs.declared.operation.Event.{Event}
use Rattle.jc_rules.specs.declared.rule.Rule.{Rule}
use Rattle.jc_rules.specs.Context.{Context}
use Rattle.jc_rules.specs.Syntax.{Cmd, Yield}
use Rattle.jc_rules.specs.State.{State, Bound}
use Rattle.jc_rules.specs.Derivation.{Derivation, conclusion, gives, Occur, ToState, trace}
use Rattle.jc_rules.specs.Table.{Holds}
pub mod Registers
pub mod Maps
pub mod Lists
pub mod Inserts
pub mod Deletions
pub mod Schedules
pub mod Stuck

-- In the first state the event, which reads these operations, has a derivation that leads to the second state and whose
-- trace is these rows.
pub record IsExample (before : State) (event : Event) (read : List Op) (after : State)
    (rows : List (Rule × ℕ)) : Type 0 where
  pub derivation : Derivation
  pub holds : Holds derivation
  pub concludes : conclusion derivation ≡ gives (Occur before event read) (ToState after)
  pub is_trace : trace 0 derivation ≡ rows

-- the identifiers that two replicas gave: a, whose number is 0, and b, whose number is 1
abbrev pub by_a : ℕ → Id
by_a c = record { counter = c; replica = 0 }

abbrev pub by_b : ℕ → Id
by_b c = record { counter = c; replica = 1 }

-- a state of a replica that came to no yield: the commands left, the variables, the document, the identifiers applied
-- and the operations made
abbrev pub alone : List Cmd → List (List ℕ × Bound) → Context → List Id → List Op → State
alone left vars tree ops made = record {
  left = left;
  acted = false;
  vars = vars;
  tree = tree;
  ops = ops;
  queue = made;
  send = [];
  recv = [];
}

-- a state of a replica at its last yield that offers all that it made: the document, the identifiers applied, and the
-- operations made and received
abbrev pub met : Context → List Id → List Op → List Op → State
met tree ops made received = record {
  left = Yield ∷ [];
  acted = true;
  vars = [];
  tree = tree;
  ops = ops;
  queue = made;
  send = made;
  recv = received;
}

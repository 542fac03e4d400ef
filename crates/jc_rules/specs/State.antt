-- States of a replica: what the rules of commands and events read and change.
use Rattle.std.specs.Prelude.{ℕ, List, [], Bool, false}
use Rattle.jc_rules.specs.declared.id.Id.{Id}
use Rattle.jc_rules.specs.declared.value.Value.{Value}
use Rattle.jc_rules.specs.declared.operation.Cursor.{Cursor}
use Rattle.jc_rules.specs.declared.operation.Op.{Op}
use Rattle.jc_rules.specs.Context.{Context, empty}
use Rattle.jc_rules.specs.Syntax.{Cmd}

-- what a variable is bound to
pub data Bound : Type 0 where
  ACursor : Cursor → Bound
  Names : List (List ℕ) → Bound
  Pairs : List (Id × Value) → Bound

-- the commands left, whether a yield event was made since the yield began, the variables by name, the document, the
-- identifiers applied, and the operations made, offered and received, by identifier
pub record State : Type 0 where
  pub left : List Cmd
  pub acted : Bool
  pub vars : List (List ℕ × Bound)
  pub tree : Context
  pub ops : List Id
  pub queue : List Op
  pub send : List Op
  pub recv : List Op

-- the start: all is empty but the script
abbrev pub start : List Cmd → State
start script = record {
  left = script;
  acted = false;
  vars = [];
  tree = empty;
  ops = [];
  queue = [];
  send = [];
  recv = [];
}

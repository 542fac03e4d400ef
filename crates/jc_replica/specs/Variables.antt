-- What a bound variable changes in a replica's variables.
use Rattle.std.specs.Prelude.{◌≡◌, ℕ, List, Option}
use Rattle.jc_rules.specs.State.{Bound}
use Rattle.jc_rules.specs.Table.{bind}
use Rattle.jc_replica.specs.Undo.{unbound}

-- The variable is bound. What it was bound to before gives back the old variables.
pub record IsBound (x : List ℕ) (b : Bound) (before : Option Bound) (old new : List (List ℕ × Bound)) : Type 0 where
  pub bound : new ≡ bind x b old
  pub back : unbound x before new ≡ old

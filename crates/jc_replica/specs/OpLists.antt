-- The value of a list of operations that grows at both ends.
use Rattle.std.specs.Prelude.{ℕ, List}
use Rattle.jc_rules.specs.declared.operation.Op.{Op}

-- the operations, and how many more there is room for
pub record OpsWithRoom : Type 0 where
  pub items : List Op
  pub room : ℕ

-- Expressions and commands, as the table has them.
use Rattle.std.specs.Prelude.{ℕ, List}
use Rattle.jc_rules.specs.declared.value.Value.{Value}

pub data Expr : Type 0 where
  TheDoc : Expr
  Variable : List ℕ → Expr
  GetKey : Expr → List ℕ → Expr
  Index : Expr → ℕ → Expr
  KeysOf : Expr → Expr
  ValuesOf : Expr → Expr

pub data Cmd : Type 0 where
  LetIn : List ℕ → Expr → Cmd
  SetTo : Expr → Value → Cmd
  InsertAfter : Expr → Value → Cmd
  DeleteAt : Expr → Cmd
  Yield : Cmd

-- What the next command does, for the event `exec`: the operation that it makes, or the variable that it binds.
use Rattle.std.specs.Prelude.{◌≡◌, ℕ, List, ◌∷◌}
use Rattle.jc_rules.specs.declared.operation.Cursor.{Cursor}
use Rattle.jc_rules.specs.declared.operation.Mutation.{Mutation}
use Rattle.jc_rules.specs.declared.operation.Mutation.TheVariants as M
use Rattle.jc_rules.specs.declared.operation.Op.{Op}
use Rattle.jc_rules.specs.declared.rule.Rule.{Rule}
use Rattle.jc_rules.specs.declared.rule.Rule.TheVariants as R
use Rattle.jc_rules.specs.State.{State, Bound, ACursor}
use Rattle.jc_rules.specs.Syntax.{Expr, TheDoc, Cmd, LetIn, SetTo, InsertAfter, DeleteAt, Yield}
use Rattle.jc_rules.specs.Trace.{Rows, pushed, one_deeper}
use Rattle.jc_vectors.specs.StoredStates.{new_op}
use Rattle.jc_cursor.specs.Evaluates.{Evaluates}

-- the trace at the premises of the rule
abbrev pub opened : Rows → Rule → Rows
opened t r = one_deeper (pushed t r)

-- the rule by which a command makes an operation
abbrev pub rule_by : Cmd → Rule
rule_by (SetTo e v) = R.MakeAssign
rule_by (InsertAfter e v) = R.MakeInsert
rule_by _ = R.MakeDelete

-- what the operation does
abbrev pub mutation_by : Cmd → Mutation
mutation_by (SetTo e v) = M.Assign v
mutation_by (InsertAfter e v) = M.Insert v
mutation_by _ = M.Delete

-- the expression that is evaluated first
abbrev pub expr_by : Cmd → Expr
expr_by (LetIn x e) = e
expr_by (SetTo e v) = e
expr_by (InsertAfter e v) = e
expr_by (DeleteAt e) = e
expr_by Yield = TheDoc

-- the command makes an operation
abbrev pub IsMaking : Cmd → Type 0
IsMaking (LetIn x e) = ⊥
IsMaking Yield = ⊥
IsMaking _ = Unit {0}

-- the command binds a variable
abbrev pub IsLet : Cmd → Type 0
IsLet (LetIn x e) = Unit {0}
IsLet _ = ⊥

-- the next command makes an operation
pub record MakesNext (left : List Cmd) : Type 0 where
  pub command : Cmd
  pub rest : List Cmd
  pub next : left ≡ command ∷ rest
  pub makes : IsMaking command

-- the next command binds a variable
pub record BindsNext (left : List Cmd) : Type 0 where
  pub name : List ℕ
  pub expr : Expr
  pub rest : List Cmd
  pub next : left ≡ LetIn name expr ∷ rest

-- The next command of the stored state K of replica p makes this operation. The trace ends where the operation's own
-- rules begin.
pub record MakesOp (K : State) (p : ℕ) (o : Op) (t u : Rows) : Type 0 where
  pub next : MakesNext K.left
  pub cursor : Cursor
  pub between : Rows
  pub evaluates : Evaluates K.tree K.vars (expr_by next.command) (ACursor cursor)
      (opened (opened t R.Exec) (rule_by next.command)) between
  pub is : o ≡ new_op p K.ops cursor (mutation_by next.command)
  pub rows : u ≡ opened (opened between R.MakeOp) R.ApplyLocal

-- The next command of the stored state K binds the variable x to b. The trace ends with the rules of its expression.
pub record Binds (K : State) (x : List ℕ) (b : Bound) (t u : Rows) : Type 0 where
  pub next : BindsNext K.left
  pub name : x ≡ next.name
  pub evaluates : Evaluates K.tree K.vars next.expr b (opened (opened t R.Exec) R.Let) u

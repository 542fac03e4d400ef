-- The trees of the rules that the trees in memory represent. Contracts of the parser and the printer are about them.
use Rattle.jc_rules.specs.Syntax as rules
use Rattle.jc_syntax.specs.declared.tree.Expr.{Expr, Doc, Var, Get', Idx', Keys', Values'}
use Rattle.jc_syntax.specs.declared.tree.Cmd.{Cmd}
use Rattle.jc_syntax.specs.declared.tree.Cmd.TheVariants.{Let, Set, InsertAfter, Delete, Yield}

abbrev pub expr_of : Expr → rules.Expr
expr_of Doc = rules.TheDoc
expr_of (Var name) = rules.Variable name
expr_of (Get' place from key) = rules.GetKey (expr_of from) key
expr_of (Idx' place from index) = rules.Index (expr_of from) index
expr_of (Keys' place from) = rules.KeysOf (expr_of from)
expr_of (Values' place from) = rules.ValuesOf (expr_of from)

abbrev pub cmd_of : Cmd → rules.Cmd
cmd_of (Let name expr) = rules.LetIn name (expr_of expr)
cmd_of (Set expr value) = rules.SetTo (expr_of expr) value
cmd_of (InsertAfter expr value) = rules.InsertAfter (expr_of expr) value
cmd_of (Delete expr) = rules.DeleteAt (expr_of expr)
cmd_of Yield = rules.Yield

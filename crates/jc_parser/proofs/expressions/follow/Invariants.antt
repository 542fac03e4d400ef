use Rattle.std.proofs.Common.{◌≡◌}
use Rattle.jc_syntax.specs.Trees.{expr_of}
use Rattle.jc_parser.specs.ExpressionReader.{chain_at}
use Rattle.jc_parser.proofs.expressions.follow.Given as goal

-- the expression so far, and the selectors to come
abbrev pub invariant-selectors : goal.invariant-selectors
invariant-selectors l = chain_at 256 (expr_of l.fn.root) l.fn.cursor ≡ chain_at l.left (expr_of l.expression) l.cursor

abbrev pub decreases-selectors : goal.decreases-selectors
decreases-selectors l = l.left

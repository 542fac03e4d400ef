use Rattle.jc_parser.specs.Expressions.{IsExpression, IsNoExpression}
use Rattle.jc_parser.specs.ExpressionReader.{only_expression_at}
use Rattle.jc_parser.proofs.GrammarExpressionsLemmas.{exactly}
use Rattle.jc_parser.proofs.TextLawsLemmas.{some_of_text}
use Rattle.jc_parser.proofs.laws.expression_else_fault.Goals as goal

pub returns : goal.returns
returns c = some_of_text IsExpression IsNoExpression only_expression_at exactly c.tokens_else_fault.ensures

use Rattle.jc_parser.specs.Expressions.{IsExpression, IsNoExpression}
use Rattle.jc_parser.specs.ExpressionReader.{only_expression_at}
use Rattle.jc_parser.proofs.GrammarExpressionsLemmas.{exactly}
use Rattle.jc_parser.proofs.TextLawsLemmas.{no_fault_of_text}
use Rattle.jc_parser.proofs.laws.expression_or_fault.Goals as goal

pub returns : goal.returns
returns c = no_fault_of_text IsExpression IsNoExpression only_expression_at exactly c.one_list_of_tokens.ensures c.tokens_or_fault.ensures

use Rattle.jc_parser.specs.Expressions.{IsExpression, IsNoExpression}
use Rattle.jc_parser.specs.ExpressionReader.{only_expression_at}
use Rattle.jc_parser.proofs.GrammarExpressionsLemmas.{exactly}
use Rattle.jc_parser.proofs.TextLawsLemmas.{one_fault_of_text}
use Rattle.jc_parser.proofs.laws.one_expression_fault.Goals as goal

pub returns : goal.returns
returns c = one_fault_of_text IsExpression IsNoExpression only_expression_at exactly c.one_list_of_tokens.ensures c.one_fault.ensures c.tokens_or_fault.ensures

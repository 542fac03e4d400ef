use Rattle.std.proofs.Common.{subst}
use Rattle.jc_syntax.specs.Trees.{expr_of}
use Rattle.jc_parser.specs.ReaderState.{Reading, reading_of, MapsResult}
use Rattle.jc_parser.specs.ExpressionReader.{only_expression_at}
use Rattle.jc_parser.proofs.SentencesLemmas.{tree_so, fault_so}
use Rattle.jc_parser.proofs.GrammarExpressionsLemmas.{exactly, expression_kind}
use Rattle.jc_parser.proofs.expressions.expression_of.Goals as goal

pub returns-clause-tree : goal.returns-clause-tree
returns-clause-tree c = tree_so (exactly (reading_of c.args.text.now c.args.tokens.now)) expr_of c.only_expression.result (subst (λ (r : Reading). MapsResult expr_of c.only_expression.result (only_expression_at r)) c.new-cursor.ensures c.only_expression.ensures)

pub returns-clause-fault : goal.returns-clause-fault
returns-clause-fault c = fault_so (exactly (reading_of c.args.text.now c.args.tokens.now)) expr_of c.only_expression.result (subst (λ (r : Reading). MapsResult expr_of c.only_expression.result (only_expression_at r)) c.new-cursor.ensures c.only_expression.ensures)

pub returns-clause-kind : goal.returns-clause-kind
returns-clause-kind c = expression_kind (reading_of c.args.text.now c.args.tokens.now) expr_of c.only_expression.result (subst (λ (r : Reading). MapsResult expr_of c.only_expression.result (only_expression_at r)) c.new-cursor.ensures c.only_expression.ensures)

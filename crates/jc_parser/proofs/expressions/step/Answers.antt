use Rattle.std.proofs.Common.{rules}
use Rattle.jc_parser.specs.ExpressionReader.{step_at}
use Rattle.jc_parser.proofs.expressions.step.Goals as goal

pub returns-then-begins_word-3 : goal.returns-then-begins_word-3
unfolding step_at
returns-then-begins_word-3 c = search rules

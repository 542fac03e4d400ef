use Rattle.jc_parser.proofs.ExpressionLoopsLemmas.{refused_index}
use Rattle.jc_parser.proofs.cursor.index_of.Goals as goal

pub returns-in-Err : goal.returns-in-Err
returns-in-Err c = refused_index c.args.digits.now c.in-Err.field-0 c.in-Err.ensures.value.0 c.requires

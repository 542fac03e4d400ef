use Rattle.jc_lines.proofs.AnswersLemmas.{array_line}
use Rattle.jc_lines.proofs.lists_are_lines.Goals as goal

pub returns : goal.returns
returns c = array_line

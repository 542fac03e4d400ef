use Rattle.jc_lines.proofs.AnswersLemmas.{object_line}
use Rattle.jc_lines.proofs.objects_are_lines.Goals as goal

pub returns : goal.returns
returns c = object_line

use Rattle.jc_lines.proofs.ServeLemmas.{about_line, turn_line}
use Rattle.jc_lines.proofs.answers_are_lines.Goals as goal

pub returns : goal.returns
returns c = (about_line, turn_line)

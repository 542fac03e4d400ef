use Rattle.jc_lines.proofs.AnswersLemmas.{refusal_line, text_line, misfit_line}
use Rattle.jc_lines.proofs.refusals_are_lines.Goals as goal

pub returns : goal.returns
returns c = (refusal_line, text_line, misfit_line)

use Rattle.jc_lines.proofs.ServeLemmas.{turns_lines}
use Rattle.jc_lines.proofs.requests_have_lines.Goals as goal

pub returns : goal.returns
returns c = turns_lines

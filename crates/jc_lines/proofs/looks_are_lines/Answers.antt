use Rattle.jc_lines.proofs.LooksLemmas.{look_line}
use Rattle.jc_lines.proofs.looks_are_lines.Goals as goal

pub returns : goal.returns
returns c = look_line

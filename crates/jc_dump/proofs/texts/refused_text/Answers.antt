use Rattle.std.proofs.Common.{rules}
use Rattle.jc_dump.proofs.texts.refused_text.Goals as goal

pub returns : goal.returns
returns c = search rules

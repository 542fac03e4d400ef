use Rattle.jc_lines.proofs.RepliesLemmas.{reply_line}
use Rattle.jc_lines.proofs.replies_are_lines.Goals as goal

pub returns : goal.returns
returns c = reply_line

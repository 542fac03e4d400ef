use Rattle.std.proofs.Common.{rules}
use Rattle.jc_parser.specs.ScriptReader.{finish_at, deletion_at}
use Rattle.jc_parser.proofs.scripts.finish.Goals as goal

pub returns : goal.returns
unfolding finish_at deletion_at
returns c = search rules

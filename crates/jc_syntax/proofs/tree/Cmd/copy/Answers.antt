use Rattle.std.proofs.Common.{rules}
use Rattle.jc_syntax.proofs.tree.Cmd.copy.Goals as goal

-- the command that was copied
pub returns : goal.returns
returns c = search rules

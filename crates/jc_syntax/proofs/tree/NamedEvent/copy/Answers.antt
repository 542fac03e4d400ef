use Rattle.std.proofs.Common.{rules}
use Rattle.jc_syntax.proofs.tree.NamedEvent.copy.Goals as goal

-- the event that was copied
pub returns : goal.returns
returns c = search rules

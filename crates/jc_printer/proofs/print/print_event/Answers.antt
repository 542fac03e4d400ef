use Rattle.std.proofs.Common.{rules}
use Rattle.jc_printer.proofs.print.print_event.Goals as goal

-- the sender stands before the identifier
pub returns-in-Take : goal.returns-in-Take
returns-in-Take c = search rules

-- the author is that of the identifier
pub returns-in-Apply : goal.returns-in-Apply
returns-in-Apply c = search rules

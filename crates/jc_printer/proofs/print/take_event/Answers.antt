use Rattle.std.proofs.Common.{rules, append_assoc}
use Rattle.jc_printer.proofs.print.take_event.Goals as goal

pub returns : goal.returns
returns c = search (rules, append_assoc)

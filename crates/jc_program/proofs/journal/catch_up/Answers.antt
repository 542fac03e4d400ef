use Rattle.std.proofs.Common.{rules}
use Rattle.jc_program.proofs.JournalResultLemmas.{catches_up}
use Rattle.jc_program.proofs.journal.catch_up.Goals as goal

pub returns-else-is_err : goal.returns-else-is_err
returns-else-is_err c = rw c.in-Some.is (catches_up c.args.event.now c.in-Some.net c.step.new.self c.begin.new.self c.step.result (search rules) c.step.ensures.made c.begin.ensures)

use Rattle.std.proofs.Common.{Err, ap, refl}
use Rattle.jc_program.specs.JournalResult.{asked_by}
use Rattle.jc_program.proofs.JournalResultLemmas.{event_made, behind_last, caught_up, stuck_named, event_stuck}
use Rattle.jc_program.proofs.journal.journal_next.Goals as goal

-- the event was made
pub returns-in_ok-catch_up-in-Ok-clause-ok : goal.returns-in_ok-catch_up-in-Ok-clause-ok
returns-in_ok-catch_up-in-Ok-clause-ok c =
    event_made (asked_by c.args.trace c.args.networks.now.behind) c.args.networks.now.net c.step.new.self c.args.networks.now.behind c.args.numbered.now c.in-Ok.rules c.in-Ok.ensures.made _ c.rows_asked-asked.ensures refl c.requires.behind c.in_ok-line-in-Ok.line.items c.in_ok-line-in-Ok.ensures

-- the network behind is at the one before it
pub made_line-requires-clause-last : goal.made_line-requires-clause-last
made_line-requires-clause-last c = behind_last c.args.networks.now.behind c.args.networks.now.net c.step.new.self c.requires.behind c.in-Ok.ensures.made.earlier

-- the network behind made it too
pub returns-in_ok-catch_up-in-Ok-clause-behind : goal.returns-in_ok-catch_up-in-Ok-clause-behind
returns-in_ok-catch_up-in-Ok-clause-behind c =
    (caught_up c.args.numbered.now.event c.args.networks.now.behind c.catch_up.new.behind c.args.networks.now.net.history.now c.step.new.self.history.now _ c.requires.behind c.in_ok-catch_up-in-Ok.ensures c.in-Ok.ensures.made.step).0

-- it is stuck
pub stuck_line-requires : goal.stuck_line-requires
stuck_line-requires c =
    stuck_named (asked_by c.args.trace c.args.networks.now.behind) c.args.networks.now.net c.step.new.self c.args.numbered.now c.in-Err-Stuck.stuck (c.in-Err-Stuck.ensures.stuck c.in-Err-Stuck.stuck (ap Err c.in-Err-Stuck.field-0-is)) c.in-Err-Stuck.ensures.kept c.requires.named

pub returns-in_ok-line-in-Err-Stuck-clause-ok : goal.returns-in_ok-line-in-Err-Stuck-clause-ok
returns-in_ok-line-in-Err-Stuck-clause-ok c =
    event_stuck (asked_by c.args.trace c.args.networks.now.behind) c.args.networks.now.net c.step.new.self c.args.numbered.now c.in-Err-Stuck.stuck (c.in-Err-Stuck.ensures.stuck c.in-Err-Stuck.stuck (ap Err c.in-Err-Stuck.field-0-is)) c.in-Err-Stuck.ensures.kept c.in_ok-line-in-Err-Stuck.line.items c.in_ok-line-in-Err-Stuck.ensures

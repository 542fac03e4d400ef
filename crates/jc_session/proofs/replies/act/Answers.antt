use Rattle.std.proofs.Common.{subst}
use Rattle.jc_session.specs.declared.replies.Spelling.{Spelling}
use Rattle.jc_session.specs.AnswerOf.{Spells}
use Rattle.jc_session.proofs.AnswerOfLemmas.{act_full, act_stuck, reply_act, reply_misspelled, spelled_in}
use Rattle.jc_session.proofs.replies.act.Goals as goal

pub returns-in-Refused : goal.returns-in-Refused
returns-in-Refused c =
    reply_misspelled c.args.debugger.now c.net-net.result.now c.version.result c.names.result.now c.args.rest.now c.in-Refused.refusal c.in-Refused.place c.version.ensures c.net-net.ensures.is_at c.net-net.ensures.net c.names.ensures.names
    (subst (λ (s : Spelling). Spells c.version.result c.names.result.now c.args.rest.now s) c.in-Refused.is c.in_ok-event.ensures)

pub returns-in-Ok : goal.returns-in-Ok
returns-in-Ok c =
    let d = c.args.debugger.now in
    let spelled = spelled_in d c.net-net.result.now c.version.result c.names.result.now c.args.rest.now c.in-Event.event c.version.ensures c.net-net.ensures.is_at c.net-net.ensures.net c.names.ensures.names (subst (λ (s : Spelling). Spells c.version.result c.names.result.now c.args.rest.now s) c.in-Event.is c.in_ok-event.ensures) in
    reply_act d c.act.new.self c.args.rest.now c.in-Event.event c.position.result spelled c.position.ensures.trail c.in-Ok.ensures.ok c.position.ensures.position

pub returns-in-Err-Refused : goal.returns-in-Err-Refused
returns-in-Err-Refused c =
    let d = c.args.debugger.now in
    let w = c.in-Err-Refused in
    let spelled = spelled_in d c.net-net.result.now c.version.result c.names.result.now c.args.rest.now c.in-Event.event c.version.ensures c.net-net.ensures.is_at c.net-net.ensures.net c.names.ensures.names (subst (λ (s : Spelling). Spells c.version.result c.names.result.now c.args.rest.now s) c.in-Event.is c.in_ok-event.ensures) in
    act_full d c.act.new.self c.args.rest.now c.in-Event.event w.field-0 w.refusal spelled w.field-0-is w.ensures.stuck w.ensures.kept

pub returns-in-Err-Stuck : goal.returns-in-Err-Stuck
returns-in-Err-Stuck c =
    let d = c.args.debugger.now in
    let w = c.in-Err-Stuck in
    let spelled = spelled_in d c.net-net.result.now c.version.result c.names.result.now c.args.rest.now c.in-Event.event c.version.ensures c.net-net.ensures.is_at c.net-net.ensures.net c.names.ensures.names (subst (λ (s : Spelling). Spells c.version.result c.names.result.now c.args.rest.now s) c.in-Event.is c.in_ok-event.ensures) in
    act_stuck d c.act.new.self c.args.rest.now c.in-Event.event c.position-at.result w.field-0 w.stuck spelled c.position-at.ensures.trail w.field-0-is w.ensures.full w.ensures.stuck w.ensures.kept c.position-at.ensures.position

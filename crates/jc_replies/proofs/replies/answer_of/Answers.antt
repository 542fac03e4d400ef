use Rattle.std.proofs.Common.{◌<◌, ℕ, List, length, ap, sym, subst, ◌∙◌}
use Rattle.std.proofs.lemmas.Result.{IfOk-weaker}
use Rattle.std.specs.List.{All}
use Rattle.jc_rules.specs.declared.operation.Event.{Event}
use Rattle.jc_printer.specs.Canon.{AreNamed}
use Rattle.jc_network.specs.NetworkHistory.{NetworkHistory}
use Rattle.jc_session.specs.declared.replies.Reply.{Reply as AnyReply}
use Rattle.jc_session.specs.AnswerOf.{IsReply}
use Rattle.jc_session.specs.Reply as Y
use Rattle.jc_replies.specs.AnswerOf.{background_of, IsHere}
use Rattle.jc_replies.proofs.RepliesLemmas.{told, went_told, stuck_answered, ran_told, states_told, state_told, enabled_answered, schedule_told, position_told}
use Rattle.jc_replies.proofs.replies.answer_of.Goals as goal

pub returns-in-Refused : goal.returns-in-Refused
returns-in-Refused c =
    let d = c.args.debugger.now in
    let w = c.in-Refused in
    IfOk-weaker c.refused.result _ _ (λ answer h r is.
    told (background_of c.args.given.now d) c.args.text.now answer.items (Y.refused w.refusal) r h (subst (λ (a : AnyReply). IsReply d a r) w.is is)) c.refused.ensures

pub returns-in-Misspelled : goal.returns-in-Misspelled
returns-in-Misspelled c =
    let d = c.args.debugger.now in
    let w = c.in-Misspelled in
    IfOk-weaker c.refused_text.result _ _ (λ answer h r is.
    told (background_of c.args.given.now d) c.args.text.now answer.items (Y.misspelled w.refusal w.place) r h (subst (λ (a : AnyReply). IsReply d a r) w.is is)) c.refused_text.ensures.is

pub returns-in-Went : goal.returns-in-Went
returns-in-Went c =
    let d = c.args.debugger.now in
    let w = c.in-Went in
    let at = subst (λ (a : AnyReply). IsHere d a) w.is c.requires.here in
    IfOk-weaker c.position_with.result _ _ (λ answer h r is.
    went_told c.args.given.now d c.args.text.now w.field-0 c.absent.result c.absent-in-Went.result answer.items at c.absent.ensures c.absent-in-Went.ensures h r (subst (λ (a : AnyReply). IsReply d a r) w.is is)) c.position_with.ensures

pub returns-in-Stuck : goal.returns-in-Stuck
returns-in-Stuck c =
    let d = c.args.debugger.now in
    let w = c.in-Stuck in
    let at = subst (λ (a : AnyReply). IsHere d a) w.is c.requires.here in
    IfOk-weaker c.stuck_here.result _ _ (λ answer h r is.
    stuck_answered c.args.given.now d c.args.text.now w.at w.stuck answer.items at h r (subst (λ (a : AnyReply). IsReply d a r) w.is is)) c.stuck_here.ensures

pub returns-in-Ran : goal.returns-in-Ran
returns-in-Ran c =
    let d = c.args.debugger.now in
    let w = c.in-Ran in
    let at = subst (λ (a : AnyReply). IsHere d a) w.is c.requires.here in
    IfOk-weaker c.ran.result _ _ (λ answer h r is.
    ran_told c.args.given.now d c.args.text.now w.at w.end answer.items at h r (subst (λ (a : AnyReply). IsReply d a r) w.is is)) c.ran.ensures

pub returns-in-Set : goal.returns-in-Set
returns-in-Set c =
    let d = c.args.debugger.now in
    let w = c.in-Set in
    IfOk-weaker c.numbered.result _ _ (λ answer h r is.
    told (background_of c.args.given.now d) c.args.text.now answer.items (Y.set w.k) r h (subst (λ (a : AnyReply). IsReply d a r) w.is is)) c.numbered.ensures

pub returns-in-Cleared : goal.returns-in-Cleared
returns-in-Cleared c =
    let d = c.args.debugger.now in
    let w = c.in-Cleared in
    IfOk-weaker c.numbered-in-Cleared.result _ _ (λ answer h r is.
    told (background_of c.args.given.now d) c.args.text.now answer.items (Y.cleared w.k) r h (subst (λ (a : AnyReply). IsReply d a r) w.is is)) c.numbered-in-Cleared.ensures

pub returns-in-States : goal.returns-in-States
returns-in-States c =
    let d = c.args.debugger.now in
    IfOk-weaker c.states.result _ _ (λ answer h r is.
    states_told c.args.given.now d c.args.text.now c.net-net.result.now answer.items c.net-net.ensures.net h r (subst (λ (a : AnyReply). IsReply d a r) c.in-States.is is)) c.states.ensures

pub state_of-requires : goal.state_of-requires
state_of-requires c =
    let d = c.args.debugger.now in
    let within = subst (λ (a : AnyReply). IsHere d a) c.in-StateOf.is c.requires.here in
    subst (λ (x : NetworkHistory). c.in-StateOf.p < length x.history.now.states) (sym c.net-net.ensures.net) within

pub returns-in-StateOf : goal.returns-in-StateOf
returns-in-StateOf c =
    let d = c.args.debugger.now in
    let w = c.in-StateOf in
    IfOk-weaker c.state_of.result _ _ (λ answer h r is.
    state_told c.args.given.now d c.args.text.now c.net-net.result.now w.p answer.items c.net-net.ensures.net h r (subst (λ (a : AnyReply). IsReply d a r) w.is is)) c.state_of.ensures

pub returns-in-Trace : goal.returns-in-Trace
returns-in-Trace c =
    let d = c.args.debugger.now in
    IfOk-weaker c.trace.result _ _ (λ answer h r is.
    h c.args.given.now c.args.text.now r (subst (λ (a : AnyReply). IsReply d a r) c.in-Trace.is is)) c.trace.ensures

pub returns-in-Enabled : goal.returns-in-Enabled
returns-in-Enabled c =
    let d = c.args.debugger.now in
    IfOk-weaker c.enabled.result _ _ (λ answer h r is.
    enabled_answered c.args.given.now d c.args.text.now c.net-net.result.now answer.items c.net-net.ensures.net h r (subst (λ (a : AnyReply). IsReply d a r) c.in-Enabled.is is)) c.enabled.ensures

pub events_answer-requires : goal.events_answer-requires
events_answer-requires c =
    let d = c.args.debugger.now in
    let names = sym (c.names.ensures.names ∙ ap (λ (x : NetworkHistory). x.names) c.net-net.ensures.net) in
    subst (λ (es : List Event). All (λ e. AreNamed e (length c.names.result.now)) es) (sym c.schedule.ensures)
    (subst (λ (ns : List (List ℕ)). All (λ e. AreNamed e (length ns)) d.schedule) names c.requires.all)

pub returns-in-Schedule : goal.returns-in-Schedule
returns-in-Schedule c =
    let d = c.args.debugger.now in
    IfOk-weaker c.events_answer.result _ _ (λ answer h r is.
    schedule_told c.args.given.now d c.args.text.now c.net-net.result.now c.names.result.now c.schedule.result.now answer.items c.net-net.ensures.net c.names.ensures.names c.schedule.ensures h r (subst (λ (a : AnyReply). IsReply d a r) c.in-Schedule.is is)) c.events_answer.ensures

pub returns-in-Position : goal.returns-in-Position
returns-in-Position c =
    let d = c.args.debugger.now in
    IfOk-weaker c.position_with-in-Position.result _ _ (λ answer h r is.
    position_told c.args.given.now d c.args.text.now (length c.schedule-in-Position.result.now) c.absent-in-Position.result c.number-of.result answer.items (ap length c.schedule-in-Position.ensures) c.absent-in-Position.ensures c.number-of.ensures h r (subst (λ (a : AnyReply). IsReply d a r) c.in-Position.is is)) c.position_with-in-Position.ensures

pub returns-in-Compared : goal.returns-in-Compared
returns-in-Compared c =
    let d = c.args.debugger.now in
    let w = c.in-Compared in
    IfOk-weaker c.compared.result _ _ (λ answer h r is.
    told (background_of c.args.given.now d) c.args.text.now answer.items (Y.compared w.found) r h (subst (λ (a : AnyReply). IsReply d a r) w.is is)) c.compared.ensures

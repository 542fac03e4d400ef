use Rattle.std.proofs.Common.{sym, subst}
use Rattle.jc_looks.specs.LookFaults.{AnswersBy}
use Rattle.jc_requests.specs.Views.{at_view, between_view, asked_view}
use Rattle.jc_serve.specs.AnswerOf.{LeadsTo}
use Rattle.jc_serve.proofs.FindsLemmas.{answers_weaker}
use Rattle.jc_serve.proofs.DispatchLemmas.{event_lead, journal_lead}
use Rattle.jc_serve.proofs.served.Served.other_answer.Goals as goal

pub returns-in-OfSession : goal.returns-in-OfSession
returns-in-OfSession c =
    subst (λ r. AnswersBy (LeadsTo c.args.text.now c.args.self.now (asked_view r) c.session_answer.new.self) c.session_answer.result) (sym c.in-OfSession.is) (answers_weaker c.session_answer.result (λ answer h. h c.args.text.now) c.session_answer.ensures)

pub returns-in_ok-goto_end-in-GotoEnd : goal.returns-in_ok-goto_end-in-GotoEnd
returns-in_ok-goto_end-in-GotoEnd c =
    let w = c.in_ok-goto_end-in-GotoEnd in
    subst (λ r. LeadsTo c.args.text.now c.args.self.now (asked_view r) c.goto_end.new.self w.field-0.items) (sym c.in-GotoEnd.is) (w.ensures c.args.text.now)

pub returns-in-Event : goal.returns-in-Event
returns-in-Event c =
    let x = c.args.self.now in
    let e = c.in-Event in
    subst (λ r. AnswersBy (LeadsTo c.args.text.now x (asked_view r) c.event_at.new.self) c.event_at.result) (sym e.is)
    (answers_weaker c.event_at.result (event_lead c.args.text.now x c.event_at.new.self (at_view e.at) e.trace e.effects) c.event_at.ensures)

pub returns-in-Journal : goal.returns-in-Journal
returns-in-Journal c =
    let x = c.args.self.now in
    let j = c.in-Journal in
    subst (λ r. AnswersBy (LeadsTo c.args.text.now x (asked_view r) x) c.journal.result) (sym j.is)
    (answers_weaker c.journal.result (journal_lead c.args.text.now x x j.trace j.effects (between_view j.between)) c.journal.ensures)

use Rattle.std.proofs.Common.{sym, subst}
use Rattle.jc_looks.specs.LookFaults.{AnswersBy}
use Rattle.jc_scenario.specs.Views.{scenario_view}
use Rattle.jc_requests.specs.Views.{between_view, asked_view}
use Rattle.jc_listings.specs.Journals.{AnswersJournal}
use Rattle.jc_serve.specs.Answers.{details}
use Rattle.jc_serve.specs.AnswerOf.{AnswersStop}
use Rattle.jc_serve.proofs.FindsLemmas.{answers_weaker}
use Rattle.jc_serve.proofs.DispatchLemmas.{places_stop, print_stop, journal_stop}
use Rattle.jc_serve.proofs.stuck.GivenStop.other_answer.Goals as goal

pub returns-in_ok-places-in-Places : goal.returns-in_ok-places-in-Places
returns-in_ok-places-in-Places c =
    let w = c.in_ok-places-in-Places in
    subst (λ r. AnswersStop c.args.text.now c.args.self.now (asked_view r) w.field-0.items) (sym c.in-Places.is) (places_stop c.args.text.now c.args.self.now w.field-0.items w.ensures)

pub returns-in_ok-print-in-Print : goal.returns-in_ok-print-in-Print
returns-in_ok-print-in-Print c =
    let w = c.in_ok-print-in-Print in
    subst (λ r. AnswersStop c.args.text.now c.args.self.now (asked_view r) w.field-0.items) (sym c.in-Print.is) (print_stop c.args.text.now c.args.self.now w.field-0.items w.ensures)

pub returns-in-Journal : goal.returns-in-Journal
returns-in-Journal c =
    let x = c.args.self.now in
    let j = c.in-Journal in
    let h = subst (λ es. AnswersBy (AnswersJournal (details j.trace j.effects) (scenario_view x.scenario) es (between_view j.between)) c.journal.result) c.as_slice.ensures.value c.journal.ensures in
    subst (λ r. AnswersBy (AnswersStop c.args.text.now x (asked_view r)) c.journal.result) (sym j.is)
    (answers_weaker c.journal.result (journal_stop c.args.text.now x j.trace j.effects (between_view j.between)) h)

pub returns-in-OfSession : goal.returns-in-OfSession
returns-in-OfSession c =
    subst (λ r. AnswersBy (AnswersStop c.args.text.now c.args.self.now (asked_view r)) c.session_answer.result) (sym c.in-OfSession.is) (answers_weaker c.session_answer.result (λ answer h. h c.args.text.now) c.session_answer.ensures)

use Rattle.std.proofs.Common.{IfOk, sym, subst}
use Rattle.std.proofs.lemmas.Result.{IfOk-weaker}
use Rattle.jc_requests.specs.Views.{asked_view}
use Rattle.jc_serve.specs.declared.subjects.Subject.TheVariants as S
use Rattle.jc_serve.specs.AnswerOf.{AnswersOn, AnswersRefusedBy, IsSubjectOf}
use Rattle.jc_serve.proofs.FindsLemmas.{answers_in, answers_weaker}
use Rattle.jc_serve.proofs.LimitLemmas.{asked_within}
use Rattle.jc_serve.proofs.DispatchLemmas.{held_stopped, refused_on, stuck_on, served_on}
use Rattle.jc_serve.proofs.answers.answer.Goals as goal

pub answer-requires-clause-stop : goal.answer-requires-clause-stop
answer-requires-clause-stop c =
    let text = c.args.text.now in
    let (H, is) = c.requires.held in
    let h = held_stopped text H c.in-StuckGiven.stop (subst (λ x. IsSubjectOf text H x) c.in-StuckGiven.is is) in
    h.0

pub answer-requires-in-Served-clause-asked : goal.answer-requires-in-Served-clause-asked
answer-requires-in-Served-clause-asked c = asked_within c.requires.asked.0 (asked_view c.args.request) c.requires.asked.1

pub returns-in-NoScenario : goal.returns-in-NoScenario
returns-in-NoScenario c =
    let text = c.args.text.now in
    let r = asked_view c.args.request in
    let why = c.in-NoScenario.why in
    IfOk-weaker c.answer_refused.result _ _ (λ answer h. subst (λ x. AnswersOn text x r (S.NoScenario why) answer.items) (sym c.in-NoScenario.is) (refused_on text why r answer.items (subst (λ w. AnswersRefusedBy w r answer.items) c.as_slice.ensures.value h))) c.answer_refused.ensures

pub returns-in-StuckGiven : goal.returns-in-StuckGiven
returns-in-StuckGiven c =
    let text = c.args.text.now in
    let r = asked_view c.args.request in
    let stop = c.in-StuckGiven.stop in
    let old = c.args.subject.now in
    subst (λ k. IfOk k (λ answer. AnswersOn text old r (S.StuckGiven stop) answer.items)) (sym c.answered.ensures)
    (answers_in (λ a. AnswersOn text old r (S.StuckGiven stop) a) c.answer.result (answers_weaker c.answer.result (λ a h. subst (λ x. AnswersOn text x r (S.StuckGiven stop) a) (sym c.in-StuckGiven.is) (stuck_on text stop r a h)) c.answer.ensures))

pub returns-in-Served : goal.returns-in-Served
returns-in-Served c =
    let text = c.args.text.now in
    let r = asked_view c.args.request in
    let x = c.in-Served.served in
    let y = c.answer-in-Served.new.self in
    let old = c.args.subject.now in
    subst (λ k. IfOk k (λ answer. AnswersOn text old r (S.Served y) answer.items)) (sym c.answered-in-Served.ensures)
    (answers_in (λ a. AnswersOn text old r (S.Served y) a) c.answer-in-Served.result (answers_weaker c.answer-in-Served.result (λ a h. subst (λ z. AnswersOn text z r (S.Served y) a) (sym c.in-Served.is) (served_on text x y r a h)) c.answer-in-Served.ensures))

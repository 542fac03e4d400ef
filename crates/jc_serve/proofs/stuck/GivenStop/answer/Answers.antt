use Rattle.std.proofs.Common.{length, subst}
use Rattle.std.proofs.lemmas.Result.{err_from_is_err_and}
use Rattle.jc_looks.specs.Looks.{IsWithin}
use Rattle.jc_requests.specs.Views.{at_view, asked_view}
use Rattle.jc_serve.specs.Asking.{IsFoundLook}
use Rattle.jc_serve.proofs.AnswersLemmas.{look_within}
use Rattle.jc_serve.proofs.FindsLemmas.{answers_weaker}
use Rattle.jc_serve.proofs.DispatchLemmas.{bad_look_stop, look_stop}
use Rattle.jc_serve.proofs.stuck.GivenStop.answer.Goals as goal

pub returns-in_err-at : goal.returns-in_err-at
returns-in_err-at c =
    let q = err_from_is_err_and c.from_residual.result c.from_residual.ensures.1 in
    rw (q.1, q.2) (bad_look_stop c.args.text.now c.args.self.now c.names.result.now (asked_view c.args.request) _ c.names.ensures c.in_err-at.ensures)

pub look_at-requires-clause-within : goal.look_at-requires-clause-within
look_at-requires-clause-within c =
    let names = c.names.result.now in
    let r = asked_view c.args.request in
    let asks = subst (λ f. IsFoundLook names r f) c.in-Some.is c.in_ok-at.ensures in
    subst (λ ns. IsWithin (length ns) c.in-Some.look) c.names.ensures (look_within names r (at_view c.in-Some.at) c.in-Some.look asks)

pub returns-in-Some : goal.returns-in-Some
returns-in-Some c =
    let names = c.names.result.now in
    let r = asked_view c.args.request in
    let asks = subst (λ f. IsFoundLook names r f) c.in-Some.is c.in_ok-at.ensures in
    answers_weaker c.look_at.result (λ answer h. look_stop c.args.text.now c.args.self.now names r (at_view c.in-Some.at) c.in-Some.look answer c.names.ensures asks h) c.look_at.ensures

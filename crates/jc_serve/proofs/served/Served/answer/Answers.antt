use Rattle.std.proofs.Common.{length, subst, ap, arith}
use Rattle.std.proofs.lemmas.Result.{err_from_is_err_and}
use Rattle.jc_looks.specs.Looks.{IsWithin}
use Rattle.jc_requests.specs.Views.{at_view, asked_view}
use Rattle.jc_scenario.specs.WellFormed.{Scenario}
use Rattle.jc_serve.specs.Asking.{IsFoundLook}
use Rattle.jc_serve.proofs.AnswersLemmas.{look_within}
use Rattle.jc_serve.proofs.FindsLemmas.{answers_weaker}
use Rattle.jc_serve.proofs.DispatchLemmas.{bad_look_lead, look_lead}
use Rattle.jc_serve.proofs.served.Served.answer.Goals as goal

pub look_of-requires : goal.look_of-requires
look_of-requires c =
    let (s, start, v) = c.requires.held in
    let few = v.formed.few in
    let own = ap length c.as_slice.ensures.value in
    let same = ap (λ (t : Scenario). length t.names) v.scenario in
    omega (arith, few, own, same)

pub returns-in_err-at : goal.returns-in_err-at
returns-in_err-at c =
    let q = err_from_is_err_and c.from_residual.result c.from_residual.ensures.1 in
    rw (q.1, q.2) (bad_look_lead c.args.text.now c.args.self.now c.as_slice.result.now (asked_view c.args.request) _ c.as_slice.ensures.value c.in_err-at.ensures)

pub look-requires-clause-within : goal.look-requires-clause-within
look-requires-clause-within c =
    let names = c.as_slice.result.now in
    let r = asked_view c.args.request in
    let asks = subst (λ f. IsFoundLook names r f) c.in-Some.is c.in_ok-at.ensures in
    subst (λ ns. IsWithin (length ns) c.in-Some.look) c.as_slice.ensures.value (look_within names r (at_view c.in-Some.at) c.in-Some.look asks)

pub returns-in-Some : goal.returns-in-Some
returns-in-Some c =
    let names = c.as_slice.result.now in
    let r = asked_view c.args.request in
    let asks = subst (λ f. IsFoundLook names r f) c.in-Some.is c.in_ok-at.ensures in
    answers_weaker c.look.result (λ answer h. look_lead c.args.text.now c.args.self.now c.look.new.self names r (at_view c.in-Some.at) c.in-Some.look answer c.as_slice.ensures.value asks h) c.look.ensures

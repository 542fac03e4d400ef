use Rattle.std.proofs.Common.{◌≡◌, Ok, ap, sym, subst, refl, ◌∙◌, length, arith}
use Rattle.std.proofs.lemmas.Result.{IfOk-weaker}
use Rattle.jc_listings.specs.Journals.{AnswersEvent, first}
use Rattle.jc_serve.proofs.served.Served.event.Goals as goal

pub returns-then-count-eq0 : goal.returns-then-count-eq0
returns-then-count-eq0 c =
    let x = c.args.self.now in
    let none : c.args.count ≡ 0 = omega (arith, c.if-count-eq0.true) in
    IfOk-weaker c.flag.result _ _ (λ answer h s start v.
    ((λ at is. subst (λ t. AnswersEvent c.args.details s x.here.schedule (length x.here.traces) at t) (sym h) (first (is ∙ ap Ok none))), refl, v)) c.flag.ensures

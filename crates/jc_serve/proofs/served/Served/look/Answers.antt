use Rattle.std.proofs.Common.{◌+◌, length, None, refl, sym, subst}
use Rattle.jc_requests.specs.Views.{at_view}
use Rattle.jc_serve.specs.Asking.{LooksAt}
use Rattle.jc_serve.proofs.AnswersLemmas.{looks_shown}
use Rattle.jc_serve.proofs.FindsLemmas.{answers_weaker}
use Rattle.jc_serve.proofs.served.Served.look.Goals as goal

pub returns-in-None : goal.returns-in-None
returns-in-None c =
    let x = c.args.self.now in
    answers_weaker c.look_here.result (λ answer h s start v.
    let (shown, same, w) = h s start v in (
      subst (λ r. LooksAt s x.here.schedule (length x.here.traces) (at_view r) c.args.look.now answer) (sym c.in-None.is)
          (looks_shown s x.here.schedule (length x.here.traces) (length s.given + length x.here.traces) None c.args.look.now answer refl shown),
      same,
      w,
    )) c.look_here.ensures

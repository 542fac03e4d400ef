use Rattle.std.proofs.Common.{refl, sym, subst}
use Rattle.jc_looks.specs.declared.looks.Look.TheVariants as L
use Rattle.jc_requests.specs.Views.{at_view, asked_view}
use Rattle.jc_serve.specs.Asking.{AsksLook}
use Rattle.jc_serve.proofs.asking.look_of.Goals as goal

pub returns-in_ok-p-in-ViewPlace : goal.returns-in_ok-p-in-ViewPlace
returns-in_ok-p-in-ViewPlace c =
    let w = c.in_ok-p-in-ViewPlace in
    subst (λ r. AsksLook c.args.names.now (asked_view r) (at_view c.in-ViewPlace.at) (L.ViewPlace w.p w.expression)) (sym c.in-ViewPlace.is) (refl, (w.p, w.expression), refl, w.ensures)

pub returns-in_ok-p-in-Eval : goal.returns-in_ok-p-in-Eval
returns-in_ok-p-in-Eval c =
    let w = c.in_ok-p-in-Eval in
    subst (λ r. AsksLook c.args.names.now (asked_view r) (at_view c.in-Eval.at) (L.Eval w.p w.expression)) (sym c.in-Eval.is) (refl, (w.p, w.expression), refl, w.ensures)

use Rattle.std.proofs.Common.{codes, decimal, ap, ◌∙◌}
use Rattle.std.proofs.lemmas.Result.{IfOk-weaker}
use Rattle.jc_answers.specs.JsonTexts.{object_text}
use Rattle.jc_serve.proofs.BreakpointsLemmas.{is_cleared, none_cleared}
use Rattle.jc_serve.proofs.ToldLemmas.{one_member}
use Rattle.jc_serve.proofs.served.Served.unbreak.Goals as goal

pub returns-then-clear_mark : goal.returns-then-clear_mark
returns-then-clear_mark c =
    let (j, b, number, there, is) = c.clear_mark.ensures.cleared c.if-clear_mark.true in
    IfOk-weaker c.object_text.result _ _ (λ answer h text.
    is_cleared text c.args.self.now c.clear_mark.new.marks c.args.k j b answer.items number there is c.clear_mark.ensures.length
    (h ∙ ap object_text (one_member c.number.result (codes "cleared", decimal c.args.k) c.number.ensures))) c.object_text.ensures

pub returns-else-clear_mark : goal.returns-else-clear_mark
returns-else-clear_mark c =
    let none = c.clear_mark.ensures.none c.if-clear_mark.false in
    IfOk-weaker c.refused.result _ _ (λ answer h text. none_cleared text c.args.self.now c.clear_mark.new.marks c.args.k answer.items none.0 none.1 h) c.refused.ensures

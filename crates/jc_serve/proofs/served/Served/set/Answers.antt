use Rattle.std.proofs.Common.{◌+◌, codes, ap, ◌∙◌}
use Rattle.std.proofs.Common.{decimal}
use Rattle.std.proofs.lemmas.Result.{IfOk-weaker}
use Rattle.jc_answers.specs.JsonTexts.{object_text}
use Rattle.jc_serve.specs.InMemory.{mark_of}
use Rattle.jc_serve.proofs.BreakpointsLemmas.{is_set, none_is_free}
use Rattle.jc_serve.proofs.ToldLemmas.{one_member}
use Rattle.jc_serve.proofs.served.Served.set.Goals as goal

pub returns-in-Some : goal.returns-in-Some
returns-in-Some c =
    let w = c.in-Some in
    IfOk-weaker c.object_text.result _ _ (λ answer h.
    is_set c.args.self.now c.set_mark.new.marks (mark_of c.args.mark) w.place answer.items w.ensures.some.0 w.ensures.some.1 c.set_mark.ensures.length
    (h ∙ ap object_text (one_member c.number.result (codes "set", decimal (w.place + 1)) c.number.ensures))) c.object_text.ensures

pub returns-in-None : goal.returns-in-None
returns-in-None c =
    let w = c.in-None in
    IfOk-weaker c.refused.result _ _ (λ answer h.
    none_is_free c.args.self.now c.set_mark.new.marks (mark_of c.args.mark) answer.items w.ensures.none.0 w.ensures.none.1 c.set_mark.ensures.length h) c.refused.ensures

use Rattle.std.proofs.Common.{sym, ◌∙◌}
use Rattle.std.proofs.lemmas.Result.{IfOk-weaker}
use Rattle.jc_serve.proofs.RunAnswersLemmas.{all_named, end_named, run_past, told_run}
use Rattle.jc_serve.proofs.served.Served.run_answer.Goals as goal

pub returns-then-position-events : goal.returns-then-position-events
returns-then-position-events c =
    let at_end = sym c.position.ensures.position ∙ (c.if-position-events.true ∙ c.events.ensures) in
    IfOk-weaker c.refused.result _ _ (λ answer h. run_past c.args.self.now answer.items at_end h) c.refused.ensures

pub answer_of-requires-clause-stuck : goal.answer_of-requires-clause-stuck
answer_of-requires-clause-stuck c =
    let x = c.args.self.now in
    let h = c.requires in
    end_named x c.run.new.self c.in_ok-end.end (all_named h.0 h.1 x h.2) c.in_ok-end.ensures

pub returns : goal.returns
returns c =
    let x = c.args.self.now in
    let y = c.run.new.self in
    let at = c.position-at in
    IfOk-weaker c.answer_of.result _ _ (λ answer h.
    told_run x y at.result c.in_ok-end.end answer.items c.as_slice-2.result.now c.as_slice.result.now at.ensures.trail at.ensures.position (λ e. c.if-position-events.false (c.position.ensures.position ∙ (e ∙ sym c.events.ensures))) c.in_ok-end.ensures c.as_slice-2.ensures c.as_slice.ensures.value h) c.answer_of.ensures

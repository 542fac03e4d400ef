use Rattle.std.proofs.Common.{sym, ◌∙◌, rules}
use Rattle.std.proofs.lemmas.Result.{IfOk-weaker}
use Rattle.jc_serve.proofs.RunAnswersLemmas.{serving_still, all_named, given_named, end_within, back_past, back_answered}
use Rattle.jc_serve.proofs.served.Served.back_run_answer.Goals as goal

pub back_answer-requires-clause-few : goal.back_answer-requires-clause-few
back_answer-requires-clause-few c =
    let h = c.requires in
    end_within h.0 h.1 c.args.self.now c.run_back.new.self c.in_ok-end.end h.2 c.in_ok-end.ensures

pub back_answer-requires-clause-all : goal.back_answer-requires-clause-all
back_answer-requires-clause-all c =
    let h = c.requires in
    let r = c.in_ok-end.ensures in
    all_named h.0 h.1 c.run_back.new.self (serving_still h.0 h.1 c.args.self.now c.run_back.new.self r.position r.moved h.2)

pub back_answer-requires-clause-given : goal.back_answer-requires-clause-given
back_answer-requires-clause-given c =
    let h = c.requires in
    let r = c.in_ok-end.ensures in
    given_named h.0 h.1 c.run_back.new.self (serving_still h.0 h.1 c.args.self.now c.run_back.new.self r.position r.moved h.2)

pub returns-then-position-eq0 : goal.returns-then-position-eq0
returns-then-position-eq0 c =
    let at_start = sym c.position.ensures.position ∙ c.if-position-eq0.true in
    IfOk-weaker c.refused.result _ _ (λ answer h. back_past c.args.self.now answer.items at_start h) c.refused.ensures

pub returns : goal.returns
returns c =
    IfOk-weaker c.back_answer.result _ _ (λ answer h.
    back_answered c.args.self.now c.run_back.new.self c.in_ok-end.end answer.items (search rules) c.in_ok-end.ensures h) c.back_answer.ensures

use Rattle.std.proofs.Common.{sym, subst}
use Rattle.jc_looks.specs.LookFaults.{AnswersBy}
use Rattle.jc_requests.specs.Views.{asked_view}
use Rattle.jc_serve.specs.AnswerOf.{LeadsTo}
use Rattle.jc_serve.proofs.FindsLemmas.{answers_weaker}
use Rattle.jc_serve.proofs.DispatchLemmas.{places_lead, print_lead, breaks_lead, weave_lead}
use Rattle.jc_serve.proofs.served.Served.own_answer.Goals as goal

pub returns-in_ok-back_run_answer-in-BackRun : goal.returns-in_ok-back_run_answer-in-BackRun
returns-in_ok-back_run_answer-in-BackRun c =
    let w = c.in_ok-back_run_answer-in-BackRun in
    subst (λ r. LeadsTo c.args.text.now c.args.self.now (asked_view r) c.back_run_answer.new.self w.field-0.items) (sym c.in-BackRun.is) (w.ensures c.args.text.now)

pub returns-in-BreakOp : goal.returns-in-BreakOp
returns-in-BreakOp c =
    subst (λ r. AnswersBy (LeadsTo c.args.text.now c.args.self.now (asked_view r) c.break_op.new.self) c.break_op.result) (sym c.in-BreakOp.is) (answers_weaker c.break_op.result (λ answer h. h c.args.text.now) c.break_op.ensures)

pub returns-in-BreakPlace : goal.returns-in-BreakPlace
returns-in-BreakPlace c =
    subst (λ r. AnswersBy (LeadsTo c.args.text.now c.args.self.now (asked_view r) c.break_place.new.self) c.break_place.result) (sym c.in-BreakPlace.is) (answers_weaker c.break_place.result (λ answer h. h c.args.text.now) c.break_place.ensures)

pub returns-in_ok-breaks-in-Breaks : goal.returns-in_ok-breaks-in-Breaks
returns-in_ok-breaks-in-Breaks c =
    let x = c.args.self.now in
    let w = c.in_ok-breaks-in-Breaks in
    subst (λ r. LeadsTo c.args.text.now x (asked_view r) x w.field-0.items) (sym c.in-Breaks.is) (breaks_lead c.args.text.now x x w.field-0.items w.ensures)

pub returns-in_ok-places-in-Places : goal.returns-in_ok-places-in-Places
returns-in_ok-places-in-Places c =
    let x = c.args.self.now in
    let w = c.in_ok-places-in-Places in
    subst (λ r. LeadsTo c.args.text.now x (asked_view r) x w.field-0.items) (sym c.in-Places.is) (places_lead c.args.text.now x w.field-0.items w.ensures)

pub returns-in_ok-print-in-Print : goal.returns-in_ok-print-in-Print
returns-in_ok-print-in-Print c =
    let x = c.args.self.now in
    let w = c.in_ok-print-in-Print in
    subst (λ r. LeadsTo c.args.text.now x (asked_view r) x w.field-0.items) (sym c.in-Print.is) (print_lead c.args.text.now x x w.field-0.items w.ensures)

pub returns-in_ok-woven_answer-in-Weave : goal.returns-in_ok-woven_answer-in-Weave
returns-in_ok-woven_answer-in-Weave c =
    let x = c.args.self.now in
    let w = c.in_ok-woven_answer-in-Weave in
    subst (λ r. LeadsTo c.args.text.now x (asked_view r) x w.field-0.items) (sym c.in-Weave.is) (weave_lead c.args.text.now x c.in-Weave.seed c.in-Weave.limit w.field-0.items w.ensures)

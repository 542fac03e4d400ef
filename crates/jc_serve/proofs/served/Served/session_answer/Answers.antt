use Rattle.std.proofs.Common.{List, ℕ, sym, subst}
use Rattle.jc_looks.specs.LookFaults.{AnswersBy}
use Rattle.jc_session.specs.Views.{request_view}
use Rattle.jc_requests.specs.Asked as K
use Rattle.jc_serve.specs.AnswerOf.{LeadsTo}
use Rattle.jc_serve.proofs.DispatchLemmas.{quit_lead}
use Rattle.jc_serve.proofs.served.Served.session_answer.Goals as goal

pub returns-in_ok-quit_answer-in-Quit : goal.returns-in_ok-quit_answer-in-Quit
returns-in_ok-quit_answer-in-Quit c text =
    let x = c.args.self.now in
    let w = c.in_ok-quit_answer-in-Quit in
    subst (λ r. LeadsTo text x (K.of_session (request_view r)) x w.field-0.items) (sym c.in-Quit.is) (quit_lead text x w.field-0.items w.ensures)

pub returns-in_ok-run_answer-in-Run : goal.returns-in_ok-run_answer-in-Run
returns-in_ok-run_answer-in-Run c text =
    let w = c.in_ok-run_answer-in-Run in
    subst (λ r. LeadsTo text c.args.self.now (K.of_session (request_view r)) c.run_answer.new.self w.field-0.items) (sym c.in-Run.is) (w.ensures text)

pub returns-in_ok-break_at-in-BreakAt : goal.returns-in_ok-break_at-in-BreakAt
returns-in_ok-break_at-in-BreakAt c text =
    let w = c.in_ok-break_at-in-BreakAt in
    subst (λ r. LeadsTo text c.args.self.now (K.of_session (request_view r)) c.break_at.new.self w.field-0.items) (sym c.in-BreakAt.is) (w.ensures text)

pub returns-in_ok-break_rule-in-BreakRule : goal.returns-in_ok-break_rule-in-BreakRule
returns-in_ok-break_rule-in-BreakRule c text =
    let w = c.in_ok-break_rule-in-BreakRule in
    subst (λ r. LeadsTo text c.args.self.now (K.of_session (request_view r)) c.break_rule.new.self w.field-0.items) (sym c.in-BreakRule.is) (w.ensures text)

pub returns-in_ok-unbreak-in-Unbreak : goal.returns-in_ok-unbreak-in-Unbreak
returns-in_ok-unbreak-in-Unbreak c text =
    let w = c.in_ok-unbreak-in-Unbreak in
    subst (λ r. LeadsTo text c.args.self.now (K.of_session (request_view r)) c.unbreak.new.self w.field-0.items) (sym c.in-Unbreak.is) (w.ensures text)

pub returns-in-BreakReplica : goal.returns-in-BreakReplica
returns-in-BreakReplica c =
    subst (λ r. AnswersBy (λ answer. (text : List ℕ) → LeadsTo text c.args.self.now (K.of_session (request_view r)) c.break_replica.new.self answer) c.break_replica.result) (sym c.in-BreakReplica.is) c.break_replica.ensures

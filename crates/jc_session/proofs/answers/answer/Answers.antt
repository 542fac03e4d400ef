use Rattle.std.proofs.Common.{string_bytes}
use Rattle.std.proofs.lemmas.Result.{IfOk-weaker}
use Rattle.jc_session.specs.Views.{line_of_bytes, request_view}
use Rattle.jc_session.proofs.AnswerTextLemmas.{gives_nothing, gives_bad, gives_asks}
use Rattle.jc_session.proofs.answers.answer.Goals as goal

pub returns-in-Nothing : goal.returns-in-Nothing
returns-in-Nothing c = gives_nothing c.args.debugger.now (line_of_bytes c.args.line) (string_bytes c.new.result) c.in-Nothing.ensures c.new.ensures.bytes

pub returns-in-Asks : goal.returns-in-Asks
returns-in-Asks c =
    IfOk-weaker c.answer_to.result _ _ (λ answer h. gives_asks string_bytes c.args.debugger.now c.answer_to.new.debugger (line_of_bytes c.args.line) (request_view c.in-Asks.request) answer c.in-Asks.ensures h) c.answer_to.ensures

pub returns-in_ok-refusal_line-in-Bad : goal.returns-in_ok-refusal_line-in-Bad
returns-in_ok-refusal_line-in-Bad c =
    gives_bad c.args.debugger.now (line_of_bytes c.args.line) (string_bytes c.in_ok-refusal_line-in-Bad.field-0) c.in-Bad.ensures c.in_ok-refusal_line-in-Bad.ensures

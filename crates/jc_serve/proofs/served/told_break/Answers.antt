use Rattle.std.proofs.Common.{ap, sym, ◌∙◌}
use Rattle.std.proofs.lemmas.Result.{IfOk-weaker}
use Rattle.jc_answers.specs.JsonTexts.{object_text}
use Rattle.jc_serve.specs.Answers.{session_mark}
use Rattle.jc_serve.proofs.served.told_break.Goals as goal

pub returns-in-Position : goal.returns-in-Position
returns-in-Position c =
    IfOk-weaker c.told_position.result _ _ (λ text h. h c.args.names.now ∙ ap (λ b. object_text (session_mark c.args.names.now c.args.number b)) (sym c.in-Position.is)) c.told_position.ensures

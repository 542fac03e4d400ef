use Rattle.std.proofs.Common.{sym, subst}
use Rattle.std.proofs.lemmas.Result.{IfOk-weaker}
use Rattle.jc_session.specs.Requests as Q
use Rattle.jc_serve.specs.Subjects.{IsFaultAnswer}
use Rattle.jc_serve.specs.Answers.{refuses}
use Rattle.jc_serve.proofs.StopAnswersLemmas.{no_session}
use Rattle.jc_serve.proofs.answers.answer_refused.Goals as goal

pub returns-in_default : goal.returns-in_default
returns-in_default c =
    IfOk-weaker c.to_vec.result _ _ (λ answer is text fault says. refuses (no_session c.args.request c.in_default.not-OfSession Q.quit) (λ w none. no_session c.args.request c.in_default.not-OfSession (Q.break_rule w)) (subst (λ a. IsFaultAnswer text fault a) (sym (is (λ x y e. e))) says)) c.to_vec.ensures.items_if_clones_equal

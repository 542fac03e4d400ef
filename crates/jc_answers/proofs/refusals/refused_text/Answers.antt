use Rattle.std.proofs.lemmas.Result.{IfOk-weaker}
use Rattle.jc_answers.specs.Parts.{member_of}
use Rattle.jc_answers.proofs.RefusedLemmas.{with_none_more}
use Rattle.jc_answers.proofs.refusals.refused_text.Goals as goal

pub returns-clause-only : goal.returns-clause-only
returns-clause-only c =
    IfOk-weaker c.refused_text_with.result _ _ (λ answer h other k. h other (with_none_more (member_of c.absent.result) c.args.text.now c.args.refusal c.args.place other c.absent.ensures k)) c.refused_text_with.ensures.only

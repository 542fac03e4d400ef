use Rattle.std.proofs.lemmas.Result.{IfOk-weaker}
use Rattle.jc_serve.proofs.ServingLemmas.{text_led}
use Rattle.jc_serve.proofs.serving.text_answer.Goals as goal

pub counts_answer-requires : goal.counts_answer-requires
counts_answer-requires c =
    let (H, same, is, held) = c.in_ok-held.ensures in
    (H.text, (H.subject, held.1))

pub returns : goal.returns
returns c =
    let x = c.args.held.now in
    let y = c.in_ok-held.field-0 in
    let (H, same, is, held) = c.in_ok-held.ensures in
    IfOk-weaker c.counts_answer.result _ _ (λ answer counts. text_led x y c.args.text.items answer.items H same is held (counts H.text H.subject held.1)) c.counts_answer.ensures

use Rattle.std.proofs.lemmas.Result.{IfOk-weaker}
use Rattle.jc_serve.proofs.PlacedLemmas.{stopped_so}
use Rattle.jc_serve.proofs.texts.stopped.Goals as goal

pub returns-clause-answer : goal.returns-clause-answer
returns-clause-answer c =
    IfOk-weaker c.answer_of.result _ _ (λ answer h. stopped_so c.args.given.now c.args.debugger.now _ c.position-at.result c.args.stuck answer.items c.position-at.ensures.position h) c.answer_of.ensures

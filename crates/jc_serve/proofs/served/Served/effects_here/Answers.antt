use Rattle.std.proofs.lemmas.Result.{IfOk-weaker}
use Rattle.jc_journal.specs.Parts.{differences_in}
use Rattle.jc_serve.proofs.AnswersLemmas.{effects_told}
use Rattle.jc_serve.proofs.served.Served.effects_here.Goals as goal

pub returns-then-details : goal.returns-then-details
returns-then-details c =
    let x = c.args.self.now in
    IfOk-weaker c.event_effects.result _ _ (λ effects h.
    effects_told c.net.result.now c.net-then-details.result.now x.aside.net x.here.net c.args.event.now c.args.details.effects (differences_in effects) c.net.ensures.net c.net-then-details.ensures.net c.if-details.true h) c.event_effects.ensures

use Rattle.std.proofs.Common.{length, ap}
use Rattle.std.proofs.lemmas.Result.{IfOk-weaker}
use Rattle.jc_serve.proofs.DispatchLemmas.{end_lead}
use Rattle.jc_serve.proofs.served.Served.goto_end.Goals as goal

pub returns : goal.returns
returns c =
    IfOk-weaker c.of_session.result _ _ (λ answer h text. end_lead text c.args.self.now c.of_session.new.self (length c.schedule.result.now) answer.items (ap length c.schedule.ensures) (h text)) c.of_session.ensures

use Rattle.std.proofs.lemmas.Result.{IfOk-weaker}
use Rattle.jc_serve.proofs.BreakpointsLemmas.{breaks_at}
use Rattle.jc_serve.proofs.served.Served.break_at.Goals as goal

pub returns : goal.returns
returns c =
    IfOk-weaker c.set.result _ _ (λ answer h text. breaks_at text c.args.self.now c.set.new.self c.args.n answer.items h) c.set.ensures

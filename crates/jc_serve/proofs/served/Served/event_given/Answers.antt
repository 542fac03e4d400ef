use Rattle.std.proofs.Common.{refl}
use Rattle.std.proofs.lemmas.Result.{IfOk-weaker}
use Rattle.jc_serve.proofs.EventsLemmas.{given_made, given_told}
use Rattle.jc_serve.proofs.served.Served.event_given.Goals as goal

pub line_behind-requires-clause-made : goal.line_behind-requires-clause-made
line_behind-requires-clause-made c =
    let (s, start, v) = c.requires.held in
    given_made s start c.args.self.now v c.args.details c.args.count c.requires.given c.schedule-schedule.result.now c.schedule-schedule.ensures

pub returns : goal.returns
returns c =
    IfOk-weaker c.line_behind.result _ _ (λ answer h s start v.
    (given_told s start c.args.self.now v c.args.details c.args.count c.schedule-schedule.result.now answer.items c.schedule-schedule.ensures h, refl, v)) c.line_behind.ensures

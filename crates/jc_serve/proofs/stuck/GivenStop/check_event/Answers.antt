use Rattle.std.proofs.Common.{subst}
use Rattle.jc_scenario.specs.Views.{scenario_view}
use Rattle.jc_session.specs.Answers.{IsMisspelled}
use Rattle.jc_session.specs.AnswerOf.{Spells}
use Rattle.jc_serve.proofs.StopAnswersLemmas.{misspelled_bad}
use Rattle.jc_serve.proofs.stuck.GivenStop.check_event.Goals as goal

pub returns-in-Refused : goal.returns-in-Refused
returns-in-Refused c =
    let s = scenario_view c.args.self.now.scenario in
    let rest = c.args.rest.now in
    misspelled_bad s rest c.as_bytes.result.now c.in-Refused.refusal c.in-Refused.place c.of_text.result c.as_bytes.ensures.value
    (subst (λ ns. IsMisspelled s.version ns rest c.in-Refused.refusal c.in-Refused.place) c.names.ensures (subst (λ spelled. Spells s.version c.names.result.now rest spelled) c.in-Refused.is c.in_ok-event_of.ensures))
    c.of_text.ensures

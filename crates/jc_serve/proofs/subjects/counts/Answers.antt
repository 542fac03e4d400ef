use Rattle.std.proofs.Common.{◌≡◌, codes, decimal, length, vec_len, sum_by, ap, ◌∙◌, arith}
use Rattle.std.proofs.lemmas.Result.{IfOk-weaker}
use Rattle.jc_scenario.specs.Views.{scenario_view, scripts_view}
use Rattle.jc_answers.specs.JsonTexts.{number_member, object_text}
use Rattle.jc_serve.specs.Subjects.{command_count}
use Rattle.jc_serve.proofs.ToldLemmas.{members_and_more}
use Rattle.jc_serve.proofs.subjects.counts.Goals as goal

pub returns : goal.returns
returns c =
    let s = c.args.scenario.now in
    let commands : c.command_count-commands.result ≡ command_count (scenario_view s) =
    c.command_count-commands.ensures ∙ ap (λ scripts. sum_by (λ script. length script) (scripts_view scripts)) c.deref.ensures.value in
    let schedule : vec_len s.schedule ≡ length s.schedule.items = omega (arith, s.schedule.ok.0) in
    let given : vec_len s.given ≡ length s.given.items = omega (arith, s.given.ok.0) in
    let names : vec_len s.names ≡ length s.names.items = omega (arith, s.names.ok.0) in
    IfOk-weaker c.object_text.result _ _ (λ answer h.
    h ∙ ap object_text (
    members_and_more c.number.result c.number-2.result c.number-3.result c.number-4.result c.args.stuck
    (codes "commands", decimal (command_count (scenario_view s))) (codes "events", decimal (length s.schedule.items))
    (codes "given", decimal (length s.given.items)) (codes "replicas", decimal (length s.names.items))
    (c.number.ensures ∙ ap (number_member (codes "commands")) commands)
    (c.number-2.ensures ∙ ap (number_member (codes "events")) (c.len.ensures ∙ schedule))
    (c.number-3.ensures ∙ ap (number_member (codes "given")) (c.len-2.ensures ∙ given))
    (c.number-4.ensures ∙ ap (number_member (codes "replicas")) (c.len-3.ensures ∙ names)))) c.object_text.ensures

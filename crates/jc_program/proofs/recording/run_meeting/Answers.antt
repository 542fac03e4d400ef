use Rattle.std.proofs.Common.{◌≡◌, ℕ, length, vec_len, refl, subst, arith}
use Rattle.jc_scenario.specs.Views.{scenario_view, scripts_view}
use Rattle.jc_runner.specs.Reports.{IsReportedFault}
use Rattle.jc_runner.specs.declared.run.RunFault.{RunFault}
use Rattle.std.specs.Prelude.{IfErr}
use Rattle.jc_serve.proofs.CommandCountLemmas.{as_many}
use Rattle.jc_program.proofs.recording.run_meeting.Goals as goal

pub returns-clause-fault : goal.returns-clause-fault
returns-clause-fault g c =
    let scripts = c.args.scenario.scripts in
    let many : vec_len c.in-Ok.gates ≡ length (scripts_view scripts.items) = omega (arith, c.in-Ok.ensures.0, as_many scripts.items, scripts.ok.0) in
    subst (λ (n : ℕ). IfErr c.run_threads.result (λ (f : RunFault). IsReportedFault f (scenario_view c.args.scenario) n c.args.limit)) many c.run_threads.ensures.fault

pub returns-in-Err-clause-fault : goal.returns-in-Err-clause-fault
returns-in-Err-clause-fault g c = (refl, c.requires.limit)

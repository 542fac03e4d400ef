use Rattle.std.proofs.Common.{◌≡◌, ◌∙◌, [], length, refl, arith}
use Rattle.std.proofs.Math.Seq.{take-length}
use Rattle.jc_scenario.specs.Canon.{canon}
use Rattle.jc_scenario.specs.Views.{scenario_view}
use Rattle.jc_out.specs.Out.{output}
use Rattle.jc_out.proofs.OutLemmas.{adds_nothing}
use Rattle.jc_program.specs.Texts.{counts_text}
use Rattle.jc_program.proofs.RunOutLemmas.{on_err}
use Rattle.jc_program.proofs.alone.add_view.Goals as goal

-- there was no memory for the text
pub returns-in_err-line-in-Check-clause-halted : goal.returns-in_err-line-in-Check-clause-halted
returns-in_err-line-in-Check-clause-halted g c =
    let o = output g.K.Sink c.args.out.now in
    on_err _ c.from_residual.result (rw c.in-Check.is ([], refl, adds_nothing o o refl))

pub returns-in_err-text-in-Print-clause-halted : goal.returns-in_err-text-in-Print-clause-halted
returns-in_err-text-in-Print-clause-halted g c =
    let o = output g.K.Sink c.args.out.now in
    on_err _ c.from_residual-in_err-text-in-Print.result (rw c.in-Print.is ([], refl, adds_nothing o o refl))

-- the text is there
pub returns-in_ok-line-in-Check-clause-ok : goal.returns-in_ok-line-in-Check-clause-ok
returns-in_ok-line-in-Check-clause-ok g c =
    let same = c.as_bytes.ensures.value ∙ (c.as_str.ensures.value ∙ c.in_ok-line-in-Check.ensures) in
    (counts_text (scenario_view c.args.scenario), rw c.in-Check.is (refl, refl), rw same at c.pass.ensures)

pub returns-in_ok-text-in-Print-clause-ok : goal.returns-in_ok-text-in-Print-clause-ok
returns-in_ok-text-in-Print-clause-ok g c =
    let same = c.as_bytes-in-Print.ensures.value ∙ (c.as_str-in-Print.ensures.value ∙ c.in_ok-text-in-Print.ensures) in
    (canon (scenario_view c.args.scenario), rw c.in-Print.is (refl, refl), rw same at c.pass-in-Print.ensures)

-- ---- runs

pub returns-in-Run-clause-ok : goal.returns-in-Run-clause-ok
returns-in-Run-clause-ok g c =
    let size : c.len-all.result ≡ length (scenario_view c.args.scenario).schedule = omega (arith, c.len-all.ensures, c.args.scenario.schedule.ok.0) in
    rw c.in-Run.is (rw (size, take-length) at c.add_run.ensures.ok)

pub returns-in-Run-clause-halted : goal.returns-in-Run-clause-halted
returns-in-Run-clause-halted g c =
    let size : c.len-all.result ≡ length (scenario_view c.args.scenario).schedule = omega (arith, c.len-all.ensures, c.args.scenario.schedule.ok.0) in
    rw c.in-Run.is (rw (size, take-length) at c.add_run.ensures.halted)

pub returns-in-Document-clause-ok : goal.returns-in-Document-clause-ok
returns-in-Document-clause-ok g c = rw c.in-Document.is c.add_run-in-Document.ensures.ok

pub returns-in-Document-clause-halted : goal.returns-in-Document-clause-halted
returns-in-Document-clause-halted g c = rw c.in-Document.is c.add_run-in-Document.ensures.halted

-- ---- journals

pub returns-in-Journal-clause-halted : goal.returns-in-Journal-clause-halted
returns-in-Journal-clause-halted g c = rw c.in-Journal.is c.add_journal.ensures.halted

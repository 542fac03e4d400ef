use Rattle.std.proofs.Common.{◌∙◌, List, ℕ, inr, take, string_bytes, refl, ap}
use Rattle.std.specs.declared.alloc.Global.{Global}
use Rattle.std.specs.declared.vec.Vec.{Vec}
use Rattle.jc_scenario.specs.Views.{scenario_view}
use Rattle.jc_network.proofs.GivenHistoryLemmas.{told_given}
use Rattle.jc_dump.specs.Texts.{given_text}
use Rattle.jc_out.specs.Out.{output}
use Rattle.jc_program.specs.Recordings.{AreGivenLines}
use Rattle.jc_program.proofs.GivenStuckLemmas.{given_named, given_shown}
use Rattle.jc_program.proofs.ViewTextLemmas.{unstarted, events_stand, replicas_stand, all_stand, ended, stopped}
use Rattle.jc_program.proofs.RunOutLemmas.{on_err}
use Rattle.jc_program.proofs.alone.add_run.Goals as goal

-- what was written, if no event was stuck
pub returns-in-None-clause-ok : goal.returns-in-None-clause-ok
returns-in-None-clause-ok g c =
    ended _ _ _ _ _ _ c.in-Ok.ensures.started (c.first_events-schedule.ensures ∙ ap (take c.args.events) (c.deref-2.ensures.value ∙ c.in-Ok.ensures.schedule))
    _ _ _ _ _ c.in_ok-stuck.ensures.ok c.change_room.ensures _ c.in-None.is c.in_ok-add_lines.ensures.ok

-- and if one was
pub returns-clause-ok : goal.returns-clause-ok
returns-clause-ok g c =
    stopped _ _ _ _ _ _ c.in-Ok.ensures.started (c.first_events-schedule.ensures ∙ ap (take c.args.events) (c.deref-2.ensures.value ∙ c.in-Ok.ensures.schedule))
    _ _ _ _ _ c.in_ok-stuck.ensures.ok c.change_room.ensures _ _ _ _ c.in-Some.is
    (λ why event e. c.as_bytes-in-Some.ensures.value ∙ (c.as_str-in-Some.ensures.value ∙ c.in_ok-line-in-Some.ensures why event e)) c.in_ok-add_lines.ensures.ok c.pass-in-Some.ensures

-- ---- without memory

-- the blocks of some events are there
pub returns-in_err-stuck-clause-halted : goal.returns-in_err-stuck-clause-halted
returns-in_err-stuck-clause-halted g c =
    on_err _ c.from_residual-in_err-stuck.result
    (events_stand _ _ _ _ _ _ c.in-Ok.ensures.started (c.first_events-schedule.ensures ∙ ap (take c.args.events) (c.deref-2.ensures.value ∙ c.in-Ok.ensures.schedule)) _ _ c.in_err-stuck.ensures.halted)

-- the blocks are there, and the lines of some replicas
pub returns-in_err-add_lines-clause-halted : goal.returns-in_err-add_lines-clause-halted
returns-in_err-add_lines-clause-halted g c =
    on_err _ c.from_residual-in_err-add_lines.result
    (replicas_stand _ _ _ _ _ _ c.in-Ok.ensures.started (c.first_events-schedule.ensures ∙ ap (take c.args.events) (c.deref-2.ensures.value ∙ c.in-Ok.ensures.schedule))
    _ _ _ _ _ c.in_ok-stuck.ensures.ok c.change_room.ensures _ c.in_err-add_lines.ensures.halted)

-- those of all, and nothing of the stuck line
pub returns-in_err-line-in-Some-clause-halted : goal.returns-in_err-line-in-Some-clause-halted
returns-in_err-line-in-Some-clause-halted g c =
    on_err _ c.from_residual-in_err-line-in-Some.result
    (all_stand _ _ _ _ _ _ c.in-Ok.ensures.started (c.first_events-schedule.ensures ∙ ap (take c.args.events) (c.deref-2.ensures.value ∙ c.in-Ok.ensures.schedule))
    _ _ _ _ _ c.in_ok-stuck.ensures.ok c.change_room.ensures _ _ c.in-Some.is c.in_ok-add_lines.ensures.ok)

-- ---- where there is no start

pub named_given_text-requires : goal.named_given_text-requires
named_given_text-requires g c =
    let w = c.in-Err-Given in
    let given = told_given (scenario_view c.args.scenario) w.field-0 w.names w.at w.stuck w.field-0-is w.ensures.unstarted in
    let names = c.deref.ensures.value ∙ (ap (λ (v : Vec (List ℕ) Global). v.items) w.names-is ∙ given.0) in
    rw w.stuck-is (given_named (scenario_view c.args.scenario) w.at w.stuck given.1 c.deref.result.now names c.requires)

-- the lines of the stuck given event are there
pub returns-in-Err-Given-clause-ok : goal.returns-in-Err-Given-clause-ok
returns-in-Err-Given-clause-ok g c =
    let w = c.in-Err-Given in
    let given = told_given (scenario_view c.args.scenario) w.field-0 w.names w.at w.stuck w.field-0-is w.ensures.unstarted in
    let names = c.deref.ensures.value ∙ (ap (λ (v : Vec (List ℕ) Global). v.items) w.names-is ∙ given.0) in
    let lines = string_bytes c.in_ok-lines-in-Err-Given.lines in
    let are : AreGivenLines c.deref.result.now w.at w.stuck lines = λ why event is.
    c.in_ok-lines-in-Err-Given.ensures why event (w.stuck-is ∙ is) ∙ ap (λ (at : ℕ). given_text c.deref.result.now at why event) w.at-is in
    (lines, inr (given_shown (scenario_view c.args.scenario) w.at w.stuck given.1 c.deref.result.now names lines are), rw (c.as_bytes.ensures.value, c.as_str.ensures.value) at c.pass.ensures)

-- or there was no memory for them
pub returns-in_err-lines-in-Err-Given-clause-halted : goal.returns-in_err-lines-in-Err-Given-clause-halted
returns-in_err-lines-in-Err-Given-clause-halted g c = on_err _ c.from_residual.result (unstarted c.args.trace c.args.lines _ (scenario_view c.args.scenario) (output g.K.Sink c.args.out.now) _ refl)

-- or for the start
pub returns-in-Err-Memory-clause-halted : goal.returns-in-Err-Memory-clause-halted
returns-in-Err-Memory-clause-halted g c = unstarted c.args.trace c.args.lines _ (scenario_view c.args.scenario) (output g.K.Sink c.args.out.now) _ refl

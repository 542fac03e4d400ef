use Rattle.std.proofs.Common.{◌≢◌, Err, refl, ap}
use Rattle.std.proofs.lemmas.Result.{IfErr-at_err, IfOk-weaker, IfErr-weaker, on_ok_weaker}
use Rattle.jc_scenario.specs.Views.{scenario_view}
use Rattle.jc_io.specs.Written.{sink}
use Rattle.jc_program.specs.WeaveRuns.{IsBySeed, HaveNoThreads}
use Rattle.jc_runner.specs.declared.starting.SpawnRefused.{SpawnRefused}
use Rattle.jc_program.specs.declared.recording.RecordFault.{RecordFault}
use Rattle.jc_program.specs.declared.recording.RecordFault.TheVariants.{NoThread as WantOfThread}
use Rattle.jc_program.proofs.FoundLemmas.{passed_on, passed_write, read_cause, unread, refused, refusal_stops, shown, show_stops, show_same, show_cause}
use Rattle.jc_program.proofs.ThreadRunsLemmas.{cause_of, recording_shown, recording_stops, has_recorded, is_stopped, told_cause, told_same}
use Rattle.jc_program.proofs.alone.carry_out.Goals as goal

-- ---- the file wasn't read

pub returns-in_err-found-clause-stopped : goal.returns-in_err-found-clause-stopped
returns-in_err-found-clause-stopped g c =
    passed_on _ _ _ c.from_residual.ensures.1 (unread c.args.order.now.task _ _ _ _ _ c.in_err-found.field-0.0 c.requires.alone (c.in_default.not-Debug, c.in_default-task.not-Serve) refl)

pub returns-in_err-found-clause-cause : goal.returns-in_err-found-clause-cause
returns-in_err-found-clause-cause g c =
    passed_on _ _ _ c.from_residual.ensures.1
    (rw (← c.as_str-file.ensures) (read_cause c.in_err-found.field-0.0 _ _ _ _ (λ e. c.in_err-found.ensures.memory (ap Err e)) (λ e. c.in_err-found.ensures.failed (ap Err e))))

-- ---- its text was refused

pub returns-in_err-send-in-Err-clause-stopped : goal.returns-in_err-send-in-Err-clause-stopped
returns-in_err-send-in-Err-clause-stopped g c =
    let broke = c.in_err-send-in-Err.ensures.err in
    let found = rw (c.as_str-file.ensures, c.in-Err.is) at c.in_ok-found.ensures.found in
    passed_write _ _ _ broke.0 c.from_residual-in_err-send-in-Err.ensures.1
    (refusal_stops _ c.in-Err.line found _ _ c.args.order.now.task _ _ c.requires.alone (c.in_default.not-Debug, c.in_default-task.not-Serve) (rw c.as_str.ensures.value at broke.1))

pub returns-in_err-send-in-Err-clause-cause : goal.returns-in_err-send-in-Err-clause-cause
returns-in_err-send-in-Err-clause-cause g c =
    let broke = c.in_err-send-in-Err.ensures.err in
    passed_write _ _ _ broke.0 c.from_residual-in_err-send-in-Err.ensures.1 (c.in_ok-found.ensures.ok, broke.1.1)

pub returns-in-Err-clause-done : goal.returns-in-Err-clause-done
returns-in-Err-clause-done g c =
    let found = rw (c.as_str-file.ensures, c.in-Err.is) at c.in_ok-found.ensures.found in
    refused _ c.in-Err.line found _ _ c.args.order.now.task _ _ _ c.requires.alone (c.in_default.not-Debug, c.in_default-task.not-Serve) refl (rw c.as_str.ensures.value at c.in_ok-send-in-Err.ensures.ok)

-- ---- a view

pub returns-in-Show-clause-done : goal.returns-in-Show-clause-done
returns-in-Show-clause-done g c =
    let found = rw (c.as_str-file.ensures, c.in-Ok.is) at c.in_ok-found.ensures.found in
    rw c.in-Show.is (IfOk-weaker c.show.result _ _ (shown c.in-Ok.scenario (sink g.K.Sink c.args.out.now) (sink g.K.Sink c.show.new.out) c.in-Show.view _ found) c.show.ensures.ok)

pub returns-in-Show-clause-stopped : goal.returns-in-Show-clause-stopped
returns-in-Show-clause-stopped g c =
    let found = rw (c.as_str-file.ensures, c.in-Ok.is) at c.in_ok-found.ensures.found in
    rw c.in-Show.is (IfErr-weaker c.show.result _ _ (show_stops c.in-Ok.scenario (sink g.K.Sink c.args.out.now) (sink g.K.Sink c.show.new.out) c.in-Show.view _ found) c.show.ensures.stopped)

pub returns-in-Show-clause-same : goal.returns-in-Show-clause-same
returns-in-Show-clause-same g c =
    on_ok_weaker c.show.result (λ same. (c.in_ok-found.ensures.ok, same))
    (show_same c.in-Ok.scenario (sink g.K.Sink c.args.out.now) (sink g.K.Sink c.show.new.out) c.in-Show.view c.show.result c.show.ensures.ok)

pub returns-in-Show-clause-cause : goal.returns-in-Show-clause-cause
returns-in-Show-clause-cause g c =
    IfErr-weaker c.show.result _ _
    (λ fault h. cause_of fault _ _ _ _ _ c.in_ok-found.ensures.ok (show_cause c.in-Ok.scenario (sink g.K.Sink c.args.out.now) (sink g.K.Sink c.show.new.out) c.in-Show.view fault h)) c.show.ensures.stopped

-- ---- a woven schedule

pub returns-in-Weave-clause-done : goal.returns-in-Weave-clause-done
returns-in-Weave-clause-done g c =
    let made = IsBySeed c.in-Weave.seed c.in-Weave.limit in
    let s = scenario_view c.in-Ok.scenario in
    let found = rw (c.as_str-file.ensures, c.in-Ok.is) at c.in_ok-found.ensures.found in
    rw c.in-Weave.is (IfOk-weaker c.tell.result _ _ (has_recorded made s (sink g.K.Sink c.args.out.now) (sink g.K.Sink c.tell.new.out) (sink g.E.Sink c.args.err.now) (sink g.E.Sink c.tell.new.err) _ found)
    (recording_shown made s _ _ _ _ c.weave_text.result c.tell.result c.weave_text.ensures.woven c.weave_text.ensures.fault c.tell.ensures.told))

pub returns-in-Weave-clause-stopped : goal.returns-in-Weave-clause-stopped
returns-in-Weave-clause-stopped g c =
    let made = IsBySeed c.in-Weave.seed c.in-Weave.limit in
    let s = scenario_view c.in-Ok.scenario in
    let found = rw (c.as_str-file.ensures, c.in-Ok.is) at c.in_ok-found.ensures.found in
    let alone = c.weave_text.ensures.alone in
    rw c.in-Weave.is (IfErr-weaker c.tell.result _ _ (is_stopped made s _ _ (sink g.E.Sink c.args.err.now) (sink g.E.Sink c.tell.new.err) _ found HaveNoThreads)
    (recording_stops made s _ _ _ _ ⊥ c.weave_text.result c.tell.result (λ refused is. IfErr-at_err (λ (fault : RecordFault). (q : SpawnRefused) → fault ≢ WantOfThread q) is alone refused refl) c.weave_text.ensures.woven c.weave_text.ensures.fault c.tell.ensures.told))

pub returns-in-Weave-clause-same : goal.returns-in-Weave-clause-same
returns-in-Weave-clause-same g c =
    on_ok_weaker c.tell.result (λ same. (c.in_ok-found.ensures.ok, same))
    (told_same c.weave_text.result c.tell.result (sink g.K.Sink c.args.out.now) (sink g.K.Sink c.tell.new.out) (sink g.E.Sink c.args.err.now) (sink g.E.Sink c.tell.new.err) c.tell.ensures.told)

pub returns-in-Weave-clause-cause : goal.returns-in-Weave-clause-cause
returns-in-Weave-clause-cause g c =
    IfErr-weaker c.tell.result _ _ (λ fault h. cause_of fault _ _ _ _ _ c.in_ok-found.ensures.ok h)
    (told_cause c.weave_text.result c.tell.result (sink g.K.Sink c.args.out.now) (sink g.K.Sink c.tell.new.out) (sink g.E.Sink c.args.err.now) (sink g.E.Sink c.tell.new.err) c.tell.ensures.told)

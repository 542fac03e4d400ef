use Rattle.std.proofs.Common.{◌≡◌, inl, inr, refl, ◌∙◌, string_bytes}
use Rattle.jc_io.specs.Written.{sink}
use Rattle.jc_scenario.specs.Views.{scenario_view}
use Rattle.jc_network.proofs.GivenHistoryLemmas.{told_given}
use Rattle.jc_debug.specs.Invariant.{session_of}
use Rattle.jc_session.specs.AnswerOf.{origin_in}
use Rattle.jc_session.specs.SessionText.{finished, too_many}
use Rattle.jc_session.specs.declared.sessions.SessionFault.TheVariants.{ReadFailed, WriteFailed, TooManyLines, Memory}
use Rattle.jc_session.proofs.SentLemmas.{fault_told, text_refused_shown, refused_front, given_named, given_is, given_shown, given_front, stops_as, stopped_on, shown_by, shown_past}
use Rattle.jc_session.proofs.sessions.session.Goals as goal

-- ---- a text that is refused

pub returns-in-Ok-write_flushed-clause-text_refused : goal.returns-in-Ok-write_flushed-clause-text_refused
returns-in-Ok-write_flushed-clause-text_refused g c = λ fault e.
    let same : c.in-Err.fault ≡ fault = cc in
    let line = fault_told c.in-Err.fault c.refusal.result c.place.result (string_bytes c.in_ok-line-in-Err.line) c.as_bytes.result.now
    c.refusal.ensures c.place.ensures (c.as_bytes.ensures.value ∙ c.as_str.ensures.value) c.in_ok-line-in-Err.ensures in
    (text_refused_shown c.args.scenario.now c.in-Err.fault fault (sink g.K.Sink c.args.out.now) (sink g.K.Sink c.write_flushed.new.out) c.in-Err.ensures.fault (c.as_bytes.result.now, line, c.in-Ok-write_flushed.ensures.ok) same, refl)

pub returns-in-Err-write_flushed-clause-write : goal.returns-in-Err-write_flushed-clause-write
returns-in-Err-write_flushed-clause-write g c = λ k.
    let line = fault_told c.in-Err.fault c.refusal.result c.place.result (string_bytes c.in_ok-line-in-Err.line) c.as_bytes.result.now
    c.refusal.ensures c.place.ensures (c.as_bytes.ensures.value ∙ c.as_str.ensures.value) c.in_ok-line-in-Err.ensures in
    inl (refl, refused_front c.args.scenario.now c.in-Err.fault (sink g.K.Sink c.args.out.now) (sink g.K.Sink c.write_flushed.new.out) c.in-Err.ensures.fault c.as_bytes.result.now line c.in-Err-write_flushed.ensures.err)

-- ---- a given event that is stuck

pub named_given_text-requires : goal.named_given_text-requires
named_given_text-requires g c =
    let w = c.in-Err-Given in
    let given = told_given (scenario_view c.in-Ok.scenario) w.field-0 w.names w.at w.stuck w.field-0-is w.ensures.unstarted in
    given_named (scenario_view c.in-Ok.scenario) c.deref.result.now w.at w.stuck c.in-Ok.ensures.well_formed (c.deref.ensures.value ∙ given.0) given.1

pub returns-in-Ok-write_flushed-2-clause-given_stuck : goal.returns-in-Ok-write_flushed-2-clause-given_stuck
returns-in-Ok-write_flushed-2-clause-given_stuck g c = λ _.
    let w = c.in-Err-Given in
    let given = told_given (scenario_view c.in-Ok.scenario) w.field-0 w.names w.at w.stuck w.field-0-is w.ensures.unstarted in
    let is = given_is (scenario_view c.in-Ok.scenario) c.deref.result.now w.at w.stuck (string_bytes c.in_ok-text-in-Err-Given.text) c.as_bytes-in-Err-Given.result.now
    (c.as_bytes-in-Err-Given.ensures.value ∙ c.as_str-in-Err-Given.ensures.value) (c.deref.ensures.value ∙ given.0) given.1 c.in_ok-text-in-Err-Given.ensures in (
      given_shown c.args.scenario.now (scenario_view c.in-Ok.scenario) w.at w.stuck c.as_bytes-in-Err-Given.result.now
          (sink g.K.Sink c.args.out.now) (sink g.K.Sink c.write_flushed-in-Err-Given.new.out) c.in-Ok.ensures.scenario given.1 is c.in-Ok-write_flushed-2.ensures.ok,
      refl,
    )

pub returns-in-Err-write_flushed-2-clause-write : goal.returns-in-Err-write_flushed-2-clause-write
returns-in-Err-write_flushed-2-clause-write g c = λ k.
    let w = c.in-Err-Given in
    let given = told_given (scenario_view c.in-Ok.scenario) w.field-0 w.names w.at w.stuck w.field-0-is w.ensures.unstarted in
    let is = given_is (scenario_view c.in-Ok.scenario) c.deref.result.now w.at w.stuck (string_bytes c.in_ok-text-in-Err-Given.text) c.as_bytes-in-Err-Given.result.now
    (c.as_bytes-in-Err-Given.ensures.value ∙ c.as_str-in-Err-Given.ensures.value) (c.deref.ensures.value ∙ given.0) given.1 c.in_ok-text-in-Err-Given.ensures in
    inr (inl (
      refl,
      given_front c.args.scenario.now (scenario_view c.in-Ok.scenario) w.at w.stuck c.as_bytes-in-Err-Given.result.now
          (sink g.K.Sink c.args.out.now) (sink g.K.Sink c.write_flushed-in-Err-Given.new.out) c.in-Ok.ensures.scenario given.1 is c.in-Err-write_flushed-2.ensures.err,
    ))

-- ---- lines

pub returns-in-Ok-converse-clause-finished : goal.returns-in-Ok-converse-clause-finished
returns-in-Ok-converse-clause-finished g c = λ _.
    shown_by c.args.scenario.now (scenario_view c.in-Ok.scenario) c.in-Ok-of.debugger (session_of c.in-Ok-of.debugger) (g.S.Source.left c.args.lines.now) finished (sink g.K.Sink c.args.out.now) (sink g.K.Sink c.converse.new.out) c.in-Ok.ensures.scenario c.in-Ok-of.ensures.net c.in-Ok-of.ensures.session c.in-Ok-converse.ensures.finished

pub returns-clause-too_many : goal.returns-clause-too_many
returns-clause-too_many g c = λ k.
    let d = c.in-Ok-of.debugger in
    let stops = stops_as c.in-Err-converse.fault TooManyLines (origin_in d) (session_of d) (g.S.Source.left c.args.lines.now) (g.S.Source.left c.converse.new.source)
    (sink g.K.Sink c.args.out.now) (sink g.K.Sink c.converse.new.out) k c.in-Err-converse.ensures.stopped in
    shown_past c.args.scenario.now (scenario_view c.in-Ok.scenario) d (session_of d) (g.S.Source.left c.args.lines.now) (g.S.Source.left c.converse.new.source) too_many
    (sink g.K.Sink c.args.out.now) (sink g.K.Sink c.converse.new.out) c.in-Ok.ensures.scenario c.in-Ok-of.ensures.net c.in-Ok-of.ensures.session stops

pub returns-clause-read : goal.returns-clause-read
returns-clause-read g c = λ k.
    let d = c.in-Ok-of.debugger in
    stopped_on c.in-Err-converse.fault ReadFailed c.args.scenario.now (scenario_view c.in-Ok.scenario) d (session_of d)
    (g.S.Source.left c.args.lines.now) (g.S.Source.left c.converse.new.source) (sink g.K.Sink c.args.out.now) (sink g.K.Sink c.converse.new.out) k c.in-Ok.ensures.scenario c.in-Ok-of.ensures.net c.in-Ok-of.ensures.session c.in-Err-converse.ensures.stopped

pub returns-clause-memory : goal.returns-clause-memory
returns-clause-memory g c = λ k.
    let d = c.in-Ok-of.debugger in
    inr (stopped_on c.in-Err-converse.fault Memory c.args.scenario.now (scenario_view c.in-Ok.scenario) d (session_of d)
    (g.S.Source.left c.args.lines.now) (g.S.Source.left c.converse.new.source) (sink g.K.Sink c.args.out.now) (sink g.K.Sink c.converse.new.out) k c.in-Ok.ensures.scenario c.in-Ok-of.ensures.net c.in-Ok-of.ensures.session c.in-Err-converse.ensures.stopped)

pub returns-clause-write : goal.returns-clause-write
returns-clause-write g c = λ k.
    let d = c.in-Ok-of.debugger in
    inr (inr (stopped_on c.in-Err-converse.fault WriteFailed c.args.scenario.now (scenario_view c.in-Ok.scenario) d (session_of d)
    (g.S.Source.left c.args.lines.now) (g.S.Source.left c.converse.new.source) (sink g.K.Sink c.args.out.now) (sink g.K.Sink c.converse.new.out) k c.in-Ok.ensures.scenario c.in-Ok-of.ensures.net c.in-Ok-of.ensures.session c.in-Err-converse.ensures.stopped))

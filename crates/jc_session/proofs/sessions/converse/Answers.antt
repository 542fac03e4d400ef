use Rattle.std.proofs.Common.{◌∙◌, [], ◌∷◌, ◌++◌, Ok, inl, inr, ap, refl, arith}
use Rattle.std.specs.Io.KnownBytes.{prepend_known}
use Rattle.jc_io.specs.Written.{sink}
use Rattle.jc_debug.specs.Invariant.{session_of}
use Rattle.jc_session.specs.Lines.{without_cr}
use Rattle.jc_session.specs.Views.{line_of_bytes}
use Rattle.jc_session.specs.AnswerOf.{origin_in}
use Rattle.jc_session.proofs.EventNamesLemmas.{answer_named}
use Rattle.jc_session.proofs.SessionTextLemmas.{goes_on, breaks_off, line_is, line_last, so_far_more, at_end, at_last, at_quit_line, at_limit, next_whole, next_last, loses_front, went_whole, went_to_read, went_front}
use Rattle.jc_session.proofs.SentLemmas.{starved}
use Rattle.jc_session.proofs.sessions.converse.Goals as goal

-- ---- a line that an LF ends

pub lines-preserved : goal.lines-preserved
lines-preserved g c =
    let inv = c.lines.invariant in
    let w = c.in-Ok-Whole.ensures.whole (ap Ok c.in-Ok-Whole.field-0-is) in
    let line = line_is without_cr w.0 c.next.new.self.line w.3 c.content.result c.content.ensures in
    let gives = rw c.in-Some.is at c.in_ok-text-in-Ok-Whole.ensures in
    let O = origin_in c.args.debugger.now in
    let on = goes_on (sink g.K.Sink c.lines.out) (sink g.K.Sink c.write_flushed.new.out) inv.origin gives (c.as_bytes.ensures.value ∙ c.as_str.ensures.value) c.in-Ok.ensures.ok in
    record {
      so_far = so_far_more O _ _ _ _ _ _ _ _ _ c.lines.lines.bytes c.lines.lines.count c.next.new.self.bytes c.next.new.self.count w.0 (line_of_bytes c.content.result) w.4 w.6 inv.so_far w.1 w.2 line on;
      origin = gives.origin ∙ inv.origin;
      named = answer_named O (session_of c.lines.debugger) (session_of c.answer.new.debugger) (line_of_bytes c.content.result) on.0 on.1 inv.named;
      bytes = w.5;
      count = w.7;
      reads = omega (arith, c.in-Ok-Whole.ensures.failures, inv.reads);
    }

pub returns-in_default-clause-finished : goal.returns-in_default-clause-finished
returns-in_default-clause-finished g c =
    let inv = c.lines.invariant in
    let w = c.in-Ok-Whole.ensures.whole (ap Ok c.in-Ok-Whole.field-0-is) in
    let line = line_is without_cr w.0 c.next.new.self.line w.3 c.content.result c.content.ensures in
    let quits = rw c.in_default.is at c.in_ok-text-in-Ok-Whole.ensures in
    at_quit_line (g.S.Source.left c.next.new.source) inv.so_far inv.bytes inv.count w.0 c.next.new.self.ahead (line_of_bytes c.content.result) (omega (arith, w.4, w.5)) (omega (arith, w.6, w.7)) w.1 w.2 line quits

pub returns-in_err-text-in-Ok-Whole-clause-stopped : goal.returns-in_err-text-in-Ok-Whole-clause-stopped
returns-in_err-text-in-Ok-Whole-clause-stopped g c =
    let inv = c.lines.invariant in
    let w = c.in-Ok-Whole.ensures.whole (ap Ok c.in-Ok-Whole.field-0-is) in
    let line = line_is without_cr w.0 c.next.new.self.line w.3 c.content.result c.content.ensures in
    let next = next_whole (prepend_known c.lines.lines.ahead (g.S.Source.left c.lines.source)) (g.S.Source.left c.next.new.source) w.0 c.next.new.self.ahead (line_of_bytes c.content.result) w.1 c.in-Ok-Whole.ensures.few w.2 line in
    starved (origin_in c.args.debugger.now) (session_of c.args.debugger.now) (g.S.Source.left c.args.source.now) (g.S.Source.left c.next.new.source) (sink g.K.Sink c.args.out.now) (sink g.K.Sink c.lines.out) c.from_residual.result c.from_residual.ensures.1
    (went_whole (g.S.Source.left c.next.new.source) inv.so_far inv.bytes inv.count (line_of_bytes c.content.result) next)

pub returns-in-Err-write_flushed-clause-stopped : goal.returns-in-Err-write_flushed-clause-stopped
returns-in-Err-write_flushed-clause-stopped g c =
    let inv = c.lines.invariant in
    let w = c.in-Ok-Whole.ensures.whole (ap Ok c.in-Ok-Whole.field-0-is) in
    let line = line_is without_cr w.0 c.next.new.self.line w.3 c.content.result c.content.ensures in
    let next = next_whole (prepend_known c.lines.lines.ahead (g.S.Source.left c.lines.source)) (g.S.Source.left c.next.new.source) w.0 c.next.new.self.ahead (line_of_bytes c.content.result) w.1 c.in-Ok-Whole.ensures.few w.2 line in
    let gives = rw c.in-Some.is at c.in_ok-text-in-Ok-Whole.ensures in
    let off = breaks_off (sink g.K.Sink c.lines.out) (sink g.K.Sink c.write_flushed.new.out) inv.origin gives (c.as_bytes.ensures.value ∙ c.as_str.ensures.value) c.in-Err-write_flushed.ensures.err in
    went_front (g.S.Source.left c.next.new.source) inv.so_far inv.bytes inv.count (sink g.K.Sink c.write_flushed.new.out) (line_of_bytes c.content.result) next off

pub returns-in_err-text-in-Ok-Whole-clause-left : goal.returns-in_err-text-in-Ok-Whole-clause-left
returns-in_err-text-in-Ok-Whole-clause-left g c =
    let w = c.in-Ok-Whole.ensures.whole (ap Ok c.in-Ok-Whole.field-0-is) in
    inr (loses_front (g.S.Source.left c.next.new.source) (w.0 ++ 10 ∷ []) c.next.new.self.ahead c.lines.invariant.so_far w.2)

pub returns-in_default-clause-left : goal.returns-in_default-clause-left
returns-in_default-clause-left g c =
    let w = c.in-Ok-Whole.ensures.whole (ap Ok c.in-Ok-Whole.field-0-is) in
    inr (loses_front (g.S.Source.left c.next.new.source) (w.0 ++ 10 ∷ []) c.next.new.self.ahead c.lines.invariant.so_far w.2)

pub returns-in-Err-write_flushed-clause-left : goal.returns-in-Err-write_flushed-clause-left
returns-in-Err-write_flushed-clause-left g c =
    let w = c.in-Ok-Whole.ensures.whole (ap Ok c.in-Ok-Whole.field-0-is) in
    inr (loses_front (g.S.Source.left c.next.new.source) (w.0 ++ 10 ∷ []) c.next.new.self.ahead c.lines.invariant.so_far w.2)

-- ---- a line that the end of the input ends

pub returns-in-Ok-write_flushed-clause-finished : goal.returns-in-Ok-write_flushed-clause-finished
returns-in-Ok-write_flushed-clause-finished g c =
    let inv = c.lines.invariant in
    let w = c.in-Ok-Last.ensures.last (ap Ok c.in-Ok-Last.field-0-is) in
    let line = line_last w.0 c.next.new.self.line w.2 w.5 c.content-in-Ok-Last.result c.content-in-Ok-Last.ensures in
    let gives = rw c.in-Some-2.is at c.in_ok-text-in-Ok-Last.ensures in
    let on = goes_on (sink g.K.Sink c.lines.out) (sink g.K.Sink c.write_flushed-in-Ok-Last.new.out) inv.origin gives (c.as_bytes-in-Ok-Last.ensures.value ∙ c.as_str-in-Ok-Last.ensures.value) c.in-Ok-write_flushed.ensures.ok in
    at_last (g.S.Source.left c.next.new.source) inv.so_far inv.bytes inv.count (session_of c.answer-in-Ok-Last.new.debugger) (sink g.K.Sink c.write_flushed-in-Ok-Last.new.out) w.0 c.next.new.self.ahead (line_of_bytes c.content-in-Ok-Last.result) w.6 (omega (arith, w.7)) w.1 w.3 w.4 line (inl on)

pub returns-in_default-2-clause-finished : goal.returns-in_default-2-clause-finished
returns-in_default-2-clause-finished g c =
    let inv = c.lines.invariant in
    let w = c.in-Ok-Last.ensures.last (ap Ok c.in-Ok-Last.field-0-is) in
    let line = line_last w.0 c.next.new.self.line w.2 w.5 c.content-in-Ok-Last.result c.content-in-Ok-Last.ensures in
    let quits = rw c.in_default-2.is at c.in_ok-text-in-Ok-Last.ensures in
    at_last (g.S.Source.left c.next.new.source) inv.so_far inv.bytes inv.count (session_of c.lines.debugger) (sink g.K.Sink c.lines.out) w.0 c.next.new.self.ahead (line_of_bytes c.content-in-Ok-Last.result) w.6 (omega (arith, w.7)) w.1 w.3 w.4 line (inr (quits, refl))

pub returns-in_err-text-in-Ok-Last-clause-stopped : goal.returns-in_err-text-in-Ok-Last-clause-stopped
returns-in_err-text-in-Ok-Last-clause-stopped g c =
    let inv = c.lines.invariant in
    let w = c.in-Ok-Last.ensures.last (ap Ok c.in-Ok-Last.field-0-is) in
    let line = line_last w.0 c.next.new.self.line w.2 w.5 c.content-in-Ok-Last.result c.content-in-Ok-Last.ensures in
    let next = next_last (prepend_known c.lines.lines.ahead (g.S.Source.left c.lines.source)) (g.S.Source.left c.next.new.source) w.0 c.next.new.self.ahead (line_of_bytes c.content-in-Ok-Last.result) w.1 w.3 w.4 line in
    starved (origin_in c.args.debugger.now) (session_of c.args.debugger.now) (g.S.Source.left c.args.source.now) (g.S.Source.left c.next.new.source) (sink g.K.Sink c.args.out.now) (sink g.K.Sink c.lines.out) c.from_residual-in_err-text-in-Ok-Last.result c.from_residual-in_err-text-in-Ok-Last.ensures.1
    (went_whole (g.S.Source.left c.next.new.source) inv.so_far inv.bytes inv.count (line_of_bytes c.content-in-Ok-Last.result) next)

pub returns-in-Err-write_flushed-2-clause-stopped : goal.returns-in-Err-write_flushed-2-clause-stopped
returns-in-Err-write_flushed-2-clause-stopped g c =
    let inv = c.lines.invariant in
    let w = c.in-Ok-Last.ensures.last (ap Ok c.in-Ok-Last.field-0-is) in
    let line = line_last w.0 c.next.new.self.line w.2 w.5 c.content-in-Ok-Last.result c.content-in-Ok-Last.ensures in
    let next = next_last (prepend_known c.lines.lines.ahead (g.S.Source.left c.lines.source)) (g.S.Source.left c.next.new.source) w.0 c.next.new.self.ahead (line_of_bytes c.content-in-Ok-Last.result) w.1 w.3 w.4 line in
    let gives = rw c.in-Some-2.is at c.in_ok-text-in-Ok-Last.ensures in
    let off = breaks_off (sink g.K.Sink c.lines.out) (sink g.K.Sink c.write_flushed-in-Ok-Last.new.out) inv.origin gives (c.as_bytes-in-Ok-Last.ensures.value ∙ c.as_str-in-Ok-Last.ensures.value) c.in-Err-write_flushed-2.ensures.err in
    went_front (g.S.Source.left c.next.new.source) inv.so_far inv.bytes inv.count (sink g.K.Sink c.write_flushed-in-Ok-Last.new.out) (line_of_bytes c.content-in-Ok-Last.result) next off

pub returns-in_err-text-in-Ok-Last-clause-left : goal.returns-in_err-text-in-Ok-Last-clause-left
returns-in_err-text-in-Ok-Last-clause-left g c =
    let w = c.in-Ok-Last.ensures.last (ap Ok c.in-Ok-Last.field-0-is) in
    inr (loses_front (g.S.Source.left c.next.new.source) w.0 c.next.new.self.ahead c.lines.invariant.so_far w.3)

pub returns-in_default-2-clause-left : goal.returns-in_default-2-clause-left
returns-in_default-2-clause-left g c =
    let w = c.in-Ok-Last.ensures.last (ap Ok c.in-Ok-Last.field-0-is) in
    inr (loses_front (g.S.Source.left c.next.new.source) w.0 c.next.new.self.ahead c.lines.invariant.so_far w.3)

pub returns-in-Ok-write_flushed-clause-left : goal.returns-in-Ok-write_flushed-clause-left
returns-in-Ok-write_flushed-clause-left g c =
    let w = c.in-Ok-Last.ensures.last (ap Ok c.in-Ok-Last.field-0-is) in
    inr (loses_front (g.S.Source.left c.next.new.source) w.0 c.next.new.self.ahead c.lines.invariant.so_far w.3)

pub returns-in-Err-write_flushed-2-clause-left : goal.returns-in-Err-write_flushed-2-clause-left
returns-in-Err-write_flushed-2-clause-left g c =
    let w = c.in-Ok-Last.ensures.last (ap Ok c.in-Ok-Last.field-0-is) in
    inr (loses_front (g.S.Source.left c.next.new.source) w.0 c.next.new.self.ahead c.lines.invariant.so_far w.3)

-- ---- no line

pub returns-in-Ok-End-clause-finished : goal.returns-in-Ok-End-clause-finished
returns-in-Ok-End-clause-finished g c =
    let inv = c.lines.invariant in
    at_end (g.S.Source.left c.next.new.source) inv.so_far inv.bytes inv.count (c.in-Ok-End.ensures.end (ap Ok c.in-Ok-End.field-0-is)).0

pub returns-in-Ok-TooMany-clause-stopped : goal.returns-in-Ok-TooMany-clause-stopped
returns-in-Ok-TooMany-clause-stopped g c =
    let inv = c.lines.invariant in
    let w = c.in-Ok-TooMany.ensures.too_many (ap Ok c.in-Ok-TooMany.field-0-is) in
    at_limit (g.S.Source.left c.next.new.source) inv.so_far inv.bytes inv.count w.0 c.next.new.self.ahead w.1 w.2 c.in-Ok-TooMany.ensures.few w.3 w.5

pub returns-in-Err-clause-stopped : goal.returns-in-Err-clause-stopped
returns-in-Err-clause-stopped g c =
    let inv = c.lines.invariant in
    let e = c.in-Err.ensures.err in
    went_to_read (g.S.Source.left c.next.new.source) inv.so_far inv.bytes inv.count e.0 e.1 e.4

pub returns-in-Ok-End-clause-left : goal.returns-in-Ok-End-clause-left
returns-in-Ok-End-clause-left g c =
    let w = c.in-Ok-End.ensures.end (ap Ok c.in-Ok-End.field-0-is) in
    inr (loses_front (g.S.Source.left c.next.new.source) [] c.next.new.self.ahead c.lines.invariant.so_far w.1)

pub returns-in-Ok-TooMany-clause-left : goal.returns-in-Ok-TooMany-clause-left
returns-in-Ok-TooMany-clause-left g c =
    let w = c.in-Ok-TooMany.ensures.too_many (ap Ok c.in-Ok-TooMany.field-0-is) in
    inr (loses_front (g.S.Source.left c.next.new.source) (w.0 ++ w.1 ∷ []) c.next.new.self.ahead c.lines.invariant.so_far w.3)

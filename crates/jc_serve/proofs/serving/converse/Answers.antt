use Rattle.std.proofs.Common.{Ok, ap, sym, ◌∙◌, refl, subst}
use Rattle.std.specs.Io.KnownBytes.{prepend_known}
use Rattle.jc_io.specs.Written.{Stream, sink}
use Rattle.jc_session.specs.Views.{line_of_bytes}
use Rattle.jc_session.proofs.SentLemmas.{handed}
use Rattle.jc_requests.specs.Input.{says, brings}
use Rattle.jc_requests.specs.InputViews.{line_by}
use Rattle.jc_serve.specs.Stopped.{StoppedWhole}
use Rattle.jc_serve.proofs.ServingLemmas.{begun_at, next_line, next_text, one_more, at_quit, at_end, within_text, past_limit, at_read, in_text, unanswered, left_past, inside, not_both, read_failed, read_starved, line_alone}
use Rattle.jc_serve.proofs.serving.converse.Goals as goal

pub requests-init : goal.requests-init
requests-init g c =
    let h = c.requires in
    let new = c.new-input in
    record {
      so_far = begun_at (g.S.Source.left c.args.source.now) c.args.held.now (sink g.K.Sink c.args.out.now) h.0 new.result.ahead new.result.bytes new.result.requests new.ensures.ahead new.ensures.limits.0 new.ensures.limits.1 h.1 h.2;
      reads = refl;
    }

pub returns-in_err-next-clause-read : goal.returns-in_err-next-clause-read
returns-in_err-next-clause-read g c = λ k.
    let w = c.in_err-next.ensures.failed (read_failed c.from_residual.result c.in_err-next.field-0.0 c.from_residual.ensures.1 k) in
    at_read (g.S.Source.left c.args.source.now) (prepend_known c.requests.input.ahead (g.S.Source.left c.requests.source)) (g.S.Source.left c.next.new.source) c.requests.input.bytes c.requests.input.requests c.requests.held (sink g.K.Sink c.args.out.now) (sink g.K.Sink c.requests.out) w.0 c.requests.invariant.so_far w.1 w.4

pub returns-in_err-next-clause-memory : goal.returns-in_err-next-clause-memory
returns-in_err-next-clause-memory g c = λ k.
    let w = c.in_err-next.ensures.memory (read_starved c.from_residual.result c.in_err-next.field-0.0 c.from_residual.ensures.1 k) in
    in_text (g.S.Source.left c.args.source.now) (prepend_known c.requests.input.ahead (g.S.Source.left c.requests.source)) c.next.new.self.ahead (g.S.Source.left c.next.new.source) c.in_err-next.ensures.few c.requests.input.bytes c.requests.input.requests c.requests.held (sink g.K.Sink c.args.out.now) (sink g.K.Sink c.requests.out) c.requests.invariant.so_far w.0 w.1 w.2

pub line_answer-requires-clause-no_text : goal.line_answer-requires-clause-no_text
line_answer-requires-clause-no_text g c =
    let next = next_line (prepend_known c.requests.input.ahead (g.S.Source.left c.requests.source)) (prepend_known c.next.new.self.ahead (g.S.Source.left c.next.new.source)) c.requests.input.bytes c.requests.input.requests c.next.new.self.bytes c.next.new.self.requests (line_by c.next.new.self.ended c.next.new.self.line) (line_of_bytes c.line.result) c.in_ok-next.field-0 c.in_ok-next.ensures.turn c.in-Line.is c.line.ensures in
    line_alone (prepend_known c.next.new.self.ahead (g.S.Source.left c.next.new.source)) next.read (line_of_bytes c.line.result) next.is_turn

pub returns-in_err-answer-in-Line-clause-memory : goal.returns-in_err-answer-in-Line-clause-memory
returns-in_err-answer-in-Line-clause-memory g c = λ k.
    let next = next_line (prepend_known c.requests.input.ahead (g.S.Source.left c.requests.source)) (prepend_known c.next.new.self.ahead (g.S.Source.left c.next.new.source)) c.requests.input.bytes c.requests.input.requests c.next.new.self.bytes c.next.new.self.requests (line_by c.next.new.self.ended c.next.new.self.line) (line_of_bytes c.line.result) c.in_ok-next.field-0 c.in_ok-next.ensures.turn c.in-Line.is c.line.ensures in
    unanswered (g.S.Source.left c.args.source.now) (prepend_known c.requests.input.ahead (g.S.Source.left c.requests.source)) c.next.new.self.ahead (g.S.Source.left c.next.new.source) c.in_ok-next.ensures.few c.requests.input.bytes c.requests.input.requests c.requests.held (sink g.K.Sink c.args.out.now) (sink g.K.Sink c.requests.out) c.requests.invariant.so_far c.next.new.self.bytes c.next.new.self.requests (says (line_of_bytes c.line.result)) next

pub returns-in_err-send-in-Line-clause-memory : goal.returns-in_err-send-in-Line-clause-memory
returns-in_err-send-in-Line-clause-memory g c = λ k.
    let next = next_line (prepend_known c.requests.input.ahead (g.S.Source.left c.requests.source)) (prepend_known c.next.new.self.ahead (g.S.Source.left c.next.new.source)) c.requests.input.bytes c.requests.input.requests c.next.new.self.bytes c.next.new.self.requests (line_by c.next.new.self.ended c.next.new.self.line) (line_of_bytes c.line.result) c.in_ok-next.field-0 c.in_ok-next.ensures.turn c.in-Line.is c.line.ensures in
    let same = c.in_err-send-in-Line.ensures.memory (handed _ _ _ c.from_residual-in_err-send-in-Line.ensures.1 k) in
    subst (λ (o : Stream). StoppedWhole (g.S.Source.left c.args.source.now) (g.S.Source.left c.next.new.source) (sink g.K.Sink c.args.out.now) o) (ap (sink g.K.Sink) (sym same))
    (unanswered (g.S.Source.left c.args.source.now) (prepend_known c.requests.input.ahead (g.S.Source.left c.requests.source)) c.next.new.self.ahead (g.S.Source.left c.next.new.source) c.in_ok-next.ensures.few c.requests.input.bytes c.requests.input.requests c.requests.held (sink g.K.Sink c.args.out.now) (sink g.K.Sink c.requests.out) c.requests.invariant.so_far c.next.new.self.bytes c.next.new.self.requests (says (line_of_bytes c.line.result)) next)

pub returns-in_err-send-in-Line-clause-write : goal.returns-in_err-send-in-Line-clause-write
returns-in_err-send-in-Line-clause-write g c = λ k.
    let next = next_line (prepend_known c.requests.input.ahead (g.S.Source.left c.requests.source)) (prepend_known c.next.new.self.ahead (g.S.Source.left c.next.new.source)) c.requests.input.bytes c.requests.input.requests c.next.new.self.bytes c.next.new.self.requests (line_by c.next.new.self.ended c.next.new.self.line) (line_of_bytes c.line.result) c.in_ok-next.field-0 c.in_ok-next.ensures.turn c.in-Line.is c.line.ensures in
    let broke = c.in_err-send-in-Line.ensures.write (handed _ _ _ c.from_residual-in_err-send-in-Line.ensures.1 k) in
    inside (g.S.Source.left c.args.source.now) (prepend_known c.requests.input.ahead (g.S.Source.left c.requests.source)) c.next.new.self.ahead (g.S.Source.left c.next.new.source) c.requests.input.bytes c.requests.input.requests c.next.new.self.bytes c.next.new.self.requests c.requests.held c.line_answer.new.held (sink g.K.Sink c.args.out.now) (sink g.K.Sink c.requests.out) (sink g.K.Sink c.send.new.out) (says (line_of_bytes c.line.result)) c.in_ok-next.ensures.few c.requests.invariant.so_far next (c.in_ok-answer-in-Line.answer.items, c.in_ok-answer-in-Line.ensures.answer, broke)

pub returns-then-not-more-clause-finished : goal.returns-then-not-more-clause-finished
returns-then-not-more-clause-finished g c =
    let next = next_line (prepend_known c.requests.input.ahead (g.S.Source.left c.requests.source)) (prepend_known c.next.new.self.ahead (g.S.Source.left c.next.new.source)) c.requests.input.bytes c.requests.input.requests c.next.new.self.bytes c.next.new.self.requests (line_by c.next.new.self.ended c.next.new.self.line) (line_of_bytes c.line.result) c.in_ok-next.field-0 c.in_ok-next.ensures.turn c.in-Line.is c.line.ensures in
    let e = c.in_ok-answer-in-Line.ensures in
    at_quit (g.S.Source.left c.args.source.now) (prepend_known c.requests.input.ahead (g.S.Source.left c.requests.source)) (prepend_known c.next.new.self.ahead (g.S.Source.left c.next.new.source)) c.requests.input.bytes c.requests.input.requests c.next.new.self.bytes c.next.new.self.requests c.requests.held c.line_answer.new.held (sink g.K.Sink c.args.out.now) (sink g.K.Sink c.requests.out) (sink g.K.Sink c.send.new.out) (says (line_of_bytes c.line.result)) c.requests.invariant.so_far next (e.more.0 c.if-not-more.true) (c.in_ok-answer-in-Line.answer.items, e.answer, c.in_ok-send-in-Line.ensures.ok)

pub requests-preserved-else-not-more : goal.requests-preserved-else-not-more
requests-preserved-else-not-more g c =
    let next = next_line (prepend_known c.requests.input.ahead (g.S.Source.left c.requests.source)) (prepend_known c.next.new.self.ahead (g.S.Source.left c.next.new.source)) c.requests.input.bytes c.requests.input.requests c.next.new.self.bytes c.next.new.self.requests (line_by c.next.new.self.ended c.next.new.self.line) (line_of_bytes c.line.result) c.in_ok-next.field-0 c.in_ok-next.ensures.turn c.in-Line.is c.line.ensures in
    let e = c.in_ok-answer-in-Line.ensures in
    record {
      so_far = one_more (g.S.Source.left c.args.source.now) (prepend_known c.requests.input.ahead (g.S.Source.left c.requests.source)) (prepend_known c.next.new.self.ahead (g.S.Source.left c.next.new.source)) c.requests.input.bytes c.requests.input.requests c.next.new.self.bytes c.next.new.self.requests c.requests.held c.line_answer.new.held (sink g.K.Sink c.args.out.now) (sink g.K.Sink c.requests.out) (sink g.K.Sink c.send.new.out) (says (line_of_bytes c.line.result)) c.requests.invariant.so_far next (λ q. not_both c.in_ok-answer-in-Line.more c.if-not-more.false (e.more.1 q)) (c.in_ok-answer-in-Line.answer.items, e.answer, c.in_ok-send-in-Line.ensures.ok);
      reads = c.in_ok-next.ensures.ok ∙ c.requests.invariant.reads;
    }

pub returns-in_err-text_answer-in-Text-clause-memory : goal.returns-in_err-text_answer-in-Text-clause-memory
returns-in_err-text_answer-in-Text-clause-memory g c = λ k.
    let next = next_text (prepend_known c.requests.input.ahead (g.S.Source.left c.requests.source)) (prepend_known c.next.new.self.ahead (g.S.Source.left c.next.new.source)) c.requests.input.bytes c.requests.input.requests c.next.new.self.bytes c.next.new.self.requests (line_by c.next.new.self.ended c.next.new.self.line) c.in-Text.text c.in_ok-next.field-0 c.in_ok-next.ensures.turn c.in-Text.is in
    unanswered (g.S.Source.left c.args.source.now) (prepend_known c.requests.input.ahead (g.S.Source.left c.requests.source)) c.next.new.self.ahead (g.S.Source.left c.next.new.source) c.in_ok-next.ensures.few c.requests.input.bytes c.requests.input.requests c.requests.held (sink g.K.Sink c.args.out.now) (sink g.K.Sink c.requests.out) c.requests.invariant.so_far c.next.new.self.bytes c.next.new.self.requests (brings c.in-Text.text.items) next

pub returns-in_err-send-in-Text-clause-memory : goal.returns-in_err-send-in-Text-clause-memory
returns-in_err-send-in-Text-clause-memory g c = λ k.
    let next = next_text (prepend_known c.requests.input.ahead (g.S.Source.left c.requests.source)) (prepend_known c.next.new.self.ahead (g.S.Source.left c.next.new.source)) c.requests.input.bytes c.requests.input.requests c.next.new.self.bytes c.next.new.self.requests (line_by c.next.new.self.ended c.next.new.self.line) c.in-Text.text c.in_ok-next.field-0 c.in_ok-next.ensures.turn c.in-Text.is in
    let same = c.in_err-send-in-Text.ensures.memory (handed _ _ _ c.from_residual-in_err-send-in-Text.ensures.1 k) in
    subst (λ (o : Stream). StoppedWhole (g.S.Source.left c.args.source.now) (g.S.Source.left c.next.new.source) (sink g.K.Sink c.args.out.now) o) (ap (sink g.K.Sink) (sym same))
    (unanswered (g.S.Source.left c.args.source.now) (prepend_known c.requests.input.ahead (g.S.Source.left c.requests.source)) c.next.new.self.ahead (g.S.Source.left c.next.new.source) c.in_ok-next.ensures.few c.requests.input.bytes c.requests.input.requests c.requests.held (sink g.K.Sink c.args.out.now) (sink g.K.Sink c.requests.out) c.requests.invariant.so_far c.next.new.self.bytes c.next.new.self.requests (brings c.in-Text.text.items) next)

pub returns-in_err-send-in-Text-clause-write : goal.returns-in_err-send-in-Text-clause-write
returns-in_err-send-in-Text-clause-write g c = λ k.
    let next = next_text (prepend_known c.requests.input.ahead (g.S.Source.left c.requests.source)) (prepend_known c.next.new.self.ahead (g.S.Source.left c.next.new.source)) c.requests.input.bytes c.requests.input.requests c.next.new.self.bytes c.next.new.self.requests (line_by c.next.new.self.ended c.next.new.self.line) c.in-Text.text c.in_ok-next.field-0 c.in_ok-next.ensures.turn c.in-Text.is in
    let broke = c.in_err-send-in-Text.ensures.write (handed _ _ _ c.from_residual-in_err-send-in-Text.ensures.1 k) in
    inside (g.S.Source.left c.args.source.now) (prepend_known c.requests.input.ahead (g.S.Source.left c.requests.source)) c.next.new.self.ahead (g.S.Source.left c.next.new.source) c.requests.input.bytes c.requests.input.requests c.next.new.self.bytes c.next.new.self.requests c.requests.held c.text_answer.new.held (sink g.K.Sink c.args.out.now) (sink g.K.Sink c.requests.out) (sink g.K.Sink c.send-in-Text.new.out) (brings c.in-Text.text.items) c.in_ok-next.ensures.few c.requests.invariant.so_far next (c.in_ok-text_answer-in-Text.field-0.items, c.in_ok-text_answer-in-Text.ensures, broke)

pub requests-preserved : goal.requests-preserved
requests-preserved g c =
    let next = next_text (prepend_known c.requests.input.ahead (g.S.Source.left c.requests.source)) (prepend_known c.next.new.self.ahead (g.S.Source.left c.next.new.source)) c.requests.input.bytes c.requests.input.requests c.next.new.self.bytes c.next.new.self.requests (line_by c.next.new.self.ended c.next.new.self.line) c.in-Text.text c.in_ok-next.field-0 c.in_ok-next.ensures.turn c.in-Text.is in
    record {
      so_far = one_more (g.S.Source.left c.args.source.now) (prepend_known c.requests.input.ahead (g.S.Source.left c.requests.source)) (prepend_known c.next.new.self.ahead (g.S.Source.left c.next.new.source)) c.requests.input.bytes c.requests.input.requests c.next.new.self.bytes c.next.new.self.requests c.requests.held c.text_answer.new.held (sink g.K.Sink c.args.out.now) (sink g.K.Sink c.requests.out) (sink g.K.Sink c.send-in-Text.new.out) (brings c.in-Text.text.items) c.requests.invariant.so_far next (λ q. q) (c.in_ok-text_answer-in-Text.field-0.items, c.in_ok-text_answer-in-Text.ensures, c.in_ok-send-in-Text.ensures.ok);
      reads = c.in_ok-next.ensures.ok ∙ c.requests.invariant.reads;
    }

pub returns-in-End-clause-finished : goal.returns-in-End-clause-finished
returns-in-End-clause-finished g c = at_end (g.S.Source.left c.args.source.now) (prepend_known c.requests.input.ahead (g.S.Source.left c.requests.source)) c.requests.input.bytes c.requests.input.requests c.requests.held (sink g.K.Sink c.args.out.now) (sink g.K.Sink c.requests.out) c.requests.invariant.so_far (c.in_ok-next.ensures.end (ap Ok c.in-End.is)).0

pub returns-in-TooMany-clause-too_many : goal.returns-in-TooMany-clause-too_many
returns-in-TooMany-clause-too_many g c = λ _.
    let w = c.in_ok-next.ensures.too_many (ap Ok c.in-TooMany.is) in (
      past_limit (g.S.Source.left c.args.source.now) (prepend_known c.requests.input.ahead (g.S.Source.left c.requests.source)) (prepend_known c.next.new.self.ahead (g.S.Source.left c.next.new.source)) c.requests.input.bytes c.requests.input.requests c.requests.held (sink g.K.Sink c.args.out.now) (sink g.K.Sink c.requests.out) w.0 w.1 c.requests.invariant.so_far w.2 w.3 w.4,
      left_past (g.S.Source.left c.args.source.now) (prepend_known c.requests.input.ahead (g.S.Source.left c.requests.source)) c.next.new.self.ahead (g.S.Source.left c.next.new.source) c.in_ok-next.ensures.few c.requests.input.bytes c.requests.input.requests c.requests.held (sink g.K.Sink c.args.out.now) (sink g.K.Sink c.requests.out) c.requests.invariant.so_far w.0 w.1 w.2 w.3 w.4,
    )

pub returns-in-CutShort-clause-cut_short : goal.returns-in-CutShort-clause-cut_short
returns-in-CutShort-clause-cut_short g c = λ _.
    let w = c.in_ok-next.ensures.cut_short (ap Ok c.in-CutShort.is) in
    within_text (g.S.Source.left c.args.source.now) (prepend_known c.requests.input.ahead (g.S.Source.left c.requests.source)) (prepend_known c.next.new.self.ahead (g.S.Source.left c.next.new.source)) c.requests.input.bytes c.requests.input.requests c.requests.held (sink g.K.Sink c.args.out.now) (sink g.K.Sink c.requests.out) w.0 c.requests.invariant.so_far w.1 w.2 w.3 w.4 w.5

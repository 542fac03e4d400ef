use Rattle.std.proofs.Common.{◌≡◌, ◌+◌, ◌-◌, ◌<◌, ◌++◌, ◌∷◌, length, false, Ok, inl, ap, arith}
use Rattle.std.specs.Io.KnownBytes.{prepend_known}
use Rattle.jc_requests.specs.declared.turn.Turn.TheVariants as T
use Rattle.jc_requests.specs.Input.{in_line}
use Rattle.jc_requests.specs.InputViews.{line_by}
use Rattle.jc_requests.proofs.InputLemmas.{consumes_behind, consumes_past, stops_behind, length_behind, a_part, a_text_part, a_short_text, no_text_left, turn_by, room_some, room_within, room_full, room_for, IsRead, line_read, text_read, last_line_read, last_text_read}
use Rattle.jc_requests.proofs.input.Input.next.Goals as goal

pub returns-in_err-read_line-clause-failed : goal.returns-in_err-read_line-clause-failed
returns-in_err-read_line-clause-failed g c = λ _.
    let e = c.in_err-read_line.ensures.err in
    let within = room_within c.args.self.now.requests c.args.self.now.bytes c.room-room.result c.room-room.ensures in
    (e.0, in_line e.0 e.1, e.2, omega (arith, e.3, within), e.4, c.in_err-read_line.ensures.failures)

pub returns-in-Whole-clause-turn : goal.returns-in-Whole-clause-turn
returns-in-Whole-clause-turn g c =
    let old = prepend_known c.args.self.now.ahead (g.S.Source.left c.args.source.now) in
    let mid = prepend_known c.read_line.new.ahead (g.S.Source.left c.read_line.new.source) in
    let behind = c.read_behind.new.self in
    let new = prepend_known behind.ahead (g.S.Source.left c.read_behind.new.source) in
    let bytes = c.args.self.now.bytes in
    let requests = c.args.self.now.requests in
    let w = c.in_ok-read_line.ensures.whole (ap Ok c.in-Whole.is) in
    let count = w.4 in
    let some : 0 < c.room-room.result = omega (arith, count) in
    let q = room_some requests bytes c.room-room.result c.room-room.ensures some in
    let may = q.0 in
    let all = q.1 in
    turn_by c.read_behind.result (line_by behind.ended behind.line) (IsRead old new bytes behind.bytes requests behind.requests)
    (λ e.
    let h = c.read_behind.ensures.line e in
    let left : behind.bytes ≡ c.read_line.new.room = λ i. (h.1 i).bytes in
    let fewer : behind.requests ≡ requests - 1 = λ i. (h.1 i).requests in
    line_read old mid new w.0 c.read_line.new.line (line_by behind.ended behind.line) bytes behind.bytes requests behind.requests w.1 w.2 w.3 h.0
    (λ i. prepend_known (h.1 i).ahead (g.S.Source.left (h.2 i))) (λ i. line_by (h.1 i).ended (h.1 i).line) (omega (arith, count, all, left)) (omega (arith, may, fewer)))
    (λ v e.
    let h = c.read_behind.ensures.text v e in
    let left = h.4 in
    let fewer = h.5 in
    text_read old mid new w.0 c.read_line.new.line h.0 v.items bytes behind.bytes requests behind.requests w.1 w.2 w.3 h.1 h.2 h.3 (omega (arith, count, all, left)) (omega (arith, may, fewer)))

pub returns-in-Whole-clause-cut_short : goal.returns-in-Whole-clause-cut_short
returns-in-Whole-clause-cut_short g c = λ e.
    let w = c.in_ok-read_line.ensures.whole (ap Ok c.in-Whole.is) in
    let h = c.read_behind.ensures.cut_short e in
    let count = w.4 in
    let few = h.6 in
    let some : 0 < c.room-room.result = omega (arith, count) in
    let q = room_some c.args.self.now.requests c.args.self.now.bytes c.room-room.result c.room-room.ensures some in
    let all = q.1 in
    let n = length_behind w.0 h.0 in
    (w.0 ++ 10 ∷ h.0, a_short_text w.0 c.read_line.new.line h.0 h.1 w.3 w.1 h.2 h.3, consumes_behind _ _ _ w.0 h.0 w.2 h.4, h.5, omega (arith, count, few, all, n), q.0)

pub returns-in-Whole-clause-too_many : goal.returns-in-Whole-clause-too_many
returns-in-Whole-clause-too_many g c = λ e.
    let w = c.in_ok-read_line.ensures.whole (ap Ok c.in-Whole.is) in
    let h = c.read_behind.ensures.too_many e in
    let count = w.4 in
    let full = h.6 in
    let some : 0 < c.room-room.result = omega (arith, count) in
    let q = room_some c.args.self.now.requests c.args.self.now.bytes c.room-room.result c.room-room.ensures some in
    let all = q.1 in
    let n = length_behind w.0 h.0 in
    (w.0 ++ 10 ∷ h.0, h.1, a_part w.0 c.read_line.new.line h.0 h.2 w.3 w.1 h.3 h.4, consumes_past _ _ _ w.0 h.0 h.1 w.2 h.5, inl (omega (arith, count, full, all, n), q.0))

pub returns-in-Whole-clause-failed : goal.returns-in-Whole-clause-failed
returns-in-Whole-clause-failed g c = λ e.
    let w = c.in_ok-read_line.ensures.whole (ap Ok c.in-Whole.is) in
    let h = c.read_behind.ensures.failed e in
    let count = w.4 in
    let few = h.5 in
    let failures = h.7 in
    let within = room_within c.args.self.now.requests c.args.self.now.bytes c.room-room.result c.room-room.ensures in
    let n = length_behind w.0 h.0 in
    (w.0 ++ 10 ∷ h.0, a_part w.0 c.read_line.new.line h.0 h.1 w.3 w.1 h.2 h.3, h.4, omega (arith, count, few, within, n), stops_behind _ _ _ w.0 h.0 w.2 h.6, omega (arith, failures, c.in_ok-read_line.ensures.failures))

pub returns-in-Whole-clause-memory : goal.returns-in-Whole-clause-memory
returns-in-Whole-clause-memory g c = λ e.
    let w = c.in_ok-read_line.ensures.whole (ap Ok c.in-Whole.is) in
    let h = c.read_behind.ensures.memory e in
    let count = w.4 in
    let few = h.5 in
    let failures = h.6 in
    let within = room_within c.args.self.now.requests c.args.self.now.bytes c.room-room.result c.room-room.ensures in
    let n = length_behind w.0 h.0 in
    (w.0 ++ 10 ∷ h.0, a_text_part w.0 c.read_line.new.line h.0 h.1 w.3 w.1 h.2 h.3, consumes_behind _ _ _ w.0 h.0 w.2 h.4, omega (arith, count, few, within, n), omega (arith, failures, c.in_ok-read_line.ensures.failures))

pub returns-in-Last-clause-turn : goal.returns-in-Last-clause-turn
returns-in-Last-clause-turn g c =
    let old = prepend_known c.args.self.now.ahead (g.S.Source.left c.args.source.now) in
    let new = prepend_known c.read_line.new.ahead (g.S.Source.left c.read_line.new.source) in
    let bytes = c.args.self.now.bytes in
    let requests = c.args.self.now.requests in
    let w = c.in_ok-read_line.ensures.last (ap Ok c.in-Last.is) in
    let q = room_for requests bytes c.room-room.result c.read_line.new.room w.0 c.room-room.ensures w.2 w.6 in
    let may = q.0 in
    let all = q.1 in
    let count = w.6 in
    let left : c.read_line.new.room + length w.0 ≡ bytes = omega (arith, count, all) in
    let fewer : (requests - 1) + 1 ≡ requests = omega (arith, may) in
    turn_by (Ok c.at_end.result) (line_by false c.read_line.new.line) (IsRead old new bytes c.read_line.new.room requests (requests - 1))
    (λ e.
    let is : c.at_end.result ≡ T.Line = cc in
    last_line_read old new w.0 c.read_line.new.line bytes c.read_line.new.room requests (requests - 1) w.1 w.2 w.3 w.4 w.5 (c.at_end.ensures.line is) left fewer)
    (λ v e.
    let is : c.at_end.result ≡ T.Text v = cc in
    let h = c.at_end.ensures.text v is in
    last_text_read old new w.0 c.read_line.new.line v.items bytes c.read_line.new.room requests (requests - 1) w.1 w.2 w.3 w.4 w.5 h.0 h.1 left fewer)

pub returns-in-Last-clause-cut_short : goal.returns-in-Last-clause-cut_short
returns-in-Last-clause-cut_short g c = λ e.
    let w = c.in_ok-read_line.ensures.last (ap Ok c.in-Last.is) in
    let is : c.at_end.result ≡ T.CutShort = cc in
    let h = c.at_end.ensures.cut_short is in
    let count = w.6 in
    let q = room_for c.args.self.now.requests c.args.self.now.bytes c.room-room.result c.read_line.new.room w.0 c.room-room.ensures w.2 w.6 in
    let all = q.1 in
    (w.0, no_text_left w.0 c.read_line.new.line h.0 w.5 w.2 w.1 h.1 h.2, w.3, w.4, omega (arith, count, all), q.0)

pub returns-in-TooMany-clause-too_many : goal.returns-in-TooMany-clause-too_many
returns-in-TooMany-clause-too_many g c = λ _.
    let w = c.in_ok-read_line.ensures.too_many (ap Ok c.in-TooMany.is) in
    (w.0, w.1, in_line w.0 w.2, w.3, room_full c.args.self.now.requests c.args.self.now.bytes c.room-room.result w.0 c.room-room.ensures w.4)

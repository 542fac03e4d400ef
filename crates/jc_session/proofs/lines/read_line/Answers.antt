use Rattle.std.proofs.Common.{◌+◌, ◌-◌, ◌≡◌, [], ◌∷◌, Ok, ap, arith}
use Rattle.std.proofs.KnownBytes.{Consumes-trans}
use Rattle.jc_session.proofs.LineReadingLemmas.{reads_more, to_lf}
use Rattle.jc_session.proofs.lines.read_line.Goals as goal

pub returns-then-room-eq0-clause-too_many : goal.returns-then-room-eq0-clause-too_many
returns-then-room-eq0-clause-too_many g c =
    let r = c.bytes.invariant.reading in
    let byte = c.in-Some.byte in
    λ _. (r.raw, byte, r.no_lf, Consumes-trans _ _ _ r.raw (byte ∷ []) r.gone (c.in_ok-byte.ensures.some byte (ap Ok c.in-Some.is)), omega (arith, r.room_is))

pub returns-then-byte-eq10-clause-whole : goal.returns-then-byte-eq10-clause-whole
returns-then-byte-eq10-clause-whole g c =
    let r = c.bytes.invariant.reading in
    let byte = c.in-Some.byte in
    λ _. (r.raw, r.no_lf, to_lf _ _ _ r.raw byte r.gone (c.in_ok-byte.ensures.some byte (ap Ok c.in-Some.is)) c.if-byte-eq10.true, r.kept_is, omega (arith, r.room_is))

pub bytes-preserved : goal.bytes-preserved
bytes-preserved g c =
    let one : (c.bytes.room - 1) + 1 ≡ c.bytes.room = omega arith in
    record {
      reading = reads_more _ _ _ c.bytes.line c.push.new.self c.bytes.some c.args.room.now c.bytes.room (c.bytes.room - 1) c.in-Some.byte c.bytes.invariant.reading (c.in_ok-byte.ensures.some c.in-Some.byte (ap Ok c.in-Some.is)) c.if-byte-eq10.false c.push.ensures one;
      same = omega (arith, c.in_ok-byte.ensures.failures, c.bytes.invariant.same);
    }

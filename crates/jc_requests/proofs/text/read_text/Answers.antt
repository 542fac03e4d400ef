use Rattle.std.proofs.Common.{◌≡◌, ◌+◌, ◌-◌, ◌≤◌, ◌++◌, length, [], ◌∷◌, Ok, ap, sym, refl, ◌∙◌, arith}
use Rattle.std.specs.Io.KnownBytes.{prepend_known}
use Rattle.std.proofs.KnownBytes.{Consumes-trans}
use Rattle.jc_requests.specs.Input.{kept}
use Rattle.jc_requests.proofs.InputLemmas.{part_more, part_kept, part_stops}
use Rattle.jc_requests.proofs.text.read_text.Goals as goal

pub returns-in_err-byte-clause-failed : goal.returns-in_err-byte-clause-failed
returns-in_err-byte-clause-failed g c = λ _.
    let l = c.loop-byte in
    let e = c.in_err-byte.ensures.err in
    let p = part_stops (prepend_known c.args.ahead.now (g.S.Source.left c.args.source.now)) (g.S.Source.left l.source) (g.S.Source.left c.next.new.source) l.ahead c.next.new.self l.text.items l._byte c.args.size c.args.room.now l.room l.invariant.reading c.loop-byte-test.true e.0 e.1 e.2 in
    (p.0, p.1, p.2, p.3, p.4, omega (arith, c.in_err-byte.ensures.failures, l.invariant.same))

pub returns-then-room-eq0-clause-too_many : goal.returns-then-room-eq0-clause-too_many
returns-then-room-eq0-clause-too_many g c = λ _.
    let r = c.loop-byte.invariant.reading in
    let n = r.count_is in
    let m = r.room_is in
    let byte = c.in-Some.byte in
    let old = prepend_known c.args.ahead.now (g.S.Source.left c.args.source.now) in
    let now = prepend_known c.loop-byte.ahead (g.S.Source.left c.loop-byte.source) in
    let next = prepend_known c.next.new.self (g.S.Source.left c.next.new.source) in
    (r.part, byte, omega (arith, n), Consumes-trans old now next r.part (byte ∷ []) r.gone (c.in_ok-byte.ensures.some byte (ap Ok c.in-Some.is)), omega (arith, m))

pub keep-requires : goal.keep-requires
keep-requires g c =
    let le : length c.loop-byte.text.items ≤ 8388609 = part_kept _ _ c.loop-byte.text.items c.loop-byte._byte c.args.room.now c.loop-byte.room c.loop-byte.invariant.reading in
    omega (arith, c.loop-byte.text.ok.0, le)

pub returns-in_err-keep-clause-memory : goal.returns-in_err-keep-clause-memory
returns-in_err-keep-clause-memory g c = λ _.
    let l = c.loop-byte in
    let byte = c.in-Some.byte in
    let one : (l.room - 1) + 1 ≡ l.room = omega arith in
    let r = part_more _ _ _ l.text.items (kept (l.text.items ++ byte ∷ [])) l._byte (l._byte + 1) c.args.room.now l.room (l.room - 1) byte l.invariant.reading (c.in_ok-byte.ensures.some byte (ap Ok c.in-Some.is)) refl one refl in
    let n = r.count_is in
    let m = r.room_is in
    (r.part, omega (arith, n), r.gone, omega (arith, m), omega (arith, c.in_ok-byte.ensures.failures, l.invariant.same))

pub loop-byte-preserved : goal.loop-byte-preserved
loop-byte-preserved g c =
    let l = c.loop-byte in
    let byte = c.in-Some.byte in
    let one : (l.room - 1) + 1 ≡ l.room = omega arith in
    record {
      reading = part_more _ _ _ l.text.items c.keep.new.text.items l._byte (l._byte + 1) c.args.room.now l.room (l.room - 1) byte l.invariant.reading (c.in_ok-byte.ensures.some byte (ap Ok c.in-Some.is)) c.in_ok-keep.ensures one refl;
      same = omega (arith, c.in_ok-byte.ensures.failures, l.invariant.same);
      few = λ _. c.in_ok-byte.ensures.few;
    }

pub returns-clause-whole : goal.returns-clause-whole
returns-clause-whole g c = λ v e.
    let l = c.loop-byte in
    let r = l.invariant.reading in
    let n = r.count_is in
    let m = r.room_is in
    let same : l.text ≡ v = cc in
    (r.part, omega (arith, n), r.gone, ap (λ (x : _). x.items) (sym same) ∙ r.kept_is, omega (arith, n, m))

use Rattle.std.proofs.Common.{◌≡◌}
use Rattle.std.specs.Io.KnownBytes.{prepend_known}
use Rattle.jc_session.specs.LineReading.{LineRead}
use Rattle.jc_session.proofs.lines.read_line.Given as goal

abbrev pub invariant-bytes : goal.invariant-bytes
invariant-bytes g l = record {
  reading : LineRead (prepend_known l.initial.ahead (g.S.Source.left l.initial.source)) (prepend_known l.ahead (g.S.Source.left l.source)) l.line l.some l.initial.room l.room;
  same : g.S.Source.failures l.source ≡ g.S.Source.failures l.initial.source;
}

abbrev pub decreases-bytes : goal.decreases-bytes
decreases-bytes g l = l.room

use Rattle.std.proofs.Common.{◌≡◌, ◌<◌, length}
use Rattle.std.specs.Io.KnownBytes.{prepend_known}
use Rattle.jc_requests.specs.InputViews.{TextPart}
use Rattle.jc_requests.proofs.text.read_text.Given as goal

abbrev pub invariant-loop-byte : goal.invariant-loop-byte
invariant-loop-byte g l = record {
  reading : TextPart (prepend_known l.initial.ahead (g.S.Source.left l.initial.source)) (prepend_known l.ahead (g.S.Source.left l.source)) l.text.items l._byte l.initial.room l.room;
  same : g.S.Source.failures l.source ≡ g.S.Source.failures l.initial.source;
  few : length l.initial.ahead < 4096 → length l.ahead < 4096;
}

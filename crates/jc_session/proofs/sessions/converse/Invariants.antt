use Rattle.std.proofs.Common.{◌≡◌, ◌-◌, ◌≤◌, length}
use Rattle.std.specs.Io.KnownBytes.{prepend_known}
use Rattle.std.specs.List.{All}
use Rattle.jc_printer.specs.Canon.{AreNamed}
use Rattle.jc_debug.specs.Invariant.{session_of}
use Rattle.jc_session.specs.AnswerOf.{origin_in}
use Rattle.jc_session.specs.Progress.{SoFar}
use Rattle.jc_io.specs.Written.{sink}
use Rattle.jc_session.proofs.sessions.converse.Given as goal

abbrev pub invariant-lines : goal.invariant-lines
invariant-lines g l = record {
  so_far : SoFar (origin_in l.initial.debugger) (session_of l.initial.debugger) (session_of l.debugger) (g.S.Source.left l.initial.source) (prepend_known l.lines.ahead (g.S.Source.left l.source)) (sink g.K.Sink l.initial.out) (sink g.K.Sink l.out) l.lines.bytes l.lines.count;
  origin : origin_in l.debugger ≡ origin_in l.initial.debugger;
  named : All (λ e. AreNamed e (length (origin_in l.initial.debugger).names)) l.debugger.schedule;
  bytes : l.lines.bytes ≤ 67108864;
  count : l.lines.count ≤ 1000000;
  reads : g.S.Source.failures l.source ≡ g.S.Source.failures l.initial.source;
}

abbrev pub decreases-lines : goal.decreases-lines
decreases-lines g l = 1000000 - l.lines.count

use Rattle.std.proofs.Common.{◌≡◌}
use Rattle.std.specs.Io.KnownBytes.{prepend_known}
use Rattle.jc_io.specs.Written.{sink}
use Rattle.jc_serve.specs.Progress.{SoFar}
use Rattle.jc_serve.proofs.serving.converse.Given as goal

abbrev pub invariant-requests : goal.invariant-requests
invariant-requests g l = record {
  so_far : SoFar (g.S.Source.left l.initial.source) (prepend_known l.input.ahead (g.S.Source.left l.source)) l.input.bytes l.input.requests l.held (sink g.K.Sink l.initial.out) (sink g.K.Sink l.out);
  reads : g.S.Source.failures l.source ≡ g.S.Source.failures l.initial.source;
}

abbrev pub decreases-requests : goal.decreases-requests
decreases-requests g l = l.input.requests

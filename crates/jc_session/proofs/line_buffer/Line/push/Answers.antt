use Rattle.jc_session.proofs.AheadLemmas.{pushed, kept_out}
use Rattle.std.proofs.Common.{◌<◌, length, arith}
use Rattle.jc_session.proofs.line_buffer.Line.push.Goals as goal

pub returns-then-self-lt-KEPT : goal.returns-then-self-lt-KEPT
returns-then-self-lt-KEPT c =
    let within : c.self.inside.len < length c.self.inside.bytes = omega arith in
    pushed 4097 c.self.inside.bytes c.self.inside.len c.args.byte c.args.self.now c.self.view_is within c.self.told

pub returns-else-self-lt-KEPT : goal.returns-else-self-lt-KEPT
returns-else-self-lt-KEPT c = kept_out 4097 c.self.inside.bytes c.self.inside.len c.args.byte c.args.self.now c.self.view_is (omega arith) c.self.told

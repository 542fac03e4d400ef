use Rattle.std.proofs.Common.{Some, ◌≡◌, sym, ◌∙◌}
use Rattle.jc_rules.specs.Table.{op_of}
use Rattle.jc_replica.proofs.ReceivedLemmas.{whole_more, among_either}
use Rattle.jc_replica.proofs.received.whole_to.Goals as goal

pub loop-offered-preserved : goal.loop-offered-preserved
loop-offered-preserved c = λ os each among start.
    let o = c.received_or-op.result.now in
    let there : op_of o.id os ≡ Some o = among_either c.args.ops.now c.args.read.now os c.loop-offered.offered-index c.offered-item.result o c.loop-offered-test.true c.offered-item.is c.received_or-op.ensures each among in
    whole_more c.args.replica c.loop-offered.last o os c.if-op-replica.false there (sym c.greatest_of.ensures.exact ∙ c.if-greatest_of-last.false) c.if-op-last.false (c.loop-offered.invariant os each among start)

use Rattle.std.proofs.Common.{◌≡◌, true, false, sym, ◌∙◌, append-nil}
use Rattle.jc_replica.specs.Received.{is_new}
use Rattle.jc_replica.proofs.ReceivedUnionLemmas.{place_tells, filtered_more}
use Rattle.jc_replica.proofs.received.new_ones.Goals as goal
use Rattle.jc_replica.proofs.received.new_ones.Goals.{then-is_err+in_ok-copy+in_ok-push, else-is_err}

pub loop-op-preserved : goal.loop-op-preserved
loop-op-preserved c =
    let op = c.op-item.result in
    let tells : c.is_err.result ≡ is_new c.args.ops.now op = c.is_err.ensures.value ∙ place_tells op.id c.args.ops.now c.place_of.result c.place_of.ensures in
    elim c.if-is_err.branch [
      | then-is_err+in_ok-copy+in_ok-push w ↦ (
          let more = filtered_more c.args.ops.now c.args.offered.now c.loop-op.op-index op true c.loop-op-test.true c.op-item.is (sym w.if-is_err.true ∙ tells) in
          let pushed = w.in_ok-push.ensures.items in
          let copied = w.in_ok-copy.ensures in
          cc)
      | else-is_err w ↦ (
          let more = filtered_more c.args.ops.now c.args.offered.now c.loop-op.op-index op false c.loop-op-test.true c.op-item.is (sym w.if-is_err.false ∙ tells) in
          let same = append-nil c.loop-op.fresh.items in
          let fresh = w.fresh-is in
          cc)
    ]

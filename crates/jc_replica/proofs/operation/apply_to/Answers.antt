use Rattle.std.proofs.Common.{◌≤◌, ap, ◌∙◌, arith}
use Rattle.jc_rules.specs.VersionVectors.{greatest_of, truncated}
use Rattle.jc_rules.proofs.WithdrawLemmas.{lowered-inserted}
use Rattle.jc_replica.proofs.InvariantAddLemmas.{is_greatest}
use Rattle.jc_replica.proofs.operation.apply_to.Goals as goal

pub withdraw-requires-clause-greatest : goal.withdraw-requires-clause-greatest
withdraw-requires-clause-greatest g c =
    let i = c.args.op.now.id in
    ap (greatest_of i.replica) c.in_ok-insert.ensures.exact ∙ (is_greatest i c.args.ops.now c.requires.counters c.requires.above).greatest

pub returns-in-Err-clause-err_ops : goal.returns-in-Err-clause-err_ops
returns-in-Err-clause-err_ops g c =
    let i = c.args.op.now.id in
    let before = c.greatest_of-before.result in
    let at_most : before ≤ i.counter = omega (arith, c.greatest_of-before.ensures.exact, c.requires.above) in
    c.withdraw.ensures.exact ∙ ap (truncated i.replica before) c.in_ok-insert.ensures.exact ∙ lowered-inserted i c.args.ops.now before c.requires.counters c.greatest_of-before.ensures.exact at_most

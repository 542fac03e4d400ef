use Rattle.std.proofs.Common.{sym}
use Rattle.jc_meaning.proofs.InsertsAfterLemmas.{twice_there, distinct_on}
use Rattle.jc_meaning.proofs.tree.have_distinct_ids.Goals as goal

pub returns-then-has_op : goal.returns-then-has_op
returns-then-has_op c =
    (λ t. cc, λ d. absurd (twice_there c.args.ops.now c.loop-op.rest.now c.in-Some.later.now c.in-Some.op.now c.loop-op.invariant c.in-Some.ensures.cases.0 (sym c.if-has_op.ensures) d))

pub loop-op-preserved : goal.loop-op-preserved
loop-op-preserved c = distinct_on c.args.ops.now c.loop-op.rest.now c.in-Some.later.now c.in-Some.op.now c.loop-op.invariant c.in-Some.ensures.cases.0 (sym c.if-has_op.ensures)

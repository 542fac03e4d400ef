use Rattle.std.proofs.Common.{◌≡◌, ◌<◌, length, arith, sym, ◌∙◌, ap}
use Rattle.jc_rules.specs.Ids.{has_id}
use Rattle.jc_meaning.proofs.InsertsAfterLemmas.{all_named, one_named, not_named}
use Rattle.jc_meaning.proofs.ordering.after.Goals as goal
use Rattle.jc_meaning.proofs.ordering.after.Goals.{then-names+in_ok-insert_id, else-names}

pub loop-op-preserved : goal.loop-op-preserved
loop-op-preserved c =
    let within : c.loop-op.op-index < length c.args.ops.now = omega arith in
    elim c.if-names.branch [
      | then-names+in_ok-insert_id w ↦ rw w.ids-is (record {
        rises = w.in_ok-insert_id.ensures.rises;
        has = λ i. ap (has_id i) w.in_ok-insert_id.ensures.ok ∙ one_named c.args.ops.now c.args.at.now c.args.key.now c.loop-op.op-index c.loop-op.ids.items c.loop-op.invariant.has c.op-item.result within c.op-item.is (sym w.if-names.ensures) i;
      })
      | else-names w ↦ rw w.ids-is (record {
        rises = c.loop-op.invariant.rises;
        has = not_named c.args.ops.now c.args.at.now c.args.key.now c.loop-op.op-index c.loop-op.ids.items c.loop-op.invariant.has c.op-item.result within c.op-item.is (sym w.if-names.ensures);
      })
    ]

pub returns-clause-ids : goal.returns-clause-ids
returns-clause-ids c =
    let whole : c.loop-op.op-index ≡ length c.args.ops.now = omega arith in
    all_named c.args.ops.now c.args.at.now c.args.key.now c.loop-op.op-index c.loop-op.ids.items c.loop-op.invariant.has whole c.requires

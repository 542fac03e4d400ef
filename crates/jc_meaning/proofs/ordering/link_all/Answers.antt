use Rattle.std.proofs.Common.{◌<◌, length, arith, sym}
use Rattle.jc_meaning.proofs.GrowthAllLemmas.{op_place, same_then, list_linked, none_linked, list_is_new}
use Rattle.jc_meaning.proofs.ordering.link_all.Goals as goal
use Rattle.jc_meaning.proofs.ordering.link_all.Goals.{then-is_insert+in_ok-link_list, else-is_insert}

pub link_list-requires-clause-there : goal.link_list-requires-clause-there
link_list-requires-clause-there g c =
    let within : c.loop-op.op-index < length c.args.ops.now = omega arith in
    op_place c.args.ops.now c.loop-op.op-index c.op-item.result c.as_slice.result.now _ _ within c.op-item.is c.as_slice.ensures.keys c.as_slice.ensures.path c.requires.made c.loop-op.invariant.same

pub link_list-requires-clause-new : goal.link_list-requires-clause-new
link_list-requires-clause-new g c =
    let within : c.loop-op.op-index < length c.args.ops.now = omega arith in
    list_is_new c.args.ops.now c.loop-op.op-index c.as_slice.result.now (g.S.TreeStore.tree c.loop-op.store).now (op_place c.args.ops.now c.loop-op.op-index c.op-item.result c.as_slice.result.now _ _ within c.op-item.is c.as_slice.ensures.keys c.as_slice.ensures.path c.requires.made c.loop-op.invariant.same) c.loop-op.invariant.linked

pub loop-op-preserved : goal.loop-op-preserved
loop-op-preserved g c =
    let within : c.loop-op.op-index < length c.args.ops.now = omega arith in
    elim c.if-is_insert.branch [
      | then-is_insert+in_ok-link_list w ↦ rw w.store-is (record {
        linked = list_linked c.args.ops.now c.loop-op.op-index c.op-item.result within c.op-item.is w.as_slice.result.now _ _ w.as_slice.ensures.keys (sym w.if-is_insert.ensures) c.loop-op.invariant.linked w.in_ok-link_list.ensures;
        same = same_then c.args.ops.now w.as_slice.result.now _ _ _ c.loop-op.invariant.same w.in_ok-link_list.ensures;
      })
      | else-is_insert w ↦ rw w.store-is (record {
        linked = none_linked c.args.ops.now c.loop-op.op-index c.op-item.result within c.op-item.is _ (sym w.if-is_insert.ensures) c.loop-op.invariant.linked;
        same = c.loop-op.invariant.same;
      })
    ]

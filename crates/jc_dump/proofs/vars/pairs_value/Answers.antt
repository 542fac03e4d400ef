use Rattle.std.proofs.Common.{rules, ◌≡◌, arith}
use Rattle.serde_json.specs.View.{view}
use Rattle.jc_dump.specs.Dump.{pair_data}
use Rattle.jc_dump.proofs.DumpListsLemmas.{data_more}
use Rattle.jc_dump.proofs.vars.pairs_value.Goals as goal

pub loop-id-preserved : goal.loop-id-preserved
loop-id-preserved c =
    let pair = c.loop-id-item.result in
    let shown : view c.in_ok-pair_value.field-0 ≡ pair_data c.args.names.now pair = search rules in
    rw c.in_ok-push.ensures.items (data_more (λ e. pair_data c.args.names.now e) c.loop-id.values.items c.in_ok-pair_value.field-0 c.args.pairs.now c.loop-id.id-index pair pair (omega arith) c.loop-id-item.is c.loop-id.invariant shown)

use Rattle.std.proofs.Common.{ap}
use Rattle.jc_meaning.specs.Effects.{value_in}
use Rattle.jc_meaning.proofs.EffectsTestsLemmas.{on_ok}
use Rattle.jc_meaning.proofs.GrowthPathLemmas.{puts_brings, deletes_brings}
use Rattle.jc_meaning.proofs.building.add.Goals as goal

pub returns-in-Assign : goal.returns-in-Assign
returns-in-Assign g c =
    on_ok c.put.result _ _ (λ x. puts_brings c.args.ops.now c.args.op.now c.in_ok-key.key c.in-Assign.value _ _ _ c.in_ok-key.ensures (ap value_in c.in-Assign.is) c.in_ok-enter.ensures.grows x) c.put.ensures

pub returns-in-Insert : goal.returns-in-Insert
returns-in-Insert g c =
    on_ok c.put-in-Insert.result _ _ (λ x. puts_brings c.args.ops.now c.args.op.now c.in_ok-key.key c.in-Insert.value _ _ _ c.in_ok-key.ensures (ap value_in c.in-Insert.is) c.in_ok-enter.ensures.grows x) c.put-in-Insert.ensures

pub returns : goal.returns
returns g c = deletes_brings c.args.ops.now c.args.op.now _ _ c.in-Delete.is c.in_ok-enter.ensures.grows

use Rattle.std.proofs.Common.{◌≡◌, ◌&&◌, take}
use Rattle.jc_rules.specs.declared.id.Id.{Id}
use Rattle.jc_rules.specs.Order.{same_id}
use Rattle.jc_rules.specs.Ids.{AreRising, has_id}
use Rattle.jc_meaning.specs.Meaning.{some_op, names}
use Rattle.jc_meaning.proofs.ordering.after.Given as goal

abbrev pub invariant-loop-op : goal.invariant-loop-op
invariant-loop-op l = record {
  rises : AreRising l.ids.items;
  has : (i : Id) → has_id i l.ids.items ≡ some_op (λ o. names l.at l.key o && same_id i o.id) (take l.op-index l.ops);
}

use Rattle.std.proofs.Common.{◌≡◌, take}
use Rattle.jc_rules.specs.Ids.{AreRising, union}
use Rattle.jc_clear.proofs.sets.united.Given as goal

abbrev pub invariant-loop-id : goal.invariant-loop-id
invariant-loop-id l = record {
  union : l.all.items ≡ union l.fn.ids.items (take l.id-index l.more);
  rises : AreRising l.all.items;
}

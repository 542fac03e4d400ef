use Rattle.std.proofs.Common.{◌≡◌, ◌||◌, ◌&&◌, not, take}
use Rattle.jc_rules.specs.declared.id.Id.{Id}
use Rattle.jc_rules.specs.Ids.{AreRising, has_id}
use Rattle.jc_replica.specs.Operations.{identifiers}
use Rattle.jc_journal.proofs.stuck.add_missing.Given as goal

abbrev pub invariant-loop-op : goal.invariant-loop-op
invariant-loop-op l =
    AreRising l.ids.items
    × ((k : Id) → has_id k l.ids.items ≡ has_id k l.initial.ids.items || (has_id k (identifiers (take l.op-index l.made)) && (has_id k l.deps && not (has_id k l.applied))))

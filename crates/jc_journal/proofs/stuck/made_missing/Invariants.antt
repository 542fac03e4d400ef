use Rattle.std.proofs.Common.{◌≡◌, ◌&&◌, not, take}
use Rattle.jc_rules.specs.declared.id.Id.{Id}
use Rattle.jc_rules.specs.Ids.{AreRising, has_id}
use Rattle.jc_journal.specs.Parts.{made_ids}
use Rattle.jc_journal.proofs.stuck.made_missing.Given as goal

-- those that the replicas below p made
abbrev pub invariant-loop-p : goal.invariant-loop-p
invariant-loop-p l =
    AreRising l.ids.items
    × ((k : Id) → has_id k l.ids.items ≡ has_id k (made_ids (take l.p l.net.history.now.states)) && (has_id k l.deps && not (has_id k l.applied)))

use Rattle.std.proofs.Common.{◌&&◌, take}
use Rattle.jc_meaning.specs.Growth.{Grows, no_value, tag_on, key_on, stays}
use Rattle.jc_meaning.proofs.building.enter.Given as goal

abbrev pub invariant-loop-depth : goal.invariant-loop-depth
invariant-loop-depth g l =
    Grows (g.S.TreeStore.tree l.initial.store).now (g.S.TreeStore.tree l.store).now (tag_on (take l.depth l.path))
    (λ P k i. key_on (take l.depth l.path) P k && stays l.ops l.op P k i) no_value

use Rattle.std.proofs.Common.{not, ◌&&◌, cond, None, take}
use Rattle.jc_rules.specs.Table.{op_of}
use Rattle.jc_meaning.specs.Effects.{touches}
use Rattle.jc_meaning.specs.Meaning.{goes, holds_of, is_cleared, written_of}
use Rattle.jc_meaning.specs.Growth.{Grows, is_gone}
use Rattle.jc_meaning.proofs.building.fill.Given as goal

abbrev pub invariant-loop-op : goal.invariant-loop-op
invariant-loop-op g l =
    Grows (g.S.TreeStore.tree l.initial.store).now (g.S.TreeStore.tree l.store).now (goes (take l.op-index l.ops))
    (λ P k i. holds_of (λ o. touches o P k) (op_of i (take l.op-index l.ops)) && not (is_cleared l.ops P k i))
    (λ P k i. cond (is_gone l.ops P k i) None (written_of (op_of i (take l.op-index l.ops)) P k))

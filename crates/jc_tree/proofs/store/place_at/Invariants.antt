use Rattle.std.proofs.Common.{take}
use Rattle.jc_tree.proofs.store.place_at.Given as goal

abbrev pub invariant-loop-key : goal.invariant-loop-key
invariant-loop-key g l = g.S.TreeStore.names l.store l.place (take l.key-index l.at)

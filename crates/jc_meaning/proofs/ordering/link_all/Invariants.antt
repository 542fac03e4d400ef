use Rattle.std.proofs.Common.{take}
use Rattle.jc_meaning.specs.Listing.{AreLinked, IsSameButLinks}
use Rattle.jc_meaning.proofs.ordering.link_all.Given as goal

abbrev pub invariant-loop-op : goal.invariant-loop-op
invariant-loop-op g l = record {
  linked : AreLinked (take l.op-index l.ops) l.ops (g.S.TreeStore.tree l.store).now;
  same : IsSameButLinks (g.S.TreeStore.tree l.initial.store).now (g.S.TreeStore.tree l.store).now;
}

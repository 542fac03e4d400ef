use Rattle.std.proofs.Common.{◌≡◌, take}
use Rattle.jc_rules.specs.declared.key.Key.TheVariants.{Head}
use Rattle.jc_tree.specs.Tree.{HasPlace}
use Rattle.jc_tree.proofs.LinkedLemmas.{last_of}
use Rattle.jc_meaning.specs.Growth.{LinksIds}
use Rattle.jc_meaning.proofs.ordering.link.Given as goal

abbrev pub invariant-loop-id : goal.invariant-loop-id
invariant-loop-id g l = record {
  linked : LinksIds l.at (take l.id-index l.ids) (g.S.TreeStore.tree l.initial.store).now (g.S.TreeStore.tree l.store).now;
  last : l.last ≡ last_of Head (take l.id-index l.ids);
  there : HasPlace l.at (g.S.TreeStore.tree l.store);
}

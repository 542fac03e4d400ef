use Rattle.std.proofs.Common.{◌≢◌, [], None}
use Rattle.jc_rules.specs.Context.{Context}
use Rattle.jc_rules.specs.ContextsAt.{node_at}
use Rattle.jc_tree.proofs.ChainedLemmas.{chained_child}
use Rattle.jc_store_tests.proofs.by_hand.make_map.Goals as goal

at_top : (c : Context) → node_at [] c ≢ None
at_top c e = let no : ⊥ = cc in no

pub returns : goal.returns
returns g c =
    chained_child [] c.args.map.now (g.S.TreeStore.tree c.args.store.now) (g.S.TreeStore.tree c.make_child.new.self) (at_top (g.S.TreeStore.tree c.args.store.now).now) c.in_ok-make_child.ensures.ok c.requires

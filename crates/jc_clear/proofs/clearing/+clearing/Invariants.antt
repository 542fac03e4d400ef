use Rattle.std.proofs.Common.{◌+◌, ◌*◌, length, drop}
use Rattle.jc_rules.specs.Entries.{keys_of}
use Rattle.jc_rules.specs.Context.{links}
use Rattle.jc_tree.specs.Tree.{NamesStay, here}
use Rattle.jc_tree.specs.Nested.{nested}
use Rattle.jc_tree.specs.CanGoBack.{TreeCanGoBack}
use Rattle.jc_tree.proofs.ChainedLeadsLemmas.{steps}
use Rattle.jc_clear.proofs.ClearListLemmas.{Along}
use Rattle.jc_clear.specs.Turns.{ThroughKeys}
use Rattle.jc_clear.proofs.clearing.+clearing.Given as goal

abbrev pub decreases-elem_in : goal.decreases-elem_in
decreases-elem_in g l = 4 * nested (here (g.S.TreeStore.path l.store.now l.key.place) (g.S.TreeStore.tree l.store.now)) + 2

abbrev pub decreases-any_in : goal.decreases-any_in
decreases-any_in g l = 4 * nested (here (g.S.TreeStore.path l.store.now l.key.place) (g.S.TreeStore.tree l.store.now)) + 1

abbrev pub decreases-clear_map : goal.decreases-clear_map
decreases-clear_map g l = 4 * nested (here (g.S.TreeStore.path l.store.now l.key.place) (g.S.TreeStore.tree l.store.now))

abbrev pub decreases-map_in : goal.decreases-map_in
decreases-map_in g l = 4 * nested (here (g.S.TreeStore.path l.store.now l.place) (g.S.TreeStore.tree l.store.now)) + 3

abbrev pub decreases-clear_list : goal.decreases-clear_list
decreases-clear_list g l = 4 * nested (here (g.S.TreeStore.path l.store.now l.key.place) (g.S.TreeStore.tree l.store.now))

abbrev pub decreases-list_in : goal.decreases-list_in
decreases-list_in g l = 4 * nested (here (g.S.TreeStore.path l.store.now l.place) (g.S.TreeStore.tree l.store.now)) + 3

abbrev pub invariant-map_in-loop-key : goal.invariant-map_in-loop-key
invariant-map_in-loop-key g l = record {
  through : ThroughKeys l.deps (g.S.TreeStore.path l.fn.store l.place) (g.S.TreeStore.tree l.fn.store) l.fn.trace (g.S.TreeStore.tree l.store) (keys_of (drop l.key-index l.key-items)) l.ids.items l.trace;
  names_stay : NamesStay (g.S.TreeStore.names l.fn.store) (g.S.TreeStore.names l.store);
  kept : TreeCanGoBack (g.S.TreeStore.tree l.fn.store) (g.S.TreeStore.tree l.store) l.fn.trace l.trace;
}

abbrev pub invariant-list_in-loop-key : goal.invariant-list_in-loop-key
invariant-list_in-loop-key g l = record {
  along : Along l.deps (g.S.TreeStore.path l.initial.store l.place) (g.S.TreeStore.tree l.initial.store) l.initial.trace (g.S.TreeStore.tree l.store) l.key l.ids.items l.trace;
  names_stay : NamesStay (g.S.TreeStore.names l.initial.store) (g.S.TreeStore.names l.store);
  kept : TreeCanGoBack (g.S.TreeStore.tree l.initial.store) (g.S.TreeStore.tree l.store) l.initial.trace l.trace;
}

abbrev pub decreases-list_in-loop-key : goal.decreases-list_in-loop-key
decreases-list_in-loop-key g l = steps l.key (length (links (here (g.S.TreeStore.path l.initial.store l.place) (g.S.TreeStore.tree l.initial.store)))) (here (g.S.TreeStore.path l.initial.store l.place) (g.S.TreeStore.tree l.initial.store))

use Rattle.std.proofs.Common.{List, [], ◌++◌, drop, filter}
use Rattle.jc_rules.specs.declared.id.Id.{Id}
use Rattle.jc_rules.specs.declared.key.Tagged.{Tagged}
use Rattle.jc_rules.specs.Entries.{keys_of}
use Rattle.jc_tree.specs.CanGoBack.{TreeCanGoBack}
use Rattle.jc_tree.specs.Tree.{here, keys_lent}
use Rattle.jc_clear.specs.ContentKeys.{has_content}
use Rattle.jc_clear.specs.Turns.{ThroughKeys}
use Rattle.jc_clear.proofs.clearing.clear_first.Given as goal

abbrev pub invariant-loop-lent : goal.invariant-loop-lent
invariant-loop-lent g l = record {
  through : (at : List Tagged) → g.S.TreeStore.names l.store l.place at → (deps : List Id) → ThroughKeys deps at (g.S.TreeStore.tree l.store) l.fn.trace (g.S.TreeStore.tree l.store) (keys_of l.left.items ++ filter (λ k. has_content (here at (g.S.TreeStore.tree l.store)) k) (keys_lent (drop l.lent-index l.lent-items))) [] l.trace;
  kept : TreeCanGoBack (g.S.TreeStore.tree l.store) (g.S.TreeStore.tree l.store) l.fn.trace l.trace;
}

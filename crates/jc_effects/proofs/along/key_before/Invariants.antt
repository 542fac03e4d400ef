use Rattle.std.proofs.Common.{Some, length}
use Rattle.jc_rules.specs.Context.{links}
use Rattle.jc_tree.proofs.ChainedLeadsLemmas.{steps}
use Rattle.jc_meaning.specs.Seen.{seen}
use Rattle.jc_effects.proofs.PartsInsertLemmas.{WalkedTo, only_links}
use Rattle.jc_effects.proofs.along.key_before.Given as goal

abbrev pub invariant-loop-id : goal.invariant-loop-id
invariant-loop-id g l = WalkedTo l.fn.change.op.now (seen l.fn.change.op.now.cursor.path (g.S.TreeStore.tree l.fn.change.old.now).now) l.key

abbrev pub decreases-loop-id : goal.decreases-loop-id
decreases-loop-id g l =
    let c = seen l.fn.change.op.now.cursor.path (g.S.TreeStore.tree l.fn.change.old.now).now in
    steps (Some l.key) (length (links c)) (only_links c)

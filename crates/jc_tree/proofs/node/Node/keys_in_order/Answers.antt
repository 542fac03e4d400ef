use Rattle.std.proofs.Common.{option_copied, sym}
use Rattle.jc_tree.specs.Tree.{all_keys}
use Rattle.jc_tree.proofs.WalksLemmas.{IsNext, next_is}
use Rattle.jc_tree.proofs.LentLemmas.{IsLentTo, walk_begins, walk_goes_on, walk_ends}
use Rattle.jc_tree.proofs.node.Node.keys_in_order.Goals as goal

pub loop-key-init : goal.loop-key-init
loop-key-init c = walk_begins (all_keys c.args.self.now) _ c.new-lent.ensures.items

pub loop-key-smaller : goal.loop-key-smaller
loop-key-smaller c =
    let n : IsNext (option_copied c.loop-key.last) (all_keys c.args.self.now) c.in-Some.key.now = next_is (option_copied c.loop-key.last) (all_keys c.args.self.now) c.in-Some.key.now (sym c.in-Some.ensures) in
    n.fewer

pub loop-key-preserved : goal.loop-key-preserved
loop-key-preserved c =
    walk_goes_on (all_keys c.args.self.now) (option_copied c.loop-key.last) c.loop-key.lent.items c.push.new.self.items c.in-Some.key _ (next_is (option_copied c.loop-key.last) (all_keys c.args.self.now) c.in-Some.key.now (sym c.in-Some.ensures)) c.in_ok-push.ensures.items c.loop-key.invariant

pub returns-clause-rising : goal.returns-clause-rising
returns-clause-rising c =
    let i : IsLentTo (option_copied c.loop-key.last) (all_keys c.args.self.now) c.loop-key.lent.items = c.loop-key.invariant in
    i.rise

pub returns-clause-all : goal.returns-clause-all
returns-clause-all c = walk_ends (all_keys c.args.self.now) (option_copied c.loop-key.last) c.loop-key.lent.items (sym c.in_default.ensures) c.loop-key.invariant

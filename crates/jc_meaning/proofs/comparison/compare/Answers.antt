use Rattle.jc_rules.specs.Ids.{AreIn}
use Rattle.jc_network.specs.Laws.{ops_held}
use Rattle.jc_network.specs.Steps.{HasReplica}
use Rattle.jc_meaning.proofs.ComparisonLemmas.{stands_one, stands_other, are_same, none_missing}
use Rattle.jc_meaning.proofs.comparison.compare.Goals as goal

pub returns-clause-compared : goal.returns-clause-compared
returns-clause-compared c =
    let N = c.args.net.now.history.now.states in
    let L = c.in-Some.left.now in
    let R = c.in-Some-replica.right.now in
    let r = c.steps-steps.ensures.reached in
    let one : HasReplica N c.args.p L = c.in-Some.ensures.some in
    let other : HasReplica N c.args.q R = c.in-Some-replica.ensures.some in
    let f : AreIn one.at.ops other.at.ops = (c.is_subset.ensures.stands (ops_held N) one.at.ops other.at.ops (stands_one N r c.args.p c.args.q L R one other c.ops.result.now c.ops.ensures) (stands_other N r c.args.p c.args.q L R one other c.ops-2.result.now c.ops-2.ensures)).0 c.if-not-is_subset.false in
    let g : AreIn other.at.ops one.at.ops = (c.is_subset-2.ensures.stands (ops_held N) other.at.ops one.at.ops (stands_other N r c.args.p c.args.q L R one other c.ops-3.result.now c.ops-3.ensures) (stands_one N r c.args.p c.args.q L R one other c.ops-4.result.now c.ops-4.ensures)).0 c.if-not-is_subset-2.false in
    are_same N r c.args.p c.args.q L R one other c.in_ok-same_tree.same_tree f g _ _ c.tree.ensures c.tree-2.ensures c.in_ok-same_tree.ensures

pub returns-clause-missing : goal.returns-clause-missing
returns-clause-missing c =
    let N = c.args.net.now.history.now.states in
    let L = c.in-Some.left.now in
    let R = c.in-Some-replica.right.now in
    let r = c.steps-steps.ensures.reached in
    let one : HasReplica N c.args.p L = c.in-Some.ensures.some in
    let other : HasReplica N c.args.q R = c.in-Some-replica.ensures.some in
    (λ e. cc, λ h. absurd (none_missing N r c.args.p c.args.q L R one other h))

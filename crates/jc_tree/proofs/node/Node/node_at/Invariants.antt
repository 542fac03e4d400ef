use Rattle.std.proofs.Common.{◌≡◌, drop}
use Rattle.jc_rules.specs.ContextsAt.{node_at}
use Rattle.jc_tree.proofs.node.Node.node_at.Given as goal

abbrev pub invariant-loop-key : goal.invariant-loop-key
invariant-loop-key l = node_at (drop l.key-index l.at) l.node ≡ node_at l.at l.self

use Rattle.jc_tree.proofs.FitNodesLemmas.{number_found, none_apart, keys_numbered}
use Rattle.jc_tree.proofs.arena_node.number_in.Goals as goal

pub returns-then-is_empty-clause-number : goal.returns-then-is_empty-clause-number
returns-then-is_empty-clause-number c = none_apart c.args.key.now c.args.keys.now.keys c.args.blocks.now (c.is_empty.ensures c.if-is_empty.true)

pub returns-then-is_empty-clause-distinct : goal.returns-then-is_empty-clause-distinct
returns-then-is_empty-clause-distinct c = keys_numbered c.args.keys.now c.are_numbered.ensures

pub returns-clause-number : goal.returns-clause-number
returns-clause-number c = number_found c.args.key.now c.args.keys.now c.number.result c.args.blocks.now c.number.ensures.numbered c.number.ensures.found

pub returns-clause-distinct : goal.returns-clause-distinct
returns-clause-distinct c = keys_numbered c.args.keys.now c.number.ensures.numbered

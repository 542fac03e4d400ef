use Rattle.jc_tree.proofs.arena_node.grow.Goals as goal

pub returns-then-not-grow_once : goal.returns-then-not-grow_once
returns-then-not-grow_once c = λ fit. c.grow_once.ensures (c.loop-step.invariant fit)

pub loop-step-preserved : goal.loop-step-preserved
loop-step-preserved c = λ fit. c.grow_once.ensures (c.loop-step.invariant fit)

use Rattle.jc_memory_tests.proofs.memory.+grow_stack.Given as goal

abbrev pub decreases-grow_stack : goal.decreases-grow_stack
decreases-grow_stack l = l.calls

use Rattle.jc_store_tests.proofs.twins.Twins.+is_same_below.Given as goal

abbrev pub decreases-is_same_below : goal.decreases-is_same_below
decreases-is_same_below l = l.levels

use Rattle.std.proofs.Common.{◌≡◌, take}
use Rattle.jc_rules.specs.Runs.{rows_of_all}
use Rattle.jc_rules.proofs.runs.rows_of.Given as goal

abbrev pub invariant-loop-run : goal.invariant-loop-run
invariant-loop-run l = l.rows.items ≡ rows_of_all (take l.run-index l.runs)

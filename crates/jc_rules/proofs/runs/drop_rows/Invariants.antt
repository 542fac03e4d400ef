use Rattle.std.proofs.Common.{length}
use Rattle.jc_rules.specs.Runs.{rows_of_all}
use Rattle.jc_rules.proofs.RunsLemmas.{AreDropped}
use Rattle.jc_rules.proofs.runs.drop_rows.Given as goal

abbrev pub invariant-loop-last : goal.invariant-loop-last
invariant-loop-last l = AreDropped (rows_of_all l.initial.runs.items) (rows_of_all l.runs.items) l.count l.left

abbrev pub decreases-loop-last : goal.decreases-loop-last
decreases-loop-last l = length l.runs.items

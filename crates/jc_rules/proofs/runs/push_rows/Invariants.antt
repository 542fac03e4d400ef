use Rattle.std.proofs.Common.{◌≡◌, ◌++◌}
use Rattle.jc_rules.specs.Runs.{deeper}
use Rattle.jc_rules.proofs.runs.push_rows.Given as goal

abbrev pub invariant-loop-i : goal.invariant-loop-i
invariant-loop-i l = l.rows.items ≡ l.initial.rows.items ++ deeper l.run.rule l.run.depth l.i

use Rattle.std.proofs.Common.{flat_map, take}
use Rattle.jc_rules.specs.Runs.{rows_of_all}
use Rattle.jc_json.specs.Gains.{Gains}
use Rattle.jc_journal.specs.Parts.{row_tokens}
use Rattle.jc_journal.proofs.event.write_rows.Given as goal

abbrev pub invariant-loop-run : goal.invariant-loop-run
invariant-loop-run l = Gains l.initial.out l.out (flat_map row_tokens (rows_of_all (take l.run-index l.runs)))

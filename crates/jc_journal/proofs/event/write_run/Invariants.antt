use Rattle.std.proofs.Common.{flat_map}
use Rattle.jc_rules.specs.Runs.{deeper}
use Rattle.jc_json.specs.Gains.{Gains}
use Rattle.jc_journal.specs.Parts.{row_tokens}
use Rattle.jc_journal.proofs.event.write_run.Given as goal

abbrev pub invariant-loop-i : goal.invariant-loop-i
invariant-loop-i l = Gains l.initial.out l.out (flat_map row_tokens (deeper l.run.rule l.run.depth l.i))

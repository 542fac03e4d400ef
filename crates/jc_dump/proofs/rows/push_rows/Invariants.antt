use Rattle.std.proofs.Common.{◌≡◌, ◌++◌, take, IsUtf8}
use Rattle.jc_rules.specs.Runs.{rows_of_all}
use Rattle.jc_dump.specs.Lines.{trace_text}
use Rattle.jc_dump.specs.Rows.{IsRowLine}
use Rattle.jc_dump.proofs.rows.push_rows.Given as goal

-- the lines of the runs before the index were appended
abbrev pub invariant-loop-run : goal.invariant-loop-run
invariant-loop-run l = record {
  line : IsRowLine l.line;
  lines : l.out.items ≡ l.initial.out.items ++ trace_text (rows_of_all (take l.run-index l.runs));
  utf8 : IsUtf8 l.initial.out.items → IsUtf8 l.out.items;
}

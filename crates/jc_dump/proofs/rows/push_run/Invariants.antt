use Rattle.std.proofs.Common.{◌≡◌, ◌++◌, IsUtf8}
use Rattle.jc_rules.specs.Runs.{deeper}
use Rattle.jc_dump.specs.Lines.{trace_text}
use Rattle.jc_dump.specs.Rows.{IsRowLine}
use Rattle.jc_dump.proofs.rows.push_run.Given as goal

-- the lines of the first rows were appended
abbrev pub invariant-loop-i : goal.invariant-loop-i
invariant-loop-i l = record {
  line : IsRowLine l.line;
  lines : l.out.items ≡ l.initial.out.items ++ trace_text (deeper l.run.rule l.run.depth l.i);
  utf8 : IsUtf8 l.initial.out.items → IsUtf8 l.out.items;
}

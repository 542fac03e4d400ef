-- The line of a row in memory, for the contracts of rows.rt.
use Rattle.std.specs.Prelude.{◌≡◌, ◌+◌, ◌^◌, ◌<◌, length, decimal, IsUtf8}
use Rattle.jc_rules.specs.RuleNames.{rule_name}
use Rattle.jc_dump.specs.declared.rows.RowLine.{RowLine}
use Rattle.jc_dump.specs.Lines.{row_text}

-- The bytes are the line of the rule at the depth, whose last digit is at this offset. A rule's name is a text.
pub record IsRowLine (line : RowLine) : Type 0 where
  pub text : line.bytes.items ≡ row_text (line.rule, line.depth)
  pub digits : line.last_digit + 1 ≡ length (decimal line.depth)
  pub small : line.depth < 2 ^ 64
  pub name : IsUtf8 (rule_name line.rule)

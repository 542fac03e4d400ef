use Rattle.std.proofs.Common.{sym, ◌∙◌}
use Rattle.jc_parser.specs.ExpressionReader.{is_selector}
use Rattle.jc_parser.proofs.FirstTokensLemmas.{no_selector}
use Rattle.jc_parser.proofs.cursor.Cursor.begins_selector.Goals as goal

pub returns-then-not-begins : goal.returns-then-not-begins
returns-then-not-begins c = sym (no_selector c.args.self.now (sym c.begins.ensures ∙ c.if-not-begins.true))

pub returns : goal.returns
returns c = c.is_selector.ensures ∙ sym (c.spelling.ensures.name (sym c.begins.ensures ∙ c.if-not-begins.false) is_selector)

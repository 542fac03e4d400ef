use Rattle.std.proofs.Common.{sym, ◌∙◌}
use Rattle.jc_parser.specs.ReaderState.{is_number_symbol}
use Rattle.jc_parser.proofs.FirstTokensLemmas.{no_number}
use Rattle.jc_parser.proofs.cursor.Cursor.begins_number.Goals as goal

pub returns-then-not-begins : goal.returns-then-not-begins
returns-then-not-begins c = sym (no_number c.args.digits.now c.args.self.now (sym c.begins.ensures ∙ c.if-not-begins.true))

pub returns : goal.returns
returns c = c.eq.ensures ∙ sym (c.spelling.ensures.number (sym c.begins.ensures ∙ c.if-not-begins.false) (is_number_symbol c.args.digits.now))

use Rattle.std.proofs.Common.{sym, ◌∙◌}
use Rattle.jc_parser.specs.ReaderState.{is_word}
use Rattle.jc_parser.proofs.FirstTokensLemmas.{no_word}
use Rattle.jc_parser.proofs.cursor.Cursor.begins_word.Goals as goal

pub returns-then-not-begins : goal.returns-then-not-begins
returns-then-not-begins c = sym (no_word c.args.word.now c.args.self.now (sym c.begins.ensures ∙ c.if-not-begins.true))

pub returns : goal.returns
returns c = c.eq.ensures ∙ sym (c.spelling.ensures.name (sym c.begins.ensures ∙ c.if-not-begins.false) (is_word c.args.word.now))

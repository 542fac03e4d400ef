use Rattle.std.proofs.Common.{sym, ◌∙◌}
use Rattle.jc_parser.specs.ReaderState.{reserved}
use Rattle.jc_parser.proofs.FirstTokensLemmas.{no_reserved}
use Rattle.jc_parser.proofs.cursor.Cursor.begins_reserved.Goals as goal

pub returns-then-not-begins : goal.returns-then-not-begins
returns-then-not-begins c = sym (no_reserved c.args.self.now (sym c.begins.ensures ∙ c.if-not-begins.true))

pub returns : goal.returns
returns c = c.is_reserved.ensures ∙ sym (c.spelling.ensures.name (sym c.begins.ensures ∙ c.if-not-begins.false) reserved)

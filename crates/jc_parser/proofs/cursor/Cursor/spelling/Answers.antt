use Rattle.std.proofs.Common.{arith}
use Rattle.jc_parser.specs.ReaderState.{has_kind}
use Rattle.jc_syntax.specs.declared.token.TokenKind.TheVariants.{Name, Number}
use Rattle.jc_parser.proofs.FirstTokensLemmas.{word_spelled, number_spelled, nothing_begins}
use Rattle.jc_parser.proofs.cursor.Cursor.spelling.Goals as goal

pub slice_of-requires : goal.slice_of-requires
slice_of-requires c = c.self.invariant 0 _ (omega arith)

pub returns-in-empty-clause-name : goal.returns-in-empty-clause-name
returns-in-empty-clause-name c own =
    absurd (nothing_begins (has_kind Name) c.self.inside.text.now c.self.inside.tokens.now c.args.self.now c.self.view_is c.in-empty.len_below own)

pub returns-in-empty-clause-number : goal.returns-in-empty-clause-number
returns-in-empty-clause-number c own =
    absurd (nothing_begins (has_kind Number) c.self.inside.text.now c.self.inside.tokens.now c.args.self.now c.self.view_is c.in-empty.len_below own)

pub returns-in-len1-up-clause-name : goal.returns-in-len1-up-clause-name
returns-in-len1-up-clause-name c = word_spelled c.self.inside.text.now c.self.inside.tokens.now _ c.args.self.now c.slice_of.result.now c.self.view_is c.slice_of.ensures

pub returns-in-len1-up-clause-number : goal.returns-in-len1-up-clause-number
returns-in-len1-up-clause-number c = number_spelled c.self.inside.text.now c.self.inside.tokens.now _ c.args.self.now c.slice_of.result.now c.self.view_is c.slice_of.ensures

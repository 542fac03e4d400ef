use Rattle.std.proofs.Common.{Err, sym, ap, ◌∙◌, arith}
use Rattle.jc_syntax.specs.declared.token.TokenKind.TheVariants.{Number}
use Rattle.jc_parser.specs.ReaderState.{has_kind}
use Rattle.jc_parser.proofs.FirstTokensLemmas.{number_taken, no_value}
use Rattle.jc_parser.proofs.cursor.Cursor.number.Goals as goal

pub returns-then-not-begins : goal.returns-then-not-begins
returns-then-not-begins c _ = no_value (has_kind Number) c.args.self.now (sym c.begins.ensures ∙ c.if-not-begins.true) ∙ ap (λ f. Err f) (sym c.stuck.ensures)

pub slice_of-requires : goal.slice_of-requires
slice_of-requires c = c.self.invariant 0 _ (omega arith)

pub returns : goal.returns
returns c =
    let fits = sym c.begins.ensures ∙ c.if-not-begins.false in
    number_taken c.self.inside.text.now c.self.inside.tokens.now c.args.self.now c.advance.new.self _ _ c.self.view_is fits (c.advance.ensures (has_kind Number) fits) (c.in_ok-value.ensures ∙ c.slice_of.ensures)

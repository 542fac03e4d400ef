use Rattle.std.proofs.Common.{Err, sym, ap, ◌∙◌, arith}
use Rattle.jc_syntax.specs.declared.token.TokenKind.TheVariants.{Str}
use Rattle.jc_parser.specs.ReaderState.{has_kind}
use Rattle.jc_parser.proofs.FirstTokensLemmas.{first_is_string, string_taken, no_value}
use Rattle.jc_parser.proofs.cursor.Cursor.string.Goals as goal

pub returns-then-not-begins : goal.returns-then-not-begins
returns-then-not-begins c _ = no_value (has_kind Str) c.args.self.now (sym c.begins.ensures ∙ c.if-not-begins.true) ∙ ap (λ f. Err f) (sym c.stuck.ensures)

pub string_of-requires : goal.string_of-requires
string_of-requires c =
    let fits = sym c.begins.ensures ∙ c.if-not-begins.false in
    (first_is_string c.self.inside.text.now c.self.inside.tokens.now c.args.self.now _ c.self.view_is fits, c.self.invariant 0 _ (omega arith))

pub returns : goal.returns
returns c =
    let fits = sym c.begins.ensures ∙ c.if-not-begins.false in
    string_taken c.self.inside.text.now c.self.inside.tokens.now c.args.self.now c.advance.new.self _ _ c.self.view_is fits (c.advance.ensures (has_kind Str) fits) (c.in_ok-value.ensures.content)

use Rattle.std.proofs.Common.{◌≡◌, ℕ, ◌≤◌, List, [], ◌∷◌, length, slice_index_or, sym, ap, rules, arith, ◌∙◌}
use Rattle.jc_syntax.specs.declared.token.Token.{Token}
use Rattle.jc_syntax.specs.declared.token.TokenKind.{TokenKind}
use Rattle.jc_syntax.specs.declared.token.TokenKind.TheVariants.{Name}
use Rattle.jc_syntax.specs.Lexemes.{token_bytes, token_content}
use Rattle.jc_grammar.specs.Symbols.{lexemes}
use Rattle.jc_parser.specs.ReaderState.{begins_with, has_kind, same_kind, begins, Reading}
use Rattle.jc_parser.proofs.SymbolTestsLemmas.{kind_again}
use Rattle.jc_parser.proofs.cursor.Cursor.begins.Goals as goal

first_kind : (text : List ℕ) (ts : List Token) (k : TokenKind) (d : Token) → 1 ≤ length ts → begins_with (has_kind k) (lexemes text ts) ≡ same_kind (slice_index_or ts 0 d).kind k
first_kind text [] k d le = absurd (omega arith)
first_kind text (t ∷ ts) k d le = ap (λ (own : TokenKind). same_kind own k) (kind_again t.kind (token_bytes text t) (token_content text t))

pub returns-in-len1-up : goal.returns-in-len1-up
returns-in-len1-up c =
    let d : Token = record { kind = Name; start = 0; stop = 0 } in
    let numbers : c.eq.result ≡ same_kind (slice_index_or c.self.inside.tokens.now 0 d).kind c.args.kind = c.eq.ensures ∙ search rules in
    let here : begins_with (has_kind c.args.kind) (lexemes c.self.inside.text.now c.self.inside.tokens.now) ≡ same_kind (slice_index_or c.self.inside.tokens.now 0 d).kind c.args.kind = first_kind c.self.inside.text.now c.self.inside.tokens.now c.args.kind d c.in-len1-up.len_at_least in
    numbers ∙ sym here ∙ ap (λ (r : Reading). begins (has_kind c.args.kind) r) c.self.view_is

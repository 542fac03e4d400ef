-- About `Sentences`: a text is one sentence at most or has one fault, since its tokens do, and its lexemes.
use Rattle.std.proofs.Common.{◌≡◌, ◌⊎◌, inl, inr, ℕ, List, Result, refl, sym, ap, subst, ◌∙◌}
use Rattle.jc_syntax.specs.declared.token.Token.{Token}
use Rattle.jc_syntax.specs.declared.fault.LexFault.{LexFault}
use Rattle.jc_syntax.specs.Lexemes.{AreTokensOf, IsFaultOf}
use Rattle.jc_grammar.specs.Symbols.{Lexeme, lexemes}
use Rattle.jc_parser.specs.declared.fault.ScenarioFault.{ScenarioFault}
use Rattle.jc_parser.specs.Faults.{from_lexer}
use Rattle.jc_parser.specs.ReaderState.{Reading, reading_of}
use Rattle.jc_parser.specs.Sentences.{IsOfText, IsFaultOfText}
use Rattle.jc_parser.proofs.SentencesLemmas.{IsExactly, one_of, none_beside, one_or_fault, one_fault_of}

-- what the laws of tokens say

abbrev OneList : Type 0
OneList = (text : List ℕ) (ts us : List Token) → AreTokensOf text ts → AreTokensOf text us → ts ≡ us

abbrev OneLexical : Type 0
OneLexical = (text : List ℕ) (e f : LexFault) → IsFaultOf text e → IsFaultOf text f → e ≡ f

abbrev NoLexical : Type 0
NoLexical = (text : List ℕ) (ts : List Token) (e : LexFault) → AreTokensOf text ts → IsFaultOf text e → ⊥

abbrev EachHasTokens : Type 0
EachHasTokens = (text : List ℕ) → ((ts : List Token) × AreTokensOf text ts) ⊎ ((e : LexFault) × IsFaultOf text e)

module _ {A : Type 0} (Is : List Lexeme → A → Type 0) (F : Reading → ScenarioFault → Type 0) (f : Reading → Result A ScenarioFault) (exactly : (r : Reading) → IsExactly (Is r.left) (F r) (f r)) where
  pub one_of_text : OneList → (text : List ℕ) (a b : A) → IsOfText Is text a → IsOfText Is text b → a ≡ b
  one_of_text one_list text a b one two =
      let same : two.tokens ≡ one.tokens = one_list text two.tokens one.tokens two.lexed one.lexed in
      one_of (exactly (reading_of text one.tokens)) a b one.sentence (subst (λ (ts : List Token). Is (lexemes text ts) b) same two.sentence)

  pub no_fault_of_text : OneList → NoLexical → (text : List ℕ) (a : A) (e : ScenarioFault) → IsOfText Is text a → IsFaultOfText F text e → ⊥
  no_fault_of_text one_list no_lexical text a e one (inl (d, h, is)) = no_lexical text one.tokens d one.lexed h
  no_fault_of_text one_list no_lexical text a e one (inr (tokens, lexed, h)) =
      let same : tokens ≡ one.tokens = one_list text tokens one.tokens lexed one.lexed in
      none_beside (exactly (reading_of text one.tokens)) a e one.sentence (subst (λ (ts : List Token). F (reading_of text ts) e) same h)

  pub some_of_text : EachHasTokens → (text : List ℕ) → ((a : A) × IsOfText Is text a) ⊎ ((e : ScenarioFault) × IsFaultOfText F text e)
  some_of_text lexed text =
      elim (lexed text) [
        | inl (ts, are) ↦
            elim (one_or_fault (exactly (reading_of text ts))) [
              | inl (a, is) ↦ inl (a, record { tokens = ts; lexed = are; sentence = is })
              | inr (e, is) ↦ inr (e, inr (ts, are, is))
            ]
        | inr (d, is) ↦ inr (from_lexer d, inl (d, is, refl))
      ]

  pub one_fault_of_text : OneList → OneLexical → NoLexical → (text : List ℕ) (d e : ScenarioFault) → IsFaultOfText F text d → IsFaultOfText F text e → d ≡ e
  one_fault_of_text one_list one_lexical no_lexical text d e (inl (x, h, is)) (inl (y, g, other)) = is ∙ ap from_lexer (one_lexical text x y h g) ∙ sym other
  one_fault_of_text one_list one_lexical no_lexical text d e (inl (x, h, is)) (inr (ts, lexed, g)) = absurd (no_lexical text ts x lexed h)
  one_fault_of_text one_list one_lexical no_lexical text d e (inr (ts, lexed, g)) (inl (x, h, is)) = absurd (no_lexical text ts x lexed h)
  one_fault_of_text one_list one_lexical no_lexical text d e (inr (ts, lexed, g)) (inr (us, lexed_too, h)) =
      let same : us ≡ ts = one_list text us ts lexed_too lexed in
      one_fault_of (exactly (reading_of text ts)) d e g (subst (λ (l : List Token). F (reading_of text l) e) same h)

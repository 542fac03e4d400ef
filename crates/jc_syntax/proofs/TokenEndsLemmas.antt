-- About the ends of tokens in `Lexemes`: a token has one end, and none where it is malformed.
use Rattle.std.proofs.Common.{◌≡◌, ℕ, List, Option, Some, None, IfSome, refl, sym, ◌∙◌}
use Rattle.jc_syntax.specs.declared.fault.LexFault.{LexFault}
use Rattle.jc_syntax.specs.declared.token.TokenKind.{TokenKind}
use Rattle.jc_syntax.specs.declared.token.TokenKind.TheVariants.{Number}
use Rattle.jc_syntax.specs.Lexemes.{kind_at, LexemeEndsAt, IsMalformed, RunEndsAt, IsTokenEnd}
use Rattle.jc_syntax.proofs.LexemesLemmas.{one_end, malformed_or_ends}

-- ---- of a kind

one_run_end : (kind : TokenKind) (text : List ℕ) (at p q : ℕ) → RunEndsAt kind text at p → RunEndsAt kind text at q → p ≡ q
one_run_end Number text at p q a b = a ∙ sym b
one_run_end kind text at p q a b = (one_end kind text at p q a.0 b.0 a.1 b.1).0

-- a lexeme ends as what begins so does
pub lexeme_end : (kind : TokenKind) (text : List ℕ) (at stop size : ℕ) → (kind ≡ Number → ⊥) → LexemeEndsAt kind text at stop size → RunEndsAt kind text at stop
lexeme_end Number text at stop size other e = absurd (other refl)
lexeme_end kind text at stop size other e = (size, e)

-- what is malformed and no number has no end
pub malformed_no_end : (kind : TokenKind) (text : List ℕ) (at stop : ℕ) (fault : LexFault) → (kind ≡ Number → ⊥) → IsMalformed (Some kind) text at fault → RunEndsAt kind text at stop → ⊥
malformed_no_end Number text at stop fault other m e = other refl
malformed_no_end kind text at stop fault other m e = malformed_or_ends kind text at stop e.0 fault m e.1

-- ---- of a token

same_kind : (text : List ℕ) (at : ℕ) (k l : TokenKind) → kind_at text at ≡ Some k → kind_at text at ≡ Some l → k ≡ l
same_kind text at k l a b = let same : Some k ≡ Some l = sym a ∙ b in cc same

token_end_only : (text : List ℕ) (at stop other : ℕ) (kind : TokenKind) → kind_at text at ≡ Some kind → RunEndsAt kind text at stop → IsTokenEnd text at other → other ≡ stop
token_end_only text at stop other kind begins e a = one_run_end kind text at other stop (rw (same_kind text at a.kind kind a.begins begins) at a.ends) e

-- what ends here ends nowhere else
pub only_end : (found : Option ℕ) (text : List ℕ) (at : ℕ) (kind : TokenKind) → kind_at text at ≡ Some kind → IfSome found (RunEndsAt kind text at) → IfSome found (λ stop. (other : ℕ) → IsTokenEnd text at other → other ≡ stop)
only_end None text at kind begins e = tt
only_end (Some stop) text at kind begins e = λ other a. token_end_only text at stop other kind begins e a

-- How tokens begin, for the contracts of the functions of `places`.
use Rattle.std.specs.Prelude.{◌≡◌, ◌⊎◌, ℕ, List, [], ◌∷◌, ◌++◌}
use Rattle.jc_syntax.specs.declared.token.Token.{Token}
use Rattle.jc_syntax.specs.declared.token.TokenKind.TheVariants.{Semi, BraceR}
use Rattle.jc_listings.specs.Places.{Span, Block, AreItems, IsBlock}

-- no command or event goes on with these
abbrev pub EndsItem : List Token → Type 0
EndsItem [] = Unit {0}
EndsItem (t ∷ rest) = (t.kind ≡ Semi) ⊎ (t.kind ≡ BraceR)

-- They begin with commands or events, and a brace behind them.
pub record BeginsWithItems (tokens : List Token) : Type 0 where
  pub inside : List Token
  pub closes : Token
  pub rest : List Token
  pub spans : List Span
  pub are : tokens ≡ inside ++ closes ∷ rest
  pub is_close : closes.kind ≡ BraceR
  pub are_items : AreItems inside spans

-- They begin with a block.
pub record BeginsWithBlock (text : List ℕ) (tokens : List Token) : Type 0 where
  pub own : List Token
  pub rest : List Token
  pub block : Block
  pub are : tokens ≡ own ++ rest
  pub is_block : IsBlock text own block

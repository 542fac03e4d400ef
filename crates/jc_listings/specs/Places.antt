-- Where the blocks of a scenario's text are, and in them the commands and events, by the tokens of the text.
use Rattle.std.specs.Prelude.{◌≡◌, ◌≢◌, ℕ, List, [], ◌∷◌, ◌++◌, map, Option, Some, None, codes, decimal}
use Rattle.jc_syntax.specs.declared.token.Token.{Token}
use Rattle.jc_syntax.specs.declared.token.TokenKind.TheVariants.{Semi, BraceL, BraceR}
use Rattle.jc_syntax.specs.Lexemes.{AreTokensOf, token_bytes}
use Rattle.jc_answers.specs.JsonTexts.{NamedText, number_member, string_member, text_member, object_text, array_text}

-- An offset, and the offset behind it up to which something goes.
abbrev pub Span : Type 0
Span = ℕ × ℕ

abbrev pub stop_of : Token → List Token → ℕ
stop_of t [] = t.stop
stop_of t (u ∷ us) = stop_of u us

-- The tokens of a command or of an event: no `;` is among them, and of braces those of `{}` alone.
pub data AreInside : List Token → Type 0 where
  none : AreInside []
  other : {t : Token} {rest : List Token}
      → t.kind ≢ Semi
      → t.kind ≢ BraceL
      → t.kind ≢ BraceR
      → AreInside rest
      → AreInside (t ∷ rest)
  braces : {opens closes : Token} {rest : List Token}
      → opens.kind ≡ BraceL
      → closes.kind ≡ BraceR
      → AreInside rest
      → AreInside (opens ∷ closes ∷ rest)

-- The tokens of commands or of events, with a `;` between each two and at will behind the last.
pub data AreItems : List Token → List Span → Type 0 where
  none : AreItems [] []
  last : (first : Token) (more : List Token)
      → AreInside (first ∷ more)
      → AreItems (first ∷ more) ((first.start, stop_of first more) ∷ [])
  some : {rest : List Token} {spans : List Span} (first : Token) (more : List Token) (semi : Token)
      → AreInside (first ∷ more)
      → semi.kind ≡ Semi
      → AreItems rest spans
      → AreItems (first ∷ more ++ semi ∷ rest) ((first.start, stop_of first more) ∷ spans)

-- A block: its word, of a replica its name, its span, and the spans of what is in it.
pub record Block : Type 0 where
  pub kind : List ℕ
  pub name : Option (List ℕ)
  pub span : Span
  pub items : List Span

-- The tokens from the first brace of a block to its last, with the spans of what is between them.
pub record AreBraced (tokens : List Token) (items : List Span) (stop : ℕ) : Type 0 where
  pub opens : Token
  pub inside : List Token
  pub closes : Token
  pub are : tokens ≡ opens ∷ inside ++ closes ∷ []
  pub is_open : opens.kind ≡ BraceL
  pub is_close : closes.kind ≡ BraceR
  pub are_items : AreItems inside items
  pub ends : stop ≡ closes.stop

-- the tokens of a block
pub data IsBlock (text : List ℕ) : List Token → Block → Type 0 where
  replica : {tokens : List Token} {items : List Span} {stop : ℕ} (word name : Token)
      → token_bytes text word ≡ codes "replica"
      → AreBraced tokens items stop
      → IsBlock text (word ∷ name ∷ tokens)
      (record {
        kind = codes "replica";
        name = Some (token_bytes text name);
        span = (word.start, stop);
        items = items;
      })
  given : {tokens : List Token} {items : List Span} {stop : ℕ} (word : Token)
      → token_bytes text word ≡ codes "given"
      → AreBraced tokens items stop
      → IsBlock text (word ∷ tokens)
      (record { kind = codes "given"; name = None; span = (word.start, stop); items = items })
  schedule : {tokens : List Token} {items : List Span} {stop : ℕ} (word : Token)
      → token_bytes text word ≡ codes "schedule"
      → AreBraced tokens items stop
      → IsBlock text (word ∷ tokens)
      (record { kind = codes "schedule"; name = None; span = (word.start, stop); items = items })

-- blocks one after another
pub data AreBlocks (text : List ℕ) : List Token → List Block → Type 0 where
  none : AreBlocks text [] []
  some : {tokens rest : List Token} {block : Block} {blocks : List Block}
      → IsBlock text tokens block
      → AreBlocks text rest blocks
      → AreBlocks text (tokens ++ rest) (block ∷ blocks)

-- ---- the answer

abbrev pub span_answer : Span → List ℕ
span_answer span = array_text (decimal span.0 ∷ decimal span.1 ∷ [])

abbrev pub name_member : Option (List ℕ) → List NamedText
name_member None = []
name_member (Some name) = string_member (codes "name") name

-- a block with the list of what is in it
abbrev pub block_text : List ℕ → Option (List ℕ) → Span → List ℕ → List ℕ
block_text kind name span items =
    object_text (
    number_member (codes "end") span.1 ++ (text_member (codes "items") items
    ++ (string_member (codes "kind") kind ++ (name_member name ++ number_member (codes "start") span.0))))

abbrev pub block_answer : Block → List ℕ
block_answer b = block_text b.kind b.name b.span (array_text (map span_answer b.items))

-- The answer to `places` for the text of a scenario, which has the two tokens of its header before its blocks.
pub record IsPlaces (text answer : List ℕ) : Type 0 where
  pub word : Token
  pub version : Token
  pub tokens : List Token
  pub blocks : List Block
  pub lexed : AreTokensOf text (word ∷ version ∷ tokens)
  pub are_blocks : AreBlocks text tokens blocks
  pub is : answer ≡ array_text (map block_answer blocks)

-- The state of a reader, its outcome, and the steps of one token. All readers are made of these.
use Rattle.std.specs.Prelude.{◌≡◌, ◌≢◌, ℕ, List, [], ◌∷◌, Bool, true, false, if◌then◌else◌, Result, Ok, Err, length}
use Rattle.jc_syntax.specs.declared.token.Token.{Token}
use Rattle.jc_syntax.specs.declared.token.TokenKind.TheVariants.{Name}
use Rattle.jc_parser.specs.declared.fault.ScenarioFault.{ScenarioFault}
use Rattle.jc_parser.specs.declared.fault.ScenarioFault.TheVariants.{Unexpected, EndOfText, Memory}
use Rattle.jc_syntax.specs.declared.tree.Named.{Named}
pub use Rattle.jc_grammar.specs.Symbols.{place_at}
pub use Rattle.jc_grammar.specs.SymbolTests.{kind_of_symbol, number_of_kind, same_kind, has_kind, value_of_symbol, is_word, is_number_symbol, reserved}
use Rattle.jc_grammar.specs.Symbols.{Symbol, Lexeme, lexemes}

-- the lexemes that are left, and the length of the text
pub record Reading : Type 0 where
  pub left : List Lexeme
  pub stop : ℕ

abbrev pub reading_of : List ℕ → List Token → Reading
reading_of text ts = record { left = lexemes text ts; stop = length text }

-- what is read, and what is left after it; or a fault
abbrev pub ReadOutcome : Type 0 → Type 0
ReadOutcome A = Result (A × Reading) ScenarioFault

infixl 10 ◌>>=◌
abbrev pub ◌>>=◌ : {A B : Type 0} → Result A ScenarioFault → (A → Result B ScenarioFault) → Result B ScenarioFault
(Ok x) >>= f = f x
(Err e) >>= f = Err e

-- what a function returns, seen by view, is the outcome of the reader, unless memory ran out
abbrev pub MapsResult : {X Y : Type 0} → (X → Y) → Result X ScenarioFault → Result Y ScenarioFault → Type 0
MapsResult view (Ok x) read = read ≡ Ok (view x)
MapsResult view (Err e) read = e ≢ Memory → read ≡ Err e

-- ---- the next lexeme

-- the offset of the next lexeme, or of the text's end
abbrev pub place : Reading → ℕ
place r = place_at r.stop r.left

abbrev pub stuck_at : ℕ → List Lexeme → ScenarioFault
stuck_at stop [] = EndOfText stop
stuck_at stop (x ∷ xs) = Unexpected x.place

-- the fault that the next lexeme fits nothing
abbrev pub stuck : Reading → ScenarioFault
stuck r = stuck_at r.stop r.left

-- the first lexeme passes the test
abbrev pub begins_with : (Symbol → Bool) → List Lexeme → Bool
begins_with p [] = false
begins_with p (x ∷ xs) = p x.symbol

abbrev pub begins : (Symbol → Bool) → Reading → Bool
begins p r = begins_with p r.left

-- takes a lexeme that passes the test
abbrev pub take_one : (Symbol → Bool) → ℕ → List Lexeme → ReadOutcome Lexeme
take_one p stop [] = Err (EndOfText stop)
take_one p stop (x ∷ xs) = if p x.symbol then Ok (x, record { left = xs; stop = stop }) else Err (Unexpected x.place)

unfoldable pub one : (Symbol → Bool) → Reading → ReadOutcome Lexeme
one p r = take_one p r.stop r.left

-- takes a lexeme that passes the test, and forgets it
abbrev pub skip : (Symbol → Bool) → Reading → ReadOutcome (Unit {0})
skip p r = do
  x ← one p r
  Ok (tt, x.1)

-- takes a lexeme that passes the test, and returns its value
abbrev pub take : (Symbol → Bool) → Reading → ReadOutcome (List ℕ)
take p r = do
  x ← one p r
  Ok (value_of_symbol x.0.symbol, x.1)

-- takes a name, and returns it with its offset
unfoldable pub named_at : Reading → ReadOutcome Named
named_at r = do
  x ← one (has_kind Name) r
  Ok (record { name = value_of_symbol x.0.symbol; place = x.0.place }, x.1)

abbrev pub no_more : List Lexeme → Bool
no_more [] = true
no_more (x ∷ xs) = false

abbrev pub is_at_end : Reading → Bool
is_at_end r = no_more r.left

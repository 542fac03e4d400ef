-- The symbols that canonical texts are written with, of values in memory.
use Rattle.std.proofs.Common.{◌≡◌, ℕ, false, List, [], ◌∷◌, ◌++◌, decimal}
use Rattle.std.specs.Prelude.{codes}
use Rattle.std.specs.Str.{bytes_eq}
use Rattle.std.proofs.lemmas.Bool.{or_parts}
use Rattle.jc_rules.specs.declared.operation.Event.{Event}
use Rattle.jc_rules.specs.declared.operation.Event.TheVariants.{Exec, Send, Recv, Take, Apply, Done}
use Rattle.jc_rules.specs.declared.value.Value.{Value}
use Rattle.jc_rules.specs.declared.value.Value.TheVariants as values
use Rattle.jc_rules.specs.ReplicaNames.{name_at}
use Rattle.jc_rules.specs.Syntax.{Expr, TheDoc, Variable, GetKey, Index, KeysOf, ValuesOf, Cmd, LetIn, SetTo, InsertAfter, DeleteAt, Yield}
use Rattle.jc_grammar.specs.Symbols.{Symbol, word, number, string, dot, open_paren, close_paren, open_brace, close_brace, open_bracket, close_bracket, comma, semicolon, assign, equals}
use Rattle.jc_grammar.specs.SymbolTests.{is_reserved}

-- symbols that are these
abbrev pub Spells : List Symbol → List Symbol → Type 0
Spells own w = w ≡ own

-- the selector `get`
abbrev pub get_symbols : List ℕ → List Symbol
get_symbols key = dot ∷ word (codes "get") ∷ open_paren ∷ string key ∷ close_paren ∷ []

abbrev pub index_symbols : ℕ → List Symbol
index_symbols i = dot ∷ word (codes "idx") ∷ open_paren ∷ number (decimal i) ∷ close_paren ∷ []

abbrev pub expr_symbols : Expr → List Symbol
expr_symbols TheDoc = word (codes "doc") ∷ []
expr_symbols (Variable name) = word name ∷ []
expr_symbols (GetKey e key) = expr_symbols e ++ get_symbols key
expr_symbols (Index e i) = expr_symbols e ++ index_symbols i
expr_symbols (KeysOf e) = expr_symbols e ++ dot ∷ word (codes "keys") ∷ []
expr_symbols (ValuesOf e) = expr_symbols e ++ dot ∷ word (codes "values") ∷ []

abbrev pub value_symbols : Value → List Symbol
value_symbols (values.Number text) = number text ∷ []
value_symbols (values.Str content) = string content ∷ []
value_symbols values.True = word (codes "true") ∷ []
value_symbols values.False = word (codes "false") ∷ []
value_symbols values.Null = word (codes "null") ∷ []
value_symbols values.EmptyMap = open_brace ∷ close_brace ∷ []
value_symbols values.EmptyList = open_bracket ∷ close_bracket ∷ []

abbrev pub cmd_symbols : Cmd → List Symbol
cmd_symbols Yield = word (codes "yield") ∷ []
cmd_symbols (LetIn name e) = word (codes "let") ∷ word name ∷ equals ∷ expr_symbols e
cmd_symbols (SetTo e v) = expr_symbols e ++ assign ∷ value_symbols v
cmd_symbols (InsertAfter e v) =
    expr_symbols e ++ dot ∷ word (codes "insertAfter") ∷ open_paren ∷ (value_symbols v ++ close_paren ∷ [])
cmd_symbols (DeleteAt e) = expr_symbols e ++ dot ∷ word (codes "delete") ∷ []

-- items with a `;` between
abbrev pub joined : {A : Type 0} → (A → List Symbol) → List A → List Symbol
joined written [] = []
joined written (a ∷ []) = written a
joined written (a ∷ b ∷ more) = written a ++ semicolon ∷ joined written (b ∷ more)

-- ---- events

-- an identifier and the closing parenthesis
abbrev pub identifier_symbols : List ℕ → List ℕ → List Symbol
identifier_symbols digits author = number digits ∷ comma ∷ word author ∷ close_paren ∷ []

abbrev pub event_symbols : List (List ℕ) → Event → List Symbol
event_symbols names (Exec p) = word (name_at names p) ∷ dot ∷ word (codes "exec") ∷ []
event_symbols names (Send p) = word (name_at names p) ∷ dot ∷ word (codes "send") ∷ []
event_symbols names (Recv p q) =
    word (name_at names p) ∷ dot ∷ word (codes "recv") ∷ open_paren ∷ word (name_at names q) ∷ close_paren ∷ []
event_symbols names (Take p q i) =
    word (name_at names p) ∷ dot ∷ word (codes "take") ∷ open_paren ∷ word (name_at names q) ∷ comma
    ∷ identifier_symbols (decimal i.counter) (name_at names i.replica)
event_symbols names (Apply p i) =
    word (name_at names p) ∷ dot ∷ word (codes "apply") ∷ open_paren
    ∷ identifier_symbols (decimal i.counter) (name_at names i.replica)
event_symbols names (Done p) = word (name_at names p) ∷ dot ∷ word (codes "done") ∷ []

-- ---- reserved words

-- a name that isn't reserved is none of the words that lead
pub record IsFree (name : List ℕ) : Type 0 where
  pub no_let : bytes_eq name (codes "let") ≡ false
  pub no_doc : bytes_eq name (codes "doc") ≡ false
  pub no_yield : bytes_eq name (codes "yield") ≡ false

pub free : (name : List ℕ) → is_reserved name ≡ false → IsFree name
free name h =
    let a = or_parts (bytes_eq name (codes "let")) _ h in
    let b = or_parts (bytes_eq name (codes "doc")) _ a.1 in
    let c = or_parts (bytes_eq name (codes "yield")) _ b.1 in
    record { no_let = a.0; no_doc = b.0; no_yield = c.0 }

-- Readers of what sentences share, from left to right: keys, values, lists with `;`, names and the header.
use Rattle.std.specs.Prelude.{ℕ, zero, suc, List, [], ◌∷◌, Bool, if◌then◌else◌, codes, Result, Ok, Err}
use Rattle.jc_syntax.specs.declared.token.TokenKind.TheVariants.{Number, Str, ParenL, ParenR, Semi}
use Rattle.jc_rules.specs.declared.version.Version.{Version}
use Rattle.jc_rules.specs.declared.version.Version.TheVariants.{One, Two}
use Rattle.jc_rules.specs.declared.value.Value.{Value}
use Rattle.jc_rules.specs.declared.value.Value.TheVariants as values
use Rattle.jc_parser.specs.declared.fault.ScenarioFault.{ScenarioFault}
use Rattle.jc_parser.specs.declared.fault.ScenarioFault.TheVariants.{ReservedName, NoHeader, NoReplica}
use Rattle.jc_grammar.specs.Symbols.{Symbol}
use Rattle.jc_parser.specs.ReaderState.{Reading, ReadOutcome, ◌>>=◌, place, stuck, begins, has_kind, is_word, is_number_symbol, reserved, named_at, skip, take, is_at_end}

-- ---- expressions

-- `get` and its key
unfoldable pub get_at : Reading → ReadOutcome (List ℕ)
get_at r = do
  a ← skip (is_word (codes "get")) r
  b ← skip (has_kind ParenL) a.1
  k ← take (has_kind Str) b.1
  c ← skip (has_kind ParenR) k.1
  Ok (k.0, c.1)

-- ---- values

abbrev pub constant_at : List ℕ → Value → Reading → ReadOutcome Value
constant_at name value r = do
  a ← skip (is_word name) r
  Ok (value, a.1)

unfoldable pub number_at : Reading → ReadOutcome Value
number_at r = do
  v ← take (has_kind Number) r
  Ok (values.Number v.0, v.1)

unfoldable pub string_at : Reading → ReadOutcome Value
string_at r = do
  v ← take (has_kind Str) r
  Ok (values.Str v.0, v.1)

unfoldable pub read_value_at : Reading → ReadOutcome Value
read_value_at r =
    if begins (has_kind Number) r then number_at r
    else (if begins (has_kind Str) r then string_at r
    else (if begins (is_word (codes "true")) r then constant_at (codes "true") values.True r
    else (if begins (is_word (codes "false")) r then constant_at (codes "false") values.False r
    else constant_at (codes "null") values.Null r)))

-- ---- commands

-- At most n items, separated by `;`, with or without one after the last. Each begins with a symbol that passes the
-- test. One more has the fault beyond.
unfoldable pub items_at :
    {A : Type 0} → (Symbol → Bool) → (Reading → ReadOutcome A) → (Reading → ScenarioFault) → ℕ → Reading
    → ReadOutcome (List A)
items_at p item beyond zero r = if begins p r then Err (beyond r) else Ok ([], r)
items_at p item beyond (suc n) r =
    if begins p r
    then (item r >>= λ x.
    if begins (has_kind Semi) x.1
    then (skip (has_kind Semi) x.1 >>= λ a. items_at p item beyond n a.1 >>= λ rest. Ok (x.0 ∷ rest.0, rest.1))
    else Ok (x.0 ∷ [], x.1))
    else Ok ([], r)

-- ---- scenarios

abbrev pub own_name_at : Reading → ReadOutcome (List ℕ)
own_name_at r = do
  n ← named_at r
  Ok (n.0.name, n.1)

-- a name that is no reserved word
unfoldable pub read_name_at : Reading → ReadOutcome (List ℕ)
read_name_at r = if begins reserved r then Err (ReservedName (place r)) else own_name_at r

-- nothing more
abbrev pub result_of_read : {A : Type 0} → A × Reading → Result A ScenarioFault
result_of_read x = if is_at_end x.1 then Ok x.0 else Err (stuck x.1)

-- takes a lexeme that passes the test, where another has a fault of its own
abbrev pub skip_or : (ℕ → ScenarioFault) → (Symbol → Bool) → Reading → ReadOutcome (Unit {0})
skip_or fault p r = if begins p r then skip p r else Err (fault (place r))

-- the number of a version, which has a fault of its own
unfoldable pub version_at : Reading → ReadOutcome Version
version_at r =
    if begins (is_number_symbol (codes "2")) r
    then (skip (is_number_symbol (codes "2")) r >>= λ a. Ok (Two, a.1))
    else (skip_or (λ at. NoHeader at) (is_number_symbol (codes "1")) r >>= λ a. Ok (One, a.1))

-- the header and the word before the first replica
unfoldable pub front_at : Reading → ReadOutcome Version
front_at r = do
  a ← skip_or (λ at. NoHeader at) (is_word (codes "jsoncrdt")) r
  v ← version_at a.1
  b ← skip_or (λ at. NoReplica at) (is_word (codes "replica")) v.1
  Ok (v.0, b.1)

-- How an expression is read from left to right. The code follows these readers; a reader believes the grammar.
use Rattle.std.specs.Prelude.{ℕ, zero, suc, List, Bool, true, false, ◌&&◌, not, ◌||◌, nat_lt, if◌then◌else◌, codes, Result, Ok, Err}
use Rattle.jc_syntax.specs.declared.token.TokenKind.TheVariants.{Dot, ParenL, ParenR}
use Rattle.jc_rules.specs.Syntax.{Expr, TheDoc, Variable, GetKey, Index, KeysOf, ValuesOf}
use Rattle.jc_rules.specs.declared.limits.TheConstants.{MAX_SELECTORS}
use Rattle.jc_parser.specs.declared.fault.ScenarioFault.{ScenarioFault}
use Rattle.jc_parser.specs.declared.fault.ScenarioFault.TheVariants.{TooLongExpression, IndexTooLarge}
use Rattle.jc_grammar.specs.Symbols.{Symbol, number}
use Rattle.jc_grammar.specs.SymbolTests.{is_numeral, numeral_value}
use Rattle.jc_parser.specs.ReaderState.{Reading, ReadOutcome, ◌>>=◌, place, stuck, begins, has_kind, is_word, skip, take}
use Rattle.jc_parser.specs.PartReaders.{get_at, read_name_at, result_of_read}

-- ---- numbers

-- a number that may be an index
abbrev pub is_index : Symbol → Bool
is_index (number digits) = is_numeral digits && nat_lt (numeral_value digits) 4294967296
is_index s = false

-- a number of digits alone that is larger than an index may be
abbrev pub is_large : Symbol → Bool
is_large (number digits) = is_numeral digits && not (nat_lt (numeral_value digits) 4294967296)
is_large s = false

-- a number of digits alone, below 2 to the 32
unfoldable pub index_at : Reading → ReadOutcome ℕ
index_at r =
    if begins is_large r then Err (IndexTooLarge (place r)) else (take is_index r >>= λ x. Ok (numeral_value x.0, x.1))

-- ---- selectors

pub data Selector : Type 0 where
  by_key : List ℕ → Selector
  by_index : ℕ → Selector
  by_keys : Selector
  by_values : Selector

-- a word that begins a selector
abbrev pub is_selector : Symbol → Bool
is_selector s =
    is_word (codes "get") s || (is_word (codes "idx") s || (is_word (codes "keys") s || is_word (codes "values") s))

-- an expression, extended by one selector
abbrev pub extended : Expr → Selector → Expr
extended e (by_key key) = GetKey e key
extended e (by_index i) = Index e i
extended e by_keys = KeysOf e
extended e by_values = ValuesOf e

unfoldable pub key_selector_at : Reading → ReadOutcome Selector
key_selector_at r = do
  k ← get_at r
  Ok (by_key k.0, k.1)

unfoldable pub index_selector_at : Reading → ReadOutcome Selector
index_selector_at r = do
  a ← skip (is_word (codes "idx")) r
  b ← skip (has_kind ParenL) a.1
  i ← index_at b.1
  c ← skip (has_kind ParenR) i.1
  Ok (by_index i.0, c.1)

abbrev pub plain_selector_at : List ℕ → Selector → Reading → ReadOutcome Selector
plain_selector_at name selector r = do
  a ← skip (is_word name) r
  Ok (selector, a.1)

-- the selector after its dot
unfoldable pub step_at : Reading → ReadOutcome Selector
step_at r =
    if begins (is_word (codes "get")) r then key_selector_at r
    else (if begins (is_word (codes "idx")) r then index_selector_at r
    else (if begins (is_word (codes "keys")) r then plain_selector_at (codes "keys") by_keys r
    else plain_selector_at (codes "values") by_values r))

-- ---- expressions

-- an expression, and whether the dot after it was taken
pub record Chain : Type 0 where
  pub expression : Expr
  pub dotted : Bool

-- The chain of at most n selectors from the expression e. It ends before what is no dot, or after a dot that no
-- selector's word follows.
unfoldable pub chain_at : ℕ → Expr → Reading → ReadOutcome Chain
chain_at zero e r =
    if begins (has_kind Dot) r
    then (skip (has_kind Dot) r >>= λ a.
    if begins is_selector a.1 then Err (TooLongExpression (place r))
    else Ok (record { expression = e; dotted = true }, a.1))
    else Ok (record { expression = e; dotted = false }, r)
chain_at (suc n) e r =
    if begins (has_kind Dot) r
    then (skip (has_kind Dot) r >>= λ a.
    if begins is_selector a.1 then (step_at a.1 >>= λ s. chain_at n (extended e s.0) s.1)
    else Ok (record { expression = e; dotted = true }, a.1))
    else Ok (record { expression = e; dotted = false }, r)

-- no dot may come at the end
abbrev pub undotted : Chain × Reading → ReadOutcome Expr
undotted x = if x.0.dotted then Err (stuck x.1) else Ok (x.0.expression, x.1)

unfoldable pub doc_at : Reading → ReadOutcome Expr
doc_at r = do
  a ← skip (is_word (codes "doc")) r
  Ok (TheDoc, a.1)

unfoldable pub variable_at : Reading → ReadOutcome Expr
variable_at r = do
  n ← read_name_at r
  Ok (Variable n.0, n.1)

-- `doc` or a variable
unfoldable pub root_at : Reading → ReadOutcome Expr
root_at r = if begins (is_word (codes "doc")) r then doc_at r else variable_at r

unfoldable pub expression_at : Reading → ReadOutcome Expr
expression_at r = do
  e ← root_at r
  c ← chain_at MAX_SELECTORS e.0 e.1
  undotted c

-- an expression and nothing more
unfoldable pub only_expression_at : Reading → Result Expr ScenarioFault
only_expression_at r = do
  e ← expression_at r
  result_of_read e

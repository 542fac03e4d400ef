-- How a script is read from left to right. The code follows these readers; a reader believes the grammar.
use Rattle.std.specs.Prelude.{ℕ, List, Bool, true, false, if◌then◌else◌, codes, Result, Ok}
use Rattle.jc_syntax.specs.declared.token.TokenKind.{TokenKind}
use Rattle.jc_syntax.specs.declared.token.TokenKind.TheVariants.{Name, ParenL, ParenR, BraceL, BraceR, BracketL, BracketR, Assign, Equals}
use Rattle.jc_rules.specs.declared.value.Value.{Value}
use Rattle.jc_rules.specs.declared.value.Value.TheVariants as values
use Rattle.jc_rules.specs.Syntax.{Expr, Cmd, LetIn, SetTo, InsertAfter, DeleteAt, Yield}
use Rattle.jc_rules.specs.declared.limits.TheConstants.{MAX_COMMANDS, MAX_SELECTORS}
use Rattle.jc_parser.specs.declared.fault.ScenarioFault.{ScenarioFault}
use Rattle.jc_parser.specs.declared.fault.ScenarioFault.TheVariants.{ReservedName, TooManyCommands}
pub use Rattle.jc_grammar.specs.SymbolTests.{is_misused}
use Rattle.jc_parser.specs.ReaderState.{Reading, ReadOutcome, ◌>>=◌, place, begins, has_kind, is_word, skip}
use Rattle.jc_parser.specs.PartReaders.{read_value_at, read_name_at, items_at, result_of_read}
use Rattle.jc_parser.specs.ExpressionReader.{chain_at, root_at, expression_at}

-- ---- values

-- a value of two symbols
abbrev pub empty_at : TokenKind → TokenKind → Value → Reading → ReadOutcome Value
empty_at left right value r = do
  a ← skip (has_kind left) r
  b ← skip (has_kind right) a.1
  Ok (value, b.1)

unfoldable pub any_value_at : Reading → ReadOutcome Value
any_value_at r =
    if begins (has_kind BraceL) r then empty_at BraceL BraceR values.EmptyMap r
    else (if begins (has_kind BracketL) r then empty_at BracketL BracketR values.EmptyList r
    else read_value_at r)

-- ---- commands

-- a binding, from its word on
unfoldable pub binding_at : Reading → ReadOutcome Cmd
binding_at r = do
  a ← skip (is_word (codes "let")) r
  n ← read_name_at a.1
  b ← skip (has_kind Equals) n.1
  e ← expression_at b.1
  Ok (LetIn n.0 e.0, e.1)

unfoldable pub assignment_at : Expr → Reading → ReadOutcome Cmd
assignment_at e r = do
  a ← skip (has_kind Assign) r
  v ← any_value_at a.1
  Ok (SetTo e v.0, v.1)

-- an insertion after its dot
unfoldable pub insertion_at : Expr → Reading → ReadOutcome Cmd
insertion_at e r = do
  a ← skip (is_word (codes "insertAfter")) r
  b ← skip (has_kind ParenL) a.1
  v ← any_value_at b.1
  c ← skip (has_kind ParenR) v.1
  Ok (InsertAfter e v.0, c.1)

-- a deletion after its dot
unfoldable pub deletion_at : Expr → Reading → ReadOutcome Cmd
deletion_at e r = do
  a ← skip (is_word (codes "delete")) r
  Ok (DeleteAt e, a.1)

-- what follows the expression of a command, and a dot if one was taken
unfoldable pub finish_at : Expr → Bool → Reading → ReadOutcome Cmd
finish_at e true r = if begins (is_word (codes "insertAfter")) r then insertion_at e r else deletion_at e r
finish_at e false r = assignment_at e r

-- a command that begins with an expression
unfoldable pub update_at : Reading → ReadOutcome Cmd
update_at r = do
  e ← root_at r
  c ← chain_at MAX_SELECTORS e.0 e.1
  finish_at c.0.expression c.0.dotted c.1

unfoldable pub yield_at : Reading → ReadOutcome Cmd
yield_at r = do
  a ← skip (is_word (codes "yield")) r
  Ok (Yield, a.1)

unfoldable pub command_at : Reading → ReadOutcome Cmd
command_at r =
    if begins (is_word (codes "yield")) r then yield_at r
    else (if begins (is_word (codes "let")) r then binding_at r
    else update_at r)

-- ---- scripts

-- the fault of one command more than there may be
abbrev pub too_many_commands_at : Reading → ScenarioFault
too_many_commands_at r = if begins is_misused r then ReservedName (place r) else TooManyCommands (place r)

-- at most n commands
abbrev pub commands_at : ℕ → Reading → ReadOutcome (List Cmd)
commands_at n r = items_at (has_kind Name) command_at too_many_commands_at n r

unfoldable pub script_at : Reading → ReadOutcome (List Cmd)
script_at r = commands_at MAX_COMMANDS r

-- a script and nothing more
unfoldable pub only_script_at : Reading → Result (List Cmd) ScenarioFault
only_script_at r = do
  s ← script_at r
  result_of_read s

-- a script and the closing brace behind it
unfoldable pub closed_script_at : Reading → ReadOutcome (List Cmd)
closed_script_at r = do
  s ← script_at r
  a ← skip (has_kind BraceR) s.1
  Ok (s.0, a.1)

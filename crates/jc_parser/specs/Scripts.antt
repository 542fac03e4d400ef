-- Scripts: the one that a text is, the one that begins at a token of a text, their faults, and their limits.
use Rattle.std.specs.Prelude.{◌≡◌, ℕ, ◌+◌, ◌≤◌, ◌<◌, List, length, drop, slice_range, false, All}
use Rattle.jc_rules.specs.Syntax.{Cmd, LetIn, SetTo, InsertAfter, DeleteAt, Yield}
use Rattle.jc_rules.specs.declared.limits.TheConstants.{MAX_COMMANDS}
use Rattle.jc_syntax.specs.declared.token.Token.{Token}
use Rattle.jc_grammar.specs.Symbols.{Lexeme, lexemes}
use Rattle.jc_grammar.specs.SymbolTests.{is_reserved}
use Rattle.jc_grammar.specs.ScenarioGrammar.{script, closed_script, misfit_at}
use Rattle.jc_parser.specs.declared.fault.ScenarioFault.{ScenarioFault}
use Rattle.jc_parser.specs.ReaderState.{Reading, reading_of}
use Rattle.jc_parser.specs.Expressions.{IsWellFormedExpression}
use Rattle.jc_parser.specs.GrammarTrees.{script_of_tree, closed_script_of_tree}
use Rattle.jc_parser.specs.Sentences.{IsSentence, IsSentenceFault, IsPrefixFault, IsOfText, IsFaultOfText}

-- these lexemes are this script
abbrev pub IsScript : List Lexeme → List Cmd → Type 0
IsScript ls commands = IsSentence script script_of_tree ls commands

-- the fault of lexemes that are no script
abbrev pub IsNoScript : Reading → ScenarioFault → Type 0
IsNoScript r fault = IsSentenceFault script (misfit_at r.stop) r.left fault

-- a text is this script
abbrev pub IsScriptOf : List ℕ → List Cmd → Type 0
IsScriptOf text commands = IsOfText IsScript text commands

-- the fault of a text that is no script
abbrev pub IsScriptFault : List ℕ → ScenarioFault → Type 0
IsScriptFault text fault = IsFaultOfText IsNoScript text fault

-- ---- among the tokens of a text

-- these lexemes are this script and its closing brace
abbrev pub IsClosedScript : List Lexeme → List Cmd → Type 0
IsClosedScript ls commands = IsSentence closed_script closed_script_of_tree ls commands

-- the tokens from the number `from` up to the number `brace` are this script, and that one is its closing brace
pub record IsScriptAt (text : List ℕ) (tokens : List Token) (from : ℕ) (commands : List Cmd) (brace : ℕ) : Type 0 where
  pub ordered : from ≤ brace
  pub inside : brace < length tokens
  pub closed : IsClosedScript (lexemes text (slice_range tokens from (brace + 1))) commands

-- the fault of lexemes that begin with no script with a closing brace
abbrev pub IsNoScriptAhead : Reading → ScenarioFault → Type 0
IsNoScriptAhead r fault = IsPrefixFault closed_script r fault

-- at the token of this number no script with a closing brace begins, and this is the fault
abbrev pub IsScriptFaultAt : List ℕ → List Token → ℕ → ScenarioFault → Type 0
IsScriptFaultAt text tokens from fault = IsNoScriptAhead (reading_of text (drop from tokens)) fault

-- ---- limits

abbrev pub IsCommandWellFormed : Cmd → Type 0
IsCommandWellFormed Yield = Unit {0}
IsCommandWellFormed (LetIn name e) = (is_reserved name ≡ false) × IsWellFormedExpression e
IsCommandWellFormed (SetTo e v) = IsWellFormedExpression e
IsCommandWellFormed (InsertAfter e v) = IsWellFormedExpression e
IsCommandWellFormed (DeleteAt e) = IsWellFormedExpression e

pub record IsScriptWellFormed (script : List Cmd) : Type 0 where
  pub commands : length script ≤ MAX_COMMANDS
  pub each : All IsCommandWellFormed script

-- Expressions: the one that a text is, the fault of another text, and their limits.
use Rattle.std.specs.Prelude.{◌≡◌, ℕ, suc, ◌≤◌, ◌<◌, List, false}
use Rattle.jc_rules.specs.Syntax.{Expr, TheDoc, Variable, GetKey, Index, KeysOf, ValuesOf}
use Rattle.jc_rules.specs.declared.limits.TheConstants.{MAX_SELECTORS}
use Rattle.jc_grammar.specs.Symbols.{Lexeme}
use Rattle.jc_grammar.specs.SymbolTests.{is_reserved}
use Rattle.jc_grammar.specs.ScenarioGrammar.{expression, misfit_at}
use Rattle.jc_parser.specs.declared.fault.ScenarioFault.{ScenarioFault}
use Rattle.jc_parser.specs.ReaderState.{Reading}
use Rattle.jc_parser.specs.GrammarTrees.{expression_of_tree}
use Rattle.jc_parser.specs.Sentences.{IsSentence, IsSentenceFault, IsOfText, IsFaultOfText}

-- these lexemes are this expression
abbrev pub IsExpression : List Lexeme → Expr → Type 0
IsExpression ls e = IsSentence expression expression_of_tree ls e

-- the fault of lexemes that are no expression
abbrev pub IsNoExpression : Reading → ScenarioFault → Type 0
IsNoExpression r fault = IsSentenceFault expression (misfit_at r.stop) r.left fault

-- a text is this expression
abbrev pub IsExpressionOf : List ℕ → Expr → Type 0
IsExpressionOf text e = IsOfText IsExpression text e

-- the fault of a text that is no expression
abbrev pub IsExpressionFault : List ℕ → ScenarioFault → Type 0
IsExpressionFault text fault = IsFaultOfText IsNoExpression text fault

-- ---- limits

abbrev pub selector_count : Expr → ℕ
selector_count TheDoc = 0
selector_count (Variable name) = 0
selector_count (GetKey e key) = suc (selector_count e)
selector_count (Index e i) = suc (selector_count e)
selector_count (KeysOf e) = suc (selector_count e)
selector_count (ValuesOf e) = suc (selector_count e)

-- the variable is no reserved word, and each index is below 2 to the 32
abbrev pub HasLegalParts : Expr → Type 0
HasLegalParts TheDoc = Unit {0}
HasLegalParts (Variable name) = is_reserved name ≡ false
HasLegalParts (GetKey e key) = HasLegalParts e
HasLegalParts (Index e i) = (i < 4294967296) × HasLegalParts e
HasLegalParts (KeysOf e) = HasLegalParts e
HasLegalParts (ValuesOf e) = HasLegalParts e

pub record IsWellFormedExpression (e : Expr) : Type 0 where
  pub parts : HasLegalParts e
  pub selectors : selector_count e ≤ MAX_SELECTORS

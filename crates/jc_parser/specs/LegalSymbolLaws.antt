-- The laws' statements that what is parsed is legal: within the limits, and its parts are such as tokens have.
use Rattle.std.specs.Prelude.{ℕ, List, All}
use Rattle.std.specs.Str.{IsUtf8}
use Rattle.jc_rules.specs.declared.version.Version.{Version}
use Rattle.jc_syntax.specs.declared.token.Token.{Token}
use Rattle.jc_syntax.specs.declared.tree.NamedEvent.{NamedEvent}
use Rattle.jc_syntax.specs.Lexemes.{IsTokenOf}
use Rattle.jc_rules.specs.Syntax.{Expr, Cmd}
use Rattle.jc_parser.specs.Expressions.{IsWellFormedExpression, IsExpressionOf}
use Rattle.jc_parser.specs.Scripts.{IsScriptWellFormed, IsScriptOf, IsScriptAt}
use Rattle.jc_parser.specs.Events.{call_of, IsCallWellFormed, IsEventOf, IsEventAt}
use Rattle.jc_parser.specs.ReaderState.{reading_of}
use Rattle.jc_parser.specs.Scenarios.{NamedTree, tree_of_named, IsTreeWithin, IsNamedTree}
use Rattle.jc_parser.specs.LegalSymbols.{IsLegalExpr, IsLegalCmd, IsLegalCall, IsLegalTree}

abbrev pub LegalExpressions : Type 0
LegalExpressions =
    (text : List ℕ) (e : Expr)
    → IsUtf8 text
    → IsExpressionOf text e
    → IsWellFormedExpression e × IsLegalExpr e

abbrev pub LegalScripts : Type 0
LegalScripts =
    (text : List ℕ) (script : List Cmd)
    → IsUtf8 text
    → IsScriptOf text script
    → IsScriptWellFormed script × All IsLegalCmd script

abbrev pub LegalEvents : Type 0
LegalEvents =
    (v : Version) (text : List ℕ) (e : NamedEvent)
    → IsUtf8 text
    → IsEventOf v text e
    → IsCallWellFormed (call_of e) × IsLegalCall (call_of e)

-- ---- among the tokens of a text

abbrev pub LegalScriptsAt : Type 0
LegalScriptsAt =
    (text : List ℕ) (tokens : List Token) (from brace : ℕ) (script : List Cmd)
    → IsUtf8 text
    → All (IsTokenOf text) tokens
    → IsScriptAt text tokens from script brace
    → IsScriptWellFormed script × All IsLegalCmd script

abbrev pub LegalEventsAt : Type 0
LegalEventsAt =
    (v : Version) (text : List ℕ) (tokens : List Token) (from : ℕ) (e : NamedEvent) (next : ℕ)
    → IsUtf8 text
    → All (IsTokenOf text) tokens
    → IsEventAt v text tokens from e next
    → IsCallWellFormed (call_of e) × IsLegalCall (call_of e)

abbrev pub LegalScenarios : Type 0
LegalScenarios =
    (text : List ℕ) (tokens : List Token) (t : NamedTree)
    → IsUtf8 text
    → All (IsTokenOf text) tokens
    → IsNamedTree (reading_of text tokens) t
    → IsTreeWithin (tree_of_named t) × IsLegalTree (tree_of_named t)

-- The statements of `laws`: a canonical text is read back as what it was printed from, where its names, numbers and
-- strings are such as tokens have and the text is within its limit.
use Rattle.std.specs.Prelude.{◌≡◌, ℕ, ◌≤◌, List, length, All}
use Rattle.jc_rules.specs.declared.operation.Event.{Event}
use Rattle.jc_rules.specs.declared.version.Version.{Version}
use Rattle.jc_rules.specs.Syntax.{Expr, Cmd}
use Rattle.jc_rules.specs.Version.{Allows}
use Rattle.jc_rules.specs.declared.limits.TheConstants.{MAX_TEXT}
use Rattle.jc_syntax.specs.declared.tree.NamedEvent.{NamedEvent}
use Rattle.jc_parser.specs.Expressions.{IsWellFormedExpression, IsExpressionOf}
use Rattle.jc_parser.specs.Scripts.{IsScriptWellFormed, IsScriptOf}
use Rattle.jc_parser.specs.Events.{call_of, IsEventOf}
use Rattle.jc_printer.specs.Canon.{canon_expr, canon_script, canon_event, AreNamed}
use Rattle.jc_parser.specs.LegalSymbols.{IsName, IsLegalExpr, IsLegalCmd, call_by, IsCounterBelow}

abbrev pub ExpressionsReadBack : Type 0
ExpressionsReadBack =
    (e : Expr) → IsWellFormedExpression e → IsLegalExpr e → length (canon_expr e) ≤ MAX_TEXT
    → IsExpressionOf (canon_expr e) e

abbrev pub ScriptsReadBack : Type 0
ScriptsReadBack =
    (script : List Cmd) → IsScriptWellFormed script → All IsLegalCmd script → length (canon_script script) ≤ MAX_TEXT
    → IsScriptOf (canon_script script) script

-- an event is read back with the names of its replicas, each with its offset, in each version that has it
abbrev pub EventsReadBack : Type 0
EventsReadBack =
    (v : Version) (names : List (List ℕ)) (event : Event)
    → All IsName names → AreNamed event (length names) → IsCounterBelow event
    → Allows event v → length (canon_event names event) ≤ MAX_TEXT
    → (read : NamedEvent) × IsEventOf v (canon_event names event) read × (call_of read ≡ call_by names event)

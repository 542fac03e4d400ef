-- The laws' statements for expressions and scripts, which follow from the definitions alone.
use Rattle.std.specs.Prelude.{◌≡◌, ◌⊎◌, ℕ, ◌≤◌, List, length}
use Rattle.jc_rules.specs.Syntax.{Expr, Cmd}
use Rattle.jc_syntax.specs.declared.token.Token.{Token}
use Rattle.jc_parser.specs.declared.fault.ScenarioFault.{ScenarioFault}
use Rattle.jc_parser.specs.Expressions.{IsExpressionOf, IsExpressionFault}
use Rattle.jc_parser.specs.Scripts.{IsScriptOf, IsScriptFault, IsScriptAt, IsScriptFaultAt}

-- A text is one expression at most.
abbrev pub OneExpression : Type 0
OneExpression = (text : List ℕ) (e other : Expr) → IsExpressionOf text e → IsExpressionOf text other → e ≡ other

-- A text that is an expression has no fault.
abbrev pub ExpressionOrFault : Type 0
ExpressionOrFault =
    (text : List ℕ) (e : Expr) (fault : ScenarioFault) → IsExpressionOf text e → IsExpressionFault text fault → ⊥

-- A text that is no expression has a fault.
abbrev pub ExpressionElseFault : Type 0
ExpressionElseFault =
    (text : List ℕ) → ((e : Expr) × IsExpressionOf text e) ⊎ ((fault : ScenarioFault) × IsExpressionFault text fault)

-- A text that is no expression has one fault at most, at one offset.
abbrev pub OneExpressionFault : Type 0
OneExpressionFault =
    (text : List ℕ) (fault other : ScenarioFault)
    → IsExpressionFault text fault
    → IsExpressionFault text other
    → fault ≡ other

-- A text is one script at most.
abbrev pub OneScript : Type 0
OneScript = (text : List ℕ) (script other : List Cmd) → IsScriptOf text script → IsScriptOf text other → script ≡ other

-- A text that is a script has no fault.
abbrev pub ScriptOrFault : Type 0
ScriptOrFault =
    (text : List ℕ) (script : List Cmd) (fault : ScenarioFault) → IsScriptOf text script → IsScriptFault text fault → ⊥

-- A text that is no script has a fault.
abbrev pub ScriptElseFault : Type 0
ScriptElseFault =
    (text : List ℕ)
    → ((script : List Cmd) × IsScriptOf text script) ⊎ ((fault : ScenarioFault) × IsScriptFault text fault)

-- A text that is no script has one fault at most, at one offset.
abbrev pub OneScriptFault : Type 0
OneScriptFault =
    (text : List ℕ) (fault other : ScenarioFault) → IsScriptFault text fault → IsScriptFault text other → fault ≡ other

-- ---- scripts among the tokens of a text

-- At most one script begins at a token, and its brace has one number.
abbrev pub OneScriptAt : Type 0
OneScriptAt =
    (text : List ℕ) (tokens : List Token) (from brace other_brace : ℕ) (script other : List Cmd)
    → IsScriptAt text tokens from script brace
    → IsScriptAt text tokens from other other_brace
    → (script ≡ other) × (brace ≡ other_brace)

-- Where a script begins at a token, there is no fault.
abbrev pub ScriptOrFaultAt : Type 0
ScriptOrFaultAt =
    (text : List ℕ) (tokens : List Token) (from brace : ℕ) (script : List Cmd) (fault : ScenarioFault)
    → IsScriptAt text tokens from script brace
    → IsScriptFaultAt text tokens from fault
    → ⊥

-- At each token a script begins, or there is a fault.
abbrev pub ScriptElseFaultAt : Type 0
ScriptElseFaultAt =
    (text : List ℕ) (tokens : List Token) (from : ℕ)
    → from ≤ length tokens
    → ((script : List Cmd) × (brace : ℕ) × IsScriptAt text tokens from script brace)
    ⊎ ((fault : ScenarioFault) × IsScriptFaultAt text tokens from fault)

-- Where no script begins at a token, there is one fault at most, at one offset.
abbrev pub OneScriptFaultAt : Type 0
OneScriptFaultAt =
    (text : List ℕ) (tokens : List Token) (from : ℕ) (fault other : ScenarioFault)
    → IsScriptFaultAt text tokens from fault
    → IsScriptFaultAt text tokens from other
    → fault ≡ other

-- That an expression is evaluated or refused in each state with a document and variables: the contract of `eval`.
use Rattle.std.specs.Prelude.{◌≡◌, ℕ, List, Option, Some, None}
use Rattle.jc_rules.specs.declared.operation.Cursor.{Cursor}
use Rattle.jc_rules.specs.declared.refusal.Refusal.TheVariants as F
use Rattle.jc_rules.specs.declared.rule.Rule.{Rule}
use Rattle.jc_rules.specs.declared.rule.Rule.TheVariants as R
use Rattle.jc_rules.specs.Context.{Context}
use Rattle.jc_rules.specs.Syntax.{Expr, TheDoc, Variable, GetKey, Index, KeysOf, ValuesOf}
use Rattle.jc_rules.specs.State.{State, Bound, ACursor}
use Rattle.jc_rules.specs.Derivation.{Evaluate, ToBound}
use Rattle.jc_rules.specs.Derives.{Derives}
use Rattle.jc_rules.specs.Refused.{Cause, because, no_node, IsAnswered, Refused}
use Rattle.jc_rules.specs.Trace.{Rows, pushed, one_deeper, at_depth}
use Rattle.jc_cursor.specs.declared.evaluating.EvalFault.{EvalFault}
use Rattle.jc_cursor.specs.declared.evaluating.EvalFault.TheVariants as E

-- the state has this document and these variables
pub record Has (c : Context) (vs : List (List ℕ × Bound)) (A : State) : Type 0 where
  pub tree : A.tree ≡ c
  pub vars : A.vars ≡ vs

-- In each state with the document and the variables a derivation evaluates the expression to this, and its rules were
-- added to the trace.
abbrev pub Evaluates : Context → List (List ℕ × Bound) → Expr → Bound → Rows → Rows → Type 0
Evaluates c vars e b t u = (A : State) → Has c vars A → Derives (Evaluate A e) (ToBound b) t u

-- In each such state the expression is refused for this cause.
abbrev pub IsEvalRefused : Context → List (List ℕ × Bound) → Expr → Cause → Type 0
IsEvalRefused c vars e why = (A : State) → Has c vars A → Refused (Evaluate A e) why

-- the cause in the table, but for want of memory
abbrev pub eval_cause_of : EvalFault → Option Cause
eval_cause_of E.UnboundVariable = Some (because F.UnboundVariable)
eval_cause_of E.GetOnHead = Some (because F.GetOnHead)
eval_cause_of E.NotACursor = Some (because F.NotACursor)
eval_cause_of (E.NoSuchNode k) = Some (no_node k)
eval_cause_of E.PastEnd = Some (because F.PastEnd)
eval_cause_of E.NoMap = Some (because F.NoMap)
eval_cause_of E.NoRegister = Some (because F.NoRegister)
eval_cause_of E.TooDeep = Some (because F.TooDeep)
eval_cause_of E.Memory = None

-- the rule that evaluates the expression
abbrev pub rule_of : Expr → Rule
rule_of TheDoc = R.Doc
rule_of (Variable name) = R.Var
rule_of (GetKey e name) = R.Get
rule_of (Index e i) = R.Idx1
rule_of (KeysOf e) = R.Keys1
rule_of (ValuesOf e) = R.Val1

-- the expression ends with a selector
abbrev pub IsSelection : Expr → Type 0
IsSelection TheDoc = ⊥
IsSelection (Variable name) = ⊥
IsSelection _ = Unit {0}

-- what its last selector selects from
abbrev pub from_of : Expr → Expr
from_of TheDoc = TheDoc
from_of (Variable name) = Variable name
from_of (GetKey e name) = e
from_of (Index e i) = e
from_of (KeysOf e) = e
from_of (ValuesOf e) = e

-- A derivation gives the cursor before the last selector, and its rules lead the trace to u. Then the selector gives b:
-- a derivation of the whole has the rules up to v.
abbrev pub Selects : Expr → Context → Cursor → Bound → Rows → Rows → Type 0
Selects e c cur b u v =
    (A : State) (t : Rows) → A.tree ≡ c
    → Derives (Evaluate A (from_of e)) (ToBound (ACursor cur)) (one_deeper (pushed t (rule_of e))) u
    → Derives (Evaluate A e) (ToBound b) t (at_depth t.depth v)

-- Where the cursor is what is before the last selector, the whole is refused for this cause.
abbrev pub RefusedAfter : Expr → Context → Cursor → Cause → Type 0
RefusedAfter e c cur why =
    (A : State) → A.tree ≡ c → IsAnswered (Evaluate A (from_of e)) (ToBound (ACursor cur)) → Refused (Evaluate A e) why

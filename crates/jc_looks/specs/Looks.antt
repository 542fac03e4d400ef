-- What is shown of the replicas of a network, whichever position that is at.
use Rattle.std.specs.Prelude.{◌≡◌, ℕ, suc, ◌<◌, ◌⊎◌, List, [], ◌∷◌, ◌++◌, slice_get, Some, None, codes}
use Rattle.jc_rules.specs.declared.operation.Cursor.{Cursor}
use Rattle.jc_rules.specs.Refused.{Cause, because, no_node, refusal_of}
use Rattle.jc_rules.specs.ReplicaNames.{name_at}
use Rattle.jc_rules.specs.State.{State, Bound, ACursor, Names, Pairs}
use Rattle.jc_rules.specs.Syntax.{Expr}
use Rattle.jc_rules.specs.Trace.{Rows}
use Rattle.jc_syntax.specs.Trees.{expr_of}
use Rattle.jc_replica.specs.ReplicaHistory.{no_rows}
use Rattle.jc_json.specs.Json.{tagged_text}
use Rattle.jc_cursor.specs.Evaluates.{Evaluates, IsEvalRefused}
use Rattle.jc_dump.specs.Dump.{dump_line, bound_text, brief_text}
use Rattle.jc_view.specs.Visible.{view_line}
use Rattle.jc_view.specs.Places.{place_line}
use Rattle.jc_answers.specs.JsonTexts.{NamedText, unended, string_member, array_text}
use Rattle.jc_answers.specs.Refusals.{refused_object, refusal_members}
use Rattle.jc_looks.specs.declared.looks.Look.{Look}
use Rattle.jc_looks.specs.declared.looks.Look.TheVariants as L

-- ---- texts

abbrev pub view_text : List (List ℕ) → List ℕ → State → List ℕ
view_text names name A = unended (view_line names name A)

abbrev pub state_text : List (List ℕ) → List ℕ → State → List ℕ
state_text names name A = unended (dump_line names name A)

abbrev pub place_text : List (List ℕ) → List ℕ → State → Cursor → List ℕ
place_text names name A cursor = unended (place_line names name A cursor)

-- the texts of the replicas from number p on
abbrev pub texts_from : (List (List ℕ) → List ℕ → State → List ℕ) → ℕ → List (List ℕ) → List State → List (List ℕ)
texts_from text p names [] = []
texts_from text p names (A ∷ states) = text names (name_at names p) A ∷ texts_from text (suc p) names states

-- ---- values of expressions

-- the expression gives this in the state
abbrev pub Gives : State → Expr → Bound → Type 0
Gives A e b = (rows : Rows) × Evaluates A.tree A.vars e b no_rows rows

-- the key that is missing, for the refusal that a node is
abbrev pub missing_key : List (List ℕ) → Cause → List NamedText
missing_key names (because refusal) = []
missing_key names (no_node k) = string_member (codes "key") (tagged_text names k)

-- why an expression gives nothing
abbrev pub no_value_answer : List (List ℕ) → Cause → List ℕ
no_value_answer names why = refused_object (missing_key names why ++ refusal_members (refusal_of why))

-- What is shown of a value by `view`: what is at a cursor, or else the value as `eval` shows it.
abbrev pub viewed_text : List (List ℕ) → List ℕ → State → Bound → List ℕ
viewed_text names name A (ACursor cursor) = place_text names name A cursor
viewed_text names name A (Names keys) = bound_text names (Names keys)
viewed_text names name A (Pairs pairs) = bound_text names (Pairs pairs)

-- What is shown of an expression in a state: a text of what it gives, or why it gives nothing.
abbrev pub ShowsValue : (Bound → List ℕ) → List (List ℕ) → State → Expr → List ℕ → Type 0
ShowsValue text names A e answer =
    ((b : Bound) × Gives A e b × (answer ≡ text b))
    ⊎ ((why : Cause) × IsEvalRefused A.tree A.vars e why × (answer ≡ no_value_answer names why))

-- ---- looks

-- replica p is there, and its state has this
abbrev pub OfReplica : List State → ℕ → (State → Type 0) → Type 0
OfReplica states p has = (A : State) × (slice_get states p ≡ Some A) × has A

-- What a look shows of the states of the replicas with these names.
abbrev pub ShowsLook : List (List ℕ) → List State → Look → List ℕ → Type 0
ShowsLook names states (L.View None) answer = answer ≡ array_text (texts_from view_text 0 names states)
ShowsLook names states (L.View (Some p)) answer =
    OfReplica states p (λ A. answer ≡ view_text names (name_at names p) A)
ShowsLook names states (L.ViewPlace p e) answer =
    OfReplica states p (λ A. ShowsValue (viewed_text names (name_at names p) A) names A (expr_of e) answer)
ShowsLook names states (L.State None) answer = answer ≡ array_text (texts_from state_text 0 names states)
ShowsLook names states (L.State (Some p)) answer =
    OfReplica states p (λ A. answer ≡ state_text names (name_at names p) A)
ShowsLook names states (L.Brief p) answer = OfReplica states p (λ A. answer ≡ brief_text names (name_at names p) A)
ShowsLook names states (L.Eval p e) answer =
    OfReplica states p (λ A. ShowsValue (bound_text names) names A (expr_of e) answer)

-- the replicas of a look are among so many
abbrev pub IsWithin : ℕ → Look → Type 0
IsWithin n (L.View (Some p)) = p < n
IsWithin n (L.ViewPlace p e) = p < n
IsWithin n (L.State (Some p)) = p < n
IsWithin n (L.Brief p) = p < n
IsWithin n (L.Eval p e) = p < n
IsWithin n look = Unit {0}

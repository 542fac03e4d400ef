-- About Evaluates: evaluating an expression, rule by rule.
use Rattle.std.proofs.Common.{◌≡◌, ℕ, List, [], Some, None, ◌⊎◌, inl, inr, refl, sym, ◌∙◌, ap, subst}
use Rattle.jc_rules.specs.declared.key.Key.TheVariants as K
use Rattle.jc_rules.specs.declared.key.Tagged.{Tagged}
use Rattle.jc_rules.specs.declared.operation.Cursor.{Cursor}
use Rattle.jc_rules.specs.declared.refusal.Refusal.TheVariants as F
use Rattle.jc_rules.specs.declared.rule.Rule.{Rule}
use Rattle.jc_rules.specs.declared.rule.Rule.TheVariants as R
use Rattle.jc_rules.specs.Order.{name_cmp}
use Rattle.jc_rules.specs.Entries.{find}
use Rattle.jc_rules.specs.Context.{Context}
use Rattle.jc_rules.specs.Syntax.{Expr, TheDoc, Variable, GetKey, Index, KeysOf, ValuesOf}
use Rattle.jc_rules.specs.State.{State, Bound, ACursor}
use Rattle.jc_rules.specs.Derivation.{Evaluate, ToBound}
use Rattle.jc_rules.specs.Derives.{Derives}
use Rattle.jc_rules.specs.Refused.{Cause, because, IsAnswered, IsCursor, first_expr, Refused, unbound, in_first, not_a_cursor}
use Rattle.jc_rules.specs.Table.{cursor}
use Rattle.jc_rules.specs.Trace.{Rows, pushed, one_deeper, at_depth}
use Rattle.jc_rules.proofs.DerivesLemmas.{by_axiom}
use Rattle.jc_syntax.specs.declared.tree.Expr.{Expr as ExprInMemory, Get, Idx, Keys, Values}
use Rattle.jc_syntax.specs.Trees.{expr_of}
use Rattle.jc_cursor.specs.declared.bound.Bound.{Bound as BoundInMemory}
use Rattle.jc_cursor.specs.declared.bound.Bound.TheVariants as B
use Rattle.jc_cursor.specs.Bounds.{bound_of, vars_of, FoundAs}
use Rattle.jc_cursor.specs.Evaluates.{Has, Evaluates, IsEvalRefused, rule_of, from_of, IsSelection, Selects, RefusedAfter}

-- what is evaluated first
first_is : (x : Expr) (A : State) → IsSelection x → first_expr (Evaluate A x) ≡ Some (A, from_of x)
first_is TheDoc A h = absurd h
first_is (Variable name) A h = absurd h
first_is (GetKey e name) A h = refl
first_is (Index e i) A h = refl
first_is (KeysOf e) A h = refl
first_is (ValuesOf e) A h = refl

module _ (c : Context) where
  -- the two that stand alone
  pub doc_evaluated : (vs : List (List ℕ × Bound)) (x : Expr) (path : List Tagged) (t u : Rows) → x ≡ TheDoc → path ≡ [] → u ≡ pushed t R.Doc → Evaluates c vs x (ACursor (cursor path K.Doc)) t u
  doc_evaluated vs x path t u xe pe ue = λ A h. rw (xe, pe, ue) (by_axiom R.Doc (Evaluate A TheDoc) (ToBound (ACursor (cursor [] K.Doc))) t (refl, refl))

  pub var_evaluated : (vars : List (List ℕ × BoundInMemory)) (name : List ℕ) (found b : BoundInMemory) (t u : Rows) → FoundAs name vars (Some found) → bound_of b ≡ bound_of found → u ≡ pushed t R.Var → Evaluates c (vars_of vars) (Variable name) (bound_of b) t u
  var_evaluated vars name found b t u f be ue = λ A h.
      let is : find name_cmp name A.vars ≡ Some (bound_of found) = ap (find name_cmp name) h.vars ∙ sym f in
      rw (be, ue) (by_axiom R.Var (Evaluate A (Variable name)) (ToBound (bound_of found)) t (bound_of found, is, refl, refl))

  pub var_unbound : (vars : List (List ℕ × BoundInMemory)) (name : List ℕ) → FoundAs name vars None → IsEvalRefused c (vars_of vars) (Variable name) (because F.UnboundVariable)
  var_unbound vars name f = λ A h. unbound (ap (find name_cmp name) h.vars ∙ sym f)

  -- a selector, of what y gives
  module _ (vs : List (List ℕ × Bound)) (x y : Expr) (selection : IsSelection x) (from : from_of x ≡ y) where
    answered : (A : State) (b : Bound) (o u : Rows) → Has c vs A → Evaluates c vs y b o u → IsAnswered (Evaluate A (from_of x)) (ToBound b)
    answered A b o u h d =
        let e = d A h in
        subst (λ (z : Expr). IsAnswered (Evaluate A z) (ToBound b)) (sym from) (record { derivation = e.derivation; holds = e.holds; concludes = e.concludes })

    pub selected : (cur : Cursor) (b : Bound) (r : Rule) (t o u v w : Rows) → r ≡ rule_of x → o ≡ one_deeper (pushed t r) → Evaluates c vs y (ACursor cur) o u → Selects x c cur b u v → w ≡ at_depth t.depth v → Evaluates c vs x b t w
    selected cur b r t o u v w re oe d s we = λ A h.
        let start : o ≡ one_deeper (pushed t (rule_of x)) = oe ∙ ap (λ (z : Rule). one_deeper (pushed t z)) re in
        let first : Derives (Evaluate A (from_of x)) (ToBound (ACursor cur)) o u = subst (λ (z : Expr). Derives (Evaluate A z) (ToBound (ACursor cur)) o u) (sym from) (d A h) in
        rw we (s A t h.tree (subst (λ (z : Rows). Derives (Evaluate A (from_of x)) (ToBound (ACursor cur)) z u) start first))

    pub first_refused : (why : Cause) → IsEvalRefused c vs y why → IsEvalRefused c vs x why
    first_refused why r = λ A h. in_first (first_is x A selection) (subst (λ (z : Expr). Refused (Evaluate A z) why) (sym from) (r A h))

    pub no_cursor : (b : Bound) (o u : Rows) → Evaluates c vs y b o u → (IsCursor b → ⊥) → IsEvalRefused c vs x (because F.NotACursor)
    no_cursor b o u d n = λ A h. not_a_cursor (first_is x A selection) tt (answered A b o u h d) n

    pub after_refused : (cur : Cursor) (o u : Rows) (why : Cause) → Evaluates c vs y (ACursor cur) o u → RefusedAfter x c cur why → IsEvalRefused c vs x why
    after_refused cur o u why d r = λ A h. r A h.tree (answered A (ACursor cur) o u h d)

-- an expression in memory that ends with a selector, and what is before it
pub ends_with : (e : ExprInMemory) (from : _) → ((name : List ℕ) × (e ≡ Get from name)) ⊎ (((i : ℕ) × (e ≡ Idx from i)) ⊎ ((e ≡ Keys from) ⊎ (e ≡ Values from))) → IsSelection (expr_of e) × (from_of (expr_of e) ≡ expr_of from.value)
ends_with e from (inl h) = rw h.1 (tt, refl)
ends_with e from (inr (inl h)) = rw h.1 (tt, refl)
ends_with e from (inr (inr (inl h))) = rw h (tt, refl)
ends_with e from (inr (inr (inr h))) = rw h (tt, refl)

pub not_cursor : (b : BoundInMemory) → ((cur : Cursor) → b ≡ B.Cursor cur → ⊥) → IsCursor (bound_of b) → ⊥
not_cursor (B.Cursor cur) h x = h cur refl
not_cursor (B.Keys ks) h x = x
not_cursor (B.Values vs) h x = x

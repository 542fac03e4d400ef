use Rattle.std.proofs.Common.{ℕ, ◌∙◌, ap, sym, subst}
use Rattle.jc_rules.specs.Trace.{at_depth}
use Rattle.jc_syntax.specs.Trees.{expr_of}
use Rattle.jc_cursor.specs.declared.bound.Bound.{Bound}
use Rattle.jc_cursor.specs.Bounds.{bound_of, vars_of, vars_in}
use Rattle.jc_cursor.specs.Evaluates.{Evaluates}
use Rattle.jc_cursor.proofs.EvaluatesLemmas.{doc_evaluated, ends_with, first_refused, no_cursor, not_cursor, after_refused, selected}
use Rattle.jc_cursor.proofs.SelectLemmas.{handed_up}
use Rattle.jc_cursor.proofs.evaluating.+evaluate.Goals as goal

pub returns-in_ok-push-in-Doc-clause-ok : goal.returns-in_ok-push-in-Doc-clause-ok
returns-in_ok-push-in-Doc-clause-ok g t c = doc_evaluated _ _ _ _ _ _ (ap expr_of c.in-Doc.is) c.new.ensures c.in_ok-push-in-Doc.ensures.ok

pub returns-in_err-cursor-in-Get-clause-refused : goal.returns-in_err-cursor-in-Get-clause-refused
returns-in_err-cursor-in-Get-clause-refused g t c =
    let s = ends_with c.args.expr.now c.in-Get.from c.in-Get.is in
    handed_up _ _ _ _ c.from_residual-in_err-cursor-in-Get.ensures.1 (λ why r. first_refused _ _ _ (expr_of c.deref.result.now) s.0 (s.1 ∙ ap expr_of (sym c.deref.ensures)) why r) c.in_err-cursor-in-Get.ensures.refused

pub returns-in_default-clause-refused : goal.returns-in_default-clause-refused
returns-in_default-clause-refused g t c =
    let s = ends_with c.args.expr.now c.in-Get.from c.in-Get.is in
    no_cursor _ _ _ (expr_of c.deref.result.now) s.0 (s.1 ∙ ap expr_of (sym c.deref.ensures)) (bound_of c.in_ok-cursor-in-Get.field-0) _ _ c.in_ok-cursor-in-Get.ensures.ok (not_cursor c.in_ok-cursor-in-Get.field-0 c.in_default.not-Cursor)

pub returns-in_err-bound-in-Get-clause-refused : goal.returns-in_err-bound-in-Get-clause-refused
returns-in_err-bound-in-Get-clause-refused g t c =
    let s = ends_with c.args.expr.now c.in-Get.from c.in-Get.is in
    let first = subst (λ (b : Bound). Evaluates (g.S.TreeStore.tree c.args.store.now).now (vars_of (vars_in c.args.vars)) (expr_of c.deref.result.now) (bound_of b) c.open.new.self c.evaluate.new.trace) c.in-Cursor.is c.in_ok-cursor-in-Get.ensures.ok in
    handed_up _ _ _ _ c.from_residual-in_err-bound-in-Get.ensures.1 (λ why r. after_refused _ _ _ (expr_of c.deref.result.now) s.0 (s.1 ∙ ap expr_of (sym c.deref.ensures)) c.in-Cursor.cursor c.open.new.self c.evaluate.new.trace why first r) c.in_err-bound-in-Get.ensures.refused

pub returns-in_ok-bound-in-Get-clause-ok : goal.returns-in_ok-bound-in-Get-clause-ok
returns-in_ok-bound-in-Get-clause-ok g t c =
    let s = ends_with c.args.expr.now c.in-Get.from c.in-Get.is in
    let first = subst (λ (b : Bound). Evaluates (g.S.TreeStore.tree c.args.store.now).now (vars_of (vars_in c.args.vars)) (expr_of c.deref.result.now) (bound_of b) c.open.new.self c.evaluate.new.trace) c.in-Cursor.is c.in_ok-cursor-in-Get.ensures.ok in
    selected _ _ _ (expr_of c.deref.result.now) s.0 (s.1 ∙ ap expr_of (sym c.deref.ensures)) c.in-Cursor.cursor _ _ c.args.trace.now c.open.new.self c.evaluate.new.trace c.select.new.trace _ c.rule_of.ensures c.in_ok-open-in-Get.ensures.ok first c.in_ok-bound-in-Get.ensures.ok (c.close.ensures ∙ ap (λ (n : ℕ). at_depth n c.select.new.trace) c.depth-depth.ensures)

use Rattle.std.proofs.Common.{refl, sym, subst, ap}
use Rattle.jc_rules.specs.State.{Names, Pairs}
use Rattle.jc_rules.specs.Syntax.{Expr}
use Rattle.jc_syntax.specs.Trees.{expr_of}
use Rattle.jc_cursor.specs.Evaluates.{Selects, RefusedAfter}
use Rattle.jc_cursor.proofs.SelectLemmas.{keyed, keys_refused, valued, values_refused, handed_up}
use Rattle.jc_cursor.proofs.select.select.Goals as goal

pub returns-in_err-names_below-in-Keys-clause-refused : goal.returns-in_err-names_below-in-Keys-clause-refused
returns-in_err-names_below-in-Keys-clause-refused g c =
    handed_up _ _ _ _ c.from_residual.ensures.1 (λ why r. subst (λ (e : Expr). RefusedAfter e (g.S.TreeStore.tree c.args.store.now).now c.args.cursor why) (sym (ap expr_of c.in-Keys.is)) (keys_refused c.args.cursor _ why r _)) c.in_err-names_below-in-Keys.ensures.refused

pub returns-in_err-values_below-in-Values-clause-refused : goal.returns-in_err-values_below-in-Values-clause-refused
returns-in_err-values_below-in-Values-clause-refused g c =
    handed_up _ _ _ _ c.from_residual-in_err-values_below-in-Values.ensures.1 (λ why r. subst (λ (e : Expr). RefusedAfter e (g.S.TreeStore.tree c.args.store.now).now c.args.cursor why) (sym (ap expr_of c.in-Values.is)) (values_refused c.args.cursor _ why r _)) c.in_err-values_below-in-Values.ensures.refused

pub returns-in_ok-names_below-in-Keys-clause-ok : goal.returns-in_ok-names_below-in-Keys-clause-ok
returns-in_ok-names_below-in-Keys-clause-ok g c =
    subst (λ (e : Expr). Selects e (g.S.TreeStore.tree c.args.store.now).now c.args.cursor (Names c.in_ok-names_below-in-Keys.field-0) c.args.trace.now c.names_below.new.trace) (sym (ap expr_of c.in-Keys.is)) (keyed c.args.cursor _ _ _ c.args.trace.now c.names_below.new.trace c.in_ok-names_below-in-Keys.ensures.ok refl _)

pub returns-in_ok-values_below-in-Values-clause-ok : goal.returns-in_ok-values_below-in-Values-clause-ok
returns-in_ok-values_below-in-Values-clause-ok g c =
    subst (λ (e : Expr). Selects e (g.S.TreeStore.tree c.args.store.now).now c.args.cursor (Pairs c.in_ok-values_below-in-Values.field-0) c.args.trace.now c.values_below.new.trace) (sym (ap expr_of c.in-Values.is)) (valued c.args.cursor _ _ _ c.args.trace.now c.values_below.new.trace c.in_ok-values_below-in-Values.ensures.ok refl _)

use Rattle.std.proofs.Common.{◌≡◌, List, ℕ, Some, None, sym, ap, ◌∙◌, subst}
use Rattle.std.specs.Option.{option_map}
use Rattle.std.specs.BTreeMap.{is_at, insert_entry}
use Rattle.std.proofs.lemmas.Map.Steps.{set_value_same}
use Rattle.jc_rules.specs.Entries.{find}
use Rattle.jc_rules.specs.Order.{name_cmp}
use Rattle.jc_tree.proofs.SortedMapLemmas.{as_err}
use Rattle.jc_cursor.specs.declared.bound.Bound.{Bound}
use Rattle.jc_cursor.specs.Bounds.{bound_of, vars_of}
use Rattle.jc_cursor.proofs.BoundsLemmas.{looked_up}
use Rattle.jc_replica.specs.Variables.{IsBound}
use Rattle.jc_replica.proofs.VariableNamesLemmas.{bound_new, bound_again}
use Rattle.jc_replica.proofs.vars.bind_var.Goals as goal

pub returns-in_err-before-clause-err : goal.returns-in_err-before-clause-err
returns-in_err-before-clause-err c =
    as_err c.from_residual.result ((c.get_mut.follows.holds c.in-Some.there.now).0 ∙ set_value_same (is_at (name_cmp c.args.name.now)) c.args.vars.now.entries c.in-Some.there.now (sym c.in-Some.ensures.value))

pub returns-in-Some-clause-ok : goal.returns-in-Some-clause-ok
returns-in-Some-clause-ok c =
    let x = c.args.name.now in
    let vs = c.args.vars.now.entries in
    let new = (c.get_mut.follows.lender c.swap.new.y).entries in
    let found : find name_cmp x (vars_of vs) ≡ Some (bound_of c.in-Some.there.now) = sym (looked_up x vs) ∙ ap (option_map bound_of) (sym c.in-Some.ensures.value) in
    let put : c.swap.new.y ≡ c.args.bound = c.swap.ensures.y_after ∙ c.deref_mut.ensures.value ∙ c.in_ok-before.ensures.ok in
    let bound : IsBound x (bound_of c.swap.new.y) (Some (bound_of c.in-Some.there.now)) (vars_of vs) (vars_of new) =
    bound_again x c.swap.new.y c.in-Some.there.now vs new found (c.get_mut.follows.holds c.swap.new.y).0 in
    subst (λ (b : Bound). IsBound x (bound_of b) (Some (bound_of c.swap.new.x)) (vars_of vs) (vars_of new)) put
    (subst (λ (b : Bound). IsBound x (bound_of c.swap.new.y) (Some (bound_of b)) (vars_of vs) (vars_of new)) (sym c.swap.ensures.x_after) bound)

pub returns-clause-ok : goal.returns-clause-ok
returns-clause-ok c =
    let x = c.args.name.now in
    let vs = c.args.vars.now.entries in
    let b = c.args.bound in
    let none : find name_cmp x (vars_of vs) ≡ None = sym (looked_up x vs) ∙ ap (option_map bound_of) (sym c.in_default.ensures.value) in
    bound_new x b vs c.insert.new.self.entries none
    (c.in_ok-insert.ensures.entries ∙ ap (λ m. insert_entry name_cmp m.entries c.in_ok-copy.field-0 b) c.get_mut.follows.holds-at-none ∙ ap (λ (y : List ℕ). insert_entry name_cmp vs y b) c.in_ok-copy.ensures)

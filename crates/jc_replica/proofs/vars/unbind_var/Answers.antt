use Rattle.std.proofs.Common.{◌≡◌, Option, Some, None, Box, Global, sym, ap, ◌∙◌}
use Rattle.std.specs.Option.{option_map}
use Rattle.jc_rules.specs.Entries.{find}
use Rattle.jc_rules.specs.Order.{name_cmp}
use Rattle.jc_cursor.specs.declared.bound.Bound.{Bound}
use Rattle.jc_cursor.specs.Bounds.{bound_of, vars_of}
use Rattle.jc_cursor.proofs.BoundsLemmas.{looked_up}
use Rattle.jc_replica.specs.Undo.{unbound, was_bound}
use Rattle.jc_replica.proofs.VariableNamesLemmas.{set_back, removed_back, not_there}
use Rattle.jc_replica.proofs.vars.unbind_var.Goals as goal

pub returns-in_default : goal.returns-in_default
returns-in_default c =
    let x = c.args.name.now in
    let vs = c.args.vars.now.entries in
    removed_back x vs c.remove.new.self.entries c.remove.ensures.entries ∙ ap (λ (o : Option (Box Bound Global)). unbound x (was_bound o) (vars_of vs)) (sym c.in_default.is)

pub returns-in-Some-get_mut : goal.returns-in-Some-get_mut
returns-in-Some-get_mut c =
    let x = c.args.name.now in
    let vs = c.args.vars.now.entries in
    let b = c.into_inner.result in
    set_back x b vs (c.get_mut.follows.lender b).entries (c.get_mut.follows.holds b).0
    ∙ ap (λ (d : Bound). unbound x (Some (bound_of d)) (vars_of vs)) c.into_inner.ensures
    ∙ ap (λ (o : Option (Box Bound Global)). unbound x (was_bound o) (vars_of vs)) (sym c.in-Some.is)

pub returns-in_default-get_mut : goal.returns-in_default-get_mut
returns-in_default-get_mut c =
    let x = c.args.name.now in
    let vs = c.args.vars.now.entries in
    let none : find name_cmp x (vars_of vs) ≡ None = sym (looked_up x vs) ∙ ap (option_map bound_of) (sym c.in_default-get_mut.ensures.value) in
    ap (λ m. vars_of m.entries) c.get_mut.follows.holds-at-none
    ∙ not_there x (bound_of c.in-Some.bound.value) (vars_of vs) none
    ∙ ap (λ (o : Option (Box Bound Global)). unbound x (was_bound o) (vars_of vs)) (sym c.in-Some.is)

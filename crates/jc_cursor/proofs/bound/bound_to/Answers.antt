use Rattle.std.proofs.Common.{ap, sym, ◌∙◌}
use Rattle.std.specs.Option.{option_map}
use Rattle.jc_rules.specs.Order.{name_cmp}
use Rattle.jc_rules.specs.Entries.{find}
use Rattle.jc_cursor.specs.declared.bound.Variables.{Variables}
use Rattle.jc_cursor.specs.Bounds.{bound_of, vars_of, vars_in}
use Rattle.jc_cursor.proofs.BoundsLemmas.{looked_up}
use Rattle.jc_cursor.proofs.bound.bound_to.Goals as goal

pub returns-in-Map : goal.returns-in-Map
returns-in-Map c =
    let x = c.args.name.now in
    ap (option_map bound_of) c.get.ensures.value ∙ looked_up x c.in-Map.map.now.entries ∙ ap (λ (v : Variables). find name_cmp x (vars_of (vars_in v))) (sym c.in-Map.is)

use Rattle.std.proofs.Common.{rules, Some, option_copied, sym, ap, ◌∙◌}
use Rattle.std.proofs.lemmas.Option.{same_Some}
use Rattle.std.proofs.lemmas.Slice.Eq.{slice_eq-Decides}
use Rattle.jc_clear.proofs.registers.is_set.Goals as goal

pub returns-in-Some : goal.returns-in-Some
returns-in-Some c =
    let same = slice_eq-Decides (λ a b. search rules) c.in-Some.set.now c.args.ids.now c.eq.result c.eq.ensures in
    let is = ap (λ o. option_copied o) c.in-Some.is in
    (λ t. is ∙ ap Some (same.0 t), λ e. same.1 (same_Some _ _ (sym is ∙ e)))

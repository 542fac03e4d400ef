use Rattle.std.proofs.Common.{◌≡◌, ◌+◌, ◌-◌, length, Some, true, sym, ◌∙◌, ap, subst, arith}
use Rattle.std.specs.List.{AllByRecursion}
use Rattle.std.specs.declared.cmp.Ordering.TheVariants.{Less}
use Rattle.jc_rules.specs.Order.{id_cmp}
use Rattle.jc_rules.specs.Ids.{AreRising, has_id}
use Rattle.jc_rules.proofs.OrderLemmas.{exact_ids}
use Rattle.jc_tree.proofs.PresencesLemmas.{above_last, found_there}
use Rattle.jc_tree.proofs.ids.Ids.against_last.Goals as goal

pub returns-in-Some-clause-above : goal.returns-in-Some-clause-above
returns-in-Some-clause-above c = λ h.
    let s = c.deref.result.now in
    let rises : AreRising s = rw c.deref.ensures.value c.self.invariant in
    let some : length s - 1 + 1 ≡ length s = omega (arith, c.in-Some.ensures.item.3.0) in
    subst (λ t. AllByRecursion (λ j. id_cmp j c.args.id ≡ Less) t) (c.deref.ensures.value ∙ c.self.view_is) (above_last c.args.id c.in-Some.last.now s (length s - 1) rises some (sym c.in-Some.ensures.value) (sym c.compare_ids.ensures ∙ h))

pub returns-in-Some-clause-there : goal.returns-in-Some-clause-there
returns-in-Some-clause-there c = λ h.
    let s = c.deref.result.now in
    let is : c.args.id ≡ c.in-Some.last.now = exact_ids c.args.id c.in-Some.last.now (sym c.compare_ids.ensures ∙ h) in
    subst (λ t. has_id c.args.id t ≡ true) (c.deref.ensures.value ∙ c.self.view_is) (found_there c.args.id s (length s - 1) (sym c.in-Some.ensures.value ∙ ap Some (sym is)))

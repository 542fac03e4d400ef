use Rattle.std.proofs.Common.{◌≡◌, ◌++◌, ◌∷◌, [], sym, ◌∙◌, ap, subst}
use Rattle.std.specs.List.{AllByRecursion}
use Rattle.std.specs.declared.cmp.Ordering.TheVariants.{Less}
use Rattle.jc_rules.specs.Order.{id_cmp}
use Rattle.jc_rules.specs.Ids.{AreRising}
use Rattle.jc_rules.proofs.IdsLemmas.{with-present}
use Rattle.jc_tree.proofs.PresencesLemmas.{above_with, above_rises}
use Rattle.jc_tree.proofs.ids.Ids.insert.Goals as goal

pub invariant_of-self-in-Greater : goal.invariant_of-self-in-Greater
invariant_of-self-in-Greater c =
    let above = c.against_last.ensures.above c.in-Greater.is in
    subst (λ t. AreRising t) (sym c.in_ok-push-in-Greater.ensures.items) (above_rises c.args.id c.self.inside.ids.items c.self.invariant (subst (λ t. AllByRecursion (λ j. id_cmp j c.args.id ≡ Less) t) (sym c.self.view_is) above))

pub returns-in_ok-push-in-Greater-clause-ok : goal.returns-in_ok-push-in-Greater-clause-ok
returns-in_ok-push-in-Greater-clause-ok c =
    c.in_ok-push-in-Greater.ensures.items ∙ ap (λ t. t ++ c.args.id ∷ []) c.self.view_is ∙ sym (above_with c.args.id c.args.self.now (c.against_last.ensures.above c.in-Greater.is))

pub returns-in-Equal-clause-ok : goal.returns-in-Equal-clause-ok
returns-in-Equal-clause-ok c =
    let rises : AreRising c.args.self.now = subst (λ t. AreRising t) c.self.view_is c.self.invariant in
    sym (with-present c.args.id c.args.self.now rises (c.against_last.ensures.there c.in-Equal.is))

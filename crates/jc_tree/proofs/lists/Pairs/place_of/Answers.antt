use Rattle.std.proofs.Common.{rules, ◌∙◌, subst}
use Rattle.std.proofs.lemmas.Fn.{always_returns_same}
use Rattle.jc_rules.specs.Order.{id_cmp}
use Rattle.jc_rules.specs.Entries.{keys_of}
use Rattle.jc_rules.specs.Ids.{AreRising}
use Rattle.jc_rules.specs.Context.{Register}
use Rattle.jc_rules.proofs.OrderLemmas.{ids_total, exact_ids}
use Rattle.jc_tree.specs.Sorted.{IsEntryPlace}
use Rattle.jc_tree.proofs.SortedLemmas.{searched}
use Rattle.jc_tree.proofs.lists.Pairs.place_of.Goals as goal

pub returns : goal.returns
returns c =
    let asked = c.binary_search_by_key in
    let rises : AreRising (keys_of c.deref.result.now) = rw c.deref.ensures.value c.self.invariant in
    let found : IsEntryPlace id_cmp c.args.id c.deref.result.now asked.result = searched ids_total exact_ids c.args.id c.deref.result.now asked.result rises asked.ensures.bound (asked.ensures.position (λ e. e.0) (always_returns_same _ _ _ (λ a r f k. search rules))) in
    subst (λ (r : Register). IsEntryPlace id_cmp c.args.id r asked.result) (c.deref.ensures.value ∙ c.self.view_is) found

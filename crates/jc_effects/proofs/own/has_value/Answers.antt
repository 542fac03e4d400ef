use Rattle.std.proofs.Common.{rules, ◌∙◌}
use Rattle.std.proofs.lemmas.Fn.{always_returns_same}
use Rattle.jc_rules.specs.Order.{id_cmp}
use Rattle.jc_rules.proofs.OrderLemmas.{ids_total, exact_ids}
use Rattle.jc_tree.specs.Sorted.{IsEntryPlace}
use Rattle.jc_tree.proofs.SortedLemmas.{searched}
use Rattle.jc_effects.proofs.PartsReadLemmas.{place_tells}
use Rattle.jc_effects.proofs.own.has_value.Goals as goal

pub returns : goal.returns
returns c =
    let asked = c.binary_search_by_key in
    let found : IsEntryPlace id_cmp c.args.id c.args.pairs.now asked.result = searched ids_total exact_ids c.args.id c.args.pairs.now asked.result c.requires.0 asked.ensures.bound (asked.ensures.position (λ e. e.0) (always_returns_same _ _ _ (λ a r f k. search rules))) in
    c.is_ok.ensures.value ∙ place_tells c.args.id c.args.pairs.now asked.result found

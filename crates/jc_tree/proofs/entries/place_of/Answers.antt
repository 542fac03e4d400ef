use Rattle.std.proofs.Common.{rules, subst}
use Rattle.std.proofs.lemmas.Fn.{always_returns_same}
use Rattle.std.specs.List.Sorted.{IsBinarySearchResult}
use Rattle.jc_rules.specs.contracts.key.KeyOrd.TheImpl.{cmp-value}
use Rattle.jc_rules.proofs.OrderLemmas.{same_cmp, keys_total, exact_keys}
use Rattle.jc_tree.proofs.SortedLemmas.{searched}
use Rattle.jc_tree.proofs.entries.place_of.Goals as goal

pub returns : goal.returns
returns g c =
    let q = c.args.key.now in
    let asked = c.binary_search_by in
    let found : IsBinarySearchResult (λ e. cmp-value.it e.0 q) c.args.entries.now asked.result = asked.ensures.position (λ e. cmp-value.it e.0 q) (always_returns_same _ _ _ (λ a r f k. search rules)) in
    searched keys_total exact_keys q c.args.entries.now asked.result c.requires asked.ensures.bound (subst (λ ord. IsBinarySearchResult ord c.args.entries.now asked.result) (λ i e. same_cmp e.0 q i) found)

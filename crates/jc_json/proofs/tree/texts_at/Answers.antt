use Rattle.std.proofs.Common.{rules, IsPermutation, IsSortedBy, subst}
use Rattle.jc_rules.specs.WellFormed.{IsWellFormedContext}
use Rattle.jc_tree.specs.Tree.{here, keys_lent}
use Rattle.jc_json.specs.Parts.{AreTextsFrom}
use Rattle.jc_json.proofs.PartsPlacesLemmas.{kept_at}
use Rattle.jc_json.proofs.PartsJoinedLemmas.{same_joined}
use Rattle.jc_json.proofs.PartsOrderLemmas.{is_below, sorted_by_texts, sorted_in_order, sorted_texts}
use Rattle.jc_json.proofs.tree.texts_at.Goals as goal

pub texts_of-requires : goal.texts_of-requires
texts_of-requires g c = (
  c.args.names.now,
  same_joined c.args.names.now c.as_slice.ensures.value c.as_slice-3.ensures.value c.as_str.ensures.value c.as_slice-2.ensures.value c.in_ok-lens.ensures,
)

pub returns-clause-order : goal.returns-clause-order
returns-clause-order g c =
    let names = c.args.names.now in
    let keys = keys_lent c.as_slice-3.result.now in
    let all = c.in_ok-texts.texts.items in
    let ts = c.sort_by.new.self.items in
    let joined = same_joined names c.as_slice.ensures.value c.as_slice-3.ensures.value c.as_str.ensures.value c.as_slice-2.ensures.value c.in_ok-lens.ensures in
    let from : AreTextsFrom names keys all = c.in_ok-texts.ensures names joined in
    let moved : IsPermutation all ts = c.in_ok-sort_by.ensures.permutation in
    let sorted : IsSortedBy is_below ts = sorted_by_texts ts c.in_ok-sort_by.ensures.sorted (λ a r q k. search rules) in
    sorted_in_order names keys all ts from moved sorted

pub returns-clause-texts : goal.returns-clause-texts
returns-clause-texts g c = λ at named.
    let t = g.S.TreeStore.tree c.args.store.now in
    let names = c.args.names.now in
    let keys = keys_lent c.in_ok-keys.keys.items in
    let all = c.in_ok-texts.texts.items in
    let ts = c.sort_by.new.self.items in
    let kept : IsWellFormedContext (here at t) = kept_at at t.now (g.met.S.TreeStore.there c.args.store.now c.args.place at named) (g.met.S.TreeStore.kept c.args.store.now) in
    let joined = same_joined names c.as_slice.ensures.value c.as_slice-3.ensures.value c.as_str.ensures.value c.as_slice-2.ensures.value c.in_ok-lens.ensures in
    let from : AreTextsFrom names keys all = subst (λ ks. AreTextsFrom names (keys_lent ks) all) c.as_slice-3.ensures.value (c.in_ok-texts.ensures names joined) in
    let moved : IsPermutation all ts = c.in_ok-sort_by.ensures.permutation in
    let sorted : IsSortedBy is_below ts = sorted_by_texts ts c.in_ok-sort_by.ensures.sorted (λ a r q k. search rules) in
    sorted_texts names (here at t) keys all ts kept c.in_ok-keys.ensures.rising (c.in_ok-keys.ensures.all at named) from moved sorted

use Rattle.std.proofs.Common.{◌≡◌, ◌∷◌, Some, length, slice_set, sym, ◌∙◌, ap, subst, arith}
use Rattle.jc_rules.specs.declared.key.Tagged.TheVariants.{MapT, ListT}
use Rattle.jc_rules.specs.Order.{key_cmp}
use Rattle.jc_rules.specs.Entries.{find}
use Rattle.jc_rules.proofs.OrderLemmas.{keys_total, exact_keys}
use Rattle.jc_rules.proofs.EntriesLemmas.{rising-put}
use Rattle.jc_rules.specs.ContextsAt.{context_at}
use Rattle.jc_tree.specs.Sorted.{AreSorted}
use Rattle.jc_tree.specs.Change.{changed_by, changed_at}
use Rattle.jc_tree.specs.Undo.{former_of}
use Rattle.std.proofs.lemmas.Result.{IfOk-weaker}
use Rattle.jc_tree.proofs.NodeLemmas.{map_child, list_child, map_changed, list_changed, map_below, list_below, none_there, if_some, child_changed, on_ok}
use Rattle.jc_tree.proofs.SortedLemmas.{find-standing, find-absent, put-standing}
use Rattle.jc_tree.proofs.node.+changing.Goals as goal

pub Node::change_at-change_in-requires : goal.Node::change_at-change_in-requires
Node::change_at-change_in-requires t c =
    let cut : c.args.at.now ≡ MapT c.in-MapT.key ∷ c.in-Some.rest.now = c.in-Some.ensures.cases.0 ∙ ap (λ k. k ∷ c.in-Some.rest.now) c.in-MapT.is in
    (omega (arith, ap length cut), (c.self.invariant.maps_rise, map_child _ _ _ _ _ _ c.self.view_is c.in-MapT.key c.in-Some.rest.now (rw cut at c.requires)))

pub Node::change_at-change_in-requires-in-ListT : goal.Node::change_at-change_in-requires-in-ListT
Node::change_at-change_in-requires-in-ListT t c =
    let cut : c.args.at.now ≡ ListT c.in-ListT.key ∷ c.in-Some.rest.now = c.in-Some.ensures.cases.0 ∙ ap (λ k. k ∷ c.in-Some.rest.now) c.in-ListT.is in
    (omega (arith, ap length cut), (c.self.invariant.lists_rise, list_child _ _ _ _ _ _ c.self.view_is c.in-ListT.key c.in-Some.rest.now (rw cut at c.requires)))

pub Node::change_at-returns-in-MapT-clause-ok : goal.Node::change_at-returns-in-MapT-clause-ok
Node::change_at-returns-in-MapT-clause-ok t c =
    let cut : c.args.at.now ≡ MapT c.in-MapT.key ∷ c.in-Some.rest.now = c.in-Some.ensures.cases.0 ∙ ap (λ k. k ∷ c.in-Some.rest.now) c.in-MapT.is in
    let there = map_child _ _ _ _ _ _ c.self.view_is c.in-MapT.key c.in-Some.rest.now (rw cut at c.requires) in
    rw cut (on_ok _ (λ h. map_changed _ _ _ _ _ _ c.self.view_is c.in-MapT.key c.in-Some.rest.now (changed_by c.args.change) c.change_in.new.children.items h (λ e. none_there _ _ there e)) c.change_in.ensures.ok)

pub Node::change_at-returns-in-ListT-clause-ok : goal.Node::change_at-returns-in-ListT-clause-ok
Node::change_at-returns-in-ListT-clause-ok t c =
    let cut : c.args.at.now ≡ ListT c.in-ListT.key ∷ c.in-Some.rest.now = c.in-Some.ensures.cases.0 ∙ ap (λ k. k ∷ c.in-Some.rest.now) c.in-ListT.is in
    let there = list_child _ _ _ _ _ _ c.self.view_is c.in-ListT.key c.in-Some.rest.now (rw cut at c.requires) in
    rw cut (on_ok _ (λ h. list_changed _ _ _ _ _ _ c.self.view_is c.in-ListT.key c.in-Some.rest.now (changed_by c.args.change) c.change_in-in-ListT.new.children.items h (λ e. none_there _ _ there e)) c.change_in-in-ListT.ensures.ok)

pub Node::change_at-returns-in-MapT-clause-former : goal.Node::change_at-returns-in-MapT-clause-former
Node::change_at-returns-in-MapT-clause-former t c =
    let cut : c.args.at.now ≡ MapT c.in-MapT.key ∷ c.in-Some.rest.now = c.in-Some.ensures.cases.0 ∙ ap (λ k. k ∷ c.in-Some.rest.now) c.in-MapT.is in
    let there = map_child _ _ _ _ _ _ c.self.view_is c.in-MapT.key c.in-Some.rest.now (rw cut at c.requires) in
    rw cut (IfOk-weaker _ _ _ (λ former h. map_below _ _ _ _ _ _ c.self.view_is (λ d. former ≡ former_of c.args.change d) c.in-MapT.key c.in-Some.rest.now there h) c.change_in.ensures.former)

pub Node::change_at-returns-in-ListT-clause-former : goal.Node::change_at-returns-in-ListT-clause-former
Node::change_at-returns-in-ListT-clause-former t c =
    let cut : c.args.at.now ≡ ListT c.in-ListT.key ∷ c.in-Some.rest.now = c.in-Some.ensures.cases.0 ∙ ap (λ k. k ∷ c.in-Some.rest.now) c.in-ListT.is in
    let there = list_child _ _ _ _ _ _ c.self.view_is c.in-ListT.key c.in-Some.rest.now (rw cut at c.requires) in
    rw cut (IfOk-weaker _ _ _ (λ former h. list_below _ _ _ _ _ _ c.self.view_is (λ d. former ≡ former_of c.args.change d) c.in-ListT.key c.in-Some.rest.now there h) c.change_in-in-ListT.ensures.former)

-- the child that stands at the key's place
pub change_in-change_at-requires : goal.change_in-change_at-requires
change_in-change_at-requires t c =
    let stands = rw c.as_slice.ensures.value at c.in-Ok.ensures in
    let child : find key_cmp c.args.key.now c.args.children.now.items ≡ Some c.index_mut.result.now.1 = find-standing keys_total exact_keys _ _ _ _ c.requires.sorted stands c.index_mut.ensures.value in
    (omega arith, rw child at c.requires.there)

pub change_in-unreachable-requires : goal.change_in-unreachable-requires
change_in-unreachable-requires t c =
    let belongs = rw c.as_slice.ensures.value at c.in-Err.ensures in
    rw (find-absent keys_total exact_keys _ _ _ belongs) at c.requires.there

pub change_in-returns-clause-ok : goal.change_in-returns-clause-ok
change_in-returns-clause-ok t c =
    let entries = c.args.children.now.items in
    let entry = c.index_mut.result.now in
    let stands = rw c.as_slice.ensures.value at c.in-Ok.ensures in
    let child : find key_cmp c.args.key.now entries ≡ Some entry.1 = find-standing keys_total exact_keys _ _ _ _ c.requires.sorted stands c.index_mut.ensures.value in
    on_ok _ (child_changed c.args.key.now (changed_at c.args.at.now c.args.change) entries (λ x. slice_set entries c.in-Ok.i (entry.0, x)) entry.1 c.change_at.new.self child (λ x. sym (put-standing keys_total exact_keys _ _ _ entry x c.requires.sorted stands c.index_mut.ensures.value))) c.change_at.ensures.ok

pub change_in-returns-clause-former : goal.change_in-returns-clause-former
change_in-returns-clause-former t c =
    let entry = c.index_mut.result.now in
    let stands = rw c.as_slice.ensures.value at c.in-Ok.ensures in
    let child : find key_cmp c.args.key.now c.args.children.now.items ≡ Some entry.1 = find-standing keys_total exact_keys _ _ _ _ c.requires.sorted stands c.index_mut.ensures.value in
    IfOk-weaker _ _ _ (λ former h. if_some (λ d. former ≡ former_of c.args.change (context_at c.args.at.now d)) _ entry.1 child h) c.change_at.ensures.former

pub change_in-returns-clause-still_sorted : goal.change_in-returns-clause-still_sorted
change_in-returns-clause-still_sorted t c =
    let stands = rw c.as_slice.ensures.value at c.in-Ok.ensures in
    subst AreSorted (put-standing keys_total exact_keys _ _ _ _ c.change_at.new.self c.requires.sorted stands c.index_mut.ensures.value) (rising-put keys_total exact_keys c.args.key.now c.change_at.new.self c.args.children.now.items c.requires.sorted)

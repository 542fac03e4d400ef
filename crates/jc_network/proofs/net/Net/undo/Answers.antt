use Rattle.std.proofs.Common.{◌≡◌, ◌<◌, [], ◌∷◌, ◌++◌, length, reverse, map, option_to_list, slice_get, slice_set, Some, sym, ◌∙◌, ap, subst, arith}
use Rattle.jc_network.specs.NetworkHistory.{NetworkHistory, network_of, earlier_of, of_version}
use Rattle.jc_network.proofs.InvariantLemmas.{can_index, goes_back, undone_by, versions_before}
use Rattle.jc_network.proofs.HalvesLemmas.{index_get}
use Rattle.jc_network.proofs.net.Net.undo.Goals as goal

pub index_mut-requires : goal.index_mut-requires
index_mut-requires c =
    let items = c.self.inside.replicas.items in
    let more : c.self.inside.whose.items ≡ c.pop.new.self.items ++ c.from.result ∷ [] = c.pop.ensures.items ∙ (ap (λ o. c.pop.new.self.items ++ option_to_list o) c.in-Some.is ∙ ap (λ n. c.pop.new.self.items ++ n ∷ []) (sym c.from.ensures)) in
    let l : c.from.result < length items = can_index c.self.inside.version (length c.self.inside.names.items) items c.from.result c.self.inside.whose.items c.pop.new.self.items more c.self.invariant in
    let n = c.self.inside.replicas.ok.0 in
    omega (arith, n, l)

pub invariant_of-self : goal.invariant_of-self
invariant_of-self c =
    let items = c.self.inside.replicas.items in
    let i = c.from.result in
    let count = length c.self.inside.names.items in
    let more : c.self.inside.whose.items ≡ c.pop.new.self.items ++ i ∷ [] = c.pop.ensures.items ∙ (ap (λ o. c.pop.new.self.items ++ option_to_list o) c.in-Some.is ∙ ap (λ n. c.pop.new.self.items ++ n ∷ []) (sym c.from.ensures)) in
    let l : i < length items = can_index c.self.inside.version count items i c.self.inside.whose.items c.pop.new.self.items more c.self.invariant in
    let there : slice_get items i ≡ Some c.index_mut.result.now = index_get items i _ l c.index_mut.ensures.value in
    (undone_by c.self.inside.version count items i c.index_mut.result.now c.undo.new.self c.self.inside.whose.items c.pop.new.self.items more c.self.invariant there c.undo.ensures.number c.undo.result c.undo.ensures.undone c.undo.ensures.none).kept

pub returns-in-Some-clause-undone : goal.returns-in-Some-clause-undone
returns-in-Some-clause-undone c = λ _.
    let items = c.self.inside.replicas.items in
    let i = c.from.result in
    let count = length c.self.inside.names.items in
    let more : c.self.inside.whose.items ≡ c.pop.new.self.items ++ i ∷ [] = c.pop.ensures.items ∙ (ap (λ o. c.pop.new.self.items ++ option_to_list o) c.in-Some.is ∙ ap (λ n. c.pop.new.self.items ++ n ∷ []) (sym c.from.ensures)) in
    let l : i < length items = can_index c.self.inside.version count items i c.self.inside.whose.items c.pop.new.self.items more c.self.invariant in
    let there : slice_get items i ≡ Some c.index_mut.result.now = index_get items i _ l c.index_mut.ensures.value in
    let s = undone_by c.self.inside.version count items i c.index_mut.result.now c.undo.new.self c.self.inside.whose.items c.pop.new.self.items more c.self.invariant there c.undo.ensures.number c.undo.result c.undo.ensures.undone c.undo.ensures.none in
    let new = slice_set items i c.undo.new.self in
    let v = c.self.inside.version in
    subst (λ (d : NetworkHistory). d.history.earlier ≡ map (of_version v) (earlier_of (reverse c.pop.new.self.items) new) ++ of_version v (network_of new) ∷ []) c.self.view_is (versions_before v count items new c.self.inside.whose.items c.pop.new.self.items s)

-- there was one
pub returns-in-Some-clause-none : goal.returns-in-Some-clause-none
returns-in-Some-clause-none c = λ no.
    let items = c.self.inside.replicas.items in
    let i = c.from.result in
    let count = length c.self.inside.names.items in
    let more : c.self.inside.whose.items ≡ c.pop.new.self.items ++ i ∷ [] = c.pop.ensures.items ∙ (ap (λ o. c.pop.new.self.items ++ option_to_list o) c.in-Some.is ∙ ap (λ n. c.pop.new.self.items ++ n ∷ []) (sym c.from.ensures)) in
    let l : i < length items = can_index c.self.inside.version count items i c.self.inside.whose.items c.pop.new.self.items more c.self.invariant in
    let there : slice_get items i ≡ Some c.index_mut.result.now = index_get items i _ l c.index_mut.ensures.value in
    absurd (goes_back c.self.inside.version count items i c.index_mut.result.now c.self.inside.whose.items c.pop.new.self.items more c.self.invariant there (c.undo.ensures.none no).1)

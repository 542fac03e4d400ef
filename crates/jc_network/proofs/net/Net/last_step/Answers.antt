use Rattle.std.proofs.Common.{◌≡◌, ◌<◌, ◌-◌, ℕ, [], ◌∷◌, ◌++◌, length, take, slice_get, Some, ◌∙◌, ap, subst, arith}
use Rattle.jc_network.specs.LastStep.{NetHasLastStep}
use Rattle.jc_network.specs.NetworkHistory.{NetworkHistory}
use Rattle.jc_network.proofs.HalvesLemmas.{index_get}
use Rattle.jc_network.proofs.InvariantLemmas.{can_index, goes_back}
use Rattle.jc_network.proofs.LastStepLemmas.{last_of, if_some, never_none, net_has_last_step}
use Rattle.jc_network.proofs.net.Net.last_step.Goals as goal

pub index-requires : goal.index-requires
index-requires c =
    let i = c.self.inside in
    let items = i.replicas.items in
    let p = c.from.result in
    let count = length i.names.items in
    let fewer = take (length i.whose.items - 1) i.whose.items in
    let whose : i.whose.items ≡ fewer ++ p ∷ [] = last_of i.whose.items c.deref.result.now p c.deref.ensures.value (ap (λ (n : ℕ). Some n) c.from.ensures ∙ c.in_ok-p.ensures.value) in
    let l : p < length items = can_index i.version count items p i.whose.items fewer whose c.self.invariant in
    let n = i.replicas.ok.0 in
    omega (arith, n, l)

pub returns-clause-some : goal.returns-clause-some
returns-clause-some c =
    let i = c.self.inside in
    let items = i.replicas.items in
    let p = c.from.result in
    let count = length i.names.items in
    let fewer = take (length i.whose.items - 1) i.whose.items in
    let whose : i.whose.items ≡ fewer ++ p ∷ [] = last_of i.whose.items c.deref.result.now p c.deref.ensures.value (ap (λ (n : ℕ). Some n) c.from.ensures ∙ c.in_ok-p.ensures.value) in
    let l : p < length items = can_index i.version count items p i.whose.items fewer whose c.self.invariant in
    let there : slice_get items p ≡ Some c.index.result.now = index_get items p _ l c.index.ensures in
    if_some c.last_step.result _ _
    (λ step last. subst (λ (v : NetworkHistory). NetHasLastStep v.history step) c.self.view_is
    (net_has_last_step i.version i.names.items count items p c.index.result.now i.whose.items fewer step whose c.self.invariant there last))
    c.last_step.ensures.some

pub returns-clause-none : goal.returns-clause-none
returns-clause-none c =
    let i = c.self.inside in
    let items = i.replicas.items in
    let p = c.from.result in
    let count = length i.names.items in
    let fewer = take (length i.whose.items - 1) i.whose.items in
    let whose : i.whose.items ≡ fewer ++ p ∷ [] = last_of i.whose.items c.deref.result.now p c.deref.ensures.value (ap (λ (n : ℕ). Some n) c.from.ensures ∙ c.in_ok-p.ensures.value) in
    let l : p < length items = can_index i.version count items p i.whose.items fewer whose c.self.invariant in
    let there : slice_get items p ≡ Some c.index.result.now = index_get items p _ l c.index.ensures in
    never_none c.last_step.result _ _ (goes_back i.version count items p c.index.result.now i.whose.items fewer whose c.self.invariant there) c.last_step.ensures.none

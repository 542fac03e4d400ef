use Rattle.std.proofs.Common.{ℕ, List, length, reverse, map, sym, ◌∙◌, ap, subst}
use Rattle.jc_rules.specs.History.{begun}
use Rattle.jc_replica.specs.ReplicaHistory.{ReplicaHistory}
use Rattle.jc_network.specs.NetworkHistory.{NetworkHistory, begin_now, network_history_of}
use Rattle.jc_network.specs.Invariant.{IsNet}
use Rattle.jc_network.proofs.GivenHistoryLemmas.{all_begin, begins_anew, history_anew}
use Rattle.jc_network.proofs.net.Net.begin.Goals as goal

pub invariant_of-self : goal.invariant_of-self
invariant_of-self c =
    let i = c.self.inside in
    let all = all_begin i.replicas.items c.as_mut_slice.result.now c.begin_all.new.replicas i.replicas.len i.replicas.ok.0 c.as_mut_slice.ensures.value c.begin_all.ensures in
    subst (λ (ps : List ReplicaHistory). IsNet i.version (length i.names.items) (reverse c.clear.new.self.items) ps) (sym all)
    (subst (λ (ws : List ℕ). IsNet i.version (length i.names.items) (reverse ws) (map begin_now i.replicas.items)) (sym c.clear.ensures.items)
    (begins_anew i.version _ _ _ c.self.invariant))

pub returns : goal.returns
returns c =
    let i = c.self.inside in
    let all = all_begin i.replicas.items c.as_mut_slice.result.now c.begin_all.new.replicas i.replicas.len i.replicas.ok.0 c.as_mut_slice.ensures.value c.begin_all.ensures in
    ap (λ (ps : List ReplicaHistory). network_history_of i.version i.names.items (reverse c.clear.new.self.items) ps) all
    ∙ ap (λ (ws : List ℕ). network_history_of i.version i.names.items (reverse ws) (map begin_now i.replicas.items)) c.clear.ensures.items
    ∙ history_anew i.version i.names.items (reverse i.whose.items) i.replicas.items
    ∙ ap (λ (v : NetworkHistory). record v { history = begun v.history.now }) c.self.view_is

-- Lemmas about Enabled: in every run queues and received operations are sorted by identifier.
use Rattle.std.proofs.Common.{◌≡◌, ℕ, List, [], ◌∷◌, Some, ◌⊎◌, inl, inr, slice_get, slice_set, sym, ◌∙◌, ap, subst}
use Rattle.std.proofs.lemmas.Option.{same_Some}
use Rattle.jc_rules.specs.declared.operation.Op.{Op}
use Rattle.jc_rules.specs.declared.operation.Event.{Event}
use Rattle.jc_rules.specs.declared.rule.Rule.{Rule}
use Rattle.jc_rules.specs.State.{State}
use Rattle.jc_rules.specs.Step.{Step, After, replica_of}
use Rattle.jc_rules.specs.Syntax.{Cmd}
use Rattle.jc_replica.specs.Operations.{AreInOrder}
use Rattle.jc_replica.proofs.ReceivedUnionLemmas.{with-in_order, both-in_order}
use Rattle.jc_network.specs.Laws.{starts, IsReached}
use Rattle.jc_network.specs.RunInvariant.{IsReplicaAt}
use Rattle.jc_network.proofs.EventDidLemmas.{new_op, Did, bound, made, sent, received, took, applied, done, did}
use Rattle.jc_network.proofs.MembersLemmas.{set_there, set_other}
use Rattle.jc_network.proofs.RunInvariantStartLemmas.{started}

pub record IsOrdered (A : State) : Type 0 where
  pub made : AreInOrder A.queue
  pub offered : AreInOrder A.send
  pub received : AreInOrder A.recv

order_did : (A : State) (event : Event) (read : List Op) (B : State) → Did A event read B → IsOrdered A → IsOrdered B
order_did A event read B (bound p rest x e b is left s new) h = subst IsOrdered (sym new) (record { made = h.made; offered = h.offered; received = h.received })
order_did A event read B (made p rest c e cur m t is left s op new) h =
    subst IsOrdered (sym new) (record { made = with-in_order (new_op p A cur m) A.queue h.made; offered = h.offered; received = h.received })
order_did A event read B (sent p rest is left new) h = subst IsOrdered (sym new) (record { made = h.made; offered = both-in_order A.send A.queue h.offered; received = h.received })
order_did A event read B (received p q rest is left new) h =
    subst IsOrdered (sym new) (record { made = h.made; offered = h.offered; received = both-in_order A.recv read h.received })
order_did A event read B (took p q i rest o is left found new) h =
    subst IsOrdered (sym new) (record { made = h.made; offered = h.offered; received = both-in_order A.recv (o ∷ []) h.received })
order_did A event read B (applied p i rest o t is left there new_id deps op new) h = subst IsOrdered (sym new) (record { made = h.made; offered = h.offered; received = h.received })
order_did A event read B (done p rest is left new) h = subst IsOrdered (sym new) (record { made = h.made; offered = h.offered; received = h.received })

abbrev AreOrdered : List State → Type 0
AreOrdered network = (p : ℕ) (A : State) → IsReplicaAt network p A → IsOrdered A

order_step : (N : List State) (event : Event) (M : List State) (rows : List (Rule × ℕ)) → AreOrdered N → Step N event M rows → AreOrdered M
order_step N event M rows h s q B there = go (set_other N p q s.after)
  where
    p : ℕ
    p = replica_of event

    set_at : IsReplicaAt (slice_set N p s.after) q B
    set_at = subst (λ (L : List State). IsReplicaAt L q B) s.is_new there

    after : IsOrdered s.after
    after = order_did s.before event s.read s.after (did s.before event s.read s.after (record { derivation = s.derivation; holds = s.holds; concludes = s.concludes })) (h p s.before s.is_there)

    go : (q ≡ p) ⊎ (slice_get (slice_set N p s.after) q ≡ slice_get N q) → IsOrdered B
    go (inl e) =
        let at : slice_get (slice_set N p s.after) q ≡ Some s.after = ap (slice_get (slice_set N p s.after)) e ∙ set_there N p s.before s.after s.is_there in
        subst IsOrdered (same_Some s.after B (sym at ∙ set_at)) after
    go (inr e) = h q B (sym e ∙ set_at)

order_after : (N : List State) (events : List Event) (M : List State) → AreOrdered N → After N events M → AreOrdered M
order_after N [] M h a = subst AreOrdered a h
order_after N (e ∷ es) M h a = order_after a.0 es M (order_step N e a.0 a.1 h a.2) a.3

order_start : (scripts : List (List Cmd)) → AreOrdered (starts scripts)
order_start scripts p A there = let x = started scripts p A there in subst IsOrdered (sym x.1) (record { made = tt; offered = tt; received = tt })

pub ordered : (scripts : List (List Cmd)) (network : List State) → IsReached scripts network → (p : ℕ) (A : State) → IsReplicaAt network p A → IsOrdered A
ordered scripts network r = order_after (starts scripts) r.0 network (order_start scripts) r.1

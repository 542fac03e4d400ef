use Rattle.std.proofs.Common.{refl, ap, ◌∙◌}
use Rattle.jc_rules.specs.ReplicaNames.{name_at}
use Rattle.jc_dump.proofs.DumpReplicaLemmas.{of_replica, parts_kept}
use Rattle.jc_dump.proofs.replica.shown_of.Goals as goal

pub returns-clause-name : goal.returns-clause-name
returns-clause-name c = c.name_at.ensures ∙ ap (λ ns. name_at ns c.args.p) c.names.ensures.names

pub returns-clause-parts : goal.returns-clause-parts
returns-clause-parts c = λ A there.
    parts_kept A c.in-Some.replica.now.history.now _ _ c.left.result.now c.queue.result.now c.received.result.now c.sent.result.now
    (of_replica c.args.net.now.history.now.states c.args.p c.in-Some.replica.now A c.in-Some.ensures.some there)
    c.acted.ensures refl c.left.ensures (c.in_ok-applied_ids.ensures.applied A there)
    c.in_ok-ids_of.ensures c.queue.ensures.queue
    c.in_ok-ids_of-2.ensures c.received.ensures.received
    c.in_ok-ids_of-3.ensures c.sent.ensures.sent
    c.tree.ensures c.vars.ensures

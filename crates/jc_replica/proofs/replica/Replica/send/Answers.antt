use Rattle.std.proofs.Common.{rules, ◌≡◌, length, refl, ◌∙◌, ap, [], ◌∷◌, ◌++◌, ℕ, map, true, arith}
use Rattle.jc_rules.specs.Trace.{pushed}
use Rattle.jc_rules.specs.declared.operation.Event.TheVariants as E
use Rattle.jc_rules.specs.declared.rule.Rule.TheVariants as R
use Rattle.jc_syntax.specs.Trees.{cmd_of}
use Rattle.jc_cursor.specs.Bounds.{vars_of}
use Rattle.jc_replica.specs.declared.record.Record.{Record}
use Rattle.jc_replica.specs.declared.record.Change.TheVariants as C
use Rattle.jc_replica.specs.Undo.{Held, held_of}
use Rattle.jc_replica.specs.ReplicaHistory.{ReplicaHistory, no_rows}
use Rattle.jc_replica.proofs.UndoStepsLemmas.{stepped}
use Rattle.jc_replica.proofs.AnswersLemmas.{ready_now, sent_ready, sends, occurs}
use Rattle.jc_replica.proofs.replica.Replica.send.Goals as goal
use Rattle.jc_rules.proofs.HistoryLemmas.{still}

pub invariant_of-self-2 : goal.invariant_of-self-2
invariant_of-self-2 g c =
    let i = c.self.inside in
    let t = g.S.TreeStore.tree i.store in
    let h : Held = held_of i.done i.acted (vars_of i.vars.entries) i.ops i.queue.items i.sent i.recv in
    let h2 : Held = held_of i.done true (vars_of i.vars.entries) i.ops i.queue.items c.len-self-inside.result i.recv in
    let r : Record = record { mark = c.mark.result; change = C.Sent i.sent i.acted } in
    let len : c.len-self-inside.result ≡ length i.queue.items = search rules in
    let sent : h2 ≡ held_of h.done true h.vars h.ops h.queue (length h.queue) h.recv = ap (λ (n : ℕ). held_of h.done true h.vars h.ops h.queue n h.recv) len in
    let one : c.push-2.new.self.items ≡ i.steps.items ++ r ∷ [] = search rules in
    (stepped c.self.invariant t c.push-2.new.self.items r h2 (still t) one c.mark.ensures refl (omega (arith, c.self.invariant.bounds.sent, len)) (sent_ready (map cmd_of i.script.items) h h2 t.now (ready_now c.self.invariant) sent) (record { done = c.self.invariant.bounds.done; sent = omega (arith, len) })).kept

pub returns : goal.returns
returns g c =
    let i = c.self.inside in
    let script = map cmd_of i.script.items in
    let t = g.S.TreeStore.tree i.store in
    let h : Held = held_of i.done i.acted (vars_of i.vars.entries) i.ops i.queue.items i.sent i.recv in
    let h2 : Held = held_of i.done true (vars_of i.vars.entries) i.ops i.queue.items c.len-self-inside.result i.recv in
    let r : Record = record { mark = c.mark.result; change = C.Sent i.sent i.acted } in
    let ready = ready_now c.self.invariant in
    let left = ap (λ (p : ReplicaHistory). p.history.now.left) c.self.view_is ∙ c.in_ok-at_yield.ensures.ok.1 in
    let len : c.len-self-inside.result ≡ length i.queue.items = search rules in
    let sent : h2 ≡ held_of h.done true h.vars h.ops h.queue (length h.queue) h.recv = ap (λ (n : ℕ). held_of h.done true h.vars h.ops h.queue n h.recv) len in
    let one : c.push-2.new.self.items ≡ i.steps.items ++ r ∷ [] = search rules in
    let s = stepped c.self.invariant t c.push-2.new.self.items r h2 (still t) one c.mark.ensures refl (omega (arith, c.self.invariant.bounds.sent, len)) (sent_ready script h h2 t.now ready sent) (record { done = c.self.invariant.bounds.done; sent = omega (arith, len) }) in
    let rows : c.push.new.self ≡ pushed no_rows R.Send = search rules in
    occurs c.self.invariant i.number _ c.self.view_is E.Send [] t c.push-2.new.self.items h2 _ (sends _ script h h2 t.now _ _ ready left sent rows) s.earlier

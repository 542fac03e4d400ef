use Rattle.std.proofs.Common.{rules, ◌≡◌, ◌++◌, ◌∷◌, [], List, take, unwrap_or, option_copied, Bor, refl, sym, ap, subst, ◌∙◌}
use Rattle.jc_rules.specs.declared.operation.Op.{Op}
use Rattle.jc_rules.specs.Trace.{pushed}
use Rattle.jc_cursor.specs.Bounds.{vars_of}
use Rattle.jc_replica.specs.declared.record.Record.{Record}
use Rattle.jc_replica.specs.declared.record.Change.TheVariants as C
use Rattle.jc_replica.specs.Operations.{AreInOrder, AreHanded}
use Rattle.jc_replica.specs.ReplicaHistory.{ReplicaHistory, no_rows}
use Rattle.jc_replica.specs.Received.{receiving_rule, read_of}
use Rattle.jc_replica.specs.Undo.{Held, held_of, undone_once}
use Rattle.jc_replica.proofs.AnswersLemmas.{ready_now}
use Rattle.jc_replica.proofs.SendLemmas.{front_in_order}
use Rattle.jc_replica.proofs.ReceiveLemmas.{came_again, offered_now, offered_order, read_order, read_handed, receives_read, refused_read, received_held, received_step, has_received}
use Rattle.jc_replica.proofs.replica.Replica.receive.Goals as goal

pub read_of-requires : goal.read_of-requires
read_of-requires g c =
    let i = c.self.inside in
    let all : c.deref.result.now ≡ i.queue.items = search rules in
    let own : AreInOrder (take i.sent c.deref.result.now) = subst (λ (xs : List Op). AreInOrder (take i.sent xs)) (sym all) (front_in_order i.sent i.queue.items (ready_now c.self.invariant).in_order) in
    let ops : c.unwrap_or-ops.result.now ≡ unwrap_or (option_copied c.args.offered) (take i.sent c.deref.result.now) = ap (λ (b : Bor (List Op)). b.now) c.unwrap_or-ops.ensures ∙ offered_now c.args.offered _ in
    subst AreInOrder (sym ops) (offered_order c.args.offered _ c.requires.order own)

pub unite-requires : goal.unite-requires
unite-requires g c =
    let i = c.self.inside in
    let all : c.deref.result.now ≡ i.queue.items = search rules in
    let own : AreInOrder (take i.sent c.deref.result.now) = subst (λ (xs : List Op). AreInOrder (take i.sent xs)) (sym all) (front_in_order i.sent i.queue.items (ready_now c.self.invariant).in_order) in
    let ops : c.unwrap_or-ops.result.now ≡ unwrap_or (option_copied c.args.offered) (take i.sent c.deref.result.now) = ap (λ (b : Bor (List Op)). b.now) c.unwrap_or-ops.ensures ∙ offered_now c.args.offered _ in
    let order = subst AreInOrder (sym ops) (offered_order c.args.offered _ c.requires.order own) in
    read_order c.args.id c.unwrap_or-ops.result.now c.in-Some.read.now (sym c.in-Some.ensures) order

pub invariant_of-self-2 : goal.invariant_of-self-2
invariant_of-self-2 g c =
    let i = c.self.inside in
    let h : Held = held_of i.done i.acted (vars_of i.vars.entries) i.ops i.queue.items i.sent i.recv in
    let r : Record = record { mark = c.mark-mark.result; change = C.Received c.in_ok-came.came i.acted } in
    let one : c.push-2.new.self.items ≡ i.steps.items ++ r ∷ [] = search rules in
    let all : c.deref.result.now ≡ i.queue.items = search rules in
    let off : take i.sent c.deref.result.now ≡ c.args.self.now.history.now.send = ap (take i.sent) all ∙ ap (λ (p : ReplicaHistory). p.history.now.send) c.self.view_is in
    let ops : c.unwrap_or-ops.result.now ≡ unwrap_or (option_copied c.args.offered) c.args.self.now.history.now.send = ap (λ (b : Bor (List Op)). b.now) c.unwrap_or-ops.ensures ∙ offered_now c.args.offered _ ∙ ap (unwrap_or (option_copied c.args.offered)) off in
    let handed = read_handed c.args.id c.unwrap_or-ops.result.now c.in-Some.read.now (sym c.in-Some.ensures) (subst AreHanded (sym ops) c.requires.handed) in
    let done = c.in_ok-came.ensures in
    let back_is : undone_once r.change (received_held h c.unite.new.self) ≡ h = ap (λ (x : List Op). held_of h.done h.acted h.vars h.ops h.queue h.sent x) done.back in
    (received_step c.self.invariant c.unite.new.self c.push-2.new.self.items r one c.mark-mark.ensures back_is (came_again _ _ _ done.back done.came) done.order (done.handed (ready_now c.self.invariant).handed handed)).kept

pub returns : goal.returns
returns g c = λ q.
    let i = c.self.inside in
    let h : Held = held_of i.done i.acted (vars_of i.vars.entries) i.ops i.queue.items i.sent i.recv in
    let r : Record = record { mark = c.mark-mark.result; change = C.Received c.in_ok-came.came i.acted } in
    let one : c.push-2.new.self.items ≡ i.steps.items ++ r ∷ [] = search rules in
    let all : c.deref.result.now ≡ i.queue.items = search rules in
    let off : take i.sent c.deref.result.now ≡ c.args.self.now.history.now.send = ap (take i.sent) all ∙ ap (λ (p : ReplicaHistory). p.history.now.send) c.self.view_is in
    let ops : c.unwrap_or-ops.result.now ≡ unwrap_or (option_copied c.args.offered) c.args.self.now.history.now.send = ap (λ (b : Bor (List Op)). b.now) c.unwrap_or-ops.ensures ∙ offered_now c.args.offered _ ∙ ap (unwrap_or (option_copied c.args.offered)) off in
    let handed = read_handed c.args.id c.unwrap_or-ops.result.now c.in-Some.read.now (sym c.in-Some.ensures) (subst AreHanded (sym ops) c.requires.handed) in
    let done = c.in_ok-came.ensures in
    let back_is : undone_once r.change (received_held h c.unite.new.self) ≡ h = ap (λ (x : List Op). held_of h.done h.acted h.vars h.ops h.queue h.sent x) done.back in
    let s = received_step c.self.invariant c.unite.new.self c.push-2.new.self.items r one c.mark-mark.ensures back_is (came_again _ _ _ done.back done.came) done.order (done.handed (ready_now c.self.invariant).handed handed) in
    let received = has_received i.number _ c.self.view_is c.in-Some.read.now c.unite.new.self c.push-2.new.self.items done.ok s in
    let read = ap (read_of c.args.id) (sym ops) ∙ sym c.in-Some.ensures in
    let rows : c.push.new.self ≡ pushed no_rows (receiving_rule c.args.id) = search rules in
    receives_read c.args.id q (unwrap_or (option_copied c.args.offered) c.args.self.now.history.now.send) c.in-Some.read.now c.args.self.now _ c.in_ok-at_yield.ensures.ok.0 c.push.new.self received read c.in_ok-at_yield.ensures.ok.1 rows

pub returns-in_default : goal.returns-in_default
returns-in_default g c = λ q.
    let i = c.self.inside in
    let all : c.deref.result.now ≡ i.queue.items = search rules in
    let off : take i.sent c.deref.result.now ≡ c.args.self.now.history.now.send = ap (take i.sent) all ∙ ap (λ (p : ReplicaHistory). p.history.now.send) c.self.view_is in
    let ops : c.unwrap_or-ops.result.now ≡ unwrap_or (option_copied c.args.offered) c.args.self.now.history.now.send = ap (λ (b : Bor (List Op)). b.now) c.unwrap_or-ops.ensures ∙ offered_now c.args.offered _ ∙ ap (unwrap_or (option_copied c.args.offered)) off in
    (refl, refused_read c.args.self.now q c.args.id _ _ c.in_ok-at_yield.ensures.ok.1 (ap (read_of c.args.id) (sym ops) ∙ sym c.in_default.ensures))

use Rattle.std.proofs.Common.{rules, ◌≡◌, refl, sym, ◌∙◌, ap, [], ◌∷◌, ◌++◌, ◌+◌, false, map, true}
use Rattle.jc_rules.specs.Trace.{pushed}
use Rattle.jc_rules.specs.declared.operation.Event.TheVariants as E
use Rattle.jc_rules.specs.declared.rule.Rule.TheVariants as R
use Rattle.jc_rules.specs.Refused.{not_acted}
use Rattle.jc_rules.specs.Syntax.{Yield}
use Rattle.jc_syntax.specs.Trees.{cmd_of}
use Rattle.jc_cursor.specs.Bounds.{vars_of}
use Rattle.jc_replica.specs.declared.record.Record.{Record}
use Rattle.jc_replica.specs.declared.record.Change.TheVariants as C
use Rattle.jc_replica.specs.Undo.{Held, held_of}
use Rattle.jc_replica.specs.ReplicaHistory.{ReplicaHistory, no_rows}
use Rattle.jc_replica.proofs.ScriptLemmas.{one_more_fits, has_ended}
use Rattle.jc_replica.proofs.UndoStepsLemmas.{stepped}
use Rattle.jc_replica.proofs.RefinesLemmas.{left_seen, acted_seen}
use Rattle.jc_replica.proofs.AnswersLemmas.{ready_now, done_ready, ends, ended_back, occurs}
use Rattle.jc_replica.proofs.replica.Replica.done.Goals as goal
use Rattle.jc_rules.proofs.HistoryLemmas.{still}

pub invariant_of-self-2 : goal.invariant_of-self-2
invariant_of-self-2 g c =
    let i = c.self.inside in
    let script = map cmd_of i.script.items in
    let t = g.S.TreeStore.tree i.store in
    let h : Held = held_of i.done i.acted (vars_of i.vars.entries) i.ops i.queue.items i.sent i.recv in
    let h2 : Held = held_of (i.done + 1) false (vars_of i.vars.entries) i.ops i.queue.items i.sent i.recv in
    let r : Record = record { mark = c.mark.result; change = C.Ended } in
    let left = ap (λ (p : ReplicaHistory). p.history.now.left) c.self.view_is ∙ c.in_ok-at_yield.ensures.ok.1 in
    let acted : h.acted ≡ true = search rules in
    let one : c.push-2.new.self.items ≡ i.steps.items ++ r ∷ [] = search rules in
    (stepped c.self.invariant t c.push-2.new.self.items r h2 (still t) one c.mark.ensures (ended_back h acted) (has_ended (λ x. x ≡ Yield) h.done script _ _ left refl) (done_ready script h h2 t.now _ (ready_now c.self.invariant) left refl) (record { done = one_more_fits h.done script _ _ left; sent = c.self.invariant.bounds.sent })).kept

pub returns : goal.returns
returns g c =
    let i = c.self.inside in
    let script = map cmd_of i.script.items in
    let t = g.S.TreeStore.tree i.store in
    let h : Held = held_of i.done i.acted (vars_of i.vars.entries) i.ops i.queue.items i.sent i.recv in
    let h2 : Held = held_of (i.done + 1) false (vars_of i.vars.entries) i.ops i.queue.items i.sent i.recv in
    let r : Record = record { mark = c.mark.result; change = C.Ended } in
    let left = ap (λ (p : ReplicaHistory). p.history.now.left) c.self.view_is ∙ c.in_ok-at_yield.ensures.ok.1 in
    let acted : h.acted ≡ true = search rules in
    let one : c.push-2.new.self.items ≡ i.steps.items ++ r ∷ [] = search rules in
    let s = stepped c.self.invariant t c.push-2.new.self.items r h2 (still t) one c.mark.ensures (ended_back h acted) (has_ended (λ x. x ≡ Yield) h.done script _ _ left refl) (done_ready script h h2 t.now _ (ready_now c.self.invariant) left refl) (record { done = one_more_fits h.done script _ _ left; sent = c.self.invariant.bounds.sent }) in
    let rows : c.push.new.self ≡ pushed no_rows R.Done = search rules in
    occurs c.self.invariant i.number _ c.self.view_is E.Done [] t c.push-2.new.self.items h2 _ (ends _ script h h2 t.now _ _ left acted refl rows) s.earlier

pub returns-then-not-self : goal.returns-then-not-self
returns-then-not-self g c = (refl, λ set os A stands of. not_acted (left_seen set A _ stands ∙ c.in_ok-at_yield.ensures.ok.1) (acted_seen set A _ stands ∙ ap (λ (p : ReplicaHistory). p.history.now.acted) (sym c.self.view_is) ∙ c.if-not-self.true))

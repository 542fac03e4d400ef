use Rattle.std.proofs.Common.{rules, ◌≡◌, ◌-◌, length, take, ap, sym, ◌∙◌, true}
use Rattle.jc_rules.specs.VersionVectors.{truncated}
use Rattle.jc_cursor.specs.Bounds.{vars_of}
use Rattle.jc_replica.specs.declared.record.Change.{Change}
use Rattle.jc_replica.specs.declared.record.Change.TheVariants as C
use Rattle.jc_replica.specs.ReplicaHistory.{ReplicaHistory}
use Rattle.jc_replica.specs.Undo.{Held, held_of, undone_once, unbound, was_bound, without_ops}
use Rattle.jc_replica.proofs.UndoStepsLemmas.{mark_there}
use Rattle.jc_replica.proofs.UndoLemmas.{unstep, can_back_as}
use Rattle.jc_replica.proofs.replica.Replica.undo.Goals as goal

pub undo_to-requires : goal.undo_to-requires
undo_to-requires g c = mark_there c.self.invariant c.pop.new.self.items c.in-Some.field-0 c.in-Some.ensures.items

pub withdraw-requires-clause-greatest : goal.withdraw-requires-clause-greatest
withdraw-requires-clause-greatest g c =
    let is : c.in-Some.field-0.change ≡ C.Made c.in-Made.id c.in-Made.before = search rules in
    (can_back_as c.self.invariant c.pop.new.self.items c.in-Some.field-0 c.in-Some.ensures.items _ is).0.greatest

pub withdraw-requires-clause-lower : goal.withdraw-requires-clause-lower
withdraw-requires-clause-lower g c =
    let is : c.in-Some.field-0.change ≡ C.Made c.in-Made.id c.in-Made.before = search rules in
    (can_back_as c.self.invariant c.pop.new.self.items c.in-Some.field-0 c.in-Some.ensures.items _ is).0.lower

pub withdraw-requires-in-Applied-clause-greatest : goal.withdraw-requires-in-Applied-clause-greatest
withdraw-requires-in-Applied-clause-greatest g c =
    let is : c.in-Some.field-0.change ≡ C.Applied c.in-Applied.id c.in-Applied.before c.in-Applied.acted = search rules in
    (can_back_as c.self.invariant c.pop.new.self.items c.in-Some.field-0 c.in-Some.ensures.items _ is).0.greatest

pub withdraw-requires-in-Applied-clause-lower : goal.withdraw-requires-in-Applied-clause-lower
withdraw-requires-in-Applied-clause-lower g c =
    let is : c.in-Some.field-0.change ≡ C.Applied c.in-Applied.id c.in-Applied.before c.in-Applied.acted = search rules in
    (can_back_as c.self.invariant c.pop.new.self.items c.in-Some.field-0 c.in-Some.ensures.items _ is).0.lower

pub invariant_of-self-in-Bound : goal.invariant_of-self-in-Bound
invariant_of-self-in-Bound g c =
    let i = c.self.inside in
    let h : Held = held_of i.done i.acted (vars_of i.vars.entries) i.ops i.queue.items i.sent i.recv in
    let h0 : Held = held_of c.saturating_sub-ended.result i.acted (vars_of c.unbind_var.new.vars.entries) i.ops i.queue.items i.sent i.recv in
    let is : c.in-Some.field-0.change ≡ C.Bound c.in-Bound.name c.in-Bound.before = search rules in
    let done : c.saturating_sub-ended.result ≡ i.done - 1 = search rules in
    let vars : vars_of c.unbind_var.new.vars.entries ≡ unbound c.in-Bound.name (was_bound c.in-Bound.before) (vars_of i.vars.entries) = c.unbind_var.ensures in
    let restored : undone_once c.in-Some.field-0.change h ≡ h0 = ap (λ (x : Change). undone_once x h) is ∙ (λ j. held_of (sym done j) i.acted (sym vars j) i.ops i.queue.items i.sent i.recv) in
    let s = unstep c.self.invariant (g.S.TreeStore.tree c.undo_to.new.self) c.pop.new.self.items c.in-Some.field-0 h0 c.in-Some.ensures.items c.undo_to.ensures.content restored in
    s.kept

pub returns-in-Bound-clause-undone : goal.returns-in-Bound-clause-undone
returns-in-Bound-clause-undone g c = λ yes.
    let i = c.self.inside in
    let h : Held = held_of i.done i.acted (vars_of i.vars.entries) i.ops i.queue.items i.sent i.recv in
    let h0 : Held = held_of c.saturating_sub-ended.result i.acted (vars_of c.unbind_var.new.vars.entries) i.ops i.queue.items i.sent i.recv in
    let is : c.in-Some.field-0.change ≡ C.Bound c.in-Bound.name c.in-Bound.before = search rules in
    let done : c.saturating_sub-ended.result ≡ i.done - 1 = search rules in
    let vars : vars_of c.unbind_var.new.vars.entries ≡ unbound c.in-Bound.name (was_bound c.in-Bound.before) (vars_of i.vars.entries) = c.unbind_var.ensures in
    let restored : undone_once c.in-Some.field-0.change h ≡ h0 = ap (λ (x : Change). undone_once x h) is ∙ (λ j. held_of (sym done j) i.acted (sym vars j) i.ops i.queue.items i.sent i.recv) in
    let s = unstep c.self.invariant (g.S.TreeStore.tree c.undo_to.new.self) c.pop.new.self.items c.in-Some.field-0 h0 c.in-Some.ensures.items c.undo_to.ensures.content restored in
    s.history ∙ ap (λ (p : ReplicaHistory). p.history.earlier) c.self.view_is

pub invariant_of-self-in-Made : goal.invariant_of-self-in-Made
invariant_of-self-in-Made g c =
    let i = c.self.inside in
    let h : Held = held_of i.done i.acted (vars_of i.vars.entries) i.ops i.queue.items i.sent i.recv in
    let h0 : Held = held_of c.saturating_sub-ended.result i.acted (vars_of i.vars.entries) c.withdraw.new.self c.drop_last.new.queue.items i.sent i.recv in
    let is : c.in-Some.field-0.change ≡ C.Made c.in-Made.id c.in-Made.before = search rules in
    let done : c.saturating_sub-ended.result ≡ i.done - 1 = search rules in
    let ops : c.withdraw.new.self ≡ truncated c.in-Made.id.replica c.in-Made.before i.ops = c.withdraw.ensures.exact in
    let queue : c.drop_last.new.queue.items ≡ take (length i.queue.items - 1) i.queue.items = c.drop_last.ensures in
    let restored : undone_once c.in-Some.field-0.change h ≡ h0 = ap (λ (x : Change). undone_once x h) is ∙ (λ j. held_of (sym done j) i.acted (vars_of i.vars.entries) (sym ops j) (sym queue j) i.sent i.recv) in
    let s = unstep c.self.invariant (g.S.TreeStore.tree c.undo_to.new.self) c.pop.new.self.items c.in-Some.field-0 h0 c.in-Some.ensures.items c.undo_to.ensures.content restored in
    s.kept

pub returns-in-Made-clause-undone : goal.returns-in-Made-clause-undone
returns-in-Made-clause-undone g c = λ yes.
    let i = c.self.inside in
    let h : Held = held_of i.done i.acted (vars_of i.vars.entries) i.ops i.queue.items i.sent i.recv in
    let h0 : Held = held_of c.saturating_sub-ended.result i.acted (vars_of i.vars.entries) c.withdraw.new.self c.drop_last.new.queue.items i.sent i.recv in
    let is : c.in-Some.field-0.change ≡ C.Made c.in-Made.id c.in-Made.before = search rules in
    let done : c.saturating_sub-ended.result ≡ i.done - 1 = search rules in
    let ops : c.withdraw.new.self ≡ truncated c.in-Made.id.replica c.in-Made.before i.ops = c.withdraw.ensures.exact in
    let queue : c.drop_last.new.queue.items ≡ take (length i.queue.items - 1) i.queue.items = c.drop_last.ensures in
    let restored : undone_once c.in-Some.field-0.change h ≡ h0 = ap (λ (x : Change). undone_once x h) is ∙ (λ j. held_of (sym done j) i.acted (vars_of i.vars.entries) (sym ops j) (sym queue j) i.sent i.recv) in
    let s = unstep c.self.invariant (g.S.TreeStore.tree c.undo_to.new.self) c.pop.new.self.items c.in-Some.field-0 h0 c.in-Some.ensures.items c.undo_to.ensures.content restored in
    s.history ∙ ap (λ (p : ReplicaHistory). p.history.earlier) c.self.view_is

pub invariant_of-self-in-Sent : goal.invariant_of-self-in-Sent
invariant_of-self-in-Sent g c =
    let i = c.self.inside in
    let h : Held = held_of i.done i.acted (vars_of i.vars.entries) i.ops i.queue.items i.sent i.recv in
    let h0 : Held = held_of i.done c.in-Sent.acted (vars_of i.vars.entries) i.ops i.queue.items c.in-Sent.sent i.recv in
    let is : c.in-Some.field-0.change ≡ C.Sent c.in-Sent.sent c.in-Sent.acted = search rules in
    let restored : undone_once c.in-Some.field-0.change h ≡ h0 = ap (λ (x : Change). undone_once x h) is in
    let s = unstep c.self.invariant (g.S.TreeStore.tree c.undo_to.new.self) c.pop.new.self.items c.in-Some.field-0 h0 c.in-Some.ensures.items c.undo_to.ensures.content restored in
    s.kept

pub returns-in-Sent-clause-undone : goal.returns-in-Sent-clause-undone
returns-in-Sent-clause-undone g c = λ yes.
    let i = c.self.inside in
    let h : Held = held_of i.done i.acted (vars_of i.vars.entries) i.ops i.queue.items i.sent i.recv in
    let h0 : Held = held_of i.done c.in-Sent.acted (vars_of i.vars.entries) i.ops i.queue.items c.in-Sent.sent i.recv in
    let is : c.in-Some.field-0.change ≡ C.Sent c.in-Sent.sent c.in-Sent.acted = search rules in
    let restored : undone_once c.in-Some.field-0.change h ≡ h0 = ap (λ (x : Change). undone_once x h) is in
    let s = unstep c.self.invariant (g.S.TreeStore.tree c.undo_to.new.self) c.pop.new.self.items c.in-Some.field-0 h0 c.in-Some.ensures.items c.undo_to.ensures.content restored in
    s.history ∙ ap (λ (p : ReplicaHistory). p.history.earlier) c.self.view_is

pub invariant_of-self-in-Received : goal.invariant_of-self-in-Received
invariant_of-self-in-Received g c =
    let i = c.self.inside in
    let h : Held = held_of i.done i.acted (vars_of i.vars.entries) i.ops i.queue.items i.sent i.recv in
    let h0 : Held = held_of i.done c.in-Received.acted (vars_of i.vars.entries) i.ops i.queue.items i.sent c.withdraw-in-Received.new.self in
    let is : c.in-Some.field-0.change ≡ C.Received c.in-Received.came c.in-Received.acted = search rules in
    let recv : c.withdraw-in-Received.new.self ≡ without_ops c.in-Received.came.items i.recv = search rules in
    let restored : undone_once c.in-Some.field-0.change h ≡ h0 = ap (λ (x : Change). undone_once x h) is ∙ (λ j. held_of i.done c.in-Received.acted (vars_of i.vars.entries) i.ops i.queue.items i.sent (sym recv j)) in
    let s = unstep c.self.invariant (g.S.TreeStore.tree c.undo_to.new.self) c.pop.new.self.items c.in-Some.field-0 h0 c.in-Some.ensures.items c.undo_to.ensures.content restored in
    s.kept

pub returns-in-Received-clause-undone : goal.returns-in-Received-clause-undone
returns-in-Received-clause-undone g c = λ yes.
    let i = c.self.inside in
    let h : Held = held_of i.done i.acted (vars_of i.vars.entries) i.ops i.queue.items i.sent i.recv in
    let h0 : Held = held_of i.done c.in-Received.acted (vars_of i.vars.entries) i.ops i.queue.items i.sent c.withdraw-in-Received.new.self in
    let is : c.in-Some.field-0.change ≡ C.Received c.in-Received.came c.in-Received.acted = search rules in
    let recv : c.withdraw-in-Received.new.self ≡ without_ops c.in-Received.came.items i.recv = search rules in
    let restored : undone_once c.in-Some.field-0.change h ≡ h0 = ap (λ (x : Change). undone_once x h) is ∙ (λ j. held_of i.done c.in-Received.acted (vars_of i.vars.entries) i.ops i.queue.items i.sent (sym recv j)) in
    let s = unstep c.self.invariant (g.S.TreeStore.tree c.undo_to.new.self) c.pop.new.self.items c.in-Some.field-0 h0 c.in-Some.ensures.items c.undo_to.ensures.content restored in
    s.history ∙ ap (λ (p : ReplicaHistory). p.history.earlier) c.self.view_is

pub invariant_of-self-in-Applied : goal.invariant_of-self-in-Applied
invariant_of-self-in-Applied g c =
    let i = c.self.inside in
    let h : Held = held_of i.done i.acted (vars_of i.vars.entries) i.ops i.queue.items i.sent i.recv in
    let h0 : Held = held_of i.done c.in-Applied.acted (vars_of i.vars.entries) c.withdraw-in-Applied.new.self i.queue.items i.sent i.recv in
    let is : c.in-Some.field-0.change ≡ C.Applied c.in-Applied.id c.in-Applied.before c.in-Applied.acted = search rules in
    let ops : c.withdraw-in-Applied.new.self ≡ truncated c.in-Applied.id.replica c.in-Applied.before i.ops = c.withdraw-in-Applied.ensures.exact in
    let restored : undone_once c.in-Some.field-0.change h ≡ h0 = ap (λ (x : Change). undone_once x h) is ∙ (λ j. held_of i.done c.in-Applied.acted (vars_of i.vars.entries) (sym ops j) i.queue.items i.sent i.recv) in
    let s = unstep c.self.invariant (g.S.TreeStore.tree c.undo_to.new.self) c.pop.new.self.items c.in-Some.field-0 h0 c.in-Some.ensures.items c.undo_to.ensures.content restored in
    s.kept

pub returns-in-Applied-clause-undone : goal.returns-in-Applied-clause-undone
returns-in-Applied-clause-undone g c = λ yes.
    let i = c.self.inside in
    let h : Held = held_of i.done i.acted (vars_of i.vars.entries) i.ops i.queue.items i.sent i.recv in
    let h0 : Held = held_of i.done c.in-Applied.acted (vars_of i.vars.entries) c.withdraw-in-Applied.new.self i.queue.items i.sent i.recv in
    let is : c.in-Some.field-0.change ≡ C.Applied c.in-Applied.id c.in-Applied.before c.in-Applied.acted = search rules in
    let ops : c.withdraw-in-Applied.new.self ≡ truncated c.in-Applied.id.replica c.in-Applied.before i.ops = c.withdraw-in-Applied.ensures.exact in
    let restored : undone_once c.in-Some.field-0.change h ≡ h0 = ap (λ (x : Change). undone_once x h) is ∙ (λ j. held_of i.done c.in-Applied.acted (vars_of i.vars.entries) (sym ops j) i.queue.items i.sent i.recv) in
    let s = unstep c.self.invariant (g.S.TreeStore.tree c.undo_to.new.self) c.pop.new.self.items c.in-Some.field-0 h0 c.in-Some.ensures.items c.undo_to.ensures.content restored in
    s.history ∙ ap (λ (p : ReplicaHistory). p.history.earlier) c.self.view_is

pub invariant_of-self-in-Ended : goal.invariant_of-self-in-Ended
invariant_of-self-in-Ended g c =
    let i = c.self.inside in
    let h : Held = held_of i.done i.acted (vars_of i.vars.entries) i.ops i.queue.items i.sent i.recv in
    let h0 : Held = held_of c.saturating_sub-ended.result true (vars_of i.vars.entries) i.ops i.queue.items i.sent i.recv in
    let is : c.in-Some.field-0.change ≡ C.Ended = search rules in
    let done : c.saturating_sub-ended.result ≡ i.done - 1 = search rules in
    let restored : undone_once c.in-Some.field-0.change h ≡ h0 = ap (λ (x : Change). undone_once x h) is ∙ (λ j. held_of (sym done j) true (vars_of i.vars.entries) i.ops i.queue.items i.sent i.recv) in
    let s = unstep c.self.invariant (g.S.TreeStore.tree c.undo_to.new.self) c.pop.new.self.items c.in-Some.field-0 h0 c.in-Some.ensures.items c.undo_to.ensures.content restored in
    s.kept

pub returns-in-Ended-clause-undone : goal.returns-in-Ended-clause-undone
returns-in-Ended-clause-undone g c = λ yes.
    let i = c.self.inside in
    let h : Held = held_of i.done i.acted (vars_of i.vars.entries) i.ops i.queue.items i.sent i.recv in
    let h0 : Held = held_of c.saturating_sub-ended.result true (vars_of i.vars.entries) i.ops i.queue.items i.sent i.recv in
    let is : c.in-Some.field-0.change ≡ C.Ended = search rules in
    let done : c.saturating_sub-ended.result ≡ i.done - 1 = search rules in
    let restored : undone_once c.in-Some.field-0.change h ≡ h0 = ap (λ (x : Change). undone_once x h) is ∙ (λ j. held_of (sym done j) true (vars_of i.vars.entries) i.ops i.queue.items i.sent i.recv) in
    let s = unstep c.self.invariant (g.S.TreeStore.tree c.undo_to.new.self) c.pop.new.self.items c.in-Some.field-0 h0 c.in-Some.ensures.items c.undo_to.ensures.content restored in
    s.history ∙ ap (λ (p : ReplicaHistory). p.history.earlier) c.self.view_is

use Rattle.std.proofs.Common.{◌≡◌, ◌-◌, List, [], ◌∷◌, ◌++◌, length, map, take, drop, slice_get, get_or, Some, sym, ◌∙◌, ap, arith, option_copied, length-take-le}
use Rattle.jc_rules.specs.declared.operation.Op.{Op}
use Rattle.jc_rules.specs.Table.{op_of}
use Rattle.jc_rules.proofs.RepresentationLemmas.{looked_up}
use Rattle.jc_syntax.specs.declared.tree.Cmd.{Cmd as CmdTree}
use Rattle.jc_syntax.specs.Trees.{cmd_of}
use Rattle.jc_cursor.specs.Bounds.{vars_of}
use Rattle.jc_replica.specs.declared.last_step.LastStep.TheVariants as L
use Rattle.jc_replica.specs.ReplicaHistory.{ReplicaHistory}
use Rattle.jc_replica.specs.Undo.{Held, held_of}
use Rattle.jc_replica.proofs.AnswersLemmas.{ready_now}
use Rattle.jc_replica.proofs.LastStepLemmas.{has_last_step, last_record, was_bound, was_made, was_sent, was_received, was_applied, was_ended}
use Rattle.jc_replica.proofs.ScriptLemmas.{some_ended}
use Rattle.jc_replica.proofs.UndoLemmas.{can_back_as}
use Rattle.jc_replica.proofs.replica.Replica.last_step.Goals as goal

pub last_of-requires-clause-some : goal.last_of-requires-clause-some
last_of-requires-clause-some g c =
    let i = c.self.inside in
    let script = map cmd_of i.script.items in
    let t = g.S.TreeStore.tree i.store in
    let h : Held = held_of i.done i.acted (vars_of i.vars.entries) i.ops i.queue.items i.sent i.recv in
    let r = c.in_ok-record.record.now in
    let rs = take (length i.steps.items - 1) i.steps.items in
    let se : i.steps.items ≡ rs ++ r ∷ [] = last_record i.steps.items c.deref.result.now r c.deref.ensures.value c.in_ok-record.ensures.value in
    let can = can_back_as c.self.invariant rs r se _ c.in-Bound.is in
    some_ended i.done script can.command can.left

pub last_of-requires-in-Made-clause-some : goal.last_of-requires-in-Made-clause-some
last_of-requires-in-Made-clause-some g c =
    let i = c.self.inside in
    let script = map cmd_of i.script.items in
    let t = g.S.TreeStore.tree i.store in
    let h : Held = held_of i.done i.acted (vars_of i.vars.entries) i.ops i.queue.items i.sent i.recv in
    let r = c.in_ok-record.record.now in
    let rs = take (length i.steps.items - 1) i.steps.items in
    let se : i.steps.items ≡ rs ++ r ∷ [] = last_record i.steps.items c.deref.result.now r c.deref.ensures.value c.in_ok-record.ensures.value in
    let can = can_back_as c.self.invariant rs r se _ c.in-Made.is in
    some_ended i.done script can.2.command can.2.left

pub last_op-requires : goal.last_op-requires
last_op-requires g c =
    let i = c.self.inside in
    let script = map cmd_of i.script.items in
    let t = g.S.TreeStore.tree i.store in
    let h : Held = held_of i.done i.acted (vars_of i.vars.entries) i.ops i.queue.items i.sent i.recv in
    let r = c.in_ok-record.record.now in
    let rs = take (length i.steps.items - 1) i.steps.items in
    let se : i.steps.items ≡ rs ++ r ∷ [] = last_record i.steps.items c.deref.result.now r c.deref.ensures.value c.in_ok-record.ensures.value in
    let can = can_back_as c.self.invariant rs r se _ c.in-Made.is in
    let all = ap (λ (os : List Op). length os) c.deref-in-Made-2.ensures.value in
    let fewer = can.1 in
    omega (arith, all, fewer)

pub ops_behind-requires : goal.ops_behind-requires
ops_behind-requires g c =
    let i = c.self.inside in
    let script = map cmd_of i.script.items in
    let t = g.S.TreeStore.tree i.store in
    let h : Held = held_of i.done i.acted (vars_of i.vars.entries) i.ops i.queue.items i.sent i.recv in
    let r = c.in_ok-record.record.now in
    let rs = take (length i.steps.items - 1) i.steps.items in
    let se : i.steps.items ≡ rs ++ r ∷ [] = last_record i.steps.items c.deref.result.now r c.deref.ensures.value c.in_ok-record.ensures.value in
    let can = can_back_as c.self.invariant rs r se _ c.in-Sent.is in
    let sent : c.sent.result.now ≡ take i.sent i.queue.items = c.sent.ensures.sent ∙ ap (λ (p : ReplicaHistory). p.history.now.send) (sym c.self.view_is) in
    let long = ap (λ (os : List Op). length os) sent in
    let all = length-take-le i.sent i.queue.items c.self.invariant.bounds.sent in
    omega (arith, long, all, can)

pub unreachable-requires : goal.unreachable-requires
unreachable-requires g c =
    let i = c.self.inside in
    let script = map cmd_of i.script.items in
    let t = g.S.TreeStore.tree i.store in
    let h : Held = held_of i.done i.acted (vars_of i.vars.entries) i.ops i.queue.items i.sent i.recv in
    let r = c.in_ok-record.record.now in
    let rs = take (length i.steps.items - 1) i.steps.items in
    let se : i.steps.items ≡ rs ++ r ∷ [] = last_record i.steps.items c.deref.result.now r c.deref.ensures.value c.in_ok-record.ensures.value in
    let can = can_back_as c.self.invariant rs r se _ c.in-Applied.is in
    let found = can.1.1 in
    let none = c.in_default.ensures in
    cc

pub returns-in-Bound-clause-some : goal.returns-in-Bound-clause-some
returns-in-Bound-clause-some g c =
    let i = c.self.inside in
    let script = map cmd_of i.script.items in
    let t = g.S.TreeStore.tree i.store in
    let h : Held = held_of i.done i.acted (vars_of i.vars.entries) i.ops i.queue.items i.sent i.recv in
    let r = c.in_ok-record.record.now in
    let rs = take (length i.steps.items - 1) i.steps.items in
    let se : i.steps.items ≡ rs ++ r ∷ [] = last_record i.steps.items c.deref.result.now r c.deref.ensures.value c.in_ok-record.ensures.value in
    let can = can_back_as c.self.invariant rs r se _ c.in-Bound.is in
    let there : slice_get i.script.items (i.done - 1) ≡ Some c.last_of.result.now = ap (λ (xs : List CmdTree). slice_get xs (i.done - 1)) (sym c.deref-in-Bound.ensures.value) ∙ c.last_of.ensures in
    has_last_step script t i.steps.items h i.number _ c.self.view_is rs r se _ c.in-Bound.is (L.Bound c.last_of.result) (λ x. was_bound i.script.items h c.last_of.result c.in-Bound.name c.in-Bound.before there can x t.now)

pub returns-in-Made-clause-some : goal.returns-in-Made-clause-some
returns-in-Made-clause-some g c =
    let i = c.self.inside in
    let script = map cmd_of i.script.items in
    let t = g.S.TreeStore.tree i.store in
    let h : Held = held_of i.done i.acted (vars_of i.vars.entries) i.ops i.queue.items i.sent i.recv in
    let r = c.in_ok-record.record.now in
    let rs = take (length i.steps.items - 1) i.steps.items in
    let se : i.steps.items ≡ rs ++ r ∷ [] = last_record i.steps.items c.deref.result.now r c.deref.ensures.value c.in_ok-record.ensures.value in
    let can = can_back_as c.self.invariant rs r se _ c.in-Made.is in
    let there : slice_get i.script.items (i.done - 1) ≡ Some c.last_of-in-Made.result.now = ap (λ (xs : List CmdTree). slice_get xs (i.done - 1)) (sym c.deref-in-Made.ensures.value) ∙ c.last_of-in-Made.ensures in
    let last : c.last_op.result.now ≡ get_or i.queue.items (length i.queue.items - 1) c.last_op.result.now = c.last_op.ensures ∙ ap (λ (xs : List Op). get_or xs (length xs - 1) c.last_op.result.now) c.deref-in-Made-2.ensures.value in
    has_last_step script t i.steps.items h i.number _ c.self.view_is rs r se _ c.in-Made.is (L.Made c.last_of-in-Made.result c.last_op.result) (λ x. was_made i.script.items h c.last_of-in-Made.result c.last_op.result there (ready_now c.self.invariant).in_order last x t.now c.in-Made.id c.in-Made.before can)

pub returns-in-Sent-clause-some : goal.returns-in-Sent-clause-some
returns-in-Sent-clause-some g c =
    let i = c.self.inside in
    let script = map cmd_of i.script.items in
    let t = g.S.TreeStore.tree i.store in
    let h : Held = held_of i.done i.acted (vars_of i.vars.entries) i.ops i.queue.items i.sent i.recv in
    let r = c.in_ok-record.record.now in
    let rs = take (length i.steps.items - 1) i.steps.items in
    let se : i.steps.items ≡ rs ++ r ∷ [] = last_record i.steps.items c.deref.result.now r c.deref.ensures.value c.in_ok-record.ensures.value in
    let can = can_back_as c.self.invariant rs r se _ c.in-Sent.is in
    let sent : c.sent.result.now ≡ take i.sent i.queue.items = c.sent.ensures.sent ∙ ap (λ (p : ReplicaHistory). p.history.now.send) (sym c.self.view_is) in
    let rest : c.ops_behind.result.now ≡ drop c.in-Sent.sent (take i.sent i.queue.items) = c.ops_behind.ensures ∙ ap (drop c.in-Sent.sent) sent in
    has_last_step script t i.steps.items h i.number _ c.self.view_is rs r se _ c.in-Sent.is (L.Sent c.ops_behind.result) (λ x. was_sent script h c.ops_behind.result c.in-Sent.sent c.in-Sent.acted (ready_now c.self.invariant).in_order can rest x t.now)

pub returns-in-Received-clause-some : goal.returns-in-Received-clause-some
returns-in-Received-clause-some g c =
    let i = c.self.inside in
    let script = map cmd_of i.script.items in
    let t = g.S.TreeStore.tree i.store in
    let h : Held = held_of i.done i.acted (vars_of i.vars.entries) i.ops i.queue.items i.sent i.recv in
    let r = c.in_ok-record.record.now in
    let rs = take (length i.steps.items - 1) i.steps.items in
    let se : i.steps.items ≡ rs ++ r ∷ [] = last_record i.steps.items c.deref.result.now r c.deref.ensures.value c.in_ok-record.ensures.value in
    let can = can_back_as c.self.invariant rs r se _ c.in-Received.is in
    has_last_step script t i.steps.items h i.number _ c.self.view_is rs r se _ c.in-Received.is (L.Received c.as_slice.result) (λ x. was_received script h c.as_slice.result c.in-Received.came c.in-Received.acted can c.as_slice.ensures.value x t.now)

pub returns-in-Some-clause-some : goal.returns-in-Some-clause-some
returns-in-Some-clause-some g c =
    let i = c.self.inside in
    let script = map cmd_of i.script.items in
    let t = g.S.TreeStore.tree i.store in
    let h : Held = held_of i.done i.acted (vars_of i.vars.entries) i.ops i.queue.items i.sent i.recv in
    let r = c.in_ok-record.record.now in
    let rs = take (length i.steps.items - 1) i.steps.items in
    let se : i.steps.items ≡ rs ++ r ∷ [] = last_record i.steps.items c.deref.result.now r c.deref.ensures.value c.in_ok-record.ensures.value in
    let can = can_back_as c.self.invariant rs r se _ c.in-Applied.is in
    let found : op_of c.in-Applied.id i.recv ≡ Some c.in-Some.op.now = sym c.find.ensures ∙ ap option_copied c.in-Some.is in
    has_last_step script t i.steps.items h i.number _ c.self.view_is rs r se _ c.in-Applied.is (L.Applied c.in-Some.op) (λ x. was_applied script h c.in-Some.op c.in-Applied.id c.in-Applied.before c.in-Applied.acted can (looked_up c.in-Applied.id i.recv c.in-Some.op.now found).0 found x t.now)

pub returns-in-Ended-clause-some : goal.returns-in-Ended-clause-some
returns-in-Ended-clause-some g c =
    let i = c.self.inside in
    let script = map cmd_of i.script.items in
    let t = g.S.TreeStore.tree i.store in
    let h : Held = held_of i.done i.acted (vars_of i.vars.entries) i.ops i.queue.items i.sent i.recv in
    let r = c.in_ok-record.record.now in
    let rs = take (length i.steps.items - 1) i.steps.items in
    let se : i.steps.items ≡ rs ++ r ∷ [] = last_record i.steps.items c.deref.result.now r c.deref.ensures.value c.in_ok-record.ensures.value in
    let can = can_back_as c.self.invariant rs r se _ c.in-Ended.is in
    has_last_step script t i.steps.items h i.number _ c.self.view_is rs r se _ c.in-Ended.is L.Ended (λ x. was_ended script h can x t.now)

use Rattle.std.proofs.Common.{ℕ, subst, ◌∙◌}
use Rattle.jc_rules.specs.Step.{replica_of}
use Rattle.jc_network.specs.Steps.{HasReplica}
use Rattle.jc_journal.specs.EventLine.{event_op}
use Rattle.jc_journal.proofs.EventEffectsLemmas.{event_tree, store_changes, store_tells, none_tells, tree_was, tree_is}
use Rattle.jc_journal.proofs.LastStepPartsLemmas.{parts_of_last}
use Rattle.jc_journal.proofs.effects.event_effects.Goals as goal

-- an event without an operation
pub returns-in_default-op_of : goal.returns-in_default-op_of
returns-in_default-op_of c = λ rows made.
    let N = c.args.old.now.history.now.states in
    let M = c.args.new.now.history.now.states in
    let e = c.args.event.now in
    let s = made.step in
    let now = c.in-Some-replica.now.now in
    let step = c.last_step.result in
    let has : HasReplica M (replica_of e) now = subst (λ (p : ℕ). HasReplica M p now) c.replica-3.ensures c.in-Some-replica.ensures.some in
    none_tells (event_op e s.before s.after) s.before.tree s.after.tree (c.in_default-op_of.ensures ∙ (parts_of_last c.args.new.now.history c.args.old.now.history.now e rows step c.last_step.ensures.some c.last_step.ensures.none c.requires.last made).op) (event_tree c.steps-steps.ensures.reached.0 N M e rows c.steps-steps.ensures.reached.1 s)

-- one with an operation
pub effects_of-requires : goal.effects_of-requires
effects_of-requires c =
    let N = c.args.old.now.history.now.states in
    let M = c.args.new.now.history.now.states in
    let e = c.args.event.now in
    let rows = c.requires.made.0 in
    let made = c.requires.made.1 in
    let s = made.step in
    let was = c.in-Some.was.now in
    let now = c.in-Some-replica.now.now in
    let step = c.last_step.result in
    let had : HasReplica N (replica_of e) was = subst (λ (p : ℕ). HasReplica N p was) c.replica.ensures c.in-Some.ensures.some in
    let has : HasReplica M (replica_of e) now = subst (λ (p : ℕ). HasReplica M p now) c.replica-3.ensures c.in-Some-replica.ensures.some in
    store_changes (event_op e s.before s.after) c.in-Some-op_of.op.now s.before.tree s.after.tree _ _ (c.in-Some-op_of.ensures ∙ (parts_of_last c.args.new.now.history c.args.old.now.history.now e rows step c.last_step.ensures.some c.last_step.ensures.none c.requires.last made).op) (c.tree.ensures ∙ tree_was e N M rows was s had) (c.tree-2.ensures ∙ tree_is e N M rows now s has) (event_tree c.steps-steps.ensures.reached.0 N M e rows c.steps-steps.ensures.reached.1 s)

pub returns : goal.returns
returns c = λ rows made.
    let N = c.args.old.now.history.now.states in
    let M = c.args.new.now.history.now.states in
    let e = c.args.event.now in
    let s = made.step in
    let was = c.in-Some.was.now in
    let now = c.in-Some-replica.now.now in
    let step = c.last_step.result in
    let had : HasReplica N (replica_of e) was = subst (λ (p : ℕ). HasReplica N p was) c.replica.ensures c.in-Some.ensures.some in
    let has : HasReplica M (replica_of e) now = subst (λ (p : ℕ). HasReplica M p now) c.replica-3.ensures c.in-Some-replica.ensures.some in
    store_tells (event_op e s.before s.after) c.in-Some-op_of.op.now s.before.tree s.after.tree _ _ _ (c.in-Some-op_of.ensures ∙ (parts_of_last c.args.new.now.history c.args.old.now.history.now e rows step c.last_step.ensures.some c.last_step.ensures.none c.requires.last made).op) (c.tree.ensures ∙ tree_was e N M rows was s had) (c.tree-2.ensures ∙ tree_is e N M rows now s has) c.in_ok-effects.ensures

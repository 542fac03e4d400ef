use Rattle.std.proofs.Common.{◌≡◌, ◌≤◌, [], ◌∷◌, ◌++◌, length, reverse, take, drop, Some, Ok, Err, refl, sym, ◌∙◌, ap, subst, slice_get, arith}
use Rattle.jc_rules.specs.Step.{replica_of}
use Rattle.jc_network.specs.declared.fault.StepFault.TheVariants as E
use Rattle.jc_network.specs.NetworkHistory.{NetworkHistory, network_history_of, StepsTo}
use Rattle.jc_network.specs.Steps.{MakesStep, IsStuckFor}
use Rattle.jc_network.proofs.StepsLemmas.{never_full, told_stuck, at_err}
use Rattle.jc_network.proofs.InvariantLemmas.{stepped_whole, all_hand, all_own, now_in_run, as_many}
use Rattle.jc_network.proofs.net.Net.step.Goals as goal

-- ---- the number of steps

pub returns-then-steps-ge-MAX_EVENTS-clause-full : goal.returns-then-steps-ge-MAX_EVENTS-clause-full
returns-then-steps-ge-MAX_EVENTS-clause-full c =
    let many = as_many c.self.inside.version c.self.inside.whose.items c.self.inside.replicas.items in
    let seen = ap (λ (v : NetworkHistory). length v.history.earlier) c.self.view_is in
    let n = c.self.inside.whose.ok.0 in
    (λ _. omega (arith, many, seen, n, c.len-steps.ensures, c.if-steps-ge-MAX_EVENTS.true), λ _. refl)

pub returns-then-is_err-clause-full : goal.returns-then-is_err-clause-full
returns-then-is_err-clause-full c =
    let many = as_many c.self.inside.version c.self.inside.whose.items c.self.inside.replicas.items in
    let seen = ap (λ (v : NetworkHistory). length v.history.earlier) c.self.view_is in
    let n = c.self.inside.whose.ok.0 in
    (λ e. cc, λ l. absurd (omega (arith, many, seen, n, c.len-steps.ensures, c.if-steps-ge-MAX_EVENTS.false, l)))

pub returns-in_err-trace-clause-full : goal.returns-in_err-trace-clause-full
returns-in_err-trace-clause-full c =
    let many = as_many c.self.inside.version c.self.inside.whose.items c.self.inside.replicas.items in
    let seen = ap (λ (v : NetworkHistory). length v.history.earlier) c.self.view_is in
    let n = c.self.inside.whose.ok.0 in
    let short : 100000 ≤ length c.args.self.now.history.earlier → ⊥ = λ l. omega (arith, many, seen, n, c.len-steps.ensures, c.if-steps-ge-MAX_EVENTS.false, l) in
    (λ e. absurd (never_full c.self.inside.version c.args.event.now _ _ c.in_err-trace.field-0.0 c.in_err-trace.ensures (let q = at_err _ c.from_residual.result E.Full c.from_residual.ensures.1 e in let s : c.in_err-trace.field-0.0 ≡ E.Full = cc in s)), λ l. absurd (short l))

pub returns-clause-full : goal.returns-clause-full
returns-clause-full c =
    let many = as_many c.self.inside.version c.self.inside.whose.items c.self.inside.replicas.items in
    let seen = ap (λ (v : NetworkHistory). length v.history.earlier) c.self.view_is in
    let n = c.self.inside.whose.ok.0 in
    (λ e. cc, λ l. absurd (omega (arith, many, seen, n, c.len-steps.ensures, c.if-steps-ge-MAX_EVENTS.false, l)))

-- ---- the event

pub make-requires-clause-hand : goal.make-requires-clause-hand
make-requires-clause-hand c = λ q replica e.
    all_hand c.self.inside.version (length c.self.inside.names.items) (reverse c.self.inside.whose.items) c.self.inside.replicas.items c.self.invariant q replica (subst (λ ps. slice_get ps q ≡ Some replica) c.as_mut_slice.ensures.value e)

pub make-requires-clause-own : goal.make-requires-clause-own
make-requires-clause-own c = λ q replica e.
    all_own c.self.inside.version (length c.self.inside.names.items) (reverse c.self.inside.whose.items) c.self.inside.replicas.items c.self.invariant q replica (subst (λ ps. slice_get ps q ≡ Some replica) c.as_mut_slice.ensures.value e)

pub returns-in_err-trace-clause-stuck : goal.returns-in_err-trace-clause-stuck
returns-in_err-trace-clause-stuck c = λ s e.
    let items = c.self.inside.replicas.items in
    let run = now_in_run c.self.inside.version (length c.self.inside.names.items) (reverse c.self.inside.whose.items) items c.self.invariant in
    let m = subst (λ ps. MakesStep c.self.inside.version c.args.event.now ps c.make.new.replicas (Err c.in_err-trace.field-0.0)) c.as_mut_slice.ensures.value c.in_err-trace.ensures in
    let q = at_err _ c.from_residual.result (E.Stuck s) c.from_residual.ensures.1 e in
    let is : c.in_err-trace.field-0.0 ≡ E.Stuck s = cc in
    subst (λ (v : NetworkHistory). IsStuckFor v.history.now c.args.event.now s) c.self.view_is (told_stuck c.self.inside.version c.self.invariant.scripts c.self.invariant.first c.args.event.now items c.make.new.replicas c.in_err-trace.field-0.0 s run m is)

pub invariant_of-self-2 : goal.invariant_of-self-2
invariant_of-self-2 c =
    let items = c.self.inside.replicas.items in
    let made = subst (λ ps. MakesStep c.self.inside.version c.args.event.now ps c.make.new.replicas (Ok c.in_ok-trace.trace)) c.as_mut_slice.ensures.value c.in_ok-trace.ensures in
    let more : c.push.new.self.items ≡ c.self.inside.whose.items ++ replica_of c.args.event.now ∷ [] = rw (c.push.ensures.items, c.unwrap.ensures, c.reserve.ensures.items, c.replica.ensures) refl in
    (stepped_whole c.self.inside.version c.self.inside.names.items items c.make.new.replicas c.self.inside.replicas.len c.self.inside.whose.items c.push.new.self.items c.args.event.now c.in_ok-trace.trace made.0 (sym c.as_mut_slice.ensures.len ∙ ap length c.as_mut_slice.ensures.value) more c.self.invariant made.1).kept

pub returns-clause-made : goal.returns-clause-made
returns-clause-made c =
    let items = c.self.inside.replicas.items in
    let made = subst (λ ps. MakesStep c.self.inside.version c.args.event.now ps c.make.new.replicas (Ok c.in_ok-trace.trace)) c.as_mut_slice.ensures.value c.in_ok-trace.ensures in
    let more : c.push.new.self.items ≡ c.self.inside.whose.items ++ replica_of c.args.event.now ∷ [] = rw (c.push.ensures.items, c.unwrap.ensures, c.reserve.ensures.items, c.replica.ensures) refl in
    let s = stepped_whole c.self.inside.version c.self.inside.names.items items c.make.new.replicas c.self.inside.replicas.len c.self.inside.whose.items c.push.new.self.items c.args.event.now c.in_ok-trace.trace made.0 (sym c.as_mut_slice.ensures.len ∙ ap length c.as_mut_slice.ensures.value) more c.self.invariant made.1 in
    subst (λ (v : NetworkHistory). StepsTo v c.args.event.now (network_history_of c.self.inside.version c.self.inside.names.items (reverse c.push.new.self.items) (take c.self.inside.replicas.len (c.make.new.replicas ++ drop (length c.make.new.replicas) items))) c.in_ok-trace.trace) c.self.view_is s.steps

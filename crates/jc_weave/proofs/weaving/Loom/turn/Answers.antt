use Rattle.std.proofs.Common.{arith, ◌≡◌, ◌∙◌, ap, sym, refl, length}
use Rattle.jc_choice.specs.Chosen.{choice}
use Rattle.jc_weave.specs.Looms.{drawn_of, pool, phase_at}
use Rattle.jc_weave.proofs.LoomsLemmas.{fewer}
use Rattle.jc_weave.proofs.WeavingLemmas.{made_turn, finished_turn, stuck_turn}
use Rattle.jc_weave.proofs.weaving.Loom.turn.Goals as goal

pub returns-in_ok-leave-in-None-clause-turn : goal.returns-in_ok-leave-in-None-clause-turn
returns-in_ok-leave-in-None-clause-turn c =
    let old = c.args.self.now in
    let N = old.net.history.now.states in
    let p = c.in_ok-p.p in
    let at : p ≡ drawn_of (pool N old.phases.items old.live.items) old.rng = c.in_ok-p.ensures.drawn ∙ (λ i. drawn_of (pool N (c.deref.ensures.value i) (c.deref-2.ensures.value i)) old.rng) in
    let chosen : c.choose.result ≡ choice N p (phase_at old.phases.items p) = c.choose.ensures ∙ ap (choice N p) (c.phase_at.ensures ∙ ap (λ l. phase_at l p) c.deref-3.ensures.value) in
    finished_turn _ _ _ _ _ _ _ _ _ _ _ _ _ _ p c.requires.room c.requires.some at (c.leave.ensures.generator ∙ c.in_ok-p.ensures.moved)
    (ap (λ n. n.history.now) c.leave.ensures.net) (ap (λ v. v.items) c.leave.ensures.phases) c.in_ok-leave-in-None.ensures.gone c.leave.ensures.left (ap (λ v. v.items) c.leave.ensures.schedule)
    (sym chosen ∙ c.in-None.is) (ap (λ v. v.items) c.leave.ensures.stucks)

pub returns-in_ok-leave-in-None-clause-fewer : goal.returns-in_ok-leave-in-None-clause-fewer
returns-in_ok-leave-in-None-clause-fewer c =
    let old = c.args.self.now in
    let N = old.net.history.now.states in
    let p = c.in_ok-p.p in
    let at : p ≡ drawn_of (pool N old.phases.items old.live.items) old.rng = c.in_ok-p.ensures.drawn ∙ (λ i. drawn_of (pool N (c.deref.ensures.value i) (c.deref-2.ensures.value i)) old.rng) in
    omega (arith, c.leave.ensures.left, ap length c.in_ok-leave-in-None.ensures.gone, fewer N old.phases.items old.live.items old.rng p c.requires.some at)

pub returns-in_ok-push-in-Some-clause-turn : goal.returns-in_ok-push-in-Some-clause-turn
returns-in_ok-push-in-Some-clause-turn c =
    let old = c.args.self.now in
    let N = old.net.history.now.states in
    let p = c.in_ok-p.p in
    let at : p ≡ drawn_of (pool N old.phases.items old.live.items) old.rng = c.in_ok-p.ensures.drawn ∙ (λ i. drawn_of (pool N (c.deref.ensures.value i) (c.deref-2.ensures.value i)) old.rng) in
    let chosen : c.choose.result ≡ choice N p (phase_at old.phases.items p) = c.choose.ensures ∙ ap (choice N p) (c.phase_at.ensures ∙ ap (λ l. phase_at l p) c.deref-3.ensures.value) in
    let h = c.in_ok-step_or_stick-in-Some.ensures.made c.if-branch.true in
    made_turn _ _ _ _ _ _ _ _ _ _ _ _ _ _ p c.in-Some.event c.in-Some.next h.0.0.rows c.requires.room c.requires.some at c.in_ok-p.ensures.moved (sym chosen ∙ c.in-Some.is) h.0.1
    c.set_phase.ensures refl (omega (arith, c.requires.room)) c.in_ok-push-in-Some.ensures.items (ap (λ v. v.items) h.1)

pub returns-in_ok-leave-in-Some-clause-turn : goal.returns-in_ok-leave-in-Some-clause-turn
returns-in_ok-leave-in-Some-clause-turn c =
    let old = c.args.self.now in
    let N = old.net.history.now.states in
    let p = c.in_ok-p.p in
    let at : p ≡ drawn_of (pool N old.phases.items old.live.items) old.rng = c.in_ok-p.ensures.drawn ∙ (λ i. drawn_of (pool N (c.deref.ensures.value i) (c.deref-2.ensures.value i)) old.rng) in
    let chosen : c.choose.result ≡ choice N p (phase_at old.phases.items p) = c.choose.ensures ∙ ap (choice N p) (c.phase_at.ensures ∙ ap (λ l. phase_at l p) c.deref-3.ensures.value) in
    let h = c.in_ok-step_or_stick-in-Some.ensures.stuck c.if-branch.false in
    stuck_turn _ _ _ _ _ _ _ _ _ _ _ _ _ _ p c.requires.room c.requires.some at (c.leave-else-branch.ensures.generator ∙ c.in_ok-p.ensures.moved)
    (ap (λ n. n.history.now) (c.leave-else-branch.ensures.net ∙ h.0)) (ap (λ v. v.items) c.leave-else-branch.ensures.phases) c.in_ok-leave-in-Some.ensures.gone c.leave-else-branch.ensures.left (ap (λ v. v.items) c.leave-else-branch.ensures.schedule)
    c.in-Some.event c.in-Some.next h.1 (sym chosen ∙ c.in-Some.is) h.2 (ap (λ v. v.items) c.leave-else-branch.ensures.stucks ∙ h.3)

pub returns-in_ok-leave-in-Some-clause-fewer : goal.returns-in_ok-leave-in-Some-clause-fewer
returns-in_ok-leave-in-Some-clause-fewer c =
    let old = c.args.self.now in
    let N = old.net.history.now.states in
    let p = c.in_ok-p.p in
    let at : p ≡ drawn_of (pool N old.phases.items old.live.items) old.rng = c.in_ok-p.ensures.drawn ∙ (λ i. drawn_of (pool N (c.deref.ensures.value i) (c.deref-2.ensures.value i)) old.rng) in
    omega (arith, c.leave-else-branch.ensures.left, ap length c.in_ok-leave-in-Some.ensures.gone, fewer N old.phases.items old.live.items old.rng p c.requires.some at)

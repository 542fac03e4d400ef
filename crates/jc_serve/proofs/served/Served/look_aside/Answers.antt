use Rattle.std.proofs.Common.{◌≡◌, ◌+◌, length, Err, refl, ap, subst, ◌∙◌, arith}
use Rattle.jc_rules.specs.declared.refusal.Refusal.TheVariants as F
use Rattle.jc_debug.specs.declared.fault.DebugFault.TheVariants as D
use Rattle.jc_debug.specs.Moves.{IsMoveFault}
use Rattle.jc_network.specs.NetworkHistory.{NetworkHistory}
use Rattle.jc_rules.specs.declared.operation.Event.{Event}
use Rattle.jc_rules.specs.Refused.{Cause}
use Rattle.jc_network.specs.Steps.{stuck_for}
use Rattle.jc_serve.specs.AnswerOf.{stopped_answer}
use Rattle.jc_serve.proofs.AnswersLemmas.{looks_shown, looks_stopped}
use Rattle.jc_serve.proofs.FindsLemmas.{answers_weaker}
use Rattle.jc_serve.proofs.LooksLemmas.{aside_at, within_at, shows_at, ended, ended_stuck, ended_answer}
use Rattle.jc_serve.proofs.SessionsLemmas.{aside_moved}
use Rattle.jc_serve.proofs.MoveFaultsLemmas.{refused_for}
use Rattle.jc_serve.proofs.served.Served.look_aside.Goals as goal

pub unreachable-requires : goal.unreachable-requires
unreachable-requires c =
    let w = c.in-Err-Refused in
    let told = refused_for F.PastSchedule w.field-0-0 c.args.self.now.aside c.goto.new.self c.args.n w.field-0 w.field-0-is w.ensures.err in
    let past = c.goto.ensures.past.0 (w.is ∙ ap Err told) in
    let (s, start, v) = c.requires.held in
    let same = ap length v.same in
    omega (arith, past, same, c.requires.there)

pub shown-requires : goal.shown-requires
shown-requires c =
    let x = c.args.self.now in
    let (s, start, v) = c.requires.held in
    within_at s start x v (length s.given + c.args.n) c.net.result.now.history.now c.args.look.now (aside_at s start x v c.goto.new.self c.args.n c.net.result.now c.in-Ok.ensures.ok c.net.ensures.is_at) c.requires.within

pub stopped-requires-clause-stuck : goal.stopped-requires-clause-stuck
stopped-requires-clause-stuck c =
    let x = c.args.self.now in
    let (s, start, v) = c.requires.held in
    let f : IsMoveFault F.PastSchedule x.aside c.goto.new.self c.args.n (D.Stuck c.in-Err-Stuck.stuck) = subst (λ k. IsMoveFault F.PastSchedule x.aside c.goto.new.self c.args.n k) c.in-Err-Stuck.field-0-is c.in-Err-Stuck.ensures.err in
    ended_stuck s start x v x.aside c.goto.new.self v.aside v.same c.args.n c.in-Err-Stuck.stuck f

pub returns-in-Ok : goal.returns-in-Ok
returns-in-Ok c =
    let x = c.args.self.now in
    let a = c.goto.new.self in
    answers_weaker c.shown.result (λ answer h s start v. (
      λ at is. looks_shown s x.here.schedule (length x.here.traces) (length s.given + c.args.n) at c.args.look.now answer is
          (shows_at s x.here.schedule (length s.given + c.args.n) c.net.result.now c.args.look.now answer (aside_at s start x v a c.args.n c.net.result.now c.in-Ok.ensures.ok c.net.ensures.is_at)
          (ap (λ (n : NetworkHistory). n.names) c.net.ensures.net ∙ c.in-Ok.ensures.ok.names ∙ v.aside.names) h),
      refl,
      aside_moved s start x a c.args.n v c.in-Ok.ensures.ok,
    )) c.shown.ensures

pub returns-in_ok-stopped-in-Err-Stuck : goal.returns-in_ok-stopped-in-Err-Stuck
returns-in_ok-stopped-in-Err-Stuck c s start v =
    let x = c.args.self.now in
    let a = c.goto.new.self in
    let w = c.in-Err-Stuck in
    let f : IsMoveFault F.PastSchedule x.aside a c.args.n (D.Stuck w.stuck) = subst (λ k. IsMoveFault F.PastSchedule x.aside a c.args.n k) w.field-0-is w.ensures.err in
    let answer = c.in_ok-stopped-in-Err-Stuck.field-0.items in
    let told : (why : Cause) (event : Event) → w.stuck ≡ stuck_for why event → answer ≡ stopped_answer x.scenario.given.items a why event =
    subst (λ es. (why : Cause) (event : Event) → w.stuck ≡ stuck_for why event → answer ≡ stopped_answer es a why event) c.as_slice-given.ensures.value c.in_ok-stopped-in-Err-Stuck.ensures.answer in (
      λ at is. looks_stopped s x.here.schedule (length x.here.traces) (length s.given + c.args.n) at c.args.look.now answer is
          (ended_answer s start x v x.aside a v.aside v.same c.args.n w.stuck f answer c.stopped.ensures.trail told),
      refl,
      aside_moved s start x a f.0 v (ended s start x v x.aside a v.aside v.same c.args.n w.stuck f),
    )

use Rattle.std.proofs.Common.{◌≡◌, ◌+◌, length, Err, refl, ap, subst, ◌∙◌, arith}
use Rattle.std.proofs.lemmas.Result.{IfOk-weaker}
use Rattle.jc_rules.specs.declared.refusal.Refusal.TheVariants as F
use Rattle.jc_debug.specs.declared.fault.DebugFault.TheVariants as D
use Rattle.jc_debug.specs.Moves.{IsMoveFault}
use Rattle.jc_rules.specs.declared.operation.Event.{Event}
use Rattle.jc_rules.specs.Refused.{Cause}
use Rattle.jc_network.specs.Steps.{stuck_for}
use Rattle.jc_serve.specs.AnswerOf.{stopped_answer}
use Rattle.jc_serve.proofs.AnswersLemmas.{tells_stopped}
use Rattle.jc_serve.proofs.LooksLemmas.{ended, ended_answer}
use Rattle.jc_serve.proofs.SessionsLemmas.{here_moved}
use Rattle.jc_serve.proofs.EventsLemmas.{line_so, here_state}
use Rattle.jc_serve.proofs.MoveFaultsLemmas.{refused_for, paired_moved}
use Rattle.jc_serve.proofs.served.Served.line_at.Goals as goal

pub unreachable-requires : goal.unreachable-requires
unreachable-requires c =
    let w = c.in-Err-Refused in
    let told = refused_for F.PastSchedule w.field-0-0 c.args.self.now.here c.goto.new.self c.args.n w.field-0 w.field-0-is w.ensures.err in
    let past = c.goto.ensures.past.0 (w.is ∙ ap Err told) in
    omega (arith, past, c.requires.there)

pub bring_aside-requires-clause-paired : goal.bring_aside-requires-clause-paired
bring_aside-requires-clause-paired c = paired_moved c.args.self.now c.goto.new.self c.args.n c.requires.held c.in-Ok.ensures.ok

pub bring_aside-requires-clause-before : goal.bring_aside-requires-clause-before
bring_aside-requires-clause-before c =
    let n = c.in-Ok.ensures.ok.position in
    omega (arith, n, c.requires.behind)

pub returns-in_ok-bring_aside-in-Ok : goal.returns-in_ok-bring_aside-in-Ok
returns-in_ok-bring_aside-in-Ok c =
    let x = c.args.self.now in
    let h = c.goto.new.self in
    IfOk-weaker c.line_here.result _ _ (λ answer l.
    line_so x h c.bring_aside.new.self c.args.details c.args.n answer.items c.requires.behind c.in-Ok.ensures.ok c.bring_aside.ensures.rest c.in_ok-bring_aside-in-Ok.ensures.moved l) c.line_here.ensures

pub returns-in_ok-answer-in-Err-Stuck : goal.returns-in_ok-answer-in-Err-Stuck
returns-in_ok-answer-in-Err-Stuck c s start v =
    let x = c.args.self.now in
    let d = c.goto.new.self in
    let w = c.in-Err-Stuck in
    let f : IsMoveFault F.PastSchedule x.here d c.args.n (D.Stuck w.stuck) = subst (λ k. IsMoveFault F.PastSchedule x.here d c.args.n k) w.field-0-is w.ensures.err in
    let answer = c.in_ok-answer-in-Err-Stuck.answer.items in
    let h : (why : Cause) (event : Event) → w.stuck ≡ stuck_for why event → answer ≡ stopped_answer x.scenario.given.items d why event =
    λ why event e. subst (λ es. answer ≡ stopped_answer es d why event) c.as_slice-given.ensures.value (c.in_ok-answer-in-Err-Stuck.ensures.answer why event (rw w.field-0-is e)) in
    let m = ended s start x v x.here d v.here refl c.args.n w.stuck f in (
      (λ at is. tells_stopped c.args.details s x.here.schedule (length x.here.traces) (length s.given + c.args.n) at answer is
          (ended_answer s start x v x.here d v.here refl c.args.n w.stuck f answer c.stopped.ensures.trail h)),
      (f.0, here_state x d f.0 m),
      here_moved s start x d f.0 v m,
    )

use Rattle.std.proofs.Common.{◌+◌, length, Err, ap, ◌∙◌, arith}
use Rattle.jc_rules.specs.declared.refusal.Refusal.TheVariants as F
use Rattle.jc_serve.proofs.MoveFaultsLemmas.{refused_for}
use Rattle.jc_serve.proofs.RunsLemmas.{forward_quiet, forward_break}
use Rattle.jc_serve.proofs.served.Served.forward.Goals as goal

pub unreachable-requires : goal.unreachable-requires
unreachable-requires c =
    let x = c.args.self.now.here in
    let w = c.in-Err-Refused in
    let told = refused_for F.AtEnd w.field-0-0 x c.step.new.self (length x.traces + 1) w.field-0 w.field-0-is w.ensures.err in
    let past = c.step.ensures.end.0 (w.is ∙ ap Err told) in
    omega (arith, past, c.requires.more)

pub returns-in-Some : goal.returns-in-Some
returns-in-Some c =
    let e = c.in_ok-place.ensures in
    forward_break c.args.self.now c.named_here.new.self c.step.new.self c.in_ok-place.field-0 c.in-Some.place c.in-Ok.ensures.ok e.moved e.named c.in-Some.is e.trail

pub returns-in-None : goal.returns-in-None
returns-in-None c =
    let e = c.in_ok-place.ensures in
    forward_quiet c.args.self.now c.named_here.new.self c.step.new.self c.in_ok-place.field-0 c.in-Ok.ensures.ok e.moved e.named c.in-None.is e.trail

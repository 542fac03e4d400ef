use Rattle.std.proofs.Common.{Err, ap, ◌∙◌, arith}
use Rattle.jc_rules.specs.declared.refusal.Refusal.TheVariants as F
use Rattle.jc_serve.proofs.MoveFaultsLemmas.{refused_for, never_stuck}
use Rattle.jc_serve.proofs.served.bring.Goals as goal

pub unreachable-requires : goal.unreachable-requires
unreachable-requires c =
    let w = c.in-Err-Refused in
    let told = refused_for F.PastSchedule w.field-0-0 c.args.debugger.now c.goto.new.self c.args.n w.field-0 w.field-0-is w.ensures.err in
    let past = c.goto.ensures.past.0 (w.is ∙ ap Err told) in
    let within = c.requires.1.within in
    omega (arith, past, within)

pub unreachable-requires-in-Err-Stuck : goal.unreachable-requires-in-Err-Stuck
unreachable-requires-in-Err-Stuck c =
    let w = c.in-Err-Stuck in
    never_stuck F.PastSchedule c.args.debugger.now c.goto.new.self c.args.n w.field-0-0 w.field-0 w.field-0-is c.requires w.ensures.err

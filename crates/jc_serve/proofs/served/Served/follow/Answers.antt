use Rattle.std.proofs.Common.{◌≡◌, ◌<◌, get_or, List, length, slice_get, Some, ap, sym, subst, ◌∙◌, arith}
use Rattle.std.proofs.lemmas.Option.{slice_get-get_or}
use Rattle.jc_rules.specs.declared.operation.Event.{Event}
use Rattle.jc_rules.specs.declared.operation.Event.TheVariants.{Exec}
use Rattle.jc_debug.specs.declared.fault.DebugFault.TheVariants as D
use Rattle.jc_debug.specs.Moves.{IsActFault}
use Rattle.jc_serve.proofs.MoveFaultsLemmas.{shared_there, never_full, never_stuck_beside}
use Rattle.jc_serve.proofs.served.Served.follow.Goals as goal

pub bring-requires : goal.bring-requires
bring-requires c = shared_there c.args.self.now.aside c.args.self.now.here c.args.n c.position.ensures.trail c.requires

pub unreachable-requires : goal.unreachable-requires
unreachable-requires c =
    let w = c.in-Err-Refused in
    let d = c.bring.new.debugger in
    let event : Event = get_or c.schedule.result.now c.args.n (Exec 0) in
    let f : IsActFault d event (D.Refused w.field-0-0) = subst (λ k. IsActFault d event k) w.field-0-is w.ensures.stuck in
    never_full c.args.self.now.aside c.args.self.now.here d c.args.n c.position.ensures.trail c.requires c.in_ok-bring.ensures f.1

pub unreachable-requires-in-Err-Stuck : goal.unreachable-requires-in-Err-Stuck
unreachable-requires-in-Err-Stuck c =
    let w = c.in-Err-Stuck in
    let d = c.bring.new.debugger in
    let x = c.args.self.now in
    let event : Event = get_or c.schedule.result.now c.args.n (Exec 0) in
    let f : IsActFault d event (D.Stuck w.field-0-0) = subst (λ k. IsActFault d event k) w.field-0-is w.ensures.stuck in
    let made = c.requires.made in
    let within = c.position.ensures.trail.within in
    let same = ap length c.schedule.ensures in
    let lt : c.args.n < length c.schedule.result.now = omega (arith, made, within, same) in
    let is : slice_get x.here.schedule c.args.n ≡ Some event =
    ap (λ (es : List Event). slice_get es c.args.n) (sym c.schedule.ensures) ∙ slice_get-get_or c.schedule.result.now c.args.n (Exec 0) lt in
    never_stuck_beside x.aside x.here d c.args.n event w.field-0-0 c.position.ensures.trail c.requires c.in_ok-bring.ensures is f

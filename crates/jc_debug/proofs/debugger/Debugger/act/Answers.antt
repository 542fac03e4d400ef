use Rattle.std.proofs.Common.{rules, ◌≡◌, ◌<◌, ◌++◌, [], ◌∷◌, length, take, Err, refl, ap, ◌∙◌, subst, arith}
use Rattle.jc_debug.specs.Moves.{IsActed, IsStuckHere}
use Rattle.jc_debug.specs.Invariant.{Seen}
use Rattle.jc_debug.proofs.ActLemmas.{acted_trail, is_acted, stuck_here}
use Rattle.jc_debug.proofs.InvariantLemmas.{seen}
use Rattle.jc_debug.proofs.debugger.Debugger.act.Goals as goal

pub returns-in-Err-Stuck-clause-stuck : goal.returns-in-Err-Stuck-clause-stuck
returns-in-Err-Stuck-clause-stuck c =
    let d = seen c.self.inside.net c.self.inside.schedule.items c.self.inside.traces.items c.self.inside.breaks in
    let stuck = c.in-Err-Stuck.ensures.stuck c.in-Err-Stuck.stuck (ap Err c.in-Err-Stuck.field-0-is) in
    subst (λ (v : Seen). IsStuckHere v c.args.event.now c.in-Err-Stuck.stuck) c.self.view_is (stuck_here d c.args.event.now c.in-Err-Stuck.stuck c.self.invariant stuck)

pub invariant_of-self-2 : goal.invariant_of-self-2
invariant_of-self-2 c =
    let d = seen c.self.inside.net c.self.inside.schedule.items c.self.inside.traces.items c.self.inside.breaks in
    let e = seen c.step.new.self c.push.new.self.items c.keep.new.traces.items c.self.inside.breaks in
    let here : c.len-here.result ≡ length c.self.inside.traces.items = search rules in
    let short : length c.self.inside.traces.items < 100000 = omega (arith, here, c.if-here-ge-MAX_EVENTS.false) in
    let traces : c.keep.new.traces.items ≡ c.self.inside.traces.items ++ c.in-Ok.trace ∷ [] = search rules in
    let cut : c.push.new.self.items ≡ take c.len-here.result c.self.inside.schedule.items ++ c.args.event.now ∷ [] = search rules in
    let schedule : c.push.new.self.items ≡ take (length c.self.inside.traces.items) c.self.inside.schedule.items ++ c.args.event.now ∷ [] = cut ∙ ap (λ n. take n c.self.inside.schedule.items ++ c.args.event.now ∷ []) here in
    acted_trail d e c.in-Ok.trace c.args.event.now c.self.invariant c.in-Ok.ensures.made schedule traces refl short

pub returns-clause-ok : goal.returns-clause-ok
returns-clause-ok c =
    let d = seen c.self.inside.net c.self.inside.schedule.items c.self.inside.traces.items c.self.inside.breaks in
    let e = seen c.step.new.self c.push.new.self.items c.keep.new.traces.items c.self.inside.breaks in
    let here : c.len-here.result ≡ length c.self.inside.traces.items = search rules in
    let traces : c.keep.new.traces.items ≡ c.self.inside.traces.items ++ c.in-Ok.trace ∷ [] = search rules in
    let cut : c.push.new.self.items ≡ take c.len-here.result c.self.inside.schedule.items ++ c.args.event.now ∷ [] = search rules in
    let schedule : c.push.new.self.items ≡ take (length c.self.inside.traces.items) c.self.inside.schedule.items ++ c.args.event.now ∷ [] = cut ∙ ap (λ n. take n c.self.inside.schedule.items ++ c.args.event.now ∷ []) here in
    subst (λ (v : Seen). IsActed v e c.args.event.now) c.self.view_is (is_acted d e c.in-Ok.trace c.args.event.now c.self.invariant c.in-Ok.ensures.made schedule traces refl)

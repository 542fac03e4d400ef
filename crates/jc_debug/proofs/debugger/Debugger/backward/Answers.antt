use Rattle.std.proofs.Common.{◌<◌, ◌-◌, length, refl, sym, subst, arith}
use Rattle.jc_debug.specs.Invariant.{Seen, IsMoved}
use Rattle.jc_debug.proofs.InvariantLemmas.{seen, trail_back, moved_back, last_gone, undone}
use Rattle.jc_debug.proofs.debugger.Debugger.backward.Goals as goal

pub invariant_of-self : goal.invariant_of-self
invariant_of-self c =
    let d = seen c.self.inside.net c.self.inside.schedule.items c.self.inside.traces.items c.self.inside.breaks in
    let e = seen c.undo.new.self c.self.inside.schedule.items c.pop.new.self.items c.self.inside.breaks in
    let some : 0 < length c.self.inside.traces.items = subst (λ (v : Seen). 0 < length v.traces) (sym c.self.view_is) c.requires in
    let last = last_gone c.pop.result c.self.inside.traces.items c.pop.new.self.items (c.pop.ensures.variant.1 (omega (arith, some, c.self.inside.traces.ok.0))) c.pop.ensures.items in
    let count = c.self.invariant.count in
    let back = undone c.undo.result c.self.inside.net c.undo.new.self c.undo.ensures.undone c.undo.ensures.none (omega (arith, count, some)) in
    trail_back d e last.0 c.self.invariant back refl last.1 refl

pub returns : goal.returns
returns c =
    let d = seen c.self.inside.net c.self.inside.schedule.items c.self.inside.traces.items c.self.inside.breaks in
    let e = seen c.undo.new.self c.self.inside.schedule.items c.pop.new.self.items c.self.inside.breaks in
    let some : 0 < length c.self.inside.traces.items = subst (λ (v : Seen). 0 < length v.traces) (sym c.self.view_is) c.requires in
    let last = last_gone c.pop.result c.self.inside.traces.items c.pop.new.self.items (c.pop.ensures.variant.1 (omega (arith, some, c.self.inside.traces.ok.0))) c.pop.ensures.items in
    let count = c.self.invariant.count in
    let back = undone c.undo.result c.self.inside.net c.undo.new.self c.undo.ensures.undone c.undo.ensures.none (omega (arith, count, some)) in
    subst (λ (v : Seen). IsMoved v e (length v.traces - 1)) c.self.view_is (moved_back d e last.0 back c.undo.ensures.names refl last.1 refl)

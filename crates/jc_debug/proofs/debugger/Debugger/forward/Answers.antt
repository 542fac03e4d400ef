use Rattle.std.proofs.Common.{rules, ◌≡◌, ◌+◌, ◌<◌, ◌++◌, [], ◌∷◌, length, Err, refl, ap, sym, subst, arith, length-append}
use Rattle.jc_debug.specs.declared.fault.Halt.TheVariants as H
use Rattle.jc_debug.specs.Moves.{IsNextHalted}
use Rattle.jc_debug.specs.Invariant.{Seen, IsMoved}
use Rattle.jc_debug.proofs.HaltLemmas.{told_here}
use Rattle.jc_debug.proofs.InvariantLemmas.{seen, trail_on, trail_back, moved_on, next_event, undone}
use Rattle.jc_debug.proofs.debugger.Debugger.forward.Goals as goal

pub returns-in-Err-Stuck-clause-err : goal.returns-in-Err-Stuck-clause-err
returns-in-Err-Stuck-clause-err c =
    let d = seen c.self.inside.net c.self.inside.schedule.items c.self.inside.traces.items c.self.inside.breaks in
    let here : c.len.result ≡ length c.self.inside.traces.items = search rules in
    let more : length c.self.inside.traces.items < length c.self.inside.schedule.items = subst (λ (v : Seen). length v.traces < length v.schedule) (sym c.self.view_is) c.requires.more in
    let event = next_event d c.len.result c.index.result.now here more c.index.ensures in
    let stuck = c.in-Err-Stuck.ensures.stuck c.in-Err-Stuck.stuck (ap Err c.in-Err-Stuck.field-0-is) in
    subst (λ (v : Seen). IsNextHalted v (H.Stuck c.in-Err-Stuck.stuck)) c.self.view_is (told_here d c.self.invariant c.index.result.now event c.in-Err-Stuck.stuck stuck)

-- the event was taken back
pub invariant_of-self-then-is_err : goal.invariant_of-self-then-is_err
invariant_of-self-then-is_err c =
    let d = seen c.self.inside.net c.self.inside.schedule.items c.self.inside.traces.items c.self.inside.breaks in
    let made = seen c.step.new.self c.self.inside.schedule.items (c.self.inside.traces.items ++ c.in-Ok.trace ∷ []) c.self.inside.breaks in
    let e = seen c.undo.new.self c.self.inside.schedule.items c.keep.new.traces.items c.self.inside.breaks in
    let here : c.len.result ≡ length c.self.inside.traces.items = search rules in
    let more : length c.self.inside.traces.items < length c.self.inside.schedule.items = subst (λ (v : Seen). length v.traces < length v.schedule) (sym c.self.view_is) c.requires.more in
    let event = next_event d c.len.result c.index.result.now here more c.index.ensures in
    let on = trail_on d made c.in-Ok.trace c.index.result.now c.self.invariant event c.in-Ok.ensures.made refl refl refl in
    let kept : c.keep.new.traces.items ≡ c.self.inside.traces.items = search rules in
    let size : length made.traces ≡ length c.self.inside.traces.items + 1 = length-append c.self.inside.traces.items (c.in-Ok.trace ∷ []) in
    let count = on.count in
    let back = undone c.undo.result c.step.new.self c.undo.new.self c.undo.ensures.undone c.undo.ensures.none (omega (arith, size, count)) in
    trail_back made e c.in-Ok.trace on back refl (ap (λ l. l ++ c.in-Ok.trace ∷ []) (sym kept)) refl

pub invariant_of-self-else-is_err : goal.invariant_of-self-else-is_err
invariant_of-self-else-is_err c =
    let d = seen c.self.inside.net c.self.inside.schedule.items c.self.inside.traces.items c.self.inside.breaks in
    let e = seen c.step.new.self c.self.inside.schedule.items c.keep.new.traces.items c.self.inside.breaks in
    let here : c.len.result ≡ length c.self.inside.traces.items = search rules in
    let more : length c.self.inside.traces.items < length c.self.inside.schedule.items = subst (λ (v : Seen). length v.traces < length v.schedule) (sym c.self.view_is) c.requires.more in
    let event = next_event d c.len.result c.index.result.now here more c.index.ensures in
    let traces : c.keep.new.traces.items ≡ c.self.inside.traces.items ++ c.in-Ok.trace ∷ [] = search rules in
    trail_on d e c.in-Ok.trace c.index.result.now c.self.invariant event c.in-Ok.ensures.made refl traces refl

pub returns-clause-ok : goal.returns-clause-ok
returns-clause-ok c =
    let d = seen c.self.inside.net c.self.inside.schedule.items c.self.inside.traces.items c.self.inside.breaks in
    let e = seen c.step.new.self c.self.inside.schedule.items c.keep.new.traces.items c.self.inside.breaks in
    let traces : c.keep.new.traces.items ≡ c.self.inside.traces.items ++ c.in-Ok.trace ∷ [] = search rules in
    subst (λ (v : Seen). IsMoved v e (length v.traces + 1)) c.self.view_is (moved_on d e c.in-Ok.trace c.index.result.now c.in-Ok.ensures.made refl traces refl)

use Rattle.std.proofs.Common.{rules, ◌≡◌, ◌-◌, length, slice_get, Some, refl, ap, sym, ◌∙◌, arith}
use Rattle.std.proofs.lemmas.Option.{slice_get_read}
use Rattle.jc_debug.specs.Invariant.{Seen}
use Rattle.jc_debug.proofs.BreaksLemmas.{last_of}
use Rattle.jc_debug.proofs.debugger.Debugger.is_last_of.Goals as goal

pub returns : goal.returns
returns c =
    let here : c.len-here.result ≡ length c.self.inside.traces.items = search rules in
    let seen_2 = ap (λ (v : Seen). length v.traces) c.self.view_is in
    let within = c.self.invariant.within in
    let read = slice_get_read c.self.inside.schedule.items _ (c.len-here.result - 1) c.index.result.now refl (omega (arith, here, within, c.if-here-eq0.false)) c.index.ensures in
    let event : slice_get c.args.self.now.schedule (c.len-here.result - 1) ≡ Some c.index.result.now = ap (λ (v : Seen). slice_get v.schedule (c.len-here.result - 1)) (sym c.self.view_is) ∙ read in
    last_of c.args.self.now.schedule (c.len-here.result - 1) (length c.args.self.now.traces) c.index.result.now c.replica.result c.args.p (omega (arith, here, seen_2, c.if-here-eq0.false)) event c.replica.ensures

use Rattle.std.proofs.Common.{◌-◌, length, rules}
use Rattle.jc_debug.specs.Invariant.{IsMoved}
use Rattle.jc_serve.proofs.RunsLemmas.{taken_back, back_begun, back_marked, back_more, back_first}
use Rattle.jc_serve.proofs.served.Served.run_back.Goals as goal

pub positions-init : goal.positions-init
positions-init c = record { goes = back_begun c.args.self.now c.requires.later }

pub returns-in-Some : goal.returns-in-Some
returns-in-Some c =
    let x = c.args.self.now in
    let y = c.positions.self in
    let g = c.positions.invariant.goes in
    let n = length y.here.traces in
    let e = c.in_ok-place.ensures in
    let a = taken_back c.back.result n (IsMoved y.here c.back.new.self (n - 1)) c.back.ensures.back c.back.ensures.start g.later in
    back_marked x y c.named_here.new.self c.back.new.self c.in_ok-place.field-0 c.in-Some.place g.moved (search rules) g.below g.quiet a e.moved e.named c.in-Some.is

pub positions-preserved : goal.positions-preserved
positions-preserved c =
    let x = c.args.self.now in
    let y = c.positions.self in
    let g = c.positions.invariant.goes in
    let n = length y.here.traces in
    let e = c.in_ok-place.ensures in
    let a = taken_back c.back.result n (IsMoved y.here c.back.new.self (n - 1)) c.back.ensures.back c.back.ensures.start g.later in
    record { goes = back_more x y c.named_here.new.self c.back.new.self c.in_ok-place.field-0 g (search rules) a e.moved e.named c.in_default.is }

pub returns : goal.returns
returns c =
    let x = c.args.self.now in
    let y = c.positions.self in
    let g = c.positions.invariant.goes in
    let n = length y.here.traces in
    let a = taken_back c.back-2.result n (IsMoved y.here c.back-2.new.self (n - 1)) c.back-2.ensures.back c.back-2.ensures.start g.later in
    back_first x y c.back-2.new.self g (search rules) a

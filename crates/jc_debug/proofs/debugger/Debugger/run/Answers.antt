use Rattle.std.proofs.Common.{rules, subst}
use Rattle.jc_debug.specs.declared.fault.Halt.{Halt}
use Rattle.jc_debug.specs.Moves.{IsNextHalted}
use Rattle.jc_debug.proofs.RunLemmas.{quiet_more, ran_stuck, ran_short, ran_break, ran_end}
use Rattle.jc_debug.proofs.InvariantLemmas.{moved_more}
use Rattle.jc_debug.proofs.debugger.Debugger.run.Goals as goal

pub returns-in-Err-Stuck-clause-ok : goal.returns-in-Err-Stuck-clause-ok
returns-in-Err-Stuck-clause-ok c =
    let i = c.loop-position.invariant in
    let told = subst (λ (h : Halt). IsNextHalted c.loop-position.self h) c.in-Err-Stuck.field-0-is c.in-Err-Stuck.ensures.err in
    ran_stuck c.args.self.now c.loop-position.self c.forward.new.self c.loop-position._position c.in-Err-Stuck.stuck i.moved (search rules) i.quiet told c.in-Err-Stuck.ensures.kept

pub returns-in-Err-Memory-clause-err : goal.returns-in-Err-Memory-clause-err
returns-in-Err-Memory-clause-err c =
    let i = c.loop-position.invariant in
    ran_short c.args.self.now c.loop-position.self c.forward.new.self c.loop-position._position i.moved (search rules) (search rules) i.quiet c.in-Err-Memory.ensures.kept

pub returns-in-Some-clause-ok : goal.returns-in-Some-clause-ok
returns-in-Some-clause-ok c =
    let i = c.loop-position.invariant in
    ran_break c.args.self.now c.loop-position.self c.forward.new.self c.loop-position._position _ c.in-Some.j i.moved (search rules) i.quiet c.in-Ok.ensures.ok c.named.ensures.trail (search rules) c.in-Some.ensures.some.1

pub loop-position-preserved : goal.loop-position-preserved
loop-position-preserved c =
    let i = c.loop-position.invariant in
    record {
      trail = c.named.ensures.trail;
      moved = moved_more c.args.self.now c.loop-position.self c.forward.new.self c.loop-position._position i.moved c.in-Ok.ensures.ok;
      quiet = quiet_more c.args.self.now c.loop-position.self c.forward.new.self c.loop-position._position i.moved i.quiet c.in-Ok.ensures.ok c.in_default.ensures.none;
    }

pub returns-clause-ok : goal.returns-clause-ok
returns-clause-ok c =
    let i = c.loop-position.invariant in
    ran_end c.args.self.now c.loop-position.self c.loop-position._position i.trail i.moved i.quiet (search rules) (search rules)

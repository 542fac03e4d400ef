use Rattle.std.proofs.Common.{arith, rules, subst}
use Rattle.jc_serve.specs.Moves.{GoesForward}
use Rattle.jc_serve.proofs.RunsLemmas.{moved_on, quiet_more, run_ended, ran_out}
use Rattle.jc_serve.proofs.served.Served.run.Goals as goal

pub returns-in-Some : goal.returns-in-Some
returns-in-Some c =
    let x = c.args.self.now in
    let y = c.events.self in
    let z = c.forward.new.self in
    let i = c.events.invariant in
    let goes = subst (GoesForward y z) c.in-Some.is c.in_ok-end.ensures in
    run_ended x y z c.in-Some.end i.moved i.forward i.quiet goes

pub events-preserved : goal.events-preserved
events-preserved c =
    let x = c.args.self.now in
    let y = c.events.self in
    let z = c.forward.new.self in
    let i = c.events.invariant in
    let goes = subst (GoesForward y z) c.in_default.is c.in_ok-end.ensures in
    let moved = moved_on x y z i.moved goes in
    record {
      moved = moved;
      forward = (let n = goes.0.here.position in let le = i.forward in omega (arith, n, le));
      quiet = quiet_more x y z i.moved i.quiet goes;
    }

pub returns : goal.returns
returns c =
    let i = c.events.invariant in
    ran_out c.args.self.now c.events.self c.position.ensures.trail i.moved c.requires.more i.quiet (search rules)

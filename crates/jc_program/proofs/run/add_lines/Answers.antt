use Rattle.std.proofs.Common.{◌<◌, ◌∙◌, length, ap, arith}
use Rattle.jc_out.specs.Out.{output}
use Rattle.jc_program.proofs.ReplicaLinesLemmas.{lines_go_on}
use Rattle.jc_program.proofs.RunOutLemmas.{on_err}
use Rattle.jc_program.proofs.run.add_lines.Goals as goal

pub returns-then-is_broken-clause-halted : goal.returns-then-is_broken-clause-halted
returns-then-is_broken-clause-halted g c = (c.loop-p.p, omega (arith, ap length c.names.ensures.names, c.names.ensures, c.loop-p-test.true), c.loop-p.invariant)

pub returns-in_err-line-clause-halted : goal.returns-in_err-line-clause-halted
returns-in_err-line-clause-halted g c =
    on_err _ c.from_residual.result (c.loop-p.p, omega (arith, ap length c.names.ensures.names, c.names.ensures, c.loop-p-test.true), c.loop-p.invariant)

pub loop-p-preserved : goal.loop-p-preserved
loop-p-preserved g c =
    let inside : c.loop-p.p < length c.args.net.now.history.now.states = omega (arith, ap length c.names.ensures.names, c.names.ensures, c.loop-p-test.true) in
    lines_go_on c.args.lines c.args.net.now.names c.args.net.now.history.now.states c.loop-p.p (output g.K.Sink c.args.out.now) (output g.K.Sink c.loop-p.out) (output g.K.Sink c.pass.new.self) inside c.loop-p.invariant
    c.as_slice.result.now (λ A there. c.as_slice.ensures.value ∙ c.in_ok-line.ensures A there) c.pass.ensures

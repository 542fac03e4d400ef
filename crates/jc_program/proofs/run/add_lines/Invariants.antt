use Rattle.std.proofs.Common.{take}
use Rattle.jc_out.specs.Out.{output, AddsText}
use Rattle.jc_program.specs.ReplicaLines.{lines_text}
use Rattle.jc_program.proofs.run.add_lines.Given as goal

-- the lines of the replicas below p were added
abbrev pub invariant-loop-p : goal.invariant-loop-p
invariant-loop-p g l =
    AddsText (lines_text l.fn.lines l.net.names (take l.p l.net.history.now.states)) (output g.K.Sink l.initial.out) (output g.K.Sink l.out)

use Rattle.jc_out.specs.Out.{output}
use Rattle.jc_out.proofs.PiecesLemmas.{ends_after}
use Rattle.jc_out.proofs.output.Out.end.Goals as goal

pub returns-clause-pieces : goal.returns-clause-pieces
returns-clause-pieces g c = λ n pieces first gave.
    ends_after n pieces first (output g.K.Sink c.args.self.now) (output g.K.Sink c.send.new.self) c.send.ensures.added c.send.ensures.none gave

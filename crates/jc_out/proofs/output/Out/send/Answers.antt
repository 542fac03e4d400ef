use Rattle.std.proofs.Common.{[], ◌++◌, refl, sym, subst, ◌∙◌, append-nil}
use Rattle.jc_io.specs.Written.{WrotePart, sink}
use Rattle.jc_out.specs.Out.{output}
use Rattle.jc_out.proofs.OutLemmas.{write_breaks}
use Rattle.jc_out.proofs.output.Out.send.Goals as goal

-- a write of what is held failed
pub returns-in-Err-clause-added : goal.returns-in-Err-clause-added
returns-in-Err-clause-added g c =
    let old = output g.K.Sink c.args.self.now in
    let new = sink g.K.Sink c.write_all.new.sink in
    let part : WrotePart c.as_slice.result.now old.stream new = (c.in-Err.ensures.front, c.in-Err.ensures.failures) in
    let all : WrotePart (old.held ++ []) old.stream new = subst (λ t. WrotePart t old.stream new) (c.as_slice.ensures.value ∙ sym (append-nil old.held)) part in
    (refl, write_breaks old.is_broken [] old.held old.stream new c.if-self.false all)

use Rattle.std.proofs.Common.{◌≡◌, [], ◌++◌, refl, sym, subst, ◌∙◌, add-zero}
use Rattle.jc_io.specs.Written.{Wrote, WrotePart, sink}
use Rattle.jc_out.specs.Out.{output}
use Rattle.jc_out.proofs.OutLemmas.{write_adds, write_breaks}
use Rattle.jc_out.proofs.output.Out.write.Goals as goal

-- nothing was held
pub returns-in-Ok : goal.returns-in-Ok
returns-in-Ok g c =
    let old = output g.K.Sink c.args.self.now in
    let new = sink g.K.Sink c.write_all.new.sink in
    let text = c.args.bytes.now in
    let none : old.held ≡ [] = c.requires c.if-self.false in
    let all : Wrote text old.stream new = (c.in-Ok.ensures.bytes, c.in-Ok.ensures.failures ∙ add-zero old.stream.failures) in
    (refl, write_adds old.is_broken text old.held old.held old.stream new c.if-self.false none (subst (λ l. Wrote (l ++ text) old.stream new) (sym none) all))

pub returns-in-Err : goal.returns-in-Err
returns-in-Err g c =
    let old = output g.K.Sink c.args.self.now in
    let new = sink g.K.Sink c.write_all.new.sink in
    let text = c.args.bytes.now in
    let none : old.held ≡ [] = c.requires c.if-self.false in
    let part : WrotePart text old.stream new = (c.in-Err.ensures.front, c.in-Err.ensures.failures) in
    (refl, write_breaks old.is_broken text old.held old.stream new c.if-self.false (subst (λ l. WrotePart (l ++ text) old.stream new) (sym none) part))

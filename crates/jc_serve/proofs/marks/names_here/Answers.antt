use Rattle.std.proofs.Common.{◌↔◌, length, IsTrue, IfOk, sym, subst}
use Rattle.jc_debug.specs.Invariant.{start_of}
use Rattle.jc_serve.specs.declared.marks.Mark.{Mark as AnyMark}
use Rattle.jc_serve.specs.InMemory.{mark_of}
use Rattle.jc_serve.specs.Marks.{MarkNames}
use Rattle.jc_serve.proofs.marks.names_here.Goals as goal

pub returns-in-Operation : goal.returns-in-Operation
returns-in-Operation c =
    let here = c.args.here.now in
    subst (λ (m : AnyMark). IsTrue c.has_made.result ↔ MarkNames (start_of here) here.schedule (mark_of m) (length here.traces)) (sym c.in-Operation.is) c.has_made.ensures

pub returns-in-Place : goal.returns-in-Place
returns-in-Place c =
    let here = c.args.here.now in
    subst (λ (m : AnyMark). IfOk c.has_changed.result (λ names. IsTrue names ↔ MarkNames (start_of here) here.schedule (mark_of m) (length here.traces))) (sym c.in-Place.is) c.has_changed.ensures

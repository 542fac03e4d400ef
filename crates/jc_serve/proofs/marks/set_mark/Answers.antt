use Rattle.std.proofs.Common.{◌≡◌, List, Option, Some, None, slice_get, subst}
use Rattle.jc_debug.specs.DebuggerState.{IsLeast}
use Rattle.jc_serve.specs.declared.marks.Mark.{Mark as AnyMark}
use Rattle.jc_serve.specs.InMemory.{marks_of}
use Rattle.jc_serve.proofs.MarksLemmas.{set_there}
use Rattle.jc_serve.proofs.marks.set_mark.Goals as goal

pub returns-clause-some : goal.returns-clause-some
returns-clause-some c =
    let j = c.in_ok-place.place in (
      subst (λ (l : List (Option AnyMark)). IsLeast (λ i. slice_get (marks_of l) i ≡ Some None) j) c.deref.ensures.value c.in_ok-place.ensures.some,
      set_there c.args.marks.now.items j (Some c.args.mark),
    )

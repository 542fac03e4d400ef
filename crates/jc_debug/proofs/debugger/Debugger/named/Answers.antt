use Rattle.std.proofs.Common.{length, Some, ap, ◌∙◌, arith, below_more}
use Rattle.jc_debug.specs.DebuggerState.{NamesAt}
use Rattle.jc_debug.specs.Invariant.{start_of, session_of}
use Rattle.jc_debug.proofs.BreaksLemmas.{no_at_none, no_at_other, none_named}
use Rattle.jc_debug.proofs.debugger.Debugger.named.Goals as goal
use Rattle.jc_debug.proofs.debugger.Debugger.named.Goals.{in-Some+else-names, in_default}

pub loop-j-preserved : goal.loop-j-preserved
loop-j-preserved c =
    let d = c.args.self.now in
    let j = c.loop-j.j in
    let here : NamesAt (start_of d) (session_of d) (length d.traces) j → ⊥ = elim c.match-place.branch [
      | in-Some+else-names w ↦ no_at_other (start_of d) (session_of d) (length d.traces) j w.in-Some.b w.names.result (c.place.ensures ∙ ap Some w.in-Some.is) w.names.ensures w.if-names.false
      | in_default w ↦ no_at_none (start_of d) (session_of d) (length d.traces) j (c.place.ensures ∙ ap Some w.in_default.is)
    ] in
    record { none = below_more (λ i. NamesAt (start_of d) (session_of d) (length d.traces) i → ⊥) j c.loop-j.invariant.none here }

pub returns-clause-none : goal.returns-clause-none
returns-clause-none c = none_named c.args.self.now c.position.ensures.trail c.loop-j.j (omega (arith, c.loop-j-test.false)) c.loop-j.invariant.none

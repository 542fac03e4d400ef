use Rattle.std.proofs.Common.{below_more, ap, ◌∙◌, Some}
use Rattle.std.specs.Option.{option_map}
use Rattle.jc_serve.specs.InMemory.{mark_of, NamesHere}
use Rattle.jc_serve.proofs.MarksLemmas.{none_here, none_at, other_at, mark_read}
use Rattle.jc_serve.proofs.marks.named.Goals as goal
use Rattle.jc_serve.proofs.marks.named.Goals.{in-Some+in_ok-names_here+else-branch, in_default}

pub loop-place-preserved : goal.loop-place-preserved
loop-place-preserved c =
    let here = c.args.here.now in
    let marks = c.args.marks.now in
    let j = c.loop-place.place in
    let read = mark_read marks j c.index-marks-place.result c.loop-place-test.true c.index-marks-place.is in
    let there : NamesHere here marks j → ⊥ = elim c.match-marks-place.branch [
      | in-Some+in_ok-names_here+else-branch w ↦ other_at here marks j w.in-Some.mark w.in_ok-names_here.field-0 (read ∙ ap (λ o. Some (option_map mark_of o)) w.in-Some.is) w.in_ok-names_here.ensures w.if-branch.false
      | in_default w ↦ none_at here marks j (read ∙ ap (λ o. Some (option_map mark_of o)) w.in_default.is)
    ] in
    record { none = below_more (λ i. NamesHere here marks i → ⊥) j c.loop-place.invariant.none there }

pub returns : goal.returns
returns c = none_here c.args.here.now c.args.marks.now c.loop-place.place c.loop-place-test.false c.loop-place.invariant.none

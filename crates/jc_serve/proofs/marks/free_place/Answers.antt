use Rattle.std.proofs.Common.{◌≡◌, Some, None, slice_get, arith, below_more}
use Rattle.jc_serve.specs.InMemory.{marks_of}
use Rattle.jc_serve.proofs.MarksLemmas.{mark_within, not_free}
use Rattle.jc_serve.proofs.marks.free_place.Goals as goal

pub loop-place-preserved : goal.loop-place-preserved
loop-place-preserved c =
    let marks = c.args.marks.now in
    let j = c.loop-place.place in
    record {
      none = below_more (λ i. slice_get (marks_of marks) i ≡ Some None → ⊥) j c.loop-place.invariant.none
          (not_free marks j c.index-marks-place.result c.loop-place-test.true c.index-marks-place.is c.if-is_none.ensures);
    }

pub returns-clause-none : goal.returns-clause-none
returns-clause-none c = λ j e.
    let within = mark_within c.args.marks.now j None e in
    c.loop-place.invariant.none j (omega (arith, within, c.loop-place-test.false)) e

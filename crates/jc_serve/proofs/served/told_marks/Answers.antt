use Rattle.std.proofs.Common.{◌+◌, ◌<◌, length, take, option_map, refl, ap, arith}
use Rattle.jc_serve.specs.Answers.{mark_answers}
use Rattle.jc_serve.specs.InMemory.{mark_of, marks_of}
use Rattle.jc_serve.proofs.ToldLemmas.{more_marks}
use Rattle.jc_serve.proofs.served.told_marks.Goals as goal

pub loop-place-preserved : goal.loop-place-preserved
loop-place-preserved c =
    let names = c.args.names.now in
    let marks = c.args.marks.now in
    let i = c.loop-place.place in
    let mark = c.index-marks-place.result in
    let lt : i < length marks = omega (arith, c.loop-place-test.true) in
    more_marks names marks i (i + 1) mark (option_map mark_of mark) c.push_mark.new.all lt refl (ap (option_map mark_of) c.index-marks-place.is)
    (c.in_ok-push_mark.ensures (mark_answers names 1 (marks_of (take i marks))) c.loop-place.invariant)

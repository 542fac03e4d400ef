use Rattle.std.proofs.Common.{rules, arith, ◌≡◌, ◌<◌, ◌++◌, ◌∷◌, [], ℕ, List, true, false, length, map, take, set, get_or, sym, ap, ◌∙◌, subst}
use Rattle.std.proofs.lemmas.Bool.{false≢true}
use Rattle.jc_lock.specs.Numbers.{EachOnce}
use Rattle.jc_lock.specs.Shows.{pass_number}
use Rattle.jc_lock.proofs.MarksLemmas.{Marked, Marked-more, not_each, each_from_marks, marks_from_each, none_missing, take_all_numbers, take_numbers, numbers_from}
use Rattle.jc_lock.proofs.marks.each_is_there.Goals as goal
use Rattle.jc_lock.proofs.marks.each_is_there.Goals.{then-number-marks-via-then-number-marks, then-number-marks-via-else-number-marks+then-marks-number}

pub returns-then-number-marks : goal.returns-then-number-marks
returns-then-number-marks g c =
    let inv = c.loop-pass.invariant in
    let marks = c.loop-pass.marks in
    let pass = c.pass-item.result in
    let split = numbers_from pass_number c.args.passes.now c.loop-pass.pass-index pass c.loop-pass-test.true c.pass-item.is in
    let same : c.from-number.result ≡ pass.number = c.from-number.ensures in
    let bad : pass.number < length marks → get_or marks pass.number false ≡ true = λ inside. elim c.then-number-marks.branch [
      | then-number-marks-via-then-number-marks w ↦ (let over = w.if-number-marks.true in absurd (omega arith))
      | then-number-marks-via-else-number-marks+then-marks-number w ↦ ap (λ (k : ℕ). get_or marks k false) (sym same) ∙ w.if-marks-number.true
    ] in (
      λ e. absurd (false≢true e),
      λ each. absurd (not_each marks (take c.loop-pass.pass-index (map pass_number c.args.passes.now)) pass.number split.0 bad inv.marked (subst (EachOnce (length marks)) split.1 (subst (λ (n : ℕ). EachOnce n (map pass_number c.args.passes.now)) (sym inv.long) each))),
    )

pub loop-pass-preserved : goal.loop-pass-preserved
loop-pass-preserved g c =
    let inv = c.loop-pass.invariant in
    let marks = c.loop-pass.marks in
    let pass = c.pass-item.result in
    let same : c.from-number.result ≡ pass.number = c.from-number.ensures in
    let more = take_numbers pass_number c.args.passes.now c.loop-pass.pass-index pass c.loop-pass-test.true c.pass-item.is in
    let met : List ℕ = take c.loop-pass.pass-index (map pass_number c.args.passes.now) in
    let step : Marked (set marks c.from-number.result true) (met ++ c.from-number.result ∷ []) = Marked-more marks met c.from-number.result c.if-number-marks.false c.if-marks-number.false inv.marked in record {
      long = search rules;
      marked = subst (Marked (set marks c.from-number.result true)) (ap (λ (k : ℕ). met ++ k ∷ []) same ∙ sym more) step;
    }

pub returns : goal.returns
returns g c =
    let inv = c.loop-pass.invariant in
    let marks = c.loop-pass.marks in
    let numbers : List ℕ = map pass_number c.args.passes.now in
    let all : Marked marks numbers = subst (Marked marks) (take_all_numbers pass_number c.args.passes.now c.loop-pass.pass-index c.loop-pass-test.false) inv.marked in
    let both = none_missing marks c.contains.result c.contains.ensures.cases in (
      λ e. subst (λ (n : ℕ). EachOnce n numbers) inv.long (each_from_marks marks numbers all (both.0 e)),
      λ each. both.1 (marks_from_each marks numbers all (subst (λ (n : ℕ). EachOnce n numbers) (sym inv.long) each)),
    )

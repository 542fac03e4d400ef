use Rattle.std.proofs.Common.{◌<◌, length, arith}
use Rattle.jc_expected.proofs.ExpectedLemmas.{both, same_appended, filter_more}
use Rattle.jc_expected.proofs.place.Place.push_those.Goals as goal

pub loop-spelling-preserved : goal.loop-spelling-preserved
loop-spelling-preserved c =
    let i = c.loop-spelling.spelling-index in
    let xs = c.args.spellings.now in
    let lt : i < length xs = omega arith in
    same_appended (λ g t. filter_more (λ s. s.now) g xs i _ lt) (both c.loop-spelling.invariant c.in_ok-push.ensures)

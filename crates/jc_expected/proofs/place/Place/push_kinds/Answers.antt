use Rattle.std.proofs.lemmas.Result.{IfOk-weaker}
use Rattle.jc_expected.proofs.ExpectedLemmas.{both}
use Rattle.jc_expected.proofs.place.Place.push_kinds.Goals as goal

pub returns : goal.returns
returns c =
    IfOk-weaker c.push-2.result _ _ (λ _ h. both (both c.in_ok-push.ensures c.in_ok-push_numbers.ensures) h) c.push-2.ensures

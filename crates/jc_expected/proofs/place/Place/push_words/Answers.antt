use Rattle.std.proofs.lemmas.Result.{IfOk-weaker}
use Rattle.jc_expected.proofs.ExpectedLemmas.{both}
use Rattle.jc_expected.proofs.place.Place.push_words.Goals as goal

pub returns : goal.returns
returns c =
    IfOk-weaker c.push_but-3.result _ _ (λ _ h. both (both c.in_ok-push_but.ensures c.in_ok-push_but-2.ensures) h) c.push_but-3.ensures

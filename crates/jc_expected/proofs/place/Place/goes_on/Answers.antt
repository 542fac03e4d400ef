use Rattle.std.proofs.Common.{List, ℕ, subst, ◌∙◌}
use Rattle.std.specs.Prelude.{◌↔◌, IsTrue}
use Rattle.std.proofs.lemmas.Result.{IfOk-weaker}
use Rattle.jc_expected.specs.Expected.{IsBeginning}
use Rattle.jc_expected.proofs.ExpectedLemmas.{same_answer}
use Rattle.jc_expected.proofs.place.Place.goes_on.Goals as goal

pub returns : goal.returns
returns c =
    IfOk-weaker c.is_beginning.result _ _ (λ b h goes_on test.
    same_answer b (goes_on c.args.spelling.now) (subst (λ (t : List ℕ). IsTrue b ↔ IsBeginning t) (c.deref.ensures.value ∙ c.in_ok-tried.ensures) h) (test c.args.spelling.now)) c.is_beginning.ensures

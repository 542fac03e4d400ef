use Rattle.std.proofs.Common.{[], ◌∷◌, sym, ◌∙◌, codes}
use Rattle.std.proofs.lemmas.Result.{IfOk-weaker}
use Rattle.jc_expected.specs.Expected.{told_if}
use Rattle.jc_expected.proofs.ExpectedLemmas.{same_appended, one_appended, when_told, when_not}
use Rattle.jc_expected.proofs.place.Place.push_numbers.Goals as goal

pub returns-then-branch : goal.returns-then-branch
returns-then-branch c =
    IfOk-weaker c.push_string.result _ _ (λ _ h.
    one_appended c.args.list.now c.push_string.new.self (codes "number")
    (λ g t. when_told (g (codes "0.5")) (codes "number" ∷ []) (told_if (g (codes "100")) (codes "digits")) (sym (c.in_ok-goes_on.ensures g t) ∙ c.if-branch.true)) h) c.push_string.ensures

pub returns : goal.returns
returns c =
    IfOk-weaker c.push.result _ _ (λ _ h.
    same_appended (λ g t. sym (when_not (g (codes "0.5")) (codes "number" ∷ []) (told_if (g (codes "100")) (codes "digits")) (sym (c.in_ok-goes_on.ensures g t) ∙ c.if-branch.false))) h) c.push.ensures

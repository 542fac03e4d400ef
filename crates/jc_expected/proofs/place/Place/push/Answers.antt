use Rattle.std.proofs.Common.{[], ◌∷◌, sym, ◌∙◌}
use Rattle.std.proofs.lemmas.Result.{IfOk-weaker}
use Rattle.jc_expected.proofs.ExpectedLemmas.{none_appended, one_appended, when_told, when_not}
use Rattle.jc_expected.proofs.place.Place.push.Goals as goal

pub returns-then-branch : goal.returns-then-branch
returns-then-branch c =
    let name = c.args.name.now in
    IfOk-weaker c.push_string.result _ _ (λ _ h.
    one_appended c.args.list.now c.push_string.new.self name
    (λ g t. when_told (g c.args.spelling.now) (name ∷ []) [] (sym (c.in_ok-goes_on.ensures g t) ∙ c.if-branch.true)) h) c.push_string.ensures

pub returns : goal.returns
returns c =
    none_appended c.args.list.now
    (λ g t. when_not (g c.args.spelling.now) (c.args.name.now ∷ []) [] (sym (c.in_ok-goes_on.ensures g t) ∙ c.if-branch.false))

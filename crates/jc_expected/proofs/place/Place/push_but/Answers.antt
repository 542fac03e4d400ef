use Rattle.std.proofs.Common.{[], map, sym, ◌∙◌}
use Rattle.std.specs.Prelude.{filter}
use Rattle.std.proofs.lemmas.Result.{IfOk-weaker}
use Rattle.jc_expected.proofs.ExpectedLemmas.{same_appended, none_appended, when_told, when_not}
use Rattle.jc_expected.proofs.place.Place.push_but.Goals as goal

pub returns-then-branch : goal.returns-then-branch
returns-then-branch c =
    none_appended c.args.list.now
    (λ g t. when_told (g c.args.other.now) [] (filter g (map (λ s. s.now) c.args.words.now)) (sym (c.in_ok-goes_on.ensures g t) ∙ c.if-branch.true))

pub returns : goal.returns
returns c =
    IfOk-weaker c.push_those.result _ _ (λ _ h.
    same_appended (λ g t. sym (when_not (g c.args.other.now) [] (filter g (map (λ s. s.now) c.args.words.now)) (sym (c.in_ok-goes_on.ensures g t) ∙ c.if-branch.false))) h) c.push_those.ensures

use Rattle.std.proofs.Common.{rules, ◌≡◌, ℕ, List, Some, length, refl, ap, ◌∙◌}
use Rattle.std.proofs.lemmas.Option.{slice_get_read}
use Rattle.jc_session.proofs.replies.number_of.Goals as goal

pub returns-then-eq-clause-some : goal.returns-then-eq-clause-some
returns-then-eq-clause-some c =
    let same : c.index-names-number.result ≡ c.args.name.now = search rules in
    slice_get_read c.args.names.now (length c.args.names.now) c.loop-number.number c.index-names-number.result refl c.loop-number-test.true c.index-names-number.is ∙ ap (λ (n : List ℕ). Some n) same

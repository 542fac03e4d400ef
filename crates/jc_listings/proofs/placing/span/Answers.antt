use Rattle.std.proofs.Common.{[], ◌∷◌, decimal}
use Rattle.std.proofs.lemmas.Result.{IfOk-weaker}
use Rattle.jc_listings.proofs.placing.span.Goals as goal

pub returns : goal.returns
returns c =
    let start = c.args.start in
    let stop = c.args.stop in
    IfOk-weaker c.end.result _ _ (λ text h.
    h (decimal start ∷ decimal stop ∷ []) (c.in_ok-push_number-2.ensures (decimal start ∷ []) (c.in_ok-push_number.ensures [] c.in_ok-list.ensures))) c.end.ensures

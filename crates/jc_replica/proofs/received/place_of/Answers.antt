use Rattle.std.proofs.Common.{rules}
use Rattle.std.proofs.lemmas.Fn.{always_returns_same}
use Rattle.jc_replica.proofs.ReceivedUnionLemmas.{searched}
use Rattle.jc_replica.proofs.received.place_of.Goals as goal

pub returns : goal.returns
returns c =
    let asked = c.binary_search_by_key in
    searched c.args.id c.args.ops.now asked.result c.requires asked.ensures.bound (asked.ensures.position (λ o. o.id) (always_returns_same _ _ _ (λ a r f k. search rules)))

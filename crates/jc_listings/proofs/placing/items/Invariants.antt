use Rattle.std.proofs.Common.{length, ◌-◌}
use Rattle.jc_listings.proofs.PlacesLemmas.{ItemsHere}
use Rattle.jc_listings.proofs.placing.items.Given as goal

-- the items before the token are listed
abbrev pub invariant-items : goal.invariant-items
invariant-items l = ItemsHere l.tokens l.at l.spans

abbrev pub decreases-items : goal.decreases-items
decreases-items l = length l.tokens - l.at

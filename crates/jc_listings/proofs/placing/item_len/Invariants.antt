use Rattle.std.proofs.Common.{length, ◌-◌}
use Rattle.jc_listings.proofs.PlacesLemmas.{IsWithinItem}
use Rattle.jc_listings.proofs.placing.item_len.Given as goal

-- the item goes on at the token
abbrev pub invariant-tokens : goal.invariant-tokens
invariant-tokens l = IsWithinItem l.tokens l.len

abbrev pub decreases-tokens : goal.decreases-tokens
decreases-tokens l = length l.tokens - l.len

use Rattle.std.proofs.Common.{length, ◌-◌}
use Rattle.jc_listings.proofs.PlacesLemmas.{BlocksHere}
use Rattle.jc_listings.proofs.placing.blocks.Given as goal

-- the blocks before the token are listed
abbrev pub invariant-each : goal.invariant-each
invariant-each l = BlocksHere l.text l.tokens l.at l.all

abbrev pub decreases-each : goal.decreases-each
decreases-each l = length l.tokens - l.at

use Rattle.std.proofs.Common.{◌-◌, length}
use Rattle.jc_meaning.specs.Forest.{preorder}
use Rattle.jc_meaning.proofs.ForestOfOpsLemmas.{forest_of}
use Rattle.jc_meaning.proofs.ListingLemmas.{IsWalk}
use Rattle.jc_meaning.proofs.ordering.listing.Given as goal

abbrev pub invariant-loop-id : goal.invariant-loop-id
invariant-loop-id l = IsWalk l.ops l.at l.ids.items l.open.items

abbrev pub decreases-loop-id : goal.decreases-loop-id
decreases-loop-id l = length (preorder (forest_of l.ops l.at).0) - length l.ids.items

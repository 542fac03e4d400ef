use Rattle.std.proofs.Common.{rules, ◌≡◌, [], length}
use Rattle.jc_meaning.specs.Forest.{preorder}
use Rattle.jc_meaning.proofs.ForestOfOpsLemmas.{forest_of}
use Rattle.jc_meaning.proofs.ListingLemmas.{walk_starts, walk_ends, walk_falls, walk_next, walk_smaller}
use Rattle.jc_meaning.proofs.ordering.listing.Goals as goal

pub loop-id-init : goal.loop-id-init
loop-id-init c = walk_starts c.args.ops.now c.args.at.now c.new-ids.result.items c.in_ok-open.open.items c.new-ids.ensures.items c.in_ok-open.ensures.rises c.in_ok-open.ensures.ids

pub loop-id-smaller : goal.loop-id-smaller
loop-id-smaller c =
    walk_smaller (length (preorder (forest_of c.args.ops.now c.args.at.now).0)) c.loop-id.ids.items c.push.new.self.items c.in-Some.id c.in_ok-push.ensures.items
    (walk_falls c.args.ops.now c.args.at.now c.loop-id.ids.items c.loop-id.open.items c.loop-id.invariant c.pop.new.self.items c.in-Some.id c.in-Some.ensures.items)

pub loop-id-preserved : goal.loop-id-preserved
loop-id-preserved c =
    walk_next c.args.ops.now c.args.at.now c.loop-id.ids.items c.push.new.self.items c.loop-id.open.items c.extend_from_slice.new.self.items c.pop.new.self.items c.in_ok-next.next.items c.as_slice.result.now c.in-Some.id
    c.loop-id.invariant c.in-Some.ensures.items c.in_ok-push.ensures.items c.in_ok-extend_from_slice.ensures.items c.as_slice.ensures.value c.in_ok-next.ensures.rises c.in_ok-next.ensures.ids

pub returns : goal.returns
returns c =
    let none : c.loop-id.open.items ≡ [] = search rules in
    walk_ends c.args.ops.now c.args.at.now c.loop-id.ids.items c.loop-id.open.items c.loop-id.invariant none

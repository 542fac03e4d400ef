use Rattle.std.proofs.Common.{◌<◌, length, ◌∙◌, arith}
use Rattle.std.proofs.lemmas.Result.{IfOk-weaker}
use Rattle.jc_listings.proofs.PlacesLemmas.{blocks_begin, block_begins, blocks_more, blocks_room, blocks_end}
use Rattle.jc_listings.proofs.placing.blocks.Goals as goal

pub each-init : goal.each-init
each-init c = (omega arith, blocks_begin c.args.text.now c.args.tokens.now c.in_ok-all.all c.in_ok-all.ensures)

pub block-requires-clause-begins : goal.block-requires-clause-begins
block-requires-clause-begins c =
    block_begins c.args.text.now c.args.tokens.now c.each.at c.each.all c.each.invariant.1 (omega arith) c.requires.are

pub overflow_add-at : goal.overflow_add-at
overflow_add-at c =
    let room = blocks_room c.args.text.now c.args.tokens.now c.each.at c.in_ok-block.block.len c.each.all c.push.new.self c.each.invariant.1 (omega arith) c.as_slice.result.now (λ h. c.as_slice.ensures.value ∙ c.in_ok-block.ensures.text h) c.in_ok-block.ensures.len c.in_ok-push.ensures c.requires.are in
    omega (arith, room.0)

pub each-smaller : goal.each-smaller
each-smaller c =
    let room = blocks_room c.args.text.now c.args.tokens.now c.each.at c.in_ok-block.block.len c.each.all c.push.new.self c.each.invariant.1 (omega arith) c.as_slice.result.now (λ h. c.as_slice.ensures.value ∙ c.in_ok-block.ensures.text h) c.in_ok-block.ensures.len c.in_ok-push.ensures c.requires.are in
    omega (arith, room.0, room.1)

pub each-preserved : goal.each-preserved
each-preserved c =
    let lt : c.each.at < length c.args.tokens.now = omega arith in
    let room = blocks_room c.args.text.now c.args.tokens.now c.each.at c.in_ok-block.block.len c.each.all c.push.new.self c.each.invariant.1 lt c.as_slice.result.now (λ h. c.as_slice.ensures.value ∙ c.in_ok-block.ensures.text h) c.in_ok-block.ensures.len c.in_ok-push.ensures c.requires.are in
    (room.0, blocks_more c.args.text.now c.args.tokens.now c.each.at c.in_ok-block.block.len c.each.all c.push.new.self c.each.invariant.1 lt c.as_slice.result.now (λ h. c.as_slice.ensures.value ∙ c.in_ok-block.ensures.text h) c.in_ok-block.ensures.len c.in_ok-push.ensures)

pub returns : goal.returns
returns c =
    IfOk-weaker c.end.result _ _ (λ answer h bs are.
    h _ (blocks_end c.args.text.now c.args.tokens.now c.each.at c.each.all c.each.invariant.1 (omega arith) bs are)) c.end.ensures

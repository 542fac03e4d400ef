use Rattle.jc_tree.proofs.BlocksLemmas.{lent_block, lent_number, told_over, told_at}
use Rattle.jc_tree.proofs.blocks.Blocks.tell.Goals as goal

pub returns-clause-told : goal.returns-clause-told
returns-clause-told c =
    let h = lent_block c.self.inside.blocks.items c.args.self.now c.in_ok-spot.spot.block _ c.self.view_is c.in_ok-spot.ensures.within c.index.ensures in
    told_at _ _ _ _ (told_over c.self.inside.blocks.items c.in_ok-spot.spot.block c.in_ok-spot.spot.index c.args.number _ c.tell.result h (lent_number c.self.inside.blocks.items c.args.self.now c.in_ok-spot.spot.block c.in_ok-spot.spot.index c.args.number _ c.self.view_is h c.in_ok-spot.ensures.some) c.tell.ensures.bits c.tell.ensures.least c.tell.ensures.last) c.self.view_is

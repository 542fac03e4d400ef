use Rattle.std.proofs.Common.{◌<◌, length, sym, subst, ◌∙◌, arith}
use Rattle.jc_tree.specs.Blocks.{AreFit}
use Rattle.jc_tree.proofs.BlocksLemmas.{no_place_in, none_there, spots_begun, fit_begun}
use Rattle.jc_tree.proofs.blocks.Blocks.start.Goals as goal

pub invariant_of-self : goal.invariant_of-self
invariant_of-self c =
    let room : c.args.number < length c.self.inside.spots.items = omega (arith, c.if-number-len.false, c.len-else-not-is_free.ensures) in
    spots_begun c.self.inside.spots.items c.self.inside.blocks.items c.in_ok-block.block c.args.number c.begin.new.self c.begin.ensures room
    (no_place_in _ c.self.inside.blocks.items c.args.self.now c.args.number c.self.view_is (none_there _ (sym c.is_some.ensures ∙ c.if-is_some.false)) c.spot.ensures.only) c.self.invariant

pub returns : goal.returns
returns c = record {
  fit = λ keys links presences fit.
      fit_begun keys links presences c.self.inside.blocks.items c.in_ok-block.block c.args.number c.begin.new.self c.begin.ensures (subst (AreFit keys links presences) (sym c.self.view_is) fit);
}

use Rattle.std.proofs.Common.{◌≡◌, ◌<◌, Some, length, slice_get, slice_index_or, sym, subst, ◌∙◌, ap, List, arith}
use Rattle.std.proofs.lemmas.Option.{same_Some}
use Rattle.jc_tree.specs.Blocks.{Members, AreFit, IsLastLinked}
use Rattle.jc_tree.proofs.TablesLemmas.{slot_here}
use Rattle.jc_tree.proofs.BlocksLemmas.{no_place_in, none_there, spots_added, fit_added}
use Rattle.jc_tree.proofs.blocks.Blocks.add.Goals as goal

pub invariant_of-self : goal.invariant_of-self
invariant_of-self c =
    let v = c.deref.ensures.value in
    let w : c.args.block < length c.self.inside.blocks.items = subst (λ (l : List Members). c.args.block < length l) v c.in-Some.ensures.lookup.3.0 in
    let h : slice_get c.self.inside.blocks.items c.args.block ≡ Some c.index_mut-2.result.now = slot_here c.self.inside.blocks.items c.args.block c.index_mut-2.result.now w c.index_mut-2.ensures.value in
    let there : slice_get c.self.inside.blocks.items c.args.block ≡ Some c.in-Some.there.now = slot_here c.self.inside.blocks.items c.args.block c.in-Some.there.now w (subst (λ (l : List Members). c.in-Some.there.now ≡ slice_index_or l c.args.block c.in-Some.there.now) v c.in-Some.ensures.lookup.1) in
    let same : c.in-Some.there.now ≡ c.index_mut-2.result.now = same_Some c.in-Some.there.now c.index_mut-2.result.now (sym there ∙ h) in
    let room : c.args.number < length c.self.inside.spots.items = omega (arith, c.if-number-len.false, c.len.ensures) in
    spots_added c.self.inside.spots.items c.self.inside.blocks.items c.args.block c.len-index.result c.args.number c.index_mut-2.result.now c.push.new.self h (c.len-index.ensures.len ∙ ap (λ (x : Members). length x.numbers) same) c.push.ensures.numbers room
    (no_place_in _ c.self.inside.blocks.items c.args.self.now c.args.number c.self.view_is (none_there _ (sym c.is_some.ensures ∙ c.if-is_some.false)) c.spot.ensures.only) c.self.invariant

pub returns : goal.returns
returns c =
    let v = c.deref.ensures.value in
    let w : c.args.block < length c.self.inside.blocks.items = subst (λ (l : List Members). c.args.block < length l) v c.in-Some.ensures.lookup.3.0 in
    let h : slice_get c.self.inside.blocks.items c.args.block ≡ Some c.index_mut-2.result.now = slot_here c.self.inside.blocks.items c.args.block c.index_mut-2.result.now w c.index_mut-2.ensures.value in
    record {
      fit = λ keys links presences numbered bit linked fit.
          fit_added keys links presences c.self.inside.blocks.items c.args.block c.args.number c.args.id c.args.is c.index_mut-2.result.now c.push.new.self h c.push.ensures.numbers c.push.ensures.same c.push.ensures.others c.push.ensures.least c.push.ensures.lesser numbered bit
          (subst (λ l. IsLastLinked keys links l c.args.block c.args.id) (sym c.self.view_is) linked)
          (subst (AreFit keys links presences) (sym c.self.view_is) fit);
    }

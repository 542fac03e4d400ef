use Rattle.std.proofs.Common.{◌≡◌, Some, false, not, ◌&&◌, is_some, sym, ◌∙◌, ap}
use Rattle.jc_rules.specs.declared.key.Tagged.{Tagged}
use Rattle.jc_rules.specs.declared.key.Tagged.TheVariants.{RegT}
use Rattle.jc_meaning.specs.Effects.{is_made_by, primitive}
use Rattle.jc_meaning.specs.Growth.{is_gone}
use Rattle.jc_meaning.proofs.GrowthPathLemmas.{kept_place, kept_twice, made_register, puts_nothing, puts_value}
use Rattle.jc_meaning.proofs.building.put.Goals as goal

pub make-requires : goal.make-requires
make-requires g c = kept_place c.args.op.now.cursor.path c.as_slice-path.result.now _ _ _ _ _ c.as_slice-path.ensures.keys c.as_slice-path.ensures.path c.requires.there c.in_ok-touch.ensures

pub write-requires-clause-there : goal.write-requires-clause-there
write-requires-clause-there g c = kept_twice c.args.op.now.cursor.path c.as_slice-path.result.now _ _ _ _ _ _ _ _ _ c.as_slice-path.ensures.keys c.as_slice-path.ensures.path c.requires.there c.in_ok-touch.ensures c.in_ok-make.ensures

pub write-requires-clause-register : goal.write-requires-clause-register
write-requires-clause-register g c =
    let tag : c.tag_of.result ≡ RegT c.args.key.now = c.tag_of.ensures.register (sym c.if-not-is_primitive.ensures) ∙ ap RegT c.in_ok-copy.ensures in
    made_register c.as_slice-path.result.now c.tag_of.result c.args.key.now _ _ (kept_twice c.args.op.now.cursor.path c.as_slice-path.result.now _ _ _ _ _ _ _ _ _ c.as_slice-path.ensures.keys c.as_slice-path.ensures.path c.requires.there c.in_ok-touch.ensures c.in_ok-make.ensures) c.in_ok-make.ensures tag

pub returns-then-not-is_primitive : goal.returns-then-not-is_primitive
returns-then-not-is_primitive g c =
    let tag = λ (u : Tagged). c.tag_of.ensures.tag u ∙ ap (λ k. is_made_by (Some c.args.value.now) k u) c.in_ok-copy.ensures in
    puts_nothing c.args.ops.now c.args.op.now c.args.key.now c.args.value.now c.as_slice-path.result.now c.tag_of.result c.requires.key c.requires.value c.as_slice-path.ensures.keys tag _ _ _ c.in_ok-touch.ensures c.in_ok-make.ensures
    (ap (λ b. b && not (is_gone c.args.ops.now c.as_slice-path.result.now c.args.key.now c.args.op.now.id)) (sym c.if-not-is_primitive.ensures))

pub returns-then-is_gone : goal.returns-then-is_gone
returns-then-is_gone g c =
    let tag = λ (u : Tagged). c.tag_of.ensures.tag u ∙ ap (λ k. is_made_by (Some c.args.value.now) k u) c.in_ok-copy.ensures in
    puts_nothing c.args.ops.now c.args.op.now c.args.key.now c.args.value.now c.as_slice-path.result.now c.tag_of.result c.requires.key c.requires.value c.as_slice-path.ensures.keys tag _ _ _ c.in_ok-touch.ensures c.in_ok-make.ensures
    (ap (λ b. is_some (primitive c.args.value.now) && not b) (sym c.if-is_gone.ensures) ∙ ap (λ b. b && false) (sym c.if-not-is_primitive.ensures))

pub returns : goal.returns
returns g c =
    let tag = λ (u : Tagged). c.tag_of.ensures.tag u ∙ ap (λ k. is_made_by (Some c.args.value.now) k u) c.in_ok-copy.ensures in
    puts_value c.args.ops.now c.args.op.now c.args.key.now c.args.value.now c.as_slice-path.result.now c.tag_of.result c.requires.key c.requires.value c.as_slice-path.ensures.keys tag _ _ _ _ c.in_ok-touch.ensures c.in_ok-make.ensures c.in_ok-write.ensures
    (sym c.if-not-is_primitive.ensures) (sym c.if-is_gone.ensures)

use Rattle.std.proofs.Common.{◌<◌, length, get_or, ◌∙◌, arith}
use Rattle.jc_answers.specs.JsonTexts.{object_text}
use Rattle.jc_listings.specs.WovenTexts.{end_members}
use Rattle.jc_listings.proofs.WovenTextsLemmas.{more_ends}
use Rattle.jc_listings.proofs.weaving.ends_answer.Goals as goal

pub loop-p-preserved : goal.loop-p-preserved
loop-p-preserved c =
    let names = c.args.names.now in
    let made = c.args.made.now in
    let ends = c.args.ends.now in
    let p = c.loop-p.p in
    let in_ends : p < length ends = omega arith in
    let in_names : p < length names = omega (arith, c.requires.each.0) in
    let in_made : p < length made = omega (arith, c.requires.each.0, c.requires.each.1) in
    let name = c.as_str.ensures ∙ c.index-names-p.is in
    more_ends names names made ends p c.index-names-p.result 0 c.index-ends-p.result c.push.new.self c.as_slice.result.now in_names in_made in_ends
    (c.as_slice.ensures.value ∙ (c.in_ok-end.ensures ∙ (λ i. object_text (end_members names (name i) (get_or made p 0) (c.index-ends-p.is i)))))
    (c.in_ok-push.ensures _ c.loop-p.invariant)

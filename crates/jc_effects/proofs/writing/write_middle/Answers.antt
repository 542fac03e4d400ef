use Rattle.std.proofs.Common.{List, codes, subst}
use Rattle.std.proofs.lemmas.Result.{on_ok_weaker}
use Rattle.jc_rules.specs.declared.id.Id.{Id}
use Rattle.jc_json.specs.Gains.{Gains}
use Rattle.jc_effects.specs.EffectsJson.{some_ids, some_tags}
use Rattle.jc_effects.specs.Parts.{tags_made, labelled_tokens}
use Rattle.jc_effects.proofs.PartsTokensLemmas.{labelled_then}
use Rattle.jc_effects.proofs.writing.write_middle.Goals as goal

pub returns : goal.returns
returns c = λ k.
    let names = c.args.names.now in
    let own = c.args.own.now in
    let ids : Gains c.args.out.now c.write_some_ids.new.out (labelled_tokens (some_ids names (codes "lost") own.lost.items)) =
    subst (λ (is : List Id). Gains c.args.out.now c.write_some_ids.new.out (labelled_tokens (some_ids names (codes "lost") is))) c.as_slice.ensures.value c.in_ok-write_some_ids.ensures in
    on_ok_weaker c.write_made.result (λ x. labelled_then _ _ _ (some_ids names (codes "lost") own.lost.items) (some_tags (tags_made k own.made)) ids x) (c.write_made.ensures k)

use Rattle.std.proofs.Common.{refl, ◌∙◌, ap}
use Rattle.jc_rules.specs.Context.{next}
use Rattle.jc_meaning.specs.Seen.{seen}
use Rattle.jc_effects.specs.Difference.{link_changed}
use Rattle.jc_effects.proofs.PartsOwnLemmas.{link_own}
use Rattle.jc_effects.proofs.PartsTargetLemmas.{untouched_at_link, uncleared_at_link, unwritten_at_link, unpassed_at_link}
use Rattle.jc_effects.proofs.along.own_linked.Goals as goal

pub returns : goal.returns
returns g c =
    let o = c.args.change.now.op.now in
    let old = (g.S.TreeStore.tree c.args.change.now.old.now).now in
    let new = (g.S.TreeStore.tree c.args.change.now.new.now).now in
    let k = c.args.key.now in
    link_own o old new c.requires.changed o.cursor.path k (untouched_at_link o k c.requires.inserts c.requires.other) (uncleared_at_link o k c.requires.inserts c.requires.other) (unwritten_at_link o k c.requires.inserts c.requires.other) (unpassed_at_link o k c.requires.inserts c.requires.other)
    _ _ _ _ _ _ _ c.new.ensures.items c.new-2.ensures.items refl
    (c.link_changed.ensures
    ∙ (λ i. link_changed ((c.link_in-was.ensures ∙ ap (λ p. next k (seen p old)) c.as_slice-path.ensures.keys) i) ((c.link_in-now.ensures ∙ ap (λ p. next k (seen p new)) c.as_slice-path.ensures.keys) i)))
    refl c.new-3.ensures.items c.new-4.ensures.items

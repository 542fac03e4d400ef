use Rattle.std.proofs.Common.{◌≡◌, not, List, refl, sym, ◌∙◌, ap, subst}
use Rattle.std.proofs.lemmas.Result.{IfOk-weaker}
use Rattle.jc_rules.specs.declared.key.Tagged.{Tagged}
use Rattle.jc_meaning.specs.Seen.{seen}
use Rattle.jc_effects.specs.Difference.{own_difference}
use Rattle.jc_effects.specs.Parts.{own_seen}
use Rattle.jc_effects.proofs.PartsOwnLemmas.{target_own}
use Rattle.jc_effects.proofs.PartsTargetLemmas.{touched_at_target, uncleared_by}
use Rattle.jc_effects.proofs.along.own_at_target.Goals as goal

pub returns : goal.returns
returns g c =
    let o = c.args.change.now.op.now in
    let old = (g.S.TreeStore.tree c.args.change.now.old.now).now in
    let new = (g.S.TreeStore.tree c.args.change.now.new.now).now in
    let path = c.as_slice-path.result.now in
    let k = c.args.key.now in
    IfOk-weaker c.own_between.result _ _
    (λ own f. subst (λ (p : List Tagged). own_seen k own ≡ own_difference k (seen p old) (seen p new)) c.as_slice-path.ensures.keys
    (target_own o old new c.requires.changed path k (not c.is_delete.result) c.is_clearing.result c.entries_at-was.result c.entries_at-now.result _ own
    (ap not c.is_delete.ensures ∙ sym (touched_at_target o path k c.as_slice-path.ensures.keys c.requires.target))
    (λ e. uncleared_by o path k (sym c.is_clearing.ensures ∙ e))
    c.entries_at-was.ensures c.entries_at-now.ensures c.ids_if.ensures c.ids_if-2.ensures refl refl f))
    c.own_between.ensures

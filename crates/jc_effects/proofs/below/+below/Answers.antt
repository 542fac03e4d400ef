use Rattle.std.proofs.Common.{◌≡◌, ◌<◌, Contains, List, [], ◌∷◌, ◌++◌, sym, ◌∙◌, ap, subst, arith}
use Rattle.std.specs.List.{AllByRecursion}
use Rattle.std.proofs.lemmas.Result.{IfOk-weaker}
use Rattle.jc_rules.specs.declared.key.Key.{Key}
use Rattle.jc_rules.specs.declared.key.Tagged.TheVariants.{MapT, ListT}
use Rattle.jc_tree.specs.Tree.{here, all_keys, keys_lent}
use Rattle.jc_tree.specs.Nested.{nested}
use Rattle.jc_meaning.specs.Seen.{seen, ids_at}
use Rattle.jc_meaning.proofs.ClearingEffectsLemmas.{seen_append}
use Rattle.jc_effects.specs.Difference.{OwnDifference, own_difference, below, IsDifference}
use Rattle.jc_effects.specs.Parts.{IsNameOf, own_seen, differences_of}
use Rattle.jc_effects.proofs.PartsAlongLemmas.{empty_is, lost_place, kept_place, below_longer, longer_below}
use Rattle.jc_effects.proofs.PartsLossesLemmas.{PassedBack, none_new, loses_below, passed_one, passed_empty, no_items, passed_all, lent_popped, emptied}
use Rattle.jc_effects.proofs.PartsReadLemmas.{IsNew, new_inside, seen_here, smaller_below, nested_at, named_nested}
use Rattle.jc_effects.proofs.below.+below.Goals as goal

pub child_below-returns-in_default : goal.child_below-returns-in_default
child_below-returns-in_default g t c at contexts losses =
    let before = g.S.TreeStore.tree c.args.change.now.old.now in
    let down = at ++ c.args.tagged.now ∷ [] in
    let none = subst (IsNameOf (g.S.TreeStore.names c.args.change.now.old.now) before down) c.in_default.is (c.contexts_below-inside.ensures at contexts).old in
    none_new _ _ losses (λ P. subst (λ z. IsNew (seen P z)) (seen_append at c.args.tagged.now before.now) (new_inside P down before.now none))

pub child_below-places_below-requires : goal.child_below-places_below-requires
child_below-places_below-requires g t c κs within =
    let store = c.args.change.now.old.now in
    let names = g.S.TreeStore.names store in
    let path = g.S.TreeStore.path store in
    let before = g.S.TreeStore.tree store in
    let at = c.requires.0 in
    let down = at ++ c.args.tagged.now ∷ [] in
    let inside = c.contexts_below-inside.result in
    let contexts = c.contexts_below-inside.ensures at c.requires.1 in
    let found = subst (IsNameOf names before down) c.in-Some.is contexts.old in
    let smaller : nested (here down before) < nested (here at before) = smaller_below at c.args.tagged.now before (g.met.S.TreeStore.there store _ down found) in
    let was : nested_at path before c.args.contexts.old ≡ nested (here at before) = named_nested names path before at c.args.contexts.old (g.met.S.TreeStore.one store) c.requires.1.old in
    let now : nested_at path before inside.old ≡ nested (here down before) = named_nested names path before down inside.old (g.met.S.TreeStore.one store) contexts.old in
    (omega (arith, smaller, was, now, c.decreases), (within, ((down, contexts), c.in-Some.is)))

pub child_below-returns : goal.child_below-returns
child_below-returns g t c at contexts losses =
    let old = (g.S.TreeStore.tree c.args.change.now.old.now).now in
    let new = (g.S.TreeStore.tree c.args.change.now.new.now).now in
    let tagged = c.args.tagged.now in
    IfOk-weaker c.places_below.result _ _
    (λ effects e. below_longer at tagged old new (differences_of effects) e)
    (c.places_below.ensures (at ++ tagged ∷ []) (c.contexts_below-inside.ensures at contexts) (longer_below at tagged old new losses))

-- nothing goes there
pub place_below-returns-then-is_empty : goal.place_below-returns-then-is_empty
place_below-returns-then-is_empty g t c at contexts losses =
    let old = seen at (g.S.TreeStore.tree c.args.change.now.old.now).now in
    let new = seen at (g.S.TreeStore.tree c.args.change.now.new.now).now in
    let k = c.args.key.now in
    let lost = c.in_ok-own.own.lost in
    let own : own_seen k c.in_ok-own.own ≡ own_difference k old new = c.in_ok-own.ensures at contexts (losses.losses [] k) in
    kept_place k old new lost.items (differences_of c.args.rest) losses (ap (λ (d : OwnDifference). d.lost) own) (empty_is lost.items _ (omega (arith, lost.ok.0)) (sym c.is_empty.ensures ∙ c.if-is_empty.true))

pub place_below-returns : goal.place_below-returns
place_below-returns g t c at contexts losses =
    let old = seen at (g.S.TreeStore.tree c.args.change.now.old.now).now in
    let new = seen at (g.S.TreeStore.tree c.args.change.now.new.now).now in
    let k = c.args.key.now in
    let own = c.in_ok-own.ensures at contexts (losses.losses [] k) in
    let lists : IsDifference (below (ListT k) old) (below (ListT k) new) (differences_of c.in_ok-list.list) =
    subst (λ (j : Key). IsDifference (below (ListT j) old) (below (ListT j) new) (differences_of c.in_ok-list.list)) c.in_ok-copy.ensures (c.in_ok-list.ensures at contexts (loses_below (ListT c.in_ok-copy.field-0) _ _ losses)) in
    let maps : IsDifference (below (MapT k) old) (below (MapT k) new) (differences_of c.in_ok-map.map) =
    subst (λ (j : Key). IsDifference (below (MapT j) old) (below (MapT j) new) (differences_of c.in_ok-map.map)) c.in_ok-copy-2.ensures (c.in_ok-map.ensures at contexts (loses_below (MapT c.in_ok-copy-2.field-0) _ _ losses)) in
    IfOk-weaker c.with_place.result _ _
    (λ e f ks later among. lost_place k old new c.in_ok-own.own (differences_of c.in_ok-map.map) (differences_of c.in_ok-list.list) (differences_of c.args.rest) (differences_of e) losses own maps lists f ks later among)
    c.with_place.ensures

-- nothing was at the key
pub places_below-loop-lent-preserved-then-is_empty : goal.places_below-loop-lent-preserved-then-is_empty
places_below-loop-lent-preserved-then-is_empty g t c at contexts losses =
    let old = seen at (g.S.TreeStore.tree c.args.change.now.old.now).now in
    let new = seen at (g.S.TreeStore.tree c.args.change.now.new.now).now in
    let all = keys_lent c.in_ok-keys.keys.items in
    let rest = c.pop.new.self.items in
    let k = c.in-Some.lent.0.now in
    let left : keys_lent c.loop-lent.keys.items ≡ keys_lent rest ++ k ∷ [] = lent_popped c.loop-lent.keys.items rest c.pop.result c.in-Some.lent c.in-Some.is c.pop.ensures.items in
    let passed = subst (λ (ks : List Key). PassedBack all ks old new (differences_of c.loop-lent.effects)) left (c.loop-lent.invariant at contexts losses) in
    let none : ids_at k old ≡ [] = sym (c.ids_in.ensures.ids at contexts.old) ∙ no_items c.ids_in.result.now c.is_empty.result c.is_empty.ensures c.if-is_empty.true in
    passed_empty all (keys_lent rest) k old new (differences_of c.loop-lent.effects) c.in_ok-keys.ensures.rising passed losses none

pub places_below-loop-lent-preserved : goal.places_below-loop-lent-preserved
places_below-loop-lent-preserved g t c at contexts losses =
    let old = seen at (g.S.TreeStore.tree c.args.change.now.old.now).now in
    let new = seen at (g.S.TreeStore.tree c.args.change.now.new.now).now in
    let all = keys_lent c.in_ok-keys.keys.items in
    let rest = c.pop.new.self.items in
    let k = c.in-Some.lent.0.now in
    let left : keys_lent c.loop-lent.keys.items ≡ keys_lent rest ++ k ∷ [] = lent_popped c.loop-lent.keys.items rest c.pop.result c.in-Some.lent c.in-Some.is c.pop.ensures.items in
    let passed = subst (λ (ks : List Key). PassedBack all ks old new (differences_of c.loop-lent.effects)) left (c.loop-lent.invariant at contexts losses) in
    passed_one all (keys_lent rest) k old new (differences_of c.loop-lent.effects) (differences_of c.in_ok-effects.effects) c.in_ok-keys.ensures.rising passed (c.in_ok-effects.ensures at contexts losses)

pub places_below-returns : goal.places_below-returns
places_below-returns g t c at contexts losses =
    let store = c.args.change.now.old.now in
    let before = g.S.TreeStore.tree store in
    let old = seen at before.now in
    let new = seen at (g.S.TreeStore.tree c.args.change.now.new.now).now in
    let all = keys_lent c.in_ok-keys.keys.items in
    let none : c.loop-lent.keys.items ≡ [] = emptied c.loop-lent.keys.items c.pop.new.self.items c.pop.result c.in_default.is c.pop.ensures.items (λ h. c.pop.ensures.variant.1 (omega (arith, h, c.loop-lent.keys.ok.0))) in
    let passed = subst (λ (ks : List Key). PassedBack all ks old new (differences_of c.loop-lent.effects)) (ap keys_lent none) (c.loop-lent.invariant at contexts losses) in
    let found = subst (IsNameOf (g.S.TreeStore.names store) before at) c.requires.named contexts.old in
    let keys : AllByRecursion (Contains all) (all_keys (here at before)) = c.in_ok-keys.ensures.all at found in
    passed_all all old new (differences_of c.loop-lent.effects) (subst (λ z. AllByRecursion (Contains all) (all_keys z)) (sym (seen_here at before (g.met.S.TreeStore.there store _ at found))) keys) losses passed

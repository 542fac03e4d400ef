use Rattle.std.proofs.Common.{rules, ◌≡◌, Some, None, ℕ, ◌+◌, List, [], ◌∷◌, drop, ap, sym, ◌∙◌, refl, subst, arith}
use Rattle.std.proofs.lemmas.List.{drop_more, drop_all}
use Rattle.jc_rules.specs.declared.key.Tagged.{Tagged}
use Rattle.jc_rules.specs.declared.rule.Rule.TheVariants as R
use Rattle.jc_rules.specs.Ids.{union, without}
use Rattle.jc_rules.specs.Entries.{keys_of}
use Rattle.jc_rules.specs.Table.{after}
use Rattle.jc_rules.specs.Trace.{Rows, at_depth}
use Rattle.jc_tree.specs.Nested.{nested}
use Rattle.jc_tree.specs.Tree.{Tree, here}
use Rattle.jc_tree.specs.ChainedBelow.{AreChainedBelow}
use Rattle.jc_rules.specs.WellFormed.{IsChainedList}
use Rattle.jc_rules.specs.Derivation.{ClearList, ClearMap}
use Rattle.jc_rules.specs.declared.key.Key.TheVariants.{Head}
use Rattle.jc_clear.specs.Clears.{Clears}
use Rattle.jc_clear.specs.Turns.{ThroughKeys}
use Rattle.jc_tree.proofs.ChainedBelowLemmas.{below-list}
use Rattle.jc_tree.proofs.CanGoBackLemmas.{nothing, then, rule_opened, rule_added, rows_added, only_tree, depth_changed}
use Rattle.jc_clear.proofs.ClearListLemmas.{first_along, after_along, along_finds, along_on, last_along}
use Rattle.jc_clear.proofs.ClearMapLemmas.{after_keys, keys_on, last_keys}
use Rattle.jc_clear.proofs.ClearRulesLemmas.{after_call, clear_none, clear_elem, rises_left, clear_any, down_map, down_list, map_cleared, list_cleared}
use Rattle.jc_clear.proofs.clearing.+clearing.Goals.{list_in-in-Tail, list_in-in-Elem}
use Rattle.jc_clear.proofs.clearing.+clearing.Goals as goal
use Rattle.jc_rules.proofs.BoolLemmas.{none_of}

-- the size below a place, by the path that it names
sized : (q at : List Tagged) (a : Tree) → q ≡ at → nested (here q a) ≡ nested (here at a)
sized q at a e = ap (λ r. nested (here r a)) e

pub any_in-clear_list-requires : goal.any_in-clear_list-requires
any_in-clear_list-requires g t c =
    let m = c.in_ok-maps.ensures.names_stay _ _ c.requires.1 in
    let x = after_call _ _ _ _ _ _ _ (g.met.S.TreeStore.there _ _ _ c.requires.1) (c.in_ok-maps.ensures.ok _ c.requires.1) in
    λ κs h. (omega (arith, x.nested, sized _ _ (g.S.TreeStore.tree c.args.store.now) (g.met.S.TreeStore.one _ _ _ c.requires.1), sized _ _ (g.S.TreeStore.tree c.clear_map.new.store) (g.met.S.TreeStore.one _ _ _ m)), (h, (c.requires.0, m, x.below c.requires.2)))

pub any_in-united-requires : goal.any_in-united-requires
any_in-united-requires g t c = (c.in_ok-lists.ensures.ok _ (c.in_ok-maps.ensures.names_stay _ _ c.requires.1)).rises

pub any_in-united-requires-2 : goal.any_in-united-requires-2
any_in-united-requires-2 g t c = (c.in_ok-maps.ensures.ok _ c.requires.1).rises

pub any_in-returns-clause-ok : goal.any_in-returns-clause-ok
any_in-returns-clause-ok g t c at n =
    let m = c.in_ok-maps.ensures.names_stay _ _ n in
    let l = c.in_ok-lists.ensures.names_stay _ _ m in
    clear_any _ _ _ _ _ _ _ _ _ _ _ _ _ _ _ _ _ (g.met.S.TreeStore.there _ _ _ n) c.in_ok-open.ensures.ok (c.in_ok-maps.ensures.ok at n) (c.in_ok-lists.ensures.ok at m) (c.in_ok-values.ensures.ok at l) (c.in_ok-ids.ensures ∙ ap (union c.in_ok-maps.maps.items) (c.as_slice-2.ensures.value ∙ c.in_ok-rest.ensures ∙ ap (union c.in_ok-lists.lists.items) c.as_slice.ensures.value)) (c.close.ensures ∙ ap (λ (n : ℕ). at_depth n c.clear_register.new.trace) c.depth-depth.ensures)

pub any_in-returns-clause-kept : goal.any_in-returns-clause-kept
any_in-returns-clause-kept g t c =
    then _ _ _ _ _ _ (rule_opened _ _ _ _ R.ClearAny refl c.in_ok-open.ensures.ok) (then _ _ _ _ _ _ c.in_ok-maps.ensures.kept (then _ _ _ _ _ _ c.in_ok-lists.ensures.kept (then _ _ _ _ _ _ c.in_ok-values.ensures.kept (depth_changed _ _ _ _ _ refl c.close.ensures))))

pub clear_map-returns-in_default-clause-ok : goal.clear_map-returns-in_default-clause-ok
clear_map-returns-in_default-clause-ok g t c at n =
    clear_none _ _ _ _ _ _ _ _ (g.met.S.TreeStore.there _ _ _ n) (none_of _ (sym (c.in_default.ensures.some at n))) c.in_ok-push.ensures.ok refl c.new.ensures.items

pub clear_map-map_in-requires : goal.clear_map-map_in-requires
clear_map-map_in-requires g t c =
    let m = c.in-Some.ensures.named _ c.requires.1 in
    let x = down_map _ _ (g.S.TreeStore.tree c.args.store.now) (g.met.S.TreeStore.there _ _ _ c.requires.1) (sym (c.in-Some.ensures.some _ c.requires.1)) c.requires.2 in
    λ κs h. (omega (arith, x.smaller, sized _ _ (g.S.TreeStore.tree c.args.store.now) (g.met.S.TreeStore.one _ _ _ c.requires.1), sized _ _ (g.S.TreeStore.tree c.args.store.now) (g.met.S.TreeStore.one _ _ _ m)), (h, (_, m, x.chained)))

pub clear_map-returns-clause-ok : goal.clear_map-returns-clause-ok
clear_map-returns-clause-ok g t c at n =
    map_cleared _ _ _ _ _ _ _ _ _ _ (g.met.S.TreeStore.there _ _ _ n) (sym (c.in-Some.ensures.some at n)) c.in_ok-open.ensures.ok (c.in_ok-ids.ensures.ok _ (c.in-Some.ensures.named at n)) (c.close.ensures ∙ ap (λ (n : ℕ). at_depth n c.map_in.new.trace) c.depth-depth.ensures)

pub clear_list-returns-in_default-clause-ok : goal.clear_list-returns-in_default-clause-ok
clear_list-returns-in_default-clause-ok g t c at n =
    clear_none _ _ _ _ _ _ _ _ (g.met.S.TreeStore.there _ _ _ n) (none_of _ (sym (c.in_default.ensures.some at n))) c.in_ok-push.ensures.ok refl c.new.ensures.items

pub clear_list-list_in-requires : goal.clear_list-list_in-requires
clear_list-list_in-requires g t c =
    let m = c.in-Some.ensures.named _ c.requires.1 in
    let x = down_list _ _ (g.S.TreeStore.tree c.args.store.now) (g.met.S.TreeStore.there _ _ _ c.requires.1) (sym (c.in-Some.ensures.some _ c.requires.1)) c.requires.2 in
    λ κs h. (omega (arith, x.smaller, sized _ _ (g.S.TreeStore.tree c.args.store.now) (g.met.S.TreeStore.one _ _ _ c.requires.1), sized _ _ (g.S.TreeStore.tree c.args.store.now) (g.met.S.TreeStore.one _ _ _ m)), (h, (_, m, x.chained)))

pub clear_list-returns-clause-ok : goal.clear_list-returns-clause-ok
clear_list-returns-clause-ok g t c at n =
    list_cleared _ _ _ _ _ _ _ _ _ _ (g.met.S.TreeStore.there _ _ _ n) (sym (c.in-Some.ensures.some at n)) c.in_ok-open.ensures.ok (c.in_ok-ids.ensures.ok _ (c.in-Some.ensures.named at n)) (c.close.ensures ∙ ap (λ (n : ℕ). at_depth n c.list_in.new.trace) c.depth-depth.ensures)

pub elem_in-returns-then-is_cleared-clause-ok : goal.elem_in-returns-then-is_cleared-clause-ok
elem_in-returns-then-is_cleared-clause-ok g t c at n =
    rw c.new.ensures.items (c.in_ok-push_cleared.ensures.ok at (g.S.TreeStore.tree c.args.store.now) c.args.deps.now c.args.key.key.now (g.met.S.TreeStore.there _ _ _ n) (c.is_cleared.ensures at n c.if-is_cleared.true))

pub elem_in-returns-then-is_cleared-clause-kept : goal.elem_in-returns-then-is_cleared-clause-kept
elem_in-returns-then-is_cleared-clause-kept g t c = c.in_ok-push_cleared.ensures.kept (g.S.TreeStore.tree c.args.store.now)

pub elem_in-returns-in_err-push_cleared-clause-kept : goal.elem_in-returns-in_err-push_cleared-clause-kept
elem_in-returns-in_err-push_cleared-clause-kept g t c = c.in_err-push_cleared.ensures.kept (g.S.TreeStore.tree c.args.store.now)

pub elem_in-united-requires : goal.elem_in-united-requires
elem_in-united-requires g t c = (c.in_ok-below.ensures.ok _ c.requires.1).rises

pub elem_in-put_presence-requires-clause-rising : goal.elem_in-put_presence-requires-clause-rising
elem_in-put_presence-requires-clause-rising g t c =
    rises_left c.args.deps.now c.in_ok-below.below.items c.as_slice-2.result.now c.as_slice.result.now _ _ c.in_ok-all.ensures c.as_slice-2.ensures.value (c.as_slice-3.ensures.value ∙ c.in_ok-ids.ensures)

pub elem_in-returns-clause-ok : goal.elem_in-returns-clause-ok
elem_in-returns-clause-ok g t c at n =
    let m = c.in_ok-below.ensures.names_stay _ _ n in
    clear_elem _ _ _ _ _ _ _ _ _ _ _ _ _ _ _ (g.met.S.TreeStore.there _ _ _ n) c.in_ok-open.ensures.ok (c.in_ok-below.ensures.ok at n) (c.in_ok-present.ensures.ok at m) (c.in_ok-ids.ensures ∙ ap (λ x. without x c.args.deps.now) (c.as_slice-2.ensures.value ∙ c.in_ok-all.ensures ∙ ap (union c.in_ok-below.below.items) c.as_slice.ensures.value)) c.as_slice-3.ensures.value (c.in_ok-put_presence.ensures.ok at m) (c.close.ensures ∙ ap (λ (n : ℕ). at_depth n c.presence_of.new.trace) c.depth-depth.ensures)

pub elem_in-returns-clause-kept : goal.elem_in-returns-clause-kept
elem_in-returns-clause-kept g t c =
    then _ _ _ _ _ _ (rule_opened _ _ _ _ R.ClearElem refl c.in_ok-open.ensures.ok) (then _ _ _ _ _ _ c.in_ok-below.ensures.kept (then _ _ _ _ _ _ (rows_added _ _ _ _ refl c.in_ok-present.ensures.kept) (then _ _ _ _ _ _ (only_tree _ _ _ _ c.in_ok-put_presence.ensures.kept refl) (depth_changed _ _ _ _ _ refl c.close.ensures))))

pub list_in-loop-key-init : goal.list_in-loop-key-init
list_in-loop-key-init g t c =
    let q = subst (λ (r : List Tagged). g.S.TreeStore.names c.args.store.now c.args.place r) (sym (g.met.S.TreeStore.one _ _ _ c.requires.1)) c.requires.1 in
    record { along = first_along _ _ _ _ _ (g.met.S.TreeStore.there _ _ _ q) (subst (λ (r : List Tagged). IsChainedList (here r (g.S.TreeStore.tree c.args.store.now))) (sym (g.met.S.TreeStore.one _ _ _ c.requires.1)) c.requires.2) c.new-ids.ensures.items; names_stay = λ p q h. h; kept = nothing _ _ _ _ refl refl }

pub list_in-unreachable-requires : goal.list_in-unreachable-requires
list_in-unreachable-requires g t c =
    let q = subst (λ (r : List Tagged). g.S.TreeStore.names c.args.store.now c.args.place r) (sym (g.met.S.TreeStore.one _ _ _ c.requires.1)) c.requires.1 in
    let none : c.step_by-step.result.next ≡ None = search rules in
    along_finds _ _ _ _ _ _ _ _ _ (g.met.S.TreeStore.there _ _ _ q) c.loop-key.invariant.along c.in-Some.is (sym (c.step_by-step.ensures.next _ (c.loop-key.invariant.names_stay _ _ q)) ∙ none)

pub list_in-elem_in-requires : goal.list_in-elem_in-requires
list_in-elem_in-requires g t c =
    let q = subst (λ (r : List Tagged). g.S.TreeStore.names c.args.store.now c.args.place r) (sym (g.met.S.TreeStore.one _ _ _ c.requires.1)) c.requires.1 in
    let m = c.loop-key.invariant.names_stay _ _ q in
    let x = after_along _ _ _ _ _ _ _ _ (g.met.S.TreeStore.there _ _ _ q) c.loop-key.invariant.along in
    λ κs h. (omega (arith, x.nested, sized _ _ (g.S.TreeStore.tree c.loop-key.store) (g.met.S.TreeStore.one _ _ _ m)), (h, (_, m, x.below (below-list _ (subst (λ (r : List Tagged). IsChainedList (here r (g.S.TreeStore.tree c.args.store.now))) (sym (g.met.S.TreeStore.one _ _ _ c.requires.1)) c.requires.2)))))

pub list_in-united-requires : goal.list_in-united-requires
list_in-united-requires g t c = c.loop-key.invariant.along.turn.rises

pub list_in-loop-key-smaller : goal.list_in-loop-key-smaller
list_in-loop-key-smaller g t c =
    let q = subst (λ (r : List Tagged). g.S.TreeStore.names c.args.store.now c.args.place r) (sym (g.met.S.TreeStore.one _ _ _ c.requires.1)) c.requires.1 in
    let m = c.loop-key.invariant.names_stay _ _ q in
    let pl : c.match-next.key ≡ after c.in-Some-next.next = elim c.match-next.branch [ list_in-in-Tail w ↦ w.key-is ∙ sym (ap after w.in-Tail.is) | list_in-in-Elem w ↦ w.key-is ∙ sym (ap after w.in-Elem.is) ] in
    (along_on _ _ _ _ _ _ _ _ _ _ _ _ _ _ _ _ (g.met.S.TreeStore.there _ _ _ q) c.loop-key.invariant.along c.in-Some.is (sym (c.step_by-step.ensures.next _ m) ∙ c.in-Some-next.is) (c.in_ok-more.ensures.ok _ m) c.in_ok-open.ensures.ok (c.in_ok-ids.ensures ∙ ap (union c.loop-key.ids.items) c.as_slice.ensures.value) pl).1

pub list_in-loop-key-preserved : goal.list_in-loop-key-preserved
list_in-loop-key-preserved g t c =
    let q = subst (λ (r : List Tagged). g.S.TreeStore.names c.args.store.now c.args.place r) (sym (g.met.S.TreeStore.one _ _ _ c.requires.1)) c.requires.1 in
    let m = c.loop-key.invariant.names_stay _ _ q in
    let pl : c.match-next.key ≡ after c.in-Some-next.next = elim c.match-next.branch [ list_in-in-Tail w ↦ w.key-is ∙ sym (ap after w.in-Tail.is) | list_in-in-Elem w ↦ w.key-is ∙ sym (ap after w.in-Elem.is) ] in
    record {
      along = (along_on _ _ _ _ _ _ _ _ _ _ _ _ _ _ _ _ (g.met.S.TreeStore.there _ _ _ q) c.loop-key.invariant.along c.in-Some.is (sym (c.step_by-step.ensures.next _ m) ∙ c.in-Some-next.is) (c.in_ok-more.ensures.ok _ m) c.in_ok-open.ensures.ok (c.in_ok-ids.ensures ∙ ap (union c.loop-key.ids.items) c.as_slice.ensures.value) pl).0;
      names_stay = λ p q h. c.in_ok-more.ensures.names_stay p q (c.loop-key.invariant.names_stay p q h);
      kept = then _ _ _ _ _ _ c.loop-key.invariant.kept (then _ _ _ _ _ _ (rule_opened _ _ _ _ R.ClearList2 refl c.in_ok-open.ensures.ok) c.in_ok-more.ensures.kept);
    }

pub list_in-returns-clause-ok : goal.list_in-returns-clause-ok
list_in-returns-clause-ok g t c at n =
    let q = subst (λ (r : List Tagged). g.S.TreeStore.names c.args.store.now c.args.place r) (sym (g.met.S.TreeStore.one _ _ _ c.requires.1)) c.requires.1 in
    let h : c.loop-key.key ≡ None = search rules in
    subst (λ (r : List Tagged). Clears (λ d. ClearList d c.args.deps.now (Some Head)) r (g.S.TreeStore.tree c.args.store.now) (g.S.TreeStore.tree c.loop-key.store) c.loop-key.ids.items c.args.trace.now c.close.new.self) (g.met.S.TreeStore.one _ _ at n) (last_along _ _ _ _ _ _ _ _ _ (g.met.S.TreeStore.there _ _ _ q) c.loop-key.invariant.along h (c.close.ensures ∙ ap (λ (n : ℕ). at_depth n c.push.new.self) c.depth-depth.ensures ∙ ap (λ (r : Rows). at_depth c.args.trace.now.depth r) c.in_ok-push.ensures.ok))

pub map_in-loop-key-init : goal.map_in-loop-key-init
map_in-loop-key-init g t c =
    let q = subst (λ (r : List Tagged). g.S.TreeStore.names c.args.store.now c.args.place r) (sym (g.met.S.TreeStore.one _ _ _ c.requires.1)) c.requires.1 in
    let tree = g.S.TreeStore.tree c.args.store.now in
    let through : ThroughKeys c.args.deps.now (g.S.TreeStore.path c.args.store.now c.args.place) tree c.args.trace.now tree (keys_of c.as_slice-key-items.result.now) c.new-ids.result.items c.clear_first.new.trace = rw (c.as_slice-key-items.ensures.value, c.new-ids.ensures.items) (c.in_ok-keys.ensures.through _ q c.args.deps.now) in
    record { through = through; names_stay = λ p q h. h; kept = c.in_ok-keys.ensures.kept }

pub map_in-elem_in-requires : goal.map_in-elem_in-requires
map_in-elem_in-requires g t c =
    let q = subst (λ (r : List Tagged). g.S.TreeStore.names c.args.store.now c.args.place r) (sym (g.met.S.TreeStore.one _ _ _ c.requires.1)) c.requires.1 in
    let m = c.loop-key.invariant.names_stay _ _ q in
    let x = after_keys _ _ _ _ _ _ _ _ (g.met.S.TreeStore.there _ _ _ q) c.loop-key.invariant.through in
    λ κs h. (omega (arith, x.nested, sized _ _ (g.S.TreeStore.tree c.loop-key.store) (g.met.S.TreeStore.one _ _ _ m)), (h, (_, m, x.below (subst (λ (r : List Tagged). AreChainedBelow (here r (g.S.TreeStore.tree c.args.store.now))) (sym (g.met.S.TreeStore.one _ _ _ c.requires.1)) c.requires.2))))

pub map_in-united-requires : goal.map_in-united-requires
map_in-united-requires g t c = c.loop-key.invariant.through.through.turn.rises

pub map_in-loop-key-preserved : goal.map_in-loop-key-preserved
map_in-loop-key-preserved g t c =
    let q = subst (λ (r : List Tagged). g.S.TreeStore.names c.args.store.now c.args.place r) (sym (g.met.S.TreeStore.one _ _ _ c.requires.1)) c.requires.1 in
    let m = c.loop-key.invariant.names_stay _ _ q in
    record {
      through = keys_on _ _ _ _ _ _ _ _ _ _ _ _ _ _ _ (g.met.S.TreeStore.there _ _ _ q) (ap keys_of (drop_more c.as_slice-key-items.result.now c.loop-key.key-index c.loop-key-item.result c.loop-key-test.true ∙ ap (λ e. e ∷ drop (c.loop-key.key-index + 1) c.as_slice-key-items.result.now) (sym c.loop-key-item.is))) c.loop-key.invariant.through (c.in_ok-more.ensures.ok _ m) c.in_ok-open.ensures.ok (c.in_ok-ids.ensures ∙ ap (union c.loop-key.ids.items) c.as_slice.ensures.value);
      names_stay = λ p q h. c.in_ok-more.ensures.names_stay p q (c.loop-key.invariant.names_stay p q h);
      kept = then _ _ _ _ _ _ c.loop-key.invariant.kept (then _ _ _ _ _ _ (rule_opened _ _ _ _ R.ClearMap2 refl c.in_ok-open.ensures.ok) c.in_ok-more.ensures.kept);
    }

pub map_in-returns-clause-ok : goal.map_in-returns-clause-ok
map_in-returns-clause-ok g t c at n =
    let q = subst (λ (r : List Tagged). g.S.TreeStore.names c.args.store.now c.args.place r) (sym (g.met.S.TreeStore.one _ _ _ c.requires.1)) c.requires.1 in
    subst (λ (r : List Tagged). Clears (λ d. ClearMap d c.args.deps.now []) r (g.S.TreeStore.tree c.args.store.now) (g.S.TreeStore.tree c.loop-key.store) c.loop-key.ids.items c.args.trace.now c.close.new.self) (g.met.S.TreeStore.one _ _ at n) (last_keys _ _ _ _ _ _ _ _ _ (g.met.S.TreeStore.there _ _ _ q) (ap keys_of (drop_all c.loop-key.key-index c.as_slice-key-items.result.now c.loop-key-test.false)) c.loop-key.invariant.through (c.close.ensures ∙ ap (λ (n : ℕ). at_depth n c.push.new.self) c.depth-depth.ensures ∙ ap (λ (r : Rows). at_depth c.args.trace.now.depth r) c.in_ok-push.ensures.ok))

pub any_in-returns-in_err-open-clause-kept : goal.any_in-returns-in_err-open-clause-kept
any_in-returns-in_err-open-clause-kept g t c = nothing _ _ _ _ refl c.in_err-open.ensures.err

pub any_in-returns-in_err-maps-clause-kept : goal.any_in-returns-in_err-maps-clause-kept
any_in-returns-in_err-maps-clause-kept g t c = then _ _ _ _ _ _ (rule_opened _ _ _ _ R.ClearAny refl c.in_ok-open.ensures.ok) c.in_err-maps.ensures.kept

pub any_in-returns-in_err-lists-clause-kept : goal.any_in-returns-in_err-lists-clause-kept
any_in-returns-in_err-lists-clause-kept g t c = then _ _ _ _ _ _ (rule_opened _ _ _ _ R.ClearAny refl c.in_ok-open.ensures.ok) (then _ _ _ _ _ _ c.in_ok-maps.ensures.kept c.in_err-lists.ensures.kept)

pub any_in-returns-in_err-values-clause-kept : goal.any_in-returns-in_err-values-clause-kept
any_in-returns-in_err-values-clause-kept g t c = then _ _ _ _ _ _ (rule_opened _ _ _ _ R.ClearAny refl c.in_ok-open.ensures.ok) (then _ _ _ _ _ _ c.in_ok-maps.ensures.kept (then _ _ _ _ _ _ c.in_ok-lists.ensures.kept c.in_err-values.ensures.kept))

pub any_in-returns-in_err-rest-clause-kept : goal.any_in-returns-in_err-rest-clause-kept
any_in-returns-in_err-rest-clause-kept g t c = then _ _ _ _ _ _ (rule_opened _ _ _ _ R.ClearAny refl c.in_ok-open.ensures.ok) (then _ _ _ _ _ _ c.in_ok-maps.ensures.kept (then _ _ _ _ _ _ c.in_ok-lists.ensures.kept c.in_ok-values.ensures.kept))

pub any_in-returns-in_err-ids-clause-kept : goal.any_in-returns-in_err-ids-clause-kept
any_in-returns-in_err-ids-clause-kept g t c = then _ _ _ _ _ _ (rule_opened _ _ _ _ R.ClearAny refl c.in_ok-open.ensures.ok) (then _ _ _ _ _ _ c.in_ok-maps.ensures.kept (then _ _ _ _ _ _ c.in_ok-lists.ensures.kept c.in_ok-values.ensures.kept))

pub elem_in-returns-in_err-open-clause-kept : goal.elem_in-returns-in_err-open-clause-kept
elem_in-returns-in_err-open-clause-kept g t c = nothing _ _ _ _ refl c.in_err-open.ensures.err

pub elem_in-returns-in_err-below-clause-kept : goal.elem_in-returns-in_err-below-clause-kept
elem_in-returns-in_err-below-clause-kept g t c = then _ _ _ _ _ _ (rule_opened _ _ _ _ R.ClearElem refl c.in_ok-open.ensures.ok) c.in_err-below.ensures.kept

pub elem_in-returns-in_err-present-clause-kept : goal.elem_in-returns-in_err-present-clause-kept
elem_in-returns-in_err-present-clause-kept g t c = then _ _ _ _ _ _ (rule_opened _ _ _ _ R.ClearElem refl c.in_ok-open.ensures.ok) (then _ _ _ _ _ _ c.in_ok-below.ensures.kept (rows_added _ _ _ _ refl c.in_err-present.ensures.kept))

pub elem_in-returns-in_err-all-clause-kept : goal.elem_in-returns-in_err-all-clause-kept
elem_in-returns-in_err-all-clause-kept g t c = then _ _ _ _ _ _ (rule_opened _ _ _ _ R.ClearElem refl c.in_ok-open.ensures.ok) (then _ _ _ _ _ _ c.in_ok-below.ensures.kept (rows_added _ _ _ _ refl c.in_ok-present.ensures.kept))

pub elem_in-returns-in_err-ids-clause-kept : goal.elem_in-returns-in_err-ids-clause-kept
elem_in-returns-in_err-ids-clause-kept g t c = then _ _ _ _ _ _ (rule_opened _ _ _ _ R.ClearElem refl c.in_ok-open.ensures.ok) (then _ _ _ _ _ _ c.in_ok-below.ensures.kept (rows_added _ _ _ _ refl c.in_ok-present.ensures.kept))

pub elem_in-returns-in_err-put_presence-clause-kept : goal.elem_in-returns-in_err-put_presence-clause-kept
elem_in-returns-in_err-put_presence-clause-kept g t c = then _ _ _ _ _ _ (rule_opened _ _ _ _ R.ClearElem refl c.in_ok-open.ensures.ok) (then _ _ _ _ _ _ c.in_ok-below.ensures.kept (then _ _ _ _ _ _ (rows_added _ _ _ _ refl c.in_ok-present.ensures.kept) (only_tree _ _ _ _ c.in_err-put_presence.ensures.kept refl)))

pub clear_map-returns-in_err-push-clause-kept : goal.clear_map-returns-in_err-push-clause-kept
clear_map-returns-in_err-push-clause-kept g t c = nothing _ _ _ _ refl c.in_err-push.ensures.err

pub clear_map-returns-in_default-clause-kept : goal.clear_map-returns-in_default-clause-kept
clear_map-returns-in_default-clause-kept g t c = rule_added _ _ _ _ R.ClearNone refl c.in_ok-push.ensures.ok

pub clear_map-returns-in_err-open-clause-kept : goal.clear_map-returns-in_err-open-clause-kept
clear_map-returns-in_err-open-clause-kept g t c = nothing _ _ _ _ refl c.in_err-open.ensures.err

pub clear_map-returns-in_err-ids-clause-kept : goal.clear_map-returns-in_err-ids-clause-kept
clear_map-returns-in_err-ids-clause-kept g t c = then _ _ _ _ _ _ (rule_opened _ _ _ _ R.ClearMap1 refl c.in_ok-open.ensures.ok) c.in_err-ids.ensures.kept

pub clear_map-returns-clause-kept : goal.clear_map-returns-clause-kept
clear_map-returns-clause-kept g t c = then _ _ _ _ _ _ (rule_opened _ _ _ _ R.ClearMap1 refl c.in_ok-open.ensures.ok) (then _ _ _ _ _ _ c.in_ok-ids.ensures.kept (depth_changed _ _ _ _ _ refl c.close.ensures))

pub clear_list-returns-in_err-push-clause-kept : goal.clear_list-returns-in_err-push-clause-kept
clear_list-returns-in_err-push-clause-kept g t c = nothing _ _ _ _ refl c.in_err-push.ensures.err

pub clear_list-returns-in_default-clause-kept : goal.clear_list-returns-in_default-clause-kept
clear_list-returns-in_default-clause-kept g t c = rule_added _ _ _ _ R.ClearNone refl c.in_ok-push.ensures.ok

pub clear_list-returns-in_err-open-clause-kept : goal.clear_list-returns-in_err-open-clause-kept
clear_list-returns-in_err-open-clause-kept g t c = nothing _ _ _ _ refl c.in_err-open.ensures.err

pub clear_list-returns-in_err-ids-clause-kept : goal.clear_list-returns-in_err-ids-clause-kept
clear_list-returns-in_err-ids-clause-kept g t c = then _ _ _ _ _ _ (rule_opened _ _ _ _ R.ClearList1 refl c.in_ok-open.ensures.ok) c.in_err-ids.ensures.kept

pub clear_list-returns-clause-kept : goal.clear_list-returns-clause-kept
clear_list-returns-clause-kept g t c = then _ _ _ _ _ _ (rule_opened _ _ _ _ R.ClearList1 refl c.in_ok-open.ensures.ok) (then _ _ _ _ _ _ c.in_ok-ids.ensures.kept (depth_changed _ _ _ _ _ refl c.close.ensures))

pub list_in-returns-in_err-open-clause-kept : goal.list_in-returns-in_err-open-clause-kept
list_in-returns-in_err-open-clause-kept g t c = then _ _ _ _ _ _ c.loop-key.invariant.kept (nothing _ _ _ _ refl c.in_err-open.ensures.err)

pub list_in-returns-in_err-more-clause-kept : goal.list_in-returns-in_err-more-clause-kept
list_in-returns-in_err-more-clause-kept g t c = then _ _ _ _ _ _ c.loop-key.invariant.kept (then _ _ _ _ _ _ (rule_opened _ _ _ _ R.ClearList2 refl c.in_ok-open.ensures.ok) c.in_err-more.ensures.kept)

pub list_in-returns-in_err-ids-clause-kept : goal.list_in-returns-in_err-ids-clause-kept
list_in-returns-in_err-ids-clause-kept g t c = then _ _ _ _ _ _ c.loop-key.invariant.kept (then _ _ _ _ _ _ (rule_opened _ _ _ _ R.ClearList2 refl c.in_ok-open.ensures.ok) c.in_ok-more.ensures.kept)

pub list_in-returns-in_err-push-clause-kept : goal.list_in-returns-in_err-push-clause-kept
list_in-returns-in_err-push-clause-kept g t c = then _ _ _ _ _ _ c.loop-key.invariant.kept (nothing _ _ _ _ refl c.in_err-push.ensures.err)

pub list_in-returns-clause-kept : goal.list_in-returns-clause-kept
list_in-returns-clause-kept g t c = then _ _ _ _ _ _ c.loop-key.invariant.kept (then _ _ _ _ _ _ (rule_added _ _ _ _ R.ClearList3 refl c.in_ok-push.ensures.ok) (depth_changed _ _ _ _ _ refl c.close.ensures))

pub map_in-returns-in_err-open-clause-kept : goal.map_in-returns-in_err-open-clause-kept
map_in-returns-in_err-open-clause-kept g t c = then _ _ _ _ _ _ c.loop-key.invariant.kept (nothing _ _ _ _ refl c.in_err-open.ensures.err)

pub map_in-returns-in_err-more-clause-kept : goal.map_in-returns-in_err-more-clause-kept
map_in-returns-in_err-more-clause-kept g t c = then _ _ _ _ _ _ c.loop-key.invariant.kept (then _ _ _ _ _ _ (rule_opened _ _ _ _ R.ClearMap2 refl c.in_ok-open.ensures.ok) c.in_err-more.ensures.kept)

pub map_in-returns-in_err-ids-clause-kept : goal.map_in-returns-in_err-ids-clause-kept
map_in-returns-in_err-ids-clause-kept g t c = then _ _ _ _ _ _ c.loop-key.invariant.kept (then _ _ _ _ _ _ (rule_opened _ _ _ _ R.ClearMap2 refl c.in_ok-open.ensures.ok) c.in_ok-more.ensures.kept)

pub map_in-returns-in_err-push-clause-kept : goal.map_in-returns-in_err-push-clause-kept
map_in-returns-in_err-push-clause-kept g t c = then _ _ _ _ _ _ c.loop-key.invariant.kept (nothing _ _ _ _ refl c.in_err-push.ensures.err)

pub map_in-returns-clause-kept : goal.map_in-returns-clause-kept
map_in-returns-clause-kept g t c = then _ _ _ _ _ _ c.loop-key.invariant.kept (then _ _ _ _ _ _ (rule_added _ _ _ _ R.ClearMap3 refl c.in_ok-push.ensures.ok) (depth_changed _ _ _ _ _ refl c.close.ensures))

pub elem_in-any_in-requires : goal.elem_in-any_in-requires
elem_in-any_in-requires g t c = λ κs h. (omega arith, (h, c.requires))

pub any_in-clear_map-requires : goal.any_in-clear_map-requires
any_in-clear_map-requires g t c = λ κs h. (omega arith, (h, c.requires))

pub clear_map-close-requires : goal.clear_map-close-requires
clear_map-close-requires g t c = omega (arith, c.depth-depth.ensures, ap (λ (r : Rows). r.depth) c.in_ok-open.ensures.ok, (c.in_ok-ids.ensures.ok _ (c.in-Some.ensures.named _ c.requires.1)).derives.depth)

pub clear_list-close-requires : goal.clear_list-close-requires
clear_list-close-requires g t c = omega (arith, c.depth-depth.ensures, ap (λ (r : Rows). r.depth) c.in_ok-open.ensures.ok, (c.in_ok-ids.ensures.ok _ (c.in-Some.ensures.named _ c.requires.1)).derives.depth)

pub any_in-close-requires : goal.any_in-close-requires
any_in-close-requires g t c =
    let m = c.in_ok-maps.ensures.names_stay _ _ c.requires.1 in
    let l = c.in_ok-lists.ensures.names_stay _ _ m in
    omega (arith, c.depth-depth.ensures, ap (λ (r : Rows). r.depth) c.in_ok-open.ensures.ok, (c.in_ok-maps.ensures.ok _ c.requires.1).derives.depth, (c.in_ok-lists.ensures.ok _ m).derives.depth, (c.in_ok-values.ensures.ok _ l).derives.depth)

pub elem_in-close-requires : goal.elem_in-close-requires
elem_in-close-requires g t c =
    let m = c.in_ok-below.ensures.names_stay _ _ c.requires.1 in
    omega (arith, c.depth-depth.ensures, ap (λ (r : Rows). r.depth) c.in_ok-open.ensures.ok, (c.in_ok-below.ensures.ok _ c.requires.1).derives.depth, (c.in_ok-present.ensures.ok _ m).depth)

pub list_in-close-requires : goal.list_in-close-requires
list_in-close-requires g t c = omega (arith, c.depth-depth.ensures, ap (λ (r : Rows). r.depth) c.in_ok-push.ensures.ok, c.loop-key.invariant.along.turn.deeper)

pub map_in-close-requires : goal.map_in-close-requires
map_in-close-requires g t c = omega (arith, c.depth-depth.ensures, ap (λ (r : Rows). r.depth) c.in_ok-push.ensures.ok, c.loop-key.invariant.through.through.turn.deeper)

pub list_in-loop-key-smaller-after-next : goal.list_in-loop-key-smaller-after-next
list_in-loop-key-smaller-after-next g t c =
    let q = subst (λ (r : List Tagged). g.S.TreeStore.names c.args.store.now c.args.place r) (sym (g.met.S.TreeStore.one _ _ _ c.requires.1)) c.requires.1 in
    let m = c.loop-key.invariant.names_stay _ _ q in
    let pl : c.match-next.key ≡ after c.in-Some-next.next = elim c.match-next.branch [ list_in-in-Tail w ↦ w.key-is ∙ sym (ap after w.in-Tail.is) | list_in-in-Elem w ↦ w.key-is ∙ sym (ap after w.in-Elem.is) ] in
    (along_on _ _ _ _ _ _ _ _ _ _ _ _ _ _ _ _ (g.met.S.TreeStore.there _ _ _ q) c.loop-key.invariant.along c.in-Some.is (sym (c.step_by-step.ensures.next _ m) ∙ c.in-Some-next.is) (c.in_ok-more.ensures.ok _ m) c.in_ok-open.ensures.ok (c.in_ok-ids.ensures ∙ ap (union c.loop-key.ids.items) c.as_slice.ensures.value) pl).1

pub list_in-loop-key-preserved-after-next : goal.list_in-loop-key-preserved-after-next
list_in-loop-key-preserved-after-next g t c =
    let q = subst (λ (r : List Tagged). g.S.TreeStore.names c.args.store.now c.args.place r) (sym (g.met.S.TreeStore.one _ _ _ c.requires.1)) c.requires.1 in
    let m = c.loop-key.invariant.names_stay _ _ q in
    let pl : c.match-next.key ≡ after c.in-Some-next.next = elim c.match-next.branch [ list_in-in-Tail w ↦ w.key-is ∙ sym (ap after w.in-Tail.is) | list_in-in-Elem w ↦ w.key-is ∙ sym (ap after w.in-Elem.is) ] in
    record {
      along = (along_on _ _ _ _ _ _ _ _ _ _ _ _ _ _ _ _ (g.met.S.TreeStore.there _ _ _ q) c.loop-key.invariant.along c.in-Some.is (sym (c.step_by-step.ensures.next _ m) ∙ c.in-Some-next.is) (c.in_ok-more.ensures.ok _ m) c.in_ok-open.ensures.ok (c.in_ok-ids.ensures ∙ ap (union c.loop-key.ids.items) c.as_slice.ensures.value) pl).0;
      names_stay = λ p q h. c.in_ok-more.ensures.names_stay p q (c.loop-key.invariant.names_stay p q h);
      kept = then _ _ _ _ _ _ c.loop-key.invariant.kept (then _ _ _ _ _ _ (rule_opened _ _ _ _ R.ClearList2 refl c.in_ok-open.ensures.ok) c.in_ok-more.ensures.kept);
    }

pub any_in-clear_register-requires : goal.any_in-clear_register-requires
any_in-clear_register-requires g t c =
    (c.requires.0, c.in_ok-lists.ensures.names_stay _ _ (c.in_ok-maps.ensures.names_stay _ _ c.requires.1))

pub elem_in-presence_of-requires : goal.elem_in-presence_of-requires
elem_in-presence_of-requires g t c = (c.requires.0, c.in_ok-below.ensures.names_stay _ _ c.requires.1)

pub elem_in-put_presence-requires-clause-named : goal.elem_in-put_presence-requires-clause-named
elem_in-put_presence-requires-clause-named g t c = (c.requires.0, c.in_ok-below.ensures.names_stay _ _ c.requires.1)

pub list_in-step_by-step-requires : goal.list_in-step_by-step-requires
list_in-step_by-step-requires g t c = (c.requires.0, c.loop-key.invariant.names_stay _ _ c.requires.1)

pub map_in-clear_first-requires : goal.map_in-clear_first-requires
map_in-clear_first-requires g t c = (c.requires.0, c.requires.1)

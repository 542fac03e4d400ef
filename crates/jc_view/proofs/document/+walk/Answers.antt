use Rattle.std.proofs.Common.{rules, ℕ, ◌≡◌, ◌<◌, List, [], ◌∷◌, ◌++◌, true, false, is_some, Some, codes, refl, arith, add-one, ap, sym, ◌∙◌, subst}
use Rattle.std.proofs.lemmas.Result.{on_ok_weaker}
use Rattle.json.specs.Token as T
use Rattle.json.specs.Tree.{json_tokens}
use Rattle.json.specs.Written.{Written}
use Rattle.jc_rules.specs.declared.key.Key.{Key}
use Rattle.jc_rules.specs.declared.key.Key.TheVariants as K
use Rattle.jc_rules.specs.declared.key.Next.TheVariants.{Elem as To}
use Rattle.jc_rules.specs.declared.key.Tagged.{Tagged}
use Rattle.jc_rules.specs.declared.key.Tagged.TheVariants.{MapT, ListT}
use Rattle.jc_rules.specs.Order.{key_cmp}
use Rattle.jc_rules.specs.Entries.{find}
use Rattle.jc_rules.specs.Context.{presences, registers, next, Register}
use Rattle.jc_rules.specs.WellFormed.{IsWellFormedContext}
use Rattle.jc_tree.specs.Tree.{HasPlace, here}
use Rattle.jc_tree.specs.Nested.{nested}
use Rattle.jc_tree.proofs.ChainedBelowLemmas.{list_here}
use Rattle.jc_cursor.proofs.ElementsLemmas.{nearer}
use Rattle.jc_tree.proofs.WellFormedLemmas.{presences_rise}
use Rattle.jc_meaning.proofs.ComparedContextsLemmas.{kept_here}
use Rattle.jc_view.specs.declared.document.Branch.{Branch}
use Rattle.jc_view.specs.declared.document.Form.TheVariants as F
use Rattle.jc_view.specs.Visible.{goes_by, or_no_value, present, marked, map_json, list_json}
use Rattle.jc_json.specs.Gains.{Gains}
use Rattle.jc_view.specs.Parts.{parts_shown_at, node_json, child_json, member_shown, item_of, part_tokens, values_tokens, tag_of}
use Rattle.jc_json.proofs.GainsLemmas.{gains_nothing, gains_one, gains_then, wrote_end, gains_between}
use Rattle.jc_view.proofs.ElementsLemmas.{along_begins, along_on, along_ends}
use Rattle.jc_view.proofs.MembersLemmas.{one_member_more, all_members, member_by, every_is, place_by, map_is, list_is, child_stands, child_is}
use Rattle.jc_view.proofs.document.+walk.Goals as goal
use Rattle.jc_view.proofs.document.+walk.Goals.{write_child-in-Map+in_ok-write_map-in-Map, write_child-in-List+in_ok-write_list-in-List}

pub write_child-write_list-requires : goal.write_child-write_list-requires
write_child-write_list-requires g t c κs within =
    let tree = g.S.TreeStore.tree c.args.view.now.store.now in
    let at = c.args.at.now.items in
    let k = c.args.key.key.now in
    let there : HasPlace at tree = g.met.S.TreeStore.there c.args.view.now.store.now c.args.key.place at c.requires.named in
    let x = child_stands c.args.branch at k tree there c.requires.some in
    let pushed : c.push.new.self.items ≡ at ++ tag_of c.args.branch k ∷ [] = search rules in
    let small : nested (here c.push.new.self.items tree) < nested (here at tree) = rw pushed x.smaller in
    (omega (arith, small, c.decreases), (within, (rw pushed (c.in-Some.ensures.named at c.requires.named), c.requires.chained)))

pub write_child-write_map-requires : goal.write_child-write_map-requires
write_child-write_map-requires g t c κs within =
    let tree = g.S.TreeStore.tree c.args.view.now.store.now in
    let at = c.args.at.now.items in
    let k = c.args.key.key.now in
    let there : HasPlace at tree = g.met.S.TreeStore.there c.args.view.now.store.now c.args.key.place at c.requires.named in
    let x = child_stands c.args.branch at k tree there c.requires.some in
    let pushed : c.push.new.self.items ≡ at ++ tag_of c.args.branch k ∷ [] = search rules in
    let small : nested (here c.push.new.self.items tree) < nested (here at tree) = rw pushed x.smaller in
    (omega (arith, small, c.decreases), (within, (rw pushed (c.in-Some.ensures.named at c.requires.named), c.requires.chained)))

pub write_child-returns-clause-written : goal.write_child-returns-clause-written
write_child-returns-clause-written g t c =
    let tree = g.S.TreeStore.tree c.args.view.now.store.now in
    let at = c.args.at.now.items in
    let names = c.args.view.now.names.now in
    let goes = goes_by c.args.view.now.replica.now.history.now in
    let k = c.args.key.key.now in
    let branch = c.args.branch in
    let p = c.push.new.self.items in
    let there : HasPlace at tree = g.met.S.TreeStore.there c.args.view.now.store.now c.args.key.place at c.requires.named in
    let x = child_stands c.args.branch at k tree there c.requires.some in
    let pushed : c.push.new.self.items ≡ at ++ tag_of c.args.branch k ∷ [] = search rules in
    let same = child_is names goes at branch k p tree x pushed in
    elim c.match-branch-3.branch [
      | write_child-in-Map+in_ok-write_map-in-Map w ↦
          let is : map_json names goes p (here p tree) ≡ child_json names goes at (tag_of branch k) (here at tree) = ap (λ (b : Branch). node_json names goes p (tag_of b k) (here p tree)) (sym w.in-Map.is) ∙ same in
          subst (λ (o : Written). Gains c.args.out.now o (json_tokens (child_json names goes at (tag_of branch k) (here at tree)))) (sym w.out-is)
          (subst (λ j. Gains c.args.out.now w.write_map.new.out (json_tokens j)) is w.in_ok-write_map-in-Map.ensures.written)
      | write_child-in-List+in_ok-write_list-in-List w ↦
          let is : list_json names goes p (here p tree) ≡ child_json names goes at (tag_of branch k) (here at tree) = ap (λ (b : Branch). node_json names goes p (tag_of b k) (here p tree)) (sym w.in-List.is) ∙ same in
          subst (λ (o : Written). Gains c.args.out.now o (json_tokens (child_json names goes at (tag_of branch k) (here at tree)))) (sym w.out-is)
          (subst (λ j. Gains c.args.out.now w.write_list.new.out (json_tokens j)) is w.in_ok-write_list-in-List.ensures.written)
    ]

pub write_every-returns-clause-written : goal.write_every-returns-clause-written
write_every-returns-clause-written g t c =
    let tree = g.S.TreeStore.tree c.args.view.now.store.now in
    let at = c.args.at.now.items in
    let names = c.args.view.now.names.now in
    let goes = goes_by c.args.view.now.replica.now.history.now in
    let d = here at tree in
    let k = c.args.key.key.now in
    let r = or_no_value (find key_cmp k (registers d)) in
    let m = child_json names goes at (MapT k) d in
    let l = child_json names goes at (ListT k) d in
    let g1 : Gains c.args.out.now c.begin_object.new.self (T.begin_object ∷ []) = search rules in
    let g2 : Gains c.begin_object.new.self c.key.new.self (T.key (codes "!conflict") ∷ []) = gains_one _ _ _ _ _ c.in_ok-key.was c.key.ensures in
    let g3 : Gains c.key.new.self c.begin_object-2.new.self (T.begin_object ∷ []) = search rules in
    let g4 : Gains c.begin_object-2.new.self c.write_part.new.out (part_tokens (codes "list") c.args.list l) = c.in_ok-write_part.ensures.written in
    let g5 : Gains c.write_part.new.out c.write_part-2.new.out (part_tokens (codes "map") c.args.map m) =
    subst (λ (s : List Tagged). Gains c.write_part.new.out c.write_part-2.new.out (part_tokens (codes "map") c.args.map (child_json names goes s (MapT k) (here s tree)))) c.in_ok-write_part.ensures.path c.in_ok-write_part-2.ensures.written in
    let g6 : Gains c.write_part-2.new.out c.write_values.new.out (values_tokens names r) =
    subst (λ (v : Register). Gains c.write_part-2.new.out c.write_values.new.out (values_tokens names v)) (c.values_at.ensures at c.requires.named) c.in_ok-write_values.ensures in
    let g7 : Gains c.write_values.new.out c.end_object.new.self (T.end_object ∷ []) = search rules in
    on_ok_weaker c.end_object-2.result
    (λ o. subst (Gains c.args.out.now c.end_object-2.new.self) (sym (every_is names r c.args.map c.args.list m l))
    (gains_then _ _ _ _ _ (gains_then _ _ _ _ _ (gains_then _ _ _ _ _ (gains_then _ _ _ _ _ (gains_then _ _ _ _ _ (gains_then _ _ _ _ _ (gains_then _ _ _ _ _ g1 g2) g3) g4) g5) g6) g7) (record { before = c.end_object-2.ensures.room.0; tokens = o })))
    c.end_object-2.ensures.ok

pub write_list-loop-id-init : goal.write_list-loop-id-init
write_list-loop-id-init g t c =
    let tree = g.S.TreeStore.tree c.args.view.now.store.now in
    let at = c.args.at.now.items in
    let d = here at tree in
    let show = parts_shown_at c.args.view.now.names.now (goes_by c.args.view.now.replica.now.history.now) at d in
    (refl, along_begins show d _)

pub write_list-loop-id-smaller : goal.write_list-loop-id-smaller
write_list-loop-id-smaller g t c =
    let tree = g.S.TreeStore.tree c.args.view.now.store.now in
    let at = c.args.at.now.items in
    let there : HasPlace at tree = g.met.S.TreeStore.there c.args.view.now.store.now c.args.place at c.requires.named in
    let k = c.loop-id.last in
    let id = c.in-Some.id in
    let n : next k (here at tree) ≡ Some (To id) = c.in-Some.ensures at c.requires.named in
    nearer (here at tree) k (K.Elem id) id (λ f. list_here at k (To id) tree there f c.requires.chained) n refl

pub write_list-loop-id-preserved : goal.write_list-loop-id-preserved
write_list-loop-id-preserved g t c =
    let tree = g.S.TreeStore.tree c.args.view.now.store.now in
    let at = c.args.at.now.items in
    let d = here at tree in
    let show = parts_shown_at c.args.view.now.names.now (goes_by c.args.view.now.replica.now.history.now) at d in
    let there : HasPlace at tree = g.met.S.TreeStore.there c.args.view.now.store.now c.args.place at c.requires.named in
    let k = c.loop-id.last in
    let id = c.in-Some.id in
    let n : next k d ≡ Some (To id) = c.in-Some.ensures at c.requires.named in
    let gains : Gains c.loop-id.out c.write_item.new.out (item_of show (K.Elem id) d) =
    subst (λ (s : List Tagged). Gains c.loop-id.out c.write_item.new.out (item_of (parts_shown_at c.args.view.now.names.now (goes_by c.args.view.now.replica.now.history.now) s (here s tree)) (K.Elem id) (here s tree))) c.loop-id.invariant.0 c.in_ok-write_item.ensures.written in (
      c.in_ok-write_item.ensures.path ∙ c.loop-id.invariant.0,
      along_on show d k id _ _ _ (λ f. list_here at k (To id) tree there f c.requires.chained) n gains c.loop-id.invariant.1,
    )

pub write_list-returns-clause-written : goal.write_list-returns-clause-written
write_list-returns-clause-written g t c =
    let tree = g.S.TreeStore.tree c.args.view.now.store.now in
    let at = c.args.at.now.items in
    let names = c.args.view.now.names.now in
    let goes = goes_by c.args.view.now.replica.now.history.now in
    let d = here at tree in
    let begun : Gains c.args.out.now c.begin_array.new.self (T.begin_array ∷ []) = search rules in
    let written = wrote_end _ _ _ (along_ends (parts_shown_at names goes at d) d c.loop-id.last _ _ (c.in_default.ensures at c.requires.named) c.loop-id.invariant.1) in
    on_ok_weaker c.end_array.result
    (λ o. gains_between c.args.out.now c.begin_array.new.self c.loop-id.out c.end_array.new.self T.begin_array T.end_array _ _ (list_is names goes at d) begun written (record { before = c.end_array.ensures.room.0; tokens = o }))
    c.end_array.ensures.ok

pub write_map-loop-key-preserved : goal.write_map-loop-key-preserved
write_map-loop-key-preserved g t c =
    let tree = g.S.TreeStore.tree c.args.view.now.store.now in
    let at = c.args.at.now.items in
    let d = here at tree in
    let show = parts_shown_at c.args.view.now.names.now (goes_by c.args.view.now.replica.now.history.now) at d in
    let lent = c.as_slice-key-items.result.now in
    let n = c.loop-key.key-index in
    let lent_key = c.loop-key-item.result in
    let gains : Gains c.loop-key.out c.write_member.new.out (member_shown show lent_key.0.now d) =
    subst (λ (s : List Tagged). Gains c.loop-key.out c.write_member.new.out (member_shown (parts_shown_at c.args.view.now.names.now (goes_by c.args.view.now.replica.now.history.now) s (here s tree)) lent_key.0.now (here s tree))) c.loop-key.invariant.0 c.in_ok-write_member.ensures.written in (
      c.in_ok-write_member.ensures.path ∙ c.loop-key.invariant.0,
      rw add-one (one_member_more show lent n lent_key d _ _ _ c.loop-key-test.true c.loop-key-item.is c.loop-key.invariant.1 gains),
    )

pub write_map-returns-clause-written : goal.write_map-returns-clause-written
write_map-returns-clause-written g t c =
    let tree = g.S.TreeStore.tree c.args.view.now.store.now in
    let at = c.args.at.now.items in
    let names = c.args.view.now.names.now in
    let goes = goes_by c.args.view.now.replica.now.history.now in
    let d = here at tree in
    let there : HasPlace at tree = g.met.S.TreeStore.there c.args.view.now.store.now c.args.place at c.requires.named in
    let lent = c.as_slice-key-items.result.now in
    let kept : IsWellFormedContext d = kept_here at tree there (g.met.S.TreeStore.kept c.args.view.now.store.now) in
    let all = all_members (parts_shown_at names goes at d) lent c.loop-key.key-index d c.loop-key-test.false kept (rw c.as_slice-key-items.ensures.value c.in_ok-keys.ensures.rising) (rw c.as_slice-key-items.ensures.value (c.in_ok-keys.ensures.all at c.requires.named)) in
    let begun : Gains c.args.out.now c.begin_object.new.self (T.begin_object ∷ []) = search rules in
    let written = subst (Gains c.begin_object.new.self c.loop-key.out) all c.loop-key.invariant.1 in
    on_ok_weaker c.end_object.result
    (λ o. gains_between c.args.out.now c.begin_object.new.self c.loop-key.out c.end_object.new.self T.begin_object T.end_object _ _ (map_is names goes at d) begun written (record { before = c.end_object.ensures.room.0; tokens = o }))
    c.end_object.ensures.ok

pub write_member-returns-in_ok-write_place-clause-written : goal.write_member-returns-in_ok-write_place-clause-written
write_member-returns-in_ok-write_place-clause-written g t c =
    let tree = g.S.TreeStore.tree c.args.view.now.store.now in
    let at = c.args.at.now.items in
    let d = here at tree in
    let show = parts_shown_at c.args.view.now.names.now (goes_by c.args.view.now.replica.now.history.now) at d in
    let there : HasPlace at tree = g.met.S.TreeStore.there c.args.view.now.store.now c.args.key.place at c.requires.named in
    let s : List ℕ = c.in-Name.name in
    let kept : IsWellFormedContext d = kept_here at tree there (g.met.S.TreeStore.kept c.args.view.now.store.now) in
    let is : c.args.key.key.now ≡ K.Name s = search rules in
    let present_at : true ≡ is_some (find key_cmp (K.Name s) (present (presences d))) = search rules in
    let named : Gains c.args.out.now c.write_name.new.out (T.key (marked s) ∷ []) = search rules in
    let placed : Gains c.write_name.new.out c.write_place.new.out (json_tokens (show (K.Name s))) = search rules in
    let both = gains_then _ _ _ _ _ named placed in
    subst (λ (k : Key). Gains c.args.out.now c.write_place.new.out (member_shown show k d)) (sym is)
    (subst (Gains c.args.out.now c.write_place.new.out) (sym (member_by show s d true present_at (presences_rise d kept))) both)

pub write_member-returns-else-is_present-clause-written : goal.write_member-returns-else-is_present-clause-written
write_member-returns-else-is_present-clause-written g t c =
    let tree = g.S.TreeStore.tree c.args.view.now.store.now in
    let at = c.args.at.now.items in
    let d = here at tree in
    let show = parts_shown_at c.args.view.now.names.now (goes_by c.args.view.now.replica.now.history.now) at d in
    let there : HasPlace at tree = g.met.S.TreeStore.there c.args.view.now.store.now c.args.key.place at c.requires.named in
    let s : List ℕ = c.in-Name.name in
    let kept : IsWellFormedContext d = kept_here at tree there (g.met.S.TreeStore.kept c.args.view.now.store.now) in
    let is : c.args.key.key.now ≡ K.Name s = search rules in
    let present_at : false ≡ is_some (find key_cmp (K.Name s) (present (presences d))) = search rules in
    subst (λ (k : Key). Gains c.args.out.now c.args.out.now (member_shown show k d)) (sym is)
    (subst (Gains c.args.out.now c.args.out.now) (sym (member_by show s d false present_at (presences_rise d kept))) (gains_nothing c.args.out.now))

pub write_place-returns-in-Value-clause-written : goal.write_place-returns-in-Value-clause-written
write_place-returns-in-Value-clause-written g t c =
    let tree = g.S.TreeStore.tree c.args.view.now.store.now in
    let goes = goes_by c.args.view.now.replica.now.history.now in
    let values = c.values_at-values.ensures c.args.at.now.items c.requires.named in
    let shown = place_by c.args.view.now.names.now goes c.args.at.now.items _ c.args.key.key.now tree _ _ _ F.Value c.as_slice.ensures.value values c.in_ok-map.ensures.map c.in_ok-map.ensures.list (sym c.in-Value.is ∙ c.choose_form.ensures) in
    on_ok_weaker c.write_first.result (λ w. subst (Gains c.args.out.now c.write_first.new.out) (sym shown) w) c.write_first.ensures

pub write_place-returns-in-Child-clause-written : goal.write_place-returns-in-Child-clause-written
write_place-returns-in-Child-clause-written g t c =
    let tree = g.S.TreeStore.tree c.args.view.now.store.now in
    let goes = goes_by c.args.view.now.replica.now.history.now in
    let values = c.values_at-values.ensures c.args.at.now.items c.requires.named in
    let shown = place_by c.args.view.now.names.now goes c.args.at.now.items _ c.args.key.key.now tree _ _ _ (F.Child c.in-Child.branch) c.as_slice.ensures.value values c.in_ok-map.ensures.map c.in_ok-map.ensures.list (sym c.in-Child.is ∙ c.choose_form.ensures) in
    on_ok_weaker c.write_child.result (λ w. subst (Gains c.args.out.now c.write_child.new.out) (sym shown) w) c.write_child.ensures.written

pub write_place-returns-in-Every-clause-written : goal.write_place-returns-in-Every-clause-written
write_place-returns-in-Every-clause-written g t c =
    let tree = g.S.TreeStore.tree c.args.view.now.store.now in
    let goes = goes_by c.args.view.now.replica.now.history.now in
    let values = c.values_at-values.ensures c.args.at.now.items c.requires.named in
    let shown = place_by c.args.view.now.names.now goes c.args.at.now.items _ c.args.key.key.now tree _ _ _ F.Every c.as_slice.ensures.value values c.in_ok-map.ensures.map c.in_ok-map.ensures.list (sym c.in-Every.is ∙ c.choose_form.ensures) in
    on_ok_weaker c.write_every.result (λ w. subst (Gains c.args.out.now c.write_every.new.out) (sym (rw values at shown)) w) c.write_every.ensures.written

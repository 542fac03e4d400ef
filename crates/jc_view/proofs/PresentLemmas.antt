-- About Visible and Parts: which keys are present, and which child is under a tagged key.
use Rattle.std.proofs.Common.{◌≡◌, ℕ, List, [], ◌∷◌, ◌++◌, Bool, true, false, cond, ◌&&◌, Option, Some, None, is_some, refl, sym, ◌∙◌, ap, option_map}
use Rattle.std.specs.Ordering.{eq_by_cmp}
use Rattle.json.specs.Json.{Json}
use Rattle.jc_rules.specs.declared.id.Id.{Id}
use Rattle.jc_rules.specs.declared.key.Key.{Key}
use Rattle.jc_rules.specs.declared.key.Tagged.{Tagged}
use Rattle.jc_rules.specs.declared.key.Tagged.TheVariants.{MapT, ListT}
use Rattle.jc_rules.specs.Order.{key_cmp}
use Rattle.jc_rules.specs.Entries.{IsRising, keys_of, find}
use Rattle.jc_rules.specs.Context.{Context, context, Children, no_child, child, listed, node_of, registers, key_of_tagged}
use Rattle.jc_rules.specs.ContextsAt.{node_in, or_empty}
use Rattle.jc_tree.specs.Tree.{has_ids}
use Rattle.jc_meaning.specs.Seen.{ids_of_some}
use Rattle.jc_meaning.proofs.ComparedLemmas.{kept_ids, found_dropped}
use Rattle.jc_meaning.proofs.OrdersLemmas.{keys_eq}
use Rattle.jc_view.specs.Visible.{GoesThrough, some_goes, is_alive, if_alive, or_no_value, one_of, present, map_json, list_json, maps_in, lists_in}
use Rattle.jc_view.specs.Parts.{shows_at, parts_shown_at, child_json, if_so}

some_kept : (s : List Id) → is_some (kept_ids s) ≡ has_ids s
some_kept [] = refl
some_kept (i ∷ is) = refl

pub present_by : (k : Key) (p : List (Key × List Id)) (o : Option (List Id)) → IsRising key_cmp (keys_of p) → o ≡ find key_cmp k p → is_some (find key_cmp k (present p)) ≡ has_ids (ids_of_some o)
present_by k p o h e = ap is_some (found_dropped k p h) ∙ some_kept (ids_of_some (find key_cmp k p)) ∙ ap (λ x. has_ids (ids_of_some x)) (sym e)

-- identifiers are the same in the sets that aren't empty
pub alive_by : (goes : GoesThrough) (at : List Tagged) (t : Tagged) (p : List (Key × List Id)) (o : Option (List Id)) → IsRising key_cmp (keys_of p) → o ≡ find key_cmp (key_of_tagged t) p → some_goes goes at t (ids_of_some o) ≡ is_alive goes at (present p) t
alive_by goes at t p o h e =
    ap (λ x. some_goes goes at t (ids_of_some x)) e ∙ sym (ap (λ x. some_goes goes at t (ids_of_some x)) (found_dropped (key_of_tagged t) p h) ∙ kept (ids_of_some (find key_cmp (key_of_tagged t) p)))
  where
    kept : (s : List Id) → some_goes goes at t (ids_of_some (kept_ids s)) ≡ some_goes goes at t s
    kept [] = refl
    kept (i ∷ is) = refl

-- ---- the parts of a place

module _ (names : List (List ℕ)) (goes : GoesThrough) (at : List Tagged) (k : Key) where
  maps_found : (cs : Children) → find key_cmp k (maps_in names goes at cs) ≡ option_map (map_json names goes (at ++ MapT k ∷ [])) (find key_cmp k (listed cs))
  maps_found no_child = refl
  maps_found (child j c cs) = go (eq_by_cmp key_cmp k j) refl (maps_found cs)
    where
      go : (b : Bool) → eq_by_cmp key_cmp k j ≡ b → find key_cmp k (maps_in names goes at cs) ≡ option_map (map_json names goes (at ++ MapT k ∷ [])) (find key_cmp k (listed cs))
          → cond b (Some (map_json names goes (at ++ MapT j ∷ []) c)) (find key_cmp k (maps_in names goes at cs)) ≡ option_map (map_json names goes (at ++ MapT k ∷ [])) (cond b (Some c) (find key_cmp k (listed cs)))
      go true same e = ap (λ (l : Key). Some (map_json names goes (at ++ MapT l ∷ []) c)) (sym (keys_eq k j same))
      go false same e = e

  lists_found : (cs : Children) → find key_cmp k (lists_in names goes at cs) ≡ option_map (list_json names goes (at ++ ListT k ∷ [])) (find key_cmp k (listed cs))
  lists_found no_child = refl
  lists_found (child j c cs) = go (eq_by_cmp key_cmp k j) refl (lists_found cs)
    where
      go : (b : Bool) → eq_by_cmp key_cmp k j ≡ b → find key_cmp k (lists_in names goes at cs) ≡ option_map (list_json names goes (at ++ ListT k ∷ [])) (find key_cmp k (listed cs))
          → cond b (Some (list_json names goes (at ++ ListT j ∷ []) c)) (find key_cmp k (lists_in names goes at cs)) ≡ option_map (list_json names goes (at ++ ListT k ∷ [])) (cond b (Some c) (find key_cmp k (listed cs)))
      go true same e = ap (λ (l : Key). Some (list_json names goes (at ++ ListT l ∷ []) c)) (sym (keys_eq k j same))
      go false same e = e

  -- a part that is alive, of those that are there
  part_by : (f : Context → Json) (alive : Bool) (o : Option Context) → if_alive alive (option_map f o) ≡ if_so (is_some (node_of o) && alive) (f (or_empty (node_in (node_of o))))
  part_by f true None = refl
  part_by f false None = refl
  part_by f true (Some c) = refl
  part_by f false (Some c) = refl

  -- what is shown of a place, by what the code knows of it
  pub place_is : (c : Context) → parts_shown_at names goes at c k
      ≡ one_of names (or_no_value (find key_cmp k (registers c)))
      (if_so (shows_at goes at (MapT k) c) (child_json names goes at (MapT k) c)) (if_so (shows_at goes at (ListT k) c) (child_json names goes at (ListT k) c))
  place_is (context m l r p n) =
      let alive = is_alive goes at (present p) in
      ap (λ x. one_of names (or_no_value (find key_cmp k r)) (if_alive (alive (MapT k)) x) (if_alive (alive (ListT k)) (find key_cmp k (lists_in names goes at l)))) (maps_found m)
      ∙ ap (λ x. one_of names (or_no_value (find key_cmp k r)) (if_alive (alive (MapT k)) (option_map (map_json names goes (at ++ MapT k ∷ [])) (find key_cmp k (listed m)))) (if_alive (alive (ListT k)) x)) (lists_found l)
      ∙ ap (λ x. one_of names (or_no_value (find key_cmp k r)) x (if_alive (alive (ListT k)) (option_map (list_json names goes (at ++ ListT k ∷ [])) (find key_cmp k (listed l))))) (part_by (map_json names goes (at ++ MapT k ∷ [])) (alive (MapT k)) (find key_cmp k (listed m)))
      ∙ ap (one_of names (or_no_value (find key_cmp k r)) (if_so (shows_at goes at (MapT k) (context m l r p n)) (child_json names goes at (MapT k) (context m l r p n)))) (part_by (list_json names goes (at ++ ListT k ∷ [])) (alive (ListT k)) (find key_cmp k (listed l)))

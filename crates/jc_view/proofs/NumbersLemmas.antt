-- About Laws: what is shown has numbers of JSON alone.
use Rattle.std.proofs.Common.{◌≡◌, ℕ, List, [], ◌∷◌, ◌++◌, Bool, true, false, cond, Option, Some, None, is_some, length, refl, codes}
use Rattle.std.specs.List.{AllByRecursion}
use Rattle.json.specs.Json.{Json, Members}
use Rattle.json.specs.Tree.{HasNumbers, ItemsHaveNumbers, MembersHaveNumbers}
use Rattle.json.specs.Word.{after_number}
use Rattle.jc_rules.specs.declared.id.Id.{Id}
use Rattle.jc_rules.specs.declared.key.Key.{Key}
use Rattle.jc_rules.specs.declared.key.Key.TheVariants as K
use Rattle.jc_rules.specs.declared.key.Tagged.{Tagged}
use Rattle.jc_rules.specs.declared.key.Tagged.TheVariants.{MapT, ListT}
use Rattle.jc_rules.specs.declared.value.Value.{Value}
use Rattle.jc_rules.specs.declared.value.Value.TheVariants as V
use Rattle.jc_rules.specs.Order.{key_cmp}
use Rattle.jc_rules.specs.Entries.{find}
use Rattle.std.specs.Ordering.{eq_by_cmp}
use Rattle.jc_rules.specs.Context.{Context, context, Children, no_child, child, Register}
use Rattle.jc_rules.specs.State.{State}
use Rattle.jc_json.specs.Values.{number_json, value_json, pair_items}
use Rattle.jc_json.specs.declared.writing.Numbers.TheVariants.{Plain}
use Rattle.jc_view.specs.Visible.{GoesThrough, goes_by, if_alive, is_alive, with_part, with_values, parts_json, one_of, or_no_value, present, at_key, members_at, visible_items_at, elements_after, map_json, list_json, maps_in, lists_in, document, visible, view_json}

literal : (o : Option (List ℕ)) (s : List ℕ) → after_number s ≡ o → HasNumbers (number_json o s)
literal (Some []) s e = e
literal (Some (b ∷ bs)) s e = tt
literal None s e = tt

value_numbers : (v : Value) → HasNumbers (value_json v)
value_numbers (V.Number s) = literal (after_number s) s refl
value_numbers _ = tt

pairs_numbers : (names : List (List ℕ)) (r : Register) → ItemsHaveNumbers (pair_items Plain names r)
pairs_numbers names [] = tt
pairs_numbers names (e ∷ r) = ((tt, (value_numbers e.1, tt)), pairs_numbers names r)

-- what may be there has numbers of JSON
abbrev pub MayHave : Option Json → Type 0
MayHave None = Unit {0}
MayHave (Some j) = HasNumbers j

alive_numbers : (alive : Bool) (x : Option Json) → MayHave x → MayHave (if_alive alive x)
alive_numbers true x h = h
alive_numbers false x h = tt

pub part_numbers : (k : List ℕ) (o : Option Json) (ms : Members) → MayHave o → MembersHaveNumbers ms → MembersHaveNumbers (with_part k o ms)
part_numbers k None ms h g = g
part_numbers k (Some j) ms h g = (h, g)

values_numbers : (names : List (List ℕ)) (r : Register) → MembersHaveNumbers (with_values names r)
values_numbers names [] = tt
values_numbers names (e ∷ r) = (pairs_numbers names (e ∷ r), tt)

parts_numbers : (names : List (List ℕ)) (r : Register) (m l : Option Json) → MayHave m → MayHave l → HasNumbers (parts_json names r m l)
parts_numbers names r m l h g =
    part_numbers (codes "list") l (with_part (codes "map") m (with_values names r)) g (part_numbers (codes "map") m (with_values names r) h (values_numbers names r))

one_numbers : (names : List (List ℕ)) (r : Register) (m l : Option Json) → MayHave m → MayHave l → HasNumbers (one_of names r m l)
one_numbers names [] None None h g = (parts_numbers names [] None None h g, tt)
one_numbers names [] (Some m) None h g = h
one_numbers names [] None (Some l) h g = g
one_numbers names [] (Some m) (Some l) h g = (parts_numbers names [] (Some m) (Some l) h g, tt)
one_numbers names (e ∷ []) None None h g = value_numbers e.1
one_numbers names (e ∷ []) (Some m) None h g = (parts_numbers names (e ∷ []) (Some m) None h g, tt)
one_numbers names (e ∷ []) None (Some l) h g = (parts_numbers names (e ∷ []) None (Some l) h g, tt)
one_numbers names (e ∷ []) (Some m) (Some l) h g = (parts_numbers names (e ∷ []) (Some m) (Some l) h g, tt)
one_numbers names (e ∷ d ∷ r) m l h g = (parts_numbers names (e ∷ d ∷ r) m l h g, tt)

abbrev pub PartsHave : List (Key × Json) → Type 0
PartsHave ms = AllByRecursion (λ e. HasNumbers e.1) ms

found_numbers : (k : Key) (ms : List (Key × Json)) → PartsHave ms → MayHave (find key_cmp k ms)
found_numbers k [] h = tt
found_numbers k (e ∷ ms) h = go (eq_by_cmp key_cmp k e.0) (found_numbers k ms h.1)
  where
    go : (b : Bool) → MayHave (find key_cmp k ms) → MayHave (cond b (Some e.1) (find key_cmp k ms))
    go true g = h.0
    go false g = g

pub key_numbers : (names : List (List ℕ)) (alive : Tagged → Bool) (ms ls : List (Key × Json)) (rs : List (Key × Register)) (k : Key) → PartsHave ms → PartsHave ls → HasNumbers (at_key names alive ms ls rs k)
key_numbers names alive ms ls rs k h g =
    one_numbers names (or_no_value (find key_cmp k rs)) (if_alive (alive (MapT k)) (find key_cmp k ms)) (if_alive (alive (ListT k)) (find key_cmp k ls))
    (alive_numbers (alive (MapT k)) (find key_cmp k ms) (found_numbers k ms h))
    (alive_numbers (alive (ListT k)) (find key_cmp k ls) (found_numbers k ls g))

members_numbers : (show : Key → Json) → ((k : Key) → HasNumbers (show k)) → (p : List (Key × List Id)) → MembersHaveNumbers (members_at show p)
members_numbers show h [] = tt
members_numbers show h ((K.Name s, ids) ∷ p) = (h (K.Name s), members_numbers show h p)
members_numbers show h ((K.Doc, ids) ∷ p) = members_numbers show h p
members_numbers show h ((K.Head, ids) ∷ p) = members_numbers show h p
members_numbers show h ((K.Elem i, ids) ∷ p) = members_numbers show h p

items_numbers : (show : Key → Json) → ((k : Key) → HasNumbers (show k)) → (p : List (Key × List Id)) (is : List Id) → ItemsHaveNumbers (visible_items_at show p is)
items_numbers show h p [] = tt
items_numbers show h p (i ∷ is) = go (is_some (find key_cmp (K.Elem i) p)) (items_numbers show h p is)
  where
    go : (b : Bool) → ItemsHaveNumbers (visible_items_at show p is) → ItemsHaveNumbers (cond b (Rattle.json.specs.Json.item (show (K.Elem i)) (visible_items_at show p is)) (visible_items_at show p is))
    go true g = (h (K.Elem i), g)
    go false g = g

mutual
  map_numbers : (names : List (List ℕ)) (goes : GoesThrough) (at : List Tagged) (c : Context) → HasNumbers (map_json names goes at c)
  map_numbers names goes at (context m l r p n) =
      members_numbers (at_key names (is_alive goes at (present p)) (maps_in names goes at m) (lists_in names goes at l) r)
      (λ k. key_numbers names (is_alive goes at (present p)) (maps_in names goes at m) (lists_in names goes at l) r k (maps_numbers names goes at m) (lists_numbers names goes at l)) (present p)

  list_numbers : (names : List (List ℕ)) (goes : GoesThrough) (at : List Tagged) (c : Context) → HasNumbers (list_json names goes at c)
  list_numbers names goes at (context m l r p n) =
      items_numbers (at_key names (is_alive goes at (present p)) (maps_in names goes at m) (lists_in names goes at l) r)
      (λ k. key_numbers names (is_alive goes at (present p)) (maps_in names goes at m) (lists_in names goes at l) r k (maps_numbers names goes at m) (lists_numbers names goes at l)) (present p) (elements_after (length n) K.Head n)

  pub maps_numbers : (names : List (List ℕ)) (goes : GoesThrough) (at : List Tagged) (cs : Children) → PartsHave (maps_in names goes at cs)
  maps_numbers names goes at no_child = tt
  maps_numbers names goes at (child k c cs) = (map_numbers names goes (at ++ MapT k ∷ []) c, maps_numbers names goes at cs)

  pub lists_numbers : (names : List (List ℕ)) (goes : GoesThrough) (at : List Tagged) (cs : Children) → PartsHave (lists_in names goes at cs)
  lists_numbers names goes at no_child = tt
  lists_numbers names goes at (child k c cs) = (list_numbers names goes (at ++ ListT k ∷ []) c, lists_numbers names goes at cs)

document_numbers : (names : List (List ℕ)) (goes : GoesThrough) (c : Context) → MayHave (document names goes c)
document_numbers names goes (context m l r p n) = go (is_some (find key_cmp K.Doc (present p)))
  where
    go : (b : Bool) → MayHave (cond b (Some (at_key names (is_alive goes [] (present p)) (maps_in names goes [] m) (lists_in names goes [] l) r K.Doc)) None)
    go true = key_numbers names (is_alive goes [] (present p)) (maps_in names goes [] m) (lists_in names goes [] l) r K.Doc (maps_numbers names goes [] m) (lists_numbers names goes [] l)
    go false = tt

pub view_numbers : (names : List (List ℕ)) (name : List ℕ) (A : State) → HasNumbers (view_json names name A)
view_numbers names name A = part_numbers (codes "doc") (visible names A) _ (document_numbers names (goes_by A) A.tree) (tt, tt)

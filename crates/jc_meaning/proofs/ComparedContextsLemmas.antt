-- About Compared: two contexts are the same, but for empty presence sets, where they are the same under each key.
-- The proofs of `sameness` use it.
use Rattle.std.proofs.Common.{◌≡◌, ◌⊎◌, inl, inr, ℕ, suc, ◌<◌, ◌≤◌, zero-le, length, get_or, ◌+◌, List, [], ◌∷◌, ◌++◌, Bool, true, false, ◌||◌, cond, Option, Some, None, is_some, IfSome, option_map, ◌↔◌, Contains, Bor, All, refl, sym, ◌∙◌, ap, subst}
use Rattle.std.specs.List.{AllByRecursion, AllWithin}
use Rattle.std.proofs.lemmas.Option.{same_Some}
use Rattle.std.proofs.lemmas.List.Elements.{All-map, All-contains, All-from_all_within, AllWithin-upto, AllWithin-more, at_read}
use Rattle.jc_rules.specs.declared.id.Id.{Id}
use Rattle.jc_rules.specs.declared.key.Key.{Key}
use Rattle.jc_rules.specs.declared.key.Tagged.{Tagged}
use Rattle.jc_rules.specs.declared.key.Tagged.TheVariants.{MapT, ListT, RegT}
use Rattle.jc_rules.specs.Order.{key_cmp, same_key}
use Rattle.jc_rules.specs.Entries.{find, keys_of}
use Rattle.jc_rules.specs.Ids.{has_id}
use Rattle.jc_rules.specs.Context.{Context, context, Children, no_child, child, listed, maps, lists, registers, presences, links, Register, Content, Node, Values, node_of, values_of, content, presence, next, keys, key_of_tagged}
use Rattle.jc_rules.specs.Paths.{HasContext}
use Rattle.jc_rules.specs.ContextsAt.{node_at, node_in, or_empty}
use Rattle.jc_rules.specs.WellFormed.{IsWellFormedContext, drop, drop_all}
use Rattle.jc_rules.specs.Table.{is_done}
use Rattle.jc_rules.proofs.OrderLemmas.{keys_total, exact_keys}
use Rattle.jc_rules.proofs.BoolLemmas.{none_of, neither, or_cases}
use Rattle.jc_rules.proofs.ContextsAtLemmas.{there, node-below}
use Rattle.jc_tree.specs.declared.store.Place.{Place}
use Rattle.jc_tree.specs.Tree.{Tree, HasPlace, here, all_keys, keys_lent, has_ids, or_no_entries}
use Rattle.jc_tree.specs.Nested.{nested}
use Rattle.jc_tree.proofs.PlacesLemmas.{some_place}
use Rattle.jc_tree.proofs.WellFormedLemmas.{kept-node}
use Rattle.jc_clear.proofs.BareLemmas.{nested_below}
use Rattle.jc_meaning.specs.Compared.{Both, SameTree, IsSameKey, stands, HasKeys}
use Rattle.jc_meaning.specs.Seen.{ids_of_some, ids_at, has_tag}
use Rattle.jc_meaning.specs.ClearingEffects.{is_tagged}
use Rattle.jc_meaning.proofs.ClearingEffectsLemmas.{tag_of_key}
use Rattle.jc_meaning.proofs.ComparedLemmas.{dropped, same_presences}
use Rattle.jc_meaning.proofs.ClearingEffectsInductionLemmas.{tagged_done, done_found}
use Rattle.jc_meaning.proofs.DroppedLemmas.{dropped_child, found_child, ids_dropped, next_dropped}
use Rattle.jc_meaning.proofs.OrdersLemmas.{keys_eq}
use Rattle.jc_meaning.proofs.SameKeysLemmas.{Zipped, zipped, same_entries}

-- ---- the keys under which something stands

pub in_all : (P : Key → Type 0) (ks : List Key) (k : Key) → AllByRecursion P ks → is_done ks k ≡ true → P k
in_all P [] k h e = cc
in_all P (j ∷ js) k h e = go (same_key j k) refl e (in_all P js k h.1)
  where
    go : (b : Bool) → same_key j k ≡ b → cond b true (is_done js k) ≡ true → (is_done js k ≡ true → P k) → P k
    go true x y f = subst P (keys_eq j k x) h.0
    go false x y f = f y

both_parts : (P : Key → Type 0) (ks js : List Key) → AllByRecursion P (ks ++ js) → AllByRecursion P ks × AllByRecursion P js
both_parts P [] js h = (tt, h)
both_parts P (k ∷ ks) js h = let r = both_parts P ks js h.1 in ((h.0, r.0), r.1)

in_all_keys : (P : Key → Type 0) (c : Context) (k : Key) → AllByRecursion P (all_keys c) → stands c k ≡ true → P k
in_all_keys P c k h e = first (or_cases (has_ids (or_no_entries (presence k c))) (is_some (next k c) || is_tagged k c) e)
  where
    but_links : AllByRecursion P (keys c ++ keys_of (presences c)) × AllByRecursion P (keys_of (links c))
    but_links = both_parts P (keys c ++ keys_of (presences c)) (keys_of (links c)) h

    tagged : AllByRecursion P (keys c) × AllByRecursion P (keys_of (presences c))
    tagged = both_parts P (keys c) (keys_of (presences c)) but_links.0

    under : {X : Type 0} (es : List (Key × X)) → AllByRecursion P (keys_of es) → is_some (find key_cmp k es) ≡ true → P k
    under es g f = in_all P (keys_of es) k g (done_found es k ∙ f)

    some_ids : (o : Option (List Id)) → has_ids (or_no_entries o) ≡ true → is_some o ≡ true
    some_ids None f = cc
    some_ids (Some s) f = refl

    second : (is_some (next k c) ≡ true) ⊎ (is_tagged k c ≡ true) → P k
    second (inl f) = under (links c) but_links.1 f
    second (inr f) = in_all P (keys c) k tagged.0 (sym (tagged_done k c) ∙ f)

    first : (has_ids (or_no_entries (presence k c)) ≡ true) ⊎ (is_some (next k c) || is_tagged k c ≡ true) → P k
    first (inl f) = under (presences c) tagged.1 (some_ids (presence k c) f)
    first (inr f) = second (or_cases (is_some (next k c)) (is_tagged k c) f)

-- ---- a walk over the keys that a store lends

pub one_more : {X : Type 0} (P : Key → Type 0) (lent : List (Bor Key × X)) (n : ℕ) (l : Bor Key × X) → n < length lent → l ≡ get_or lent n l → P l.0.now → AllWithin (λ l. P l.0.now) lent 0 n → AllWithin (λ l. P l.0.now) lent 0 (n + 1)
one_more P lent n l h e p each = AllWithin-more (λ l. P l.0.now) lent 0 n each (at_read lent (λ l. P l.0.now) n l h e p)

-- what is true of each key of the walk is true of each key of the context under which something stands
pub at_keys : {X : Type 0} (P : Key → Type 0) (lent items : List (Bor Key × X)) (n : ℕ) (c : Context) → lent ≡ items → AllByRecursion (Contains (keys_lent items)) (all_keys c) → length lent ≤ n → AllWithin (λ l. P l.0.now) lent 0 n → (k : Key)
    → stands c k ≡ true → P k
at_keys P lent items n c e all end each k s =
    let every : All (λ l. P l.0.now) lent = All-from_all_within (λ l. P l.0.now) lent (AllWithin-upto (λ l. P l.0.now) lent 0 n (length lent) end each) in
    All-contains P (keys_lent items) k (All-map P (λ l. l.0.now) items (rw (← e) every)) (in_all_keys (Contains (keys_lent items)) c k all s)

-- ---- together

both_nodes : (x y : Option Context) → Both SameTree (node_in (node_of x)) (node_in (node_of y)) → Both SameTree x y
both_nodes None None b = tt
both_nodes (Some c) (Some d) b = b
both_nodes None (Some d) b = b
both_nodes (Some c) None b = b

same_children : (cs ds : Children) → Zipped SameTree (listed cs) (listed ds) → drop_all cs ≡ drop_all ds
same_children no_child no_child z = refl
same_children no_child (child k d ds) z = absurd z
same_children (child j c cs) no_child z = absurd z
same_children (child j c cs) (child k d ds) z = let r = same_children cs ds z.2 in λ i. child (z.0 i) (z.1 i) (r i)

together : (c d : Context) → IsWellFormedContext c → IsWellFormedContext d → ((k : Key) → IsSameKey c d k) → SameTree c d
together (context m l r p n) (context m2 l2 r2 p2 n2) h g same =
    let ms : drop_all m ≡ drop_all m2 = same_children m m2 (zipped keys_total exact_keys SameTree (listed m) (listed m2) h.0 g.0 (λ k. both_nodes (find key_cmp k (listed m)) (find key_cmp k (listed m2)) (same k).maps)) in
    let ls : drop_all l ≡ drop_all l2 = same_children l l2 (zipped keys_total exact_keys SameTree (listed l) (listed l2) h.1 g.1 (λ k. both_nodes (find key_cmp k (listed l)) (find key_cmp k (listed l2)) (same k).lists)) in
    let rs : r ≡ r2 = same_entries keys_total exact_keys r r2 h.2 g.2 (λ k. (same k).entries.registers) in
    let ps : dropped p ≡ dropped p2 = same_presences p p2 h.3 g.3 h.6 g.6 (λ k i. ap (has_id i) (same k).entries.presences) in
    let ns : n ≡ n2 = same_entries keys_total exact_keys n n2 h.4 g.4 (λ k. (same k).entries.links) in
    λ i. context (ms i) (ls i) (rs i) (ps i) (ns i)

-- ---- apart

map_dropped : (k : Key) (c : Context) → node_in (content (MapT k) (drop c)) ≡ dropped_child (node_in (content (MapT k) c))
unfolding dropped_child
map_dropped k (context m l r p n) = ap (λ o. node_in (node_of o)) (found_child k m) ∙ go (find key_cmp k (listed m))
  where
    go : (o : Option Context) → node_in (node_of (dropped_child o)) ≡ dropped_child (node_in (node_of o))
    go None = refl
    go (Some d) = refl

list_dropped : (k : Key) (c : Context) → node_in (content (ListT k) (drop c)) ≡ dropped_child (node_in (content (ListT k) c))
unfolding dropped_child
list_dropped k (context m l r p n) = ap (λ o. node_in (node_of o)) (found_child k l) ∙ go (find key_cmp k (listed l))
  where
    go : (o : Option Context) → node_in (node_of (dropped_child o)) ≡ dropped_child (node_in (node_of o))
    go None = refl
    go (Some d) = refl

both_dropped : (x y : Option Context) → dropped_child x ≡ dropped_child y → Both SameTree x y
unfolding dropped_child
both_dropped None None e = tt
both_dropped (Some c) (Some d) e = same_Some (drop c) (drop d) e
both_dropped None (Some d) e = cc
both_dropped (Some c) None e = cc

registers_dropped : (k : Key) (c : Context) → find key_cmp k (registers (drop c)) ≡ find key_cmp k (registers c)
registers_dropped k (context m l r p n) = refl

pub keys_same : (c d : Context) → IsWellFormedContext c → IsWellFormedContext d → SameTree c d → (k : Key) → IsSameKey c d k
keys_same c d h g e k =
    record {
      maps = both_dropped (node_in (content (MapT k) c)) (node_in (content (MapT k) d)) (sym (map_dropped k c) ∙ ap (λ x. node_in (content (MapT k) x)) e ∙ map_dropped k d);
      lists = both_dropped (node_in (content (ListT k) c)) (node_in (content (ListT k) d)) (sym (list_dropped k c) ∙ ap (λ x. node_in (content (ListT k) x)) e ∙ list_dropped k d);
      entries = record {
        registers = sym (registers_dropped k c) ∙ ap (λ x. find key_cmp k (registers x)) e ∙ registers_dropped k d;
        presences = sym (ids_dropped k c h) ∙ ap (ids_at k) e ∙ ids_dropped k d g;
        links = sym (next_dropped k c) ∙ ap (next k) e ∙ next_dropped k d;
      };
    }

-- ---- where something stands under a key in both, and where nothing does

some_both : (x y : Option Context) → Both SameTree x y → is_some x ≡ is_some y
some_both None None b = refl
some_both (Some c) (Some d) b = refl
some_both None (Some d) b = absurd b
some_both (Some c) None b = absurd b

some_node : (o : Option Context) → is_some (node_in (node_of o)) ≡ is_some (node_of o)
some_node None = refl
some_node (Some c) = refl

tagged_same : (c d : Context) (k : Key) → IsSameKey c d k → is_tagged k c ≡ is_tagged k d
tagged_same c d k s =
    let ms : has_tag (MapT k) c ≡ has_tag (MapT k) d = sym (some_node (find key_cmp k (maps c))) ∙ some_both (node_in (content (MapT k) c)) (node_in (content (MapT k) d)) s.maps ∙ some_node (find key_cmp k (maps d)) in
    let ls : has_tag (ListT k) c ≡ has_tag (ListT k) d = sym (some_node (find key_cmp k (lists c))) ∙ some_both (node_in (content (ListT k) c)) (node_in (content (ListT k) d)) s.lists ∙ some_node (find key_cmp k (lists d)) in
    let rs : has_tag (RegT k) c ≡ has_tag (RegT k) d = ap (λ o. is_some (values_of o)) s.entries.registers in
    rw (ms, ls, rs) refl

stands_same : (c d : Context) (k : Key) → IsSameKey c d k → stands c k ≡ stands d k
stands_same c d k s =
    let ids : has_ids (or_no_entries (presence k c)) ≡ has_ids (or_no_entries (presence k d)) = ap has_ids (as_ids (presence k c) ∙ s.entries.presences ∙ sym (as_ids (presence k d))) in
    let links : is_some (next k c) ≡ is_some (next k d) = ap is_some s.entries.links in
    let tagged : is_tagged k c ≡ is_tagged k d = tagged_same c d k s in
    λ i. ids i || (links i || tagged i)
  where
    as_ids : (o : Option (List Id)) → or_no_entries o ≡ ids_of_some o
    as_ids None = refl
    as_ids (Some s) = refl

-- what is under a key under which nothing stands
record IsBare (c : Context) (k : Key) : Type 0 where
  ids : ids_at k c ≡ []
  link : next k c ≡ None
  tags : is_tagged k c ≡ false

bare : (c : Context) (k : Key) → stands c k ≡ false → IsBare c k
bare c k e =
    let x = neither (has_ids (or_no_entries (presence k c))) (is_some (next k c) || is_tagged k c) e in
    let y = neither (is_some (next k c)) (is_tagged k c) x.1 in
    record { ids = no_ids (presence k c) x.0; link = none_of (next k c) y.0; tags = y.1 }
  where
    no_ids : (o : Option (List Id)) → has_ids (or_no_entries o) ≡ false → ids_of_some o ≡ []
    no_ids None e = refl
    no_ids (Some []) e = refl
    no_ids (Some (i ∷ is)) e = cc

none_same : (c d : Context) (k : Key) → IsBare c k → IsBare d k → IsSameKey c d k
none_same c d k x y =
    record {
      maps = both_none (node_in (content (MapT k) c)) (node_in (content (MapT k) d)) (absent (MapT k) c x.tags) (absent (MapT k) d y.tags);
      lists = both_none (node_in (content (ListT k) c)) (node_in (content (ListT k) d)) (absent (ListT k) c x.tags) (absent (ListT k) d y.tags);
      entries = record {
        registers = no_register (find key_cmp k (registers c)) (tag_of_key (RegT k) c x.tags) ∙ sym (no_register (find key_cmp k (registers d)) (tag_of_key (RegT k) d y.tags));
        presences = x.ids ∙ sym y.ids;
        links = x.link ∙ sym y.link;
      };
    }
  where
    absent : (t : Tagged) (x : Context) → is_tagged (key_of_tagged t) x ≡ false → node_in (content t x) ≡ None
    absent t x g = ap node_in (none_of (content t x) (tag_of_key t x g))

    both_none : (x y : Option Context) → x ≡ None → y ≡ None → Both SameTree x y
    both_none None None g h = tt
    both_none None (Some y) g h = cc
    both_none (Some x) y g h = cc

    no_register : (o : Option Register) → is_some (values_of o) ≡ false → o ≡ None
    no_register None g = refl
    no_register (Some r) g = cc

-- ---- both walks

all_same : (c d : Context) → ((k : Key) → stands c k ≡ true → IsSameKey c d k) → HasKeys c d → (k : Key) → IsSameKey c d k
all_same c d there has k = go (stands c k) refl (stands d k) refl
  where
    go : (x : Bool) → stands c k ≡ x → (y : Bool) → stands d k ≡ y → IsSameKey c d k
    go true e y f = there k e
    go false e true f = let z : true ≡ false = sym (has k f) ∙ e in cc
    go false e false f = none_same c d k (bare c k e) (bare d k f)

-- Where the same stands under each key of the first, the trees are the same exactly where the second has no other key.
pub decided : (c d : Context) → IsWellFormedContext c → IsWellFormedContext d → ((k : Key) → stands c k ≡ true → IsSameKey c d k) → HasKeys c d ↔ SameTree c d
decided c d h g there = (λ has. together c d h g (all_same c d there has), λ e k f. stands_same c d k (keys_same c d h g e k) ∙ f)

-- ---- the context below a tagged key

pub record StandsBelow (at : List Tagged) (t : Tagged) (a : Tree) : Type 0 where
  pub child : Context
  pub found : node_in (content t (here at a)) ≡ Some child
  pub there : HasPlace (at ++ t ∷ []) a
  pub is : here (at ++ t ∷ []) a ≡ child
  pub smaller : nested (here (at ++ t ∷ []) a) < nested (here at a)

pub stands_below : (at : List Tagged) (t : Tagged) (a : Tree) → HasPlace at a → HasContext t → is_some (content t (here at a)) ≡ true → StandsBelow at t a
stands_below at t a place tag some = go t tag (content t (here at a)) refl some
  where
    no_values : {A : Type 0} (o : Option Context) (v : Register) → node_of o ≡ Some (Values v) → A
    no_values None v e = cc
    no_values (Some d) v e = let f : Node d ≡ Values v = same_Some (Node d) (Values v) e in cc

    never : {A : Type 0} (u : Tagged) (v : Register) → HasContext u → content u (here at a) ≡ Some (Values v) → A
    never (MapT k) v h e = no_values (find key_cmp k (maps (here at a))) v e
    never (ListT k) v h e = no_values (find key_cmp k (lists (here at a))) v e
    never (RegT k) v h e = absurd h

    go : (u : Tagged) → HasContext u → (o : Option Content) → content u (here at a) ≡ o → is_some o ≡ true → StandsBelow at u a
    go u h None e f = cc
    go u h (Some (Values v)) e f = never u v h e
    go u h (Some (Node d)) e f =
        let n : node_at (at ++ u ∷ []) a.now ≡ Some d = node-below at u (here at a) d a.now (there at a.now place) e in
        let is : here (at ++ u ∷ []) a ≡ d = ap or_empty n in
        record { child = d; found = ap node_in e; there = some_place (at ++ u ∷ []) a.now d n; is = is; smaller = rw is (nested_below u (here at a) d e) }

-- the context at a place of a kept tree is kept
pub kept_here : (at : List Tagged) (a : Tree) → HasPlace at a → IsWellFormedContext a.now → IsWellFormedContext (here at a)
kept_here at a place k = kept-node at a.now (here at a) k (there at a.now place)

-- ---- the places that a store gives for what is under a tagged key

-- the number of contexts at and below one
abbrev pub counted : Option Context → ℕ
counted None = 0
counted (Some c) = suc (nested c)

counted_below : (t : Tagged) (c : Context) → counted (node_in (content t c)) ≤ nested c
counted_below t c = go (content t c) refl
  where
    go : (o : Option Content) → content t c ≡ o → counted (node_in o) ≤ nested c
    go None e = zero-le
    go (Some (Values v)) e = zero-le
    go (Some (Node d)) e = nested_below t c d e

-- the place, if there is one, names a path, which leads to what is under the tagged key
pub record IsBelow (names : Place → List Tagged → Type 0) (path : Place → List Tagged) (a : Tree) (t : Tagged) (c : Context) (o : Option Place) : Type 0 where
  pub named : IfSome o (λ p. names p (path p))
  pub is : option_map (λ p. here (path p) a) o ≡ node_in (content t c)
  pub fewer : counted (option_map (λ p. here (path p) a) o) ≤ nested c

module _ {names : Place → List Tagged → Type 0} {path : Place → List Tagged} (a : Tree) (one : (p : Place) (at : List Tagged) → names p at → path p ≡ at) (there : (p : Place) (at : List Tagged) → names p at → HasPlace at a)
    (p : Place) (n : names p (path p)) (t : Tagged) (tag : HasContext t) where
  pub is_below : (o : Option Place) → ((at : List Tagged) → names p at → is_some o ≡ is_some (content t (here at a))) → ((at : List Tagged) → names p at → IfSome o (λ q. names q (at ++ t ∷ []))) → IsBelow names path a t (here (path p) a) o
  is_below o some below = record { named = named o (below (path p) n); is = is; fewer = rw is (counted_below t (here (path p) a)) }
    where
      named : (o : Option Place) → IfSome o (λ q. names q (path p ++ t ∷ [])) → IfSome o (λ q. names q (path q))
      named None b = tt
      named (Some q) b = rw (one q (path p ++ t ∷ []) b) b

      found : (o : Option Place) → is_some o ≡ is_some (content t (here (path p) a)) → IfSome o (λ q. names q (path p ++ t ∷ [])) → option_map (λ q. here (path q) a) o ≡ node_in (content t (here (path p) a))
      found None e b = sym (ap node_in (none_of (content t (here (path p) a)) (sym e)))
      found (Some q) e b =
          let x : StandsBelow (path p) t a = stands_below (path p) t a (there p (path p) n) tag (sym e) in
          ap (λ s. Some (here s a)) (one q (path p ++ t ∷ []) b) ∙ ap Some x.is ∙ sym x.found

      is : option_map (λ q. here (path q) a) o ≡ node_in (content t (here (path p) a))
      is = found o (some (path p) n) (below (path p) n)

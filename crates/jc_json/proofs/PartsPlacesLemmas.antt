-- About Parts: the contexts below a place are well formed and smaller, and what the entries of a kind show.
use Rattle.std.proofs.Common.{◌≡◌, ◌≢◌, ℕ, ◌+◌, ◌*◌, ◌<◌, List, [], ◌∷◌, ◌++◌, Bool, true, false, Option, Some, None, is_some, option_map, refl, sym, ◌∙◌, ap, subst, arith}
use Rattle.std.specs.List.{AllByRecursion}
use Rattle.serde_json.specs.Data.{Data, string}
use Rattle.jc_rules.specs.declared.key.Key.{Key}
use Rattle.jc_rules.specs.declared.key.Tagged.{Tagged}
use Rattle.jc_rules.specs.declared.key.Tagged.TheVariants.{MapT, ListT, RegT}
use Rattle.jc_rules.specs.Order.{key_cmp, same_key}
use Rattle.jc_rules.specs.Entries.{find, keys_of, IsRising}
use Rattle.jc_rules.specs.Context.{Context, context, Children, no_child, child, content, node_of, listed, maps, lists, registers, presences, links, keys}
use Rattle.jc_rules.specs.ContextsAt.{node_at, node_in, context_at, or_empty}
use Rattle.jc_rules.specs.WellFormed.{IsWellFormedContext}
use Rattle.jc_rules.proofs.ContextsAtLemmas.{there}
use Rattle.jc_tree.specs.declared.store.Place.{Place}
use Rattle.jc_tree.specs.Tree.{Tree, HasPlace, all_keys}
use Rattle.jc_tree.specs.Nested.{nested, nested_in}
use Rattle.jc_tree.proofs.PlacesLemmas.{no_node}
use Rattle.jc_tree.proofs.TreeLemmas.{node-further}
use Rattle.jc_tree.proofs.WellFormedLemmas.{kept-node, presences_rise}
use Rattle.jc_tree.proofs.WalksEntriesLemmas.{all-left, all-right}
use Rattle.jc_json.specs.declared.tree.Kind.{Kind}
use Rattle.jc_json.specs.declared.tree.Kind.TheVariants as K
use Rattle.jc_json.specs.declared.tree.Part.{Part}
use Rattle.jc_json.specs.declared.tree.Part.TheVariants as P
use Rattle.jc_json.specs.Json.{next_text, ids_data, register_data, context_data}
use Rattle.jc_json.specs.Parts.{with_data, shown_in, by_place, IsPartAt}

-- the context at a place of a kept tree is kept
pub kept_at : (ks : List Tagged) (c : Context) → node_at ks c ≢ None → IsWellFormedContext c → IsWellFormedContext (context_at ks c)
kept_at ks c h k = kept-node ks c (context_at ks c) k (there ks c h)

-- ---- children

child_found : (o : Option Context) → true ≡ is_some (node_of o) → Some (or_empty (node_in (node_of o))) ≡ o
child_found None e = cc
child_found (Some d) e = refl

pub no_child_found : (o : Option Context) → false ≡ is_some (node_of o) → None ≡ o
no_child_found None e = refl
no_child_found (Some d) e = cc

-- the child at a key is smaller
found_smaller : (k : Key) (cs : Children) → node_in (node_of (find key_cmp k (listed cs))) ≢ None → nested (or_empty (node_in (node_of (find key_cmp k (listed cs))))) < nested_in cs
found_smaller k no_child h = absurd (h refl)
found_smaller k (child j c cs) h = go (same_key k j) refl (found_smaller k cs) h
  where
    go : (b : Bool) → same_key k j ≡ b → (node_in (node_of (find key_cmp k (listed cs))) ≢ None → nested (or_empty (node_in (node_of (find key_cmp k (listed cs))))) < nested_in cs)
        → node_in (node_of (find key_cmp k (listed (child j c cs)))) ≢ None → nested (or_empty (node_in (node_of (find key_cmp k (listed (child j c cs)))))) < nested_in (child j c cs)
    go true f ih g = rw f (omega arith)
    go false f ih g = let r = ih (rw f at g) in rw f (omega (arith, r))

-- and so is what a tagged key leads to
smaller_below : (t : Tagged) (c : Context) → node_in (content t c) ≢ None → nested (or_empty (node_in (content t c))) < nested c
smaller_below (MapT k) (context m l r p n) h = let small = found_smaller k m h in omega (arith, small)
smaller_below (ListT k) (context m l r p n) h = let small = found_smaller k l h in omega (arith, small)
smaller_below (RegT k) c h = absurd (h (no_node k c))

module _ (at : List Tagged) (c : Context) (h : node_at at c ≢ None) where
  -- one key further down
  below : (t : Tagged) → node_at (at ++ t ∷ []) c ≡ node_in (content t (context_at at c))
  below t = node-further at t (context_at at c) c (there at c h)

  nested_below : (t : Tagged) → node_at (at ++ t ∷ []) c ≢ None → nested (context_at (at ++ t ∷ []) c) < nested (context_at at c)
  nested_below t g =
      subst (λ o. nested (or_empty o) < nested (context_at at c)) (sym (below t)) (smaller_below t (context_at at c) (λ e. g (below t ∙ e)))

  -- the context there is the child that is found under the key
  pub child_is : (t : Tagged) (o : Option Context) (ks : List Tagged) → content t (context_at at c) ≡ node_of o → ks ≡ at ++ t ∷ [] → true ≡ is_some (node_of o) → Some (context_at ks c) ≡ o
  child_is t o ks found is e = ap (λ o. Some (or_empty o)) (ap (λ (js : List Tagged). node_at js c) is ∙ below t ∙ ap node_in found) ∙ child_found o e

-- ---- the entries of one kind

module _ {X : Type 0} (f : X → Data) where
  keys-data : (es : List (Key × X)) → keys_of (with_data f es) ≡ keys_of es
  keys-data [] = refl
  keys-data (e ∷ es) = ap (λ ks. e.0 ∷ ks) (keys-data es)

  rise-data : (es : List (Key × X)) → IsRising key_cmp (keys_of es) → IsRising key_cmp (keys_of (with_data f es))
  rise-data es h = subst (IsRising key_cmp) (sym (keys-data es)) h

  among-data : (P : Key → Type 0) (es : List (Key × X)) → AllByRecursion P (keys_of es) → AllByRecursion P (keys_of (with_data f es))
  among-data P es h = subst (AllByRecursion P) (sym (keys-data es)) h

  found-data : (k : Key) (es : List (Key × X)) → find key_cmp k (with_data f es) ≡ option_map f (find key_cmp k es)
  found-data k [] = refl
  found-data k (e ∷ es) = go (same_key k e.0) refl (found-data k es)
    where
      go : (b : Bool) → same_key k e.0 ≡ b → find key_cmp k (with_data f es) ≡ option_map f (find key_cmp k es) → find key_cmp k (with_data f (e ∷ es)) ≡ option_map f (find key_cmp k (e ∷ es))
      go true q ih = rw q refl
      go false q ih = rw q ih

  -- a value that is there shows itself, and no value shows none
  pub value_shown : (k : Key) (es : List (Key × X)) (o : Option X) → o ≡ find key_cmp k es → option_map f o ≡ find key_cmp k (with_data f es)
  value_shown k es o e = ap (option_map f) e ∙ sym (found-data k es)

pub shown_rises : (names : List (List ℕ)) (kind : Kind) (c : Context) → IsWellFormedContext c → IsRising key_cmp (keys_of (shown_in names kind c))
shown_rises names K.List (context m l r p n) h = rise-data (context_data names) (listed l) h.1
shown_rises names K.Map (context m l r p n) h = rise-data (context_data names) (listed m) h.0
shown_rises names K.Next (context m l r p n) h = rise-data (λ n. string (next_text names n)) n h.4
shown_rises names K.Presence c h = rise-data (ids_data names) (presences c) (presences_rise c h)
shown_rises names K.Register (context m l r p n) h = rise-data (register_data names) r h.2

-- what is true of all keys is true of those of one kind
pub shown_among : (P : Key → Type 0) (names : List (List ℕ)) (kind : Kind) (c : Context) → AllByRecursion P (all_keys c) → AllByRecursion P (keys_of (shown_in names kind c))
shown_among P names kind c a = go kind
  where
    under_presences : AllByRecursion P (keys c ++ keys_of (presences c))
    under_presences = all-left P (keys c ++ keys_of (presences c)) (keys_of (links c)) a

    tagged : AllByRecursion P (keys c)
    tagged = all-left P (keys c) (keys_of (presences c)) under_presences

    children : AllByRecursion P (keys_of (maps c) ++ keys_of (lists c))
    children = all-left P (keys_of (maps c) ++ keys_of (lists c)) (keys_of (registers c)) tagged

    go : (kind : Kind) → AllByRecursion P (keys_of (shown_in names kind c))
    go K.List = among-data (context_data names) P (lists c) (all-right P (keys_of (maps c)) (keys_of (lists c)) children)
    go K.Map = among-data (context_data names) P (maps c) (all-left P (keys_of (maps c)) (keys_of (lists c)) children)
    go K.Next = among-data (λ n. string (next_text names n)) P (links c) (all-right P (keys c ++ keys_of (presences c)) (keys_of (links c)) a)
    go K.Presence = among-data (ids_data names) P (presences c) (all-right P (keys c) (keys_of (presences c)) under_presences)
    go K.Register = among-data (register_data names) P (registers c) (all-right P (keys_of (maps c) ++ keys_of (lists c)) (keys_of (registers c)) tagged)

-- ---- parts

-- The measure of sending a part: a child's is above that of sending the context at its place.
abbrev pub part_size : (Place → Context) → Part → ℕ
part_size contexts (P.Child p) = 2 * nested (contexts p) + 2
part_size contexts _ = 0

-- a part of the context at a place is smaller than that context
pub part_smaller : (named : Place → List Tagged → Type 0) (path : Place → List Tagged) (tree : Tree) → ((p : Place) (at : List Tagged) → named p at → path p ≡ at) → ((p : Place) (at : List Tagged) → named p at → HasPlace at tree)
    → (place : Place) (at : List Tagged) (t : Tagged) (part : Part) → named place at → IsPartAt named (at ++ t ∷ []) part → part_size (by_place path tree) part < 2 * nested (by_place path tree place) + 1
part_smaller named path tree one there place at t (P.Child p) h is =
    let small = nested_below at tree.now (there place at h) t (there p (at ++ t ∷ []) is) in
    rw (one p (at ++ t ∷ []) is, one place at h) (omega (arith, small))
part_smaller named path tree one there place at t (P.Register r) h is = omega arith
part_smaller named path tree one there place at t (P.Presence ids) h is = omega arith
part_smaller named path tree one there place at t (P.Link n) h is = omega arith

-- About Parts: sending a list's items, entries under names, and a list's members, one after the other.
use Rattle.std.proofs.Common.{◌≡◌, ℕ, suc, ◌+◌, ◌<◌, ◌≤◌, List, [], ◌∷◌, map, length, drop, get_or, Some, String, Global, Ordering, Less, Equal, Greater, string_bytes, string_cmp, refl, sym, ap, ◌∙◌, subst}
use Rattle.std.specs.Ordering.{match_ordering}
use Rattle.std.specs.BTreeMap.{insert_entry}
use Rattle.std.proofs.lemmas.List.{at_drop_more, drop_all}
use Rattle.serde.specs.Event.{Log, Logs, seq_ends, map_begins, map_ends, field_key}
use Rattle.serde.specs.declared.name.Case.TheVariants.{AsIs}
use Rattle.serde_json.specs.Data.{Data, Items, no_items, item, Members, no_members, member, put}
use Rattle.serde_json.specs.Events.{items_len, members_len, SendsValue, SendsItems, SendsMembers}
use Rattle.serde_json.specs.View.{items_of}
use Rattle.jc_rules.specs.Context.{Context}
use Rattle.jc_tree.specs.declared.store.Place.{Place}
use Rattle.jc_json.specs.declared.tree.Member.{Member}
use Rattle.jc_json.specs.Json.{object_of}
use Rattle.jc_json.specs.Parts.{shown_as, members_data}

-- ---- the items of a list

pub items_len-map : {X : Type 0} (f : X → Data) (xs : List X) → items_len (items_of (map f xs)) ≡ length xs
items_len-map f [] = refl
items_len-map f (x ∷ xs) = ap suc (items_len-map f xs)

-- Whatever ends the items from i on, ends all.
abbrev pub ItemsFrom : {X : Type 0} → (List X → Items) → List X → ℕ → Log → Log → Type 0
ItemsFrom show xs i start now = (end : Log) → SendsItems (show (drop i xs)) now end → SendsItems (show xs) start end

module _ {X : Type 0} (show : List X → Items) (xs : List X) (i : ℕ) (start old : Log) where
  pub next_item : (f : X → Data) (x d : X) (new : Log) → ((y : X) (ys : List X) → show (y ∷ ys) ≡ item (f y) (show ys)) → i < length xs → x ≡ get_or xs i d → SendsValue (f x) old new → ItemsFrom show xs i start old → ItemsFrom show xs (i + 1) start new
  next_item f x d new each h is sent so_far = λ end more.
      so_far end (subst (λ ds. SendsItems ds old end) (sym (at_drop_more show xs i d h ∙ ap (λ y. show (y ∷ drop (i + 1) xs)) (sym is) ∙ each x (drop (i + 1) xs))) (new, sent, more))

  pub items_end : (end : Log) → show [] ≡ no_items → length xs ≤ i → Logs old end seq_ends → ItemsFrom show xs i start old → SendsItems (show xs) start end
  items_end end none h ended so_far = so_far end (subst (λ ds. SendsItems ds old end) (sym (ap show (drop_all i xs h) ∙ none)) ended)

-- ---- entries under names

module _ {X : Type 0} (f : X → Data) where
  shown-order : (o : Ordering) (a b c : List (String Global × X)) → shown_as f (match_ordering o a b c) ≡ match_ordering o (shown_as f a) (shown_as f b) (shown_as f c)
  shown-order Less a b c = refl
  shown-order Equal a b c = refl
  shown-order Greater a b c = refl

  pub shown-insert : (es : List (String Global × X)) (k : String Global) (v : X) → shown_as f (insert_entry string_cmp es k v) ≡ put (string_bytes k) (f v) (shown_as f es)
  shown-insert [] k v = refl
  shown-insert (e ∷ es) k v = shown-order (string_cmp k e.0) _ _ _ ∙ rw (shown-insert es k v)

  pub shown-len : (es : List (String Global × X)) → members_len (shown_as f es) ≡ length es
  shown-len [] = refl
  shown-len (e ∷ es) = ap suc (shown-len es)

  -- Whatever ends the rest of the entries, ends all.
  abbrev pub EntriesFrom : List (String Global × X) → List (String Global × X) → Log → Log → Type 0
  EntriesFrom all rest start now = (end : Log) → SendsMembers (shown_as f rest) now end → SendsMembers (shown_as f all) start end

  pub next_entry : (all rest left : List (String Global × X)) (e : String Global × X) (start old named new : Log) → rest ≡ e ∷ left → Logs old named (field_key (string_bytes e.0) AsIs) → SendsValue (f e.1) named new → EntriesFrom all rest start old → EntriesFrom all left start new
  next_entry all rest left e start old named new is key sent so_far = λ end more.
      so_far end (subst (λ es. SendsMembers (shown_as f es) old end) (sym is) (named, new, key, sent, more))

  pub entries_end : (all rest : List (String Global × X)) (start old end : Log) → rest ≡ [] → Logs old end map_ends → EntriesFrom all rest start old → SendsMembers (shown_as f all) start end
  entries_end all rest start old end none ended so_far = so_far end (subst (λ es. SendsMembers (shown_as f es) old end) (sym none) ended)

-- ---- the members of a list

-- an object with one member
pub one_sent : (k : List ℕ) (d : Data) (old begun named mid end : Log) → Logs old begun (map_begins (Some 1)) → Logs begun named (field_key k AsIs) → SendsValue d named mid → Logs mid end map_ends → SendsValue (object_of ((k, d) ∷ [])) old end
one_sent k d old begun named mid end b n s e = (begun, b, (named, mid, n, s, e))

-- Whatever ends the members from i on, ends all.
abbrev pub MembersFrom : {X : Type 0} → (List X → Members) → List X → ℕ → Log → Log → Type 0
MembersFrom show xs i start now = (end : Log) → SendsMembers (show (drop i xs)) now end → SendsMembers (show xs) start end

module _ {X : Type 0} (show : List X → Members) (xs : List X) (i : ℕ) (start old : Log) where
  pub next_member : (name : X → List ℕ) (f : X → Data) (x d : X) (named new : Log) → ((y : X) (ys : List X) → show (y ∷ ys) ≡ member (name y) (f y) (show ys)) → i < length xs → x ≡ get_or xs i d
      → Logs old named (field_key (name x) AsIs) → SendsValue (f x) named new → MembersFrom show xs i start old → MembersFrom show xs (i + 1) start new
  next_member name f x d named new each h is key sent so_far = λ end more.
      so_far end (subst (λ ms. SendsMembers ms old end) (sym (at_drop_more show xs i d h ∙ ap (λ y. show (y ∷ drop (i + 1) xs)) (sym is) ∙ each x (drop (i + 1) xs))) (named, new, key, sent, more))

  pub members_end : (end : Log) → show [] ≡ no_members → length xs ≤ i → Logs old end map_ends → MembersFrom show xs i start old → SendsMembers (show xs) start end
  members_end end none h ended so_far = so_far end (subst (λ ms. SendsMembers ms old end) (sym (ap show (drop_all i xs h) ∙ none)) ended)

pub members_len-data : (names : List (List ℕ)) (contexts : Place → Context) (ms : List Member) → members_len (members_data names contexts ms) ≡ length ms
members_len-data names contexts [] = refl
members_len-data names contexts (m ∷ ms) = ap suc (members_len-data names contexts ms)

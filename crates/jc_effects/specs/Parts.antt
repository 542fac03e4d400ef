-- What the private functions read, keep and return, on the way to a difference.
use Rattle.std.specs.Prelude.{◌≡◌, ℕ, codes, List, [], ◌∷◌, ◌++◌, true, false, not, ◌&&◌, cond, filter, Option, Some, None, is_some}
use Rattle.std.specs.Borrow.{Bor}
use Rattle.std.specs.List.{AllByRecursion}
use Rattle.std.specs.declared.cmp.Ordering.TheVariants.{Less}
use Rattle.json.specs.Json.{Items, no_items, item, object, string}
use Rattle.json.specs.Token.{Token}
use Rattle.json.specs.Token as T
use Rattle.json.specs.Tree.{json_tokens}
use Rattle.jc_rules.specs.declared.id.Id.{Id}
use Rattle.jc_rules.specs.declared.key.Key.{Key}
use Rattle.jc_rules.specs.declared.key.Key.TheVariants as K
use Rattle.jc_rules.specs.declared.key.Next.{Next}
use Rattle.jc_rules.specs.declared.key.Tagged.{Tagged}
use Rattle.jc_rules.specs.declared.key.Tagged.TheVariants.{MapT, ListT, RegT}
use Rattle.jc_rules.specs.declared.operation.Op.{Op}
use Rattle.jc_rules.specs.Order.{id_cmp, key_cmp}
use Rattle.jc_rules.specs.Entries.{IsRising, find}
use Rattle.jc_rules.specs.Ids.{AreRising, has_id, without}
use Rattle.jc_rules.specs.Context.{Context, Register, next}
use Rattle.jc_rules.specs.ContextsAt.{node_at}
use Rattle.jc_rules.specs.Table.{is_done}
use Rattle.jc_rules.specs.WellFormed.{IsWellFormedRegister}
use Rattle.jc_tree.specs.declared.store.Place.{Place}
use Rattle.jc_tree.specs.Tree.{Tree, or_no_entries, has_ids}
use Rattle.jc_json.specs.Json.{key_text}
use Rattle.jc_meaning.specs.Seen.{seen, ids_at, reg_at, value_seen_at, has_tag}
use Rattle.jc_meaning.specs.Forest.{follow}
use Rattle.jc_meaning.proofs.ChainLemmas.{after, key_in}
use Rattle.jc_meaning.proofs.InsertWalkLemmas.{Distinct, StopsAt}
use Rattle.jc_effects.specs.declared.own.Tags.{Tags}
use Rattle.jc_effects.specs.declared.own.OwnEffects.{OwnEffects}
use Rattle.jc_effects.specs.declared.entries.Entries.{Entries}
use Rattle.jc_effects.specs.declared.own.Candidates.{Candidates}
use Rattle.jc_effects.specs.declared.effects.Effects.{Effects, Nothing, Place'}
use Rattle.jc_effects.specs.declared.below.Contexts.{Contexts}
use Rattle.jc_effects.specs.EffectsJson.{Labelled, as_members, some_ids, some_pairs, some_tags, some_links, if_shown, place_members, place_items}
use Rattle.jc_effects.specs.Difference.{OwnDifference, link_changed, shown_changed, is_quiet, Differences, no_difference, difference, is_no_difference, differing_keys, is_listed, IsSameFrom, AreExact}
use Rattle.jc_effects.specs.Laws.{LosesNone}

-- ---- what the values in memory represent

abbrev pub tags_made : Key → Tags → List Tagged
tags_made k t = cond t.map (MapT k ∷ []) [] ++ cond t.list (ListT k ∷ []) [] ++ cond t.register (RegT k ∷ []) []

abbrev pub own_seen : Key → OwnEffects → OwnDifference
own_seen k o = record {
  gained = o.gained.items;
  lost = o.lost.items;
  made = tags_made k o.made;
  next = o.next;
  shown = o.shown;
  taken = o.taken.items;
  written = o.written.items;
}

abbrev pub differences_of : Effects → Differences
differences_of Nothing = no_difference
differences_of (Place' k o p m q l s r) = difference k (own_seen k o) (differences_of m) (differences_of l) (differences_of r)

-- what is there, if anything is
abbrev pub or_nothing : Option (Bor Effects) → Differences
or_nothing None = no_difference
or_nothing (Some x) = differences_of x.now

-- ---- reading

-- The path leads to the context that the store names so; or it leads to no context.
abbrev pub IsNameOf : (Place → List Tagged → Type 0) → Tree → List Tagged → Option Place → Type 0
IsNameOf names t at (Some p) = names p at
IsNameOf names t at None = node_at at t.now ≡ None

-- These are the entries at the key of what is seen.
pub record AreEntries (k : Key) (c : Context) (e : Entries) : Type 0 where
  pub ids : e.ids.now ≡ ids_at k c
  pub rising : AreRising e.ids.now
  pub pairs : e.pairs.now ≡ or_no_entries (reg_at k c)
  pub formed : IsWellFormedRegister e.pairs.now
  pub map : e.tags.map ≡ has_tag (MapT k) c
  pub list : e.tags.list ≡ has_tag (ListT k) c
  pub register : e.tags.register ≡ has_tag (RegT k) c
  pub next : e.next ≡ next k c

-- the pairs whose identifier has no value in the second register
abbrev pub pairs_without : Register → Register → Register
pairs_without r s = filter (λ e. not (is_some (find id_cmp e.0 s))) r

abbrev pub new_tags : Tags → Tags → Tags
new_tags was now = record {
  map = now.map && not was.map;
  list = now.list && not was.list;
  register = now.register && not was.register;
}

-- what was found among the candidates, and what differs of tags, link and presence
pub record AreFound (was now : Entries) (among : Candidates) (own : OwnEffects) : Type 0 where
  pub gained : own.gained.items ≡ without among.gained.now was.ids.now
  pub lost : own.lost.items ≡ without among.lost.now now.ids.now
  pub made : own.made ≡ new_tags was.tags now.tags
  pub next : own.next ≡ link_changed was.next now.next
  pub shown : own.shown ≡ shown_changed (has_ids was.ids.now) (has_ids now.ids.now)
  pub taken : own.taken.items ≡ pairs_without among.taken.now now.pairs.now
  pub written : own.written.items ≡ pairs_without among.written.now was.pairs.now

-- ---- walking

-- The stores' names for the context at a path, in the one tree and in the other.
pub record AreContexts (names others : Place → List Tagged → Type 0) (before after : Tree) (at : List Tagged) (x : Contexts) : Type 0 where
  pub old : IsNameOf names before at x.old
  pub new : IsNameOf others after at x.new

-- At the key, identifiers and values may have gone, and all else is the same.
pub record OnlyLosesAt (k : Key) (c d : Context) : Type 0 where
  pub maps : has_tag (MapT k) d ≡ has_tag (MapT k) c
  pub lists : has_tag (ListT k) d ≡ has_tag (ListT k) c
  pub registers : has_tag (RegT k) d ≡ has_tag (RegT k) c
  pub ids : (i : Id) → has_id i (ids_at k d) ≡ true → has_id i (ids_at k c) ≡ true
  pub values : (i : Id) → is_some (value_seen_at i k d) ≡ true → value_seen_at i k d ≡ value_seen_at i k c
  pub links : next k d ≡ next k c

-- So it is at each key, however deep; and where a key keeps its identifiers, nothing differs at it or below it.
pub record OnlyLoses (c d : Context) : Type 0 where
  pub losses : (P : List Tagged) (k : Key) → OnlyLosesAt k (seen P c) (seen P d)
  pub kept : (P : List Tagged) (k : Key) → LosesNone k (seen P c) (seen P d) → IsSameFrom k (seen P c) (seen P d)

-- the key is below all of these
abbrev pub AreLater : Key → List Key → Type 0
AreLater k ks = AllByRecursion (λ j. key_cmp k j ≡ Less) ks

-- with a place in front, unless nothing differs there
abbrev pub with_difference : Key → OwnDifference → Differences → Differences → Differences → Differences
with_difference k o m l rest = cond (is_quiet o && (is_no_difference m && is_no_difference l)) rest (difference k o m l rest)

-- Among these keys, these are just the places that differ.
pub record IsDifferenceAmong (ks : List Key) (c d : Context) (x : Differences) : Type 0 where
  pub rise : IsRising key_cmp (differing_keys x)
  pub among : AllByRecursion (λ k. is_done ks k ≡ true) (differing_keys x)
  pub others : (k : Key) → is_done ks k ≡ true → is_listed k x ≡ false → IsSameFrom k c d
  pub exact : AreExact c d x

-- The key behind which an insert puts its element, in the list as it was: from its last key on, past all elements with
-- greater identifiers.
pub record IsKeyBefore (o : Op) (c : Context) (k : Key) : Type 0 where
  pub elements : List Id
  pub distinct : Distinct K.Head elements
  pub out : key_in (K.Elem o.id) elements ≡ false
  pub links : (l : Key) → next l c ≡ follow K.Head elements l
  pub behind : after o.cursor.last o.id K.Head elements ≡ after k o.id K.Head elements
  pub stop : Next
  pub stops : follow K.Head elements k ≡ Some stop
  pub lesser : StopsAt o.id stop

-- ---- writing

-- the tokens of members, without the end of their object
abbrev pub labelled_tokens : List Labelled → List Token
labelled_tokens [] = []
labelled_tokens (e ∷ es) = T.key e.0 ∷ (json_tokens e.1 ++ labelled_tokens es)

-- the tokens of items, without the end of their list
abbrev pub item_tokens : Items → List Token
item_tokens no_items = []
item_tokens (item j js) = json_tokens j ++ item_tokens js

-- the tokens of the first place
abbrev pub first_place_tokens : List (List ℕ) → Differences → List Token
first_place_tokens names no_difference = []
first_place_tokens names (difference k o m l rest) =
    json_tokens (object (as_members (place_members names k o (place_items names m) (place_items names l))))

-- the members of a place before `list`, between `list` and `map`, and behind `map`
abbrev pub front_members : List (List ℕ) → Key → OwnDifference → List Labelled
front_members names k o = some_ids names (codes "gained") o.gained ++ (codes "key", string (key_text names k)) ∷ []

abbrev pub middle_members : List (List ℕ) → OwnDifference → List Labelled
middle_members names o = some_ids names (codes "lost") o.lost ++ some_tags o.made

abbrev pub back_members : List (List ℕ) → OwnDifference → List Labelled
back_members names o =
    some_links names o.next ++ if_shown o.shown ++ some_pairs names (codes "taken") o.taken
    ++ some_pairs names (codes "written") o.written

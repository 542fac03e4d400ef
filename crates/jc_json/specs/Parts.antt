-- The members of a context, kind by kind and by the texts of their keys, by which the code sends it; jc_dump cites
-- `shown_as`.
use Rattle.std.specs.Prelude.{◌≡◌, ⊤, ℕ, ◌+◌, List, [], ◌∷◌, ◌++◌, map, codes, nat_eq, cond, String, length}
use Rattle.std.specs.List.{AllByRecursion, flat_map}
use Rattle.std.specs.Ordering.{nat_cmp, ordering_then}
use Rattle.std.specs.declared.cmp.Ordering.{Ordering}
use Rattle.std.specs.declared.cmp.Ordering.TheVariants.{Less}
use Rattle.std.specs.Borrow.{Bor}
use Rattle.std.specs.Cmp.Lexicographic.{pointwise}
use Rattle.std.specs.declared.alloc.Global.{Global}
use Rattle.serde_json.specs.Data.{Data, string, object, Members, no_members, member}
use Rattle.serde_json.specs.View.{members_of}
use Rattle.jc_rules.specs.declared.key.Key.{Key}
use Rattle.jc_rules.specs.declared.key.Tagged.{Tagged}
use Rattle.jc_rules.specs.declared.key.Tagged.TheVariants.{MapT, ListT, RegT}
use Rattle.jc_rules.specs.Context.{Context, maps, lists, registers, presences, links}
use Rattle.jc_rules.specs.Order.{name_cmp}
use Rattle.jc_tree.specs.declared.store.Hint.{Hint}
use Rattle.jc_tree.specs.declared.store.Place.{Place}
use Rattle.jc_tree.specs.Tree.{Tree, here}
use Rattle.jc_tree.specs.Walks.{entries_at}
use Rattle.jc_json.specs.declared.tree.Kind.{Kind}
use Rattle.jc_json.specs.declared.tree.Kind.TheVariants as K
use Rattle.jc_json.specs.declared.tree.Part.{Part}
use Rattle.jc_json.specs.declared.tree.Part.TheVariants as P
use Rattle.jc_json.specs.declared.tree.Member.{Member}
use Rattle.jc_json.specs.Json.{closed_text, next_text, ids_data, register_data, context_data, put_all}

-- ---- entries under names

-- what entries show, by what each value shows
abbrev pub shown_as : {X : Type 0} → (X → Data) → List (String Global × X) → Members
shown_as f es = members_of (map (λ e. (e.0, f e.1)) es)

-- ---- the kinds

-- what the names of a kind's members begin with
abbrev pub word_of : Kind → List ℕ
word_of K.List = codes "listT("
word_of K.Map = codes "mapT("
word_of K.Next = codes "next("
word_of K.Presence = codes "pres("
word_of K.Register = codes "regT("

-- each value as what it shows
abbrev pub with_data : {X : Type 0} → (X → Data) → List (Key × X) → List (Key × Data)
with_data f es = map (λ e. (e.0, f e.1)) es

-- the entries of one kind, each with what it shows
abbrev pub shown_in : List (List ℕ) → Kind → Context → List (Key × Data)
shown_in names K.List c = with_data (context_data names) (lists c)
shown_in names K.Map c = with_data (context_data names) (maps c)
shown_in names K.Next c = with_data (λ n. string (next_text names n)) (links c)
shown_in names K.Presence c = with_data (ids_data names) (presences c)
shown_in names K.Register c = with_data (register_data names) (registers c)

-- the tagged key of an entry of a kind; links and presence sets have none, and any stands for it
abbrev pub tag_of : Kind → Key → Tagged
tag_of K.List k = ListT k
tag_of K.Map k = MapT k
tag_of _ k = RegT k

-- the member of an entry
abbrev pub member_of : List (List ℕ) → List ℕ → Key × Data → List ℕ × Data
member_of names word e = (word ++ closed_text names e.0, e.1)

-- ---- the keys by their texts

-- The texts of these keys stand one behind the other, and these are their lengths.
pub record AreJoined (names : List (List ℕ)) (ks : List Key) (all : List ℕ) (lens : List ℕ) : Type 0 where
  pub texts : all ≡ flat_map (closed_text names) ks
  pub each : lens ≡ map (λ k. length (closed_text names k)) ks

-- a key that is lent, by its text and its number
abbrev pub LentText : Type 0
LentText = (Bor (List ℕ) × ℕ) × (Bor Key × Hint)

abbrev pub Texts : Type 0
Texts = List LentText

abbrev pub keys_in : Texts → List Key
keys_in ts = map (λ (t : LentText). t.1.0.now) ts

-- each text is that of its key
abbrev pub HasTexts : List (List ℕ) → Texts → Type 0
HasTexts names ts = AllByRecursion (λ (t : LentText). t.0.0.now ≡ closed_text names t.1.0.now) ts

-- the numbers rise by one, from n on
abbrev pub AreNumbered : ℕ → Texts → Type 0
AreNumbered n [] = ⊤
AreNumbered n (t ∷ ts) = (t.0.1 ≡ n) × AreNumbered (n + 1) ts

-- These keys with their texts and numbers, in their own order.
pub record AreTextsFrom (names : List (List ℕ)) (ks : List Key) (ts : Texts) : Type 0 where
  pub texts : HasTexts names ts
  pub numbers : AreNumbered 0 ts
  pub keys : keys_in ts ≡ ks

-- texts by their bytes, those of one text by their numbers
abbrev pub text_cmp : Bor (List ℕ) × ℕ → Bor (List ℕ) × ℕ → Ordering
text_cmp s t = ordering_then (name_cmp s.0.now t.0.now) (nat_cmp s.1 t.1)

-- each is below those after it
abbrev pub AreInOrder : Texts → Type 0
AreInOrder [] = ⊤
AreInOrder (t ∷ ts) = AllByRecursion (λ (u : LentText). text_cmp t.0 u.0 ≡ Less) ts × AreInOrder ts

-- Of each kind, the members of these keys one after the other make the object of all members.
pub record AreTextsOf (names : List (List ℕ)) (c : Context) (ts : Texts) : Type 0 where
  pub texts : HasTexts names ts
  pub members : (kind : Kind) (ms : Members) → put_all (map (member_of names (word_of kind)) (entries_at (keys_in ts) (shown_in names kind c))) ms
      ≡ put_all (map (member_of names (word_of kind)) (shown_in names kind c)) ms

-- ---- parts

-- the context at each place, by the path that the place names
abbrev pub by_place : (Place → List Tagged) → Tree → Place → Context
by_place path t p = here (path p) t

-- what a part of a context shows, by the context at each place
abbrev pub part_data : List (List ℕ) → (Place → Context) → Part → Data
part_data names contexts (P.Child p) = context_data names (contexts p)
part_data names contexts (P.Register r) = register_data names r.now
part_data names contexts (P.Presence ids) = ids_data names ids.now
part_data names contexts (P.Link n) = string (next_text names n)

-- a part that is a child has the store's name for the place with this path
abbrev pub IsPartAt : (Place → List Tagged → Type 0) → List Tagged → Part → Type 0
IsPartAt named at (P.Child p) = named p at
IsPartAt named at (P.Register r) = ⊤
IsPartAt named at (P.Presence ids) = ⊤
IsPartAt named at (P.Link n) = ⊤

-- ---- members

abbrev pub name_of : Member → List ℕ
name_of m = word_of m.kind ++ m.text.now

abbrev pub members_data : List (List ℕ) → (Place → Context) → List Member → Members
members_data names contexts [] = no_members
members_data names contexts (m ∷ ms) = member (name_of m) (part_data names contexts m.part) (members_data names contexts ms)

-- each part stands below the path
abbrev pub ArePartsAt : (Place → List Tagged → Type 0) → List Tagged → List Member → Type 0
ArePartsAt named at ms = AllByRecursion (λ (m : Member). (t : Tagged) × IsPartAt named (at ++ t ∷ []) m.part) ms

-- with this member last, in place of a last one of the same text
abbrev pub with_last : Member → List Member → List Member
with_last m [] = m ∷ []
with_last m (l ∷ []) = cond (pointwise nat_eq l.text.now m.text.now) (m ∷ []) (l ∷ m ∷ [])
with_last m (l ∷ k ∷ ls) = l ∷ with_last m (k ∷ ls)

-- These are the members of one kind of the context c at a path, whose keys have these texts.
pub record AreMembersOfKind (named : Place → List Tagged → Type 0) (contexts : Place → Context) (at : List Tagged) (c : Context) (kind : Kind) (ts : Texts) (ms : List Member)
    : Type 0 where
  pub shown : (names : List (List ℕ)) → HasTexts names ts
      → members_data names contexts ms ≡ put_all (map (member_of names (word_of kind)) (entries_at (keys_in ts) (shown_in names kind c))) no_members
  pub parts : ArePartsAt named at ms

-- These are the members of the context c at a path, in the order of their names.
pub record AreMembersOf (named : Place → List Tagged → Type 0) (contexts : Place → Context) (at : List Tagged) (names : List (List ℕ)) (c : Context) (ms : List Member)
    : Type 0 where
  pub shown : object (members_data names contexts ms) ≡ context_data names c
  pub parts : ArePartsAt named at ms

-- About Parts: the members of each kind, one kind after the other, are the members of the context.
use Rattle.std.proofs.Common.{◌≡◌, ℕ, List, [], ◌∷◌, ◌++◌, map, codes, refl, sym, ap, ◌∙◌, subst, append_assoc}
use Rattle.std.specs.declared.cmp.Ordering.{Ordering}
use Rattle.std.specs.declared.cmp.Ordering.TheVariants.{Less, Greater}
use Rattle.serde_json.specs.Data.{Data, string, object, Members, no_members, member}
use Rattle.jc_rules.specs.declared.key.Key.{Key}
use Rattle.jc_rules.specs.declared.key.Tagged.{Tagged}
use Rattle.jc_rules.specs.declared.key.Tagged.TheVariants.{MapT, ListT}
use Rattle.jc_rules.specs.Order.{name_cmp}
use Rattle.jc_rules.specs.Context.{Context, context, Children, no_child, child, listed}
use Rattle.jc_tree.specs.declared.store.Place.{Place}
use Rattle.jc_json.specs.declared.tree.Kind.{Kind}
use Rattle.jc_json.specs.declared.tree.Kind.TheVariants as K
use Rattle.jc_json.specs.declared.tree.Member.{Member}
use Rattle.jc_json.specs.Json.{key_text, closed_text, entry_text, tagged_text, next_text, ids_data, register_data, register_member, presence_member, next_member, context_data, child_members, put_all}
use Rattle.jc_json.specs.Parts.{Texts, word_of, member_of, with_data, shown_in, part_data, name_of, members_data, ArePartsAt, AreTextsOf, AreMembersOfKind, AreMembersOf}
use Rattle.jc_json.proofs.PartsListsLemmas.{put_all-append, joined, joined-none, joined-assoc, Compares, compares-joined, compares-put, put-above, put-below}

-- ---- members whose names begin with a word

module _ (names : List (List ℕ)) (w : List ℕ) where
  kind_above : (es : List (Key × Data)) (ls ms : Members) → Compares Greater w ls → put_all (map (member_of names w) es) (joined ls ms) ≡ joined ls (put_all (map (member_of names w) es) ms)
  kind_above [] ls ms c = refl
  kind_above (e ∷ es) ls ms c = ap (put_all (map (member_of names w) es)) (put-above w (closed_text names e.0) e.1 ls ms c) ∙ kind_above es ls _ c

  kind_below : (es : List (Key × Data)) (ms ls : Members) → Compares Less w ls → put_all (map (member_of names w) es) (joined ms ls) ≡ joined (put_all (map (member_of names w) es) ms) ls
  kind_below [] ms ls c = refl
  kind_below (e ∷ es) ms ls c = ap (put_all (map (member_of names w) es)) (put-below w (closed_text names e.0) e.1 ms ls c) ∙ kind_below es _ ls c

  -- they compare as the words do
  kind_compares : (o : Ordering) (v : List ℕ) → ((t u : List ℕ) → name_cmp (v ++ t) (w ++ u) ≡ o) → (es : List (Key × Data)) (ms : Members) → Compares o v ms → Compares o v (put_all (map (member_of names w) es) ms)
  kind_compares o v h [] ms c = c
  kind_compares o v h (e ∷ es) ms c = kind_compares o v h es _ (compares-put o v (w ++ closed_text names e.0) e.1 ms (λ t. h t (closed_text names e.0)) c)

-- ---- the members in the words of Json

module _ (names : List (List ℕ)) where
  closed : (kind : List ℕ) (k : Key) → entry_text kind names k ≡ (kind ++ codes "(") ++ closed_text names k
  closed kind k = append_assoc (kind ++ codes "(") (key_text names k) (codes ")")

  entries_are : {X : Type 0} (w : List ℕ) (f : X → Data) (g : Key × X → List ℕ × Data) → ((e : Key × X) → g e ≡ member_of names w (e.0, f e.1)) → (es : List (Key × X)) → map g es ≡ map (member_of names w) (with_data f es)
  entries_are w f g h [] = refl
  entries_are w f g h (e ∷ es) = ap (λ m. m ∷ map g es) (h e) ∙ ap (λ ms. member_of names w (e.0, f e.1) ∷ ms) (entries_are w f g h es)

  children_are : (w : List ℕ) (tag : Key → Tagged) → ((k : Key) → tagged_text names (tag k) ≡ w ++ closed_text names k) → (cs : Children) → child_members names tag cs ≡ map (member_of names w) (with_data (context_data names) (listed cs))
  children_are w tag h no_child = refl
  children_are w tag h (child k c cs) =
      ap (λ t. (t, context_data names c) ∷ child_members names tag cs) (h k)
      ∙ ap (λ ms. (w ++ closed_text names k, context_data names c) ∷ ms) (children_are w tag h cs)

-- ---- the kinds, one after the other

module _ (names : List (List ℕ)) (c : Context) where
  -- the members of one kind
  abbrev of_kind : Kind → List (List ℕ × Data)
  of_kind kind = map (member_of names (word_of kind)) (shown_in names kind c)

  abbrev pub data_of : Kind → Members
  data_of kind = put_all (of_kind kind) no_members

  abbrev lists_maps : Members
  lists_maps = joined (data_of K.List) (data_of K.Map)

  after : (v : Kind) (k : Kind) → ((t u : List ℕ) → name_cmp (word_of v ++ t) (word_of k ++ u) ≡ Greater) → Compares Greater (word_of v) (data_of k)
  after v k h = kind_compares names (word_of k) Greater (word_of v) h (shown_in names k c) no_members tt

  before : (v : Kind) (k : Kind) → ((t u : List ℕ) → name_cmp (word_of v ++ t) (word_of k ++ u) ≡ Less) → Compares Less (word_of v) (data_of k)
  before v k h = kind_compares names (word_of k) Less (word_of v) h (shown_in names k c) no_members tt

  after_first : (v : Kind) → ((t u : List ℕ) → name_cmp (word_of v ++ t) (word_of K.List ++ u) ≡ Greater) → ((t u : List ℕ) → name_cmp (word_of v ++ t) (word_of K.Map ++ u) ≡ Greater) → Compares Greater (word_of v) lists_maps
  after_first v h g = compares-joined Greater (word_of v) (data_of K.List) (data_of K.Map) (after v K.List h) (after v K.Map g)

  -- the kinds in the order of Json
  in_order : put_all (of_kind K.Next) (put_all (of_kind K.Presence) (put_all (of_kind K.Register) (put_all (of_kind K.List) (put_all (of_kind K.Map) no_members))))
      ≡ joined (joined (joined lists_maps (data_of K.Next)) (data_of K.Presence)) (data_of K.Register)
  in_order =
      ap (λ ms. put_all (of_kind K.Next) (put_all (of_kind K.Presence) (put_all (of_kind K.Register) ms)))
      (kind_below names (word_of K.List) (shown_in names K.List c) no_members (data_of K.Map) (before K.List K.Map (λ t u. refl)))
      ∙ ap (λ ms. put_all (of_kind K.Next) (put_all (of_kind K.Presence) ms))
      (ap (put_all (of_kind K.Register)) (sym (joined-none lists_maps))
      ∙ kind_above names (word_of K.Register) (shown_in names K.Register c) lists_maps no_members (after_first K.Register (λ t u. refl) (λ t u. refl)))
      ∙ ap (put_all (of_kind K.Next))
      (kind_above names (word_of K.Presence) (shown_in names K.Presence c) lists_maps (data_of K.Register) (after_first K.Presence (λ t u. refl) (λ t u. refl))
      ∙ ap (joined lists_maps) (kind_below names (word_of K.Presence) (shown_in names K.Presence c) no_members (data_of K.Register) (before K.Presence K.Register (λ t u. refl))))
      ∙ kind_above names (word_of K.Next) (shown_in names K.Next c) lists_maps (joined (data_of K.Presence) (data_of K.Register)) (after_first K.Next (λ t u. refl) (λ t u. refl))
      ∙ ap (joined lists_maps) (kind_below names (word_of K.Next) (shown_in names K.Next c) no_members (joined (data_of K.Presence) (data_of K.Register))
      (compares-joined Less (word_of K.Next) (data_of K.Presence) (data_of K.Register) (before K.Next K.Presence (λ t u. refl)) (before K.Next K.Register (λ t u. refl))))
      ∙ ap (joined lists_maps) (sym (joined-assoc (data_of K.Next) (data_of K.Presence) (data_of K.Register)))
      ∙ sym (joined-assoc lists_maps (joined (data_of K.Next) (data_of K.Presence)) (data_of K.Register))
      ∙ ap (λ ms. joined ms (data_of K.Register)) (sym (joined-assoc lists_maps (data_of K.Next) (data_of K.Presence)))

-- the members of all kinds make the context
kinds_are : (names : List (List ℕ)) (c : Context)
    → object (joined (joined (joined (joined (data_of names c K.List) (data_of names c K.Map)) (data_of names c K.Next)) (data_of names c K.Presence)) (data_of names c K.Register)) ≡ context_data names c
kinds_are names (context m l r p n) =
    let c = context m l r p n in
    let ms = child_members names MapT m in
    let ls = child_members names ListT l in
    let rs = map (register_member names) r in
    let ps = map (presence_member names) p in
    let ns = map (next_member names) n in
    let maps_are : ms ≡ of_kind names c K.Map = children_are names (word_of K.Map) MapT (λ k. closed names (codes "mapT") k) m in
    let lists_are : ls ≡ of_kind names c K.List = children_are names (word_of K.List) ListT (λ k. closed names (codes "listT") k) l in
    let registers_are : rs ≡ of_kind names c K.Register = entries_are names (word_of K.Register) (register_data names) (register_member names) (λ e. ap (λ t. (t, register_data names e.1)) (closed names (codes "regT") e.0)) r in
    let presences_are : ps ≡ of_kind names c K.Presence = entries_are names (word_of K.Presence) (ids_data names) (presence_member names) (λ e. ap (λ t. (t, ids_data names e.1)) (closed names (codes "pres") e.0)) p in
    let links_are : ns ≡ of_kind names c K.Next = entries_are names (word_of K.Next) (λ x. string (next_text names x)) (next_member names) (λ e. ap (λ t. (t, string (next_text names e.1))) (closed names (codes "next") e.0)) n in
    ap object (
    sym (in_order names c)
    ∙ ap (λ es. put_all es (put_all (of_kind names c K.Presence) (put_all (of_kind names c K.Register) (put_all (of_kind names c K.List) (put_all (of_kind names c K.Map) no_members))))) (sym links_are)
    ∙ ap (λ es. put_all ns (put_all es (put_all (of_kind names c K.Register) (put_all (of_kind names c K.List) (put_all (of_kind names c K.Map) no_members))))) (sym presences_are)
    ∙ ap (λ es. put_all ns (put_all ps (put_all es (put_all (of_kind names c K.List) (put_all (of_kind names c K.Map) no_members))))) (sym registers_are)
    ∙ ap (λ es. put_all ns (put_all ps (put_all rs (put_all es (put_all (of_kind names c K.Map) no_members))))) (sym lists_are)
    ∙ ap (λ es. put_all ns (put_all ps (put_all rs (put_all ls (put_all es no_members))))) (sym maps_are)
    ∙ ap (λ x. put_all ns (put_all ps (put_all rs x))) (sym (put_all-append ms ls no_members))
    ∙ ap (λ x. put_all ns (put_all ps x)) (sym (put_all-append (ms ++ ls) rs no_members))
    ∙ ap (λ x. put_all ns x) (sym (put_all-append (ms ++ ls ++ rs) ps no_members))
    ∙ sym (put_all-append (ms ++ ls ++ rs ++ ps) ns no_members)
    )

-- ---- lists of members, one after the other

data-joined : (names : List (List ℕ)) (contexts : Place → Context) (ms ns : List Member) → members_data names contexts (ms ++ ns) ≡ joined (members_data names contexts ms) (members_data names contexts ns)
data-joined names contexts [] ns = refl
data-joined names contexts (m ∷ ms) ns = ap (member (name_of m) (part_data names contexts m.part)) (data-joined names contexts ms ns)

module _ (named : Place → List Tagged → Type 0) (contexts : Place → Context) (at : List Tagged) (c : Context) where
  parts-joined : (ms ns : List Member) → ArePartsAt named at ms → ArePartsAt named at ns → ArePartsAt named at (ms ++ ns)
  parts-joined [] ns a b = b
  parts-joined (m ∷ ms) ns a b = (a.0, parts-joined ms ns a.1 b)

  -- what the members of one kind show
  shows_kind : (names : List (List ℕ)) (kind : Kind) (ts : Texts) (ms : List Member) → AreTextsOf names c ts → AreMembersOfKind named contexts at c kind ts ms → members_data names contexts ms ≡ data_of names c kind
  shows_kind names kind ts ms t h = h.shown names t.texts ∙ t.members kind no_members

  pub all_kinds : (names : List (List ℕ)) (ts : Texts) (ls ms ns ps rs all : List Member) → AreMembersOfKind named contexts at c K.List ts ls → AreMembersOfKind named contexts at c K.Map ts ms → AreMembersOfKind named contexts at c K.Next ts ns
      → AreMembersOfKind named contexts at c K.Presence ts ps → AreMembersOfKind named contexts at c K.Register ts rs → all ≡ ls ++ ms ++ ns ++ ps ++ rs → AreTextsOf names c ts → AreMembersOf named contexts at names c all
  all_kinds names ts ls ms ns ps rs all l m n p r is t = subst (AreMembersOf named contexts at names c) (sym is) (record {
    shown = ap object (
        data-joined names contexts (ls ++ ms ++ ns ++ ps) rs
        ∙ ap (λ x. joined x (members_data names contexts rs)) (data-joined names contexts (ls ++ ms ++ ns) ps)
        ∙ ap (λ x. joined (joined x (members_data names contexts ps)) (members_data names contexts rs)) (data-joined names contexts (ls ++ ms) ns)
        ∙ ap (λ x. joined (joined (joined x (members_data names contexts ns)) (members_data names contexts ps)) (members_data names contexts rs)) (data-joined names contexts ls ms)
        ∙ ap (λ x. joined (joined (joined (joined x (members_data names contexts ms)) (members_data names contexts ns)) (members_data names contexts ps)) (members_data names contexts rs)) (shows_kind names K.List ts ls t l)
        ∙ ap (λ x. joined (joined (joined (joined (data_of names c K.List) x) (members_data names contexts ns)) (members_data names contexts ps)) (members_data names contexts rs)) (shows_kind names K.Map ts ms t m)
        ∙ ap (λ x. joined (joined (joined (joined (data_of names c K.List) (data_of names c K.Map)) x) (members_data names contexts ps)) (members_data names contexts rs)) (shows_kind names K.Next ts ns t n)
        ∙ ap (λ x. joined (joined (joined (joined (data_of names c K.List) (data_of names c K.Map)) (data_of names c K.Next)) x) (members_data names contexts rs)) (shows_kind names K.Presence ts ps t p)
        ∙ ap (λ x. joined (joined (joined (joined (data_of names c K.List) (data_of names c K.Map)) (data_of names c K.Next)) (data_of names c K.Presence)) x) (shows_kind names K.Register ts rs t r)
        ) ∙ kinds_are names c;
    parts = parts-joined (ls ++ ms ++ ns ++ ps) rs (parts-joined (ls ++ ms ++ ns) ps (parts-joined (ls ++ ms) ns (parts-joined ls ms l.parts m.parts) n.parts) p.parts) r.parts;
  })

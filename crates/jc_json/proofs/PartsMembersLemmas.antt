-- About Parts: the members of one kind, one key after the other in the order of their texts.
use Rattle.std.proofs.Common.{◌≡◌, ◌≢◌, ℕ, List, [], ◌∷◌, ◌++◌, map, cond, Bool, true, false, Some, None, nat_cmp, nat_eq, refl, sym, ap, ◌∙◌, subst}
use Rattle.std.specs.List.{AllByRecursion}
use Rattle.std.specs.Ordering.{ordering_then, is_eq}
use Rattle.std.specs.declared.cmp.Ordering.{Ordering}
use Rattle.std.specs.declared.cmp.Ordering.TheVariants.{Less, Equal, Greater}
use Rattle.std.specs.Cmp.{tied_itself, unsigned_ties}
use Rattle.std.specs.Cmp.Lexicographic.{pointwise, lists_ties}
use Rattle.serde_json.specs.Data.{no_members, member, put}
use Rattle.jc_rules.specs.declared.key.Tagged.{Tagged}
use Rattle.jc_rules.specs.Order.{key_cmp, name_cmp}
use Rattle.jc_rules.specs.Entries.{IsRising, find}
use Rattle.jc_rules.specs.Context.{Context}
use Rattle.jc_rules.proofs.OrderLemmas.{names_total, exact_names}
use Rattle.jc_rules.proofs.RisingLemmas.{less_greater, greater_less}
use Rattle.jc_tree.specs.declared.store.Place.{Place}
use Rattle.jc_tree.specs.Walks.{entry_of, entries_at}
use Rattle.jc_json.specs.declared.tree.Kind.{Kind}
use Rattle.jc_json.specs.declared.tree.Member.{Member}
use Rattle.jc_json.specs.Json.{closed_text, put_all}
use Rattle.jc_json.specs.Parts.{LentText, Texts, word_of, member_of, keys_in, shown_in, HasTexts, text_cmp, AreInOrder, part_data, IsPartAt, name_of, members_data, ArePartsAt, with_last, AreMembersOfKind}
use Rattle.jc_json.proofs.PartsListsLemmas.{put_equal, put_greater}
use Rattle.jc_json.proofs.PartsTextsLemmas.{under}

abbrev pub texts_of : List Member → List (List ℕ)
texts_of ms = map (λ (m : Member). m.text.now) ms

-- The members are of the kind, their texts rise, and none is above this text.
pub record AreUpTo (kind : Kind) (text : List ℕ) (ms : List Member) : Type 0 where
  pub kinds : AllByRecursion (λ (m : Member). m.kind ≡ kind) ms
  pub rising : IsRising name_cmp (texts_of ms)
  pub low : AllByRecursion (λ (m : Member). name_cmp text m.text.now ≢ Less) ms

-- ---- one member last

same_text : (m l : Member) (o : Ordering) → name_cmp l.text.now m.text.now ≡ o → pointwise nat_eq l.text.now m.text.now ≡ is_eq o
same_text m l o h = lists_ties nat_cmp unsigned_ties l.text.now m.text.now ∙ ap is_eq h

back : (s t : List ℕ) → name_cmp s t ≡ Equal → name_cmp t s ≡ Equal
back s t h = subst (λ (x : List ℕ). name_cmp x s ≡ Equal) (exact_names s t h) (tied_itself names_total s)

with-same : (m l : Member) → name_cmp m.text.now l.text.now ≡ Equal → with_last m (l ∷ []) ≡ m ∷ []
with-same m l h = ap (λ b. cond b (m ∷ []) (l ∷ m ∷ [])) (same_text m l Equal (back m.text.now l.text.now h))

with-other : (m l : Member) → name_cmp m.text.now l.text.now ≡ Greater → with_last m (l ∷ []) ≡ l ∷ m ∷ []
with-other m l h = ap (λ b. cond b (m ∷ []) (l ∷ m ∷ [])) (same_text m l Less (greater_less names_total m.text.now l.text.now h))

-- the last member gives way to one of the same text
pub gives_way : (m x : Member) (front : List Member) → pointwise nat_eq x.text.now m.text.now ≡ true → with_last m (front ++ x ∷ []) ≡ front ++ m ∷ []
gives_way m x [] h = rw h refl
gives_way m x (l ∷ []) h = ap (λ ns. l ∷ ns) (gives_way m x [] h)
gives_way m x (l ∷ k ∷ ls) h = ap (λ ns. l ∷ ns) (gives_way m x (k ∷ ls) h)

-- and stays before one of another
pub stays : (m x : Member) (front : List Member) → pointwise nat_eq x.text.now m.text.now ≡ false → with_last m (front ++ x ∷ []) ≡ (front ++ x ∷ []) ++ m ∷ []
stays m x [] h = rw h refl
stays m x (l ∷ []) h = ap (λ ns. l ∷ ns) (stays m x [] h)
stays m x (l ∷ k ∷ ls) h = ap (λ ns. l ∷ ns) (stays m x (k ∷ ls) h)

-- what is true of the members and of one more
all_with : (P : Member → Type 0) (m : Member) (ms : List Member) → P m → AllByRecursion P ms → AllByRecursion P (with_last m ms)
all_with P m [] p a = (p, tt)
all_with P m (l ∷ []) p a = go (pointwise nat_eq l.text.now m.text.now)
  where
    go : (b : Bool) → AllByRecursion P (cond b (m ∷ []) (l ∷ m ∷ []))
    go true = (p, tt)
    go false = (a.0, (p, tt))
all_with P m (l ∷ k ∷ ls) p a = (a.0, all_with P m (k ∷ ls) p a.1)

all_texts : (P : List ℕ → Type 0) (ms : List Member) → AllByRecursion (λ (m : Member). P m.text.now) ms → AllByRecursion P (texts_of ms)
all_texts P [] a = tt
all_texts P (m ∷ ms) a = (a.0, all_texts P ms a.1)

of_texts : (P : List ℕ → Type 0) (ms : List Member) → AllByRecursion P (texts_of ms) → AllByRecursion (λ (m : Member). P m.text.now) ms
of_texts P [] a = tt
of_texts P (m ∷ ms) a = (a.0, of_texts P ms a.1)

-- a text above one that isn't above another
over_lower : (r s t : List ℕ) → name_cmp r s ≡ Less → name_cmp t s ≢ Less → name_cmp t r ≡ Greater
over_lower r s t h n = go (name_cmp t s) refl
  where
    go : (o : Ordering) → name_cmp t s ≡ o → name_cmp t r ≡ Greater
    go Less f = absurd (n f)
    go Equal f = less_greater names_total r t (subst (λ (x : List ℕ). name_cmp r x ≡ Less) (sym (exact_names t s f)) h)
    go Greater f = less_greater names_total r t (names_total.trans r s t h (greater_less names_total t s f))

module _ (kind : Kind) (m : Member) where
  -- members of one kind compare as their texts do
  names-compare : (l : Member) (o : Ordering) → m.kind ≡ kind → l.kind ≡ kind → name_cmp m.text.now l.text.now ≡ o → name_cmp (name_of m) (name_of l) ≡ o
  names-compare l o h g f =
      ap (λ k. name_cmp (word_of k ++ m.text.now) (name_of l)) h
      ∙ ap (λ k. name_cmp (word_of kind ++ m.text.now) (word_of k ++ l.text.now)) g
      ∙ under (word_of kind) m.text.now l.text.now
      ∙ f

  same-name : (l : Member) → m.kind ≡ kind → l.kind ≡ kind → name_cmp m.text.now l.text.now ≡ Equal → name_of l ≡ name_of m
  same-name l h g f =
      ap (λ k. word_of k ++ l.text.now) (g ∙ sym h)
      ∙ ap (λ t. word_of m.kind ++ t) (sym (exact_names m.text.now l.text.now f))

  rises-with : (ms : List Member) → AreUpTo kind m.text.now ms → IsRising name_cmp (texts_of (with_last m ms))
  rises-with [] u = (tt, tt)
  rises-with (l ∷ []) u = go (name_cmp m.text.now l.text.now) refl
    where
      go : (o : Ordering) → name_cmp m.text.now l.text.now ≡ o → IsRising name_cmp (texts_of (with_last m (l ∷ [])))
      go Less f = absurd (u.low.0 f)
      go Equal f = subst (λ ns. IsRising name_cmp (texts_of ns)) (sym (with-same m l f)) (tt, tt)
      go Greater f = subst (λ ns. IsRising name_cmp (texts_of ns)) (sym (with-other m l f)) ((greater_less names_total m.text.now l.text.now f, tt), (tt, tt))
  rises-with (l ∷ k ∷ ls) u = (
    all_texts (λ t. name_cmp l.text.now t ≡ Less) (with_last m (k ∷ ls))
        (all_with (λ (n : Member). name_cmp l.text.now n.text.now ≡ Less) m (k ∷ ls) (greater_less names_total m.text.now l.text.now (over_lower l.text.now k.text.now m.text.now u.rising.0.0 u.low.1.0)) (of_texts (λ t. name_cmp l.text.now t ≡ Less) (k ∷ ls) u.rising.0)),
    rises-with (k ∷ ls) (record { kinds = u.kinds.1; rising = u.rising.1; low = u.low.1 }),
  )

  -- it is put among the members that are shown
  shown-with : (names : List (List ℕ)) (contexts : Place → Context) (ms : List Member) → m.kind ≡ kind → AreUpTo kind m.text.now ms → members_data names contexts (with_last m ms) ≡ put (name_of m) (part_data names contexts m.part) (members_data names contexts ms)
  shown-with names contexts [] h u = refl
  shown-with names contexts (l ∷ []) h u = go (name_cmp m.text.now l.text.now) refl
    where
      go : (o : Ordering) → name_cmp m.text.now l.text.now ≡ o → members_data names contexts (with_last m (l ∷ [])) ≡ put (name_of m) (part_data names contexts m.part) (members_data names contexts (l ∷ []))
      go Less f = absurd (u.low.0 f)
      go Equal f =
          ap (members_data names contexts) (with-same m l f)
          ∙ ap (λ (n : List ℕ). member n (part_data names contexts m.part) no_members) (sym (same-name l h u.kinds.0 f))
          ∙ sym (put_equal (name_of m) (name_of l) (part_data names contexts m.part) (part_data names contexts l.part) no_members (names-compare l Equal h u.kinds.0 f))
      go Greater f =
          ap (members_data names contexts) (with-other m l f)
          ∙ sym (put_greater (name_of m) (name_of l) (part_data names contexts m.part) (part_data names contexts l.part) no_members (names-compare l Greater h u.kinds.0 f))
  shown-with names contexts (l ∷ k ∷ ls) h u =
      ap (member (name_of l) (part_data names contexts l.part)) (shown-with names contexts (k ∷ ls) h (record { kinds = u.kinds.1; rising = u.rising.1; low = u.low.1 }))
      ∙ sym (put_greater (name_of m) (name_of l) (part_data names contexts m.part) (part_data names contexts l.part) (members_data names contexts (k ∷ ls))
      (names-compare l Greater h u.kinds.0 (over_lower l.text.now k.text.now m.text.now u.rising.0.0 u.low.1.0)))

  -- and it is the last
  pub up_to-with : (ms : List Member) → m.kind ≡ kind → AreUpTo kind m.text.now ms → AreUpTo kind m.text.now (with_last m ms)
  up_to-with ms h u = record {
    kinds = all_with (λ (n : Member). n.kind ≡ kind) m ms h u.kinds;
    rising = rises-with ms u;
    low = all_with (λ (n : Member). name_cmp m.text.now n.text.now ≢ Less) m ms (λ f. let g : Equal ≡ Less = sym (tied_itself names_total m.text.now) ∙ f in cc) u.low;
  }

-- a text that isn't below another isn't below what that isn't below
higher : (s t : List ℕ) (o : Ordering) (ms : List Member) → ordering_then (name_cmp s t) o ≡ Less → AllByRecursion (λ (m : Member). name_cmp s m.text.now ≢ Less) ms → AllByRecursion (λ (m : Member). name_cmp t m.text.now ≢ Less) ms
higher s t o [] h a = tt
higher s t o (m ∷ ms) h a = (λ f. a.0 (go (name_cmp s t) refl f), higher s t o ms h a.1)
  where
    go : (q : Ordering) → name_cmp s t ≡ q → name_cmp t m.text.now ≡ Less → name_cmp s m.text.now ≡ Less
    go Less e f = names_total.trans s t m.text.now e f
    go Equal e f = subst (λ (x : List ℕ). name_cmp x m.text.now ≡ Less) (sym (exact_names s t e)) f
    go Greater e f = let g : Greater ≡ Less = sym (ap (λ q. ordering_then q o) e) ∙ h in cc

-- ---- the loop over the texts

-- These are the members of the kind whose texts came before those that are left.
pub record AreSoFar (named : Place → List Tagged → Type 0) (contexts : Place → Context) (at : List Tagged) (c : Context) (kind : Kind) (all left : Texts) (ms : List Member) : Type 0 where
  pub shown : (names : List (List ℕ)) → HasTexts names all → HasTexts names left
      × (put_all (map (member_of names (word_of kind)) (entries_at (keys_in left) (shown_in names kind c))) (members_data names contexts ms)
      ≡ put_all (map (member_of names (word_of kind)) (entries_at (keys_in all) (shown_in names kind c))) no_members)
  pub kinds : AllByRecursion (λ (m : Member). m.kind ≡ kind) ms
  pub rising : IsRising name_cmp (texts_of ms)
  pub low : AllByRecursion (λ (t : LentText). AllByRecursion (λ (m : Member). name_cmp t.0.0.now m.text.now ≢ Less) ms) left
  pub order : AreInOrder left
  pub parts : ArePartsAt named at ms

module _ (named : Place → List Tagged → Type 0) (contexts : Place → Context) (at : List Tagged) (c : Context) (kind : Kind) where
  none_low : (ts : Texts) → AllByRecursion (λ (t : LentText). AllByRecursion (λ (m : Member). name_cmp t.0.0.now m.text.now ≢ Less) []) ts
  none_low [] = tt
  none_low (t ∷ ts) = (tt, none_low ts)

  pub so_far_begins : (all left : Texts) → left ≡ all → AreInOrder all → AreSoFar named contexts at c kind all left []
  so_far_begins all left is s = subst (λ ts. AreSoFar named contexts at c kind all ts []) (sym is) (record {
    shown = λ names h. (h, refl);
    kinds = tt;
    rising = tt;
    low = none_low all;
    order = s;
    parts = tt;
  })

  all_higher : (t : LentText) (rest : Texts) (ms : List Member) → AllByRecursion (λ (u : LentText). text_cmp t.0 u.0 ≡ Less) rest → AllByRecursion (λ (m : Member). name_cmp t.0.0.now m.text.now ≢ Less) ms
      → AllByRecursion (λ (u : LentText). AllByRecursion (λ (m : Member). name_cmp u.0.0.now m.text.now ≢ Less) ms) rest
  all_higher t [] ms a l = tt
  all_higher t (u ∷ rest) ms a l = (higher t.0.0.now u.0.0.now (nat_cmp t.0.1 u.0.1) ms a.0 l, all_higher t rest ms a.1 l)

  module _ (t : LentText) (all left rest : Texts) (ms : List Member) (is : left ≡ t ∷ rest) where
    -- the next key has no such member
    pub so_far_skips : ((names : List (List ℕ)) → None ≡ find key_cmp t.1.0.now (shown_in names kind c)) → AreSoFar named contexts at c kind all left ms → AreSoFar named contexts at c kind all rest ms
    so_far_skips none f =
        let g : AreSoFar named contexts at c kind all (t ∷ rest) ms = subst (λ ts. AreSoFar named contexts at c kind all ts ms) is f in
        record {
          shown = λ names h. (
            (g.shown names h).0.1,
            ap (λ o. put_all (map (member_of names (word_of kind)) (entry_of t.1.0.now o ++ entries_at (keys_in rest) (shown_in names kind c))) (members_data names contexts ms)) (none names)
                ∙ (g.shown names h).1,
          );
          kinds = g.kinds;
          rising = g.rising;
          low = g.low.1;
          order = g.order.1;
          parts = g.parts;
        }

    -- it has one
    pub so_far_adds : (m : Member) (j : Tagged) → m.kind ≡ kind → m.text.now ≡ t.0.0.now → ((names : List (List ℕ)) → Some (part_data names contexts m.part) ≡ find key_cmp t.1.0.now (shown_in names kind c)) → IsPartAt named (at ++ j ∷ []) m.part
        → (new : List Member) → new ≡ with_last m ms → AreSoFar named contexts at c kind all left ms → AreSoFar named contexts at c kind all rest new
    so_far_adds m j k e some p new w f =
        let g : AreSoFar named contexts at c kind all (t ∷ rest) ms = subst (λ ts. AreSoFar named contexts at c kind all ts ms) is f in
        let low : AllByRecursion (λ (l : Member). name_cmp m.text.now l.text.now ≢ Less) ms = subst (λ (x : List ℕ). AllByRecursion (λ (l : Member). name_cmp x l.text.now ≢ Less) ms) (sym e) g.low.0 in
        let u : AreUpTo kind m.text.now ms = record { kinds = g.kinds; rising = g.rising; low = low } in
        let v : AreUpTo kind m.text.now (with_last m ms) = up_to-with kind m ms k u in
        subst (AreSoFar named contexts at c kind all rest) (sym w) (record {
          shown = λ names h.
              let text : name_of m ≡ word_of kind ++ closed_text names t.1.0.now = ap (λ q. word_of q ++ m.text.now) k ∙ ap (λ x. word_of kind ++ x) (e ∙ (g.shown names h).0.0) in (
                (g.shown names h).0.1,
                ap (put_all (map (member_of names (word_of kind)) (entries_at (keys_in rest) (shown_in names kind c))))
                    (shown-with kind m names contexts ms k u ∙ ap (λ x. put x (part_data names contexts m.part) (members_data names contexts ms)) text)
                    ∙ ap (λ o. put_all (map (member_of names (word_of kind)) (entry_of t.1.0.now o ++ entries_at (keys_in rest) (shown_in names kind c))) (members_data names contexts ms)) (some names)
                    ∙ (g.shown names h).1,
              );
          kinds = v.kinds;
          rising = v.rising;
          low = all_higher t rest (with_last m ms) g.order.0 (subst (λ (x : List ℕ). AllByRecursion (λ (l : Member). name_cmp x l.text.now ≢ Less) (with_last m ms)) e v.low);
          order = g.order.1;
          parts = all_with (λ (l : Member). (j : Tagged) × IsPartAt named (at ++ j ∷ []) l.part) m ms (j, p) g.parts;
        })

  pub so_far_ends : (all left : Texts) (ms : List Member) → left ≡ [] → AreSoFar named contexts at c kind all left ms → AreMembersOfKind named contexts at c kind all ms
  so_far_ends all left ms is f =
      let g : AreSoFar named contexts at c kind all [] ms = subst (λ ts. AreSoFar named contexts at c kind all ts ms) is f in
      record { shown = λ names h. (g.shown names h).1; parts = g.parts }

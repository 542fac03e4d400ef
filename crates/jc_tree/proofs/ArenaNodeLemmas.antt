-- About Tables: what is seen of a node of the fast store after one of its columns changed, and the next key with a tag.
use Rattle.std.proofs.Common.{◌≡◌, ◌≤◌, ◌<◌, ◌+◌, ◌-◌, ◌||◌, ℕ, zero, suc, List, [], ◌∷◌, ◌++◌, length, take, slice_get, Bool, true, false, cond, Option, Some, None, is_some, refl, sym, ◌∙◌, ap, arith}
use Rattle.std.specs.declared.cmp.Ordering.{Ordering}
use Rattle.std.specs.declared.cmp.Ordering.TheVariants.{Less, Equal, Greater}
use Rattle.std.proofs.lemmas.List.{length-take-le}
use Rattle.jc_rules.specs.declared.id.Id.{Id}
use Rattle.jc_rules.specs.declared.key.Key.{Key}
use Rattle.jc_rules.specs.declared.key.Next.{Next}
use Rattle.jc_rules.specs.Context.{Register}
use Rattle.jc_rules.specs.Order.{key_cmp}
use Rattle.jc_rules.specs.Entries.{keys_of, find}
use Rattle.jc_rules.specs.Table.{lesser}
use Rattle.jc_rules.proofs.OrderLemmas.{keys_total, exact_keys}
use Rattle.jc_rules.proofs.RisingLemmas.{less_greater}
use Rattle.jc_tree.specs.Arena.{Flat}
use Rattle.jc_tree.specs.Tree.{least_after, is_after, count_present}
use Rattle.jc_tree.specs.Undo.{removed}
use Rattle.jc_tree.specs.Numbered.{Numbering, IsNumbered, at_number, shown, column_entries}
use Rattle.jc_tree.specs.Tables.{MayNumber, AreColumnsWithin, IsBare, flat_of}
use Rattle.jc_tree.specs.Blocks.{Members, AreFit}
use Rattle.jc_tree.proofs.FitNodesLemmas.{fit_seen}
use Rattle.jc_tree.proofs.ArenaStepsLemmas.{least_by_kind}
use Rattle.jc_tree.proofs.ColumnLemmas.{there_above_column, further_above_column, none_above_column, popped_column}
use Rattle.jc_tree.proofs.CountedLemmas.{count_cons, one}
use Rattle.jc_tree.proofs.TablesLemmas.{may_same, may_grow}
use Rattle.jc_tree.proofs.WalksLeastLemmas.{least_of}
use Rattle.jc_tree.proofs.WalksLemmas.{IsNext, next_is}

module _ (k : Key) (t u : Numbering) (m l : List (Option ℕ)) (r : List (Option Register)) (p : List (Option (List Id))) (x : List (Option Next)) (w : AreColumnsWithin t m l r p x) (g : MayNumber k t u) where
  more : length t.keys ≤ length u.keys
  more = may_grow k t u g

  -- the columns are within the keys that there are then
  pub within_maps : (n : List (Option ℕ)) → length n ≤ length u.keys → AreColumnsWithin u n l r p x
  within_maps n h = record { maps = h; lists = omega (arith, w.lists, more); registers = omega (arith, w.registers, more); presences = omega (arith, w.presences, more); links = omega (arith, w.links, more) }

  pub within_lists : (n : List (Option ℕ)) → length n ≤ length u.keys → AreColumnsWithin u m n r p x
  within_lists n h = record { maps = omega (arith, w.maps, more); lists = h; registers = omega (arith, w.registers, more); presences = omega (arith, w.presences, more); links = omega (arith, w.links, more) }

  pub within_registers : (n : List (Option Register)) → length n ≤ length u.keys → AreColumnsWithin u m l n p x
  within_registers n h = record { maps = omega (arith, w.maps, more); lists = omega (arith, w.lists, more); registers = h; presences = omega (arith, w.presences, more); links = omega (arith, w.links, more) }

  pub within_presences : (n : List (Option (List Id))) → length n ≤ length u.keys → AreColumnsWithin u m l r n x
  within_presences n h = record { maps = omega (arith, w.maps, more); lists = omega (arith, w.lists, more); registers = omega (arith, w.registers, more); presences = h; links = omega (arith, w.links, more) }

  pub within_links : (n : List (Option Next)) → length n ≤ length u.keys → AreColumnsWithin u m l r p n
  within_links n h = record { maps = omega (arith, w.maps, more); lists = omega (arith, w.lists, more); registers = omega (arith, w.registers, more); presences = omega (arith, w.presences, more); links = h }

  -- the count goes on
  pub count_stays : (c : ℕ) → c ≡ count_present (column_entries p t) → c ≡ count_present (column_entries p u)
  count_stays c e = e ∙ ap count_present (sym (may_same k p t u g w.presences))

  -- what is seen then
  module _ (f : Flat) (v : flat_of t m l r p x ≡ f) where
    pub seen_maps : (n : List (Option ℕ)) (es : List (Key × ℕ)) → column_entries n u ≡ es → flat_of u n l r p x ≡ record { maps = es; lists = f.lists; registers = f.registers; presences = f.presences; links = f.links }
    seen_maps n es e = λ j. record {
      maps = e j;
      lists = (may_same k l t u g w.lists ∙ ap (λ (d : Flat). d.lists) v) j;
      registers = (may_same k r t u g w.registers ∙ ap (λ (d : Flat). d.registers) v) j;
      presences = (may_same k p t u g w.presences ∙ ap (λ (d : Flat). d.presences) v) j;
      links = (may_same k x t u g w.links ∙ ap (λ (d : Flat). d.links) v) j;
    }

    pub seen_lists : (n : List (Option ℕ)) (es : List (Key × ℕ)) → column_entries n u ≡ es → flat_of u m n r p x ≡ record { maps = f.maps; lists = es; registers = f.registers; presences = f.presences; links = f.links }
    seen_lists n es e = λ j. record {
      maps = (may_same k m t u g w.maps ∙ ap (λ (d : Flat). d.maps) v) j;
      lists = e j;
      registers = (may_same k r t u g w.registers ∙ ap (λ (d : Flat). d.registers) v) j;
      presences = (may_same k p t u g w.presences ∙ ap (λ (d : Flat). d.presences) v) j;
      links = (may_same k x t u g w.links ∙ ap (λ (d : Flat). d.links) v) j;
    }

    pub seen_registers : (n : List (Option Register)) (es : List (Key × Register)) → column_entries n u ≡ es → flat_of u m l n p x ≡ record { maps = f.maps; lists = f.lists; registers = es; presences = f.presences; links = f.links }
    seen_registers n es e = λ j. record {
      maps = (may_same k m t u g w.maps ∙ ap (λ (d : Flat). d.maps) v) j;
      lists = (may_same k l t u g w.lists ∙ ap (λ (d : Flat). d.lists) v) j;
      registers = e j;
      presences = (may_same k p t u g w.presences ∙ ap (λ (d : Flat). d.presences) v) j;
      links = (may_same k x t u g w.links ∙ ap (λ (d : Flat). d.links) v) j;
    }

    pub seen_presences : (n : List (Option (List Id))) (es : List (Key × List Id)) → column_entries n u ≡ es → flat_of u m l r n x ≡ record { maps = f.maps; lists = f.lists; registers = f.registers; presences = es; links = f.links }
    seen_presences n es e = λ j. record {
      maps = (may_same k m t u g w.maps ∙ ap (λ (d : Flat). d.maps) v) j;
      lists = (may_same k l t u g w.lists ∙ ap (λ (d : Flat). d.lists) v) j;
      registers = (may_same k r t u g w.registers ∙ ap (λ (d : Flat). d.registers) v) j;
      presences = e j;
      links = (may_same k x t u g w.links ∙ ap (λ (d : Flat). d.links) v) j;
    }

    pub seen_links : (n : List (Option Next)) (es : List (Key × Next)) → column_entries n u ≡ es → flat_of u m l r p n ≡ record { maps = f.maps; lists = f.lists; registers = f.registers; presences = f.presences; links = es }
    seen_links n es e = λ j. record {
      maps = (may_same k m t u g w.maps ∙ ap (λ (d : Flat). d.maps) v) j;
      lists = (may_same k l t u g w.lists ∙ ap (λ (d : Flat). d.lists) v) j;
      registers = (may_same k r t u g w.registers ∙ ap (λ (d : Flat). d.registers) v) j;
      presences = (may_same k p t u g w.presences ∙ ap (λ (d : Flat). d.presences) v) j;
      links = e j;
    }

-- blocks stay fit where a key may have got a number
pub fit_stays : (k : Key) (t u : Numbering) (p : List (Option (List Id))) (x : List (Option Next)) (bs : List Members) → {m l : List (Option ℕ)} {r : List (Option Register)} → AreColumnsWithin t m l r p x → MayNumber k t u → AreFit t.keys (column_entries x t) (column_entries p t) bs → AreFit u.keys (column_entries x u) (column_entries p u) bs
fit_stays k t u p x bs w g fit = fit_seen k t u g _ _ _ _ bs (may_same k x t u g w.links) (may_same k p t u g w.presences) fit

-- no more sets have an identifier than the order has keys
one_at_most : (s : List Id) → one s ≤ 1
one_at_most [] = omega arith
one_at_most (i ∷ is) = omega arith

pub count_within : (p : List (Option (List Id))) (t : Numbering) → count_present (column_entries p t) ≤ length t.order
count_within p t = go t.order
  where
    go : (es : List (Key × ℕ)) → count_present (shown (λ n. at_number p n) es) ≤ length es
    go [] = omega arith
    go (e ∷ es) = by (at_number p e.1) refl (go es)
      where
        by : (o : Option (List Id)) → at_number p e.1 ≡ o → count_present (shown (λ n. at_number p n) es) ≤ length es → count_present (shown (λ n. at_number p n) (e ∷ es)) ≤ length (e ∷ es)
        by None q ih = rw q (omega (arith, ih))
        by (Some s) q ih = rw q (omega (arith, ih, count_cons (e.0, s) (shown (λ n. at_number p n) es), one_at_most s))

-- a key that goes with its number, under which nothing stands, takes nothing along that is seen
pub popped_flat : (key : Key) (t u : Numbering) (m l : List (Option ℕ)) (r : List (Option Register)) (p : List (Option (List Id))) (x : List (Option Next)) (last : ℕ) → IsNumbered t → last ≡ length t.keys - 1 → slice_get t.keys (length t.keys - 1) ≡ Some key → u.order ≡ removed key_cmp key t.order → IsBare last m l r p x → flat_of u (take last m) (take last l) (take last r) (take last p) (take last x) ≡ flat_of t m l r p x
popped_flat key t u m l r p x last i e h o b = rw e (λ j. record {
  maps = popped_column key m t u i h o (rw e at b.maps) j;
  lists = popped_column key l t u i h o (rw e at b.lists) j;
  registers = popped_column key r t u i h o (rw e at b.registers) j;
  presences = popped_column key p t u i h o (rw e at b.presences) j;
  links = popped_column key x t u i h o (rw e at b.links) j;
})

-- that is no lesser key
abbrev not_below : Key → Option Key → Type 0
not_below k o = lesser k o ≡ Some k

same_key : (k j : Key) → Some j ≡ Some k → j ≡ k
same_key k j h = cc

lesser_itself : (k : Key) → lesser k (Some k) ≡ Some k
lesser_itself k = go (key_cmp k k) refl
  where
    go : (c : Ordering) → key_cmp k k ≡ c → lesser k (Some k) ≡ Some k
    go Less q = rw q refl
    go Equal q = rw q refl
    go Greater q = rw q refl

left_least : (k : Key) (o : Option Key) → not_below k o → least_of (Some k) o ≡ Some k
left_least k None h = refl
left_least k (Some j) h = h

right_least : (k : Key) (o : Option Key) → not_below k o → least_of o (Some k) ≡ Some k
right_least k None h = refl
right_least k (Some j) h = go (key_cmp k j) refl h
  where
    go : (c : Ordering) → key_cmp k j ≡ c → lesser k (Some j) ≡ Some k → lesser j (Some k) ≡ Some k
    go Less e f = rw (less_greater keys_total k j e) refl
    go Equal e f = let s : k ≡ j = exact_keys k j e in rw s (lesser_itself j)
    go Greater e f = let s : Some j ≡ Some k = rw e at f in ap (λ i. lesser j (Some i)) (sym (same_key k j s)) ∙ lesser_itself j ∙ s

both_not_below : (k : Key) (a b : Option Key) → not_below k a → not_below k b → not_below k (least_of a b)
both_not_below k None None f g = refl
both_not_below k None (Some j) f g = g
both_not_below k (Some i) None f g = f
both_not_below k (Some i) (Some j) f g = go (key_cmp i j) refl
  where
    go : (c : Ordering) → key_cmp i j ≡ c → not_below k (lesser i (Some j))
    go Less e = rw e f
    go Equal e = rw e f
    go Greater e = rw e g

next_not_below : (k : Key) (ks : List Key) → not_below k (least_after (Some k) ks)
next_not_below k ks = go (least_after (Some k) ks) refl
  where
    by : (j : Key) (c : Ordering) → key_cmp k j ≡ c → is_after (Some k) j ≡ true → not_below k (Some j)
    by j Less e a = rw e refl
    by j Equal e a = let n : false ≡ true = rw e at a in cc
    by j Greater e a = let n : false ≡ true = rw e at a in cc

    go : (o : Option Key) → least_after (Some k) ks ≡ o → not_below k o
    go None e = refl
    go (Some j) e = let n : IsNext (Some k) ks j = next_is (Some k) ks j e in by j (key_cmp k j) refl n.after

kind_not_below : (k : Key) (b : Bool) (a : Option Key) (ks : List Key) → a ≡ cond b (Some k) (least_after (Some k) ks) → not_below k a
kind_not_below k true a ks e = ap (lesser k) e ∙ lesser_itself k
kind_not_below k false a ks e = ap (lesser k) e ∙ next_not_below k ks

module _ (k : Key) (a b c : Option Key) (is js ks : List Key) where
  three : (u v w : Bool) → a ≡ cond u (Some k) (least_after (Some k) is) → b ≡ cond v (Some k) (least_after (Some k) js) → c ≡ cond w (Some k) (least_after (Some k) ks) → (u || v || w) ≡ true → least_of (least_of a b) c ≡ Some k
  three true v w e f g h = ap (λ o. least_of (least_of o b) c) e ∙ ap (λ o. least_of o c) (left_least k b (kind_not_below k v b js f)) ∙ left_least k c (kind_not_below k w c ks g)
  three false true w e f g h = ap (λ o. least_of (least_of a o) c) f ∙ ap (λ o. least_of o c) (right_least k a (kind_not_below k false a is e)) ∙ left_least k c (kind_not_below k w c ks g)
  three false false true e f g h = ap (λ o. least_of (least_of a b) o) g ∙ right_least k (least_of a b) (both_not_below k a b (kind_not_below k false a is e) (kind_not_below k false b js f))
  three false false false e f g h = cc

  none_of : (u v w : Bool) → a ≡ cond u (Some k) (least_after (Some k) is) → b ≡ cond v (Some k) (least_after (Some k) js) → c ≡ cond w (Some k) (least_after (Some k) ks) → (u || v || w) ≡ false → least_of (least_of a b) c ≡ least_of (least_of (least_after (Some k) is) (least_after (Some k) js)) (least_after (Some k) ks)
  none_of true v w e f g h = cc
  none_of false true w e f g h = cc
  none_of false false true e f g h = cc
  none_of false false false e f g h = λ j. least_of (least_of (e j) (f j)) (g j)

module _ (after : Option Key) (t : Numbering) (i : IsNumbered t) where
  kind : {X : Type 0} (k : Key) (n : ℕ) (col : List (Option X)) → least_after after (keys_of t.order) ≡ Some k → find key_cmp k t.order ≡ Some n → least_after after (keys_of (column_entries col t)) ≡ cond (is_some (at_number col n)) (Some k) (least_after (Some k) (keys_of (column_entries col t)))
  kind {X = X} k n col h f = go (at_number col n) refl
    where
      go : (o : Option X) → at_number col n ≡ o → least_after after (keys_of (column_entries col t)) ≡ cond (is_some (at_number col n)) (Some k) (least_after (Some k) (keys_of (column_entries col t)))
      go None e = further_above_column after k n col t i h f e ∙ ap (λ q. cond (is_some q) (Some k) (least_after (Some k) (keys_of (column_entries col t)))) (sym e)
      go (Some x) e = there_above_column after k n x col t i h f e ∙ ap (λ q. cond (is_some q) (Some k) (least_after (Some k) (keys_of (column_entries col t)))) (sym e)

  module _ (m l : List (Option ℕ)) (r : List (Option Register)) where
    kinds : (j : Option Key) → least_after j (keys_of (column_entries m t) ++ keys_of (column_entries l t) ++ keys_of (column_entries r t)) ≡ least_of (least_of (least_after j (keys_of (column_entries m t))) (least_after j (keys_of (column_entries l t)))) (least_after j (keys_of (column_entries r t)))
    kinds j = least_by_kind (column_entries m t) (column_entries l t) (column_entries r t) j

    -- the next key of the order, by whether it has a tag
    pub tag_there : (k : Key) (n : ℕ) → least_after after (keys_of t.order) ≡ Some k → find key_cmp k t.order ≡ Some n → (is_some (at_number m n) || is_some (at_number l n) || is_some (at_number r n)) ≡ true → least_after after (keys_of (column_entries m t) ++ keys_of (column_entries l t) ++ keys_of (column_entries r t)) ≡ Some k
    tag_there k n h f b = kinds after ∙ three k _ _ _ (keys_of (column_entries m t)) (keys_of (column_entries l t)) (keys_of (column_entries r t)) (is_some (at_number m n)) (is_some (at_number l n)) (is_some (at_number r n)) (kind k n m h f) (kind k n l h f) (kind k n r h f) b

    pub no_tag_there : (k : Key) (n : ℕ) → least_after after (keys_of t.order) ≡ Some k → find key_cmp k t.order ≡ Some n → (is_some (at_number m n) || is_some (at_number l n) || is_some (at_number r n)) ≡ false → least_after after (keys_of (column_entries m t) ++ keys_of (column_entries l t) ++ keys_of (column_entries r t)) ≡ least_after (Some k) (keys_of (column_entries m t) ++ keys_of (column_entries l t) ++ keys_of (column_entries r t))
    no_tag_there k n h f b = kinds after ∙ none_of k _ _ _ (keys_of (column_entries m t)) (keys_of (column_entries l t)) (keys_of (column_entries r t)) (is_some (at_number m n)) (is_some (at_number l n)) (is_some (at_number r n)) (kind k n m h f) (kind k n l h f) (kind k n r h f) b ∙ sym (kinds (Some k))

    pub no_tag_above : least_after after (keys_of t.order) ≡ None → least_after after (keys_of (column_entries m t) ++ keys_of (column_entries l t) ++ keys_of (column_entries r t)) ≡ None
    no_tag_above h = kinds after ∙ (λ j. least_of (least_of (none_above_column after m t i h j) (none_above_column after l t i h j)) (none_above_column after r t i h j))

module _ (t u : Numbering) (m l : List (Option ℕ)) (r : List (Option Register)) (p : List (Option (List Id))) (x : List (Option Next)) (last : ℕ) (i : IsNumbered t) (some : last + 1 ≡ length t.keys) (keys : u.keys ≡ take (length t.keys - 1) t.keys) (order : (k : Key) → slice_get t.keys (length t.keys - 1) ≡ Some k → u.order ≡ removed key_cmp k t.order) (b : IsBare last m l r p x) where
  last_is : last ≡ length t.keys - 1
  last_is = omega (arith, some)

  fewer : last ≡ length u.keys
  fewer = sym (ap length keys ∙ length-take-le (length t.keys - 1) t.keys (omega (arith, some)) ∙ sym last_is)

  cut_length : {X : Type 0} (col : List X) → length (take last col) ≤ length u.keys
  cut_length col = go last col (omega (arith, fewer))
    where
      go : {X : Type 0} (n : ℕ) (c : List X) → n ≤ length u.keys → length (take n c) ≤ length u.keys
      go zero c h = omega arith
      go (suc n) [] h = omega arith
      go (suc n) (y ∷ c) h = omega (arith, shorter n c, h)
        where
          shorter : {X : Type 0} (n : ℕ) (c : List X) → length (take n c) ≤ n
          shorter zero c = omega arith
          shorter (suc n) [] = omega arith
          shorter (suc n) (y ∷ c) = omega (arith, shorter n c)

  pub trimmed_within : AreColumnsWithin u (take last m) (take last l) (take last r) (take last p) (take last x)
  trimmed_within = record { maps = cut_length m; lists = cut_length l; registers = cut_length r; presences = cut_length p; links = cut_length x }

  pub trimmed_seen : flat_of u (take last m) (take last l) (take last r) (take last p) (take last x) ≡ flat_of t m l r p x
  trimmed_seen = go (slice_get t.keys (length t.keys - 1)) refl
    where
      go : (o : Option Key) → slice_get t.keys (length t.keys - 1) ≡ o → flat_of u (take last m) (take last l) (take last r) (take last p) (take last x) ≡ flat_of t m l r p x
      go None e = absurd (none_past t.keys (length t.keys - 1) (omega (arith, some)) e)
        where
          none_past : {X : Type 0} (c : List X) (n : ℕ) → n < length c → slice_get c n ≡ None → ⊥
          none_past [] n h e = omega (arith, h)
          none_past (y ∷ c) zero h e = cc
          none_past (y ∷ c) (suc n) h e = none_past c n (omega (arith, h)) e
      go (Some k) e = popped_flat k t u m l r p x last i last_is e (order k e) b

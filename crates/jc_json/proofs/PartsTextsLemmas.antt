-- About Parts: the keys by their texts make the same members as the keys in their own order.
use Rattle.std.proofs.Common.{◌≡◌, ℕ, ◌+◌, ◌<◌, List, [], ◌∷◌, ◌++◌, map, Option, Some, None, Contains, Bor, nat_cmp, refl, sym, ap, ◌∙◌, subst, arith}
use Rattle.std.specs.List.{AllByRecursion}
use Rattle.std.specs.Ordering.{ordering_then, MatchOrdering}
use Rattle.std.specs.declared.cmp.Ordering.{Ordering}
use Rattle.std.specs.declared.cmp.Ordering.TheVariants.{Less, Equal, Greater}
use Rattle.std.specs.Cmp.{tied_itself, nat_cmp_total}
use Rattle.std.specs.BTreeMap.{insert_entry}
use Rattle.std.proofs.lemmas.Cmp.{ranked}
use Rattle.std.proofs.lemmas.List.{map-append}
use Rattle.serde_json.specs.Data.{Data, Members}
use Rattle.jc_rules.specs.declared.key.Key.{Key}
use Rattle.jc_rules.specs.Order.{key_cmp, name_cmp}
use Rattle.jc_rules.specs.Entries.{IsRising, find}
use Rattle.jc_rules.specs.Context.{Context}
use Rattle.jc_rules.specs.WellFormed.{IsWellFormedContext}
use Rattle.jc_rules.proofs.OrderLemmas.{names_total, exact_names}
use Rattle.jc_tree.specs.declared.store.Hint.{Hint}
use Rattle.jc_tree.specs.Tree.{all_keys}
use Rattle.jc_tree.specs.Walks.{entry_of, entries_at}
use Rattle.jc_tree.proofs.WalksEntriesLemmas.{all_entries}
use Rattle.jc_json.specs.Json.{closed_text, put_all}
use Rattle.jc_json.specs.Parts.{LentText, Texts, word_of, member_of, keys_in, shown_in, HasTexts, text_cmp, AreInOrder, AreTextsOf}
use Rattle.jc_json.proofs.PartsPlacesLemmas.{shown_rises, shown_among}
use Rattle.jc_json.proofs.PartsListsLemmas.{put_all-append, put_past}

-- a beginning that names share doesn't decide
pub under : (w s t : List ℕ) → name_cmp (w ++ s) (w ++ t) ≡ name_cmp s t
under [] s t = refl
under (x ∷ w) s t = ap (λ o. ordering_then o (name_cmp (w ++ s) (w ++ t))) (tied_itself nat_cmp_total x) ∙ under w s t

-- a greater number
pub over : (m n : ℕ) → m < n → nat_cmp n m ≡ Greater
over m n h = go (nat_cmp n m) refl (ranked n m (nat_cmp n m) refl)
  where
    go : (o : Ordering) → nat_cmp n m ≡ o → MatchOrdering o (n < m) (n ≡ m) (m < n) → nat_cmp n m ≡ Greater
    go Less e r = absurd (omega (arith, h, r))
    go Equal e r = absurd (omega (arith, h, r))
    go Greater e r = e

-- below a text, and so below what isn't below that
pub less_then : (r s t : List ℕ) (o : Ordering) → name_cmp r s ≡ Less → ordering_then (name_cmp s t) o ≡ Less → name_cmp r t ≡ Less
less_then r s t o h e = go (name_cmp s t) refl
  where
    go : (q : Ordering) → name_cmp s t ≡ q → name_cmp r t ≡ Less
    go Less f = names_total.trans r s t h f
    go Equal f = subst (λ (x : List ℕ). name_cmp r x ≡ Less) (exact_names s t f) h
    go Greater f = let g : Greater ≡ Less = sym (ap (λ q. ordering_then q o) f) ∙ e in cc

-- ---- one more key among the texts

module _ (t : Bor (List ℕ)) (n : ℕ) (v : Bor Key × Hint) (u : LentText) (ts : Texts) where
  pub goes_first : text_cmp (t, n) u.0 ≡ Less → insert_entry text_cmp (u ∷ ts) (t, n) v ≡ ((t, n), v) ∷ u ∷ ts
  goes_first h = rw h refl

  pub goes_on : text_cmp (t, n) u.0 ≡ Greater → insert_entry text_cmp (u ∷ ts) (t, n) v ≡ u ∷ insert_entry text_cmp ts (t, n) v
  goes_on h = rw h refl

-- what is true of all is true with one more, of the greatest number
pub all_inserted : (P : LentText → Type 0) (ts : Texts) (t : Bor (List ℕ)) (n : ℕ) (v : Bor Key × Hint) → AllByRecursion (λ (u : LentText). u.0.1 < n) ts → P ((t, n), v) → AllByRecursion P ts
    → AllByRecursion P (insert_entry text_cmp ts (t, n) v)
all_inserted P [] t n v l p a = (p, tt)
all_inserted P (u ∷ ts) t n v l p a = go (name_cmp t.now u.0.0.now) refl (all_inserted P ts t n v l.1 p a.1)
  where
    further : text_cmp (t, n) u.0 ≡ Greater → AllByRecursion P (insert_entry text_cmp ts (t, n) v) → AllByRecursion P (insert_entry text_cmp (u ∷ ts) (t, n) v)
    further h ih = subst (AllByRecursion P) (sym (goes_on t n v u ts h)) (a.0, ih)

    go : (o : Ordering) → name_cmp t.now u.0.0.now ≡ o → AllByRecursion P (insert_entry text_cmp ts (t, n) v) → AllByRecursion P (insert_entry text_cmp (u ∷ ts) (t, n) v)
    go Less f ih = subst (AllByRecursion P) (sym (goes_first t n v u ts (ap (λ o. ordering_then o (nat_cmp n u.0.1)) f))) (p, a)
    go Equal f ih = further (ap (λ o. ordering_then o (nat_cmp n u.0.1)) f ∙ over u.0.1 n l.0) ih
    go Greater f ih = further (ap (λ o. ordering_then o (nat_cmp n u.0.1)) f) ih

module _ (names : List (List ℕ)) (w : List ℕ) (es : List (Key × Data)) where
  -- the members of these keys, and of one
  abbrev of_keys : List Key → List (List ℕ × Data)
  of_keys ks = map (member_of names w) (entries_at ks es)

  abbrev of_key : Key → List (List ℕ × Data)
  of_key k = map (member_of names w) (entry_of k (find key_cmp k es))

  of_keys-cons : (k : Key) (ks : List Key) (ms : Members) → put_all (of_keys (k ∷ ks)) ms ≡ put_all (of_keys ks) (put_all (of_key k) ms)
  of_keys-cons k ks ms =
      ap (λ fs. put_all fs ms) (map-append (member_of names w) (entry_of k (find key_cmp k es)) (entries_at ks es))
      ∙ put_all-append (of_key k) (of_keys ks) ms

  pub of_keys-end : (ks : List Key) (k : Key) (ms : Members) → put_all (of_keys (ks ++ k ∷ [])) ms ≡ put_all (of_key k) (put_all (of_keys ks) ms)
  of_keys-end [] k ms = of_keys-cons k [] ms
  of_keys-end (j ∷ ks) k ms = of_keys-cons j (ks ++ k ∷ []) ms ∙ of_keys-end ks k (put_all (of_key j) ms) ∙ ap (put_all (of_key k)) (sym (of_keys-cons j ks ms))

  -- a key comes before or after one of a greater text
  key_past : (k j : Key) (ms : Members) → name_cmp (closed_text names k) (closed_text names j) ≡ Less → put_all (of_key j) (put_all (of_key k) ms) ≡ put_all (of_key k) (put_all (of_key j) ms)
  key_past k j ms h = go (find key_cmp k es) (find key_cmp j es)
    where
      go : (a b : Option Data) → put_all (map (member_of names w) (entry_of j b)) (put_all (map (member_of names w) (entry_of k a)) ms)
          ≡ put_all (map (member_of names w) (entry_of k a)) (put_all (map (member_of names w) (entry_of j b)) ms)
      go None b = refl
      go (Some d) None = refl
      go (Some d) (Some e) = put_past (w ++ closed_text names k) (w ++ closed_text names j) d e ms (under w (closed_text names k) (closed_text names j) ∙ h)

  keys_past : (k : Key) (ks : List Key) (ms : Members) → AllByRecursion (λ j. name_cmp (closed_text names k) (closed_text names j) ≡ Less) ks
      → put_all (of_keys ks) (put_all (of_key k) ms) ≡ put_all (of_key k) (put_all (of_keys ks) ms)
  keys_past k [] ms h = refl
  keys_past k (j ∷ ks) ms h =
      of_keys-cons j ks (put_all (of_key k) ms)
      ∙ ap (put_all (of_keys ks)) (key_past k j ms h.0)
      ∙ keys_past k ks (put_all (of_key j) ms) h.1
      ∙ ap (put_all (of_key k)) (sym (of_keys-cons j ks ms))

  -- what comes after a greater text is greater
  all_over : (k : Key) (u : Bor (List ℕ) × ℕ) (ts : Texts) → name_cmp (closed_text names k) u.0.now ≡ Less → AllByRecursion (λ (t : LentText). text_cmp u t.0 ≡ Less) ts → HasTexts names ts
      → AllByRecursion (λ j. name_cmp (closed_text names k) (closed_text names j) ≡ Less) (keys_in ts)
  all_over k u [] h a s = tt
  all_over k u (t ∷ ts) h a s = (
    subst (λ (x : List ℕ). name_cmp (closed_text names k) x ≡ Less) s.0 (less_then (closed_text names k) u.0.now t.0.0.now (nat_cmp u.1 t.0.1) h a.0),
    all_over k u ts h a.1 s.1,
  )

  -- a key that is put among the texts is put last, as far as the members show
  inserted : (ts : Texts) (t : Bor (List ℕ)) (n : ℕ) (v : Bor Key × Hint) (ms : Members) → AreInOrder ts → AllByRecursion (λ (u : LentText). u.0.1 < n) ts → HasTexts names ts → t.now ≡ closed_text names v.0.now
      → put_all (of_keys (keys_in (insert_entry text_cmp ts (t, n) v))) ms ≡ put_all (of_key v.0.now) (put_all (of_keys (keys_in ts)) ms)
  inserted [] t n v ms s l h e = of_keys-cons v.0.now [] ms
  inserted (u ∷ ts) t n v ms s l h e = go (name_cmp t.now u.0.0.now) refl (inserted ts t n v (put_all (of_key u.1.0.now) ms) s.1 l.1 h.1 e)
    where
      further : text_cmp (t, n) u.0 ≡ Greater → put_all (of_keys (keys_in (insert_entry text_cmp ts (t, n) v))) (put_all (of_key u.1.0.now) ms) ≡ put_all (of_key v.0.now) (put_all (of_keys (keys_in ts)) (put_all (of_key u.1.0.now) ms)) → put_all (of_keys (keys_in (insert_entry text_cmp (u ∷ ts) (t, n) v))) ms ≡ put_all (of_key v.0.now) (put_all (of_keys (keys_in (u ∷ ts))) ms)
      further g ih =
          ap (λ us. put_all (of_keys (keys_in us)) ms) (goes_on t n v u ts g)
          ∙ of_keys-cons u.1.0.now (keys_in (insert_entry text_cmp ts (t, n) v)) ms
          ∙ ih
          ∙ ap (put_all (of_key v.0.now)) (sym (of_keys-cons u.1.0.now (keys_in ts) ms))

      go : (o : Ordering) → name_cmp t.now u.0.0.now ≡ o → put_all (of_keys (keys_in (insert_entry text_cmp ts (t, n) v))) (put_all (of_key u.1.0.now) ms) ≡ put_all (of_key v.0.now) (put_all (of_keys (keys_in ts)) (put_all (of_key u.1.0.now) ms)) → put_all (of_keys (keys_in (insert_entry text_cmp (u ∷ ts) (t, n) v))) ms ≡ put_all (of_key v.0.now) (put_all (of_keys (keys_in (u ∷ ts))) ms)
      go Less f ih =
          let low : name_cmp (closed_text names v.0.now) u.0.0.now ≡ Less = subst (λ (x : List ℕ). name_cmp x u.0.0.now ≡ Less) e f in
          let first : name_cmp (closed_text names v.0.now) (closed_text names u.1.0.now) ≡ Less = subst (λ (x : List ℕ). name_cmp (closed_text names v.0.now) x ≡ Less) h.0 low in
          ap (λ us. put_all (of_keys (keys_in us)) ms) (goes_first t n v u ts (ap (λ o. ordering_then o (nat_cmp n u.0.1)) f))
          ∙ of_keys-cons v.0.now (keys_in (u ∷ ts)) ms
          ∙ keys_past v.0.now (keys_in (u ∷ ts)) ms (first, all_over v.0.now u.0 ts low s.0 h.1)
      go Equal f ih = further (ap (λ o. ordering_then o (nat_cmp n u.0.1)) f ∙ over u.0.1 n l.0) ih
      go Greater f ih = further (ap (λ o. ordering_then o (nat_cmp n u.0.1)) f) ih

-- ---- one key after the other

all_weaker : (ts : Texts) (n : ℕ) → AllByRecursion (λ (t : LentText). t.0.1 < n) ts → AllByRecursion (λ (t : LentText). t.0.1 < n + 1) ts
all_weaker [] n a = tt
all_weaker (t ∷ ts) n a = (omega (arith, a.0), all_weaker ts n a.1)

-- These are the texts of the first n keys.
pub record AreTextsSoFar (names : List (List ℕ)) (ks : List Key) (n : ℕ) (ts : Texts) : Type 0 where
  pub texts : HasTexts names ts
  pub numbers : AllByRecursion (λ (t : LentText). t.0.1 < n) ts
  pub members : (w : List ℕ) (es : List (Key × Data)) (ms : Members) → put_all (map (member_of names w) (entries_at (keys_in ts) es)) ms ≡ put_all (map (member_of names w) (entries_at ks es)) ms

module _ (names : List (List ℕ)) where
  pub texts_begin : AreTextsSoFar names [] 0 []
  texts_begin = record { texts = tt; numbers = tt; members = λ w es ms. refl }

  pub texts_go_on : (ks : List Key) (n : ℕ) (ts new : Texts) (t : Bor (List ℕ)) (v : Bor Key × Hint) → AreInOrder ts → t.now ≡ closed_text names v.0.now → new ≡ insert_entry text_cmp ts (t, n) v
      → AreTextsSoFar names ks n ts → AreTextsSoFar names (ks ++ v.0.now ∷ []) (n + 1) new
  texts_go_on ks n ts new t v s e is f = subst (AreTextsSoFar names (ks ++ v.0.now ∷ []) (n + 1)) (sym is) (record {
    texts = all_inserted (λ (u : LentText). u.0.0.now ≡ closed_text names u.1.0.now) ts t n v f.numbers e f.texts;
    numbers = all_inserted (λ (u : LentText). u.0.1 < n + 1) ts t n v f.numbers (omega arith) (all_weaker ts n f.numbers);
    members = λ w es ms.
        inserted names w es ts t n v ms s f.numbers f.texts e
        ∙ ap (put_all (map (member_of names w) (entry_of v.0.now (find key_cmp v.0.now es)))) (f.members w es ms)
        ∙ sym (of_keys-end names w es ks v.0.now ms);
  })

  pub texts_end : (c : Context) (ks : List Key) (n : ℕ) (ts : Texts) → IsWellFormedContext c → IsRising key_cmp ks → AllByRecursion (Contains ks) (all_keys c) → AreTextsSoFar names ks n ts → AreTextsOf names c ts
  texts_end c ks n ts kept r all f = record {
    texts = f.texts;
    members = λ kind ms.
        f.members (word_of kind) (shown_in names kind c) ms
        ∙ ap (λ es. put_all (map (member_of names (word_of kind)) es) ms) (all_entries ks (shown_in names kind c) r (shown_rises names kind c kept) (shown_among (Contains ks) names kind c all));
  }

-- About Parts: the places that differ along an operation's path and at its target.
use Rattle.std.proofs.Common.{◌≡◌, arith, ◌==◌, ℕ, ◌+◌, ◌<◌, length, get_or, take, drop, append_assoc, List, [], ◌∷◌, ◌++◌, Bool, true, false, cond, refl, sym, ◌∙◌, ap, subst}
use Rattle.std.specs.Ordering.{is_lt}
use Rattle.std.specs.declared.cmp.Ordering.{Ordering}
use Rattle.std.specs.declared.cmp.Ordering.TheVariants.{Less, Equal, Greater}
use Rattle.std.proofs.lemmas.Bool.{eqb-true}
use Rattle.std.proofs.lemmas.List.{take_more, take-append-drop}
use Rattle.jc_rules.specs.declared.id.Id.{Id}
use Rattle.jc_rules.specs.declared.key.Key.{Key}
use Rattle.jc_rules.specs.declared.key.Key.TheVariants as K
use Rattle.jc_rules.specs.declared.key.Tagged.{Tagged}
use Rattle.jc_rules.specs.declared.key.Tagged.TheVariants.{MapT, ListT, RegT}
use Rattle.jc_rules.specs.declared.operation.Op.{Op}
use Rattle.jc_rules.specs.Order.{key_cmp, same_key}
use Rattle.jc_rules.specs.Ids.{without}
use Rattle.jc_rules.specs.Context.{Context, key_of_tagged}
use Rattle.jc_rules.specs.Table.{is_done}
use Rattle.jc_rules.proofs.BoolLemmas.{no_truth}
use Rattle.jc_rules.proofs.OrderLemmas.{exact_keys}
use Rattle.jc_meaning.proofs.OrdersLemmas.{keys_self}
use Rattle.jc_meaning.specs.Effects.{is_insert, target}
use Rattle.jc_meaning.specs.Seen.{seen, ids_at}
use Rattle.jc_meaning.proofs.ClearingEffectsLemmas.{seen_append}
use Rattle.jc_effects.specs.declared.own.OwnEffects.{OwnEffects}
use Rattle.jc_effects.specs.Difference.{Differences, no_difference, own_difference, is_nothing, below, IsDifference}
use Rattle.jc_effects.specs.Laws.{IsChangedBy}
use Rattle.jc_effects.specs.Parts.{own_seen, with_difference, AreLater, IsDifferenceAmong, IsKeyBefore, OnlyLoses}
use Rattle.jc_effects.proofs.LawsPathLemmas.{others_on_path, other_tag_on_path, others_at_target, none_below_other}
use Rattle.jc_effects.proofs.OneLemmas.{flipped}
use Rattle.jc_effects.proofs.PartsAmongLemmas.{kept_in, none_among, same_more, one_more, all_among}
use Rattle.jc_effects.proofs.PartsInsertLemmas.{others_at_insert, insert_target, before_other}
use Rattle.jc_effects.proofs.PartsOwnLemmas.{keeps_all, lost_keeps}

-- ---- a key more

-- below the target, where nothing but losses can be
pub lost_place : (k : Key) (c d : Context) (own : OwnEffects) (m l rest y : Differences) → OnlyLoses c d → own_seen k own ≡ own_difference k c d
    → IsDifference (below (MapT k) c) (below (MapT k) d) m → IsDifference (below (ListT k) c) (below (ListT k) d) l → y ≡ with_difference k (own_seen k own) m l rest
    → (ks : List Key) → AreLater k ks → IsDifferenceAmong ks c d rest → IsDifferenceAmong (k ∷ ks) c d y
lost_place k c d own m l rest y h o mi li e ks later among = subst (IsDifferenceAmong (k ∷ ks) c d) (sym e) (one_more k ks c d (own_seen k own) m l rest later (lost_keeps k c d (h.losses [] k)) o mi li among)

pub empty_is : {X : Type 0} (xs : List X) (n : ℕ) → n ≡ length xs → (n == 0) ≡ true → is_nothing xs ≡ true
empty_is [] n e f = refl
empty_is (x ∷ xs) n e f = let none : n ≡ 0 = eqb-true n 0 f in absurd (omega (arith, e, none))

-- and where nothing is lost, since the key keeps its identifiers
pub kept_place : (k : Key) (c d : Context) (lost : List Id) (rest : Differences) → OnlyLoses c d → lost ≡ without (ids_at k c) (ids_at k d) → is_nothing lost ≡ true
    → (ks : List Key) → AreLater k ks → IsDifferenceAmong ks c d rest → IsDifferenceAmong (k ∷ ks) c d rest
kept_place k c d lost rest h e q ks later among = same_more k ks c d rest (h.kept [] k (kept_in (ids_at k c) (ids_at k d) (ap is_nothing (sym e) ∙ q))) among

-- where an operation was
pub changed_place : (o : Op) (c d : Context) → IsChangedBy o c d → (P : List Tagged) (k : Key) (own : OwnEffects) (m l rest y : Differences) → own_seen k own ≡ own_difference k (seen P c) (seen P d)
    → IsDifference (below (MapT k) (seen P c)) (below (MapT k) (seen P d)) m → IsDifference (below (ListT k) (seen P c)) (below (ListT k) (seen P d)) l → y ≡ with_difference k (own_seen k own) m l rest
    → (ks : List Key) → AreLater k ks → IsDifferenceAmong ks (seen P c) (seen P d) rest → IsDifferenceAmong (k ∷ ks) (seen P c) (seen P d) y
changed_place o c d x P k own m l rest y q mi li e ks later among =
    subst (IsDifferenceAmong (k ∷ ks) (seen P c) (seen P d)) (sym e) (one_more k ks (seen P c) (seen P d) (own_seen k own) m l rest later (keeps_all o c d x P k) q mi li among)

-- at the key before a new element, which is linked otherwise
pub link_place : (o : Op) (c d : Context) → IsChangedBy o c d → (P : List Tagged) (k : Key) (own : OwnEffects) (rest y : Differences) → P ≡ o.cursor.path → same_key (target o) k ≡ false → own_seen k own ≡ own_difference k (seen P c) (seen P d)
    → y ≡ with_difference k (own_seen k own) no_difference no_difference rest
    → (ks : List Key) → AreLater k ks → IsDifferenceAmong ks (seen o.cursor.path c) (seen o.cursor.path d) rest → IsDifferenceAmong (k ∷ ks) (seen o.cursor.path c) (seen o.cursor.path d) y
link_place o c d x P k own rest y p other q e ks later among =
    changed_place o c d x o.cursor.path k own no_difference no_difference rest y (subst (λ Q. own_seen k own ≡ own_difference k (seen Q c) (seen Q d)) p q)
    (none_below_other o c d x (MapT k) other) (none_below_other o c d x (ListT k) other) e ks later among

-- ---- all keys

none_done : (k j : Key) → is_done (k ∷ []) j ≡ false → same_key k j ≡ false
none_done k j e = go (same_key k j) refl e
  where
    go : (b : Bool) → same_key k j ≡ b → cond b true false ≡ false → same_key k j ≡ false
    go true f g = no_truth (sym g)
    go false f g = f

two_done : (k l j : Key) → is_done (k ∷ l ∷ []) j ≡ false → (same_key k j ≡ false) × (same_key l j ≡ false)
two_done k l j e = go (same_key k j) refl e
  where
    go : (b : Bool) → same_key k j ≡ b → cond b true (is_done (l ∷ []) j) ≡ false → (same_key k j ≡ false) × (same_key l j ≡ false)
    go true f g = no_truth (sym g)
    go false f g = (f, none_done l j g)

-- the target alone
pub target_all : (o : Op) (c d : Context) → IsChangedBy o c d → (P : List Tagged) (k : Key) (y : Differences) → P ≡ o.cursor.path → k ≡ target o → is_insert o.mutation ≡ false
    → ((ks : List Key) → AreLater k ks → IsDifferenceAmong ks (seen P c) (seen P d) no_difference → IsDifferenceAmong (k ∷ ks) (seen P c) (seen P d) y)
    → IsDifference (seen o.cursor.path c) (seen o.cursor.path d) y
target_all o c d x P k y p t is step =
    all_among (k ∷ []) (seen o.cursor.path c) (seen o.cursor.path d) y
    (λ j e. others_at_target o c d x is j (subst (λ z. same_key z j ≡ false) t (none_done k j e)))
    (subst (λ Q. IsDifferenceAmong (k ∷ []) (seen Q c) (seen Q d) y) p (step [] tt (none_among (seen P c) (seen P d))))

-- the key before the new element, and then the element
pub link_first : (o : Op) (c d : Context) → IsChangedBy o c d → is_insert o.mutation ≡ true → (k : Key) → IsKeyBefore o (seen o.cursor.path c) k → (y : Differences)
    → IsDifferenceAmong (k ∷ K.Elem o.id ∷ []) (seen o.cursor.path c) (seen o.cursor.path d) y → IsDifference (seen o.cursor.path c) (seen o.cursor.path d) y
link_first o c d x is k b y among =
    all_among (k ∷ K.Elem o.id ∷ []) (seen o.cursor.path c) (seen o.cursor.path d) y
    (λ j e. let f = two_done k (K.Elem o.id) j e in others_at_insert o c d x is k b j (subst (λ z. same_key z j ≡ false) (sym (insert_target o is)) f.1) f.0)
    among

-- or the other way round
pub element_first : (o : Op) (c d : Context) → IsChangedBy o c d → is_insert o.mutation ≡ true → (k : Key) → IsKeyBefore o (seen o.cursor.path c) k → (y : Differences)
    → IsDifferenceAmong (K.Elem o.id ∷ k ∷ []) (seen o.cursor.path c) (seen o.cursor.path d) y → IsDifference (seen o.cursor.path c) (seen o.cursor.path d) y
element_first o c d x is k b y among =
    all_among (K.Elem o.id ∷ k ∷ []) (seen o.cursor.path c) (seen o.cursor.path d) y
    (λ j e. let f = two_done (K.Elem o.id) k j e in others_at_insert o c d x is k b j (subst (λ z. same_key z j ≡ false) (sym (insert_target o is)) f.0) f.1)
    among

-- ---- a key of the path

module _ (o : Op) (c d : Context) (x : IsChangedBy o c d) (P : List Tagged) (X : List Tagged) (own : OwnEffects) (inside y : Differences) where
  one_key : (t : Tagged) → o.cursor.path ≡ P ++ t ∷ X → (m l : Differences) → own_seen (key_of_tagged t) own ≡ own_difference (key_of_tagged t) (seen P c) (seen P d)
      → IsDifference (below (MapT (key_of_tagged t)) (seen P c)) (below (MapT (key_of_tagged t)) (seen P d)) m → IsDifference (below (ListT (key_of_tagged t)) (seen P c)) (below (ListT (key_of_tagged t)) (seen P d)) l
      → y ≡ with_difference (key_of_tagged t) (own_seen (key_of_tagged t) own) m l no_difference → IsDifference (seen P c) (seen P d) y
  one_key t e m l q mi li is =
      all_among (key_of_tagged t ∷ []) (seen P c) (seen P d) y (λ j f. others_on_path o c d x P t X e j (none_done (key_of_tagged t) j f))
      (changed_place o c d x P (key_of_tagged t) own m l no_difference y q mi li is [] tt (none_among (seen P c) (seen P d)))

  pub map_on_path : (k : Key) → o.cursor.path ≡ P ++ MapT k ∷ X → own_seen k own ≡ own_difference k (seen P c) (seen P d) → IsDifference (below (MapT k) (seen P c)) (below (MapT k) (seen P d)) inside
      → y ≡ with_difference k (own_seen k own) inside no_difference no_difference → IsDifference (seen P c) (seen P d) y
  map_on_path k e q i is = one_key (MapT k) e inside no_difference q i (other_tag_on_path o c d x P (MapT k) X e (ListT k) refl) is

  pub list_on_path : (k : Key) → o.cursor.path ≡ P ++ ListT k ∷ X → own_seen k own ≡ own_difference k (seen P c) (seen P d) → IsDifference (below (ListT k) (seen P c)) (below (ListT k) (seen P d)) inside
      → y ≡ with_difference k (own_seen k own) no_difference inside no_difference → IsDifference (seen P c) (seen P d) y
  list_on_path k e q i is = one_key (ListT k) e no_difference inside q (other_tag_on_path o c d x P (ListT k) X e (MapT k) refl) i is

  pub register_on_path : (k : Key) → o.cursor.path ≡ P ++ RegT k ∷ X → own_seen k own ≡ own_difference k (seen P c) (seen P d)
      → y ≡ with_difference k (own_seen k own) no_difference no_difference no_difference → IsDifference (seen P c) (seen P d) y
  register_on_path k e q is = one_key (RegT k) e no_difference no_difference q (other_tag_on_path o c d x P (RegT k) X e (MapT k) refl) (other_tag_on_path o c d x P (RegT k) X e (ListT k) refl) is

-- what differs below a path that is one key longer
pub below_longer : (P : List Tagged) (t : Tagged) (c d : Context) (y : Differences) → IsDifference (seen (P ++ t ∷ []) c) (seen (P ++ t ∷ []) d) y → IsDifference (below t (seen P c)) (below t (seen P d)) y
below_longer P t c d y h = subst (λ z. IsDifference z (below t (seen P d)) y) (seen_append P t c) (subst (λ z. IsDifference (seen (P ++ t ∷ []) c) z y) (seen_append P t d) h)

pub longer_below : (P : List Tagged) (t : Tagged) (c d : Context) → OnlyLoses (below t (seen P c)) (below t (seen P d)) → OnlyLoses (seen (P ++ t ∷ []) c) (seen (P ++ t ∷ []) d)
longer_below P t c d h = subst (λ z. OnlyLoses z (seen (P ++ t ∷ []) d)) (sym (seen_append P t c)) (subst (λ z. OnlyLoses (below t (seen P c)) z) (sym (seen_append P t d)) h)

-- ---- a path at a depth

-- the tagged key at the depth
pub record IsKeyAt (path : List Tagged) (n : ℕ) (t : Tagged) : Type 0 where
  pub longer : take (n + 1) path ≡ take n path ++ t ∷ []
  pub split : path ≡ take n path ++ t ∷ drop (n + 1) path

pub key_at : (xs path : List Tagged) (n : ℕ) (t : Tagged) → xs ≡ path → n < length xs → t ≡ get_or xs n t → IsKeyAt path n t
key_at xs path n t same h e = subst (λ (ps : List Tagged). IsKeyAt ps n t) same (record {
  longer = longer;
  split = sym (take-append-drop (n + 1) xs) ∙ ap (λ ys. ys ++ drop (n + 1) xs) longer ∙ append_assoc (take n xs) (t ∷ []) (drop (n + 1) xs);
})
  where
    longer : take (n + 1) xs ≡ take n xs ++ t ∷ []
    longer = take_more xs n t h ∙ ap (λ (y : Tagged). take n xs ++ y ∷ []) (sym e)

-- ---- the order of the two keys of an insert

pub element_lesser : (o : Op) (c : Context) (k : Key) → is_insert o.mutation ≡ true → IsKeyBefore o c k → (r : Ordering) → r ≡ key_cmp k (K.Elem o.id) → is_lt r ≡ false → key_cmp (K.Elem o.id) k ≡ Less
element_lesser o c k is b Less e h = no_truth (sym h)
element_lesser o c k is b Equal e h =
    let same : k ≡ K.Elem o.id = exact_keys k (K.Elem o.id) (sym e) in
    let other : same_key (K.Elem o.id) k ≡ false = subst (λ z. same_key z k ≡ false) (insert_target o is) (before_other o c k is b) in
    let yes : same_key (K.Elem o.id) k ≡ true = subst (λ z. same_key (K.Elem o.id) z ≡ true) (sym same) (keys_self (K.Elem o.id)) in
    let z : false ≡ true = sym other ∙ yes in
    no_truth z
element_lesser o c k is b Greater e h = flipped k (K.Elem o.id) (sym e)

-- About Laws: what is off the way of an operation, by its path.
use Rattle.std.proofs.Common.{◌≡◌, List, [], ◌∷◌, ◌++◌, true, false, not, ◌&&◌, Option, Some, None, refl, sym, ◌∙◌, ap, subst}
use Rattle.std.proofs.lemmas.List.{append-nil}
use Rattle.jc_rules.specs.declared.id.Id.{Id}
use Rattle.jc_rules.specs.declared.key.Key.{Key}
use Rattle.jc_rules.specs.declared.key.Tagged.{Tagged}
use Rattle.jc_rules.specs.declared.key.Tagged.TheVariants.{MapT, ListT, RegT}
use Rattle.jc_rules.specs.declared.operation.Op.{Op}
use Rattle.jc_rules.specs.declared.value.Value.{Value}
use Rattle.jc_rules.specs.declared.value.Value.TheVariants as V
use Rattle.jc_rules.specs.Order.{same_key}
use Rattle.jc_rules.specs.Context.{Context, next, key_of_tagged}
use Rattle.jc_rules.proofs.BoolLemmas.{and_false}
use Rattle.jc_vectors.specs.OperationIds.{with_deps}
use Rattle.jc_meaning.specs.Effects.{same_tagged, same_path, is_at_or_above, is_delete, is_insert, is_clearing, target, is_made_by, passed, value_in}
use Rattle.jc_meaning.specs.Seen.{seen}
use Rattle.jc_meaning.proofs.OrdersLemmas.{keys_eq, keys_back, keys_self}
use Rattle.jc_meaning.proofs.TagsLemmas.{tags_back, tags_self}
use Rattle.jc_effects.specs.Difference.{no_difference, below, IsSameAt, IsSameFrom, IsDifference}
use Rattle.jc_effects.specs.Laws.{IsChangedBy, IsAway}
use Rattle.jc_effects.proofs.ElsewhereLemmas.{same_but_link, elsewhere}

pub seen_seen : (P Q : List Tagged) (c : Context) → seen (P ++ Q) c ≡ seen Q (seen P c)
seen_seen [] Q c = refl
seen_seen (t ∷ ts) Q c = seen_seen ts Q _

-- ---- without what the paths have in common

strip_above : (P X : List Tagged) (l : Key) (Y : List Tagged) (q : Key) → is_at_or_above (P ++ X) l (P ++ Y) q ≡ is_at_or_above X l Y q
strip_above [] X l Y q = refl
strip_above (t ∷ ts) X l Y q = ap (λ b. b && is_at_or_above (ts ++ X) l (ts ++ Y) q) (tags_self t) ∙ strip_above ts X l Y q

strip_path : (P X Y : List Tagged) → same_path (P ++ X) (P ++ Y) ≡ same_path X Y
strip_path [] X Y = refl
strip_path (t ∷ ts) X Y = ap (λ b. b && same_path (ts ++ X) (ts ++ Y)) (tags_self t) ∙ strip_path ts X Y

strip_passed : (P X : List Tagged) (q : Key) (v : Option Value) (Y : List Tagged) (u : Tagged) → passed (P ++ X) q v (P ++ Y) u ≡ passed X q v Y u
strip_passed [] X q v Y u = refl
strip_passed (t ∷ ts) X q v Y u = ap (λ b. b && passed (ts ++ X) q v (ts ++ Y) u) (tags_self t) ∙ strip_passed ts X q v Y u

-- ---- away from what is left

-- What is left of an operation's path, from a context on, is away from what is left of a place's.
record IsApart (X : List Tagged) (q : Key) (v : Option Value) (R : List Tagged) (l : Key) : Type 0 where
  pub above : is_at_or_above R l X q ≡ false
  pub under : is_at_or_above X q R l ≡ false
  pub made : (u : Tagged) → same_key l (key_of_tagged u) ≡ true → passed X q v R u ≡ false

-- where the rests are apart, the place is away from the operation
apart_away : (o : Op) (deps : List Id) (P X R : List Tagged) (l : Key) → o.cursor.path ≡ P ++ X → IsApart X (target o) (value_in o.mutation) R l → IsAway (with_deps deps o) (P ++ R) l
apart_away o deps P X R l e a = record {
  untouched = ap (λ b. not (is_delete o.mutation) && b) (ap (λ p. is_at_or_above (P ++ R) l p (target o)) e ∙ strip_above P R l X (target o) ∙ a.above) ∙ and_false (not (is_delete o.mutation));
  uncleared = ap (λ b. is_clearing o.mutation && b) (ap (λ p. is_at_or_above p (target o) (P ++ R) l) e ∙ strip_above P X (target o) R l ∙ a.under) ∙ and_false (is_clearing o.mutation);
  no_map = made (MapT l) (keys_self l);
  no_list = made (ListT l) (keys_self l);
  no_register = made (RegT l) (keys_self l);
}
  where
    made : (u : Tagged) → same_key l (key_of_tagged u) ≡ true → passed o.cursor.path (target o) (value_in o.mutation) (P ++ R) u ≡ false
    made u f = ap (λ p. passed p (target o) (value_in o.mutation) (P ++ R) u) e ∙ strip_passed P X (target o) (value_in o.mutation) R u ∙ a.made u f

-- and where no insert is in that list, nothing differs
apart_same : (o : Op) (c d : Context) → IsChangedBy o c d → (P X R : List Tagged) (l : Key) → o.cursor.path ≡ P ++ X → IsApart X (target o) (value_in o.mutation) R l → (is_insert o.mutation && same_path X R) ≡ false
    → IsSameAt l (seen R (seen P c)) (seen R (seen P d))
apart_same o c d x P X R l e a list =
    subst (λ z. IsSameAt l z (seen R (seen P d))) (seen_seen P R c)
    (subst (λ z. IsSameAt l (seen (P ++ R) c) z) (seen_seen P R d)
    (elsewhere (with_deps x.0 o) c d x.1 (P ++ R) l (apart_away o x.0 P X R l e a) (ap (λ p. is_insert o.mutation && same_path p (P ++ R)) e ∙ ap (λ b. is_insert o.mutation && b) (strip_path P X R) ∙ list)))

other_tags : (t u : Tagged) → same_key (key_of_tagged t) (key_of_tagged u) ≡ false → same_tagged t u ≡ false
other_tags (MapT j) (MapT k) e = e
other_tags (ListT j) (ListT k) e = e
other_tags (RegT j) (RegT k) e = e
other_tags (MapT j) (ListT k) e = refl
other_tags (MapT j) (RegT k) e = refl
other_tags (ListT j) (MapT k) e = refl
other_tags (ListT j) (RegT k) e = refl
other_tags (RegT j) (MapT k) e = refl
other_tags (RegT j) (ListT k) e = refl

pub other_made : (v : Option Value) (q : Key) (u : Tagged) → same_key q (key_of_tagged u) ≡ false → is_made_by v q u ≡ false
other_made None q u e = refl
other_made (Some V.EmptyMap) q u e = other_tags (MapT q) u e
other_made (Some V.EmptyList) q u e = other_tags (ListT q) u e
other_made _ q u e = other_tags (RegT q) u e

-- the path goes on by t, the place by u
turn_off : (t : Tagged) (X : List Tagged) (q : Key) (v : Option Value) (u : Tagged) (R : List Tagged) (l : Key) → same_tagged t u ≡ false → IsApart (t ∷ X) q v (u ∷ R) l
turn_off t X q v u R l e = record {
  above = ap (λ b. b && is_at_or_above R l X q) (tags_back u t ∙ e);
  under = ap (λ b. b && is_at_or_above X q R l) e;
  made = λ w f. ap (λ b. b && passed X q v R w) e;
}

-- the path goes on by t, and the place is another key there
key_off : (t : Tagged) (X : List Tagged) (q : Key) (v : Option Value) (l : Key) → same_key l (key_of_tagged t) ≡ false → IsApart (t ∷ X) q v [] l
key_off t X q v l e = record {
  above = e;
  under = refl;
  made = λ w f. other_tags t w (ap (same_key (key_of_tagged t)) (sym (keys_eq l (key_of_tagged w) f)) ∙ keys_back (key_of_tagged t) l ∙ e);
}

-- the path ends, and the place is another key there, or below one
target_off : (q : Key) (v : Option Value) (l : Key) → same_key q l ≡ false → IsApart [] q v [] l
target_off q v l e = record {
  above = keys_back l q ∙ e;
  under = e;
  made = λ w f. other_made v q w (ap (same_key q) (sym (keys_eq l (key_of_tagged w) f)) ∙ e);
}

below_off : (q : Key) (v : Option Value) (u : Tagged) (R : List Tagged) (l : Key) → same_key q (key_of_tagged u) ≡ false → IsApart [] q v (u ∷ R) l
below_off q v u R l e = record { above = refl; under = e; made = λ w f. refl }

-- ---- on the path

module _ (o : Op) (c d : Context) (x : IsChangedBy o c d) (P : List Tagged) (t : Tagged) (X : List Tagged) (e : o.cursor.path ≡ P ++ t ∷ X) where
  -- nothing differs at other keys
  pub others_on_path : (k : Key) → same_key (key_of_tagged t) k ≡ false → IsSameFrom k (seen P c) (seen P d)
  others_on_path k off [] l f =
      let same : k ≡ l = keys_eq k l f in
      let away : same_key l (key_of_tagged t) ≡ false = keys_back l (key_of_tagged t) ∙ ap (same_key (key_of_tagged t)) (sym same) ∙ off in
      apart_same o c d x P (t ∷ X) [] l e (key_off t X (target o) (value_in o.mutation) l away) (and_false (is_insert o.mutation))
  others_on_path k off (u ∷ R) l f =
      let turn : same_tagged t u ≡ false = other_tags t u (ap (same_key (key_of_tagged t)) (sym (keys_eq k (key_of_tagged u) f)) ∙ off) in
      apart_same o c d x P (t ∷ X) (u ∷ R) l e (turn_off t X (target o) (value_in o.mutation) u R l turn) (ap (λ b. is_insert o.mutation && (b && same_path X R)) turn ∙ and_false (is_insert o.mutation))

  -- nor under the other tag of the path's key
  pub other_tag_on_path : (u : Tagged) → same_tagged t u ≡ false → IsDifference (below u (seen P c)) (below u (seen P d)) no_difference
  other_tag_on_path u off = record {
    complete = record {
      rise = tt;
      others = λ k f R l g. apart_same o c d x P (t ∷ X) (u ∷ R) l e (turn_off t X (target o) (value_in o.mutation) u R l off) (ap (λ b. is_insert o.mutation && (b && same_path X R)) off ∙ and_false (is_insert o.mutation));
    };
    exact = tt;
  }

-- ---- at the target

module _ (o : Op) (c d : Context) (x : IsChangedBy o c d) where
  path_is : o.cursor.path ≡ o.cursor.path ++ []
  path_is = sym (append-nil o.cursor.path)

  -- nothing differs below another key
  pub below_other : (u : Tagged) (R : List Tagged) (l : Key) → same_key (target o) (key_of_tagged u) ≡ false → IsSameAt l (seen (u ∷ R) (seen o.cursor.path c)) (seen (u ∷ R) (seen o.cursor.path d))
  below_other u R l off = apart_same o c d x o.cursor.path [] (u ∷ R) l path_is (below_off (target o) (value_in o.mutation) u R l off) (and_false (is_insert o.mutation))

  -- nor at one, but for the links of an insert
  pub at_other : is_insert o.mutation ≡ false → (k : Key) → same_key (target o) k ≡ false → IsSameAt k (seen o.cursor.path c) (seen o.cursor.path d)
  at_other not k off = apart_same o c d x o.cursor.path [] [] k path_is (target_off (target o) (value_in o.mutation) k off) (ap (λ b. b && true) not)

  pub inserted_at_other : (k : Key) → same_key (target o) k ≡ false → next k (seen o.cursor.path d) ≡ next k (seen o.cursor.path c) → IsSameAt k (seen o.cursor.path c) (seen o.cursor.path d)
  inserted_at_other k off link = subst (λ P. IsSameAt k (seen P c) (seen P d)) (append-nil o.cursor.path)
      (same_but_link (with_deps x.0 o) c d x.1 (o.cursor.path ++ []) k (apart_away o x.0 o.cursor.path [] [] k path_is (target_off (target o) (value_in o.mutation) k off))
      (subst (λ P. next k (seen P d) ≡ next k (seen P c)) path_is link))

  pub others_at_target : is_insert o.mutation ≡ false → (k : Key) → same_key (target o) k ≡ false → IsSameFrom k (seen o.cursor.path c) (seen o.cursor.path d)
  others_at_target not k off [] l f = subst (λ z. IsSameAt z (seen o.cursor.path c) (seen o.cursor.path d)) (keys_eq k l f) (at_other not k off)
  others_at_target not k off (u ∷ R) l f = below_other u R l (ap (same_key (target o)) (sym (keys_eq k (key_of_tagged u) f)) ∙ off)

  pub none_below_other : (u : Tagged) → same_key (target o) (key_of_tagged u) ≡ false → IsDifference (below u (seen o.cursor.path c)) (below u (seen o.cursor.path d)) no_difference
  none_below_other u off = record { complete = record { rise = tt; others = λ k f R l g. below_other u R l off }; exact = tt }

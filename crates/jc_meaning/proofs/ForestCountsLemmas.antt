-- About Forest: how often an identifier occurs in a forest.
use Rattle.std.proofs.Common.{◌≡◌, ℕ, ◌+◌, List, [], ◌∷◌, ◌++◌, Bool, true, false, ◌&&◌, Option, Some, None, refl, sym, ◌∙◌, ap, arith}
use Rattle.jc_rules.specs.declared.id.Id.{Id}
use Rattle.jc_rules.specs.declared.key.Key.{Key}
use Rattle.jc_rules.specs.declared.key.Key.TheVariants as K
use Rattle.jc_rules.specs.Order.{id_cmp, same_id, same_key}
use Rattle.jc_tree.proofs.CountedLemmas.{one_if}
use Rattle.jc_meaning.specs.Forest.{Forest, bare, tree, preorder, is_less, is_under, Hangs}

abbrev pub count : Id → List Id → ℕ
count i [] = 0
count i (j ∷ js) = one_if (same_id i j) + count i js

pub count_append : (i : Id) (js ks : List Id) → count i (js ++ ks) ≡ count i js + count i ks
count_append i [] ks = omega arith
count_append i (j ∷ js) ks = rw (count_append i js ks) (omega arith)

-- how often the key stands in the list
abbrev pub count_key : Key → List Id → ℕ
count_key (K.Elem j) js = count j js
count_key _ js = 0

pub count_key_append : (q : Key) (js ks : List Id) → count_key q (js ++ ks) ≡ count_key q js + count_key q ks
count_key_append (K.Elem j) js ks = count_append j js ks
count_key_append _ js ks = omega arith

count_key_cons : (q : Key) (j : Id) (js : List Id) → count_key q (j ∷ js) ≡ one_if (same_key q (K.Elem j)) + count_key q js
count_key_cons (K.Elem i) j js = refl
count_key_cons _ j js = refl

sums : (a a2 b b2 c d e x y : ℕ) → b ≡ c + x → d ≡ e + y → a + e ≡ a2 → a + (b + d) ≡ a2 + (c + (x + y))
sums a a2 b b2 c d e x y h k l = omega (arith, h, k, l)

module _ (at : Key → Id → Bool) (i : Id) (q : Key)
    -- i is an insert that names q, and nothing else
    (only : (k : Key) → at k i ≡ same_key q k)
    -- the greatest below b, or one below that
    (greatest : (k : Key) (b : Option Id) (j : Id) → at k j ≡ true → is_under j b ≡ true → ((l : Id) → at k l ≡ true → is_under l b ≡ true → is_less (id_cmp j l) ≡ true → ⊥) → one_if (same_id i j) + one_if (same_key q k && is_under i (Some j)) ≡ one_if (same_key q k && is_under i b)) where
  pub counted : (k : Key) (b : Option Id) (f : Forest) → Hangs at k b f → count i (preorder f) ≡ one_if (same_key q k && is_under i b) + count_key q (preorder f)
  counted k b bare h = none_here (same_key q k) (is_under i b) (only k) refl ∙ sym (nothing q)
    where
      nothing : (q : Key) → one_if (same_key q k && is_under i b) + count_key q [] ≡ one_if (same_key q k && is_under i b)
      nothing (K.Elem j) = omega arith
      nothing _ = omega arith

      none_here : (x y : Bool) → at k i ≡ x → is_under i b ≡ y → 0 ≡ one_if (x && y)
      none_here true true e g = absurd (h i e g)
      none_here true false e g = refl
      none_here false y e g = refl
  counted k b (tree j f r) h =
      let left = counted (K.Elem j) None f h.3 in
      let right = counted k (Some j) r h.4 in
      rw (count_append i (preorder f) (preorder r), count_key_cons q j, count_key_append q (preorder f) (preorder r)) (sums _ _ _ 0 _ _ _ _ _ (left ∙ ap (λ b. one_if b + count_key q (preorder f)) (always (same_key q (K.Elem j)))) right (greatest k b j h.0 h.1 h.2))
    where
      always : (b : Bool) → (b && true) ≡ b
      always true = refl
      always false = refl

-- About Forest: in a forest of inserts, what hangs below an identifier is greater than it.
use Rattle.std.proofs.Common.{◌≡◌, List, [], ◌∷◌, ◌++◌, Bool, true, false, ◌||◌, Option, Some, None, refl, sym, subst}
use Rattle.jc_rules.specs.declared.id.Id.{Id}
use Rattle.jc_rules.specs.declared.key.Key.{Key}
use Rattle.jc_rules.specs.declared.key.Key.TheVariants as K
use Rattle.jc_rules.specs.Order.{id_cmp, same_id}
use Rattle.jc_rules.proofs.IdsLemmas.{same_id-true}
use Rattle.jc_rules.proofs.BoolLemmas.{not_so}
use Rattle.jc_meaning.specs.Forest.{Forest, bare, tree, preorder, is_less, Hangs}
use Rattle.jc_meaning.proofs.OrdersLemmas.{less_trans, less_self}
use Rattle.jc_meaning.proofs.ChainLemmas.{AllOver, Rises, Stops, key_in, Fits}

all_over_append : (o : Id) (xs ys : List Id) → AllOver o xs → AllOver o ys → AllOver o (xs ++ ys)
all_over_append o [] ys h g = g
all_over_append o (x ∷ xs) ys h g = (h.0, all_over_append o xs ys h.1 g)

over_in : (o j : Id) (L : List Id) → AllOver o L → key_in (K.Elem j) L ≡ true → is_less (id_cmp o j) ≡ true
over_in o j [] h e = cc
over_in o j (n ∷ ns) h e = go (same_id n j) refl e (over_in o j ns h.1)
  where
    go : (b : Bool) → same_id n j ≡ b → (b || key_in (K.Elem j) ns) ≡ true → (key_in (K.Elem j) ns ≡ true → is_less (id_cmp o j) ≡ true) → is_less (id_cmp o j) ≡ true
    go true x y f = subst (λ q. is_less (id_cmp o q) ≡ true) (same_id-true n j x) h.0
    go false x y f = f y

-- what hangs at an element is above it
module _ (at : Key → Id → Bool) (up : (i j : Id) → at (K.Elem i) j ≡ true → is_less (id_cmp i j) ≡ true) where
  all_above : (o : Id) (k : Key) (b : Option Id) (f : Forest) → Hangs at k b f → ((j : Id) → at k j ≡ true → is_less (id_cmp o j) ≡ true) → AllOver o (preorder f)
  all_above o k b bare h g = tt
  all_above o k b (tree i f x) h g = (
    g i h.0,
    all_over_append o (preorder f) (preorder x)
        (all_above o (K.Elem i) None f h.3 (λ j a. less_trans o i j (g i h.0) (up i j a)))
        (all_above o k (Some i) x h.4 g),
  )

  pub rises : (k : Key) (b : Option Id) (f : Forest) → Hangs at k b f → Rises f
  rises k b bare h = tt
  rises k b (tree i f x) h =
      (λ o l. all_above o (K.Elem i) None f h.3 (λ j a. less_trans o i j l (up i j a)), rises (K.Elem i) None f h.3, rises k (Some i) x h.4)

  stops : (k : Key) (o i : Id) (x : Forest) → Hangs at k (Some i) x → is_less (id_cmp i o) ≡ true → Stops o (preorder x)
  stops k o i bare h l = tt
  stops k o i (tree m y z) h l = not_so (is_less (id_cmp o m)) (λ e. less_self o (less_trans o m o e (less_trans m i o h.1 l)))

  pub fits : (r o : Id) → is_less (id_cmp r o) ≡ true → (k : Key) (b : Option Id) (f : Forest) → Hangs at k b f → Fits (K.Elem r) o f
  fits r o l k b bare h = tt
  fits r o l k b (tree i f x) h = (λ e. stops k o i x h.4 (below (same_id i r) refl e), fits r o l (K.Elem i) None f h.3, fits r o l k (Some i) x h.4)
    where
      below : (y : Bool) → same_id i r ≡ y → (y || key_in (K.Elem r) (preorder f)) ≡ true → is_less (id_cmp i o) ≡ true
      below true e g = subst (λ q. is_less (id_cmp q o) ≡ true) (sym (same_id-true i r e)) l
      below false e g = less_trans i r o (over_in i r (preorder f) (all_above i (K.Elem i) None f h.3 (λ j a. up i j a)) g) l

-- About Listing: a list's elements one after another; those that are still to come are a forest.
use Rattle.std.proofs.Common.{◌≡◌, ℕ, ◌-◌, ◌<◌, List, [], ◌∷◌, ◌++◌, length, Bool, true, false, ◌||◌, ◌&&◌, Option, Some, None, refl, sym, ◌∙◌, ap, subst, append_assoc, length-append, arith}
use Rattle.std.proofs.lemmas.List.{append-nil}
use Rattle.std.specs.List.{AllByRecursion}
use Rattle.std.specs.declared.cmp.Ordering.TheVariants.{Less}
use Rattle.jc_rules.specs.declared.id.Id.{Id}
use Rattle.jc_rules.specs.declared.key.Key.{Key}
use Rattle.jc_rules.specs.declared.key.Key.TheVariants as K
use Rattle.jc_rules.specs.declared.key.Tagged.{Tagged}
use Rattle.jc_rules.specs.declared.operation.Op.{Op}
use Rattle.jc_rules.specs.Order.{id_cmp, same_id}
use Rattle.jc_rules.specs.Ids.{AreRising, has_id}
use Rattle.jc_rules.proofs.IdsLemmas.{same_id-true, same_members}
use Rattle.jc_rules.proofs.HistoryLemmas.{same_ends}
use Rattle.jc_meaning.specs.Forest.{Forest, bare, tree, preorder, is_less, is_under, Hangs}
use Rattle.jc_meaning.specs.Meaning.{hangs_at}
use Rattle.jc_meaning.specs.Listing.{IsListing}
use Rattle.jc_meaning.proofs.ForestOfOpsLemmas.{forest_of}
use Rattle.jc_meaning.proofs.OrdersLemmas.{is_less-is, less_total, under_less}

-- the first of each, from the last sibling to the first
abbrev pub roots : Forest → List Id
roots bare = []
roots (tree i f x) = roots x ++ i ∷ []

-- the second after the siblings of the first
abbrev pub joined : Forest → Forest → Forest
joined bare g = g
joined (tree i f x) g = tree i f (joined x g)

preorder_joined : (f g : Forest) → preorder (joined f g) ≡ preorder f ++ preorder g
preorder_joined bare g = refl
preorder_joined (tree i f x) g = ap (λ l. i ∷ l) (rw (preorder_joined x g) (sym (append_assoc (preorder f) (preorder x) (preorder g))))

roots_joined : (f g : Forest) → roots (joined f g) ≡ roots g ++ roots f
roots_joined bare g = sym (append-nil (roots g))
roots_joined (tree i f x) g = rw (roots_joined x g) (append_assoc (roots g) (roots x) (i ∷ []))

-- what is below each root hangs there
abbrev pub AreHung : (Key → Id → Bool) → Forest → Type 0
AreHung at bare = Unit {0}
AreHung at (tree i f x) = Hangs at (K.Elem i) None f × AreHung at x

hung_joined : (at : Key → Id → Bool) (f g : Forest) → AreHung at f → AreHung at g → AreHung at (joined f g)
hung_joined at bare g h k = k
hung_joined at (tree i f x) g h k = (h.0, hung_joined at x g h.1 k)

hung : (at : Key → Id → Bool) (k : Key) (b : Option Id) (f : Forest) → Hangs at k b f → AreHung at f
hung at k b bare h = tt
hung at k b (tree i f x) h = (h.3, hung at k (Some i) x h.4)

-- ---- the roots at a key are all that hang there

has_append : (j : Id) (xs ys : List Id) → has_id j (xs ++ ys) ≡ (has_id j xs || has_id j ys)
has_append j [] ys = refl
has_append j (x ∷ xs) ys = ap (λ b. same_id j x || b) (has_append j xs ys) ∙ or_assoc (same_id j x) (has_id j xs) (has_id j ys)
  where
    or_assoc : (a b c : Bool) → (a || (b || c)) ≡ ((a || b) || c)
    or_assoc true b c = refl
    or_assoc false b c = refl

roots_has : (at : Key → Id → Bool) (k : Key) (b : Option Id) (f : Forest) → Hangs at k b f → (j : Id) → has_id j (roots f) ≡ (at k j && is_under j b)
roots_has at k b bare h j = go (at k j) (is_under j b) refl refl
  where
    go : (x y : Bool) → at k j ≡ x → is_under j b ≡ y → false ≡ (x && y)
    go true true e g = absurd (h j e g)
    go true false e g = refl
    go false y e g = refl
roots_has at k b (tree i f x) h j =
    has_append j (roots x) (i ∷ []) ∙ ap (λ z. z || (same_id j i || false)) (roots_has at k (Some i) x h.4 j) ∙ go (at k j) (is_less (id_cmp j i)) (same_id j i) (is_under j b) refl refl refl refl
  where
    go : (p l s u : Bool) → at k j ≡ p → is_less (id_cmp j i) ≡ l → same_id j i ≡ s → is_under j b ≡ u → ((p && l) || (s || false)) ≡ (p && u)
    go true true s true e g m n = refl
    go true true s false e g m n = let under : is_under j b ≡ true = under_less j i b g h.1 in let z : true ≡ false = sym under ∙ n in cc
    go true false true true e g m n = refl
    go true false true false e g m n = let under : is_under j b ≡ true = subst (λ q. is_under q b ≡ true) (sym (same_id-true j i m)) h.1 in let z : true ≡ false = sym under ∙ n in cc
    go true false false true e g m n = absurd (h.2 j e n (less_total j i g m))
    go true false false false e g m n = refl
    go false l true u e g m n = let there : at k j ≡ true = subst (λ q. at k q ≡ true) (sym (same_id-true j i m)) h.0 in let z : true ≡ false = sym there ∙ e in cc
    go false l false u e g m n = refl

roots_under : (at : Key → Id → Bool) (k : Key) (b : Option Id) (f : Forest) → Hangs at k b f → AllByRecursion (λ j. is_under j b ≡ true) (roots f)
roots_under at k b bare h = tt
roots_under at k b (tree i f x) h = all_end (roots x) (deeper (roots x) (roots_under at k (Some i) x h.4))
  where
    deeper : (js : List Id) → AllByRecursion (λ j. is_less (id_cmp j i) ≡ true) js → AllByRecursion (λ j. is_under j b ≡ true) js
    deeper [] a = tt
    deeper (j ∷ js) a = (under_less j i b a.0 h.1, deeper js a.1)

    all_end : (js : List Id) → AllByRecursion (λ j. is_under j b ≡ true) js → AllByRecursion (λ j. is_under j b ≡ true) (js ++ i ∷ [])
    all_end [] a = (h.1, tt)
    all_end (j ∷ js) a = (a.0, all_end js a.1)

rising_end : (js : List Id) (i : Id) → AreRising js → AllByRecursion (λ j. is_less (id_cmp j i) ≡ true) js → AreRising (js ++ i ∷ [])
rising_end [] i r a = (tt, tt)
rising_end (j ∷ js) i r a = (all_end js r.0, rising_end js i r.1 a.1)
  where
    all_end : (ks : List Id) → AllByRecursion (λ k. id_cmp j k ≡ Less) ks → AllByRecursion (λ k. id_cmp j k ≡ Less) (ks ++ i ∷ [])
    all_end [] b = (is_less-is (id_cmp j i) a.0, tt)
    all_end (k ∷ ks) b = (b.0, all_end ks b.1)

roots_rise : (at : Key → Id → Bool) (k : Key) (b : Option Id) (f : Forest) → Hangs at k b f → AreRising (roots f)
roots_rise at k b bare h = tt
roots_rise at k b (tree i f x) h = rising_end (roots x) i (roots_rise at k (Some i) x h.4) (roots_under at k (Some i) x h.4)

these_roots : (at : Key → Id → Bool) (k : Key) (f : Forest) (is : List Id) → Hangs at k None f → AreRising is → ((j : Id) → has_id j is ≡ at k j) → is ≡ roots f
these_roots at k f is h rises has = same_members is (roots f) rises (roots_rise at k None f h) (λ j. has j ∙ sym (roots_has at k None f h j ∙ all (at k j)))
  where
    all : (b : Bool) → (b && true) ≡ b
    all true = refl
    all false = refl

-- ---- the walk

-- What is listed, and what comes of the next_ones ones, are the list's elements.
pub record IsWalk (O : List Op) (P : List Tagged) (is next_ones : List Id) : Type 0 where
  pub rest : Forest
  pub hung : AreHung (hangs_at O P) rest
  pub are : next_ones ≡ roots rest
  pub all : is ++ preorder rest ≡ preorder (forest_of O P).0

pub walk_starts : (O : List Op) (P : List Tagged) (is next_ones : List Id) → is ≡ [] → AreRising next_ones → ((j : Id) → has_id j next_ones ≡ hangs_at O P K.Head j) → IsWalk O P is next_ones
walk_starts O P is next_ones e rises has = record {
  rest = (forest_of O P).0;
  hung = hung (hangs_at O P) K.Head None (forest_of O P).0 (forest_of O P).1;
  are = these_roots (hangs_at O P) K.Head (forest_of O P).0 next_ones (forest_of O P).1 rises has;
  all = ap (λ l. l ++ preorder (forest_of O P).0) e;
}

no_end : {A : Type 0} (js : List Id) (i : Id) → js ++ i ∷ [] ≡ [] → A
no_end [] i e = absurd (let f : ⊥ = cc in f)
no_end (j ∷ js) i e = absurd (let f : ⊥ = cc in f)

module _ (O : List Op) (P : List Tagged) (is next_ones : List Id) (w : IsWalk O P is next_ones) where
  pub walk_ends : next_ones ≡ [] → IsListing O P is
  walk_ends e = go w.rest w.are w.all
    where
      go : (r : Forest) → next_ones ≡ roots r → is ++ preorder r ≡ preorder (forest_of O P).0 → IsListing O P is
      go bare f g = record { forest = (forest_of O P).0; hangs = (forest_of O P).1; listed = sym (append-nil is) ∙ g }
      go (tree i f x) g h = no_end (roots x) i (sym g ∙ e)

  pub walk_falls : (left : List Id) (i : Id) → next_ones ≡ left ++ i ∷ [] → length is < length (preorder (forest_of O P).0)
  walk_falls left i e = go w.rest w.are w.all
    where
      go : (r : Forest) → next_ones ≡ roots r → is ++ preorder r ≡ preorder (forest_of O P).0 → length is < length (preorder (forest_of O P).0)
      go bare f g = no_end left i (sym e ∙ f)
      go (tree j f x) g h = let n : length (is ++ j ∷ (preorder f ++ preorder x)) ≡ length (preorder (forest_of O P).0) = ap length h in omega (arith, n, length-append is (j ∷ (preorder f ++ preorder x)))

  pub walk_on : (left next : List Id) (i : Id) → next_ones ≡ left ++ i ∷ [] → AreRising next → ((j : Id) → has_id j next ≡ hangs_at O P (K.Elem i) j) → IsWalk O P (is ++ i ∷ []) (left ++ next)
  walk_on left next i e rises has = go w.rest w.hung w.are w.all
    where
      go : (r : Forest) → AreHung (hangs_at O P) r → next_ones ≡ roots r → is ++ preorder r ≡ preorder (forest_of O P).0 → IsWalk O P (is ++ i ∷ []) (left ++ next)
      go bare h f g = no_end left i (sym e ∙ f)
      go (tree j f x) h g a =
          let same = same_ends (roots x) left j i (sym g ∙ e) in
          let below : Hangs (hangs_at O P) (K.Elem i) None f = subst (λ q. Hangs (hangs_at O P) (K.Elem q) None f) same.1 h.0 in
          let open2 : left ++ next ≡ roots (joined f x) = ap (λ l. l ++ next) (sym same.0) ∙ ap (λ l. roots x ++ l) (these_roots (hangs_at O P) (K.Elem i) f next below rises has) ∙ sym (roots_joined f x) in
          let whole : (is ++ i ∷ []) ++ preorder (joined f x) ≡ is ++ i ∷ (preorder f ++ preorder x) = append_assoc is (i ∷ []) (preorder (joined f x)) ∙ ap (λ l. is ++ i ∷ l) (preorder_joined f x) in
          record {
            rest = joined f x;
            hung = hung_joined (hangs_at O P) f x (hung (hangs_at O P) (K.Elem i) None f below) h.1;
            are = open2;
            all = whole ∙ ap (λ q. is ++ q ∷ (preorder f ++ preorder x)) (sym same.1) ∙ a;
          }

pub walk_next : (O : List Op) (P : List Tagged) (is is2 now now2 left next slice : List Id) (i : Id) → IsWalk O P is now → now ≡ left ++ i ∷ [] → is2 ≡ is ++ i ∷ [] → now2 ≡ left ++ slice → slice ≡ next → AreRising next → ((j : Id) → has_id j next ≡ hangs_at O P (K.Elem i) j) → IsWalk O P is2 now2
walk_next O P is is2 now now2 left next slice i w e f g h rises has =
    subst (λ l. IsWalk O P l now2) (sym f) (subst (λ l. IsWalk O P (is ++ i ∷ []) l) (sym (g ∙ ap (λ l. left ++ l) h)) (walk_on O P is now w left next i e rises has))

pub walk_smaller : (m : ℕ) (is is2 : List Id) (i : Id) → is2 ≡ is ++ i ∷ [] → length is < m → m - length is2 < m - length is
walk_smaller m is is2 i e h = let n : length is2 ≡ length (is ++ i ∷ []) = ap length e in omega (arith, n, h, length-append is (i ∷ []))

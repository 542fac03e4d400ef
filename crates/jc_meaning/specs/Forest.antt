-- The tree of inserts of a list, its preorder, and the links along it; `Meaning` and `Listing` use them.
use Rattle.std.specs.Prelude.{◌≡◌, List, [], ◌∷◌, ◌++◌, Bool, true, false, cond, Option, Some, None}
use Rattle.std.specs.declared.cmp.Ordering.{Ordering}
use Rattle.std.specs.declared.cmp.Ordering.TheVariants.{Less}
use Rattle.jc_rules.specs.declared.id.Id.{Id}
use Rattle.jc_rules.specs.declared.key.Key.{Key}
use Rattle.jc_rules.specs.declared.key.Key.TheVariants as K
use Rattle.jc_rules.specs.declared.key.Next.{Next}
use Rattle.jc_rules.specs.declared.key.Next.TheVariants.{Tail, Elem as To}
use Rattle.jc_rules.specs.Order.{id_cmp, same_key}

-- The tree of inserts at a place: an identifier, those below it, its later siblings.
pub data Forest : Type 0 where
  bare : Forest
  tree : Id → Forest → Forest → Forest

-- each before those below it, and these before its later siblings
abbrev pub preorder : Forest → List Id
preorder bare = []
preorder (tree i f x) = i ∷ (preorder f ++ preorder x)

abbrev pub is_less : Ordering → Bool
is_less Less = true
is_less _ = false

-- below the bound, if there is one
abbrev pub is_under : Id → Option Id → Bool
is_under i None = true
is_under i (Some j) = is_less (id_cmp i j)

-- The forest is that of all identifiers that hang at the key and are under the bound, siblings by falling identifier.
-- Which identifiers hang at which key is given by `at`.
abbrev pub Hangs : (Key → Id → Bool) → Key → Option Id → Forest → Type 0
Hangs at k b bare = (j : Id) → at k j ≡ true → is_under j b ≡ true → ⊥
Hangs at k b (tree i f x) =
    (at k i ≡ true)
    × (is_under i b ≡ true)
    × ((j : Id) → at k j ≡ true → is_under j b ≡ true → is_less (id_cmp i j) ≡ true → ⊥)
    × Hangs at (K.Elem i) None f
    × Hangs at k (Some i) x

-- what follows the key k in the chain of j and the list
abbrev pub follow : Key → List Id → Key → Option Next
follow j [] k = cond (same_key j k) (Some Tail) None
follow j (i ∷ is) k = cond (same_key j k) (Some (To i)) (follow (K.Elem i) is k)

-- The paths of the contexts of a content.
use Rattle.std.specs.Prelude.{List, [], ◌∷◌, ◌++◌, map, Bool, cond}
use Rattle.jc_rules.specs.declared.key.Key.{Key}
use Rattle.jc_rules.specs.declared.key.Tagged.{Tagged}
use Rattle.jc_rules.specs.declared.key.Tagged.TheVariants.{MapT, ListT}
use Rattle.jc_rules.specs.Context.{Context, context, Children, no_child, child}

-- the paths from a context to itself and to those below it
abbrev mutual
  pub paths : Context → List (List Tagged)
  paths (context m l r p n) = [] ∷ (paths_in (λ k. MapT k) m ++ paths_in (λ k. ListT k) l)

  pub paths_in : (Key → Tagged) → Children → List (List Tagged)
  paths_in f no_child = []
  paths_in f (child k c cs) = map (λ q. f k ∷ q) (paths c) ++ paths_in f cs

-- the first of the paths that passes the test, else the root's
abbrev pub first_path : (List Tagged → Bool) → List (List Tagged) → List Tagged
first_path p [] = []
first_path p (q ∷ qs) = cond (p q) q (first_path p qs)

-- The plain store's places: which path each names.
use Rattle.std.specs.Prelude.{◌≡◌, ◌≢◌, ℕ, zero, suc, List, [], ◌∷◌, Bool, true, false, Option, Some, None}
use Rattle.std.specs.List.{AllByRecursion, AllByRecursion-prop}
use Rattle.std.specs.declared.alloc.Global.{Global}
use Rattle.std.specs.declared.vec.Vec.{Vec}
use Rattle.jc_rules.specs.declared.key.Key.{Key}
use Rattle.jc_rules.specs.declared.key.Tagged.{Tagged}
use Rattle.jc_rules.specs.declared.key.Tagged.TheVariants.{MapT, ListT}
use Rattle.jc_rules.specs.Context.{Context}
use Rattle.jc_rules.specs.ContextsAt.{node_at}

-- the tagged key of a list or of a map
abbrev pub child_key : Bool → Key → Tagged
child_key true k = ListT k
child_key false k = MapT k

-- the path that a number names: zero the root's, those above it the listed ones
abbrev pub path_in : List (Vec Tagged Global) → ℕ → Option (List Tagged)
path_in [] n = None
path_in (p ∷ ps) zero = Some p.items
path_in (p ∷ ps) (suc n) = path_in ps n

abbrev pub path_at : List (Vec Tagged Global) → ℕ → Option (List Tagged)
path_at ps zero = Some []
path_at ps (suc n) = path_in ps n

abbrev pub or_root : Option (List Tagged) → List Tagged
or_root None = []
or_root (Some at) = at

-- the number names the path, which leads to a context
pub record IsPlaceOf (ps : List (Vec Tagged Global)) (c : Context) (n : ℕ) (at : List Tagged) : Type 0 where
  pub named : path_at ps n ≡ Some at
  pub there : node_at at c ≢ None

-- some number names the path
abbrev pub IsNamed : List (Vec Tagged Global) → List Tagged → Type 0
IsNamed ps at = ((n : ℕ) → path_at ps n ≢ Some at) → ⊥

-- the path of each context is named
abbrev pub AreNamed : List (Vec Tagged Global) → Context → Type 0
AreNamed ps c = (at : List Tagged) → node_at at c ≢ None → IsNamed ps at

abbrev pub AreAllNamed : List (Vec Tagged Global) → List Context → Type 0
AreAllNamed ps cs = AllByRecursion (AreNamed ps) cs

-- each of these has one proof
no_two : (x y : ⊥) → x ≡ y
no_two x y = absurd x

pub AreNamed-single : (ps : List (Vec Tagged Global)) (c : Context) → IsProp (AreNamed ps c)
AreNamed-single ps c = λ x y i. λ at h f. no_two (x at h f) (y at h f) i

pub AreAllNamed-single : (ps : List (Vec Tagged Global)) (cs : List Context) → IsProp (AreAllNamed ps cs)
AreAllNamed-single ps cs = AllByRecursion-prop (AreNamed ps) (AreNamed-single ps) cs

-- Lists of entries by key, in the order R of the keys. An entry replaces that of its key, or else comes into its place, so
-- that what is put can be found whatever the list.
use Rattle.std.specs.Prelude.{◌≡◌, List, [], ◌∷◌, Option, Some, None, cond, map}
use Rattle.std.specs.List.{AllByRecursion}
use Rattle.std.specs.Ordering.{eq_by_cmp, match_ordering}
use Rattle.std.specs.declared.cmp.Ordering.{Ordering}
use Rattle.std.specs.declared.cmp.Ordering.TheVariants.{Less}

-- each is below all that come after it
abbrev pub IsRising : {K : Type 0} → (K → K → Ordering) → List K → Type 0
IsRising R [] = Unit {0}
IsRising R (k ∷ ks) = AllByRecursion (λ j. R k j ≡ Less) ks × IsRising R ks

abbrev pub keys_of : {K X : Type 0} → List (K × X) → List K
keys_of es = map (λ e. e.0) es

abbrev pub if_found : {X Y : Type 0} → Option X → Y → Y → Y
if_found (Some x) y z = y
if_found None y z = z

-- what is under the key
abbrev pub find : {K X : Type 0} → (K → K → Ordering) → K → List (K × X) → Option X
find R k [] = None
find R k (e ∷ es) = cond (eq_by_cmp R k e.0) (Some e.1) (find R k es)

-- with another value under the key, if it is there
abbrev pub replaced : {K X : Type 0} → (K → K → Ordering) → K → X → List (K × X) → List (K × X)
replaced R k v [] = []
replaced R k v (e ∷ es) = cond (eq_by_cmp R k e.0) ((k, v) ∷ es) (e ∷ replaced R k v es)

-- before the first greater key
abbrev pub placed : {K X : Type 0} → (K → K → Ordering) → K → X → List (K × X) → List (K × X)
placed R k v [] = (k, v) ∷ []
placed R k v (e ∷ es) = match_ordering (R k e.0) ((k, v) ∷ e ∷ es) ((k, v) ∷ e ∷ es) (e ∷ placed R k v es)

abbrev pub put : {K X : Type 0} → (K → K → Ordering) → K → X → List (K × X) → List (K × X)
put R k v es = if_found (find R k es) (replaced R k v es) (placed R k v es)

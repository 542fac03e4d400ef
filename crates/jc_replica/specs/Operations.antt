-- Lists of operations as replicas keep them and pass them to each other.
use Rattle.std.specs.Prelude.{◌≡◌, ◌≤◌, ℕ, List, [], ◌∷◌, map}
use Rattle.std.specs.List.{AllByRecursion}
use Rattle.jc_rules.specs.declared.id.Id.{Id}
use Rattle.jc_rules.specs.declared.operation.Op.{Op}
use Rattle.jc_rules.specs.declared.limits.TheConstants.{MAX_COUNTER}
use Rattle.jc_rules.specs.Entries.{IsRising}
use Rattle.jc_rules.specs.Order.{id_cmp}

abbrev pub identifiers : List Op → List Id
identifiers os = map (λ o. o.id) os

-- by identifier, none twice
abbrev pub AreInOrder : List Op → Type 0
AreInOrder os = IsRising id_cmp (identifiers os)

-- an operation that may be passed to a replica: its counter is from 1 to MAX_COUNTER
abbrev pub IsHanded : Op → Type 0
IsHanded o = (1 ≤ o.id.counter) × (o.id.counter ≤ MAX_COUNTER)

abbrev pub AreHanded : List Op → Type 0
AreHanded os = AllByRecursion IsHanded os

-- all were made by replica q
abbrev pub AreOwn : ℕ → List Op → Type 0
AreOwn q os = AllByRecursion (λ o. o.id.replica ≡ q) os

-- all were made by one replica
abbrev pub AreOfOne : List Op → Type 0
AreOfOne [] = Unit {0}
AreOfOne (o ∷ os) = AreOwn o.id.replica os

-- Sets of identifiers as ascending lists: presence sets, and what version vectors cover.
use Rattle.std.specs.Prelude.{◌≡◌, ℕ, List, [], ◌∷◌, Bool, true, false, not, ◌||◌, filter, max}
use Rattle.std.specs.Ordering.{match_ordering}
use Rattle.jc_rules.specs.declared.id.Id.{Id}
use Rattle.jc_rules.specs.Order.{id_cmp, same_id}
use Rattle.jc_rules.specs.Entries.{IsRising}

abbrev pub AreRising : List Id → Type 0
AreRising = IsRising id_cmp

-- whether the identifier is in the set
abbrev pub has_id : Id → List Id → Bool
has_id i [] = false
has_id i (j ∷ js) = same_id i j || has_id i js

-- with the identifier, in its place
abbrev pub with_id : Id → List Id → List Id
with_id i [] = i ∷ []
with_id i (j ∷ js) = match_ordering (id_cmp i j) (i ∷ j ∷ js) (j ∷ js) (j ∷ with_id i js)

abbrev pub added : List Id → List Id → List Id
added [] js = js
added (i ∷ is) js = with_id i (added is js)

-- the rising list of what is in either
abbrev pub union : List Id → List Id → List Id
union is js = added is (added js [])

-- what is in the first and not in the second
abbrev pub without : List Id → List Id → List Id
without is deps = filter (λ i. not (has_id i deps)) is

-- each of the first is in the second
abbrev pub AreIn : List Id → List Id → Type 0
AreIn is js = (i : Id) → has_id i is ≡ true → has_id i js ≡ true

-- the greatest counter, or 0
abbrev pub greatest : List Id → ℕ
greatest [] = 0
greatest (i ∷ is) = max i.counter (greatest is)

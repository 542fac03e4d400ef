-- Version vectors: per replica the greatest counter of its operations, and which identifiers they cover.
use Rattle.std.specs.Prelude.{◌≡◌, ℕ, zero, suc, List, [], ◌∷◌, false, not, ◌||◌, cond, filter, max, eqb, leb}
use Rattle.std.specs.List.{AllByRecursion}
use Rattle.jc_rules.specs.declared.id.Id.{Id}
use Rattle.jc_rules.specs.Ids.{with_id, union}

-- the replica's identifiers from counter 1 to the last one
abbrev pub ids_up_to : ℕ → ℕ → List Id
ids_up_to p zero = []
ids_up_to p (suc last) = with_id (record { counter = suc last; replica = p }) (ids_up_to p last)

-- what a version vector covers: of each replica the identifiers from counter 1 to its greatest one
abbrev pub covered : List Id → List Id
covered [] = []
covered (i ∷ is) = union (ids_up_to i.replica i.counter) (covered is)

-- the replica's greatest counter, or 0
abbrev pub greatest_of : ℕ → List Id → ℕ
greatest_of p [] = 0
greatest_of p (i ∷ is) = cond (eqb i.replica p) (max i.counter (greatest_of p is)) (greatest_of p is)

-- without the replica's identifiers above the last counter
abbrev pub truncated : ℕ → ℕ → List Id → List Id
truncated p last s = filter (λ i. not (eqb i.replica p) || leb i.counter last) s

-- one identifier of each replica at most
abbrev pub IsVersionVector : List Id → Type 0
IsVersionVector [] = Unit {0}
IsVersionVector (i ∷ is) = AllByRecursion (λ j. eqb j.replica i.replica ≡ false) is × IsVersionVector is

-- Names of replicas. A list of names has the name of each replica at its number.
use Rattle.std.specs.Prelude.{ℕ, List, [], slice_get, unwrap_or}

-- the name of a replica; a number that is no replica's has the empty one
abbrev pub name_at : List (List ℕ) → ℕ → List ℕ
name_at names p = unwrap_or (slice_get names p) []

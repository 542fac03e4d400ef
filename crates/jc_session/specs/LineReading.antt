-- A line that is being read from a source: the loop of `read_line` keeps this.
use Rattle.std.specs.Prelude.{◌≡◌, ℕ, ◌+◌, List, ◌++◌, length, take, Bool, nat_lt, Option, IfSome}
use Rattle.std.specs.Io.KnownBytes.{Consumes}
use Rattle.jc_rules.specs.declared.limits.TheConstants.{MAX_LINE}
use Rattle.jc_session.specs.Lines.{Lacks}

-- of the bytes that are known, `read` were read, and the others are left where that is known
abbrev pub ReadStopsAt : Option (List ℕ) → Option (List ℕ) → List ℕ → Type 0
ReadStopsAt old new read = IfSome old (λ xs. (rest : List ℕ) × (xs ≡ read ++ rest) × IfSome new (λ ys. ys ≡ rest))

-- A line of which `raw` was read: what was left at its start and is left now, what is kept of it and whether there is
-- some, and how many bytes could be read at its start and can be now.
pub record LineRead (old now : Option (List ℕ)) (kept : List ℕ) (some : Bool) (most room : ℕ) : Type 0 where
  pub raw : List ℕ
  pub no_lf : Lacks 10 raw
  pub gone : Consumes old now raw
  pub kept_is : kept ≡ take (MAX_LINE + 1) raw
  pub some_is : some ≡ nat_lt 0 (length raw)
  pub room_is : room + length raw ≡ most

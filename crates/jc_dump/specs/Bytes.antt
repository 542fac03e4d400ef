-- What stays of a text to which something is appended, for bytes.rt, rows.rt and texts.rt.
use Rattle.std.specs.Prelude.{◌≡◌, ℕ, List, ◌++◌}

-- what was there, and maybe more behind it
abbrev pub BeginsWith : List ℕ → List ℕ → Type 0
BeginsWith old new = (more : List ℕ) × (new ≡ old ++ more)

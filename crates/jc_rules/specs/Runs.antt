-- Rows that go down by one rule, as traces keep them.
use Rattle.std.specs.Prelude.{◌≡◌, ◌≤◌, ℕ, zero, suc, ◌+◌, List, [], ◌∷◌, flat_map, length}
use Rattle.jc_rules.specs.declared.rule.Rule.{Rule}
use Rattle.jc_rules.specs.declared.run.Run.{Run}
use Rattle.jc_rules.specs.Trace.{Rows, pushed, one_deeper}

-- rows of a rule, so many, the first at the depth and each one deeper than the one before
abbrev pub deeper : Rule → ℕ → ℕ → List (Rule × ℕ)
deeper rule depth zero = []
deeper rule depth (suc count) = (rule, depth) ∷ deeper rule (depth + 1) count

abbrev pub run_rows : Run → List (Rule × ℕ)
run_rows r = deeper r.rule r.depth r.count

abbrev pub rows_of_all : List Run → List (Rule × ℕ)
rows_of_all rs = flat_map run_rows rs

-- The number of rows is kept beside them, and the depth is never more.
pub record IsTrace (runs : List Run) (rows depth : ℕ) : Type 0 where
  pub counted : rows ≡ length (rows_of_all runs)
  pub within : depth ≤ rows

-- the trace once a rule was opened so many times, each at the premises of the one before
abbrev pub opened : ℕ → Rule → Rows → Rows
opened zero rule t = t
opened (suc count) rule t = opened count rule (one_deeper (pushed t rule))

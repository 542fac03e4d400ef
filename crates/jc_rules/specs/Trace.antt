-- What contracts see of a trace: its rows, and the depth at which it is.
use Rattle.std.specs.Prelude.{◌≡◌, ℕ, ◌+◌, ◌-◌, List, [], ◌∷◌, ◌++◌, refl}
use Rattle.std.specs.Coded.{Coded, code_by, coded×, coded_ℕ, coded_list}
use Rattle.jc_rules.specs.declared.rule.Rule.{Rule}
use Rattle.jc_rules.specs.contracts.rule.Rule.{the_row}

-- the rules so far with their depths, and the depth of the next
pub record Rows : Type 0 where
  pub rows : List (Rule × ℕ)
  pub depth : ℕ

abbrev pub rows_code : Coded Rows
rows_code =
    code_by (List (Rule × ℕ) × ℕ)
    (coded× (coded_list (coded× the_row.coded coded_ℕ)) coded_ℕ)
    (λ t. (t.rows, t.depth))
    (λ p. record { rows = p.0; depth = p.1 })
    (λ _. refl)

-- with a rule at the depth
abbrev pub pushed : Rows → Rule → Rows
pushed t r = record { rows = t.rows ++ (r, t.depth) ∷ []; depth = t.depth }

-- at the premises
abbrev pub one_deeper : Rows → Rows
one_deeper t = record { rows = t.rows; depth = t.depth + 1 }

abbrev pub one_higher : Rows → Rows
one_higher t = record { rows = t.rows; depth = t.depth - 1 }

abbrev pub at_depth : ℕ → Rows → Rows
at_depth n t = record { rows = t.rows; depth = n }

-- nothing of the first was taken away
pub record IsLonger (t u : Rows) : Type 0 where
  pub added : List (Rule × ℕ)
  pub is : u.rows ≡ t.rows ++ added

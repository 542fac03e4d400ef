-- What `compare` returns for two replicas of a network.
use Rattle.std.specs.Prelude.{◌≡◌, ◌≢◌, ℕ, List, true, Some, slice_get}
use Rattle.jc_rules.specs.WellFormed.{drop}
use Rattle.jc_rules.specs.State.{State}
use Rattle.jc_meaning.specs.declared.comparison.Comparison.{Comparison as Compared}
use Rattle.jc_meaning.specs.declared.comparison.Comparison.TheVariants.{SameOps, DifferentOps}

-- They have applied the same operations, and their trees are the same but for empty presence sets; or they have applied
-- different ones.
abbrev pub IsFound : State → State → Compared → Type 0
IsFound A B (SameOps same) = (A.ops ≡ B.ops) × (drop A.tree ≡ drop B.tree) × (same ≡ true)
IsFound A B DifferentOps = A.ops ≢ B.ops

-- the comparison of the replicas p and q
pub record IsComparison (network : List State) (p q : ℕ) (compared : Compared) : Type 0 where
  pub one : State
  pub other : State
  pub one_there : slice_get network p ≡ Some one
  pub other_there : slice_get network q ≡ Some other
  pub found : IsFound one other compared

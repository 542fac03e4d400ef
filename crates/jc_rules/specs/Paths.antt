-- Which lists of tagged keys are paths of cursors.
use Rattle.std.specs.Prelude.{◌≤◌, List, length}
use Rattle.std.specs.List.{AllByRecursion}
use Rattle.jc_rules.specs.declared.key.Tagged.{Tagged}
use Rattle.jc_rules.specs.declared.key.Tagged.TheVariants.{MapT, ListT, RegT}
use Rattle.jc_rules.specs.declared.limits.TheConstants.{MAX_PATH}

-- a tagged key under which there is a context: that of a map or a list
abbrev pub HasContext : Tagged → Type 0
HasContext (MapT k) = Unit {0}
HasContext (ListT k) = Unit {0}
HasContext (RegT k) = ⊥

-- The path of a cursor: its keys are those of maps and lists, and MAX_PATH at most.
pub record IsPath (keys : List Tagged) : Type 0 where
  pub contexts : AllByRecursion HasContext keys
  pub short : length keys ≤ MAX_PATH

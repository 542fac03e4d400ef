-- Whether presence sets have an identifier, by number: words of the fast store's nodes.
use Rattle.std.specs.Prelude.{◌≡◌, ◌≤◌, ℕ, List, length, get_or, Bool, false, Option}
use Rattle.jc_rules.specs.declared.id.Id.{Id}
use Rattle.jc_tree.specs.Tree.{or_no_entries, has_ids}
use Rattle.jc_tree.specs.Numbered.{at_number}

-- the flag of a number: not set past the end
abbrev pub flag_at : List Bool → ℕ → Bool
flag_at fs n = get_or fs n false

-- no set is past the flags, and each number's flag is set where its set has an identifier
pub record AreFlags (fs : List Bool) (sets : List (Option (List Id))) : Type 0 where
  pub within : length sets ≤ length fs
  pub same : (n : ℕ) → flag_at fs n ≡ has_ids (or_no_entries (at_number sets n))

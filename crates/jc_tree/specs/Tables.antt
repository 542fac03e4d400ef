-- Entries by key over numbered keys, and the nodes of the fast store that keep them.
use Rattle.std.specs.Prelude.{◌≡◌, ◌≤◌, ◌+◌, ℕ, List, length, Option, None}
use Rattle.jc_rules.specs.declared.id.Id.{Id}
use Rattle.jc_rules.specs.declared.key.Key.{Key}
use Rattle.jc_rules.specs.declared.key.Next.{Next}
use Rattle.jc_rules.specs.Context.{Register}
use Rattle.jc_tree.specs.Tree.{count_present}
use Rattle.jc_tree.specs.Arena.{Flat}
use Rattle.jc_tree.specs.Blocks.{Members, AreFit}
use Rattle.jc_tree.specs.Numbered.{Numbering, IsNumbered, GetsNumber, at_number, column_entries}

-- the keys are as they were, but that the key may have got a number
pub data MayNumber (k : Key) (old new : Numbering) : Type 0 where
  same : new ≡ old → MayNumber k old new
  numbers : (n : ℕ) → IsNumbered old → GetsNumber k n old new → MayNumber k old new

-- what is seen of the columns of a node
abbrev pub flat_of : Numbering → List (Option ℕ) → List (Option ℕ) → List (Option Register) → List (Option (List Id))
    → List (Option Next) → Flat
flat_of t m l r p x = record {
  maps = column_entries m t;
  lists = column_entries l t;
  registers = column_entries r t;
  presences = column_entries p t;
  links = column_entries x t;
}

-- no column is longer than the keys are many
pub record AreColumnsWithin (t : Numbering) (m l : List (Option ℕ)) (r : List (Option Register))
    (p : List (Option (List Id))) (x : List (Option Next)) : Type 0 where
  pub maps : length m ≤ length t.keys
  pub lists : length l ≤ length t.keys
  pub registers : length r ≤ length t.keys
  pub presences : length p ≤ length t.keys
  pub links : length x ≤ length t.keys

-- so it is, as many presence sets have an identifier, and the blocks are fit
pub record IsNodeOf (t : Numbering) (m l : List (Option ℕ)) (r : List (Option Register)) (p : List (Option (List Id)))
    (x : List (Option Next)) (present : ℕ) (bs : List Members) : Type 0 where
  pub within : AreColumnsWithin t m l r p x
  pub count : present ≡ count_present (column_entries p t)
  pub fit : AreFit t.keys (column_entries x t) (column_entries p t) bs

-- nothing stands at the number in any column
pub record IsBare (n : ℕ) (m l : List (Option ℕ)) (r : List (Option Register)) (p : List (Option (List Id)))
    (x : List (Option Next)) : Type 0 where
  pub maps : at_number m n ≡ None
  pub lists : at_number l n ≡ None
  pub registers : at_number r n ≡ None
  pub presences : at_number p n ≡ None
  pub links : at_number x n ≡ None

-- something stands at the number of the last key, if there is one
abbrev pub IsTrimmed : Numbering → List (Option ℕ) → List (Option ℕ) → List (Option Register)
    → List (Option (List Id)) → List (Option Next) → Type 0
IsTrimmed t m l r p x = (n : ℕ) → length t.keys ≡ n + 1 → IsBare n m l r p x → ⊥

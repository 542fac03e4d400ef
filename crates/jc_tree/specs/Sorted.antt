-- Places in lists of entries that rise by key, for the lists and the searches of jc_tree.
use Rattle.std.specs.Prelude.{◌≡◌, ℕ, ◌≤◌, List, length, take, drop, slice_get, Some, Result, Ok, Err}
use Rattle.std.specs.List.{AllByRecursion}
use Rattle.std.specs.declared.cmp.Ordering.{Ordering}
use Rattle.std.specs.declared.cmp.Ordering.TheVariants.{Less}
use Rattle.jc_rules.specs.declared.id.Id.{Id}
use Rattle.jc_rules.specs.declared.key.Key.{Key}
use Rattle.jc_rules.specs.declared.key.Next.{Next}
use Rattle.jc_rules.specs.Order.{key_cmp}
use Rattle.jc_rules.specs.Entries.{IsRising, keys_of}
use Rattle.jc_rules.specs.Context.{Context, Register}

-- the entries rise by key
abbrev pub AreSorted : {X : Type 0} → List (Key × X) → Type 0
AreSorted es = IsRising key_cmp (keys_of es)

-- the key has the entry at i
pub record IsEntryAt {K X : Type 0} (k : K) (es : List (K × X)) (i : ℕ) : Type 0 where
  pub value : X
  pub entry : slice_get es i ≡ Some (k, value)

-- no entry has the key: the first i have lesser ones, the others greater ones
pub record EntryBelongsAt {K X : Type 0} (R : K → K → Ordering) (k : K) (es : List (K × X)) (i : ℕ) : Type 0 where
  pub within : i ≤ length es
  pub lesser : AllByRecursion (λ e. R e.0 k ≡ Less) (take i es)
  pub greater : AllByRecursion (λ e. R k e.0 ≡ Less) (drop i es)

-- where the key is, or else where it belongs
abbrev pub IsEntryPlace : {K X : Type 0} → (K → K → Ordering) → K → List (K × X) → Result ℕ ℕ → Type 0
IsEntryPlace R k es (Ok i) = IsEntryAt k es i
IsEntryPlace R k es (Err i) = EntryBelongsAt R k es i

-- the entries of each kind rise by key
pub record IsSortedNode (maps lists : List (Key × Context)) (registers : List (Key × Register))
    (presences : List (Key × List Id)) (links : List (Key × Next)) : Type 0 where
  pub maps_rise : AreSorted maps
  pub lists_rise : AreSorted lists
  pub registers_rise : AreSorted registers
  pub presences_rise : AreSorted presences
  pub links_rise : AreSorted links

-- Blocks of a list's elements, by the numbers of their keys: words of the fast store's nodes.
use Rattle.std.specs.Prelude.{◌≡◌, ◌≢◌, ℕ, suc, List, Option, Some, None, slice_get, cond}
use Rattle.std.specs.Int.{bit_at}
use Rattle.std.specs.declared.cmp.Ordering.TheVariants.{Greater}
use Rattle.jc_rules.specs.declared.id.Id.{Id}
use Rattle.jc_rules.specs.declared.key.Key.{Key}
use Rattle.jc_rules.specs.declared.key.Key.TheVariants.{Elem}
use Rattle.jc_rules.specs.declared.key.Next.{Next}
use Rattle.jc_rules.specs.declared.key.Next.TheVariants.{Elem as To}
use Rattle.jc_rules.specs.Order.{id_cmp, key_cmp}
use Rattle.jc_rules.specs.Entries.{find}
use Rattle.jc_tree.specs.Tree.{or_no_entries, has_ids}
use Rattle.jc_tree.specs.Arena.{go_on}
use Rattle.jc_tree.specs.declared.blocks.Spot.{Spot}

-- what a block has: numbers, a bit for each, and an identifier
pub record Members : Type 0 where
  pub numbers : List ℕ
  pub bits : ℕ
  pub least : Id

-- the number at an index of a block
abbrev pub member : List Members → ℕ → ℕ → Option ℕ
member bs b s = go_on (slice_get bs b) (λ x. slice_get x.numbers s)

-- each number of a block has its spot noted
abbrev pub AreSpots : List Spot → List Members → Type 0
AreSpots spots bs =
    (b s n : ℕ) → member bs b s ≡ Some n → slice_get spots n ≡ Some (record { block = b; index = s })

-- the first identifier is not greater than the second
abbrev pub IsAtMost : Id → Id → Type 0
IsAtMost i j = id_cmp i j ≢ Greater

-- 1 where the key's presence set has an identifier, else 0
abbrev pub presence_bit : Key → List (Key × List Id) → ℕ
presence_bit k presences = cond (has_ids (or_no_entries (find key_cmp k presences))) 1 0

-- the key with the number is linked to the identifier
pub record IsLinked (keys : List Key) (links : List (Key × Next)) (n : ℕ) (i : Id) : Type 0 where
  pub key : Key
  pub numbered : slice_get keys n ≡ Some key
  pub linked : find key_cmp key links ≡ Some (To i)

-- The number m, at the given index of a block, is that of an element that is linked behind the key with the number n. Its bit is
-- set where it is present, and its identifier is not less than the block's.
pub record IsBehind (keys : List Key) (links : List (Key × Next)) (presences : List (Key × List Id)) (x : Members)
    (index n m : ℕ) : Type 0 where
  pub id : Id
  pub numbered : slice_get keys m ≡ Some (Elem id)
  pub linked : IsLinked keys links n id
  pub bit : bit_at x.bits index ≡ presence_bit (Elem id) presences
  pub least : IsAtMost x.least id

-- in each block each number but the first is behind the one before it
abbrev pub AreFit : List Key → List (Key × Next) → List (Key × List Id) → List Members → Type 0
AreFit keys links presences bs =
    (b s n m : ℕ) (x : Members) → slice_get bs b ≡ Some x → slice_get x.numbers s ≡ Some n
    → slice_get x.numbers (suc s) ≡ Some m → IsBehind keys links presences x (suc s) n m

-- no key has two numbers
abbrev pub AreNumbered : List Key → Type 0
AreNumbered keys = (k : Key) (m n : ℕ) → slice_get keys m ≡ Some k → slice_get keys n ≡ Some k → m ≡ n

-- the entries are the same but for a key
abbrev pub DifferAt : {X : Type 0} → Key → List (Key × X) → List (Key × X) → Type 0
DifferAt k old new = (j : Key) → j ≢ k → find key_cmp j new ≡ find key_cmp j old

-- the last number of the block, if it has one, is that of a key that is linked to the identifier
abbrev pub IsLastLinked : List Key → List (Key × Next) → List Members → ℕ → Id → Type 0
IsLastLinked keys links bs b i =
    (s n : ℕ) → member bs b s ≡ Some n → member bs b (suc s) ≡ None → IsLinked keys links n i

-- no number of a block is the key's
abbrev pub IsApart : Key → List Key → List Members → Type 0
IsApart k keys bs = (b s n : ℕ) → member bs b s ≡ Some n → slice_get keys n ≢ Some k

-- the number is the key's; or else there is none, and no number of a block is the key's
abbrev pub IsNumberIn : Option ℕ → Key → List Key → List Members → Type 0
IsNumberIn None k keys bs = IsApart k keys bs
IsNumberIn (Some n) k keys bs = slice_get keys n ≡ Some k

-- Keys that are numbered by first use, with their order beside, and entries that are kept by number: words of the fast
-- store's nodes.
use Rattle.std.specs.Prelude.{◌≡◌, ◌≢◌, ◌<◌, ◌≤◌, ◌↔◌, ℕ, List, [], ◌∷◌, ◌++◌, length, Option, Some, None, slice_get}
use Rattle.jc_rules.specs.declared.key.Key.{Key}
use Rattle.jc_rules.specs.Order.{key_cmp}
use Rattle.jc_rules.specs.Entries.{find, put}
use Rattle.jc_tree.specs.Arena.{go_on}
use Rattle.jc_tree.specs.Sorted.{AreSorted}

-- the keys by first use, whose numbers are their indices, and each key's number, by key
pub record Numbering : Type 0 where
  pub keys : List Key
  pub order : List (Key × ℕ)

-- the order rises, and has each key with its number
pub record IsNumbered (t : Numbering) : Type 0 where
  pub rise : AreSorted t.order
  pub same : (k : Key) (n : ℕ) → find key_cmp k t.order ≡ Some n ↔ slice_get t.keys n ≡ Some k

-- with one key more, which gets the next number
abbrev pub with_key : Key → Numbering → Numbering
with_key k t = record { keys = t.keys ++ k ∷ []; order = put key_cmp k (length t.keys) t.order }

-- The key has the number: it had it before, or it had none and is the one key more.
pub data GetsNumber (k : Key) (n : ℕ) (old new : Numbering) : Type 0 where
  had : find key_cmp k old.order ≡ Some n → new ≡ old → GetsNumber k n old new
  gets : find key_cmp k old.order ≡ None → n ≡ length old.keys → new ≡ with_key k old → GetsNumber k n old new

-- what a column has at a number: nothing past its end
abbrev pub at_number : {X : Type 0} → List (Option X) → ℕ → Option X
at_number col n = go_on (slice_get col n) (λ o. o)

-- The column has that at the number, and elsewhere what it had; it is no longer than it was, but for the number.
pub record IsSetAt {X : Type 0} (n : ℕ) (o : Option X) (old new : List (Option X)) : Type 0 where
  pub here : at_number new n ≡ o
  pub others : (m : ℕ) → m ≢ n → at_number new m ≡ at_number old m
  pub within : (most : ℕ) → length old ≤ most → n < most → length new ≤ most

abbrev pub adding : {K X : Type 0} → K → Option X → List (K × X) → List (K × X)
adding k None r = r
adding k (Some x) r = (k, x) ∷ r

-- the entries of which p gives the values by number, in the order of the keys
abbrev pub shown : {K N X : Type 0} → (N → Option X) → List (K × N) → List (K × X)
shown p [] = []
shown p (e ∷ es) = adding e.0 (p e.1) (shown p es)

-- the entries of a column
abbrev pub column_entries : {X : Type 0} → List (Option X) → Numbering → List (Key × X)
column_entries col t = shown (λ n. at_number col n) t.order

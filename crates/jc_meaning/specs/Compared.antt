-- What `same_tree` compares of two contexts, key by key: children, registers, presence sets and links.
use Rattle.std.specs.Prelude.{◌≡◌, Bool, ◌||◌, Option, Some, None, is_some, IsTrue}
use Rattle.jc_rules.specs.declared.key.Key.{Key}
use Rattle.jc_rules.specs.declared.key.Tagged.{Tagged}
use Rattle.jc_rules.specs.declared.key.Tagged.TheVariants.{MapT, ListT}
use Rattle.jc_rules.specs.Order.{key_cmp}
use Rattle.jc_rules.specs.Entries.{find}
use Rattle.jc_rules.specs.Context.{Context, registers, content, presence, next}
use Rattle.jc_rules.specs.ContextsAt.{node_in}
use Rattle.jc_rules.specs.WellFormed.{drop}
use Rattle.jc_tree.specs.Tree.{has_ids, or_no_entries}
use Rattle.jc_meaning.specs.Seen.{ids_at}
use Rattle.jc_meaning.specs.ClearingEffects.{is_tagged}

-- both are there and related, or neither is
abbrev pub Both : {X Y : Type 0} → (X → Y → Type 0) → Option X → Option Y → Type 0
Both S None None = Unit {0}
Both S (Some x) (Some y) = S x y
Both S None (Some y) = ⊥
Both S (Some x) None = ⊥

-- one tree but for empty presence sets
abbrev pub SameTree : Context → Context → Type 0
SameTree c d = drop c ≡ drop d

-- the same context under the tagged key, or none
abbrev pub IsSameNode : Tagged → Context → Context → Type 0
IsSameNode t c d = Both SameTree (node_in (content t c)) (node_in (content t d))

-- the same register, presence set and link under the key; a missing presence set counts as empty
pub record AreSameEntries (c d : Context) (k : Key) : Type 0 where
  pub registers : find key_cmp k (registers c) ≡ find key_cmp k (registers d)
  pub presences : ids_at k c ≡ ids_at k d
  pub links : next k c ≡ next k d

-- all is the same under the key
pub record IsSameKey (c d : Context) (k : Key) : Type 0 where
  pub maps : IsSameNode (MapT k) c d
  pub lists : IsSameNode (ListT k) c d
  pub entries : AreSameEntries c d k

-- whether anything stands under the key, but for an empty presence set
abbrev pub stands : Context → Key → Bool
stands c k = has_ids (or_no_entries (presence k c)) || (is_some (next k c) || is_tagged k c)

-- if anything stands under the key in the second, then in the first too
abbrev pub HasKey : Context → Context → Key → Type 0
HasKey c d k = IsTrue (stands d k) → IsTrue (stands c k)

abbrev pub HasKeys : Context → Context → Type 0
HasKeys c d = (k : Key) → HasKey c d k

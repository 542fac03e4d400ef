-- What each context of a tree must have so that clearing takes exactly what an operation depends on (`Tidy`), and what
-- it takes (`TakesAway`). `Laws` cites both.
use Rattle.std.specs.Prelude.{◌≡◌, List, Bool, true, not, ◌||◌, ◌&&◌, cond, None, is_some}
use Rattle.jc_rules.specs.declared.id.Id.{Id}
use Rattle.jc_rules.specs.declared.key.Key.{Key}
use Rattle.jc_rules.specs.declared.key.Key.TheVariants as K
use Rattle.jc_rules.specs.declared.key.Tagged.{Tagged}
use Rattle.jc_rules.specs.declared.key.Tagged.TheVariants.{MapT, ListT, RegT}
use Rattle.jc_rules.specs.Order.{same_key}
use Rattle.jc_rules.specs.Ids.{has_id}
use Rattle.jc_rules.specs.Context.{Context, content, next, key_of_tagged}
use Rattle.jc_rules.specs.ContextsAt.{first_key}
use Rattle.jc_rules.specs.WellFormed.{LeadsThrough, chain_of}
use Rattle.jc_rules.specs.Table.{is_done}
use Rattle.jc_meaning.specs.Effects.{list_at}
use Rattle.jc_meaning.specs.Seen.{context_or_new, seen, ids_at, value_seen_at, has_tag}

-- the context has the key under some tag
abbrev pub is_tagged : Key → Context → Bool
is_tagged k c = has_tag (MapT k) c || (has_tag (ListT k) c || has_tag (RegT k) c)

-- One context: an identifier directly below a node is in the node's presence set, one in a register is in its key's
-- presence set, a key with a presence set that isn't empty has a tag, and in a list each key with a tag is linked.
pub record TidyAt (list : Bool) (d : Context) : Type 0 where
  pub under : (u : Tagged) (l : Key) (i : Id)
      → has_id i (ids_at l (context_or_new (content u d) u)) ≡ true
      → has_id i (ids_at (key_of_tagged u) d) ≡ true
  pub written : (k : Key) (i : Id) → is_some (value_seen_at i k d) ≡ true → has_id i (ids_at k d) ≡ true
  pub tagged : (k : Key) (i : Id) → has_id i (ids_at k d) ≡ true → is_tagged k d ≡ true
  pub linked : list ≡ true
      → (is : List Id)
      × LeadsThrough d K.Head is
      × ((k : Key) → is_tagged k d ≡ true → is_done (chain_of is) k ≡ true)

-- each context below the root is tidy; the flag says whether the root is a list's
abbrev pub Tidy : Bool → Context → Type 0
Tidy b c = (P : List Tagged) → TidyAt (list_at b P) (seen P c)

-- Tags and links stay. The identifiers of the set go from the presence sets at the places of p and from the registers
-- at the places of r, and all others stay there.
pub record TakesAway (c d : Context) (deps : List Id) (p r : List Tagged → Key → Bool) : Type 0 where
  pub tags : (P : List Tagged) (u : Tagged) → has_tag u (seen P d) ≡ has_tag u (seen P c)
  pub ids : (P : List Tagged) (k : Key) (i : Id)
      → has_id i (ids_at k (seen P d)) ≡ (has_id i (ids_at k (seen P c)) && not (p P k && has_id i deps))
  pub values : (P : List Tagged) (k : Key) (i : Id)
      → value_seen_at i k (seen P d) ≡ cond (r P k && has_id i deps) None (value_seen_at i k (seen P c))
  pub links : (P : List Tagged) (k : Key) → next k (seen P d) ≡ next k (seen P c)

-- at the key or below it
abbrev pub in_key : Key → List Tagged → Key → Bool
in_key k P l = same_key k (first_key P l)

-- The elements of a list in their order, and which lists are linked already; the contracts of `ordering` cite it.
use Rattle.std.specs.Prelude.{◌≡◌, ◌≢◌, ◌⊎◌, List, [], ◌&&◌, Bool, true, false, Option, Some, None}
use Rattle.jc_rules.specs.declared.id.Id.{Id}
use Rattle.jc_rules.specs.declared.key.Key.{Key}
use Rattle.jc_rules.specs.declared.key.Key.TheVariants as K
use Rattle.jc_rules.specs.declared.key.Next.{Next}
use Rattle.jc_rules.specs.declared.key.Next.TheVariants.{Tail}
use Rattle.jc_rules.specs.declared.key.Tagged.{Tagged}
use Rattle.jc_rules.specs.declared.operation.Op.{Op}
use Rattle.jc_rules.specs.Ids.{has_id}
use Rattle.jc_rules.specs.Context.{Context, next}
use Rattle.jc_meaning.specs.Effects.{same_path, list_at, is_insert}
use Rattle.jc_meaning.specs.Seen.{seen, ids_at, value_seen_at, has_tag}
use Rattle.jc_meaning.specs.Forest.{Forest, preorder, Hangs, follow}
use Rattle.jc_meaning.specs.Meaning.{some_op, hangs_at, AreFilled}
use Rattle.jc_meaning.specs.Growth.{LinksIds}

-- The identifiers are those of the inserts that are reached from the head of the list at the path, in the list's order.
pub record IsListing (O : List Op) (P : List Tagged) (is : List Id) : Type 0 where
  pub forest : Forest
  pub hangs : Hangs (hangs_at O P) K.Head None forest
  pub listed : is ≡ preorder forest

-- the operation inserts into the list at the path
abbrev pub inserts_at : List Tagged → Op → Bool
inserts_at P o = is_insert o.mutation && same_path o.cursor.path P

-- the links of a new list; elsewhere there are none
abbrev pub unlinked : Bool → Key → Option Next
unlinked true k = follow K.Head [] k
unlinked false k = None

-- The lists into which operations of the first set insert are linked as all operations mean them, and no others are.
pub record AreLinked (some all : List Op) (c : Context) : Type 0 where
  pub done : (P : List Tagged) → list_at false P ≡ true → some_op (inserts_at P) some ≡ true
      → (is : List Id) × IsListing all P is × ((k : Key) → next k (seen P c) ≡ follow K.Head is k)
  pub rest : (P : List Tagged) → (list_at false P && some_op (inserts_at P) some) ≡ false
      → (k : Key) → next k (seen P c) ≡ unlinked (list_at false P) k

-- The elements of the list at the path are linked where nothing followed its head; else nothing is changed.
abbrev pub LinksNew : List Tagged → List Op → Context → Context → Type 0
LinksNew P O c d =
    ((next K.Head (seen P c) ≢ Some Tail) × (d ≡ c))
    ⊎ ((next K.Head (seen P c) ≡ Some Tail) × (is : List Id) × IsListing O P is × LinksIds P is c d)

-- Only links have changed.
pub record IsSameButLinks (c d : Context) : Type 0 where
  pub tags : (P : List Tagged) (u : Tagged) → has_tag u (seen P d) ≡ has_tag u (seen P c)
  pub ids : (P : List Tagged) (k : Key) (i : Id) → has_id i (ids_at k (seen P d)) ≡ has_id i (ids_at k (seen P c))
  pub values : (P : List Tagged) (k : Key) (i : Id) → value_seen_at i k (seen P d) ≡ value_seen_at i k (seen P c)
  pub filled : AreFilled c → AreFilled d

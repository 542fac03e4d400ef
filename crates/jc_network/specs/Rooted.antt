-- Rooted cursors and right links of a replica that has applied the operations with the identifiers `ops`. `In` holds
-- of the operations that were made.
use Rattle.std.specs.Prelude.{◌≡◌, ◌≢◌, List, [], ◌∷◌, ◌++◌, true, Some, None}
use Rattle.std.specs.List.{AllByRecursion}
use Rattle.jc_rules.specs.declared.id.Id.{Id}
use Rattle.jc_rules.specs.declared.key.Key.{Key}
use Rattle.jc_rules.specs.declared.key.Key.TheVariants.{Head, Elem}
use Rattle.jc_rules.specs.declared.key.Next.TheVariants.{Elem as To}
use Rattle.jc_rules.specs.declared.key.Tagged.{Tagged}
use Rattle.jc_rules.specs.declared.key.Tagged.TheVariants.{ListT}
use Rattle.jc_rules.specs.declared.operation.Op.{Op}
use Rattle.jc_rules.specs.declared.operation.Cursor.{Cursor}
use Rattle.jc_rules.specs.Order.{key_cmp}
use Rattle.jc_rules.specs.Entries.{find}
use Rattle.jc_rules.specs.Ids.{has_id}
use Rattle.jc_rules.specs.ContextsAt.{IsAtOrAbove}
use Rattle.jc_rules.specs.Sound.{IsInsert}
use Rattle.jc_rules.specs.State.{Bound, ACursor, Names, Pairs}
use Rattle.jc_network.specs.LinksEverywhere.{LinksHold}
use Rattle.jc_rules.specs.Paths.{HasContext}

-- a path that ends in a list
abbrev pub IsListPath : List Tagged → Type 0
IsListPath P = (above : List Tagged) × (l : Key) × (P ≡ above ++ ListT l ∷ [])

-- an operation that was made inserted the identifier into the list at the path
pub record IsInserted (In : Op → Type 0) (i : Id) (P : List Tagged) : Type 0 where
  pub op : Op
  pub made : In op
  pub is : op.id ≡ i
  pub inserts : IsInsert op.mutation
  pub path : op.cursor.path ≡ P

-- a key that may be directly below a list: its head, or an element whose insert was applied
pub data IsRootKey (In : Op → Type 0) (ops : List Id) (P : List Tagged) (k : Key) : Type 0 where
  head : k ≡ Head → IsRootKey In ops P k
  element : (i : Id) → k ≡ Elem i → has_id i ops ≡ true → IsInserted In i P → IsRootKey In ops P k

-- each key of the cursor that is directly below a list may be there
pub record IsRootedCursor (In : Op → Type 0) (ops : List Id) (cur : Cursor) : Type 0 where
  pub plain : AllByRecursion HasContext cur.path
  pub rooted : (above : List Tagged) (l k : Key)
      → IsAtOrAbove (above ++ ListT l ∷ []) k cur.path cur.last
      → IsRootKey In ops (above ++ ListT l ∷ []) k

abbrev pub IsRootedBound : (Op → Type 0) → List Id → Bound → Type 0
IsRootedBound In ops (ACursor cur) = IsRootedCursor In ops cur
IsRootedBound In ops (Names ks) = Unit {0}
IsRootedBound In ops (Pairs vs) = Unit {0}

-- The links of the context at P: only lists have some, each key may be there, what follows a key has a link too, and a
-- list's head has one.
pub record AreRightLinks (In : Op → Type 0) (ops : List Id) (P : List Tagged) (n : LinksHold) : Type 0 where
  pub keys : AllByRecursion (λ e. IsListPath P × IsRootKey In ops P e.0) n
  pub closed : (k : Key) (j : Id) → find key_cmp k n ≡ Some (To j) → find key_cmp (Elem j) n ≢ None
  pub headed : IsListPath P → find key_cmp Head n ≢ None

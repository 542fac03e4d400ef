-- What a set of operations means at each place, and the trees of which that is true. `meaning` and the laws cite it.
use Rattle.std.specs.Prelude.{◌≡◌, ◌≢◌, List, [], ◌∷◌, Bool, true, false, not, ◌||◌, ◌&&◌, cond, Option, Some, None}
use Rattle.std.specs.List.{AllByRecursion}
use Rattle.jc_rules.specs.declared.id.Id.{Id}
use Rattle.jc_rules.specs.declared.key.Key.{Key}
use Rattle.jc_rules.specs.declared.key.Key.TheVariants as K
use Rattle.jc_rules.specs.declared.key.Tagged.{Tagged}
use Rattle.jc_rules.specs.declared.operation.Op.{Op}
use Rattle.jc_rules.specs.declared.value.Value.{Value}
use Rattle.jc_rules.specs.Order.{same_key}
use Rattle.jc_rules.specs.Ids.{has_id}
use Rattle.jc_rules.specs.Context.{Context, context, Children, no_child, child, next}
use Rattle.jc_rules.specs.Table.{op_of}
use Rattle.jc_meaning.specs.Effects.{same_path, list_at, is_insert, touches, clears, written_by, overwrites, goes_through}
use Rattle.jc_meaning.specs.Seen.{seen, ids_at, value_seen_at, has_tag}
use Rattle.jc_meaning.specs.Forest.{Forest, preorder, Hangs, follow}

-- whether it holds of some operation
abbrev pub some_op : (Op → Bool) → List Op → Bool
some_op f [] = false
some_op f (o ∷ os) = f o || some_op f os

abbrev pub holds_of : (Op → Bool) → Option Op → Bool
holds_of f None = false
holds_of f (Some o) = f o

-- an operation that clears the place depends on the identifier
abbrev pub is_cleared : List Op → List Tagged → Key → Id → Bool
is_cleared O P k i = some_op (λ c. clears c P k && has_id i c.deps) O

-- the identifier's operation touches the place, and the identifier isn't cleared there
abbrev pub is_present : List Op → List Tagged → Key → Id → Bool
is_present O P k i = holds_of (λ o. touches o P k) (op_of i O) && not (is_cleared O P k i)

abbrev pub written_of : Option Op → List Tagged → Key → Option Value
written_of None P k = None
written_of (Some o) P k = written_by o P k

-- what the identifier's operation writes there, unless an operation that depends on it clears or overwrites the place
abbrev pub value_written : List Op → List Tagged → Key → Id → Option Value
value_written O P k i =
    cond (is_cleared O P k i || some_op (λ a. overwrites a P k && has_id i a.deps) O)
    None
    (written_of (op_of i O) P k)

-- some operation goes through the tagged key, or makes it
abbrev pub goes : List Op → List Tagged → Tagged → Bool
goes O P u = some_op (λ o. goes_through o P u) O

-- an insert into the list at the path, after the key
abbrev pub names : List Tagged → Key → Op → Bool
names P k o = is_insert o.mutation && (same_path o.cursor.path P && same_key o.cursor.last k)

abbrev pub hangs_at : List Op → List Tagged → Key → Id → Bool
hangs_at O P k i = holds_of (names P k) (op_of i O)

-- In a list the links lead from the head through the preorder of a forest. In it each insert hangs below the key that
-- it names, siblings by falling identifier. An insert that isn't reached from the head isn't linked. Elsewhere nothing
-- is linked.
abbrev pub LinksOf : Bool → List Op → List Tagged → Context → Type 0
LinksOf true O P d =
    (f : Forest)
    × Hangs (hangs_at O P) K.Head None f
    × ((k : Key) → next k d ≡ follow K.Head (preorder f) k)
LinksOf false O P d = (k : Key) → next k d ≡ None

-- The tree is what the operations mean, but for empty presence sets: which tagged keys are there, what is in presence
-- sets and registers, and the links. The order in which operations were applied occurs nowhere.
pub record Means (O : List Op) (t : Context) : Type 0 where
  pub tags : (P : List Tagged) (u : Tagged) → has_tag u (seen P t) ≡ goes O P u
  pub ids : (P : List Tagged) (k : Key) (i : Id) → has_id i (ids_at k (seen P t)) ≡ is_present O P k i
  pub values : (P : List Tagged) (k : Key) (i : Id) → value_seen_at i k (seen P t) ≡ value_written O P k i
  pub links : (P : List Tagged) → LinksOf (list_at false P) O P (seen P t)

-- at no depth is a presence set empty
abbrev mutual
  pub AreFilled : Context → Type 0
  AreFilled (context m l r p n) = AllByRecursion (λ e. e.1 ≢ []) p × AreAllFilled m × AreAllFilled l

  pub AreAllFilled : Children → Type 0
  AreAllFilled no_child = Unit {0}
  AreAllFilled (child k c cs) = AreFilled c × AreAllFilled cs

-- The tree is what the operations mean.
pub record IsMeaning (O : List Op) (t : Context) : Type 0 where
  pub means : Means O t
  pub filled : AreFilled t

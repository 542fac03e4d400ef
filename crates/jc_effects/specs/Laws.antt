-- That a tree is the next one after another by an operation, and the statements of the crate's laws (`laws`).
use Rattle.std.specs.Prelude.{◌≡◌, ℕ, List, ◌++◌, true, false, not, ◌&&◌, ◌||◌, is_some, Contains}
use Rattle.std.specs.List.{AllByRecursion}
use Rattle.jc_rules.specs.declared.id.Id.{Id}
use Rattle.jc_rules.specs.declared.key.Key.{Key}
use Rattle.jc_rules.specs.declared.key.Tagged.{Tagged}
use Rattle.jc_rules.specs.declared.key.Tagged.TheVariants.{MapT, ListT, RegT}
use Rattle.jc_rules.specs.declared.operation.Event.{Event}
use Rattle.jc_rules.specs.declared.operation.Op.{Op}
use Rattle.jc_rules.specs.declared.rule.Rule.{Rule}
use Rattle.jc_rules.specs.Order.{same_id}
use Rattle.jc_rules.specs.Ids.{has_id}
use Rattle.jc_rules.specs.Context.{Context}
use Rattle.jc_rules.specs.Derivation.{Operate, ToContext}
use Rattle.jc_rules.specs.Paths.{HasContext}
use Rattle.jc_rules.specs.Refused.{IsAnswered}
use Rattle.jc_rules.specs.State.{State}
use Rattle.jc_rules.specs.Step.{Step}
use Rattle.jc_rules.specs.Syntax.{Cmd}
use Rattle.jc_vectors.specs.OperationIds.{with_deps}
use Rattle.jc_vectors.specs.StoredStates.{stored_op}
use Rattle.jc_network.specs.Applied.{applied_ops}
use Rattle.jc_network.specs.Laws.{IsReached}
use Rattle.jc_meaning.specs.Effects.{same_path, is_insert, touches, clears, written_by, overwrites, goes_through}
use Rattle.jc_meaning.specs.Seen.{seen, ids_at, value_seen_at}
use Rattle.jc_meaning.specs.Meaning.{Means}
use Rattle.jc_meaning.specs.ClearingEffects.{in_key}
use Rattle.jc_meaning.specs.Laws.{ComesNext}
use Rattle.jc_effects.specs.Difference.{Differences, IsDifference, IsSameAt, IsSameFrom}
use Rattle.jc_effects.specs.Places.{differs_at}

-- The operation leads from the one tree to the other, and the first one is what the operations mean that were applied
-- before it.
pub record IsNextTree (o : Op) (c d : Context) : Type 0 where
  pub set : List Op
  pub next : ComesNext set o
  pub means : Means set c
  pub leads : IsAnswered (Operate c o) (ToContext d)

-- So it is with some dependencies in place of the operation's own. A stored operation has a version vector, which names
-- more than it depends on.
abbrev pub IsChangedBy : Op → Context → Context → Type 0
IsChangedBy o c d = (deps : List Id) × IsNextTree (with_deps deps o) c d

-- the operation neither touches nor clears the place, and makes nothing there
pub record IsAway (o : Op) (P : List Tagged) (k : Key) : Type 0 where
  pub untouched : touches o P k ≡ false
  pub uncleared : clears o P k ≡ false
  pub no_map : goes_through o P (MapT k) ≡ false
  pub no_list : goes_through o P (ListT k) ≡ false
  pub no_register : goes_through o P (RegT k) ≡ false

-- Away from an operation, and in another list than that into which it inserts, nothing differs.
abbrev pub NothingElsewhere : Type 0
NothingElsewhere =
    (o : Op) (c d : Context)
    → IsNextTree o c d
    → (P : List Tagged) (k : Key)
    → IsAway o P k
    → (is_insert o.mutation && same_path o.cursor.path P) ≡ false
    → IsSameAt k (seen P c) (seen P d)

-- no identifier went from the key's presence set
abbrev pub LosesNone : Key → Context → Context → Type 0
LosesNone k c d = (i : Id) → has_id i (ids_at k c) ≡ true → has_id i (ids_at k d) ≡ true

-- Where an operation clears a place that it doesn't touch, and no identifier goes from its presence set, nothing goes
-- below it.
abbrev pub LossesGoDown : Type 0
LossesGoDown =
    (o : Op) (c d : Context)
    → IsNextTree o c d
    → (P : List Tagged) (k : Key)
    → clears o P k ≡ true
    → touches o P k ≡ false
    → LosesNone k (seen P c) (seen P d)
    → (R : List Tagged) (l : Key)
    → in_key k R l ≡ true
    → (i : Id)
    → has_id i (ids_at l (seen (P ++ R) c)) ≡ true
    → has_id i (ids_at l (seen (P ++ R) d)) ≡ true

-- What came to a place and what went from it, in an identifier's presence and its value.
pub record IsEffect (o : Op) (P : List Tagged) (k : Key) (i : Id) (c d : Context) : Type 0 where
  -- exactly the operation's identifier comes, and exactly to the places that the operation touches
  pub gained : (has_id i (ids_at k d) && not (has_id i (ids_at k c))) ≡ (same_id i o.id && touches o P k)
  -- exactly what the operation depends on goes, and exactly from the places that the operation clears
  pub lost : (has_id i (ids_at k c) && not (has_id i (ids_at k d)))
      ≡ (has_id i (ids_at k c) && (clears o P k && has_id i o.deps))
  -- exactly the operation's value comes, at its target
  pub written : (is_some (value_seen_at i k d) && not (is_some (value_seen_at i k c)))
      ≡ (same_id i o.id && is_some (written_by o P k))
  -- exactly the values go that the operation depends on, from the places that it clears or overwrites
  pub taken : (is_some (value_seen_at i k c) && not (is_some (value_seen_at i k d)))
      ≡ (is_some (value_seen_at i k c) && ((clears o P k || overwrites o P k) && has_id i o.deps))

-- The effects of an operation are exactly what it gains on its path and takes at and below its target.
abbrev pub EffectsOfOne : Type 0
EffectsOfOne =
    (o : Op) (c d : Context)
    → IsNextTree o c d
    → (P : List Tagged) (k : Key) (i : Id)
    → IsEffect o P k i (seen P c) (seen P d)

-- Two trees have one difference.
abbrev pub OneDifference : Type 0
OneDifference = (c d : Context) (x y : Differences) → IsDifference c d x → IsDifference c d y → x ≡ y

-- They do have one where an operation leads from the one tree to the other. Not any two trees have one: no word of a
-- difference says that a tag is gone, or that a value is another one under its identifier.
abbrev pub SomeDifference : Type 0
SomeDifference = (o : Op) (c d : Context) → IsNextTree o c d → (x : Differences) × IsDifference c d x

-- Where a difference says that nothing differs at a key of the context at a path of maps and lists, or below it,
-- everything is the same there and below.
abbrev pub SameWhereNoneDiffers : Type 0
SameWhereNoneDiffers =
    (c d : Context) (x : Differences)
    → IsDifference c d x
    → (P : List Tagged) (k : Key)
    → AllByRecursion HasContext P
    → differs_at P k x ≡ false
    → IsSameFrom k (seen P c) (seen P d)

-- ---- events

-- The operation is applied in the second state, and isn't in the first.
pub record AppliesOp (A B : State) (o : Op) : Type 0 where
  pub now : Contains (applied_ops B) o
  pub before : has_id o.id A.ops ≡ false

-- In each network that is reached from a start, an event that applies an operation leads to the next tree by it.
abbrev pub EventsChange : Type 0
EventsChange =
    (scripts : List (List Cmd)) (network new : List State) (event : Event) (rows : List (Rule × ℕ))
    → IsReached scripts network
    → (made : Step network event new rows)
    → (o : Op)
    → AppliesOp made.before made.after o
    → IsNextTree o made.before.tree made.after.tree

-- There an event applies one operation at most.
abbrev pub EventsApplyOne : Type 0
EventsApplyOne =
    (scripts : List (List Cmd)) (network new : List State) (event : Event) (rows : List (Rule × ℕ))
    → IsReached scripts network
    → (made : Step network event new rows)
    → (o p : Op)
    → AppliesOp made.before made.after o
    → AppliesOp made.before made.after p
    → o ≡ p

-- There an event that applies none leaves the tree as it was.
abbrev pub OthersChangeNothing : Type 0
OthersChangeNothing =
    (scripts : List (List Cmd)) (network new : List State) (event : Event) (rows : List (Rule × ℕ))
    → IsReached scripts network
    → (made : Step network event new rows)
    → ((o : Op) → AppliesOp made.before made.after o → ⊥)
    → made.after.tree ≡ made.before.tree

-- The next tree by an operation is one by the operation as it is kept.
abbrev pub StoredOpsChange : Type 0
StoredOpsChange = (o : Op) (c d : Context) → IsNextTree o c d → IsChangedBy (stored_op o) c d

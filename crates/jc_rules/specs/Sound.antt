-- Sound sets of operations: lists of operations that belong together.
use Rattle.std.specs.Prelude.{◌≡◌, ◌≤◌, ◌<◌, List, [], ◌∷◌, ◌++◌, true, Some, Contains, ◌⊎◌}
use Rattle.jc_rules.specs.declared.id.Id.{Id}
use Rattle.jc_rules.specs.declared.key.Key.{Key}
use Rattle.jc_rules.specs.declared.key.Key.TheVariants.{Head, Elem}
use Rattle.jc_rules.specs.declared.key.Tagged.{Tagged}
use Rattle.jc_rules.specs.declared.key.Tagged.TheVariants.{ListT}
use Rattle.jc_rules.specs.declared.operation.Op.{Op}
use Rattle.jc_rules.specs.declared.operation.Mutation.{Mutation}
use Rattle.jc_rules.specs.declared.operation.Mutation.TheVariants.{Assign, Insert, Delete}
use Rattle.jc_rules.specs.Ids.{AreRising, has_id, AreIn}
use Rattle.jc_rules.specs.ContextsAt.{IsAtOrAbove}
use Rattle.jc_rules.specs.Table.{op_of}

-- an operation on which another one depends: it has a smaller counter, and what it depends on is depended on too
pub record IsDependency (e o : Op) : Type 0 where
  pub earlier : e.id.counter < o.id.counter
  pub closed : AreIn e.deps o.deps

-- A sound set: counters begin at 1, one operation for each identifier, each dependency is an operation of the set with
-- a smaller counter whose dependencies are among the later one's, and of two operations of one replica the later one
-- depends on the earlier one. Dependencies are sets, so their lists rise.
pub record IsSound (set : List Op) : Type 0 where
  pub counted : (o : Op) → Contains set o → 1 ≤ o.id.counter
  pub one_each : (o : Op) → Contains set o → op_of o.id set ≡ Some o
  pub rising : (o : Op) → Contains set o → AreRising o.deps
  pub closed : (o : Op) → Contains set o → (i : Id) → has_id i o.deps ≡ true
      → (e : Op) × (op_of i set ≡ Some e) × IsDependency e o
  pub in_order : (e o : Op) → Contains set e → Contains set o
      → e.id.replica ≡ o.id.replica
      → e.id.counter < o.id.counter
      → has_id e.id o.deps ≡ true

abbrev pub IsInsert : Mutation → Type 0
IsInsert (Insert v) = Unit {0}
IsInsert (Assign v) = ⊥
IsInsert Delete = ⊥

-- the key is an element that an operation of the set inserted into the list at the path, and the identifier is a
-- dependency
abbrev pub IsRootedAt : List Op → Op → List Tagged → Key → Type 0
IsRootedAt set o list k =
    (i : Id)
    × (k ≡ Elem i)
    × (has_id i o.deps ≡ true)
    × (e : Op)
    × (op_of i set ≡ Some e)
    × IsInsert e.mutation
    × (e.cursor.path ≡ list)

-- A rooted set: where an operation's cursor goes through a list, the key directly below is the head or an element that
-- was inserted into that list before.
abbrev pub IsRooted : List Op → Type 0
IsRooted set =
    (o : Op) → Contains set o → (above : List Tagged) → (l k : Key)
    → IsAtOrAbove (above ++ ListT l ∷ []) k o.cursor.path o.cursor.last
    → (k ≡ Head) ⊎ IsRootedAt set o (above ++ ListT l ∷ []) k

-- The invariant of every network that events lead to from a start, from which the laws are proved.
use Rattle.std.specs.Prelude.{◌≡◌, ℕ, ◌+◌, ◌≤◌, ◌<◌, List, [], ◌∷◌, true, Some, Contains, ◌⊎◌, slice_get, length}
use Rattle.std.specs.List.{AllByRecursion}
use Rattle.jc_rules.specs.declared.id.Id.{Id}
use Rattle.jc_rules.specs.declared.key.Key.TheVariants.{Elem}
use Rattle.jc_rules.specs.declared.operation.Op.{Op}
use Rattle.jc_rules.specs.Ids.{AreRising, has_id, AreIn}
use Rattle.jc_rules.specs.Sound.{IsDependency, IsInsert}
use Rattle.jc_rules.specs.State.{State}
use Rattle.jc_network.specs.LinksEverywhere.{Everywhere, Reach}
use Rattle.jc_network.specs.Rooted.{IsListPath, IsRootedCursor, IsRootedBound, AreRightLinks}

-- the state of replica p
abbrev pub IsReplicaAt : List State → ℕ → State → Type 0
IsReplicaAt network p A = slice_get network p ≡ Some A

-- an operation that its replica has made
pub record IsMadeOp (network : List State) (o : Op) : Type 0 where
  pub at : State
  pub there : slice_get network o.id.replica ≡ Some at
  pub queued : Contains at.queue o

-- a sound set; `In` holds of its operations
pub record IsSoundOf (In : Op → Type 0) : Type 0 where
  pub counted : (o : Op) → In o → 1 ≤ o.id.counter
  pub one_each : (o e : Op) → In o → In e → o.id ≡ e.id → o ≡ e
  pub rising : (o : Op) → In o → AreRising o.deps
  pub closed : (o : Op) → In o → (i : Id) → has_id i o.deps ≡ true
      → (e : Op) × In e × (e.id ≡ i) × IsDependency e o
  pub in_order : (e o : Op) → In e → In o
      → e.id.replica ≡ o.id.replica
      → e.id.counter < o.id.counter
      → has_id e.id o.deps ≡ true

-- The sets of a network: a queue has its replica's operations, which are all applied there; what a replica offers it
-- made; what is received was made; what is applied is in the replica's queue or was received, with its dependencies
-- applied; and what was made is sound.
pub record HasSoundOps (network : List State) : Type 0 where
  pub own : (p : ℕ) (A : State) (o : Op) → IsReplicaAt network p A → Contains A.queue o
      → (o.id.replica ≡ p) × (has_id o.id A.ops ≡ true)
  pub sent : (p : ℕ) (A : State) (o : Op) → IsReplicaAt network p A → Contains A.send o
      → (o.id.replica ≡ p) × IsMadeOp network o
  pub received : (p : ℕ) (A : State) (o : Op) → IsReplicaAt network p A → Contains A.recv o → IsMadeOp network o
  pub applied : (p : ℕ) (A : State) (i : Id) → IsReplicaAt network p A → has_id i A.ops ≡ true
      → (o : Op) × (Contains A.queue o ⊎ Contains A.recv o) × (o.id ≡ i)
  pub rising : (p : ℕ) (A : State) → IsReplicaAt network p A → AreRising A.ops
  pub closed : (p : ℕ) (A : State) (o : Op) → IsReplicaAt network p A → IsMadeOp network o
      → has_id o.id A.ops ≡ true
      → AreIn o.deps A.ops
  pub sound : IsSoundOf (IsMadeOp network)

-- what is known of a replica's tree and variables
pub record IsKnown (In : Op → Type 0) (A : State) : Type 0 where
  pub tree : Everywhere (AreRightLinks In A.ops) A.tree
  pub vars : AllByRecursion (λ v. IsRootedBound In A.ops v.1) A.vars

-- The trees of a network: each operation's cursor is rooted in its dependencies, an insert's path ends in a list, the
-- links and variables of each replica are right, and what an applied insert has inserted is linked.
pub record HasRootedTrees (network : List State) : Type 0 where
  pub rooted : (o : Op) → IsMadeOp network o → IsRootedCursor (IsMadeOp network) o.deps o.cursor
  pub listed : (o : Op) → IsMadeOp network o → IsInsert o.mutation → IsListPath o.cursor.path
  pub known : (p : ℕ) (A : State) → IsReplicaAt network p A → IsKnown (IsMadeOp network) A
  pub linked : (p : ℕ) (A : State) (o : Op) → IsReplicaAt network p A → IsMadeOp network o
      → has_id o.id A.ops ≡ true
      → IsInsert o.mutation
      → Reach A.tree o.cursor.path (Elem o.id)

-- the commands that are left, over all replicas
abbrev pub commands_left : List State → ℕ
commands_left [] = 0
commands_left (A ∷ network) = length A.left + commands_left network

-- Of `total` commands at the start, no counter is above the number that was run.
pub record CountsCommands (total : ℕ) (network : List State) : Type 0 where
  pub left : commands_left network ≤ total
  pub counters : (o : Op) → IsMadeOp network o → o.id.counter + commands_left network ≤ total

pub record IsWell (network : List State) : Type 0 where
  pub sets : HasSoundOps network
  pub trees : HasRootedTrees network

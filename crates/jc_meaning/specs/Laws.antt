-- The statements of the crate's laws (`laws`), and the sets of operations of which they are true.
use Rattle.std.specs.Prelude.{◌≡◌, ◌↔◌, List, [], ◌∷◌, true, false, not, ◌&&◌, None, Some, is_some, Contains}
use Rattle.jc_rules.specs.declared.id.Id.{Id}
use Rattle.jc_rules.specs.declared.key.Key.{Key}
use Rattle.jc_rules.specs.declared.key.Tagged.{Tagged}
use Rattle.jc_rules.specs.declared.operation.Op.{Op}
use Rattle.jc_rules.specs.Ids.{has_id}
use Rattle.jc_rules.specs.Context.{Context, empty}
use Rattle.jc_rules.specs.Derivation.{Operate, ClearElem, ToContext, Cleared}
use Rattle.jc_rules.specs.ContextsAt.{node_at}
use Rattle.jc_rules.specs.Refused.{IsAnswered}
use Rattle.jc_rules.specs.WellFormed.{IsWellFormedContext, drop}
use Rattle.jc_rules.specs.Sound.{IsSound, IsRooted}
use Rattle.jc_rules.specs.State.{State}
use Rattle.jc_rules.specs.Syntax.{Cmd}
use Rattle.jc_rules.specs.Table.{op_of}
use Rattle.jc_network.specs.Applied.{applied_ops}
use Rattle.jc_network.specs.Laws.{IsReached}
use Rattle.jc_meaning.specs.Seen.{ids_at}
use Rattle.jc_meaning.specs.Meaning.{Means, IsMeaning}
use Rattle.jc_meaning.specs.Replicas.{IsTreeOfReplicas}
use Rattle.jc_meaning.specs.ClearingEffects.{Tidy, TakesAway, in_key}

-- what the operation depends on is in the set
abbrev pub AreDepsIn : List Op → Op → Type 0
AreDepsIn set o = (i : Id) → has_id i o.deps ≡ true → is_some (op_of i set) ≡ true

-- a sound and rooted set that is closed under dependencies
pub record IsClosedSet (set : List Op) : Type 0 where
  pub sound : IsSound set
  pub rooted : IsRooted set
  pub closed : (o : Op) → Contains set o → AreDepsIn set o

-- The operation may come next: it isn't in the set, which is closed and has what the operation depends on, and both
-- together are sound and rooted.
pub record ComesNext (set : List Op) (o : Op) : Type 0 where
  pub outside : op_of o.id set ≡ None
  pub sound : IsSound (o ∷ set)
  pub rooted : IsRooted (o ∷ set)
  pub closed : (p : Op) → Contains set p → AreDepsIn set p
  pub deps : AreDepsIn set o

-- No operations mean the empty tree.
abbrev pub NothingMeansEmpty : Type 0
NothingMeansEmpty = Means [] empty

-- What operations mean doesn't depend on their order in the list.
abbrev pub OrdersMeanTheSame : Type 0
OrdersMeanTheSame =
    (set other : List Op) (t : Context)
    → ((o : Op) → Contains set o → op_of o.id set ≡ Some o)
    → ((o : Op) → Contains other o → op_of o.id other ≡ Some o)
    → ((o : Op) → Contains set o ↔ Contains other o)
    → Means set t
    → Means other t

-- Where a tree is what a set means, a derivation of one more operation leads to what the set with it means.
abbrev pub OneMoreMeans : Type 0
OneMoreMeans =
    (set : List Op) (o : Op) (t d : Context)
    → ComesNext set o
    → Means set t
    → IsAnswered (Operate t o) (ToContext d)
    → Means (o ∷ set) d

-- What a causally closed set means is tidy.
abbrev pub MeaningsAreTidy : Type 0
MeaningsAreTidy = (set : List Op) (t : Context) → IsClosedSet set → Means set t → Tidy false t

-- In what a causally closed set means, clearing a key takes exactly the given identifiers from the presence sets and
-- registers at the key and below it, and its answer is what stays in the key's presence set.
abbrev pub ClearingTakesDeps : Type 0
ClearingTakesDeps =
    (set : List Op) (t : Context)
    → IsClosedSet set
    → Means set t
    → (path : List Tagged) (c d : Context) (deps s : List Id) (k : Key)
    → node_at path t ≡ Some c
    → IsAnswered (ClearElem c deps k) (Cleared d s)
    → TakesAway c d deps (in_key k) (in_key k)
    × ((i : Id) → has_id i s ≡ (has_id i (ids_at k c) && not (has_id i deps)))

-- The tree of each replica is what the operations mean that it has applied, in each network that events lead to.
abbrev pub TreesAreMeant : Type 0
TreesAreMeant =
    (scripts : List (List Cmd)) (network : List State)
    → IsReached scripts network
    → (A : State)
    → Contains network A
    → Means (applied_ops A) A.tree

-- Without its empty presence sets, that tree is the operations' meaning itself.
abbrev pub DroppedTreesAreMeanings : Type 0
DroppedTreesAreMeanings =
    (scripts : List (List Cmd)) (network : List State)
    → IsReached scripts network
    → (A : State)
    → Contains network A
    → IsMeaning (applied_ops A) (drop A.tree)

-- The other way round, the meaning of the operations that a replica has applied, as they are kept, is its tree without
-- empty presence sets.
abbrev pub MeaningsAreTrees : Type 0
MeaningsAreTrees = (ops : List Op) (t : Context) → IsWellFormedContext t → IsMeaning ops t → IsTreeOfReplicas ops t

-- Operations mean one tree, but for empty presence sets, whatever the order of the list.
abbrev pub OneTree : Type 0
OneTree =
    (set : List Op) (t d : Context)
    → IsWellFormedContext t
    → IsWellFormedContext d
    → Means set t
    → Means set d
    → drop t ≡ drop d

-- Replicas that have applied the same operations have the same tree, but for empty presence sets, in each network that
-- events lead to.
abbrev pub TreesConverge : Type 0
TreesConverge =
    (scripts : List (List Cmd)) (network : List State)
    → IsReached scripts network
    → (A B : State)
    → Contains network A
    → Contains network B
    → A.ops ≡ B.ops
    → drop A.tree ≡ drop B.tree

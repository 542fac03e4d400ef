-- Stored operations and states, which have version vectors, and what they represent.
use Rattle.std.specs.Prelude.{◌≡◌, ◌+◌, ℕ, List, Some, None, Contains, map, true, false}
use Rattle.std.specs.List.{AllByRecursion}
use Rattle.jc_rules.specs.declared.id.Id.{Id}
use Rattle.jc_rules.specs.declared.operation.Cursor.{Cursor}
use Rattle.jc_rules.specs.declared.operation.Mutation.{Mutation}
use Rattle.jc_rules.specs.declared.operation.Op.{Op}
use Rattle.jc_rules.specs.Context.{Context}
use Rattle.jc_rules.specs.VersionVectors.{covered, ids_up_to}
use Rattle.jc_rules.specs.Ids.{has_id, with_id, union, greatest}
use Rattle.jc_rules.specs.Order.{same_id}
use Rattle.jc_rules.specs.Sound.{IsSound}
use Rattle.jc_rules.specs.Representation.{IsCausallyClosed}
use Rattle.jc_rules.specs.State.{State}
use Rattle.jc_rules.specs.Table.{op_of, with_op}
use Rattle.jc_vectors.specs.KnownIds.{EachId, KnowsOnly}
use Rattle.jc_vectors.specs.OperationIds.{ids_of_ops, with_deps}

-- the stored operation: with a version vector for its dependencies
abbrev pub stored_op : Op → Op
stored_op o = with_deps (covered o.deps) o

-- the stored state: with version vectors for its sets
abbrev pub stored_state : State → State
stored_state A = record A {
  ops = covered A.ops;
  queue = map stored_op A.queue;
  send = map stored_op A.send;
  recv = map stored_op A.recv;
}

-- each is an operation of the set
abbrev pub AreOf : List Op → List Op → Type 0
AreOf set os = AllByRecursion (λ o. op_of o.id set ≡ Some o) os

-- In the sound set of operations the stored state represents the state A.
pub record RepresentsState (set : List Op) (A kept : State) : Type 0 where
  pub sound : IsSound set
  pub is : kept ≡ stored_state A
  pub applied : IsCausallyClosed set A.ops
  pub made : AreOf set A.queue
  pub offered : AreOf set A.send
  pub received : AreOf set A.recv
  pub knows : KnowsOnly (ids_of_ops set) A.tree

-- all operations of the set that are the replica's own are applied
abbrev pub HasOwn : List Op → ℕ → State → Type 0
HasOwn set p A = (e : Op) → Contains set e → e.id.replica ≡ p → has_id e.id A.ops ≡ true

-- no part of the state but the variables has the identifier
pub record IsUnknown (i : Id) (A : State) : Type 0 where
  pub applied : has_id i A.ops ≡ false
  pub made : op_of i A.queue ≡ None
  pub offered : op_of i A.send ≡ None
  pub received : op_of i A.recv ≡ None
  pub tree : EachId (λ j. same_id j i ≡ false) A.tree

-- the operation that the replica p makes next where these identifiers are applied
abbrev pub new_op : ℕ → List Id → Cursor → Mutation → Op
new_op p ops cur m =
    record { id = record { counter = greatest ops + 1; replica = p }; deps = ops; cursor = cur; mutation = m }

-- after an operation of the replica's own that leads to the document t, by the table
abbrev pub after_making : Op → Context → State → State
after_making o t A = record A { tree = t; ops = with_id o.id A.ops; queue = with_op o A.queue }

-- after a received one
abbrev pub after_taking : Id → Context → State → State
after_taking i t A = record A { acted = true; tree = t; ops = with_id i A.ops }

-- both as they are stored
abbrev pub after_making_stored : Op → Context → State → State
after_making_stored o t K =
    record K { tree = t; ops = union (ids_up_to o.id.replica o.id.counter) K.ops; queue = with_op o K.queue }

abbrev pub after_taking_stored : Id → Context → State → State
after_taking_stored i t K = record K { acted = true; tree = t; ops = union (ids_up_to i.replica i.counter) K.ops }

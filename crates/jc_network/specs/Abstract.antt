-- The network that stored states represent, computed from them. The model of a network has it.
use Rattle.std.specs.Prelude.{List, [], ◌∷◌, ◌++◌, map}
use Rattle.jc_rules.specs.declared.operation.Op.{Op}
use Rattle.jc_rules.specs.State.{State}
use Rattle.jc_vectors.specs.OperationIds.{ids_within, with_deps}

-- the operations in all queues: all that were made
abbrev pub queues : List State → List Op
queues [] = []
queues (K ∷ kept) = K.queue ++ queues kept

-- the operation with the identifiers of the set in place of a version vector
abbrev pub real_op : List Op → Op → Op
real_op set o = with_deps (ids_within set o.deps) o

abbrev pub real_state : List Op → State → State
real_state set K = record K {
  ops = ids_within set K.ops;
  queue = map (real_op set) K.queue;
  send = map (real_op set) K.send;
  recv = map (real_op set) K.recv;
}

-- the states with the identifiers of all operations that were made in place of version vectors
abbrev pub real : List State → List State
real kept = map (real_state (queues kept)) kept

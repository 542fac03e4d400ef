-- The statements of the laws of version vectors in sets of operations and in derivations.
use Rattle.std.specs.Prelude.{◌≡◌, ◌≤◌, ◌↔◌, List, true, Some}
use Rattle.jc_rules.specs.declared.id.Id.{Id}
use Rattle.jc_rules.specs.declared.key.Key.{Key}
use Rattle.jc_rules.specs.declared.key.Tagged.{Tagged}
use Rattle.jc_rules.specs.declared.operation.Op.{Op}
use Rattle.jc_rules.specs.Context.{Context}
use Rattle.jc_rules.specs.ContextsAt.{node_at, with_node_at}
use Rattle.jc_rules.specs.Derivation.{Operate, Clear, ClearElem, ToContext, Cleared}
use Rattle.jc_rules.specs.Derives.{Derives}
use Rattle.jc_rules.specs.VersionVectors.{covered, ids_up_to, greatest_of, truncated}
use Rattle.jc_rules.specs.Ids.{has_id, union}
use Rattle.jc_rules.specs.Sound.{IsSound}
use Rattle.jc_rules.specs.Representation.{IsCausallyClosed, Represents}
use Rattle.jc_rules.specs.Table.{op_of}
use Rattle.jc_rules.specs.Trace.{Rows}
use Rattle.jc_vectors.specs.KnownIds.{Agree, KnowsOnly}
use Rattle.jc_vectors.specs.OperationIds.{ids_of_ops, ids_within, with_deps}

-- In a sound set of operations, a causally closed set has an operation's identifier exactly where the version vector
-- covers it.
abbrev pub CountersTell : Type 0
CountersTell =
    (set : List Op) (s : List Id) → IsSound set → IsCausallyClosed set s
    → (i : Id) (o : Op) → op_of i set ≡ Some o
    → (has_id i s ≡ true) ↔ (i.counter ≤ greatest_of i.replica s)

-- What a causally closed set's version vector represents can be computed: the identifiers of the set of operations at or
-- below them.
abbrev pub WithinIs : Type 0
WithinIs = (set : List Op) (s : List Id) → IsSound set → IsCausallyClosed set s → ids_within set (covered s) ≡ s

-- What was at or below greatest counters is so again after an insertion above them is withdrawn.
abbrev pub InsertedWithdrawn : Type 0
InsertedWithdrawn =
    (i : Id) (s t : List Id) → t ≡ covered s → greatest_of i.replica t ≤ i.counter
    → truncated i.replica (greatest_of i.replica t) (union (ids_up_to i.replica i.counter) t) ≡ t

-- Dependencies that agree on all that a document knows give the same derivations: the same document and the same
-- trace.
abbrev pub OperateAlike : Type 0
OperateAlike =
    (ids deps : List Id) (c d : Context) (o : Op) (t u : Rows)
    → KnowsOnly ids c → has_id o.id ids ≡ true → Agree ids o.deps deps
    → Derives (Operate c o) (ToContext d) t u
    → Derives (Operate c (with_deps deps o)) (ToContext d) t u × KnowsOnly ids d

abbrev pub ClearAlike : Type 0
ClearAlike =
    (ids deps others : List Id) (c d : Context) (k : Tagged) (s : List Id) (t u : Rows)
    → KnowsOnly ids c → Agree ids deps others
    → Derives (Clear c deps k) (Cleared d s) t u
    → Derives (Clear c others k) (Cleared d s) t u × KnowsOnly ids d

abbrev pub ClearElemAlike : Type 0
ClearElemAlike =
    (ids deps others : List Id) (c d : Context) (k : Key) (s : List Id) (t u : Rows)
    → KnowsOnly ids c → Agree ids deps others
    → Derives (ClearElem c deps k) (Cleared d s) t u
    → Derives (ClearElem c others k) (Cleared d s) t u × KnowsOnly ids d

-- In a document that knows only operations of the sound set: what is derived for a stored operation is derived, by the
-- same rules, for the operation that it represents.
abbrev pub OperateStands : Type 0
OperateStands =
    (set : List Op) (deps : List Id) (c d : Context) (o e : Op) (t u : Rows)
    → Represents set deps o.deps → op_of o.id set ≡ Some e → KnowsOnly (ids_of_ops set) c
    → Derives (Operate c o) (ToContext d) t u
    → Derives (Operate c (with_deps deps o)) (ToContext d) t u × KnowsOnly (ids_of_ops set) d

abbrev pub ClearStands : Type 0
ClearStands =
    (set : List Op) (deps counters : List Id) (c d : Context) (k : Tagged) (s : List Id) (t u : Rows)
    → Represents set deps counters → KnowsOnly (ids_of_ops set) c
    → Derives (Clear c counters k) (Cleared d s) t u
    → Derives (Clear c deps k) (Cleared d s) t u × KnowsOnly (ids_of_ops set) d

abbrev pub ClearElemStands : Type 0
ClearElemStands =
    (set : List Op) (deps counters : List Id) (c d : Context) (k : Key) (s : List Id) (t u : Rows)
    → Represents set deps counters → KnowsOnly (ids_of_ops set) c
    → Derives (ClearElem c counters k) (Cleared d s) t u
    → Derives (ClearElem c deps k) (Cleared d s) t u × KnowsOnly (ids_of_ops set) d

-- Where a document has only these identifiers, the context at a path has only them, and so has the document with another
-- such context there. So the laws above, which are about one context, hold of a whole document.
abbrev pub KnownAtPaths : Type 0
KnownAtPaths =
    (ids : List Id) (path : List Tagged) (c d : Context)
    → KnowsOnly ids c
    → (node_at path c ≡ Some d → KnowsOnly ids d) × (KnowsOnly ids d → KnowsOnly ids (with_node_at path d c))

-- Which identifiers a set of operations has, and which of them a version vector covers.
use Rattle.std.specs.Prelude.{List, [], ◌∷◌, filter}
use Rattle.jc_rules.specs.declared.id.Id.{Id}
use Rattle.jc_rules.specs.declared.operation.Op.{Op}
use Rattle.jc_rules.specs.Ids.{has_id, with_id}

-- the identifiers of the operations, rising
abbrev pub ids_of_ops : List Op → List Id
ids_of_ops [] = []
ids_of_ops (o ∷ os) = with_id o.id (ids_of_ops os)

-- those of them that the version vector covers
abbrev pub ids_within : List Op → List Id → List Id
ids_within set counters = filter (λ i. has_id i counters) (ids_of_ops set)

-- the operation with these dependencies
abbrev pub with_deps : List Id → Op → Op
with_deps deps o = record { id = o.id; deps = deps; cursor = o.cursor; mutation = o.mutation }

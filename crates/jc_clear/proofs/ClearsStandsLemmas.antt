-- About Clears: what a version vector clears, the set that it represents clears alike.
use Rattle.std.proofs.Common.{◌≡◌, List, true}
use Rattle.jc_rules.specs.declared.id.Id.{Id}
use Rattle.jc_rules.specs.declared.key.Tagged.{Tagged}
use Rattle.jc_rules.specs.declared.operation.Op.{Op}
use Rattle.jc_rules.specs.Context.{Context}
use Rattle.jc_rules.specs.Derivation.{Question, Cleared}
use Rattle.jc_rules.specs.Derives.{Derives}
use Rattle.jc_rules.specs.Ids.{has_id}
use Rattle.jc_rules.specs.Representation.{Represents}
use Rattle.jc_rules.specs.Trace.{Rows}
use Rattle.jc_rules.proofs.ContextsAtLemmas.{there}
use Rattle.jc_vectors.specs.KnownIds.{KnowsOnly}
use Rattle.jc_vectors.specs.OperationIds.{ids_of_ops}
use Rattle.jc_vectors.proofs.KnownIdsAtLemmas.{each_node, each-with_node}
use Rattle.jc_tree.specs.Tree.{Tree, HasPlace, here}
use Rattle.jc_clear.specs.Clears.{Clears}

-- the law of a clearing question, for the context at a place
pub stands_at : (q : List Id → Context → Question)
    → ((set : List Op) (members vector : List Id) (c d : Context) (s : List Id) (t u : Rows) → Represents set members vector → KnowsOnly (ids_of_ops set) c → Derives (q vector c) (Cleared d s) t u → Derives (q members c) (Cleared d s) t u × KnowsOnly (ids_of_ops set) d)
    → (vector : List Id) (at : List Tagged) (a b : Tree) (ids : List Id) (t u : Rows) → HasPlace at a → Clears (q vector) at a b ids t u
    → (set : List Op) (members : List Id) → Represents set members vector → KnowsOnly (ids_of_ops set) a.now → Clears (q members) at a b ids t u × KnowsOnly (ids_of_ops set) b.now
stands_at q law vector at a b ids t u p h set members represents known =
    let only = λ (i : Id). has_id i (ids_of_ops set) ≡ true in
    let both = law set members vector (here at a) h.after ids t u represents (each_node only at a.now (here at a) (there at a.now p) known) h.derives in
    (record { after = h.after; derives = both.0; now = h.now; same = h.same; rises = h.rises }, rw h.now (each-with_node only at h.after a.now known both.1))

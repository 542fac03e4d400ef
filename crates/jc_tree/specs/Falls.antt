-- The children of a context are smaller than the context: recursion over the plain store ends by it.
use Rattle.std.specs.Prelude.{ℕ, ◌+◌, ◌≤◌, List, [], ◌∷◌}
use Rattle.std.proofs.Common.{arith}
use denote.Param.Weighed.{most}
use Rattle.jc_rules.specs.declared.key.Key.{Key}
use Rattle.jc_rules.specs.Context.{Context, children}
use Rattle.jc_tree.specs.Nested.{nested, nested_in}
use Rattle.jc_tree.specs.declared.node.Node.TheShapes.{weighed-Node-maps, weighed-Node-maps-at-2}

most_le-nested_in : (f : Key × Context → ℕ) → ((e : Key × Context) → f e ≤ nested e.1 + 1)
    → (es : List (Key × Context)) → most f es ≤ nested_in (children es)
most_le-nested_in f h [] = omega arith
most_le-nested_in f h (e ∷ es) = omega (arith, most_le-nested_in f h es, h e)

pub children_fall : (v : _) → weighed-Node-maps.weight Context (λ y. nested y + 1) v ≤ nested_in (children v.items)
children_fall v =
    most_le-nested_in (weighed-Node-maps-at-2.weight Context (λ y. nested y + 1)) (λ e. omega arith) v.items

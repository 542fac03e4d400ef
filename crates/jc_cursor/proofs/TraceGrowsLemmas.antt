-- About WayDown: traces that only grow.
use Rattle.std.proofs.Common.{◌≡◌, [], ◌∷◌, refl, arith}
use Rattle.jc_rules.specs.declared.rule.Rule.{Rule}
use Rattle.jc_rules.specs.Trace.{Rows, pushed, one_deeper}
use Rattle.jc_rules.proofs.DerivesLemmas.{same_rows, longer_still}
use Rattle.jc_cursor.specs.WayDown.{IsGrown}

pub not_grown : (t : Rows) → IsGrown t t
not_grown t = record { longer = same_rows t; deeper = omega arith }

pub grown_on : (t u v : Rows) → IsGrown t u → IsGrown u v → IsGrown t v
grown_on t u v g h = record { longer = longer_still t u v g.longer h.longer; deeper = omega (arith, g.deeper, h.deeper) }

pub grown_below : (t u v : Rows) (r : Rule) → IsGrown t u → v ≡ one_deeper (pushed u r) → IsGrown t v
grown_below t u v r g e = rw e (grown_on t u (one_deeper (pushed u r)) g (record { longer = record { added = (r, u.depth) ∷ []; is = refl }; deeper = omega arith }))

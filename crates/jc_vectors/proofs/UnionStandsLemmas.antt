-- About UnionStands of specs/StateLaws: stored lists of operations with one more, and two united.
use Rattle.std.proofs.Common.{◌≡◌, List, [], ◌∷◌, map, Some, refl, sym, ◌∙◌, ap}
use Rattle.std.specs.declared.cmp.Ordering.{Ordering}
use Rattle.std.specs.declared.cmp.Ordering.TheVariants.{Less, Equal, Greater}
use Rattle.jc_rules.specs.declared.operation.Op.{Op}
use Rattle.jc_rules.specs.Order.{id_cmp}
use Rattle.jc_rules.specs.Table.{op_of, with_op, both}
use Rattle.jc_vectors.specs.StoredStates.{stored_op, AreOf}
use Rattle.jc_vectors.specs.StateLaws.{UnionStands}

-- keeping changes no order
pub map-with : (o : Op) (os : List Op) → map stored_op (with_op o os) ≡ with_op (stored_op o) (map stored_op os)
map-with o [] = refl
map-with o (e ∷ os) = go (id_cmp o.id e.id) refl (map-with o os)
  where
    go : (c : Ordering) → id_cmp o.id e.id ≡ c → map stored_op (with_op o os) ≡ with_op (stored_op o) (map stored_op os) → map stored_op (with_op o (e ∷ os)) ≡ with_op (stored_op o) (map stored_op (e ∷ os))
    go Less p ih = rw p refl
    go Equal p ih = rw p refl
    go Greater p ih = rw p (ap (λ (s : List Op). stored_op e ∷ s) ih)

pub of-with : (set : List Op) (o : Op) (os : List Op) → op_of o.id set ≡ Some o → AreOf set os → AreOf set (with_op o os)
of-with set o [] h g = (h, tt)
of-with set o (e ∷ os) h g = go (id_cmp o.id e.id) refl (of-with set o os h g.1)
  where
    go : (c : Ordering) → id_cmp o.id e.id ≡ c → AreOf set (with_op o os) → AreOf set (with_op o (e ∷ os))
    go Less p ih = rw p (h, g)
    go Equal p ih = rw p g
    go Greater p ih = rw p (g.0, ih)

pub union_stands : UnionStands
union_stands set os [] h g = (refl, h)
union_stands set os (p ∷ ps) h g =
    let rest = union_stands set os ps h g.1 in
    (ap (λ (q : List Op). with_op (stored_op p) q) rest.0 ∙ sym (map-with p (both os ps)), of-with set p (both os ps) g.0 rest.1)

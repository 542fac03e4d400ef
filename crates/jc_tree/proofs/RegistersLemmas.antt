-- What clearing keeps of a register is well formed; jc_clear uses it.
use Rattle.std.proofs.Common.{◌≡◌, [], ◌∷◌, List, Bool, true, false, refl}
use Rattle.std.specs.List.{AllByRecursion}
use Rattle.std.specs.declared.cmp.Ordering.TheVariants.{Less}
use Rattle.jc_rules.specs.declared.id.Id.{Id}
use Rattle.jc_rules.specs.Order.{id_cmp}
use Rattle.jc_rules.specs.Entries.{IsRising, keys_of}
use Rattle.jc_rules.specs.Ids.{has_id}
use Rattle.jc_rules.specs.Context.{Register, IsPrimitive}
use Rattle.jc_rules.specs.WellFormed.{IsWellFormedRegister}
use Rattle.jc_rules.specs.Table.{kept}

below_kept : (i : Id) (deps : List Id) (r : Register) → AllByRecursion (λ j. id_cmp i j ≡ Less) (keys_of r) → AllByRecursion (λ j. id_cmp i j ≡ Less) (keys_of (kept deps r))
below_kept i deps [] h = tt
below_kept i deps (e ∷ r) h = go (has_id e.0 deps) refl (below_kept i deps r h.1)
  where
    go : (b : Bool) → has_id e.0 deps ≡ b → AllByRecursion (λ j. id_cmp i j ≡ Less) (keys_of (kept deps r)) → AllByRecursion (λ j. id_cmp i j ≡ Less) (keys_of (kept deps (e ∷ r)))
    go true p ih = rw p ih
    go false p ih = rw p (h.0, ih)

rising_kept : (deps : List Id) (r : Register) → IsRising id_cmp (keys_of r) → IsRising id_cmp (keys_of (kept deps r))
rising_kept deps [] h = tt
rising_kept deps (e ∷ r) h = go (has_id e.0 deps) refl (rising_kept deps r h.1)
  where
    go : (b : Bool) → has_id e.0 deps ≡ b → IsRising id_cmp (keys_of (kept deps r)) → IsRising id_cmp (keys_of (kept deps (e ∷ r)))
    go true p ih = rw p ih
    go false p ih = rw p (below_kept e.0 deps r h.0, ih)

pub primitive_kept : (deps : List Id) (r : Register) → AllByRecursion (λ e. IsPrimitive e.1) r → AllByRecursion (λ e. IsPrimitive e.1) (kept deps r)
primitive_kept deps [] h = tt
primitive_kept deps (e ∷ r) h = go (has_id e.0 deps) refl (primitive_kept deps r h.1)
  where
    go : (b : Bool) → has_id e.0 deps ≡ b → AllByRecursion (λ e. IsPrimitive e.1) (kept deps r) → AllByRecursion (λ e. IsPrimitive e.1) (kept deps (e ∷ r))
    go true p ih = rw p ih
    go false p ih = rw p (h.0, ih)

-- what stays of a register is one
pub register_left : (deps : List Id) (r left : Register) → IsWellFormedRegister r → left ≡ kept deps r → IsWellFormedRegister left
register_left deps r left h e = rw e (rising_kept deps r h.0, primitive_kept deps r h.1)

-- About Bounds: what is found under a name in a map.
use Rattle.std.proofs.Common.{◌≡◌, ℕ, List, [], ◌∷◌, Some, Bool, true, false, cond, refl}
use Rattle.std.specs.Option.{option_map}
use Rattle.std.specs.Ordering.{eq_by_cmp}
use Rattle.std.specs.Map.{lookup}
use Rattle.std.specs.BTreeMap.{is_at}
use Rattle.jc_rules.specs.Order.{name_cmp}
use Rattle.jc_rules.specs.Entries.{find}
use Rattle.jc_cursor.specs.declared.bound.Bound.{Bound as BoundInMemory}
use Rattle.jc_cursor.specs.Bounds.{bound_of, vars_of}

pub looked_up : (x : List ℕ) (vs : List (List ℕ × BoundInMemory)) → option_map bound_of (lookup (is_at (name_cmp x)) vs) ≡ find name_cmp x (vars_of vs)
looked_up x [] = refl
looked_up x (v ∷ vs) = go (eq_by_cmp name_cmp x v.0) (looked_up x vs)
  where
    go : (b : Bool) → option_map bound_of (lookup (is_at (name_cmp x)) vs) ≡ find name_cmp x (vars_of vs) → option_map bound_of (cond b (Some v.1) (lookup (is_at (name_cmp x)) vs)) ≡ cond b (Some (bound_of v.1)) (find name_cmp x (vars_of vs))
    go true ih = refl
    go false ih = ih

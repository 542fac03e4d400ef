-- Lemmas about Variables: a variable is bound, and the binding is taken back.
use Rattle.std.proofs.Common.{◌≡◌, ℕ, List, [], ◌∷◌, Some, None, Option, Bool, true, false, cond, refl, sym, ◌∙◌, ap}
use Rattle.std.specs.Map.{remove_entry, set_value}
use Rattle.std.specs.Ordering.{eq_by_cmp}
use Rattle.std.specs.BTreeMap.{is_at, insert_entry}
use Rattle.std.specs.declared.cmp.Ordering.{Ordering}
use Rattle.std.specs.declared.cmp.Ordering.TheVariants.{Less, Equal, Greater}
use Rattle.jc_rules.specs.Entries.{find, if_found, replaced, placed, put}
use Rattle.jc_rules.specs.Order.{name_cmp}
use Rattle.jc_rules.specs.State.{Bound}
use Rattle.jc_rules.proofs.OrderLemmas.{names_total, exact_names}
use Rattle.jc_tree.specs.Undo.{removed, restored}
use Rattle.jc_tree.proofs.UndoLemmas.{restored-put}
use Rattle.jc_cursor.specs.declared.bound.Bound.{Bound as BoundInMemory}
use Rattle.jc_cursor.specs.Bounds.{bound_of, var_of, vars_of}
use Rattle.jc_replica.specs.Variables.{IsBound}

abbrev InMemory : Type 0
InMemory = List (List ℕ × BoundInMemory)

-- a new variable
inserted : (x : List ℕ) (b : BoundInMemory) (vs : InMemory) → find name_cmp x (vars_of vs) ≡ None → vars_of (insert_entry name_cmp vs x b) ≡ placed name_cmp x (bound_of b) (vars_of vs)
inserted x b [] f = refl
inserted x b (v ∷ vs) f = go (name_cmp x v.0) refl (inserted x b vs) f
  where
    go : (o : Ordering) → name_cmp x v.0 ≡ o → (find name_cmp x (vars_of vs) ≡ None → vars_of (insert_entry name_cmp vs x b) ≡ placed name_cmp x (bound_of b) (vars_of vs)) → find name_cmp x (vars_of (v ∷ vs)) ≡ None
        → vars_of (insert_entry name_cmp (v ∷ vs) x b) ≡ placed name_cmp x (bound_of b) (vars_of (v ∷ vs))
    go Less p ih g = rw p refl
    go Equal p ih g = let n : Some (bound_of v.1) ≡ None = rw p at g in cc
    go Greater p ih g = rw p (ap (λ (ws : List (List ℕ × Bound)). var_of v ∷ ws) (ih (rw p at g)))

-- another value of a variable
set_again : (x : List ℕ) (b : BoundInMemory) (vs : InMemory) → vars_of (set_value (is_at (name_cmp x)) vs b) ≡ replaced name_cmp x (bound_of b) (vars_of vs)
set_again x b [] = refl
set_again x b (v ∷ vs) = go (name_cmp x v.0) refl (set_again x b vs)
  where
    go : (o : Ordering) → name_cmp x v.0 ≡ o → vars_of (set_value (is_at (name_cmp x)) vs b) ≡ replaced name_cmp x (bound_of b) (vars_of vs)
        → vars_of (set_value (is_at (name_cmp x)) (v ∷ vs) b) ≡ replaced name_cmp x (bound_of b) (vars_of (v ∷ vs))
    go Less p ih = rw p (ap (λ (ws : List (List ℕ × Bound)). var_of v ∷ ws) ih)
    go Equal p ih = rw p (ap (λ (y : List ℕ). (y, bound_of b) ∷ vars_of vs) (sym (exact_names x v.0 p)))
    go Greater p ih = rw p (ap (λ (ws : List (List ℕ × Bound)). var_of v ∷ ws) ih)

-- what was bound, or that nothing was, gives back what a binding changed
is_bound : (x : List ℕ) (b : Bound) (before : Option Bound) (old new : List (List ℕ × Bound)) → before ≡ find name_cmp x old → new ≡ put name_cmp x b old → IsBound x b before old new
is_bound x b before old new f n = record {
  bound = n;
  back =
      ap (λ (o : Option Bound). restored name_cmp x o new) f
      ∙ ap (restored name_cmp x (find name_cmp x old)) n
      ∙ restored-put names_total exact_names x b old;
}

pub bound_new : (x : List ℕ) (b : BoundInMemory) (vs new : InMemory) → find name_cmp x (vars_of vs) ≡ None → new ≡ insert_entry name_cmp vs x b → IsBound x (bound_of b) None (vars_of vs) (vars_of new)
bound_new x b vs new f n = is_bound x (bound_of b) None (vars_of vs) (vars_of new) (sym f)
    (ap (λ (ws : InMemory). vars_of ws) n
    ∙ inserted x b vs f
    ∙ sym (ap (λ (o : Option Bound). if_found o (replaced name_cmp x (bound_of b) (vars_of vs)) (placed name_cmp x (bound_of b) (vars_of vs))) f))

pub bound_again : (x : List ℕ) (b was : BoundInMemory) (vs new : InMemory) → find name_cmp x (vars_of vs) ≡ Some (bound_of was) → new ≡ set_value (is_at (name_cmp x)) vs b → IsBound x (bound_of b) (Some (bound_of was)) (vars_of vs) (vars_of new)
bound_again x b was vs new f n = is_bound x (bound_of b) (Some (bound_of was)) (vars_of vs) (vars_of new) (sym f)
    (ap (λ (ws : InMemory). vars_of ws) n
    ∙ set_again x b vs
    ∙ sym (ap (λ (o : Option Bound). if_found o (replaced name_cmp x (bound_of b) (vars_of vs)) (placed name_cmp x (bound_of b) (vars_of vs))) f))

-- taken back
pub set_back : (x : List ℕ) (b : BoundInMemory) (vs new : InMemory) → new ≡ set_value (is_at (name_cmp x)) vs b → vars_of new ≡ restored name_cmp x (Some (bound_of b)) (vars_of vs)
set_back x b vs new n = ap (λ (ws : InMemory). vars_of ws) n ∙ set_again x b vs

taken_away : (x : List ℕ) (vs : InMemory) → vars_of (remove_entry (is_at (name_cmp x)) vs) ≡ removed name_cmp x (vars_of vs)
taken_away x [] = refl
taken_away x (v ∷ vs) = go (eq_by_cmp name_cmp x v.0) (taken_away x vs)
  where
    go : (t : Bool) → vars_of (remove_entry (is_at (name_cmp x)) vs) ≡ removed name_cmp x (vars_of vs)
        → vars_of (cond t vs (v ∷ remove_entry (is_at (name_cmp x)) vs)) ≡ cond t (vars_of vs) (var_of v ∷ removed name_cmp x (vars_of vs))
    go true ih = refl
    go false ih = ap (λ (ws : List (List ℕ × Bound)). var_of v ∷ ws) ih

pub removed_back : (x : List ℕ) (vs new : InMemory) → new ≡ remove_entry (is_at (name_cmp x)) vs → vars_of new ≡ restored name_cmp x None (vars_of vs)
removed_back x vs new n = ap (λ (ws : InMemory). vars_of ws) n ∙ taken_away x vs

-- without the variable nothing is set
pub not_there : (x : List ℕ) (b : Bound) (vs : List (List ℕ × Bound)) → find name_cmp x vs ≡ None → vs ≡ restored name_cmp x (Some b) vs
not_there x b [] f = refl
not_there x b (v ∷ vs) f = go (eq_by_cmp name_cmp x v.0) refl (not_there x b vs) f
  where
    go : (t : Bool) → eq_by_cmp name_cmp x v.0 ≡ t → (find name_cmp x vs ≡ None → vs ≡ restored name_cmp x (Some b) vs) → find name_cmp x (v ∷ vs) ≡ None → v ∷ vs ≡ restored name_cmp x (Some b) (v ∷ vs)
    go true p ih g = let n : Some v.1 ≡ None = rw p at g in cc
    go false p ih g = rw p (ap (λ (ws : List (List ℕ × Bound)). v ∷ ws) (ih (rw p at g)))

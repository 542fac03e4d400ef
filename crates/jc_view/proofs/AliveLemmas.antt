-- About Laws: a map or a list in which something is present is alive.
use Rattle.std.proofs.Common.{◌≡◌, List, [], ◌∷◌, ◌++◌, Bool, true, false, not, ◌||◌, ◌&&◌, Option, Some, None, Contains, refl, sym, ◌∙◌, ap, subst}
use Rattle.jc_rules.specs.declared.id.Id.{Id}
use Rattle.jc_rules.specs.declared.key.Key.{Key}
use Rattle.jc_rules.specs.declared.key.Tagged.{Tagged}
use Rattle.jc_rules.specs.declared.operation.Op.{Op}
use Rattle.jc_rules.specs.declared.operation.Mutation.{Mutation}
use Rattle.jc_rules.specs.declared.operation.Mutation.TheVariants as M
use Rattle.jc_rules.specs.declared.value.Value.{Value}
use Rattle.jc_rules.specs.Order.{same_id}
use Rattle.jc_rules.specs.Ids.{has_id}
use Rattle.jc_rules.specs.Context.{presences, key_of_tagged}
use Rattle.jc_rules.specs.WellFormed.{IsWellFormedContext}
use Rattle.jc_rules.specs.State.{State}
use Rattle.jc_rules.specs.Syntax.{Cmd}
use Rattle.jc_rules.specs.Table.{op_of}
use Rattle.jc_rules.proofs.IdsLemmas.{same_id-true}
use Rattle.jc_rules.proofs.BoolLemmas.{first_true, second_true, both_true}
use Rattle.jc_tree.proofs.WellFormedLemmas.{presences_rise}
use Rattle.jc_network.specs.Applied.{applied_ops}
use Rattle.jc_network.specs.Laws.{IsReached}
use Rattle.jc_network.proofs.RunInvariantStartLemmas.{at_member}
use Rattle.jc_meaning.specs.Effects.{same_tagged, is_at_or_above, is_delete, target, touches, value_in, passed, goes_through}
use Rattle.jc_meaning.specs.Seen.{seen, ids_at}
use Rattle.jc_meaning.specs.Meaning.{Means, holds_of, is_present, is_cleared}
use Rattle.jc_meaning.proofs.ComparisonLemmas.{run_well}
use Rattle.jc_meaning.proofs.DroppedLemmas.{kept_seen}
use Rattle.jc_meaning.proofs.MeaningForcesLemmas.{present_above}
use Rattle.jc_meaning.proofs.RunsLemmas.{trees_meant, kept_tree}
use Rattle.jc_meaning.proofs.TagsLemmas.{tags_eq, tags_self}
use Rattle.jc_view.specs.Visible.{GoesThrough, some_goes, is_alive, goes_by, present}
use Rattle.jc_view.proofs.AppliedPathsLemmas.{applied_found}
use Rattle.jc_view.proofs.PresentLemmas.{alive_by}

-- who touches something below a tagged key goes through it
goes_below : (at : List Tagged) (t : Tagged) (k : Key) (path : List Tagged) (q : Key) (v : Value) → is_at_or_above (at ++ t ∷ []) k path q ≡ true → passed path q (Some v) at t ≡ true
goes_below [] t k [] q v h = cc
goes_below [] t k (s ∷ ss) q v h = subst (λ x. same_tagged x t ≡ true) (tags_eq t s (first_true (same_tagged t s) (is_at_or_above [] k ss q) h)) (tags_self t)
goes_below (u ∷ us) t k [] q v h = cc
goes_below (u ∷ us) t k (s ∷ ss) q v h =
    both_true (same_tagged s u) (passed ss q (Some v) us t)
    (subst (λ x. same_tagged x u ≡ true) (tags_eq u s (first_true (same_tagged u s) (is_at_or_above (us ++ t ∷ []) k ss q) h)) (tags_self u))
    (goes_below us t k ss q v (second_true (same_tagged u s) (is_at_or_above (us ++ t ∷ []) k ss q) h))

touches_goes : (o : Op) (at : List Tagged) (t : Tagged) (k : Key) → touches o (at ++ t ∷ []) k ≡ true → goes_through o at t ≡ true
touches_goes o at t k h = go o.mutation h
  where
    go : (m : Mutation) → (not (is_delete m) && is_at_or_above (at ++ t ∷ []) k o.cursor.path (target o)) ≡ true → passed o.cursor.path (target o) (value_in m) at t ≡ true
    go M.Delete x = cc
    go (M.Assign v) x = goes_below at t k o.cursor.path (target o) v x
    go (M.Insert v) x = goes_below at t k o.cursor.path (target o) v x

some_of : (goes : GoesThrough) (at : List Tagged) (t : Tagged) (i : Id) (is : List Id) → has_id i is ≡ true → goes i at t ≡ true → some_goes goes at t is ≡ true
some_of goes at t i [] h g = cc
some_of goes at t i (j ∷ js) h g = go (same_id i j) refl h (λ x. some_of goes at t i js x g)
  where
    right : (b : Bool) → (b || true) ≡ true
    right true = refl
    right false = refl

    go : (b : Bool) → same_id i j ≡ b → (b || has_id i js) ≡ true → (has_id i js ≡ true → some_goes goes at t js ≡ true) → (goes j at t || some_goes goes at t js) ≡ true
    go true e x f = rw (subst (λ l. goes l at t ≡ true) (same_id-true i j e) g) refl
    go false e x f = rw (f x) (right (goes j at t))

pub present_alive : (scripts : List (List Cmd)) (network : List State) → IsReached scripts network → (A : State) → Contains network A → (at : List Tagged) (t : Tagged) (k : Key) (i : Id)
    → has_id i (ids_at k (seen (at ++ t ∷ []) A.tree)) ≡ true → is_alive (goes_by A) at (present (presences (seen at A.tree))) t ≡ true
present_alive scripts network r A c at t k i h =
    let S = applied_ops A in
    let meant : Means S A.tree = trees_meant scripts network r A c in
    let below : is_present S (at ++ t ∷ []) k i ≡ true = sym (meant.ids (at ++ t ∷ []) k i) ∙ h in
    let there : has_id i (ids_at (key_of_tagged t) (seen at A.tree)) ≡ true = meant.ids at (key_of_tagged t) i ∙ present_above S at t k i below in
    let kept : IsWellFormedContext (seen at A.tree) = kept_seen at A.tree (kept_tree scripts network r A c) in
    let goes : goes_by A i at t ≡ true = through (op_of i S) refl (first_true (holds_of (λ o. touches o (at ++ t ∷ []) k) (op_of i S)) (not (is_cleared S (at ++ t ∷ []) k i)) below) in
    sym (alive_by (goes_by A) at t (presences (seen at A.tree)) _ (presences_rise (seen at A.tree) kept) refl) ∙ some_of (goes_by A) at t i (ids_at (key_of_tagged t) (seen at A.tree)) there goes
  where
    through : (x : Option Op) → op_of i (applied_ops A) ≡ x → holds_of (λ o. touches o (at ++ t ∷ []) k) x ≡ true → goes_by A i at t ≡ true
    through None e f = cc
    through (Some o) e f =
        let m = at_member network A c in
        ap (holds_of (λ p. goes_through p at t)) (applied_found network (run_well network (scripts, r)) m.0 A m.1 i o e) ∙ touches_goes o at t k f

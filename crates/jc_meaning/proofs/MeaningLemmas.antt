-- About Meaning: what operations mean with one more, place by place.
use Rattle.std.proofs.Common.{◌≡◌, List, [], ◌∷◌, ◌++◌, Bool, true, false, not, ◌||◌, ◌&&◌, cond, Some, None, refl, sym, subst}
use Rattle.jc_rules.specs.declared.id.Id.{Id}
use Rattle.jc_rules.specs.declared.key.Key.{Key}
use Rattle.jc_rules.specs.declared.key.Tagged.{Tagged}
use Rattle.jc_rules.specs.declared.operation.Op.{Op}
use Rattle.jc_rules.specs.Order.{same_id}
use Rattle.jc_rules.specs.Ids.{has_id}
use Rattle.jc_rules.specs.Context.{key_of_tagged}
use Rattle.jc_rules.specs.Table.{op_of}
use Rattle.jc_rules.proofs.IdsLemmas.{same_id-true}
use Rattle.jc_meaning.specs.Effects.{same_tagged, is_at_or_above, touches, clears}
use Rattle.jc_meaning.specs.Meaning.{holds_of, is_cleared, is_present}

-- what is present with one operation more
module _ (S : List Op) (o : Op)
    (outside : op_of o.id S ≡ None)
    (uncleared : (P : List Tagged) (k : Key) → is_cleared S P k o.id ≡ false)
    (not_own : has_id o.id o.deps ≡ false) where
  pub present_with : (P : List Tagged) (k : Key) (i : Id) → is_present (o ∷ S) P k i ≡ ((same_id i o.id && touches o P k) || (is_present S P k i && not (clears o P k && has_id i o.deps)))
  present_with P k i = by_cases (same_id i o.id) refl
    where
      boolean : (t c d y : Bool) → d ≡ false → y ≡ false → (t && not ((c && d) || y)) ≡ (t || false)
      boolean t c d true e f = cc
      boolean t c true false e f = cc
      boolean true true false false e f = refl
      boolean true false false false e f = refl
      boolean false c false false e f = refl

      other : (x c y : Bool) → (x && not (c || y)) ≡ ((x && not y) && not c)
      other false c y = refl
      other true true true = refl
      other true true false = refl
      other true false true = refl
      other true false false = refl

      by_cases : (b : Bool) → same_id i o.id ≡ b → (holds_of (λ p. touches p P k) (cond b (Some o) (op_of i S)) && not ((clears o P k && has_id i o.deps) || is_cleared S P k i)) ≡ ((b && touches o P k) || (is_present S P k i && not (clears o P k && has_id i o.deps)))
      by_cases true e =
          let same : i ≡ o.id = same_id-true i o.id e in
          let none : op_of i S ≡ None = subst (λ q. op_of q S ≡ None) (sym same) outside in
          let gone : has_id i o.deps ≡ false = subst (λ q. has_id q o.deps ≡ false) (sym same) not_own in
          let clear : is_cleared S P k i ≡ false = subst (λ q. is_cleared S P k q ≡ false) (sym same) (uncleared P k) in
          rw none (boolean (touches o P k) (clears o P k) (has_id i o.deps) (is_cleared S P k i) gone clear)
      by_cases false e = other (holds_of (λ p. touches p P k) (op_of i S)) (clears o P k && has_id i o.deps) (is_cleared S P k i)

-- who clears the upper place clears the lower one
pub above_lower : (Q : List Tagged) (q : Key) (P : List Tagged) (u : Tagged) (l : Key) → is_at_or_above Q q P (key_of_tagged u) ≡ true → is_at_or_above Q q (P ++ u ∷ []) l ≡ true
above_lower [] q [] u l h = h
above_lower [] q (t ∷ ts) u l h = h
above_lower (s ∷ ss) q [] u l h = cc
above_lower (s ∷ ss) q (t ∷ ts) u l h = step (same_tagged s t) (above_lower ss q ts u l) h
  where
    step : (b : Bool) → (is_at_or_above ss q ts (key_of_tagged u) ≡ true → is_at_or_above ss q (ts ++ u ∷ []) l ≡ true) → (b && is_at_or_above ss q ts (key_of_tagged u)) ≡ true → (b && is_at_or_above ss q (ts ++ u ∷ []) l) ≡ true
    step true f h = f h
    step false f h = cc

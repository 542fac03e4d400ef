-- About Fits: what fits a context fits the child that its path leads to.
use Rattle.std.proofs.Common.{◌≡◌, ℕ, suc, ◌+◌, ◌<◌, List, [], ◌∷◌, ◌++◌, length, take, drop, get_or, Option, Some, None, sym, ◌∙◌, ap, subst, add-one, drop-cons}
use Rattle.jc_rules.specs.declared.key.Key.{Key}
use Rattle.jc_rules.specs.declared.key.Tagged.{Tagged}
use Rattle.jc_rules.specs.declared.operation.Mutation.{Mutation}
use Rattle.jc_rules.specs.Context.{Context}
use Rattle.jc_rules.specs.Paths.{HasContext}
use Rattle.jc_apply.specs.Fits.{Fits, InChild, child_context}
use Rattle.jc_apply.proofs.ReachLemmas.{further, has_context}

-- the child under the path's next key is a context, where the rest of the path fits
pub record FitsBelow (c : Context) (path : List Tagged) (n : ℕ) (k : Tagged) (last : Key) (m : Mutation) : Type 0 where
  pub down : take (n + 1) path ≡ take n path ++ k ∷ []
  pub rest : drop n path ≡ k ∷ drop (n + 1) path
  pub context : HasContext k
  pub fits : (d : Context) → child_context k c ≡ Some d → Fits d (drop (n + 1) path) last m

in_child : (o : Option Context) (P : Context → Type 0) → InChild o P → (d : Context) → o ≡ Some d → P d
in_child None P h d e = absurd h
in_child (Some x) P h d e = let s : x ≡ d = cc in subst P s h

pub fits_below : (c : Context) (path slice : List Tagged) (n : ℕ) (k : Tagged) (last : Key) (m : Mutation) → slice ≡ path → n < length path → k ≡ get_or slice n k → Fits c (drop n path) last m → FitsBelow c path n k last m
fits_below c path slice n k last m s l g h =
    let there : k ≡ get_or path n k = subst (λ (p : List Tagged). k ≡ get_or p n k) s g in
    let rest : drop n path ≡ k ∷ drop (n + 1) path = drop-cons path n k l ∙ ap (λ (x : Tagged). x ∷ drop (suc n) path) (sym there) ∙ ap (λ (i : ℕ). k ∷ drop i path) (sym (add-one n)) in
    let below : InChild (child_context k c) (λ d. Fits d (drop (n + 1) path) last m) = rw rest at h in
    record {
      down = further path n k l there;
      rest = rest;
      context = has_context k c _ below;
      fits = in_child (child_context k c) _ below;
    }

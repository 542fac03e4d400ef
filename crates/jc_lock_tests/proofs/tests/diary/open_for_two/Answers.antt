use Rattle.std.proofs.Common.{arith, ◌≡◌, ℕ, List, ◌++◌, ◌∷◌, [], map, length, get_or, ap, subst, length-append}
use Rattle.std.specs.Prelude.{All}
use Rattle.std.proofs.lemmas.List.{length-map}
use Rattle.jc_lock.specs.Shows.{pass_number, IsNewPass}
use Rattle.jc_lock.proofs.GatheredLemmas.{all_but_last}
use Rattle.jc_lock_tests.proofs.tests.diary.open_for_two.Goals as goal

module _ {X : Type 0} where
  numbers : (f : X → ℕ) (zs : List X) (x y : X) → map f ((zs ++ x ∷ []) ++ y ∷ []) ≡ 0 ∷ 1 ∷ [] → (f x ≡ 0) × (f y ≡ 1)
  numbers f [] x y e = (ap (λ l. get_or l 0 0) e, ap (λ l. get_or l 1 0) e)
  numbers f (z ∷ zs) x y e =
      let long : length (map f (((z ∷ zs) ++ x ∷ []) ++ y ∷ [])) ≡ 2 = ap length e in
      absurd (omega (arith, length-map (((z ∷ zs) ++ x ∷ []) ++ y ∷ []) f, length-append ((z ∷ zs) ++ x ∷ []) (y ∷ []), length-append (z ∷ zs) (x ∷ [])))

  -- what is known of a list of two, whose last elements were taken
  two : (P : X → Type 0) (f : X → ℕ) (xs ys zs : List X) (x y : X) → xs ≡ ys ++ y ∷ [] → ys ≡ zs ++ x ∷ [] → map f xs ≡ 0 ∷ 1 ∷ [] → All P xs → (P x × (f x ≡ 0)) × (P y × (f y ≡ 1))
  two P f xs ys zs x y last first named all =
      let most = all_but_last P ys y (subst (All P) last all) in
      let each = all_but_last P zs x (subst (All P) first most.0) in
      let is = numbers f zs x y (subst (λ l. map f (l ++ y ∷ []) ≡ 0 ∷ 1 ∷ []) first (subst (λ l. map f l ≡ 0 ∷ 1 ∷ []) last named)) in
      ((each.1, is.0), (most.1, is.1))

pub returns-clause-first : goal.returns-clause-first
returns-clause-first c =
    let both = two (IsNewPass c.in-Ok.lock 1000 c.args.title) pass_number c.in-Ok.passes.items _ _ c.in_ok-first.first c.in_ok-second.second c.in_ok-second.ensures.items c.in_ok-first.ensures.items c.in-Ok.ensures.numbers c.in-Ok.ensures.new in
    (both.0.0.of_lock, both.0.1, both.0.0.mine)

pub returns-clause-second : goal.returns-clause-second
returns-clause-second c =
    let both = two (IsNewPass c.in-Ok.lock 1000 c.args.title) pass_number c.in-Ok.passes.items _ _ c.in_ok-first.first c.in_ok-second.second c.in_ok-second.ensures.items c.in_ok-first.ensures.items c.in-Ok.ensures.numbers c.in-Ok.ensures.new in
    (both.1.0.of_lock, both.1.1, both.1.0.mine)

-- About IsRising of specs/Entries: what a search in an ascending list finds.
use Rattle.std.proofs.Common.{◌≡◌, ℕ, zero, suc, ◌≤◌, ◌<◌, List, [], ◌∷◌, length, get_or, refl, sym, ◌∙◌, arith}
use Rattle.std.specs.List.{AllByRecursion}
use Rattle.std.specs.List.Sorted.{IsNonDecreasingBy}
use Rattle.std.specs.Ordering.{ordering_index}
use Rattle.std.specs.declared.cmp.Ordering.{Ordering}
use Rattle.std.specs.declared.cmp.Ordering.TheVariants.{Less, Equal, Greater}
use Rattle.std.specs.Cmp.{IsTotalOrder}
use Rattle.jc_rules.specs.Entries.{IsRising}

pub all_at : {X : Type 0} (P : X → Type 0) (xs : List X) → AllByRecursion P xs → (k : ℕ) (d : X) → k < length xs → P (get_or xs k d)
all_at P [] a k d h = absurd (omega arith)
all_at P (x ∷ xs) a zero d h = a.0
all_at P (x ∷ xs) a (suc k) d h = all_at P xs a.1 k d (omega arith)

module _ {K : Type 0} {R : K → K → Ordering} (total : IsTotalOrder R) where
  pub less_greater : (j k : K) → R j k ≡ Less → R k j ≡ Greater
  less_greater j k h = total.antisymm k j ∙ rw h refl

  pub greater_less : (j k : K) → R j k ≡ Greater → R k j ≡ Less
  greater_less j k h = total.antisymm k j ∙ rw h refl

  pub equal_back : (j k : K) → R j k ≡ Equal → R k j ≡ Equal
  equal_back j k h = total.antisymm k j ∙ rw h refl

  ranks : (j k q : K) → R j k ≡ Less → ordering_index (R j q) ≤ ordering_index (R k q)
  ranks j k q h = go (R k q) refl
    where
      least : (o : Ordering) → ordering_index o ≤ 2
      least Less = omega arith
      least Equal = omega arith
      least Greater = omega arith

      go : (o : Ordering) → R k q ≡ o → ordering_index (R j q) ≤ ordering_index (R k q)
      go Less e = let l : R j q ≡ Less = total.trans j k q h e in rw (l, e) (omega arith)
      go Equal e = let l : R j q ≡ Less = greater_less q j (sym (total.congr k q j e) ∙ less_greater j k h) in rw (l, e) (omega arith)
      go Greater e = rw e (least (R j q))

  pub non_decreasing : (q : K) (ks : List K) → IsRising R ks → IsNonDecreasingBy (λ k. ordering_index (R k q)) ks
  non_decreasing q [] h i j d le within = absurd (omega arith)
  non_decreasing q (k ∷ ks) h zero zero d le within = omega arith
  non_decreasing q (k ∷ ks) h zero (suc j) d le within = ranks k (get_or ks j d) q (all_at (λ l. R k l ≡ Less) ks h.0 j d (omega arith))
  non_decreasing q (k ∷ ks) h (suc i) zero d le within = absurd (omega arith)
  non_decreasing q (k ∷ ks) h (suc i) (suc j) d le within = non_decreasing q ks h.1 i j d (omega arith) (omega arith)

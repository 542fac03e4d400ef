-- Lemmas about the event `send`: what was made is offered.
use Rattle.std.proofs.Common.{◌≡◌, ℕ, zero, suc, List, [], ◌∷◌, take, refl, ◌∙◌, ap}
use Rattle.std.specs.List.{AllByRecursion}
use Rattle.std.specs.declared.cmp.Ordering.TheVariants.{Less}
use Rattle.jc_rules.specs.declared.id.Id.{Id}
use Rattle.jc_rules.specs.declared.operation.Op.{Op}
use Rattle.jc_rules.specs.Order.{id_cmp}
use Rattle.jc_rules.specs.Table.{with_op, both}
use Rattle.jc_rules.proofs.OrderLemmas.{ids_total}
use Rattle.jc_rules.proofs.IdsLemmas.{equal_itself}
use Rattle.jc_rules.proofs.RisingLemmas as rising
use Rattle.jc_replica.specs.Operations.{identifiers, AreInOrder}

-- before all greater ones
with_op-first : (o : Op) (os : List Op) → AllByRecursion (λ i. id_cmp o.id i ≡ Less) (identifiers os) → with_op o os ≡ o ∷ os
with_op-first o [] h = refl
with_op-first o (p ∷ os) h = rw h.0 refl

-- what is united with greater ones begins as before
both-first : (o : Op) (xs ps : List Op) → AllByRecursion (λ i. id_cmp o.id i ≡ Less) (identifiers ps) → both (o ∷ xs) ps ≡ o ∷ both xs ps
both-first o xs [] h = refl
both-first o xs (p ∷ ps) h =
    ap (with_op p) (both-first o xs ps h.1) ∙ rw (rising.less_greater ids_total o.id p.id h.0) refl

-- operations in order, united with a front of them
pub both-front : (n : ℕ) (q : List Op) → AreInOrder q → both (take n q) q ≡ q
both-front zero [] h = refl
both-front (suc n) [] h = refl
both-front zero (p ∷ ps) h = ap (with_op p) (both-front zero ps h.1) ∙ with_op-first p ps h.0
both-front (suc n) (p ∷ ps) h =
    ap (with_op p) (both-first p (take n ps) ps h.0 ∙ ap (λ (x : List Op). p ∷ x) (both-front n ps h.1)) ∙ rw (equal_itself p.id) refl

all_front : (P : Id → Type 0) (n : ℕ) (os : List Op) → AllByRecursion P (identifiers os) → AllByRecursion P (identifiers (take n os))
all_front P zero os h = tt
all_front P (suc n) [] h = tt
all_front P (suc n) (o ∷ os) h = (h.0, all_front P n os h.1)

-- a front of them is in order too
pub front_in_order : (n : ℕ) (q : List Op) → AreInOrder q → AreInOrder (take n q)
front_in_order zero q h = tt
front_in_order (suc n) [] h = tt
front_in_order (suc n) (o ∷ q) h = (all_front (λ i. id_cmp o.id i ≡ Less) n q h.0, front_in_order n q h.1)

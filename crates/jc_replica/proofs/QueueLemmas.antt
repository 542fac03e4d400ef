-- Lemmas about Operations: an operation that is made comes last in the queue.
use Rattle.std.proofs.Common.{◌≡◌, ℕ, ◌-◌, ◌<◌, ◌≤◌, List, [], ◌∷◌, ◌++◌, length, take, refl, sym, ◌∙◌, ap, arith, length-append}
use Rattle.std.specs.List.{AllByRecursion}
use Rattle.std.specs.Ordering.{nat_cmp}
use Rattle.std.specs.declared.cmp.Ordering.{Ordering}
use Rattle.std.specs.declared.cmp.Ordering.TheVariants.{Less, Equal, Greater}
use Rattle.std.proofs.lemmas.Cmp.{ranked}
use Rattle.jc_rules.specs.declared.id.Id.{Id}
use Rattle.jc_rules.specs.declared.operation.Op.{Op}
use Rattle.jc_rules.specs.Order.{id_cmp}
use Rattle.jc_rules.specs.Table.{with_op}
use Rattle.jc_replica.specs.Operations.{identifiers, AreInOrder}

-- no counter is greater
abbrev pub AreUpTo : ℕ → List Op → Type 0
AreUpTo n os = AllByRecursion (λ o. o.id.counter ≤ n) os

pub with_op-last : (n : ℕ) (o : Op) (os : List Op) → AreUpTo n os → n < o.id.counter → with_op o os ≡ os ++ o ∷ []
with_op-last n o [] h l = refl
with_op-last n o (p ∷ os) h l = go (nat_cmp o.id.counter p.id.counter) refl (with_op-last n o os h.1 l)
  where
    go : (q : Ordering) → nat_cmp o.id.counter p.id.counter ≡ q → with_op o os ≡ os ++ o ∷ [] → with_op o (p ∷ os) ≡ p ∷ (os ++ o ∷ [])
    go Less e ih = absurd (let m = ranked o.id.counter p.id.counter Less (sym e) in omega (arith, h.0))
    go Equal e ih = absurd (let m = ranked o.id.counter p.id.counter Equal (sym e) in omega (arith, h.0))
    go Greater e ih = rw e (ap (λ r. p ∷ r) ih)

pub up_to-pushed : (n m : ℕ) (o : Op) (os : List Op) → AreUpTo n os → n ≤ m → o.id.counter ≤ m → AreUpTo m (os ++ o ∷ [])
up_to-pushed n m o [] h l g = (g, tt)
up_to-pushed n m o (p ∷ os) h l g = (omega (arith, h.0), up_to-pushed n m o os h.1 l g)

-- in order still
less_counter : (i j : Id) → i.counter < j.counter → id_cmp i j ≡ Less
less_counter i j l = go (nat_cmp i.counter j.counter) refl
  where
    go : (q : Ordering) → nat_cmp i.counter j.counter ≡ q → id_cmp i j ≡ Less
    go Less e = rw e refl
    go Equal e = absurd (let m = ranked i.counter j.counter Equal (sym e) in omega (arith, l))
    go Greater e = absurd (let m = ranked i.counter j.counter Greater (sym e) in omega (arith, l))

all_less : (i : Id) (o : Op) (os : List Op) → id_cmp i o.id ≡ Less → AllByRecursion (λ j. id_cmp i j ≡ Less) (identifiers os) → AllByRecursion (λ j. id_cmp i j ≡ Less) (identifiers (os ++ o ∷ []))
all_less i o [] l h = (l, tt)
all_less i o (p ∷ os) l h = (h.0, all_less i o os l h.1)

pub in_order-pushed : (n : ℕ) (o : Op) (os : List Op) → AreInOrder os → AreUpTo n os → n < o.id.counter → AreInOrder (os ++ o ∷ [])
in_order-pushed n o [] r h l = (tt, tt)
in_order-pushed n o (p ∷ os) r h l =
    (all_less p.id o os (less_counter p.id o.id (omega (arith, h.0, l))) r.0, in_order-pushed n o os r.1 h.1 l)

-- and without it
pub front : (os : List Op) (o : Op) → take (length (os ++ o ∷ []) - 1) (os ++ o ∷ []) ≡ os
front os o =
    let n : length (os ++ o ∷ []) - 1 ≡ length os = omega (arith, length-append os (o ∷ [])) in
    ap (λ (m : ℕ). take m (os ++ o ∷ [])) n ∙ go os
  where
    go : (xs : List Op) → take (length xs) (xs ++ o ∷ []) ≡ xs
    go [] = refl
    go (x ∷ xs) = ap (λ (y : List Op). x ∷ y) (go xs)

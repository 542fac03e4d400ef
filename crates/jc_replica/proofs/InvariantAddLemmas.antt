-- Lemmas about Invariant, where an identifier is added to those applied.
use Rattle.std.proofs.Common.{◌≡◌, ◌≢◌, ◌<◌, ◌≤◌, max, List, [], ◌∷◌, Bool, true, false, ◌||◌, refl, sym, ◌∙◌, ap, arith}
use Rattle.std.specs.declared.cmp.Ordering.{Ordering}
use Rattle.std.specs.declared.cmp.Ordering.TheVariants.{Less, Equal, Greater}
use Rattle.jc_rules.specs.declared.id.Id.{Id}
use Rattle.jc_rules.specs.Context.{Context}
use Rattle.jc_rules.specs.VersionVectors.{covered, ids_up_to, greatest_of}
use Rattle.jc_rules.specs.Ids.{has_id, with_id, union, greatest}
use Rattle.jc_rules.specs.Order.{id_cmp}
use Rattle.jc_rules.proofs.IdSetLemmas.{member_greatest, greatest-filled}
use Rattle.jc_rules.proofs.CoveredLemmas.{counted_in, filled-with, greatest_here, greatest_of-filled, greatest_of-with, same_filled}
use Rattle.jc_rules.proofs.IdsLemmas.{has_id-union}
use Rattle.jc_rules.proofs.OrderLemmas.{exact_ids}
use Rattle.jc_apply.specs.Fits.{IsUnlinked}
use Rattle.jc_replica.specs.Invariant.{IsGreatest}

-- inserting into all that counters tell
filled_more : (i : Id) (s : List Id) → s ≡ covered s → union (ids_up_to i.replica i.counter) s ≡ covered (with_id i s)
filled_more i s e = ap (λ (x : List Id). union (ids_up_to i.replica i.counter) x) e ∙ sym (filled-with i s)

pub counters_after : (i : Id) (s : List Id) → s ≡ covered s → union (ids_up_to i.replica i.counter) s ≡ covered (union (ids_up_to i.replica i.counter) s)
counters_after i s e =
    let m = filled_more i s e in
    m ∙ sym (same_filled (covered (with_id i s)) (with_id i s) (λ p. greatest_of-filled p (with_id i s))) ∙ ap covered (sym m)

greatest_with : (i : Id) (s : List Id) → greatest (with_id i s) ≡ max i.counter (greatest s)
greatest_with i [] = refl
greatest_with i (j ∷ s) = go (id_cmp i j) refl (greatest_with i s)
  where
    go : (o : Ordering) → id_cmp i j ≡ o → greatest (with_id i s) ≡ max i.counter (greatest s) → greatest (with_id i (j ∷ s)) ≡ max i.counter (greatest (j ∷ s))
    go Less e ih = rw e refl
    go Equal e ih = rw e (omega (arith, ap (λ (x : Id). x.counter) (exact_ids i j e)))
    go Greater e ih = rw e (omega (arith, ih))

pub greatest_after : (i : Id) (s : List Id) → s ≡ covered s → greatest (union (ids_up_to i.replica i.counter) s) ≡ max i.counter (greatest s)
greatest_after i s e = ap greatest (filled_more i s e) ∙ greatest-filled (with_id i s) ∙ greatest_with i s

pub is_greatest : (i : Id) (s : List Id) → s ≡ covered s → greatest_of i.replica s < i.counter → IsGreatest i (greatest_of i.replica s) (union (ids_up_to i.replica i.counter) s)
is_greatest i s e l =
    let most : greatest_of i.replica (with_id i s) ≡ max i.counter (greatest_of i.replica s) = greatest_of-with i.replica i s ∙ greatest_here i s i.replica refl in
    record {
      greatest = ap (greatest_of i.replica) (filled_more i s e) ∙ greatest_of-filled i.replica (with_id i s) ∙ omega (arith, most, l);
      lower = l;
    }

-- a counter that is greater than all others
pub not_there : (i : Id) (s : List Id) → greatest s < i.counter → has_id i s ≡ false
not_there i s l = go (has_id i s) refl
  where
    go : (b : Bool) → has_id i s ≡ b → has_id i s ≡ false
    go false e = e
    go true e = absurd (omega (arith, l, member_greatest i s e))

neither : (a b : Bool) → a || b ≡ false → (a ≡ false) × (b ≡ false)
neither true b e = cc
neither false b e = (refl, e)

-- only what was applied is linked, where no other identifier than the added one got linked
pub still_linked : (c d : Context) (s : List Id) (i : Id) → 1 ≤ i.counter → ((j : Id) → has_id j s ≡ false → IsUnlinked j c) → ((j : Id) → j ≢ i → IsUnlinked j c → IsUnlinked j d) → (j : Id) → has_id j (union (ids_up_to i.replica i.counter) s) ≡ false → IsUnlinked j d
still_linked c d s i l u f j h =
    let n = neither (has_id j (ids_up_to i.replica i.counter)) (has_id j s) (sym (has_id-union j (ids_up_to i.replica i.counter) s) ∙ h) in
    f j (λ e. other e n.0) (u j n.1)
  where
    other : j ≡ i → has_id j (ids_up_to i.replica i.counter) ≡ false → ⊥
    other e n = let t : true ≡ false = sym (counted_in i i.replica i.counter refl l (omega arith)) ∙ ap (λ (x : Id). has_id x (ids_up_to i.replica i.counter)) (sym e) ∙ n in cc

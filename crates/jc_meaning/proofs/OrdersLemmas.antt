-- About Forest and the orders of the rules: identifiers and keys, by the tests that definitions use.
use Rattle.std.proofs.Common.{◌≡◌, ◌<◌, true, false, Option, Some, None, refl, sym, ◌∙◌, ap, arith}
use Rattle.std.specs.Ordering.{nat_cmp}
use Rattle.std.specs.declared.cmp.Ordering.{Ordering}
use Rattle.std.specs.declared.cmp.Ordering.TheVariants.{Less, Equal, Greater}
use Rattle.std.proofs.lemmas.Cmp.{ranked}
use Rattle.jc_rules.specs.declared.id.Id.{Id}
use Rattle.jc_rules.specs.declared.key.Key.{Key}
use Rattle.jc_rules.specs.Order.{id_cmp, same_id, same_key}
use Rattle.jc_rules.proofs.OrderLemmas.{ids_total, exact_ids, keys_total, exact_keys}
use Rattle.jc_rules.proofs.EntriesLemmas.{same-eq, same-self, same-back}
use Rattle.jc_rules.proofs.IdsLemmas.{equal_itself}
use Rattle.jc_rules.proofs.RisingLemmas as rising
use Rattle.jc_meaning.specs.Forest.{is_less, is_under}

pub keys_eq : (j k : Key) → same_key j k ≡ true → j ≡ k
keys_eq j k h = same-eq keys_total exact_keys j k h

pub keys_back : (j k : Key) → same_key j k ≡ same_key k j
keys_back j k = same-back keys_total exact_keys j k

pub keys_self : (k : Key) → same_key k k ≡ true
keys_self k = same-self keys_total exact_keys k

pub ids_back : (i j : Id) → same_id i j ≡ same_id j i
ids_back i j = same-back ids_total exact_ids i j

pub is_less-is : (r : Ordering) → is_less r ≡ true → r ≡ Less
is_less-is Less h = refl
is_less-is Equal h = cc
is_less-is Greater h = cc

pub less_trans : (i j k : Id) → is_less (id_cmp i j) ≡ true → is_less (id_cmp j k) ≡ true → is_less (id_cmp i k) ≡ true
less_trans i j k h g = ap is_less (ids_total.trans i j k (is_less-is (id_cmp i j) h) (is_less-is (id_cmp j k) g))

pub less_self : (i : Id) → is_less (id_cmp i i) ≡ true → ⊥
less_self i h = let e : false ≡ true = sym (ap is_less (equal_itself i)) ∙ h in cc

pub less_total : (i j : Id) → is_less (id_cmp i j) ≡ false → same_id i j ≡ false → is_less (id_cmp j i) ≡ true
less_total i j h g = go (id_cmp i j) refl
  where
    go : (r : Ordering) → id_cmp i j ≡ r → is_less (id_cmp j i) ≡ true
    go Less e = let f : true ≡ false = sym (ap is_less e) ∙ h in cc
    go Equal e = let f : true ≡ false = rw e at g in cc
    go Greater e = ap is_less (rising.greater_less ids_total i j e)

-- neither is less, so they are one
pub not_apart : (i j : Id) → (is_less (id_cmp i j) ≡ true → ⊥) → (is_less (id_cmp j i) ≡ true → ⊥) → i ≡ j
not_apart i j h g = go (id_cmp i j) refl
  where
    go : (r : Ordering) → id_cmp i j ≡ r → i ≡ j
    go Less e = absurd (h (ap is_less e))
    go Equal e = exact_ids i j e
    go Greater e = absurd (g (ap is_less (rising.greater_less ids_total i j e)))

pub less_counter : (i j : Id) → i.counter < j.counter → is_less (id_cmp i j) ≡ true
less_counter i j l = go (nat_cmp i.counter j.counter) refl
  where
    go : (q : Ordering) → nat_cmp i.counter j.counter ≡ q → is_less (id_cmp i j) ≡ true
    go Less e = rw e refl
    go Equal e = absurd (let m = ranked i.counter j.counter Equal (sym e) in omega (arith, l))
    go Greater e = absurd (let m = ranked i.counter j.counter Greater (sym e) in omega (arith, l))

pub under_less : (l i : Id) (b : Option Id) → is_less (id_cmp l i) ≡ true → is_under i b ≡ true → is_under l b ≡ true
under_less l i None e h = refl
under_less l i (Some j) e h = less_trans l i j e h

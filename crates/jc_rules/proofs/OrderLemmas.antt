-- About specs/Order: the orders of identifiers, names and keys are total and tell different ones apart.
use Rattle.std.proofs.Common.{◌≡◌, ℕ, refl, ap, subst}
use Rattle.std.specs.Cmp.{IsTotalOrder}
use Rattle.std.specs.FinMap.{slice_cmp-IsAntisymmetric, nat_cmp-IsAntisymmetric}
use Rattle.std.specs.Ordering.{nat_cmp}
use Rattle.std.proofs.lemmas.Map.Lookups.{CmpEqualImpliesEq, exact_pairs, exact_unsigned}
use Rattle.jc_rules.specs.declared.key.Key.{Key}
use Rattle.jc_rules.specs.declared.key.Key.TheVariants.{Doc, Head, Name, Elem}
use Rattle.jc_rules.specs.contracts.id.IdOrd.TheImpl.Laws.{total-law as id-total-law}
use Rattle.jc_rules.specs.contracts.key.KeyOrd.TheImpl.{cmp-value}
use Rattle.jc_rules.specs.contracts.key.KeyOrd.TheImpl.Laws.{total-law}
use Rattle.jc_rules.specs.contracts.text.TextOrd.TheImpl.Laws.{total-law as text-total-law}
use Rattle.jc_rules.specs.Order.{id_cmp, name_cmp, key_cmp}

pub ids_total : IsTotalOrder id_cmp
ids_total = id-total-law

pub names_total : IsTotalOrder name_cmp
names_total = text-total-law

-- the derived order of keys is the published one
pub same_cmp : (a b : Key) → cmp-value.it a b ≡ key_cmp a b
same_cmp Doc Doc = refl
same_cmp Doc Head = refl
same_cmp Doc (Name t) = refl
same_cmp Doc (Elem j) = refl
same_cmp Head Doc = refl
same_cmp Head Head = refl
same_cmp Head (Name t) = refl
same_cmp Head (Elem j) = refl
same_cmp (Name s) Doc = refl
same_cmp (Name s) Head = refl
same_cmp (Name s) (Name t) = refl
same_cmp (Name s) (Elem j) = refl
same_cmp (Elem i) Doc = refl
same_cmp (Elem i) Head = refl
same_cmp (Elem i) (Name t) = refl
same_cmp (Elem i) (Elem j) = refl

pub keys_total : IsTotalOrder key_cmp
keys_total = subst IsTotalOrder (λ i a b. same_cmp a b i) total-law

pub exact_ids : CmpEqualImpliesEq id_cmp
exact_ids i j h = ap (λ (p : ℕ × ℕ). record { counter = p.0; replica = p.1 }) (exact_pairs nat_cmp nat_cmp exact_unsigned exact_unsigned (i.counter, i.replica) (j.counter, j.replica) h)

pub exact_names : CmpEqualImpliesEq name_cmp
exact_names s t h = slice_cmp-IsAntisymmetric nat_cmp-IsAntisymmetric s t h

pub exact_keys : CmpEqualImpliesEq key_cmp
exact_keys Doc Doc h = refl
exact_keys Head Head h = refl
exact_keys (Name s) (Name t) h = ap Name (exact_names s t h)
exact_keys (Elem i) (Elem j) h = ap Elem (exact_ids i j h)
exact_keys Doc Head h = cc
exact_keys Doc (Name t) h = cc
exact_keys Doc (Elem t) h = cc
exact_keys Head Doc h = cc
exact_keys Head (Name t) h = cc
exact_keys Head (Elem t) h = cc
exact_keys (Name s) Doc h = cc
exact_keys (Name s) Head h = cc
exact_keys (Name s) (Elem t) h = cc
exact_keys (Elem s) Doc h = cc
exact_keys (Elem s) Head h = cc
exact_keys (Elem s) (Name t) h = cc

-- About src/path: lists of tagged keys are compared truly.
use Rattle.std.proofs.Common.{◌≡◌, ◌&&◌, ℕ, List, Bool, true, refl, ap, ap₂, nat_eq, Decides, eqb-true, eq-eqb}
use Rattle.std.specs.Cmp.Lexicographic.{pointwise}
use Rattle.std.proofs.lemmas.Bool.{and_parts, and_from}
use Rattle.std.proofs.lemmas.Bool.Decides.{Decides-eqb}
use Rattle.std.proofs.lemmas.Slice.Eq.{slice_eq-Decides}
use Rattle.jc_rules.specs.declared.id.Id.{Id}
use Rattle.jc_rules.specs.declared.key.Key.{Key}
use Rattle.jc_rules.specs.declared.key.Key.TheVariants.{Doc, Head, Name, Elem}
use Rattle.jc_rules.specs.declared.key.Tagged.{Tagged}
use Rattle.jc_rules.specs.declared.key.Tagged.TheVariants.{MapT, ListT, RegT}
use Rattle.jc_rules.specs.contracts.key.TaggedPartialEq.TheImpl.{eq-value}
use Rattle.jc_rules.specs.contracts.key.KeyPartialEq.TheImpl.{eq-value as key-eq}

texts : (s t : List ℕ) → Decides (pointwise nat_eq s t) (s ≡ t)
texts s t = slice_eq-Decides Decides-eqb s t (pointwise nat_eq s t) refl

keys : (k j : Key) → Decides (key-eq.it k j) (k ≡ j)
keys Doc Doc = ((λ h. refl), (λ h. refl))
keys Head Head = ((λ h. refl), (λ h. refl))
keys (Name s) (Name t) = ((λ h. ap Name ((texts s t).0 h)), (λ h. (texts s t).1 (name_text h)))
  where
    name_text : {s t : List ℕ} → Name s ≡ Name t → s ≡ t
    name_text h = cc
keys (Elem i) (Elem j) = (there, back)
  where
    there : nat_eq i.counter j.counter && nat_eq i.replica j.replica ≡ true → Elem i ≡ Elem j
    there h =
        let parts = and_parts (nat_eq i.counter j.counter) (nat_eq i.replica j.replica) h in
        ap₂ (λ (x y : ℕ). Elem (record { counter = x; replica = y })) (eqb-true i.counter j.counter parts.0) (eqb-true i.replica j.replica parts.1)

    back : Elem i ≡ Elem j → nat_eq i.counter j.counter && nat_eq i.replica j.replica ≡ true
    back h =
        let e : i ≡ j = cc in
        and_from (nat_eq i.counter j.counter) (nat_eq i.replica j.replica) (eq-eqb i.counter j.counter (ap (λ (k : Id). k.counter) e)) (eq-eqb i.replica j.replica (ap (λ (k : Id). k.replica) e))
keys Doc Head = ((λ h. cc), (λ h. cc))
keys Doc (Name t) = ((λ h. cc), (λ h. cc))
keys Doc (Elem j) = ((λ h. cc), (λ h. cc))
keys Head Doc = ((λ h. cc), (λ h. cc))
keys Head (Name t) = ((λ h. cc), (λ h. cc))
keys Head (Elem j) = ((λ h. cc), (λ h. cc))
keys (Name s) Doc = ((λ h. cc), (λ h. cc))
keys (Name s) Head = ((λ h. cc), (λ h. cc))
keys (Name s) (Elem j) = ((λ h. cc), (λ h. cc))
keys (Elem i) Doc = ((λ h. cc), (λ h. cc))
keys (Elem i) Head = ((λ h. cc), (λ h. cc))
keys (Elem i) (Name t) = ((λ h. cc), (λ h. cc))

tagged : (a b : Tagged) → Decides (eq-value.it a b) (a ≡ b)
tagged (MapT k) (MapT j) = ((λ h. ap MapT ((keys k j).0 h)), (λ h. (keys k j).1 cc))
tagged (ListT k) (ListT j) = ((λ h. ap ListT ((keys k j).0 h)), (λ h. (keys k j).1 cc))
tagged (RegT k) (RegT j) = ((λ h. ap RegT ((keys k j).0 h)), (λ h. (keys k j).1 cc))
tagged (MapT k) (ListT j) = ((λ h. cc), (λ h. cc))
tagged (MapT k) (RegT j) = ((λ h. cc), (λ h. cc))
tagged (ListT k) (MapT j) = ((λ h. cc), (λ h. cc))
tagged (ListT k) (RegT j) = ((λ h. cc), (λ h. cc))
tagged (RegT k) (MapT j) = ((λ h. cc), (λ h. cc))
tagged (RegT k) (ListT j) = ((λ h. cc), (λ h. cc))

pub paths_compared : (ks js : List Tagged) (r : Bool) → r ≡ pointwise eq-value.it ks js → Decides r (ks ≡ js)
paths_compared = slice_eq-Decides tagged

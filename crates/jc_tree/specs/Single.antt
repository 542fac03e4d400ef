-- That a content is well formed has one proof, so a store's invariant is a proposition.
use Rattle.std.specs.Prelude.{◌≡◌, List, [], ◌∷◌}
use Rattle.std.specs.List.{AllByRecursion, AllByRecursion-prop}
use Rattle.std.specs.Coded.{×_prop, Unit-prop}
use Rattle.std.specs.Ordering.{Ordering-set}
use Rattle.std.specs.declared.cmp.Ordering.{Ordering}
use Rattle.std.specs.declared.cmp.Ordering.TheVariants.{Less}
use Rattle.jc_rules.specs.declared.value.Value.{Value}
use Rattle.jc_rules.specs.declared.value.Value.TheVariants as V
use Rattle.jc_rules.specs.Order.{id_cmp, key_cmp}
use Rattle.jc_rules.specs.Entries.{IsRising, keys_of}
use Rattle.jc_rules.specs.Ids.{AreRising}
use Rattle.jc_rules.specs.Context.{Context, context, Children, no_child, child, listed, Register, IsPrimitive}
use Rattle.jc_rules.specs.WellFormed.{IsWellFormedContext, AreWellFormedContexts, IsWellFormedRegister}

pub IsRising-single : {K : Type 0} (R : K → K → Ordering) (ks : List K) → IsProp (IsRising R ks)
IsRising-single R [] = Unit-prop
IsRising-single R (k ∷ ks) =
    ×_prop (AllByRecursion-prop (λ j. R k j ≡ Less) (λ j. Ordering-set _ _) ks) (IsRising-single R ks)

IsPrimitive-single : (v : Value) → IsProp (IsPrimitive v)
IsPrimitive-single V.EmptyMap = λ x y. absurd x
IsPrimitive-single V.EmptyList = λ x y. absurd x
IsPrimitive-single (V.Number t) = Unit-prop
IsPrimitive-single (V.Str t) = Unit-prop
IsPrimitive-single V.True = Unit-prop
IsPrimitive-single V.False = Unit-prop
IsPrimitive-single V.Null = Unit-prop

IsKeptRegister-single : (r : Register) → IsProp (IsWellFormedRegister r)
IsKeptRegister-single r =
    ×_prop (IsRising-single id_cmp (keys_of r))
    (AllByRecursion-prop (λ e. IsPrimitive e.1) (λ e. IsPrimitive-single e.1) r)

mutual
  pub IsKept-single : (c : Context) → IsProp (IsWellFormedContext c)
  IsKept-single (context m l r p n) =
      let maps = IsRising-single key_cmp (keys_of (listed m)) in
      let lists = IsRising-single key_cmp (keys_of (listed l)) in
      let registers = IsRising-single key_cmp (keys_of r) in
      let presences = IsRising-single key_cmp (keys_of p) in
      let links = IsRising-single key_cmp (keys_of n) in
      let values = AllByRecursion-prop (λ e. IsWellFormedRegister e.1) (λ e. IsKeptRegister-single e.1) r in
      let ids = AllByRecursion-prop (λ e. AreRising e.1) (λ e. IsRising-single id_cmp e.1) p in
      let in_maps = AreKept-single m in
      let in_lists = AreKept-single l in
      hlevel (maps, lists, registers, presences, links, values, ids, in_maps, in_lists)

  AreKept-single : (cs : Children) → IsProp (AreWellFormedContexts cs)
  AreKept-single no_child = Unit-prop
  AreKept-single (child k c cs) = ×_prop (IsKept-single c) (AreKept-single cs)

pub AreAllKept-single : (cs : List Context) → IsProp (AllByRecursion IsWellFormedContext cs)
AreAllKept-single cs = AllByRecursion-prop IsWellFormedContext IsKept-single cs

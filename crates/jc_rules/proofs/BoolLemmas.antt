-- Facts of Booleans and options that several crates cite.
use Rattle.std.proofs.Common.{◌≡◌, ◌≢◌, ◌⊎◌, inl, inr, Bool, true, false, not, ◌||◌, ◌&&◌, Option, Some, None, is_some, refl, sym, ◌∙◌}

pub none_of : {A : Type 0} (x : Option A) → is_some x ≡ false → x ≡ None
none_of None h = refl
none_of (Some x) h = cc

pub not_none : {A : Type 0} (x : A) (o : Option A) → o ≡ Some x → o ≢ None
not_none x o h n = let e : Some x ≡ None = sym h ∙ n in cc

-- what isn't true is false
pub untrue : (a : Bool) → not a ≡ true → a ≡ false
untrue true h = cc
untrue false h = refl

pub no_truth : {A : Type 0} → false ≡ true → A
no_truth h = absurd (let f : ⊥ = cc in f)

pub or_right : (a b : Bool) → b ≡ true → a || b ≡ true
or_right true b h = refl
or_right false b h = h

pub or_cases : (a b : Bool) → a || b ≡ true → (a ≡ true) ⊎ (b ≡ true)
or_cases true b h = inl refl
or_cases false b h = inr h

pub neither : (a b : Bool) → (a || b) ≡ false → (a ≡ false) × (b ≡ false)
neither true b h = cc
neither false b h = (refl, h)

pub or_swap : (a b c : Bool) → a || (b || c) ≡ b || (a || c)
or_swap true true c = refl
or_swap true false c = refl
or_swap false true c = refl
or_swap false false c = refl

pub and_true : (a : Bool) → a && true ≡ a
and_true true = refl
and_true false = refl

-- tests that pass by each other are one
pub same_tests : (a b : Bool) → (a ≡ true → b ≡ true) → (b ≡ true → a ≡ true) → a ≡ b
same_tests true b f g = sym (f refl)
same_tests false true f g = g refl
same_tests false false f g = refl

pub first_true : (x y : Bool) → (x && y) ≡ true → x ≡ true
first_true true y h = refl
first_true false y h = cc

pub second_true : (x y : Bool) → (x && y) ≡ true → y ≡ true
second_true true y h = h
second_true false y h = cc

pub both_true : (x y : Bool) → x ≡ true → y ≡ true → (x && y) ≡ true
both_true true y h g = g
both_true false y h g = cc

pub no_either : (x y : Bool) → x ≡ false → y ≡ false → (x || y) ≡ false
no_either true y h g = cc
no_either false y h g = g

-- what isn't true is false
pub not_so : (x : Bool) → (x ≡ true → ⊥) → x ≡ false
not_so true f = absurd (f refl)
not_so false f = refl

pub or_false : (a : Bool) → a || false ≡ a
or_false true = refl
or_false false = refl

pub and_false : (a : Bool) → a && false ≡ false
and_false true = refl
and_false false = refl

pub or_assoc : (a b c : Bool) → a || (b || c) ≡ (a || b) || c
or_assoc true b c = refl
or_assoc false b c = refl

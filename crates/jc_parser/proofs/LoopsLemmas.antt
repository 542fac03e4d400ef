-- For `scripts` and `scenarios`: loops over the items of a list.
use Rattle.std.proofs.Common.{◌≡◌, ◌≢◌, ℕ, zero, suc, ◌-◌, Bool, true, false, List, [], ◌∷◌, ◌++◌, Ok, Err, refl, sym, ap, append_assoc, sub-one, arith}
use Rattle.std.proofs.lemmas.List.{append-nil}
use Rattle.jc_syntax.specs.declared.token.TokenKind.TheVariants.{Semi}
use Rattle.jc_parser.specs.declared.fault.ScenarioFault.{ScenarioFault}
use Rattle.jc_grammar.specs.Symbols.{Symbol}
use Rattle.jc_parser.specs.ReaderState.{Reading, ReadOutcome, ◌>>=◌, begins, has_kind, skip}
use Rattle.jc_parser.specs.PartReaders.{items_at}

-- ---- items

-- these items before what was read
abbrev pub with_front : {A : Type 0} → List A → ReadOutcome (List A) → ReadOutcome (List A)
with_front front read = read >>= λ x. Ok (front ++ x.0, x.1)

pub items_done : {A : Type 0} (p : Symbol → Bool) (item : Reading → ReadOutcome A) (beyond : Reading → ScenarioFault) (n : ℕ) (r : Reading) (front : List A) → begins p r ≡ false → with_front front (items_at p item beyond n r) ≡ Ok (front, r)
unfolding items_at
items_done p item beyond zero r front none = rw none (ap (λ l. Ok (l, r)) (append-nil front))
items_done p item beyond (suc n) r front none = rw none (ap (λ l. Ok (l, r)) (append-nil front))

pub items_full : {A : Type 0} (p : Symbol → Bool) (item : Reading → ReadOutcome A) (beyond : Reading → ScenarioFault) (n : ℕ) (r : Reading) (front : List A) → n ≡ 0 → begins p r ≡ true → with_front front (items_at p item beyond n r) ≡ Err (beyond r)
unfolding items_at
items_full p item beyond zero r front z some = rw some refl
items_full p item beyond (suc n) r front z some = absurd (omega arith)

pub items_fail : {A : Type 0} (p : Symbol → Bool) (item : Reading → ReadOutcome A) (beyond : Reading → ScenarioFault) (n : ℕ) (r : Reading) (front : List A) (f : ScenarioFault) → n ≢ 0 → begins p r ≡ true → item r ≡ Err f → with_front front (items_at p item beyond n r) ≡ Err f
unfolding items_at
items_fail p item beyond zero r front f z some fails = absurd (z refl)
items_fail p item beyond (suc n) r front f z some fails = rw (some, fails) refl

pub items_last : {A : Type 0} (p : Symbol → Bool) (item : Reading → ReadOutcome A) (beyond : Reading → ScenarioFault) (n : ℕ) (r after : Reading) (x : A) (front : List A) → n ≢ 0 → begins p r ≡ true → item r ≡ Ok (x, after) → begins (has_kind Semi) after ≡ false → with_front front (items_at p item beyond n r) ≡ Ok (front ++ x ∷ [], after)
unfolding items_at
items_last p item beyond zero r after x front z some reads ends = absurd (z refl)
items_last p item beyond (suc n) r after x front z some reads ends = rw (some, reads, ends) refl

regroup : {A : Type 0} (read : ReadOutcome (List A)) (x : A) (front : List A) → with_front front (read >>= λ rest. Ok (x ∷ rest.0, rest.1)) ≡ with_front (front ++ x ∷ []) read
regroup (Ok y) x front = ap (λ l. Ok (l, y.1)) (sym (append_assoc front (x ∷ []) y.0))
regroup (Err e) x front = refl

pub items_next : {A : Type 0} (p : Symbol → Bool) (item : Reading → ReadOutcome A) (beyond : Reading → ScenarioFault) (n : ℕ) (r after next : Reading) (x : A) (front : List A) → n ≢ 0 → begins p r ≡ true → item r ≡ Ok (x, after) → begins (has_kind Semi) after ≡ true → skip (has_kind Semi) after ≡ Ok (tt, next) → with_front front (items_at p item beyond n r) ≡ with_front (front ++ x ∷ []) (items_at p item beyond (n - 1) next)
unfolding items_at
items_next p item beyond zero r after next x front z some reads goes skips = absurd (z refl)
items_next p item beyond (suc n) r after next x front z some reads goes skips = rw (some, reads, goes, skips, sub-one) (regroup (items_at p item beyond n next) x front)

-- For `expressions`: the loop over selectors, and indices.
use Rattle.std.proofs.Common.{◌≡◌, ◌≢◌, ℕ, zero, suc, ◌-◌, ◌<◌, true, false, not, ◌==◌, inl, inr, List, [], ◌∷◌, length, Ok, Err, Option, Some, None, refl, sub-one, arith}
use Rattle.std.specs.Prelude.{nat_lt, if◌then◌else◌}
use Rattle.std.specs.Str.{all_ascii_digits}
use Rattle.std.specs.Str.Parse.{ParsesUnsigned, digits_value}
use Rattle.std.proofs.lemmas.Bool.{cases_Bool, ltb-true}
use Rattle.std.proofs.lemmas.Str.Parse.{IsNumeralModel, numerals_by_value, tells_all_ascii_digits, parse_digits}
use Rattle.jc_syntax.specs.declared.token.TokenKind.TheVariants.{Dot}
use Rattle.jc_rules.specs.Syntax.{Expr}
use Rattle.jc_parser.specs.declared.fault.ScenarioFault.{ScenarioFault}
use Rattle.jc_parser.specs.declared.fault.ScenarioFault.TheVariants.{TooLongExpression}
use Rattle.jc_parser.specs.ReaderState.{Reading, begins, has_kind, skip, place}
use Rattle.jc_grammar.specs.SymbolTests.{is_numeral, numeral_value}
use Rattle.jc_parser.specs.ExpressionReader.{Selector, is_selector, extended, step_at, chain_at}
use Rattle.jc_grammar.proofs.LookAheadLemmas.{both_true}

pub chain_done : (n : ℕ) (e : Expr) (r : Reading) → begins (has_kind Dot) r ≡ false → chain_at n e r ≡ Ok (record { expression = e; dotted = false }, r)
unfolding chain_at
chain_done zero e r none = rw none refl
chain_done (suc n) e r none = rw none refl

pub chain_dotted : (n : ℕ) (e : Expr) (r after : Reading) → begins (has_kind Dot) r ≡ true → skip (has_kind Dot) r ≡ Ok (tt, after) → begins is_selector after ≡ false → chain_at n e r ≡ Ok (record { expression = e; dotted = true }, after)
unfolding chain_at
chain_dotted zero e r after some skips other = rw (some, skips, other) refl
chain_dotted (suc n) e r after some skips other = rw (some, skips, other) refl

pub chain_full : (n : ℕ) (e : Expr) (r after : Reading) → n ≡ 0 → begins (has_kind Dot) r ≡ true → skip (has_kind Dot) r ≡ Ok (tt, after) → begins is_selector after ≡ true → chain_at n e r ≡ Err (TooLongExpression (place r))
unfolding chain_at
chain_full zero e r after z some skips selector = rw (some, skips, selector) refl
chain_full (suc n) e r after z some skips selector = absurd (omega arith)

pub chain_fail : (n : ℕ) (e : Expr) (r after : Reading) (f : ScenarioFault) → n ≢ 0 → begins (has_kind Dot) r ≡ true → skip (has_kind Dot) r ≡ Ok (tt, after) → begins is_selector after ≡ true → step_at after ≡ Err f → chain_at n e r ≡ Err f
unfolding chain_at
chain_fail zero e r after f z some skips selector fails = absurd (z refl)
chain_fail (suc n) e r after f z some skips selector fails = rw (some, skips, selector, fails) refl

pub chain_next : (n : ℕ) (e : Expr) (r after next : Reading) (s : Selector) → n ≢ 0 → begins (has_kind Dot) r ≡ true → skip (has_kind Dot) r ≡ Ok (tt, after) → begins is_selector after ≡ true → step_at after ≡ Ok (s, next) → chain_at n e r ≡ chain_at (n - 1) (extended e s) next
unfolding chain_at
chain_next zero e r after next s z some skips selector reads = absurd (z refl)
chain_next (suc n) e r after next s z some skips selector reads = rw (some, skips, selector, reads, sub-one) refl

-- ---- indices

some_digit : (bs : List ℕ) → not (length bs == 0) ≡ true → 0 < length bs
some_digit [] e = absurd cc
some_digit (b ∷ bs) e = omega arith

pub own_digits : IsNumeralModel (λ ds. all_ascii_digits ds ≡ true) (digits_value 10)
own_digits = numerals_by_value (λ ds. all_ascii_digits ds ≡ true) tells_all_ascii_digits

pub refused_index : {E : Type 0} (bs : List ℕ) (e : E) → ParsesUnsigned {E = E} 32 10 bs (Err e) → is_numeral bs ≡ true → None ≡ if◌then◌else◌ {A = Option ℕ} (nat_lt (numeral_value bs) 4294967296) (Some (numeral_value bs)) None
refused_index {E} bs e h numeral =
    let (some, digits) = both_true (not (length bs == 0)) (all_ascii_digits bs) numeral in
    let no = parse_digits own_digits {E = E} 32 bs (Err e) h digits in
    elim (cases_Bool (nat_lt (numeral_value bs) 4294967296)) [
      | inl less ↦ absurd (no (some_digit bs some, ltb-true (numeral_value bs) 4294967296 less))
      | inr more ↦ rw more refl
    ]

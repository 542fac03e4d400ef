-- About Along: elements that are gone over at once, since their bits are the same.
use Rattle.std.proofs.Common.{◌≡◌, ℕ, suc, zero, ◌-◌, ◌+◌, ◌*◌, ◌/◌, ◌%◌, ◌^◌, ◌<◌, ◌≤◌, ◌⊎◌, inl, inr, refl, sym, ◌∙◌, ap, arith, mul-suc, mul-zero, div-one, eq-zero-or-pos}
use Rattle.std.specs.Int.{bit_at, w64, bit_not, trailing_zeros, trailing_ones}
use Rattle.std.specs.Int.Count.{trailing_of_zero}
use Rattle.std.proofs.lemmas.Nat.{trailing_le, shr-shr}
use Rattle.std.proofs.lemmas.Nat.Bits.{bit_at_lowest, bit_at-suc, bit_at-zero, bit_at_ones, bit_at-trailing_zeros, bit_at-trailing_ones}
use Rattle.jc_rules.specs.declared.rule.Rule.{Rule}
use Rattle.jc_rules.specs.Trace.{Rows, pushed, one_deeper}
use Rattle.jc_rules.specs.Runs.{deeper, opened}
use Rattle.jc_rules.proofs.RunsLemmas.{opened_rows, opened_depth}
use Rattle.jc_cursor.specs.Along.{rule_of_bit, gone_over, count_bits}
use Rattle.jc_cursor.specs.WayDown.{IsGrown}
use Rattle.jc_cursor.proofs.TraceGrowsLemmas.{grown_on}

-- ---- the lowest bits of a word

pub zeros_same : (n i : ℕ) → n < 2 ^ 64 → n % 2 ≡ 0 → i < trailing_zeros w64 n → bit_at n i ≡ n % 2
zeros_same n i f e w = go (eq-zero-or-pos n)
  where
    go : (n ≡ 0) ⊎ (0 < n) → bit_at n i ≡ n % 2
    go (inl z) = ap (λ m. bit_at m i) z ∙ bit_at-zero i ∙ sym e
    go (inr p) = (bit_at-trailing_zeros w64 n p f).2 i w ∙ sym e

pub zeros_some : (n : ℕ) → n < 2 ^ 64 → n % 2 ≡ 0 → 0 < trailing_zeros w64 n
zeros_some n f e = go (eq-zero-or-pos n)
  where
    lowest : 0 < n → (trailing_zeros w64 n ≡ 0) ⊎ (0 < trailing_zeros w64 n) → 0 < trailing_zeros w64 n
    lowest p (inl z) =
        let one : bit_at n 0 ≡ 1 = ap (bit_at n) (sym z) ∙ (bit_at-trailing_zeros w64 n p f).1 in
        absurd (omega (arith, one, bit_at_lowest n, e))
    lowest p (inr q) = q

    go : (n ≡ 0) ⊎ (0 < n) → 0 < trailing_zeros w64 n
    go (inl z) =
        let all : trailing_zeros w64 n ≡ 64 = ap (trailing_zeros w64) z ∙ trailing_of_zero 64 in
        omega (arith, all)
    go (inr p) = lowest p (eq-zero-or-pos (trailing_zeros w64 n))

pub ones_same : (n i : ℕ) → n < 2 ^ 64 → n % 2 ≡ 1 → i < trailing_ones w64 n → bit_at n i ≡ n % 2
ones_same n i f e w = go (eq-zero-or-pos (2 ^ 64 - 1 - n))
  where
    go : (2 ^ 64 - 1 - n ≡ 0) ⊎ (0 < 2 ^ 64 - 1 - n) → bit_at n i ≡ n % 2
    go (inl z) =
        let all : n ≡ 2 ^ 64 - 1 = omega (arith, z, f) in
        let least : i < 64 = omega (arith, w, trailing_le 64 (bit_not w64 n)) in
        ap (λ m. bit_at m i) all ∙ bit_at_ones 64 i least ∙ sym e
    go (inr p) = (bit_at-trailing_ones w64 n (omega (arith, p))).2 i w ∙ sym e

pub ones_some : (n : ℕ) → n < 2 ^ 64 → n % 2 ≡ 1 → 0 < trailing_ones w64 n
ones_some n f e = go (eq-zero-or-pos (2 ^ 64 - 1 - n))
  where
    lowest : 0 < 2 ^ 64 - 1 - n → (trailing_ones w64 n ≡ 0) ⊎ (0 < trailing_ones w64 n) → 0 < trailing_ones w64 n
    lowest p (inl z) =
        let none : bit_at n 0 ≡ 0 = ap (bit_at n) (sym z) ∙ (bit_at-trailing_ones w64 n (omega (arith, p))).1 in
        absurd (omega (arith, none, bit_at_lowest n, e))
    lowest p (inr q) = q

    go : (2 ^ 64 - 1 - n ≡ 0) ⊎ (0 < 2 ^ 64 - 1 - n) → 0 < trailing_ones w64 n
    go (inl z) =
        let all : trailing_ones w64 n ≡ 64 = ap (trailing_zeros w64) z ∙ trailing_of_zero 64 in
        omega (arith, all)
    go (inr p) = lowest p (eq-zero-or-pos (trailing_ones w64 n))

-- ---- elements whose bits are the same

lowest_is : (bits b n k : ℕ) → n ≡ suc k → ((i : ℕ) → i < n → bit_at bits i ≡ b) → bits % 2 ≡ b
lowest_is bits b n k e h = sym (bit_at_lowest bits) ∙ h 0 (omega (arith, e))

others_are : (bits b k : ℕ) → ((i : ℕ) → i < suc k → bit_at bits i ≡ b) → (i : ℕ) → i < k → bit_at (bits / 2) i ≡ b
others_are bits b k h i w = sym (bit_at-suc bits i) ∙ h (suc i) (omega (arith, w))

one_shift : (bits k : ℕ) → bits / 2 / 2 ^ k ≡ bits / 2 ^ suc k
one_shift bits k =
    let more : 1 + k ≡ suc k = omega arith in
    shr-shr bits 1 k ∙ ap (λ m. bits / 2 ^ m) more

rows_over : (span m n bits b : ℕ) (t : Rows) → n ≡ span + m → ((i : ℕ) → i < span → bit_at bits i ≡ b) → gone_over n bits t ≡ gone_over m (bits / 2 ^ span) (opened span (rule_of_bit b) t)
rows_over zero m n bits b t e h =
    let count : n ≡ m = omega (arith, e) in
    λ i. gone_over (count i) (sym (div-one bits) i) t
rows_over (suc k) m n bits b t e h =
    let count : n ≡ suc (k + m) = omega (arith, e) in
    ap (λ x. gone_over x bits t) count
    ∙ ap (λ x. gone_over (k + m) (bits / 2) (one_deeper (pushed t (rule_of_bit x)))) (lowest_is bits b (suc k) k refl h)
    ∙ rows_over k m (k + m) (bits / 2) b (one_deeper (pushed t (rule_of_bit b))) refl (others_are bits b k h)
    ∙ ap (λ x. gone_over m x (opened (suc k) (rule_of_bit b) t)) (one_shift bits k)

bits_over : (span m n bits b : ℕ) → n ≡ span + m → ((i : ℕ) → i < span → bit_at bits i ≡ b) → count_bits n bits ≡ b * span + count_bits m (bits / 2 ^ span)
bits_over zero m n bits b e h =
    let count : n ≡ m = omega (arith, e) in
    let same : count_bits n bits ≡ count_bits m (bits / 1) = λ i. count_bits (count i) (sym (div-one bits) i) in
    omega (arith, same, mul-zero b)
bits_over (suc k) m n bits b e h =
    let count : n ≡ suc (k + m) = omega (arith, e) in
    let first : count_bits n bits ≡ bits % 2 + count_bits (k + m) (bits / 2) = ap (λ x. count_bits x bits) count in
    let rest : count_bits (k + m) (bits / 2) ≡ b * k + count_bits m (bits / 2 / 2 ^ k) = bits_over k m (k + m) (bits / 2) b refl (others_are bits b k h) in
    let shift : count_bits m (bits / 2 / 2 ^ k) ≡ count_bits m (bits / 2 ^ suc k) = ap (count_bits m) (one_shift bits k) in
    omega (arith, first, rest, shift, lowest_is bits b (suc k) k refl h, mul-suc b k)

-- a span of those that are gone over
pub span_over : (span left next rest behind b : ℕ) (r : Rule) (t u v : Rows) → span ≤ left → next ≡ left - span → behind ≡ rest / 2 ^ span → ((i : ℕ) → i < span → bit_at rest i ≡ b) → r ≡ rule_of_bit b → u ≡ opened span r t → gone_over left rest t ≡ v → gone_over next behind u ≡ v
span_over span left next rest behind b r t u v most count shift same rule e h =
    let parts : left ≡ span + next = omega (arith, most, count) in
    (λ i. gone_over next (shift i) ((e ∙ ap (λ x. opened span x t) rule) i)) ∙ sym (rows_over span next left rest b t parts same) ∙ h

pub present_over : (span left next rest behind b n p q all : ℕ) → span ≤ left → next ≡ left - span → behind ≡ rest / 2 ^ span → ((i : ℕ) → i < span → bit_at rest i ≡ b) → n ≡ b * span → q ≡ p + n → p + count_bits left rest ≡ all → q + count_bits next behind ≡ all
present_over span left next rest behind b n p q all most count shift same some e h =
    let parts : left ≡ span + next = omega (arith, most, count) in
    let more : count_bits next behind ≡ count_bits next (rest / 2 ^ span) = ap (count_bits next) shift in
    omega (arith, bits_over span next left rest b parts same, more, some, e, h)

pub none_over : (n bits : ℕ) (t v : Rows) → n ≡ 0 → gone_over n bits t ≡ v → t ≡ v
none_over n bits t v e h = sym (ap (λ k. gone_over k bits t) e) ∙ h

pub no_bits : (n bits p all : ℕ) → n ≡ 0 → p + count_bits n bits ≡ all → p ≡ all
no_bits n bits p all e h = let none : count_bits n bits ≡ 0 = ap (λ k. count_bits k bits) e in omega (arith, none, h)

-- the trace grows by rows that are opened
pub grown_opened : (n : ℕ) (r : Rule) (t u v : Rows) → IsGrown t u → v ≡ opened n r u → IsGrown t v
grown_opened n r t u v g e =
    rw e (grown_on t u (opened n r u) g (record {
      longer = record { added = deeper r u.depth n; is = opened_rows n r u };
      deeper = omega (arith, opened_depth n r u);
    }))

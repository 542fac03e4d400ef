-- Of `Lines` and `SessionText`: each list of bytes is lines, and the lines up to the limits.
use Rattle.std.proofs.Common.{◌≡◌, ◌≢◌, ℕ, ◌+◌, ◌-◌, ◌<◌, ◌≤◌, nat_le, nat_eq, ◌&&◌, List, [], ◌∷◌, ◌++◌, length, take, map, Bool, true, false, if◌then◌else◌, refl, ap, sym, subst, ◌∙◌, arith, length-append, append_assoc}
use Rattle.std.specs.List.{AllByRecursion}
use Rattle.std.proofs.lemmas.Bool.Decides.{nat_tests}
use Rattle.std.proofs.lemmas.List.{map-append, length-map, take_all, take_at}
use Rattle.std.proofs.lemmas.Grind.{flat_map-append}
use Rattle.std.proofs.ByRecursion.{All-append}
use Rattle.std.proofs.Math.Seq.{take-append-add}
use Rattle.jc_session.specs.Lines.{Line, Lacks, AreLines, with_line_ends, whole_line, last_line}
use Rattle.jc_session.specs.SessionText.{End, finished, too_many, AreWithin}

pub ended_append : (xs ys : List (List ℕ)) → with_line_ends (xs ++ ys) ≡ with_line_ends xs ++ with_line_ends ys
ended_append xs ys = flat_map-append (λ x. x ++ 10 ∷ []) xs ys

-- ---- every list of bytes is lines

onward : (b : ℕ) (bs : List ℕ) (c : Bool) → nat_eq b 10 ≡ c → (whole : List (List ℕ)) (last : List ℕ) → AreLines bs whole last → (xs : List (List ℕ)) × (y : List ℕ) × AreLines (b ∷ bs) xs y
onward b bs true t whole last h =
    let is_lf : b ≡ 10 = grind (arith, nat_tests) in
    ([] ∷ whole, last, record { is = ap (λ n. n ∷ bs) is_lf ∙ ap (λ l. 10 ∷ l) h.is; no_lf = (tt, h.no_lf); last_no_lf = h.last_no_lf })
onward b bs false t [] last h =
    let other : b ≢ 10 = grind (arith, nat_tests) in
    ([], b ∷ last, record { is = ap (λ l. b ∷ l) h.is; no_lf = tt; last_no_lf = (other, h.last_no_lf) })
onward b bs false t (x ∷ xs) last h =
    let other : b ≢ 10 = grind (arith, nat_tests) in
    ((b ∷ x) ∷ xs, last, record { is = ap (λ l. b ∷ l) h.is; no_lf = ((other, h.no_lf.0), h.no_lf.1); last_no_lf = h.last_no_lf })

pub lines_of : (bytes : List ℕ) → (whole : List (List ℕ)) × (last : List ℕ) × AreLines bytes whole last
lines_of [] = ([], [], record { is = refl; no_lf = tt; last_no_lf = tt })
lines_of (b ∷ bs) = let s = lines_of bs in onward b bs (nat_eq b 10) refl s.0 s.1 s.2

-- whole lines come before
pub lines_before : (xs : List (List ℕ)) (bytes : List ℕ) (whole : List (List ℕ)) (last : List ℕ) → AllByRecursion (Lacks 10) xs → AreLines bytes whole last → AreLines (with_line_ends xs ++ bytes) (xs ++ whole) last
lines_before xs bytes whole last n h = record {
  is = ap (λ l. with_line_ends xs ++ l) h.is ∙ sym (append_assoc (with_line_ends xs) (with_line_ends whole) last) ∙ ap (λ l. l ++ last) (sym (ended_append xs whole));
  no_lf = All-append (Lacks 10) xs whole n h.no_lf;
  last_no_lf = h.last_no_lf;
}

-- ---- the lines up to the limits

-- the lines of the bytes within the limit of bytes: what is behind the last LF is one where no byte is past that limit
abbrev pub lines_in : Bool → List (List ℕ) → List ℕ → List Line
lines_in all whole last = if all then map whole_line whole ++ last_line last else map whole_line whole

-- some lines, and those behind them
in_front : (all : Bool) (whole more : List (List ℕ)) (last : List ℕ) → lines_in all (whole ++ more) last ≡ map whole_line whole ++ lines_in all more last
in_front true whole more last = ap (λ l. l ++ last_line last) (map-append whole_line whole more) ∙ append_assoc (map whole_line whole) (map whole_line more) (last_line last)
in_front false whole more last = map-append whole_line whole more

-- the lines of the bytes within the limit of bytes, up to the limit of lines
pub within : (m k : ℕ) (bytes : List ℕ) (whole : List (List ℕ)) (last : List ℕ) → AreLines (take m bytes) whole last
    → AreWithin m k bytes (take k (lines_in (nat_le (length bytes) m) whole last)) (if nat_le (length bytes) m && nat_le (length (lines_in (nat_le (length bytes) m) whole last)) k then finished else too_many)
within m k bytes whole last parts =
    record { whole = whole; last = last; parts = parts; all = lines_in (nat_le (length bytes) m) whole last; all_are = refl; lines_are = refl; end_is = refl }

same_lines : (m k : ℕ) (bytes : List ℕ) (xs ys : List Line) (end : End) → xs ≡ ys → AreWithin m k bytes xs end → AreWithin m k bytes ys end
same_lines m k bytes xs ys end same w = subst (λ (l : List Line). AreWithin m k bytes l end) same w

-- all lines, where they are within them
pub due_all : (m k : ℕ) (bytes : List ℕ) (whole : List (List ℕ)) (last : List ℕ) → AreLines bytes whole last → length bytes ≤ m → length (map whole_line whole ++ last_line last) ≤ k
    → AreWithin m k bytes (map whole_line whole ++ last_line last) finished
due_all m k bytes whole last h short few =
    let t : nat_le (length bytes) m ≡ true = grind (arith, nat_tests) in
    let u : nat_le (length (map whole_line whole ++ last_line last)) k ≡ true = grind (arith, nat_tests) in
    let w = within m k bytes whole last (subst (λ (l : List ℕ). AreLines l whole last) (sym (take_all m bytes short)) h) in
    same_lines m k bytes _ _ finished (take_all k (map whole_line whole ++ last_line last) few) (rw (t, u) at w)

-- a list up to a limit that its front is within
seam : {X : Type 0} (k : ℕ) (xs ys : List X) → length xs ≤ k → take k (xs ++ ys) ≡ xs ++ take (k - length xs) ys
seam k xs ys h =
    let same : length xs + (k - length xs) ≡ k = omega arith in
    subst (λ (n : ℕ). take n (xs ++ ys) ≡ xs ++ take (k - length xs) ys) same (take-append-add xs ys (k - length xs))

-- Bytes that begin with whole lines: these, and what the others up to the limit are.
front_lines : (m : ℕ) (bytes rest : List ℕ) (whole : List (List ℕ)) → bytes ≡ with_line_ends whole ++ rest → AllByRecursion (Lacks 10) whole → length (with_line_ends whole) ≤ m
    → (more : List (List ℕ)) × (last : List ℕ) × AreLines (take (m - length (with_line_ends whole)) rest) more last × AreLines (take m bytes) (whole ++ more) last
front_lines m bytes rest whole e n short =
    let cut = take (m - length (with_line_ends whole)) rest in
    let (more, last, parts) = lines_of cut in
    let front : take m bytes ≡ with_line_ends whole ++ cut = ap (take m) e ∙ seam m (with_line_ends whole) rest short in
    (more, last, parts, subst (λ (l : List ℕ). AreLines l (whole ++ more) last) (sym front) (lines_before whole cut more last n parts))

-- what was read of them is a prefix
pub due_front : (m k : ℕ) (bytes rest : List ℕ) (whole : List (List ℕ)) → bytes ≡ with_line_ends whole ++ rest → AllByRecursion (Lacks 10) whole → length (with_line_ends whole) ≤ m → length whole ≤ k
    → (tail : List Line) × (end : End) × AreWithin m k bytes (map whole_line whole ++ tail) end
due_front m k bytes rest whole e n short few =
    let s = front_lines m bytes rest whole e n short in
    let all = nat_le (length bytes) m in
    let size : length (map whole_line whole) ≤ k = rw length-map few in (
      take (k - length (map whole_line whole)) (lines_in all s.0 s.1),
      _,
      same_lines m k bytes _ _ _ (ap (take k) (in_front all whole s.0 s.1) ∙ seam k (map whole_line whole) (lines_in all s.0 s.1) size) (within m k bytes (whole ++ s.0) s.1 s.3),
    )

-- ---- past a limit

beyond : (x m : ℕ) → m < x → nat_le x m ≡ false
beyond x m h = grind (arith, nat_tests)

-- more bytes than the limit: the lines are those whose LF is within it
pub due_bytes : (m k : ℕ) (bytes raw more : List ℕ) (b : ℕ) (whole : List (List ℕ)) → bytes ≡ with_line_ends whole ++ (raw ++ b ∷ more) → AllByRecursion (Lacks 10) whole → Lacks 10 raw → length (with_line_ends whole) + length raw ≡ m → length whole ≤ k
    → AreWithin m k bytes (map whole_line whole) too_many
due_bytes m k bytes raw more b whole e n l size few =
    let front = with_line_ends whole ++ raw in
    let parts : bytes ≡ front ++ b ∷ more = e ∙ sym (append_assoc (with_line_ends whole) raw (b ∷ more)) in
    let same : length front ≡ m = length-append (with_line_ends whole) raw ∙ size in
    let total : length bytes ≡ length front + length (b ∷ more) = ap length parts ∙ length-append front (b ∷ more) in
    let past : m < length bytes = omega (arith, total, same) in
    let t : nat_le (length bytes) m ≡ false = beyond (length bytes) m past in
    let count : length (map whole_line whole) ≤ k = rw length-map few in
    let w = within m k bytes whole raw (record { is = ap (take m) parts ∙ take_at front (b ∷ more) m same; no_lf = n; last_no_lf = l }) in
    same_lines m k bytes _ _ too_many (take_all k (map whole_line whole) count) (rw t at w)

some_lines : (more : List (List ℕ)) (last bytes : List ℕ) → bytes ≢ [] → bytes ≡ with_line_ends more ++ last → 0 < length (map whole_line more ++ last_line last)
some_lines [] [] bytes n e = absurd (n e)
some_lines [] (b ∷ bs) bytes n e = omega arith
some_lines (x ∷ xs) last bytes n e = omega arith

-- as many lines as there may be, and a byte more
pub due_lines : (m k : ℕ) (bytes rest : List ℕ) (whole : List (List ℕ)) → bytes ≡ with_line_ends whole ++ rest → rest ≢ [] → AllByRecursion (Lacks 10) whole → length (with_line_ends whole) ≤ m → length whole ≡ k
    → AreWithin m k bytes (map whole_line whole) too_many
due_lines m k bytes rest whole e some n short full = by_size (nat_le (length bytes) m) refl (front_lines m bytes rest whole e n short)
  where
    size : length (map whole_line whole) ≡ k
    size = length-map whole whole_line ∙ full

    front : (all : Bool) (more : List (List ℕ)) (last : List ℕ) → take k (lines_in all (whole ++ more) last) ≡ map whole_line whole
    front all more last = ap (take k) (in_front all whole more last) ∙ take_at (map whole_line whole) (lines_in all more last) k size

    by_size : (all : Bool) → nat_le (length bytes) m ≡ all
        → (more : List (List ℕ)) × (last : List ℕ) × AreLines (take (m - length (with_line_ends whole)) rest) more last × AreLines (take m bytes) (whole ++ more) last
        → AreWithin m k bytes (map whole_line whole) too_many
    by_size false t (more, last, cut, parts) = same_lines m k bytes _ _ too_many (front false more last) (rw t at (within m k bytes (whole ++ more) last parts))
    by_size true t (more, last, cut, parts) =
        let le : length bytes ≤ m = grind (arith, nat_tests) in
        let total : length bytes ≡ length (with_line_ends whole) + length rest = ap length e ∙ length-append (with_line_ends whole) rest in
        let all_of : take (m - length (with_line_ends whole)) rest ≡ rest = take_all (m - length (with_line_ends whole)) rest (omega (arith, total, le)) in
        let tail = some_lines more last rest some (sym all_of ∙ cut.is) in
        let count = ap length (in_front true whole more last) ∙ length-append (map whole_line whole) (map whole_line more ++ last_line last) in
        let u : nat_le (length (map whole_line (whole ++ more) ++ last_line last)) k ≡ false = beyond _ k (omega (arith, count, tail, size)) in
        same_lines m k bytes _ _ too_many (front true more last) (rw (t, u) at (within m k bytes (whole ++ more) last parts))

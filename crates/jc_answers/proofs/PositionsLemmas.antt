-- Of `Refusals` and `Parts`: the position behind one byte more.
use Rattle.std.proofs.Common.{◌≡◌, ℕ, suc, ◌+◌, ◌<◌, Bool, true, false, not, List, [], ◌∷◌, ◌++◌, length, take, reverse, get_or, refl, ap, sym, ◌∙◌, arith, length-append, if◌then◌else◌}
use Rattle.std.specs.List.{filter, take_while}
use Rattle.std.proofs.lemmas.List.{take_more, reverse-append}
use Rattle.std.proofs.lemmas.List.Sums.{take_while-cons}
use Rattle.std.proofs.lemmas.List.Elements.{filter-append}
use Rattle.jc_answers.specs.Refusals.{is_lf, lf_count, is_continuation, begins_character, line_behind, column_behind}
use Rattle.jc_answers.specs.Parts.{next_line, next_column}

lf_counted : (b : ℕ) (n : ℕ) → n + lf_count (b ∷ []) + 1 ≡ next_line (n + 1) b
lf_counted b n = by (is_lf b) refl
  where
    by : (p : Bool) → is_lf b ≡ p → n + lf_count (b ∷ []) + 1 ≡ next_line (n + 1) b
    by true e = rw e (omega arith)
    by false e = rw e (omega arith)

line_push : (xs : List ℕ) (b : ℕ) → line_behind (xs ++ b ∷ []) ≡ next_line (line_behind xs) b
line_push xs b =
    ap (λ n. n + 1) (ap length (filter-append is_lf xs (b ∷ [])) ∙ length-append (filter is_lf xs) (filter is_lf (b ∷ [])))
    ∙ lf_counted b (lf_count xs)

one_more : (n : ℕ) → suc n + 1 ≡ n + 1 + 1
one_more n = omega arith

-- the column behind a byte, by the bytes of its line before it
counted : (b : ℕ) (line : List ℕ) → length (filter begins_character (if not (is_lf b) then b ∷ line else [])) + 1 ≡ next_column (length (filter begins_character line) + 1) b
counted b line = by (is_lf b) (is_continuation b) refl refl
  where
    by : (p q : Bool) → is_lf b ≡ p → is_continuation b ≡ q → length (filter begins_character (if not (is_lf b) then b ∷ line else [])) + 1 ≡ next_column (length (filter begins_character line) + 1) b
    by true q e f = rw e refl
    by false true e f = rw (e, f) refl
    by false false e f = rw (e, f) (one_more (length (filter begins_character line)))

column_counted : (b : ℕ) (ys : List ℕ) → length (filter begins_character (take_while (λ c. not (is_lf c)) (b ∷ ys))) + 1 ≡ next_column (length (filter begins_character (take_while (λ c. not (is_lf c)) ys)) + 1) b
column_counted b ys =
    ap (λ line. length (filter begins_character line) + 1) (take_while-cons (λ c. not (is_lf c)) b ys)
    ∙ counted b (take_while (λ c. not (is_lf c)) ys)

column_push : (xs : List ℕ) (b : ℕ) → column_behind (xs ++ b ∷ []) ≡ next_column (column_behind xs) b
column_push xs b =
    ap (λ ys. length (filter begins_character (take_while (λ c. not (is_lf c)) ys)) + 1) (reverse-append xs (b ∷ []))
    ∙ column_counted b (reverse xs)

pub line_more : (xs : List ℕ) (i line : ℕ) → i < length xs → line ≡ line_behind (take i xs) → next_line line (get_or xs i 0) ≡ line_behind (take (i + 1) xs)
line_more xs i line lt is =
    ap (λ n. next_line n (get_or xs i 0)) is ∙ sym (line_push (take i xs) (get_or xs i 0)) ∙ ap line_behind (sym (take_more xs i 0 lt))

pub column_more : (xs : List ℕ) (i column : ℕ) → i < length xs → column ≡ column_behind (take i xs) → next_column column (get_or xs i 0) ≡ column_behind (take (i + 1) xs)
column_more xs i column lt is =
    ap (λ n. next_column n (get_or xs i 0)) is ∙ sym (column_push (take i xs) (get_or xs i 0)) ∙ ap column_behind (sym (take_more xs i 0 lt))

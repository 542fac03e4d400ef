-- Of `Asked`: seeds as they are parsed, and what is behind words.
use Rattle.std.proofs.Common.{◌≡◌, ℕ, zero, suc, ◌<◌, ◌^◌, nat_le, nat_lt, ◌==◌, List, [], ◌∷◌, length, get_or, Bool, true, false, not, ◌&&◌, codes, None, Some, option_map, Result, Ok, Err, refl, ap, sym, subst, ◌∙◌, arith}
use Rattle.std.specs.List.{prefix_len, list_all}
use Rattle.std.specs.Result.{OkIff, result_ok}
use Rattle.std.specs.Str.{bytes_eq, all_ascii_digits}
use Rattle.std.proofs.lemmas.Bool.{and_parts}
use Rattle.std.proofs.lemmas.Bool.Decides.{nat_tests}
use Rattle.std.proofs.lemmas.Slice.Eq.{bytes_eq-Decides}
use Rattle.jc_session.specs.Requests.{Word, is_blank_char, words, past, after_word}
use Rattle.jc_session.specs.Lines.{Line}
use Rattle.jc_session.specs.Views.{AreAscii}
use Rattle.jc_session.proofs.RequestsLemmas.{ascii_drop}
use Rattle.jc_requests.specs.Asked.{only, after_words, has_seed_form, seed_of, position_in, past_details, pair_of, journal, journal_by, journal_of, asked_by, asked}

-- ---- seeds

-- what a seed is written with
pub record IsDigits (w : Word) : Type 0 where
  pub digits : all_ascii_digits w ≡ true
  pub some : 0 < length w

pub seed_parts : (w : Word) → has_seed_form w ≡ true → IsDigits w
seed_parts w h = by_zero (bytes_eq w (codes "0")) refl
  where
    by_zero : (t : Bool) → bytes_eq w (codes "0") ≡ t → IsDigits w
    by_zero true e =
        let zero_is : w ≡ codes "0" = (bytes_eq-Decides w (codes "0")).0 e in
        subst IsDigits (sym zero_is) (record { digits = refl; some = omega arith })
    by_zero false e =
        let rest : ((nat_le 1 (length w) && nat_le (length w) 20) && (all_ascii_digits w && not (get_or w 0 0 == 48))) ≡ true = rw e at h in
        let parts = and_parts (nat_le 1 (length w) && nat_le (length w) 20) (all_ascii_digits w && not (get_or w 0 0 == 48)) rest in
        let sizes = and_parts (nat_le 1 (length w)) (nat_le (length w) 20) parts.0 in
        let some : nat_le 1 (length w) ≡ true = sizes.0 in
        record {
          digits = (and_parts (all_ascii_digits w) (not (get_or w 0 0 == 48)) parts.1).0;
          some = grind (arith, nat_tests);
        }

-- digits are parsed as their value, where that has 64 bits
pub seed_read : {E : Type 0} (n size : ℕ) (r : Result ℕ E) → OkIff r ((0 < size) × (n < 2 ^ 64)) n → 0 < size → result_ok r ≡ seed_of n
seed_read n size (Ok x) h some =
    let small : nat_lt n 18446744073709551616 ≡ true = let lt = h.0.1 in grind (arith, nat_tests) in
    ap Some h.1 ∙ sym (within n small)
  where
    within : (n : ℕ) → nat_lt n 18446744073709551616 ≡ true → seed_of n ≡ Some n
    within n t = rw t refl
seed_read n size (Err e) h some = by_size (nat_lt n 18446744073709551616) refl
  where
    by_size : (t : Bool) → nat_lt n 18446744073709551616 ≡ t → None ≡ seed_of n
    by_size true t = let lt : n < 18446744073709551616 = grind (arith, nat_tests) in absurd (h (some, lt))
    by_size false t = rw t refl

-- ---- what is behind words

-- one word more
pub after_more : (n : ℕ) (line : List ℕ) → after_words (suc n) line ≡ after_words n (after_word line)
after_more n line = refl

pub ascii_after : (line : List ℕ) → AreAscii line → AreAscii (after_word line)
ascii_after line h =
    let front = past is_blank_char line in
    let rest = past (λ b. not (is_blank_char b)) front in
    ascii_drop (prefix_len is_blank_char rest) rest (ascii_drop (prefix_len (λ b. not (is_blank_char b)) front) front (ascii_drop (prefix_len is_blank_char line) line h))

-- ---- words

only_one : (ws : List Word) (w : Word) → Some w ≡ only ws → ws ≡ w ∷ []
only_one [] w e = cc
only_one (x ∷ []) w e = let same : w ≡ x = cc in ap (λ y. y ∷ []) (sym same)
only_one (x ∷ y ∷ ws) w e = cc

-- two words behind the options of a journal
pub journal_between : (ws rest : List Word) (details : Bool × Bool × List Word) (v w : Word) → details ≡ past_details ws → details.2 ≡ v ∷ rest → Some w ≡ only rest → journal_of ws ≡ option_map (λ p. journal details.0 details.1 (Some p)) (pair_of (position_in v) (position_in w))
journal_between ws rest details v w is behind one =
    ap (λ (d : Bool × Bool × List Word). journal_by d.0 d.1 d.2) (sym is)
    ∙ ap (journal_by details.0 details.1) (behind ∙ ap (λ r. v ∷ r) (only_one rest w one))

-- ---- what a line asks for

pub asked_none : (l : Line) → l ≡ None → asked l ≡ None
unfolding asked
asked_none l e = rw e refl

pub asked_ascii : (l : Line) (text : List ℕ) → l ≡ Some text → AreAscii text → asked l ≡ asked_by text (words text)
unfolding asked
asked_ascii l text e h = rw (e, h) refl

pub asked_other : (l : Line) (text : List ℕ) → l ≡ Some text → list_all (λ b. nat_lt b 128) text ≡ false → asked l ≡ None
unfolding asked
asked_other l text e h = rw (e, h) refl

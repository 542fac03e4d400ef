-- About `Canon`: the escapes of a text are a run of plain bytes, an escape, and the rest.
use Rattle.std.proofs.Common.{◌≡◌, ℕ, suc, ◌<◌, true, false, List, [], ◌∷◌, ◌++◌, length, get_or, take, drop, refl, sym, subst, ap, ◌∙◌, arith, append_assoc, add-zero, get_or-drop, length-drop, append-nil, inl, inr}
use Rattle.std.proofs.lemmas.Bool.{cases_Bool, cases_lt}
use Rattle.std.proofs.lemmas.Bool.Decides.{nat_tests}
use Rattle.std.proofs.lemmas.List.Sums.{prefix_len-le-length, prefix_len_stops}
use Rattle.std.proofs.lemmas.Str.{IsCharBoundary-end, IsCharBoundary-before_ascii}
use Rattle.std.specs.List.{prefix_len}
use Rattle.std.specs.Str.{IsCharBoundary}
use Rattle.jc_printer.specs.Canon.{is_plain_char, escape_byte, escape}

plain_escape : (b : ℕ) → is_plain_char b ≡ true → escape_byte b ≡ b ∷ []
plain_escape b e = grind (arith, nat_tests)

special_ascii : (b : ℕ) → is_plain_char b ≡ false → b < 128
special_ascii b e = grind (arith, nat_tests)

-- the plain bytes at the front stand for themselves, and then the rest is escaped
escape_run : (bs : List ℕ) → escape bs ≡ take (prefix_len is_plain_char bs) bs ++ escape (drop (prefix_len is_plain_char bs) bs)
escape_run [] = refl
escape_run (b ∷ bs) =
    elim (cases_Bool (is_plain_char b)) [
      | inl plain ↦
          let more : prefix_len is_plain_char (b ∷ bs) ≡ suc (prefix_len is_plain_char bs) = rw plain (omega arith) in
          rw (more, plain_escape b plain) (ap (λ (l : List ℕ). b ∷ l) (escape_run bs))
      | inr special ↦ let none : prefix_len is_plain_char (b ∷ bs) ≡ 0 = rw special refl in rw none refl
    ]

-- what stops a run isn't plain
stops_at_special : (bs : List ℕ) → 0 < length (drop (prefix_len is_plain_char bs) bs) → is_plain_char (get_or (drop (prefix_len is_plain_char bs) bs) 0 0) ≡ false
stops_at_special bs h = rw (get_or-drop, add-zero) (prefix_len_stops is_plain_char bs 0 (omega (arith, length-drop (prefix_len is_plain_char bs) bs)))

-- so a run ends where a character does
pub run_boundary : (bs : List ℕ) → IsCharBoundary bs (prefix_len is_plain_char bs)
run_boundary bs =
    elim (cases_lt (prefix_len is_plain_char bs) (length bs)) [
      | inl within ↦ IsCharBoundary-before_ascii bs _ within (special_ascii _ (prefix_len_stops is_plain_char bs 0 within))
      | inr past ↦ subst (IsCharBoundary bs) (omega (arith, prefix_len-le-length is_plain_char bs)) (IsCharBoundary-end bs)
    ]

pub first_ascii : (rest after : List ℕ) → after ≡ drop (prefix_len is_plain_char rest) rest → 0 < length after → get_or after 0 0 < 128
first_ascii rest after e h = rw e (special_ascii _ (stops_at_special rest (rw e at h)))

pub first_special : (rest after next : List ℕ) (b : ℕ) → after ≡ drop (prefix_len is_plain_char rest) rest → after ≡ b ∷ next → is_plain_char b ≡ false
first_special rest after next b e h =
    let text : drop (prefix_len is_plain_char rest) rest ≡ b ∷ next = sym e ∙ h in
    let some : 0 < length (drop (prefix_len is_plain_char rest) rest) = rw text (omega arith) in
    rw text at (stops_at_special rest some)

-- After the last run all is written.
pub last_run : (rest plain after out new total : List ℕ) → plain ≡ take (prefix_len is_plain_char rest) rest → after ≡ drop (prefix_len is_plain_char rest) rest → after ≡ [] → out ++ escape rest ≡ total → new ≡ out ++ plain → new ≡ total
last_run rest plain after out new total front back none so_far is =
    let text : escape rest ≡ plain = escape_run rest ∙ rw (← front, ← back, none) (append-nil plain) in
    is ∙ ap (λ (l : List ℕ). out ++ l) (sym text) ∙ so_far

-- After a run and an escape the rest is still to be written.
pub one_run : (rest plain after next out new newer total : List ℕ) (b : ℕ) → plain ≡ take (prefix_len is_plain_char rest) rest → after ≡ drop (prefix_len is_plain_char rest) rest → after ≡ b ∷ next → out ++ escape rest ≡ total → new ≡ out ++ plain → newer ≡ new ++ escape_byte b → newer ++ escape next ≡ total
one_run rest plain after next out new newer total b front back more so_far is then =
    let text : escape rest ≡ plain ++ (escape_byte b ++ escape next) = escape_run rest ∙ rw (← front, ← back, more) refl in
    let all : newer ++ escape next ≡ out ++ (plain ++ (escape_byte b ++ escape next)) = rw (then, is) (append_assoc (out ++ plain) (escape_byte b) (escape next) ∙ append_assoc out plain (escape_byte b ++ escape next)) in
    all ∙ ap (λ (l : List ℕ). out ++ l) (sym text) ∙ so_far

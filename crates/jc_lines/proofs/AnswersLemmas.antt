-- Answers that are made of texts without LF have none.
use Rattle.std.proofs.Common.{ℕ, List, [], ◌∷◌, ◌++◌, map, take, codes, refl}
use Rattle.std.specs.List.{AllByRecursion}
use Rattle.jc_printer.specs.Canon.{quoted}
use Rattle.jc_rules.specs.declared.refusal.Refusal.{Refusal}
use Rattle.jc_rules.specs.Refusals.{refusal_name}
use Rattle.jc_answers.specs.JsonTexts.{NamedText, number_member, text_member, with_commas, array_text, member_text, object_text}
use Rattle.jc_answers.specs.Refusals.{refused_object, refusal_members, refusal_answer, line_behind, placed_members, IsRefusedTextWith, IsRefusedText}
use Rattle.jc_expected.specs.Expected.{told, IsExpected}
use Rattle.jc_lines.specs.OneLine.{HasNoLf}
use Rattle.jc_lines.proofs.NoLfLemmas.{literal, whole, more, decimal_line, canon_quoted}

-- ---- lists

abbrev pub AreLines : List (List ℕ) → Type 0
AreLines ts = AllByRecursion HasNoLf ts

joined : (ts : List (List ℕ)) → AreLines ts → HasNoLf (with_commas ts)
joined [] h = literal [] refl
joined (t ∷ []) h = h.0
joined (t ∷ u ∷ ts) h = whole h.0 (whole (literal (codes ",") refl) (joined (u ∷ ts) h.1))

pub array_line : (ts : List (List ℕ)) → AreLines ts → HasNoLf (array_text ts)
array_line ts h = whole (literal (codes "[") refl) (whole (joined ts h) (literal (codes "]") refl))

-- ---- objects

-- the members have texts without LF
abbrev pub HaveLines : List NamedText → Type 0
HaveLines ms = AllByRecursion (λ m. HasNoLf m.1) ms

member_lines : (ms : List NamedText) → HaveLines ms → AreLines (map member_text ms)
member_lines [] h = tt
member_lines (m ∷ ms) h = (whole (canon_quoted m.0) (whole (literal (codes ":") refl) h.0), member_lines ms h.1)

pub object_line : (ms : List NamedText) → HaveLines ms → HasNoLf (object_text ms)
object_line ms h = whole (literal (codes "{") refl) (whole (joined (map member_text ms) (member_lines ms h)) (literal (codes "}") refl))

-- ---- refusals

pub refused_line : (ms : List NamedText) → HaveLines ms → HasNoLf (refused_object ms)
refused_line ms h = object_line (text_member (codes "refused") (object_text ms)) (object_line ms h, tt)

pub refusal_line : (refusal : Refusal) → HasNoLf (refusal_answer refusal)
refusal_line refusal = refused_line (refusal_members refusal) (canon_quoted (refusal_name refusal), (decimal_line _, tt))

have_more : (ms ns : List NamedText) → HaveLines ms → HaveLines ns → HaveLines (ms ++ ns)
have_more [] ns h k = k
have_more (m ∷ ms) ns h k = (h.0, have_more ms ns h.1 k)

pub text_line_with : (more : List NamedText) (text : List ℕ) (refusal : Refusal) (at : ℕ) (answer : List ℕ) → HaveLines more → IsRefusedTextWith more text refusal at answer → HasNoLf answer
text_line_with more text refusal at answer lines h =
    let behind = number_member (codes "line") (line_behind (take at text)) ++ refusal_members refusal ++ number_member (codes "offset") at in
    rw h.is (refused_line (placed_members text refusal at h.stop more)
    (decimal_line _, (decimal_line h.stop, have_more more behind lines (decimal_line _, (canon_quoted (refusal_name refusal), (decimal_line _, (decimal_line at, tt)))))))

pub text_line : (text : List ℕ) (refusal : Refusal) (at : ℕ) (answer : List ℕ) → IsRefusedText text refusal at answer → HasNoLf answer
text_line text refusal at answer h = text_line_with [] text refusal at answer tt h

quoted_lines : (ws : List (List ℕ)) → AreLines (map quoted ws)
quoted_lines [] = tt
quoted_lines (w ∷ ws) = (canon_quoted w, quoted_lines ws)

pub expected_line : (text : List ℕ) (at : ℕ) (list : List ℕ) → IsExpected text at list → HasNoLf list
expected_line text at list h = rw h.is (array_line (map quoted (told h.goes_on)) (quoted_lines (told h.goes_on)))

pub misfit_line : (text : List ℕ) (refusal : Refusal) (at : ℕ) (list answer : List ℕ) → IsExpected text at list → IsRefusedTextWith (text_member (codes "expected") list) text refusal at answer → HasNoLf answer
misfit_line text refusal at list answer expected h = text_line_with (text_member (codes "expected") list) text refusal at answer (expected_line text at list expected, tt) h

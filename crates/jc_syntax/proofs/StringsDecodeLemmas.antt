-- About `Strings`: what is left of a string literal after some of its pieces.
use Rattle.std.proofs.Common.{◌≡◌, ◌≢◌, ℕ, ◌+◌, ◌-◌, ◌<◌, ◌≤◌, List, [], ◌∷◌, ◌++◌, length, slice_index, take, drop, false, Result, Ok, Err, Some, None, refl, sym, ap, ◌∙◌, arith, append_assoc, get_or-drop, length-drop}
use Rattle.std.specs.List.{prefix_len, slice_range}
use Rattle.std.specs.Char.{encode_utf8}
use Rattle.std.specs.Str.{IsUtf8, IsCharBoundary}
use Rattle.std.proofs.lemmas.Bool.Decides.{nat_tests}
use Rattle.std.proofs.lemmas.List.{append-nil}
use Rattle.std.proofs.lemmas.List.Sums.{prefix_len_stops}
use Rattle.std.proofs.lemmas.Str.{IsCharBoundary-before_ascii, IsCharBoundary-after_ascii}
use Rattle.jc_syntax.specs.declared.fault.LexFault.{LexFault}
use Rattle.jc_syntax.specs.declared.piece.Piece.{Piece}
use Rattle.jc_syntax.specs.declared.piece.Piece.TheVariants.{Byte, Escape}
use Rattle.jc_syntax.specs.declared.token.Token.{Token}
use Rattle.jc_syntax.specs.Strings.{spelled, piece_at, escape_of, is_plain_byte, after_plain, ArePieces}
use Rattle.jc_syntax.specs.Lexemes.{IsStringToken, token_content}
use Rattle.jc_syntax.proofs.TokenBoundsLemmas.{starts_inside, first_ascii}
use Rattle.jc_syntax.proofs.StringsContentLemmas.{plain_pieces, token_is_string}
use Rattle.jc_syntax.proofs.StringsEscapesLemmas.{escape_inside, backslash_no_byte, quote_no_escape}
use Rattle.jc_syntax.proofs.StringsPiecesLemmas.{pieces_later}

-- what is left of a literal that closes at `close`, after the pieces that are done
pub record IsLeft (text : List ℕ) (close at : ℕ) (done whole : List ℕ) : Type 0 where
  pub inside : close < length text
  pub closed : slice_index text close ≡ 34
  pub pieces : List Piece
  pub are : ArePieces text at pieces close
  pub spells : done ++ spelled pieces ≡ whole
  pub boundary : IsCharBoundary text at

pub left_before : (text : List ℕ) (close at : ℕ) (done whole : List ℕ) → IsLeft text close at done whole → at ≤ close
left_before text close at done whole h = pieces_later text at close h.pieces h.are

-- at first all is left
pub left_at_first : (text : List ℕ) (t : Token) → IsUtf8 text → IsStringToken text t → IsLeft text (t.stop - 1) (t.start + 1) [] (token_content text t)
left_at_first text t utf8 h =
    let s = token_is_string text t h.0 h.1.1 in
    let close : s.close ≡ t.stop - 1 = omega (arith, s.ends) in
    record {
      inside = rw (← close) s.inside;
      closed = rw (← close) s.closed;
      pieces = s.pieces;
      are = rw (← close) s.between;
      spells = sym s.spells;
      boundary = IsCharBoundary-after_ascii text t.start utf8 (starts_inside text t h.1.1) (first_ascii text t h.1.1);
    }

special_ascii : (b : ℕ) → is_plain_byte b ≡ false → b < 128
special_ascii b e = grind (arith, nat_tests)

special_slash : (b : ℕ) → is_plain_byte b ≡ false → b ≢ 34 → b ≡ 92
special_slash b e other = grind (arith, nat_tests)

-- what a run of plain bytes stops at
pub run_stops : (text : List ℕ) (at close : ℕ) → close < length text → at + prefix_len is_plain_byte (drop at text) ≤ close → is_plain_byte (slice_index text (at + prefix_len is_plain_byte (drop at text))) ≡ false
run_stops text at close inside within =
    rw get_or-drop at (prefix_len_stops is_plain_byte (drop at text) 0 (omega (arith, length-drop at text, inside, within)))

slice_from : (text : List ℕ) (at n : ℕ) → slice_range text at (at + n) ≡ take n (drop at text)
slice_from text at n = let count : at + n - at ≡ n = omega arith in rw count refl

-- after the plain bytes
pub left_after_run : (text : List ℕ) (close at : ℕ) (done whole : List ℕ) → IsLeft text close at done whole → IsLeft text close (after_plain text at) (done ++ slice_range text at (after_plain text at)) whole
left_after_run text close at done whole h =
    let n = prefix_len is_plain_byte (drop at text) in
    let after = plain_pieces text at close h.pieces h.are h.inside h.closed in
    let within = pieces_later text (at + n) close after.left after.are in
    let part : slice_range text at (at + n) ≡ take n (drop at text) = slice_from text at n in
    let all : (done ++ take n (drop at text)) ++ spelled after.left ≡ done ++ spelled h.pieces = append_assoc done (take n (drop at text)) (spelled after.left) ∙ ap (λ (l : List ℕ). done ++ l) (sym after.spells) in
    record {
      inside = h.inside;
      closed = h.closed;
      pieces = after.left;
      are = after.are;
      spells = rw part (all ∙ h.spells);
      boundary = IsCharBoundary-before_ascii text (at + n) (omega (arith, within, h.inside)) (special_ascii (slice_index text (at + n)) (run_stops text at close h.inside within));
    }

escape_first : (text : List ℕ) (at close len c : ℕ) (ps : List Piece) → ArePieces text at ps close → slice_index text close ≡ 34 → piece_at text at ≡ Ok (Escape len c) → (rest : List Piece) × (ps ≡ Escape len c ∷ rest) × ArePieces text (at + len) rest close
escape_first text at close len c [] h closed e = absurd (quote_no_escape text at len c (rw h closed) e)
escape_first text at close len c (p ∷ ps) h closed e =
    let same : p ≡ Escape len c = cc (sym h.2 ∙ e) in
    (ps, rw same refl, rw same at h.3)

-- after an escape
pub left_after_escape : (text : List ℕ) (close at len c : ℕ) (done whole : List ℕ) → IsUtf8 text → IsLeft text close at done whole → piece_at text at ≡ Ok (Escape len c) → IsLeft text close (at + len) (done ++ encode_utf8 c) whole
left_after_escape text close at len c done whole utf8 h e =
    let first = escape_first text at close len c h.pieces h.are h.closed e in
    let there = escape_inside text at len c e in
    let all : (done ++ encode_utf8 c) ++ spelled first.0 ≡ done ++ spelled h.pieces = append_assoc done (encode_utf8 c) (spelled first.0) ∙ ap (λ (ps : List Piece). done ++ spelled ps) (sym first.1) in
    record {
      inside = h.inside;
      closed = h.closed;
      pieces = first.0;
      are = first.2;
      spells = all ∙ h.spells;
      boundary = rw there.ends (IsCharBoundary-after_ascii text there.last utf8 there.inside there.ascii);
    }

none_left : (text : List ℕ) (at close : ℕ) (ps : List Piece) → ArePieces text at ps close → is_plain_byte (slice_index text at) ≡ false → escape_of (piece_at text at) ≡ None → ps ≡ []
none_left text at close [] h special none = refl
none_left text at close (Byte b ∷ ps) h special none = absurd (backslash_no_byte text at b (special_slash (slice_index text at) special h.1) h.2)
none_left text at close (Escape len c ∷ ps) h special none = let some = rw h.2 at none in cc some

-- where neither plain bytes nor an escape follow, all is done
pub all_done : (text : List ℕ) (close at : ℕ) (done whole : List ℕ) → IsLeft text close at done whole → is_plain_byte (slice_index text at) ≡ false → escape_of (piece_at text at) ≡ None → done ≡ whole
all_done text close at done whole h special none =
    let last = none_left text at close h.pieces h.are special none in
    sym (append-nil done) ∙ ap (λ (ps : List Piece). done ++ spelled ps) (sym last) ∙ h.spells

some_escape : (r : Result Piece LexFault) (len c : ℕ) → escape_of r ≡ Some (len, c) → r ≡ Ok (Escape len c)
some_escape (Ok (Escape m d)) len c e =
    let same : (m, d) ≡ (len, c) = cc e in
    let lens : m ≡ len = ap (λ (p : ℕ × ℕ). p.0) same in
    let characters : d ≡ c = ap (λ (p : ℕ × ℕ). p.1) same in
    rw (lens, characters) refl
some_escape (Ok (Byte b)) len c e = cc e
some_escape (Err fault) len c e = cc e

pub escape_is : (text : List ℕ) (at len c : ℕ) → Some (len, c) ≡ escape_of (piece_at text at) → piece_at text at ≡ Ok (Escape len c)
escape_is text at len c e = some_escape (piece_at text at) len c (sym e)

-- ---- one step of decoding: a run of plain bytes up to `end`, and then an escape or the end

pub run_boundary : (text bytes : List ℕ) (close at end : ℕ) (done whole : List ℕ) → bytes ≡ text → end ≡ after_plain bytes at → IsLeft text close at done whole → IsCharBoundary text end
run_boundary text bytes close at end done whole same place h = rw (place, same) (left_after_run text close at done whole h).boundary

after_run : (text bytes part : List ℕ) (close at end : ℕ) (done new whole : List ℕ) → bytes ≡ text → end ≡ after_plain bytes at → part ≡ slice_range text at end → new ≡ done ++ part → IsLeft text close at done whole → IsLeft text close end new whole
after_run text bytes part close at end done new whole same place copied is h = rw (is, copied, place, same) (left_after_run text close at done whole h)

pub step_to_end : (text bytes part : List ℕ) (close at end : ℕ) (done new whole : List ℕ) → bytes ≡ text → end ≡ after_plain bytes at → part ≡ slice_range text at end → new ≡ done ++ part → IsLeft text close at done whole → None ≡ escape_of (piece_at bytes end) → new ≡ whole
step_to_end text bytes part close at end done new whole same place copied is h none =
    let there = after_run text bytes part close at end done new whole same place copied is h in
    let special : is_plain_byte (slice_index text end) ≡ false = rw (place, same) (run_stops text at close h.inside (left_before text close (after_plain text at) _ whole (left_after_run text close at done whole h))) in
    all_done text close end new whole there special (rw same at (sym none))

pub step_to_escape : (text bytes part : List ℕ) (close at end len c : ℕ) (done new newer whole : List ℕ) → IsUtf8 text → bytes ≡ text → end ≡ after_plain bytes at → part ≡ slice_range text at end → new ≡ done ++ part → IsLeft text close at done whole → Some (len, c) ≡ escape_of (piece_at bytes end) → newer ≡ new ++ encode_utf8 c → IsLeft text close (end + len) newer whole
step_to_escape text bytes part close at end len c done new newer whole utf8 same place copied is h some more =
    let there = after_run text bytes part close at end done new whole same place copied is h in
    let escape = escape_is bytes end len c some in
    rw more (left_after_escape text close end len c new whole utf8 there (rw same at escape))

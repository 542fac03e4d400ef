-- About `Strings`: the pieces of a string, one after the other.
use Rattle.std.proofs.Common.{◌≡◌, ◌≢◌, ℕ, ◌+◌, ◌<◌, ◌≤◌, List, [], ◌∷◌, ◌++◌, length, slice_index, Ok, inl, inr, refl, sym, ap, ◌∙◌, arith, append_assoc}
use Rattle.std.proofs.lemmas.List.{append-nil}
use Rattle.jc_syntax.specs.declared.fault.LexFault.{LexFault}
use Rattle.jc_syntax.specs.declared.piece.Piece.{Piece}
use Rattle.jc_syntax.specs.Strings.{piece_len, piece_bytes, spelled, piece_at, ArePieces, IsString, StopsString, IsStringFault}

-- one piece more
pub pieces_more : (text : List ℕ) (at stop : ℕ) (p : Piece) (ps : List Piece) → ArePieces text at ps stop → stop < length text → slice_index text stop ≢ 34 → piece_at text stop ≡ Ok p → ArePieces text at (ps ++ p ∷ []) (stop + piece_len p)
pieces_more text at stop p [] here inside other piece = (rw here inside, rw here other, rw here piece, ap (λ k. k + piece_len p) here)
pieces_more text at stop p (q ∷ ps) h inside other piece = (h.0, h.1, h.2, pieces_more text (at + piece_len q) stop p ps h.3 inside other piece)

-- what one piece more spells
pub spelled_more : (p : Piece) (ps : List Piece) → spelled (ps ++ p ∷ []) ≡ spelled ps ++ piece_bytes p
spelled_more p [] = append-nil (piece_bytes p)
spelled_more p (q ∷ ps) = ap (λ (l : List ℕ). piece_bytes q ++ l) (spelled_more p ps) ∙ sym (append_assoc (piece_bytes q) (spelled ps) (piece_bytes p))

-- pieces go on from one place to a later one
pub pieces_later : (text : List ℕ) (at stop : ℕ) (ps : List Piece) → ArePieces text at ps stop → at ≤ stop
pieces_later text at stop [] h = omega (arith, h)
pieces_later text at stop (p ∷ ps) h = omega (arith, pieces_later text (at + piece_len p) stop ps h.3)

-- ---- where pieces end

-- no piece of a string stands at a place
abbrev pub NoPiece : List ℕ → ℕ → Type 0
NoPiece text at = (p : Piece) → at < length text → slice_index text at ≢ 34 → piece_at text at ≡ Ok p → ⊥

pub quote_is_none : (text : List ℕ) (at : ℕ) → slice_index text at ≡ 34 → NoPiece text at
quote_is_none text at quote p inside other piece = other quote

pub stop_is_none : (text : List ℕ) (quote at : ℕ) (fault : LexFault) → StopsString text quote at fault → NoPiece text at
stop_is_none text quote at fault (inl h) p inside other piece = cc (h.2, piece)
stop_is_none text quote at fault (inr h) p inside other piece = omega (arith, h.0, inside)

-- pieces from one place on, up to where no more stand, are the same
pub one_run : (text : List ℕ) (at p q : ℕ) (ps qs : List Piece) → ArePieces text at ps p → ArePieces text at qs q → NoPiece text p → NoPiece text q → (ps ≡ qs) × (p ≡ q)
one_run text at p q [] [] a b x y = (refl, sym a ∙ b)
one_run text at p q [] (r ∷ rs) a b x y = absurd (x r (rw (← a) b.0) (rw (← a) b.1) (rw (← a) b.2))
one_run text at p q (r ∷ rs) [] a b x y = absurd (y r (rw (← b) a.0) (rw (← b) a.1) (rw (← b) a.2))
one_run text at p q (r ∷ rs) (s ∷ ss) a b x y =
    let same : r ≡ s = cc (sym a.2 ∙ b.2) in
    let rest : (rs ≡ ss) × (p ≡ q) = one_run text (at + piece_len r) p q rs ss a.3 (rw (← same) at b.3) x y in
    (rw (same, rest.0) refl, rest.1)

-- ---- literals

-- a string ends at one place and spells one text
pub one_string : (text : List ℕ) (quote p q : ℕ) (c d : List ℕ) → IsString text quote p c → IsString text quote q d → (p ≡ q) × (c ≡ d)
one_string text quote p q c d a b =
    let run = one_run text (quote + 1) a.close b.close a.pieces b.pieces a.between b.between (quote_is_none text a.close a.closed) (quote_is_none text b.close b.closed) in
    (omega (arith, a.ends, b.ends, run.1), a.spells ∙ ap spelled run.0 ∙ sym b.spells)

pub string_later : (text : List ℕ) (quote stop : ℕ) (c : List ℕ) → IsString text quote stop c → quote < stop
string_later text quote stop c s = omega (arith, pieces_later text (quote + 1) s.close s.pieces s.between, s.ends)

-- what stops a string is no quote
stop_is_no_quote : (text : List ℕ) (quote at : ℕ) (fault : LexFault) → StopsString text quote at fault → at < length text → slice_index text at ≢ 34
stop_is_no_quote text quote at fault (inl h) inside = h.1
stop_is_no_quote text quote at fault (inr h) inside = absurd (omega (arith, h.0, inside))

-- a string has no fault
pub string_or_fault : (text : List ℕ) (quote stop : ℕ) (c : List ℕ) (fault : LexFault) → IsString text quote stop c → IsStringFault text quote fault → ⊥
string_or_fault text quote stop c fault s f =
    let run = one_run text (quote + 1) s.close f.place s.pieces f.pieces s.between f.between (quote_is_none text s.close s.closed) (stop_is_none text quote f.place fault f.stops) in
    stop_is_no_quote text quote f.place fault f.stops (rw (← run.1) s.inside) (rw (← run.1) s.closed)

one_stop : (text : List ℕ) (quote at : ℕ) (f g : LexFault) → StopsString text quote at f → StopsString text quote at g → f ≡ g
one_stop text quote at f g (inl a) (inl b) = cc (sym a.2 ∙ b.2)
one_stop text quote at f g (inl a) (inr b) = absurd (omega (arith, a.0, b.0))
one_stop text quote at f g (inr a) (inl b) = absurd (omega (arith, b.0, a.0))
one_stop text quote at f g (inr a) (inr b) = a.1 ∙ sym b.1

-- a string has one fault at most
pub one_string_fault : (text : List ℕ) (quote : ℕ) (f g : LexFault) → IsStringFault text quote f → IsStringFault text quote g → f ≡ g
one_string_fault text quote f g a b =
    let run = one_run text (quote + 1) a.place b.place a.pieces b.pieces a.between b.between (stop_is_none text quote a.place f a.stops) (stop_is_none text quote b.place g b.stops) in
    one_stop text quote b.place f g (rw run.1 at a.stops) b.stops

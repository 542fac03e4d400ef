-- About `Lexemes`: each text has tokens or a fault.
use Rattle.std.proofs.Common.{◌≡◌, ◌≢◌, ℕ, zero, suc, ◌+◌, ◌<◌, ◌≤◌, ◌⊎◌, inl, inr, List, [], ◌∷◌, length, drop, slice_index, Option, Some, None, Result, Ok, Err, refl, sym, subst, ◌∙◌, arith}
use Rattle.std.specs.Prelude.{slice_range}
use Rattle.std.specs.List.{prefix_len}
use Rattle.std.proofs.lemmas.Bool.{cases_eq, cases_lt}
use Rattle.jc_syntax.specs.declared.fault.LexFault.{LexFault}
use Rattle.jc_syntax.specs.declared.fault.LexFault.TheVariants.{BadByte, OpenString, BadNumber, TextTooLong}
use Rattle.jc_syntax.specs.declared.piece.Piece.{Piece}
use Rattle.jc_syntax.specs.declared.token.Token.{Token}
use Rattle.jc_syntax.specs.declared.token.TokenKind.{TokenKind}
use Rattle.jc_syntax.specs.declared.token.TokenKind.TheVariants.{Name, Number, Str}
use Rattle.jc_syntax.specs.Bytes.{is_name_byte, is_number_byte}
use Rattle.jc_syntax.specs.NumberReading.{after_number}
use Rattle.jc_syntax.specs.Numbers.{IsNumber}
use Rattle.jc_syntax.specs.Strings.{piece_len, spelled, piece_at, ArePieces, IsString, StopsString, IsStringFault}
use Rattle.jc_syntax.specs.Lexemes.{after_blanks, after_name, after_number_run, kind_at, mark_len, token_limit, LexemeEndsAt, IsLexeme, IsMalformed, IsTooLong, IsLexFault, AreTokens, AreTokensOf, IsFaultOf}
use Rattle.jc_syntax.proofs.StringsEscapesLemmas.{piece_some}
use Rattle.jc_syntax.proofs.NumberReadingLemmas.{read_is_number, number_is_read}
use Rattle.jc_syntax.proofs.LexemesLemmas.{lexeme_later}

-- ---- strings

-- the pieces from a place on, up to the closing quote or a fault
abbrev StringFrom : List ℕ → ℕ → ℕ → Type 0
StringFrom text quote at =
    (ps : List Piece)
    × (stop : ℕ)
    × ArePieces text at ps stop
    × (((stop < length text) × (slice_index text stop ≡ 34)) ⊎ ((fault : LexFault) × StopsString text quote stop fault))

string_from : (n : ℕ) (text : List ℕ) (quote at : ℕ) → length text ≤ at + n → StringFrom text quote at
string_from zero text quote at enough = ([], at, refl, inr (OpenString quote, inr (omega (arith, enough), refl)))
string_from (suc n) text quote at enough = by_place (λ next h. string_from n text quote next h) (cases_lt at (length text))
  where
    by_piece : ((next : ℕ) → length text ≤ next + n → StringFrom text quote next) → at < length text → slice_index text at ≢ 34 → (read : Result Piece LexFault) → piece_at text at ≡ read → StringFrom text quote at
    by_piece others inside other (Err fault) is = ([], at, refl, inr (fault, inl (inside, other, is)))
    by_piece others inside other (Ok p) is =
        let later : 0 < piece_len p = piece_some text at p is in
        let (ps, stop, are, end) = others (at + piece_len p) (omega (arith, enough, later)) in
        (p ∷ ps, stop, (inside, other, is, are), end)

    by_place : ((next : ℕ) → length text ≤ next + n → StringFrom text quote next) → (at < length text) ⊎ (length text ≤ at) → StringFrom text quote at
    by_place others (inr past) = ([], at, refl, inr (OpenString quote, inr (past, refl)))
    by_place others (inl inside) =
        elim (cases_eq (slice_index text at) 34) [
          | inl quoted ↦ ([], at, refl, inl (inside, quoted))
          | inr other ↦ by_piece others inside other (piece_at text at) refl
        ]

-- ---- a token of a kind

-- it ends somewhere, or is malformed
abbrev EndsOrNot : TokenKind → List ℕ → ℕ → Type 0
EndsOrNot kind text at =
    ((stop : ℕ) × (size : ℕ) × LexemeEndsAt kind text at stop size) ⊎ ((fault : LexFault) × IsMalformed (Some kind) text at fault)

string_ends : (text : List ℕ) (at : ℕ) → StringFrom text at (at + 1) → EndsOrNot Str text at
string_ends text at (ps, stop, are, inl (inside, closed)) =
    let is : IsString text at (stop + 1) (spelled ps) = record { pieces = ps; close = stop; between = are; inside = inside; closed = closed; ends = refl; spells = refl } in
    inl (stop + 1, length (spelled ps), (spelled ps, is, refl))
string_ends text at (ps, stop, are, inr (fault, stops)) =
    let is : IsStringFault text at fault = record { pieces = ps; place = stop; between = are; stops = stops } in
    inr (fault, is)

number_or_not : (bs : List ℕ) (read : Option (List ℕ)) → after_number bs ≡ read → IsNumber bs ⊎ (IsNumber bs → ⊥)
number_or_not bs None is = inr (λ number. (let never : None ≡ Some [] = sym is ∙ number_is_read bs number in cc never))
number_or_not bs (Some []) is = inl (read_is_number bs is)
number_or_not bs (Some (r ∷ rs)) is = inr (λ number. (let other : Some (r ∷ rs) ≡ Some [] = sym is ∙ number_is_read bs number in cc other))

number_ends : (text : List ℕ) (at : ℕ) → IsNumber (slice_range text at (after_number_run text at)) ⊎ (IsNumber (slice_range text at (after_number_run text at)) → ⊥) → EndsOrNot Number text at
number_ends text at (inl is) = inl (after_number_run text at, prefix_len is_number_byte (drop at text), (refl, refl, is))
number_ends text at (inr none) = inr (BadNumber at, (none, refl))

ends_or_not : (kind : TokenKind) (text : List ℕ) (at : ℕ) → EndsOrNot kind text at
ends_or_not Name text at = inl (after_name text at, prefix_len is_name_byte (drop at text), (refl, refl))
ends_or_not Number text at =
    let bytes : List ℕ = slice_range text at (after_number_run text at) in
    number_ends text at (number_or_not bytes (after_number bytes) refl)
ends_or_not Str text at = string_ends text at (string_from (length text) text at (at + 1) (omega arith))
ends_or_not kind text at = inl (at + mark_len kind, mark_len kind, (refl, refl))

-- ---- what stands at a place

-- a token, or a fault
abbrev TokenAt : List ℕ → ℕ → Type 0
TokenAt text at = ((t : Token) × (t.start ≡ at) × IsLexeme text t) ⊎ ((fault : LexFault) × IsLexFault text at fault)

sized : (text : List ℕ) (at : ℕ) (kind : TokenKind) (stop size : ℕ) → kind_at text at ≡ Some kind → LexemeEndsAt kind text at stop size → (token_limit kind < size) ⊎ (size ≤ token_limit kind) → TokenAt text at
sized text at kind stop size begins ends (inl beyond) =
    let is : IsTooLong text at (TextTooLong at) = record { kind = kind; stop = stop; size = size; begins = begins; ends = ends; beyond = beyond; is = refl } in
    inr (TextTooLong at, inr is)
sized text at kind stop size begins ends (inr within) =
    let t : Token = record { kind = kind; start = at; stop = stop } in
    let is : IsLexeme text t = record { size = size; begins = begins; ends = ends; within = within } in
    inl (t, refl, is)

token_or_not : (text : List ℕ) (at : ℕ) (kind : Option TokenKind) → kind_at text at ≡ kind → TokenAt text at
token_or_not text at None none = inr (BadByte at, inl (subst (λ (o : Option TokenKind). IsMalformed o text at (BadByte at)) (sym none) refl))
token_or_not text at (Some kind) begins =
    elim (ends_or_not kind text at) [
      | inl (stop, size, ends) ↦ sized text at kind stop size begins ends (cases_lt (token_limit kind) size)
      | inr (fault, bad) ↦ inr (fault, inl (subst (λ (o : Option TokenKind). IsMalformed o text at fault) (sym begins) bad))
    ]

-- ---- all of a text

-- the tokens from a place on, up to the text's end or a fault
abbrev TokensFrom : List ℕ → ℕ → Type 0
TokensFrom text at =
    (ts : List Token)
    × (place : ℕ)
    × AreTokens text at ts place
    × ((length text ≤ place) ⊎ ((fault : LexFault) × (place < length text) × IsLexFault text place fault))

tokens_from : (n : ℕ) (text : List ℕ) (at : ℕ) → length text ≤ at + n → TokensFrom text at
tokens_from zero text at enough = ([], after_blanks text at, refl, inl (omega (arith, enough)))
tokens_from (suc n) text at enough = by_place (λ next h. tokens_from n text next h) (cases_lt (after_blanks text at) (length text))
  where
    by_token : ((next : ℕ) → length text ≤ next + n → TokensFrom text next) → after_blanks text at < length text → TokenAt text (after_blanks text at) → TokensFrom text at
    by_token others inside (inr (fault, is)) = ([], after_blanks text at, refl, inr (fault, inside, is))
    by_token others inside (inl (t, start, lexeme)) =
        let here : t.start < length text = rw start inside in
        let later : t.start < t.stop = lexeme_later text t here lexeme in
        let (ts, place, are, end) = others t.stop (omega (arith, enough, start, later)) in
        (t ∷ ts, place, (start, here, lexeme, are), end)

    by_place : ((next : ℕ) → length text ≤ next + n → TokensFrom text next) → (after_blanks text at < length text) ⊎ (length text ≤ after_blanks text at) → TokensFrom text at
    by_place others (inr past) = ([], after_blanks text at, refl, inl past)
    by_place others (inl inside) = by_token others inside (token_or_not text (after_blanks text at) (kind_at text (after_blanks text at)) refl)

abbrev ListOrFault : List ℕ → Type 0
ListOrFault text = ((ts : List Token) × AreTokensOf text ts) ⊎ ((fault : LexFault) × IsFaultOf text fault)

within_limit : (text : List ℕ) → length text ≤ 8388608 → TokensFrom text 0 → ListOrFault text
within_limit text room (ts, place, are, inl all) = inl (ts, (room, place, are, all))
within_limit text room (ts, place, are, inr (fault, inside, is)) = inr (fault, inr (room, ts, place, are, inside, is))

pub list_else_fault : (text : List ℕ) → ((ts : List Token) × AreTokensOf text ts) ⊎ ((fault : LexFault) × IsFaultOf text fault)
list_else_fault text = by_length 8388608 refl
  where
    by_length : (limit : ℕ) → limit ≡ 8388608 → ListOrFault text
    by_length limit is =
        elim (cases_lt limit (length text)) [
          | inl long ↦ inr (TextTooLong 8388608, inl (omega (arith, is, long), refl))
          | inr room ↦ within_limit text (omega (arith, is, room)) (tokens_from (length text) text 0 (omega arith))
        ]

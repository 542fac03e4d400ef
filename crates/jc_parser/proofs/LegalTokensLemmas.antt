-- About `LegalSymbols`: the symbols of a UTF-8 text's tokens are legal.
use Rattle.std.proofs.Common.{◌≡◌, ℕ, ◌+◌, ◌-◌, ◌<◌, ◌≤◌, List, [], ◌∷◌, length, slice_index, get_or, take, drop, true, Some, inl, inr, refl, ap, ◌∙◌, arith, get_or-drop}
use Rattle.std.specs.List.{All, AllByRecursion, AllPass, prefix_len, slice_range}
use Rattle.std.specs.Str.{IsUtf8}
use Rattle.std.proofs.lemmas.Bool.{cases_lt}
use Rattle.std.proofs.lemmas.Bool.Decides.{nat_tests}
use Rattle.std.proofs.lemmas.List.{get_or_past, get_or-take, length-take}
use Rattle.std.proofs.lemmas.List.Elements.{All-head, All-tail}
use Rattle.std.proofs.lemmas.List.Folds.{length-prefix_len}
use Rattle.std.proofs.lemmas.List.Sums.{prefix_len_passes, prefix_len-drop_yes}
use Rattle.jc_syntax.specs.declared.token.Token.{Token}
use Rattle.jc_syntax.specs.declared.token.TokenKind.{TokenKind}
use Rattle.jc_syntax.specs.declared.token.TokenKind.TheVariants.{Name, Number, Str}
use Rattle.jc_syntax.specs.Bytes.{is_name_start, is_name_byte}
use Rattle.jc_syntax.specs.Lexemes.{kind_of_byte, after_name, IsTokenOf, IsStringToken, token_content}
use Rattle.jc_parser.specs.LegalSymbols.{IsName, IsNumeric, IsContent}
use Rattle.jc_grammar.specs.Symbols.{Symbol, word, number, string, symbol_of, lexemes, symbols}

-- what the lexer's law says of strings
abbrev pub LegalStrings : Type 0
LegalStrings = (text : List ℕ) (t : Token) → IsUtf8 text → IsStringToken text t → IsUtf8 (token_content text t) × (length (token_content text t) ≤ 65535)

abbrev pub IsLegalSymbol : Symbol → Type 0
IsLegalSymbol (word name) = IsName name
IsLegalSymbol (number text) = IsNumeric text
IsLegalSymbol (string content) = IsContent content
IsLegalSymbol s = Unit {0}

-- ---- names

name_starts : (b next : ℕ) → kind_of_byte b next ≡ Some Name → is_name_start b ≡ true
name_starts b next e = grind (arith, nat_tests)

start_some : (b : ℕ) → is_name_start b ≡ true → 0 < b
start_some b e = grind (arith, nat_tests)

start_is_byte : (b : ℕ) → is_name_start b ≡ true → is_name_byte b ≡ true
start_is_byte b e = grind (arith, nat_tests)

starts_inside : (text : List ℕ) (at : ℕ) → is_name_start (slice_index text at) ≡ true → at < length text
starts_inside text at starts =
    elim (cases_lt at (length text)) [
      | inl inside ↦ inside
      | inr past ↦ absurd (omega (arith, start_some (slice_index text at) starts, get_or_past text at 0 past))
    ]

run_passes : (bytes : List ℕ) (n : ℕ) → n ≡ prefix_len is_name_byte bytes → AllPass is_name_byte (take n bytes)
run_passes bytes n is = λ k d inside.
    let size : length (take n bytes) ≡ n = rw is (length-prefix_len is_name_byte bytes) in
    let within : k < n = omega (arith, inside, size) in
    rw (get_or-take n bytes k d within) (prefix_len_passes is_name_byte bytes k d (omega (arith, within, is)))

name_legal : (text : List ℕ) (at stop size : ℕ) → is_name_start (slice_index text at) ≡ true → stop ≡ after_name text at → stop ≡ at + size → size ≤ 255 → IsName (slice_range text at stop)
name_legal text at stop size starts ends sized short =
    let n : stop - at ≡ prefix_len is_name_byte (drop at text) = omega (arith, ends) in
    let some : prefix_len is_name_byte (drop at text) ≡ 1 + prefix_len is_name_byte (drop (at + 1) text) = prefix_len-drop_yes is_name_byte text at 0 (starts_inside text at starts) (start_is_byte (slice_index text at) starts) in
    let same : at + 0 ≡ at = omega arith in
    let here : get_or (drop at text) 0 0 ≡ get_or text at 0 = get_or-drop at text 0 0 ∙ ap (λ (k : ℕ). get_or text k 0) same in
    let first : get_or (take (stop - at) (drop at text)) 0 0 ≡ get_or text at 0 = get_or-take (stop - at) (drop at text) 0 0 (omega (arith, n, some)) ∙ here in
    let size_is : length (take (stop - at) (drop at text)) ≡ prefix_len is_name_byte (drop at text) = rw n (length-prefix_len is_name_byte (drop at text)) in
    (rw first starts, run_passes (drop at text) (stop - at) n, omega (arith, size_is, n, sized, short))

-- ---- tokens

slice_short : (text : List ℕ) (at stop size : ℕ) → stop ≡ at + size → size ≤ 65535 → length (slice_range text at stop) ≤ 65535
slice_short text at stop size is short = omega (arith, length-take (stop - at) (drop at text), is, short)

abbrev token : TokenKind → ℕ → ℕ → Token
token kind start stop = record { kind = kind; start = start; stop = stop }

symbol_legal : LegalStrings → (text : List ℕ) (kind : TokenKind) (start stop : ℕ) → IsUtf8 text → IsTokenOf text (token kind start stop) → IsLegalSymbol (symbol_of kind (slice_range text start stop) (token_content text (token kind start stop)))
symbol_legal strings text Name start stop utf8 h = name_legal text start stop h.1.size (name_starts (slice_index text start) (slice_index text (start + 1)) h.1.begins) h.1.ends.0 h.1.ends.1 h.1.within
symbol_legal strings text Number start stop utf8 h = (h.1.ends.2, slice_short text start stop h.1.size h.1.ends.1 h.1.within)
symbol_legal strings text Str start stop utf8 h = strings text (token Str start stop) utf8 (refl, h)
symbol_legal strings text kind start stop utf8 h = tt

pub symbols_legal : LegalStrings → (text : List ℕ) (ts : List Token) → IsUtf8 text → All (IsTokenOf text) ts → AllByRecursion IsLegalSymbol (symbols (lexemes text ts))
symbols_legal strings text [] utf8 each = tt
symbols_legal strings text (t ∷ ts) utf8 each = (symbol_legal strings text t.kind t.start t.stop utf8 (All-head (IsTokenOf text) t ts each), symbols_legal strings text ts utf8 (All-tail (IsTokenOf text) t ts each))

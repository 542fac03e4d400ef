-- What each symbol is written with, and the lexeme that is there then.
use Rattle.std.proofs.Common.{◌≡◌, ℕ, suc, ◌+◌, ◌-◌, ◌<◌, ◌≤◌, List, [], ◌∷◌, ◌++◌, length, slice_index, take, drop, Bool, true, false, Some, refl, sym, ap, subst, ◌∙◌, arith}
use Rattle.std.specs.Prelude.{codes}
use Rattle.std.specs.List.{prefix_len, list_all}
use Rattle.std.proofs.lemmas.Bool.{and_parts}
use Rattle.std.proofs.lemmas.Bool.Decides.{nat_tests}
use Rattle.std.proofs.lemmas.List.{take_at}
use Rattle.std.proofs.lemmas.List.Sums.{list_all-from_AllPass}
use Rattle.jc_syntax.specs.declared.token.Token.{Token}
use Rattle.jc_syntax.specs.declared.token.TokenKind.{TokenKind}
use Rattle.jc_syntax.specs.declared.token.TokenKind.TheVariants.{Name, Number, Str, Dot, ParenL, ParenR, BraceL, BraceR, BracketL, BracketR, Comma, Semi, Assign, Equals}
use Rattle.jc_syntax.specs.Bytes.{is_blank_byte, is_name_start, is_name_byte, is_number_start, is_number_byte}
use Rattle.jc_syntax.specs.Numbers.{IsNumber}
use Rattle.jc_syntax.specs.Lexemes.{kind_of_byte, LexemeEndsAt, token_limit, IsLexeme, token_bytes, token_content}
use Rattle.jc_syntax.proofs.StringsContentLemmas.{string_content}
use Rattle.jc_grammar.specs.Symbols.{Symbol, word, number, string, dot, open_paren, close_paren, open_brace, close_brace, open_bracket, close_bracket, comma, semicolon, assign, equals, symbol_of}
use Rattle.jc_printer.specs.Canon.{quoted}
use Rattle.jc_parser.specs.LegalSymbols.{IsName, IsNumeric, IsContent}
use Rattle.jc_printer.proofs.PrefixLemmas.{byte_there, byte_here, stands}
use Rattle.jc_printer.proofs.QuotedLemmas.{quoted_string}
use Rattle.jc_printer.proofs.NumberBytesLemmas.{number_bytes, number_begins}

-- what follows goes on with no byte that passes the test
abbrev pub IsPartedBy : (ℕ → Bool) → List ℕ → Type 0
IsPartedBy p rest = p (slice_index rest 0) ≡ false

-- these bytes are the symbol's own, before what follows
abbrev pub IsWritten : Symbol → List ℕ → List ℕ → Type 0
IsWritten (word name) own rest = (own ≡ name) × IsName name × IsPartedBy is_name_byte rest
IsWritten (number text) own rest = (own ≡ text) × IsNumeric text × IsPartedBy is_number_byte rest
IsWritten (string content) own rest = (own ≡ quoted content) × IsContent content
IsWritten dot own rest = own ≡ codes "."
IsWritten open_paren own rest = own ≡ codes "("
IsWritten close_paren own rest = own ≡ codes ")"
IsWritten open_brace own rest = own ≡ codes "{"
IsWritten close_brace own rest = own ≡ codes "}"
IsWritten open_bracket own rest = own ≡ codes "["
IsWritten close_bracket own rest = own ≡ codes "]"
IsWritten comma own rest = own ≡ codes ","
IsWritten semicolon own rest = own ≡ codes ";"
IsWritten assign own rest = own ≡ codes ":="
IsWritten equals own rest = own ≡ codes "="

-- a lexeme of n bytes stands at a place, and it is this symbol
pub record IsLexemeOf (text : List ℕ) (at : ℕ) (s : Symbol) (n : ℕ) : Type 0 where
  pub token : Token
  pub start : token.start ≡ at
  pub stop : token.stop ≡ at + n
  pub lexeme : IsLexeme text token
  pub is : symbol_of token.kind (token_bytes text token) (token_content text token) ≡ s
  pub inside : at < length text
  pub unblank : is_blank_byte (slice_index text at) ≡ false

-- ---- runs

-- a run of bytes that pass ends where one comes that doesn't
pub run_is : (p : ℕ → Bool) (own rest : List ℕ) → list_all p own ≡ true → IsPartedBy p rest → prefix_len p (own ++ rest) ≡ length own
run_is p [] [] all stop = refl
run_is p [] (r ∷ rs) all stop = rw stop refl
run_is p (b ∷ own) rest all stop =
    let parts = and_parts (p b) (list_all p own) all in
    let more : prefix_len p (b ∷ (own ++ rest)) ≡ suc (prefix_len p (own ++ rest)) = rw parts.0 (omega arith) in
    more ∙ ap suc (run_is p own rest parts.1 stop)

-- the bytes of a token are those that stand there
bytes_are : (text : List ℕ) (at : ℕ) (own rest : List ℕ) → drop at text ≡ own ++ rest → take (at + length own - at) (drop at text) ≡ own
bytes_are text at own rest h =
    let count : at + length own - at ≡ length own = omega arith in
    rw (count, h) (take_at own rest (length own) refl)

abbrev token_at : TokenKind → ℕ → ℕ → Token
token_at kind at n = record { kind = kind; start = at; stop = at + n }

-- ---- words, numbers and strings

name_tests : (b : ℕ) → is_name_start b ≡ true → (0 < b) × (is_blank_byte b ≡ false)
name_tests b e = (grind (arith, nat_tests), grind (arith, nat_tests))

name_kind : (b next : ℕ) → is_name_start b ≡ true → kind_of_byte b next ≡ Some Name
name_kind b next e = rw e refl

word_there : (text : List ℕ) (at b : ℕ) (bs rest : List ℕ) → drop at text ≡ (b ∷ bs) ++ rest → IsName (b ∷ bs) → IsPartedBy is_name_byte rest → IsLexemeOf text at (word (b ∷ bs)) (length (b ∷ bs))
word_there text at b bs rest h name parted =
    let here : slice_index text at ≡ b = byte_here text at b (bs ++ rest) h in
    let tests = name_tests b name.0 in
    let all = list_all-from_AllPass is_name_byte (b ∷ bs) name.1 in
    record {
      token = token_at Name at (length (b ∷ bs));
      start = refl;
      stop = refl;
      lexeme = record {
        size = length (b ∷ bs);
        begins = rw here (name_kind b (slice_index text (at + 1)) name.0);
        ends = (ap (λ k. at + k) (sym (ap (prefix_len is_name_byte) h ∙ run_is is_name_byte (b ∷ bs) rest all parted)), refl);
        within = name.2;
      };
      is = ap word (bytes_are text at (b ∷ bs) rest h);
      inside = stands text at b (bs ++ rest) h;
      unblank = rw here tests.1;
    }

number_tests : (b : ℕ) → is_number_start b ≡ true → (is_name_start b ≡ false) × (is_blank_byte b ≡ false)
number_tests b e = (grind (arith, nat_tests), grind (arith, nat_tests))

number_kind : (b next : ℕ) → is_number_start b ≡ true → kind_of_byte b next ≡ Some Number
number_kind b next e = rw ((number_tests b e).0, e) refl

number_there : (text : List ℕ) (at b : ℕ) (bs rest : List ℕ) → drop at text ≡ (b ∷ bs) ++ rest → IsNumeric (b ∷ bs) → IsPartedBy is_number_byte rest → IsLexemeOf text at (number (b ∷ bs)) (length (b ∷ bs))
number_there text at b bs rest h is parted =
    let here : slice_index text at ≡ b = byte_here text at b (bs ++ rest) h in
    let first = number_begins (b ∷ bs) is.0 in
    let tests = number_tests b first in
    let all = number_bytes (b ∷ bs) is.0 in
    let bytes = bytes_are text at (b ∷ bs) rest h in
    record {
      token = token_at Number at (length (b ∷ bs));
      start = refl;
      stop = refl;
      lexeme = record {
        size = length (b ∷ bs);
        begins = rw here (number_kind b (slice_index text (at + 1)) first);
        ends = (ap (λ k. at + k) (sym (ap (prefix_len is_number_byte) h ∙ run_is is_number_byte (b ∷ bs) rest all parted)), refl, subst IsNumber (sym bytes) is.0);
        within = is.1;
      };
      is = ap number bytes;
      inside = stands text at b (bs ++ rest) h;
      unblank = rw here tests.1;
    }

string_there : (text : List ℕ) (at : ℕ) (content rest : List ℕ) → drop at text ≡ quoted content ++ rest → IsContent content → IsLexemeOf text at (string content) (length (quoted content))
string_there text at content rest h (utf8, short) =
    let here : slice_index text at ≡ 34 = byte_here text at 34 _ h in
    let literal = quoted_string text at content rest h in
    record {
      token = token_at Str at (length (quoted content));
      start = refl;
      stop = refl;
      lexeme = record {
        size = length content;
        begins = rw here refl;
        ends = (content, literal, refl);
        within = short;
      };
      is = ap string (string_content text (token_at Str at (length (quoted content))) content literal);
      inside = stands text at 34 _ h;
      unblank = rw here refl;
    }

-- ---- marks

mark_there : (text : List ℕ) (at b : ℕ) (rest : List ℕ) (kind : TokenKind) (s : Symbol) → drop at text ≡ b ∷ rest → ((next : ℕ) → kind_of_byte b next ≡ Some kind) → LexemeEndsAt kind text at (at + 1) 1 → 1 ≤ token_limit kind → ((bs content : List ℕ) → symbol_of kind bs content ≡ s) → is_blank_byte b ≡ false → IsLexemeOf text at s 1
mark_there text at b rest kind s h begins ends within is unblank =
    let here : slice_index text at ≡ b = byte_here text at b rest h in
    record {
      token = token_at kind at 1;
      start = refl;
      stop = refl;
      lexeme = record { size = 1; begins = rw here (begins (slice_index text (at + 1))); ends = ends; within = within };
      is = is _ _;
      inside = stands text at b rest h;
      unblank = rw here unblank;
    }

assign_there : (text : List ℕ) (at : ℕ) (rest : List ℕ) → drop at text ≡ 58 ∷ 61 ∷ rest → IsLexemeOf text at assign 2
assign_there text at rest h =
    let here : slice_index text at ≡ 58 = byte_here text at 58 (61 ∷ rest) h in
    let next : slice_index text (at + 1) ≡ 61 = byte_there text at 1 61 (58 ∷ 61 ∷ rest) h refl in
    record {
      token = token_at Assign at 2;
      start = refl;
      stop = refl;
      lexeme = record { size = 2; begins = rw (here, next) refl; ends = (refl, refl); within = omega arith };
      is = refl;
      inside = stands text at 58 (61 ∷ rest) h;
      unblank = rw here refl;
    }

-- ---- what is written stands there

word_is : (text : List ℕ) (at : ℕ) (name rest : List ℕ) → drop at text ≡ name ++ rest → IsName name → IsPartedBy is_name_byte rest → IsLexemeOf text at (word name) (length name)
word_is text at [] rest h name parted = absurd (omega (arith, (name_tests 0 name.0).0))
word_is text at (b ∷ bs) rest h name parted = word_there text at b bs rest h name parted

number_is : (text : List ℕ) (at : ℕ) (digits rest : List ℕ) → drop at text ≡ digits ++ rest → IsNumeric digits → IsPartedBy is_number_byte rest → IsLexemeOf text at (number digits) (length digits)
number_is text at [] rest h is parted = let never : false ≡ true = number_begins [] is.0 in cc never
number_is text at (b ∷ bs) rest h is parted = number_there text at b bs rest h is parted

own_is : (text : List ℕ) (at : ℕ) (own other rest : List ℕ) → own ≡ other → drop at text ≡ own ++ rest → drop at text ≡ other ++ rest
own_is text at own other rest same h = h ∙ ap (λ (l : List ℕ). l ++ rest) same

pub written_is : (s : Symbol) (own rest text : List ℕ) (at : ℕ) → IsWritten s own rest → drop at text ≡ own ++ rest → IsLexemeOf text at s (length own)
written_is (word name) own rest text at w h = rw w.0 (word_is text at name rest (own_is text at own name rest w.0 h) w.1 w.2)
written_is (number digits) own rest text at w h = rw w.0 (number_is text at digits rest (own_is text at own digits rest w.0 h) w.1 w.2)
written_is (string content) own rest text at w h = rw w.0 (string_there text at content rest (own_is text at own (quoted content) rest w.0 h) w.1)
written_is dot own rest text at w h = rw w (mark_there text at 46 rest Dot dot (own_is text at own (46 ∷ []) rest w h) (λ n. refl) (refl, refl) (omega arith) (λ b c. refl) refl)
written_is open_paren own rest text at w h = rw w (mark_there text at 40 rest ParenL open_paren (own_is text at own (40 ∷ []) rest w h) (λ n. refl) (refl, refl) (omega arith) (λ b c. refl) refl)
written_is close_paren own rest text at w h = rw w (mark_there text at 41 rest ParenR close_paren (own_is text at own (41 ∷ []) rest w h) (λ n. refl) (refl, refl) (omega arith) (λ b c. refl) refl)
written_is open_brace own rest text at w h = rw w (mark_there text at 123 rest BraceL open_brace (own_is text at own (123 ∷ []) rest w h) (λ n. refl) (refl, refl) (omega arith) (λ b c. refl) refl)
written_is close_brace own rest text at w h = rw w (mark_there text at 125 rest BraceR close_brace (own_is text at own (125 ∷ []) rest w h) (λ n. refl) (refl, refl) (omega arith) (λ b c. refl) refl)
written_is open_bracket own rest text at w h = rw w (mark_there text at 91 rest BracketL open_bracket (own_is text at own (91 ∷ []) rest w h) (λ n. refl) (refl, refl) (omega arith) (λ b c. refl) refl)
written_is close_bracket own rest text at w h = rw w (mark_there text at 93 rest BracketR close_bracket (own_is text at own (93 ∷ []) rest w h) (λ n. refl) (refl, refl) (omega arith) (λ b c. refl) refl)
written_is comma own rest text at w h = rw w (mark_there text at 44 rest Comma comma (own_is text at own (44 ∷ []) rest w h) (λ n. refl) (refl, refl) (omega arith) (λ b c. refl) refl)
written_is semicolon own rest text at w h = rw w (mark_there text at 59 rest Semi semicolon (own_is text at own (59 ∷ []) rest w h) (λ n. refl) (refl, refl) (omega arith) (λ b c. refl) refl)
written_is assign own rest text at w h = rw w (assign_there text at rest (own_is text at own (58 ∷ 61 ∷ []) rest w h))
written_is equals own rest text at w h = rw w (mark_there text at 61 rest Equals equals (own_is text at own (61 ∷ []) rest w h) (λ n. refl) (refl, refl) (omega arith) (λ b c. refl) refl)

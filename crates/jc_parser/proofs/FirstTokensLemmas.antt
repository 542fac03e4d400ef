-- About `ReaderState`: what the first token decides, and how reading goes on behind it.
use Rattle.std.proofs.Common.{◌≡◌, ℕ, ◌<◌, ◌-◌, Bool, true, false, List, [], ◌∷◌, length, get_or, take, drop, Ok, Err, refl, sym, ap, subst, ◌∙◌, arith}
use Rattle.std.proofs.lemmas.List.{take_rest}
use Rattle.jc_syntax.specs.declared.token.Token.{Token}
use Rattle.jc_syntax.specs.declared.token.TokenKind.{TokenKind}
use Rattle.jc_syntax.specs.declared.token.TokenKind.TheVariants.{Name, Number, Str}
use Rattle.jc_syntax.specs.Lexemes.{token_bytes, token_content}
use Rattle.jc_grammar.specs.Symbols.{Symbol, word, number, string, symbol_of, Lexeme, lexeme}
use Rattle.jc_parser.specs.ExpressionReader.{is_selector}
use Rattle.jc_parser.specs.ScriptReader.{is_misused}
use Rattle.jc_parser.specs.ReaderState.{Reading, ReadOutcome, reading_of, begins, begins_with, kind_of_symbol, same_kind, has_kind, is_word, is_number_symbol, reserved, value_of_symbol, take_one, one, skip, named_at, stuck, stuck_at}
use Rattle.jc_parser.specs.ReaderState as readings

-- ---- going on behind it

skipped_front : (p : Symbol → Bool) (text : List ℕ) (ts : List Token) → begins p (reading_of text ts) ≡ true → skip p (reading_of text ts) ≡ Ok (tt, reading_of text (take (length ts - 1) (drop 1 ts)))
unfolding one
skipped_front p text [] fits = absurd cc
skipped_front p text (t ∷ ts) fits = rw (take_rest (t ∷ ts) 1, fits) refl

-- the first lexeme passes the test
pub skipped : (p : Symbol → Bool) (text : List ℕ) (ts : List Token) (r : Reading) → reading_of text ts ≡ r → begins p r ≡ true → skip p r ≡ Ok (tt, reading_of text (take (length ts - 1) (drop 1 ts)))
skipped p text ts r is fits =
    subst (λ (x : Reading). skip p x ≡ Ok (tt, reading_of text (take (length ts - 1) (drop 1 ts)))) is (skipped_front p text ts (ap (begins p) is ∙ fits))

left_stuck : (p : Symbol → Bool) (stop : ℕ) (ls : List Lexeme) → begins_with p ls ≡ false → take_one p stop ls ≡ Err (stuck_at stop ls)
left_stuck p stop [] fails = refl
left_stuck p stop (x ∷ xs) fails = rw fails refl

-- no lexeme that passes the test comes next
pub not_taken : (p : Symbol → Bool) (r : Reading) → begins p r ≡ false → one p r ≡ Err (stuck r)
unfolding one
not_taken p r fails = left_stuck p r.stop r.left fails

pub not_skipped : (p : Symbol → Bool) (r : Reading) → begins p r ≡ false → skip p r ≡ Err (stuck r)
not_skipped p r fails = rw (not_taken p r fails) refl

abbrev left_behind : Reading → ReadOutcome (Unit {0}) → Reading
left_behind r (Ok x) = x.1
left_behind r (Err e) = r

front_taken : (p : Symbol → Bool) (text : List ℕ) (ts : List Token) (next : Reading) (d : Token) → begins p (reading_of text ts) ≡ true → skip p (reading_of text ts) ≡ Ok (tt, next) → one p (reading_of text ts) ≡ Ok (lexeme text (get_or ts 0 d), next)
unfolding one
front_taken p text [] next d fits goes = absurd cc
front_taken p text (t ∷ ts) next d fits goes =
    let gone : reading_of text ts ≡ next = ap (left_behind next) (rw fits at goes) in
    rw fits (ap (λ (x : Reading). Ok (lexeme text t, x)) gone)

-- what is taken is the first token's
pub taken : (p : Symbol → Bool) (text : List ℕ) (ts : List Token) (r next : Reading) (d : Token) → reading_of text ts ≡ r → begins p r ≡ true → skip p r ≡ Ok (tt, next) → one p r ≡ Ok (lexeme text (get_or ts 0 d), next)
taken p text ts r next d is fits goes =
    subst (λ (x : Reading). one p x ≡ Ok (lexeme text (get_or ts 0 d), next)) is (front_taken p text ts next d (ap (begins p) is ∙ fits) (ap (skip p) is ∙ goes))

-- ---- what the first token spells

spelled_word : (k : TokenKind) (b c : List ℕ) → same_kind (kind_of_symbol (symbol_of k b c)) Name ≡ true → symbol_of k b c ≡ word b
spelled_word Name b c own = refl
spelled_word k b c own = absurd cc

spelled_number : (k : TokenKind) (b c : List ℕ) → same_kind (kind_of_symbol (symbol_of k b c)) Number ≡ true → symbol_of k b c ≡ number b
spelled_number Number b c own = refl
spelled_number k b c own = absurd cc

first_is_word : (text : List ℕ) (ts : List Token) (d : Token) → begins (has_kind Name) (reading_of text ts) ≡ true → (p : Symbol → Bool) → begins p (reading_of text ts) ≡ p (word (token_bytes text (get_or ts 0 d)))
first_is_word text [] d own p = absurd cc
first_is_word text (t ∷ ts) d own p = ap p (spelled_word t.kind (token_bytes text t) (token_content text t) own)

first_is_number : (text : List ℕ) (ts : List Token) (d : Token) → begins (has_kind Number) (reading_of text ts) ≡ true → (p : Symbol → Bool) → begins p (reading_of text ts) ≡ p (number (token_bytes text (get_or ts 0 d)))
first_is_number text [] d own p = absurd cc
first_is_number text (t ∷ ts) d own p = ap p (spelled_number t.kind (token_bytes text t) (token_content text t) own)

pub word_spelled : (text : List ℕ) (ts : List Token) (d : Token) (r : Reading) (b : List ℕ) → reading_of text ts ≡ r → b ≡ token_bytes text (get_or ts 0 d) → begins (has_kind Name) r ≡ true → (p : Symbol → Bool) → begins p r ≡ p (word b)
word_spelled text ts d r b is spells own p =
    sym (ap (begins p) is) ∙ first_is_word text ts d (ap (begins (has_kind Name)) is ∙ own) p ∙ ap (λ x. p (word x)) (sym spells)

pub number_spelled : (text : List ℕ) (ts : List Token) (d : Token) (r : Reading) (b : List ℕ) → reading_of text ts ≡ r → b ≡ token_bytes text (get_or ts 0 d) → begins (has_kind Number) r ≡ true → (p : Symbol → Bool) → begins p r ≡ p (number b)
number_spelled text ts d r b is spells own p =
    sym (ap (begins p) is) ∙ first_is_number text ts d (ap (begins (has_kind Number)) is ∙ own) p ∙ ap (λ x. p (number x)) (sym spells)

pub nothing_begins : (p : Symbol → Bool) (text : List ℕ) (ts : List Token) (r : Reading) → reading_of text ts ≡ r → length ts < 1 → begins p r ≡ true → ⊥
nothing_begins p text [] r is none own = let now : false ≡ true = ap (begins p) is ∙ own in cc
nothing_begins p text (t ∷ ts) r is none own = omega arith

spelled_string : (k : TokenKind) (b c : List ℕ) → same_kind (kind_of_symbol (symbol_of k b c)) Str ≡ true → symbol_of k b c ≡ string c
spelled_string Str b c own = refl
spelled_string k b c own = absurd cc

string_kind : (k : TokenKind) (b c : List ℕ) → same_kind (kind_of_symbol (symbol_of k b c)) Str ≡ true → k ≡ Str
string_kind Str b c own = refl
string_kind k b c own = absurd cc

first_fits : (p : Symbol → Bool) (text : List ℕ) (ts : List Token) (d : Token) → begins p (reading_of text ts) ≡ true → p (lexeme text (get_or ts 0 d)).symbol ≡ true
first_fits p text [] d fits = absurd cc
first_fits p text (t ∷ ts) d fits = fits

pub first_is_string : (text : List ℕ) (ts : List Token) (r : Reading) (d : Token) → reading_of text ts ≡ r → begins (has_kind Str) r ≡ true → (get_or ts 0 d).kind ≡ Str
first_is_string text ts r d is fits =
    let t = get_or ts 0 d in
    string_kind t.kind (token_bytes text t) (token_content text t) (first_fits (has_kind Str) text ts d (ap (begins (has_kind Str)) is ∙ fits))

pub string_taken : (text : List ℕ) (ts : List Token) (r next : Reading) (d : Token) (v : List ℕ) → reading_of text ts ≡ r → begins (has_kind Str) r ≡ true → skip (has_kind Str) r ≡ Ok (tt, next) → v ≡ token_content text (get_or ts 0 d) → readings.take (has_kind Str) r ≡ Ok (v, next)
string_taken text ts r next d v is fits goes spells =
    let t = get_or ts 0 d in
    let own = spelled_string t.kind (token_bytes text t) (token_content text t) (first_fits (has_kind Str) text ts d (ap (begins (has_kind Str)) is ∙ fits)) in
    rw (taken (has_kind Str) text ts r next d is fits goes) (ap (λ (x : List ℕ). Ok (x, next)) (ap value_of_symbol own ∙ sym spells))

pub number_taken : (text : List ℕ) (ts : List Token) (r next : Reading) (d : Token) (v : List ℕ) → reading_of text ts ≡ r → begins (has_kind Number) r ≡ true → skip (has_kind Number) r ≡ Ok (tt, next) → v ≡ token_bytes text (get_or ts 0 d) → readings.take (has_kind Number) r ≡ Ok (v, next)
number_taken text ts r next d v is fits goes spells =
    let t = get_or ts 0 d in
    let own = spelled_number t.kind (token_bytes text t) (token_content text t) (first_fits (has_kind Number) text ts d (ap (begins (has_kind Number)) is ∙ fits)) in
    rw (taken (has_kind Number) text ts r next d is fits goes) (ap (λ (x : List ℕ). Ok (x, next)) (ap value_of_symbol own ∙ sym spells))

pub name_taken : (text : List ℕ) (ts : List Token) (r next : Reading) (d : Token) (v : List ℕ) → reading_of text ts ≡ r → begins (has_kind Name) r ≡ true → skip (has_kind Name) r ≡ Ok (tt, next) → v ≡ token_bytes text (get_or ts 0 d) → named_at r ≡ Ok (record { name = v; place = (get_or ts 0 d).start }, next)
unfolding named_at
name_taken text ts r next d v is fits goes spells =
    let t = get_or ts 0 d in
    let own = spelled_word t.kind (token_bytes text t) (token_content text t) (first_fits (has_kind Name) text ts d (ap (begins (has_kind Name)) is ∙ fits)) in
    rw (taken (has_kind Name) text ts r next d is fits goes) (ap (λ (x : List ℕ). Ok (record { name = x; place = t.start }, next)) (ap value_of_symbol own ∙ sym spells))

pub no_name : (r : Reading) → begins (has_kind Name) r ≡ false → named_at r ≡ Err (stuck r)
unfolding named_at
no_name r fails = rw (not_taken (has_kind Name) r fails) refl

pub no_value : (p : Symbol → Bool) (r : Reading) → begins p r ≡ false → readings.take p r ≡ Err (stuck r)
no_value p r fails = rw (not_taken p r fails) refl

-- ---- tests that only a symbol of one kind can pass

abbrev OnlyOf : TokenKind → (Symbol → Bool) → Type 0
OnlyOf k p = (s : Symbol) → has_kind k s ≡ false → p s ≡ false

left_missed : (k : TokenKind) (p : Symbol → Bool) → OnlyOf k p → (ls : List Lexeme) → begins_with (has_kind k) ls ≡ false → begins_with p ls ≡ false
left_missed k p only [] other = refl
left_missed k p only (x ∷ xs) other = only x.symbol other

word_only : (w : List ℕ) → OnlyOf Name (is_word w)
word_only w (word b) other = absurd cc
word_only w s other = refl

number_only : (w : List ℕ) → OnlyOf Number (is_number_symbol w)
number_only w (number b) other = absurd cc
number_only w s other = refl

reserved_only : OnlyOf Name reserved
reserved_only (word b) other = absurd cc
reserved_only s other = refl

misused_only : OnlyOf Name is_misused
misused_only (word b) other = absurd cc
misused_only s other = refl

selector_only : OnlyOf Name is_selector
selector_only (word b) other = absurd cc
selector_only s other = refl

pub no_word : (w : List ℕ) (r : Reading) → begins (has_kind Name) r ≡ false → begins (is_word w) r ≡ false
no_word w r other = left_missed Name (is_word w) (word_only w) r.left other

pub no_number : (w : List ℕ) (r : Reading) → begins (has_kind Number) r ≡ false → begins (is_number_symbol w) r ≡ false
no_number w r other = left_missed Number (is_number_symbol w) (number_only w) r.left other

pub no_reserved : (r : Reading) → begins (has_kind Name) r ≡ false → begins reserved r ≡ false
no_reserved r other = left_missed Name reserved reserved_only r.left other

pub no_misused : (r : Reading) → begins (has_kind Name) r ≡ false → begins is_misused r ≡ false
no_misused r other = left_missed Name is_misused misused_only r.left other

pub no_selector : (r : Reading) → begins (has_kind Name) r ≡ false → begins is_selector r ≡ false
no_selector r other = left_missed Name is_selector selector_only r.left other

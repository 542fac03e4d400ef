-- About `Lexemes`: the tokens of a text, one after the other, which are one list or one fault.
use Rattle.std.proofs.Common.{◌≡◌, ℕ, ◌+◌, ◌<◌, ◌≤◌, List, [], ◌∷◌, ◌++◌, length, slice_index, true, Option, Some, None, inl, inr, refl, sym, subst, ap, ◌∙◌, arith}
use Rattle.std.specs.List.{All}
use Rattle.std.proofs.lemmas.Bool.Decides.{nat_tests}
use Rattle.std.proofs.lemmas.List.Elements.{All-nil, All-cons}
use Rattle.std.proofs.lemmas.List.Sums.{prefix_len-drop_yes}
use Rattle.jc_syntax.specs.declared.fault.LexFault.{LexFault}
use Rattle.jc_syntax.specs.declared.token.Token.{Token}
use Rattle.jc_syntax.specs.declared.token.TokenKind.{TokenKind}
use Rattle.jc_syntax.specs.declared.token.TokenKind.TheVariants.{Name, Number, Str}
use Rattle.jc_syntax.specs.Bytes.{is_name_byte, is_number_byte}
use Rattle.jc_syntax.specs.Lexemes.{after_blanks, kind_of_byte, kind_at, token_limit, LexemeEndsAt, IsLexeme, IsTokenOf, IsMalformed, IsTooLong, IsLexFault, AreTokens, AreTokensOf, IsFaultOf}
use Rattle.jc_syntax.proofs.StringsPiecesLemmas.{one_string, string_later, string_or_fault, one_string_fault}

-- one token more
pub tokens_more : (text : List ℕ) (at place : ℕ) (t : Token) (ts : List Token) → AreTokens text at ts place → t.start ≡ place → place < length text → IsLexeme text t → AreTokens text at (ts ++ t ∷ []) (after_blanks text t.stop)
tokens_more text at place t [] here start inside lexeme = (start ∙ here, rw start inside, lexeme, refl)
tokens_more text at place t (u ∷ ts) h start inside lexeme = (h.0, h.1, h.2, tokens_more text u.stop place t ts h.3 start inside lexeme)

pub each_token : (text : List ℕ) (at place : ℕ) (ts : List Token) → length text ≤ 8388608 → AreTokens text at ts place → All (IsTokenOf text) ts
each_token text at place [] room h = All-nil (IsTokenOf text)
each_token text at place (t ∷ ts) room h = All-cons (IsTokenOf text) t ts (room, h.2) (each_token text t.stop place ts room h.3)

-- ---- a lexeme has at least one byte

name_first : (b next : ℕ) → kind_of_byte b next ≡ Some Name → is_name_byte b ≡ true
name_first b next e = grind (arith, nat_tests)

number_first : (b next : ℕ) → kind_of_byte b next ≡ Some Number → is_number_byte b ≡ true
number_first b next e = grind (arith, nat_tests)

later : (kind : TokenKind) (text : List ℕ) (at stop size : ℕ) → at < length text → kind_at text at ≡ Some kind → LexemeEndsAt kind text at stop size → at < stop
later Name text at stop size inside k e = omega (arith, e.0, prefix_len-drop_yes is_name_byte text at 0 inside (name_first (slice_index text at) (slice_index text (at + 1)) k))
later Number text at stop size inside k e = omega (arith, e.0, prefix_len-drop_yes is_number_byte text at 0 inside (number_first (slice_index text at) (slice_index text (at + 1)) k))
later Str text at stop size inside k e = string_later text at stop e.0 e.1
later kind text at stop size inside k e = omega (arith, e.0, e.1)

pub lexeme_later : (text : List ℕ) (t : Token) → t.start < length text → IsLexeme text t → t.start < t.stop
lexeme_later text t inside is = later t.kind text t.start t.stop is.size inside is.begins is.ends

-- ---- what stands at a place is one lexeme or one fault

pub one_end : (kind : TokenKind) (text : List ℕ) (at p q m n : ℕ) → LexemeEndsAt kind text at p m → LexemeEndsAt kind text at q n → (p ≡ q) × (m ≡ n)
one_end Name text at p q m n a b = (a.0 ∙ sym b.0, omega (arith, a.0, a.1, b.0, b.1))
one_end Number text at p q m n a b = (a.0 ∙ sym b.0, omega (arith, a.0, a.1, b.0, b.1))
one_end Str text at p q m n a b =
    let same = one_string text at p q a.0 b.0 a.1 b.1 in
    (same.0, a.2 ∙ ap length same.1 ∙ sym b.2)
one_end kind text at p q m n a b = (omega (arith, a.0, a.1, b.0, b.1), a.0 ∙ sym b.0)

abbrev token : TokenKind → ℕ → ℕ → Token
token k a c = record { kind = k; start = a; stop = c }

token_same : (k l : TokenKind) (a b c d : ℕ) → k ≡ l → a ≡ b → c ≡ d → token k a c ≡ token l b d
token_same k l a b c d x y z = rw (x, y, z) refl

-- two lexemes that begin at one place are one
one_lexeme : (text : List ℕ) (t u : Token) → t.start ≡ u.start → IsLexeme text t → IsLexeme text u → t ≡ u
one_lexeme text t u start a b =
    let same_kind : Some t.kind ≡ Some u.kind = sym a.begins ∙ ap (kind_at text) start ∙ b.begins in
    let kind : t.kind ≡ u.kind = cc same_kind in
    let stop = one_end u.kind text u.start t.stop u.stop a.size b.size (rw (start, kind) at a.ends) b.ends in
    token_same t.kind u.kind t.start u.start t.stop u.stop kind start stop.0

pub malformed_or_ends : (kind : TokenKind) (text : List ℕ) (at stop size : ℕ) (fault : LexFault) → IsMalformed (Some kind) text at fault → LexemeEndsAt kind text at stop size → ⊥
malformed_or_ends Number text at stop size fault m e = m.0 (rw (← e.0) e.2)
malformed_or_ends Str text at stop size fault m e = string_or_fault text at stop e.0 fault e.1 m
malformed_or_ends kind text at stop size fault m e = m

one_malformed : (o : Option TokenKind) (text : List ℕ) (at : ℕ) (f g : LexFault) → IsMalformed o text at f → IsMalformed o text at g → f ≡ g
one_malformed None text at f g a b = a ∙ sym b
one_malformed (Some Number) text at f g a b = a.1 ∙ sym b.1
one_malformed (Some Str) text at f g a b = one_string_fault text at f g a b
one_malformed (Some kind) text at f g a b = absurd a

malformed_at : (text : List ℕ) (at : ℕ) (kind : TokenKind) (fault : LexFault) → kind_at text at ≡ Some kind → IsMalformed (kind_at text at) text at fault → IsMalformed (Some kind) text at fault
malformed_at text at kind fault begins m = subst (λ (o : Option TokenKind). IsMalformed o text at fault) begins m

malformed_or_long : (text : List ℕ) (at : ℕ) (f g : LexFault) → IsMalformed (kind_at text at) text at f → IsTooLong text at g → ⊥
malformed_or_long text at f g m l = malformed_or_ends l.kind text at l.stop l.size f (malformed_at text at l.kind f l.begins m) l.ends

one_lex_fault : (text : List ℕ) (at : ℕ) (f g : LexFault) → IsLexFault text at f → IsLexFault text at g → f ≡ g
one_lex_fault text at f g (inl a) (inl b) = one_malformed (kind_at text at) text at f g a b
one_lex_fault text at f g (inl a) (inr b) = absurd (malformed_or_long text at f g a b)
one_lex_fault text at f g (inr a) (inl b) = absurd (malformed_or_long text at g f b a)
one_lex_fault text at f g (inr a) (inr b) = a.is ∙ sym b.is

-- no token begins at a place
abbrev NoToken : List ℕ → ℕ → Type 0
NoToken text at = (t : Token) → t.start ≡ at → t.start < length text → IsLexeme text t → ⊥

end_is_none : (text : List ℕ) (at : ℕ) → length text ≤ at → NoToken text at
end_is_none text at past t start inside lexeme = omega (arith, past, start, inside)

fault_at_start : (text : List ℕ) (t : Token) (fault : LexFault) → IsLexFault text t.start fault → IsLexeme text t → ⊥
fault_at_start text t fault (inl m) is = malformed_or_ends t.kind text t.start t.stop is.size fault (malformed_at text t.start t.kind fault is.begins m) is.ends
fault_at_start text t fault (inr l) is =
    let same : Some l.kind ≡ Some t.kind = sym l.begins ∙ is.begins in
    let kind : l.kind ≡ t.kind = cc same in
    let end = one_end t.kind text t.start l.stop t.stop l.size is.size (rw kind at l.ends) is.ends in
    let beyond : token_limit t.kind < l.size = rw kind at l.beyond in
    omega (arith, beyond, is.within, end.1)

fault_is_none : (text : List ℕ) (at : ℕ) (fault : LexFault) → IsLexFault text at fault → NoToken text at
fault_is_none text at fault f t start inside lexeme = fault_at_start text t fault (rw start f) lexeme

-- ---- a text has one list of tokens or one fault

-- tokens from one place on, up to where no more begin, are the same
one_run : (text : List ℕ) (at p q : ℕ) (ts us : List Token) → AreTokens text at ts p → AreTokens text at us q → NoToken text p → NoToken text q → (ts ≡ us) × (p ≡ q)
one_run text at p q [] [] a b x y = (refl, a ∙ sym b)
one_run text at p q [] (u ∷ us) a b x y = absurd (x u (b.0 ∙ sym a) b.1 b.2)
one_run text at p q (t ∷ ts) [] a b x y = absurd (y t (a.0 ∙ sym b) a.1 a.2)
one_run text at p q (t ∷ ts) (u ∷ us) a b x y =
    let same : t ≡ u = one_lexeme text t u (a.0 ∙ sym b.0) a.2 b.2 in
    let rest : (ts ≡ us) × (p ≡ q) = one_run text t.stop p q ts us a.3 (rw (← same) at b.3) x y in
    (rw (same, rest.0) refl, rest.1)

pub one_list : (text : List ℕ) (ts us : List Token) → AreTokensOf text ts → AreTokensOf text us → ts ≡ us
one_list text ts us a b = (one_run text 0 a.1 b.1 ts us a.2 b.2 (end_is_none text a.1 a.3) (end_is_none text b.1 b.3)).0

pub list_or_fault : (text : List ℕ) (ts : List Token) (fault : LexFault) → AreTokensOf text ts → IsFaultOf text fault → ⊥
list_or_fault text ts fault a (inl f) = omega (arith, a.0, f.0)
list_or_fault text ts fault a (inr f) =
    let run = one_run text 0 a.1 f.2 ts f.1 a.2 f.3 (end_is_none text a.1 a.3) (fault_is_none text f.2 fault f.5) in
    omega (arith, a.3, run.1, f.4)

pub one_fault : (text : List ℕ) (f g : LexFault) → IsFaultOf text f → IsFaultOf text g → f ≡ g
one_fault text f g (inl a) (inl b) = a.1 ∙ sym b.1
one_fault text f g (inl a) (inr b) = absurd (omega (arith, a.0, b.0))
one_fault text f g (inr a) (inl b) = absurd (omega (arith, b.0, a.0))
one_fault text f g (inr a) (inr b) =
    let run = one_run text 0 a.2 b.2 a.1 b.1 a.3 b.3 (fault_is_none text a.2 f a.5) (fault_is_none text b.2 g b.5) in
    one_lex_fault text b.2 f g (rw run.1 at a.5) b.5

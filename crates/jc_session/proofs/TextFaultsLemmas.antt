-- Of `Answers`: the fault of a text is never want of memory, so it has a line.
use Rattle.std.proofs.Common.{◌≡◌, ◌≢◌, ℕ, ◌+◌, List, Bool, true, false, ◌==◌, nat_lt, if◌then◌else◌, Option, Some, None, Result, Ok, Err, inl, inr, refl, ap, sym, subst, ◌∙◌}
use Rattle.std.specs.Prelude.{slice_index}
use Rattle.jc_rules.specs.declared.refusal.Refusal.{Refusal}
use Rattle.jc_rules.specs.declared.version.Version.{Version}
use Rattle.jc_syntax.specs.declared.fault.LexFault.{LexFault}
use Rattle.jc_syntax.specs.declared.fault.LexFault.TheVariants as L
use Rattle.jc_syntax.specs.declared.token.TokenKind.{TokenKind}
use Rattle.jc_syntax.specs.declared.token.TokenKind.TheVariants.{Number, Str}
use Rattle.jc_syntax.specs.Strings.{escape_at, piece_at, pair_at, unit_at, short_or_unit, unit_escape, short_escape, is_high, is_low, StopsString}
use Rattle.jc_syntax.specs.Lexemes.{kind_at, IsMalformed, IsFaultOf}
use Rattle.jc_parser.specs.declared.fault.ScenarioFault.{ScenarioFault}
use Rattle.jc_parser.specs.declared.fault.ScenarioFault.TheVariants as S
use Rattle.jc_parser.specs.declared.parse_fault.ParseFault.{ParseFault}
use Rattle.jc_parser.specs.declared.parse_fault.ParseFault.TheVariants as P
use Rattle.jc_parser.specs.Events.{IsEventFault}
use Rattle.jc_parser.specs.Faults.{fault_refusal, fault_offset, from_lexer, from_sentence}
use Rattle.jc_dump.specs.Texts.{refused_text}
use Rattle.jc_scenario.specs.Faults.{IsFault}
use Rattle.jc_session.specs.Answers.{IsFaultLine, IsMisspelled, faulty}

-- ---- lines

abbrev pub HasLine : ScenarioFault → Type 0
HasLine fault = (text : List ℕ) × IsFaultLine fault text

line_of : (fault : ScenarioFault) {refusal : Refusal} {place : ℕ} → fault_refusal fault ≡ Some refusal → fault_offset fault ≡ Some place → HasLine fault
line_of fault {refusal} {place} is stands = (refused_text refusal place, record { refusal = refusal; place = place; is_refusal = is; is_place = stands; written = refl })

-- each fault but want of memory has a line
pub fault_line : (fault : ScenarioFault) → fault ≢ S.Memory → HasLine fault
fault_line S.Memory h = absurd (h refl)
fault_line fault h = line_of fault refl refl

pub is_told : (fault : ScenarioFault) (refusal : Refusal) → fault_refusal fault ≡ Some refusal → fault ≢ S.Memory
is_told fault refusal is same = let none : None ≡ Some refusal = sym (ap fault_refusal same) ∙ is in cc

-- want of memory has no line
pub not_memory : (fault : ScenarioFault) (text : List ℕ) → IsFaultLine fault text → fault ≢ S.Memory
not_memory fault text h = is_told fault h.refusal h.is_refusal

pub misspelled : (version : Version) (names : List (List ℕ)) (rest : List ℕ) (fault : ParseFault) (refusal : Refusal) (place : ℕ) → fault_refusal (from_sentence fault) ≡ Some refusal → fault_offset (from_sentence fault) ≡ Some place → (fault ≢ P.Memory → IsEventFault version rest (from_sentence fault)) → IsMisspelled version names rest refusal place
misspelled version names rest fault refusal place is at h =
    faulty (from_sentence fault) (h (λ same. is_told (from_sentence fault) refusal is (ap from_sentence same))) is at

-- ---- tokens

-- what isn't read has a fault that isn't want of memory
abbrev IsTold : {X : Type 0} → Result X LexFault → Type 0
IsTold (Ok x) = Unit {0}
IsTold (Err fault) = fault ≢ L.Memory

either_told : {X : Type 0} (b : Bool) (x y : Result X LexFault) → IsTold x → IsTold y → IsTold (if b then x else y)
either_told true x y a b = a
either_told false x y a b = b

pair_told : (at high : ℕ) (low : Option ℕ) → IsTold (pair_at at high low)
pair_told at high None = λ e. cc
pair_told at high (Some low) = either_told (is_low low) _ _ tt (λ e. cc)

unit_told : (text : List ℕ) (at : ℕ) (unit : Option ℕ) → IsTold (unit_at text at unit)
unit_told text at None = λ e. cc
unit_told text at (Some unit) = either_told (is_high unit) _ _ (pair_told at unit (unit_escape text (at + 6))) (either_told (is_low unit) _ _ (λ e. cc) tt)

short_told : (text : List ℕ) (at : ℕ) (short : Option ℕ) → IsTold (short_or_unit text at short)
short_told text at (Some character) = tt
short_told text at None = unit_told text at (unit_escape text at)

escape_told : (text : List ℕ) (at : ℕ) → IsTold (escape_at text at)
unfolding escape_at
escape_told text at = short_told text at (short_escape (slice_index text (at + 1)))

piece_told : (text : List ℕ) (at : ℕ) → IsTold (piece_at text at)
unfolding piece_at
piece_told text at = either_told (nat_lt (slice_index text at) 32) _ _ (λ e. cc) (either_told (slice_index text at == 92) _ _ (escape_told text at) tt)

string_told : (text : List ℕ) (quote at : ℕ) (fault : LexFault) → StopsString text quote at fault → fault ≢ L.Memory
string_told text quote at fault (inl (within, unquoted, is)) = subst IsTold is (piece_told text at)
string_told text quote at fault (inr (past, is)) = λ e. cc

malformed_told : (kind : Option TokenKind) (text : List ℕ) (at : ℕ) (fault : LexFault) → IsMalformed kind text at fault → fault ≢ L.Memory
malformed_told None text at fault is = λ e. cc
malformed_told (Some Number) text at fault (other, is) = λ e. cc
malformed_told (Some Str) text at fault is = string_told text at is.place fault is.stops
malformed_told (Some kind) text at fault is = absurd is

lexical_told : (text : List ℕ) (fault : LexFault) → IsFaultOf text fault → fault ≢ L.Memory
lexical_told text fault (inl (long, is)) = λ e. cc
lexical_told text fault (inr (short, tokens, place, are, within, inl is)) = malformed_told (kind_at text place) text place fault is
lexical_told text fault (inr (short, tokens, place, are, within, inr long)) = λ e. cc

from_lexer_told : (fault : LexFault) → fault ≢ L.Memory → from_lexer fault ≢ S.Memory
from_lexer_told L.Memory h e = h refl
from_lexer_told _ h e = cc

lexed_told : (text : List ℕ) (lexical : LexFault) (fault : ScenarioFault) → IsFaultOf text lexical → fault ≡ from_lexer lexical → fault ≢ S.Memory
lexed_told text lexical fault is same e = from_lexer_told lexical (lexical_told text lexical is) (sym same ∙ e)

-- ---- lexemes

-- the fault of a text that is no event
pub event_told : (version : Version) (text : List ℕ) (fault : ScenarioFault) → IsEventFault version text fault → fault ≢ S.Memory
event_told version text fault (inl (lexical, is, same)) = lexed_told text lexical fault is same
event_told version text fault (inr (tokens, are, (own, is, (refusal, offset)))) = is_told fault own.refusal refusal

-- the fault of bytes that are no scenario
pub fault_told : (bytes : List ℕ) (fault : ScenarioFault) → IsFault bytes fault → fault ≢ S.Memory
fault_told bytes fault (inl (long, is)) = λ e. cc
fault_told bytes fault (inr (short, inl (other, is))) = λ e. cc
fault_told bytes fault (inr (short, inr (valid, inl (lexical, is, same)))) = lexed_told bytes lexical fault is same
fault_told bytes fault (inr (short, inr (valid, inr (tokens, are, inl (own, is, (refusal, offset)))))) = is_told fault own.refusal refusal
fault_told bytes fault (inr (short, inr (valid, inr (tokens, are, inr h)))) = λ e. cc

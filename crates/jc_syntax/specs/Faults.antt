-- Lexical faults: refusal, number, offset, and the text shown. `LexFault` follows it, and the parser cites it.
use Rattle.std.specs.Prelude.{ℕ, Option, Some, None, List, ◌++◌, codes, decimal, option_map}
use Rattle.jc_rules.specs.declared.refusal.Refusal.{Refusal}
use Rattle.jc_rules.specs.declared.refusal.Refusal.TheVariants as refusals
use Rattle.jc_rules.specs.Refusals.{refusal_name, refusal_number}
use Rattle.jc_syntax.specs.declared.fault.LexFault.{LexFault}
use Rattle.jc_syntax.specs.declared.fault.LexFault.TheVariants.{BadByte, OpenString, BadEscape, LoneSurrogate, BadNumber, TextTooLong, Memory}

abbrev pub lex_fault_offset : LexFault → Option ℕ
lex_fault_offset (BadByte place) = Some place
lex_fault_offset (OpenString place) = Some place
lex_fault_offset (BadEscape place) = Some place
lex_fault_offset (LoneSurrogate place) = Some place
lex_fault_offset (BadNumber place) = Some place
lex_fault_offset (TextTooLong place) = Some place
lex_fault_offset Memory = None

abbrev pub lex_refusal : LexFault → Option Refusal
lex_refusal (BadByte place) = Some refusals.BadByte
lex_refusal (OpenString place) = Some refusals.OpenString
lex_refusal (BadEscape place) = Some refusals.BadEscape
lex_refusal (LoneSurrogate place) = Some refusals.LoneSurrogate
lex_refusal (BadNumber place) = Some refusals.BadNumber
lex_refusal (TextTooLong place) = Some refusals.TextTooLong
lex_refusal Memory = None

abbrev pub lex_fault_number : LexFault → Option ℕ
lex_fault_number fault = option_map refusal_number (lex_refusal fault)

-- a refusal and its offset, as they are shown; what is no refusal is want of memory
abbrev pub refusal_text : Option Refusal → Option ℕ → List ℕ
refusal_text (Some refusal) (Some place) = refusal_name refusal ++ codes " at " ++ decimal place
refusal_text (Some refusal) None = codes "no memory"
refusal_text None place = codes "no memory"

abbrev pub lex_fault_text : LexFault → List ℕ
lex_fault_text fault = refusal_text (lex_refusal fault) (lex_fault_offset fault)

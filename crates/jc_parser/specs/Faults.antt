-- Faults of scenarios and sentences: refusal, number, offset, and the text shown. Both types of faults follow these.
use Rattle.std.specs.Prelude.{◌≡◌, ℕ, Option, Some, None, List, option_map}
use Rattle.jc_rules.specs.declared.refusal.Refusal.{Refusal}
use Rattle.jc_rules.specs.declared.refusal.Refusal.TheVariants as refusals
use Rattle.jc_rules.specs.Refusals.{refusal_number}
use Rattle.jc_syntax.specs.Faults.{refusal_text}
use Rattle.jc_syntax.specs.declared.fault.LexFault.{LexFault}
use Rattle.jc_syntax.specs.declared.fault.LexFault.TheVariants as lexical
use Rattle.jc_parser.specs.declared.parse_fault.ParseFault.{ParseFault}
use Rattle.jc_parser.specs.declared.parse_fault.ParseFault.TheVariants as sentence
use Rattle.jc_parser.specs.declared.fault.ScenarioFault.{ScenarioFault}
use Rattle.jc_parser.specs.declared.fault.ScenarioFault.TheVariants.{BadByte, OpenString, BadEscape, LoneSurrogate, BadNumber, TextTooLong, Unexpected, EndOfText, IndexTooLarge, ReservedName, TooManyCommands, TooLongExpression, NotUtf8, NoHeader, SameName, NoReplica, TooManyReplicas, UnknownReplica, TooManyEvents, Memory}

abbrev pub fault_offset : ScenarioFault → Option ℕ
fault_offset (BadByte place) = Some place
fault_offset (OpenString place) = Some place
fault_offset (BadEscape place) = Some place
fault_offset (LoneSurrogate place) = Some place
fault_offset (BadNumber place) = Some place
fault_offset (TextTooLong place) = Some place
fault_offset (Unexpected place) = Some place
fault_offset (EndOfText place) = Some place
fault_offset (IndexTooLarge place) = Some place
fault_offset (ReservedName place) = Some place
fault_offset (TooManyCommands place) = Some place
fault_offset (TooLongExpression place) = Some place
fault_offset (NotUtf8 place) = Some place
fault_offset (NoHeader place) = Some place
fault_offset (SameName place) = Some place
fault_offset (NoReplica place) = Some place
fault_offset (TooManyReplicas place) = Some place
fault_offset (UnknownReplica place) = Some place
fault_offset (TooManyEvents place) = Some place
fault_offset Memory = None

abbrev pub fault_refusal : ScenarioFault → Option Refusal
fault_refusal (BadByte place) = Some refusals.BadByte
fault_refusal (OpenString place) = Some refusals.OpenString
fault_refusal (BadEscape place) = Some refusals.BadEscape
fault_refusal (LoneSurrogate place) = Some refusals.LoneSurrogate
fault_refusal (BadNumber place) = Some refusals.BadNumber
fault_refusal (TextTooLong place) = Some refusals.TextTooLong
fault_refusal (Unexpected place) = Some refusals.Unexpected
fault_refusal (EndOfText place) = Some refusals.EndOfText
fault_refusal (IndexTooLarge place) = Some refusals.IndexTooLarge
fault_refusal (ReservedName place) = Some refusals.ReservedName
fault_refusal (TooManyCommands place) = Some refusals.TooManyCommands
fault_refusal (TooLongExpression place) = Some refusals.TooLongExpression
fault_refusal (NotUtf8 place) = Some refusals.NotUtf8
fault_refusal (NoHeader place) = Some refusals.NoHeader
fault_refusal (SameName place) = Some refusals.SameName
fault_refusal (NoReplica place) = Some refusals.NoReplica
fault_refusal (TooManyReplicas place) = Some refusals.TooManyReplicas
fault_refusal (UnknownReplica place) = Some refusals.UnknownReplica
fault_refusal (TooManyEvents place) = Some refusals.TooManyEvents
fault_refusal Memory = None

abbrev pub fault_number : ScenarioFault → Option ℕ
fault_number fault = option_map refusal_number (fault_refusal fault)

abbrev pub fault_text : ScenarioFault → List ℕ
fault_text fault = refusal_text (fault_refusal fault) (fault_offset fault)

-- a lexical fault, as a fault of a scenario
abbrev pub from_lexer : LexFault → ScenarioFault
from_lexer (lexical.BadByte place) = BadByte place
from_lexer (lexical.OpenString place) = OpenString place
from_lexer (lexical.BadEscape place) = BadEscape place
from_lexer (lexical.LoneSurrogate place) = LoneSurrogate place
from_lexer (lexical.BadNumber place) = BadNumber place
from_lexer (lexical.TextTooLong place) = TextTooLong place
from_lexer lexical.Memory = Memory

-- a fault of a sentence, as a fault of a scenario
abbrev pub from_sentence : ParseFault → ScenarioFault
from_sentence (sentence.BadByte place) = BadByte place
from_sentence (sentence.OpenString place) = OpenString place
from_sentence (sentence.BadEscape place) = BadEscape place
from_sentence (sentence.LoneSurrogate place) = LoneSurrogate place
from_sentence (sentence.BadNumber place) = BadNumber place
from_sentence (sentence.TextTooLong place) = TextTooLong place
from_sentence (sentence.Unexpected place) = Unexpected place
from_sentence (sentence.EndOfText place) = EndOfText place
from_sentence (sentence.IndexTooLarge place) = IndexTooLarge place
from_sentence (sentence.ReservedName place) = ReservedName place
from_sentence (sentence.TooManyCommands place) = TooManyCommands place
from_sentence (sentence.TooLongExpression place) = TooLongExpression place
from_sentence sentence.Memory = Memory

-- a fault that a sentence can have
abbrev pub IsOfSentence : ScenarioFault → Type 0
IsOfSentence fault = (own : ParseFault) × (fault ≡ from_sentence own)

-- The fault of bytes that are no scenario, with its offset. `read` returns it.
use Rattle.std.specs.Prelude.{◌≡◌, ℕ, ◌≤◌, ◌<◌, ◌⊎◌, List, ◌++◌, length, map}
use Rattle.std.specs.Str.{IsUtf8}
use Rattle.std.specs.Str.Lossy.{utf8_valid_len}
use Rattle.jc_rules.specs.declared.limits.TheConstants.{MAX_TEXT}
use Rattle.jc_syntax.specs.declared.token.Token.{Token}
use Rattle.jc_syntax.specs.declared.fault.LexFault.{LexFault}
use Rattle.jc_syntax.specs.Lexemes.{AreTokensOf, IsFaultOf}
use Rattle.jc_parser.specs.declared.fault.ScenarioFault.{ScenarioFault}
use Rattle.jc_parser.specs.declared.fault.ScenarioFault.TheVariants.{TextTooLong, NotUtf8, UnknownReplica}
use Rattle.jc_parser.specs.Faults.{from_lexer}
use Rattle.jc_parser.specs.ReaderState.{Reading, reading_of}
use Rattle.jc_parser.specs.Scenarios.{NamedTree, name_of_part, IsNamedTree, IsTreeFault}
use Rattle.jc_scenario.specs.Resolved.{all_names_in, IsFirstStranger}

-- These lexemes are a scenario, but for names in its events that no replica has. The first such name is at this offset;
-- the given events are before the schedule's.
pub record IsStranger (r : Reading) (fault : ScenarioFault) : Type 0 where
  pub tree : NamedTree
  pub named : IsNamedTree r tree
  pub place : ℕ
  pub first : IsFirstStranger (map name_of_part tree.parts) (all_names_in (tree.given ++ tree.events)) place
  pub is : fault ≡ UnknownReplica place

-- the fault of these lexemes: that of the grammar, else that of a name in its events
abbrev pub IsFaultAmong : Reading → ScenarioFault → Type 0
IsFaultAmong r fault = IsTreeFault r fault ⊎ IsStranger r fault

-- the fault of bytes within the text's limit: that they are not UTF-8, else that of their tokens, else that of their
-- lexemes
abbrev pub IsFaultWithin : List ℕ → ScenarioFault → Type 0
IsFaultWithin bytes fault =
    ((IsUtf8 bytes → ⊥) × (fault ≡ NotUtf8 (utf8_valid_len bytes)))
    ⊎ (IsUtf8 bytes × (((lexical : LexFault) × IsFaultOf bytes lexical × (fault ≡ from_lexer lexical))
    ⊎ ((tokens : List Token) × AreTokensOf bytes tokens × IsFaultAmong (reading_of bytes tokens) fault)))

-- the fault of bytes
abbrev pub IsFault : List ℕ → ScenarioFault → Type 0
IsFault bytes fault =
    ((MAX_TEXT < length bytes) × (fault ≡ TextTooLong MAX_TEXT))
    ⊎ ((length bytes ≤ MAX_TEXT) × IsFaultWithin bytes fault)

-- Events: the one that a text is, the one that begins at a token of a text, their faults, and their limits.
use Rattle.std.specs.Prelude.{ℕ, ◌≤◌, ◌<◌, List, length, drop, slice_range}
use Rattle.jc_rules.specs.declared.version.Version.{Version}
use Rattle.jc_rules.specs.declared.version.Version.TheVariants.{One, Two}
use Rattle.jc_syntax.specs.declared.token.Token.{Token}
use Rattle.jc_syntax.specs.declared.tree.NamedEvent.{NamedEvent}
use Rattle.jc_grammar.specs.Symbols.{Lexeme, lexemes}
use Rattle.jc_grammar.specs.ScenarioGrammar.{event, misfit_at}
use Rattle.jc_parser.specs.declared.fault.ScenarioFault.{ScenarioFault}
use Rattle.jc_parser.specs.ReaderState.{Reading, reading_of}
pub use Rattle.jc_parser.specs.NamedTrees.{Call, executes, sends, receives, takes, applies, ends, call_of}
use Rattle.jc_parser.specs.GrammarTrees.{event_of_tree}
use Rattle.jc_parser.specs.Sentences.{IsSentence, IsSentenceFault, IsPrefixFault, IsOfText, IsFaultOfText}

-- these lexemes are this event of this version, each name with its offset
abbrev pub IsEvent : Version → List Lexeme → NamedEvent → Type 0
IsEvent v ls e = IsSentence (event v) (event_of_tree v) ls e

-- the fault of lexemes that are no event of this version
abbrev pub IsNoEvent : Version → Reading → ScenarioFault → Type 0
IsNoEvent v r fault = IsSentenceFault (event v) (misfit_at r.stop) r.left fault

-- a text is this event of this version
abbrev pub IsEventOf : Version → List ℕ → NamedEvent → Type 0
IsEventOf v text e = IsOfText (IsEvent v) text e

-- the fault of a text that is no event of this version
abbrev pub IsEventFault : Version → List ℕ → ScenarioFault → Type 0
IsEventFault v text fault = IsFaultOfText (IsNoEvent v) text fault

-- ---- among the tokens of a text

-- the tokens from the number `from` up to the number `next` are this event
pub record IsEventAt
    (v : Version) (text : List ℕ) (tokens : List Token) (from : ℕ) (e : NamedEvent) (next : ℕ)
    : Type 0 where
  pub ordered : from ≤ next
  pub ends : next ≤ length tokens
  pub event : IsEvent v (lexemes text (slice_range tokens from next)) e

-- the fault of lexemes that begin with no event of this version
abbrev pub IsNoEventAhead : Version → Reading → ScenarioFault → Type 0
IsNoEventAhead v r fault = IsPrefixFault (event v) r fault

-- at the token of this number no event of this version begins, and this is the fault
abbrev pub IsEventFaultAt : Version → List ℕ → List Token → ℕ → ScenarioFault → Type 0
IsEventFaultAt v text tokens from fault = IsNoEventAhead v (reading_of text (drop from tokens)) fault

-- ---- limits

abbrev pub IsCallWellFormed : Call → Type 0
IsCallWellFormed (applies p counter q) = counter < 4294967296
IsCallWellFormed (takes p q counter r) = counter < 4294967296
IsCallWellFormed call = Unit {0}

-- version 2 alone has takes
abbrev pub HasTakes : Version → Type 0
HasTakes One = ⊥
HasTakes Two = Unit {0}

-- the version has this event
abbrev pub HasCall : Version → Call → Type 0
HasCall v (takes p q counter r) = HasTakes v
HasCall v call = Unit {0}

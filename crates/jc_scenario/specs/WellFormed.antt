-- Scenarios as plain lists, which of them are well formed, and the bytes that are one. `read` returns these.
use Rattle.std.specs.Prelude.{◌≡◌, ◌≢◌, ℕ, ◌≤◌, List, [], ◌∷◌, length, map, false, All, IsPermutation}
use Rattle.std.specs.Str.{IsUtf8}
use Rattle.jc_rules.specs.declared.operation.Event.{Event}
use Rattle.jc_rules.specs.declared.version.Version.{Version}
use Rattle.jc_rules.specs.declared.version.Version.TheVariants.{One}
use Rattle.jc_rules.specs.Entries.{IsRising}
use Rattle.jc_rules.specs.Order.{name_cmp}
use Rattle.jc_rules.specs.Syntax.{Cmd}
use Rattle.jc_rules.specs.Version.{Allows}
use Rattle.jc_rules.specs.declared.limits.TheConstants.{MAX_EVENTS, MAX_REPLICAS}
use Rattle.jc_syntax.specs.declared.token.Token.{Token}
use Rattle.jc_syntax.specs.Lexemes.{AreTokensOf}
use Rattle.jc_parser.specs.ReaderState.{Reading, reading_of}
use Rattle.jc_grammar.specs.SymbolTests.{is_reserved}
use Rattle.jc_parser.specs.Scripts.{IsScriptWellFormed}
use Rattle.jc_parser.specs.LegalSymbols.{IsName, IsLegalCmd, call_by, IsCounterBelow}
use Rattle.jc_parser.specs.Scenarios.{Part, ScenarioTree, NamedTree, tree_of_named, IsNamedTree}
use Rattle.jc_printer.specs.Canon.{AreNamed}

-- The version of its text, the replicas' names, their scripts, and events by the numbers of the replicas: the given
-- events, which run before the schedule, and the schedule.
pub record Scenario : Type 0 where
  pub version : Version
  pub names : List (List ℕ)
  pub scripts : List (List Cmd)
  pub given : List Event
  pub schedule : List Event

-- each name with its script
abbrev pub parts_of : List (List ℕ) → List (List Cmd) → List Part
parts_of [] scripts = []
parts_of (n ∷ ns) [] = []
parts_of (n ∷ ns) (s ∷ ss) = record { name = n; script = s } ∷ parts_of ns ss

-- ---- well-formed scenarios

pub record IsWellFormedScenario (s : Scenario) : Type 0 where
  -- the replicas, in the order of their names
  pub some : s.names ≢ []
  pub few : length s.names ≤ MAX_REPLICAS
  pub legal : All IsName s.names
  pub free : All (λ n. is_reserved n ≡ false) s.names
  pub rising : IsRising name_cmp s.names
  -- their scripts
  pub each : length s.scripts ≡ length s.names
  pub formed : All IsScriptWellFormed s.scripts
  pub commands : All (λ script. All IsLegalCmd script) s.scripts
  -- the given events, of which version 1 has none
  pub first_given : s.version ≡ One → s.given ≡ []
  pub given_short : length s.given ≤ MAX_EVENTS
  pub given_known : All (λ e. AreNamed e (length s.names)) s.given
  pub given_counters : All IsCounterBelow s.given
  -- the schedule, whose events the version has
  pub short : length s.schedule ≤ MAX_EVENTS
  pub known : All (λ e. AreNamed e (length s.names)) s.schedule
  pub counters : All IsCounterBelow s.schedule
  pub allowed : All (λ e. Allows e s.version) s.schedule

-- ---- scenarios of texts

-- a text with these replicas, in its own order, and with these events, is this scenario
pub record IsOfTree (t : ScenarioTree) (s : Scenario) : Type 0 where
  pub version : s.version ≡ t.version
  pub rising : IsRising name_cmp s.names
  pub each : length s.scripts ≡ length s.names
  pub same : IsPermutation t.parts (parts_of s.names s.scripts)
  pub given_known : All (λ e. AreNamed e (length s.names)) s.given
  pub given_called : map (call_by s.names) s.given ≡ t.given
  pub known : All (λ e. AreNamed e (length s.names)) s.schedule
  pub called : map (call_by s.names) s.schedule ≡ t.calls

-- these lexemes are this scenario
pub record AreScenario (r : Reading) (s : Scenario) : Type 0 where
  pub tree : NamedTree
  pub named : IsNamedTree r tree
  pub of_tree : IsOfTree (tree_of_named tree) s

-- the bytes are this scenario
pub record IsScenario (bytes : List ℕ) (s : Scenario) : Type 0 where
  pub valid : IsUtf8 bytes
  pub tokens : List Token
  pub lexed : AreTokensOf bytes tokens
  pub scenario : AreScenario (reading_of bytes tokens) s

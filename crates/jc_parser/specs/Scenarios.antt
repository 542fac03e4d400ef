-- Scenarios: the one that tokens are, the fault of other tokens, and their limits. Whether the names in events are
-- replicas' is not asked.
use Rattle.std.specs.Prelude.{◌≡◌, ◌≢◌, ◌≤◌, List, [], length, map, false, All}
use Rattle.std.specs.List.{AllPairs}
use Rattle.jc_rules.specs.declared.version.Version.TheVariants.{One}
use Rattle.jc_rules.specs.declared.limits.TheConstants.{MAX_EVENTS, MAX_REPLICAS}
use Rattle.jc_grammar.specs.SymbolTests.{is_reserved}
use Rattle.jc_grammar.specs.ScenarioGrammar.{scenario, scenario_misfit}
use Rattle.jc_parser.specs.declared.fault.ScenarioFault.{ScenarioFault}
use Rattle.jc_parser.specs.ReaderState.{Reading}
use Rattle.jc_parser.specs.Scripts.{IsScriptWellFormed}
use Rattle.jc_parser.specs.Events.{IsCallWellFormed, HasCall}
pub use Rattle.jc_parser.specs.NamedTrees.{Part, name_of_part, NamedTree, tree, with_replica_part, ScenarioTree, tree_of_named}
use Rattle.jc_parser.specs.GrammarTrees.{scenario_of_tree}
use Rattle.jc_parser.specs.Sentences.{IsSentence, IsSentenceFault}

-- these lexemes are this scenario, with the offsets of the names in its events
abbrev pub IsNamedTree : Reading → NamedTree → Type 0
IsNamedTree r t = IsSentence scenario scenario_of_tree r.left t

-- these lexemes are no scenario, and this is the fault
abbrev pub IsTreeFault : Reading → ScenarioFault → Type 0
IsTreeFault r fault = IsSentenceFault scenario (scenario_misfit r.stop r.left) r.left fault

-- ---- limits

-- replicas within the limits, no two of one name
pub record ArePartsWithin (ps : List Part) : Type 0 where
  pub some : ps ≢ []
  pub free : All (λ p. is_reserved p.name ≡ false) ps
  pub apart : AllPairs (λ a b. a ≢ b) (map name_of_part ps)
  pub few : length ps ≤ MAX_REPLICAS
  pub scripts : All (λ p. IsScriptWellFormed p.script) ps

-- The given events and the schedule are counted apart. Version 1 has no given events.
pub record IsTreeWithin (t : ScenarioTree) : Type 0 where
  pub parts : ArePartsWithin t.parts
  pub first_given : t.version ≡ One → t.given ≡ []
  pub few_given : length t.given ≤ MAX_EVENTS
  pub given : All IsCallWellFormed t.given
  pub few : length t.calls ≤ MAX_EVENTS
  pub calls : All IsCallWellFormed t.calls
  pub allowed : All (HasCall t.version) t.calls

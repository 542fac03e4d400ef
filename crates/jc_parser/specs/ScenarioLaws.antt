-- The laws' statements for scenarios, which follow from the definitions alone.
use Rattle.std.specs.Prelude.{◌≡◌, ◌⊎◌}
use Rattle.jc_parser.specs.declared.fault.ScenarioFault.{ScenarioFault}
use Rattle.jc_parser.specs.ReaderState.{Reading}
use Rattle.jc_parser.specs.Scenarios.{NamedTree, IsNamedTree, IsTreeFault}

-- Tokens are one scenario at most, with one offset for each name in its events.
abbrev pub OneNamedTree : Type 0
OneNamedTree = (r : Reading) (t other : NamedTree) → IsNamedTree r t → IsNamedTree r other → t ≡ other

-- Tokens that are a scenario have no fault.
abbrev pub NamedTreeOrFault : Type 0
NamedTreeOrFault = (r : Reading) (t : NamedTree) (fault : ScenarioFault) → IsNamedTree r t → IsTreeFault r fault → ⊥

-- Tokens that are no scenario have a fault.
abbrev pub NamedTreeElseFault : Type 0
NamedTreeElseFault =
    (r : Reading) → ((t : NamedTree) × IsNamedTree r t) ⊎ ((fault : ScenarioFault) × IsTreeFault r fault)

-- Tokens have one fault at most, at one offset.
abbrev pub OneTreeFault : Type 0
OneTreeFault = (r : Reading) (fault other : ScenarioFault) → IsTreeFault r fault → IsTreeFault r other → fault ≡ other

-- The journal of a scenario: a line for each event, the given events first. ViewText says by it what `journal` prints,
-- and ViewOutput what of it stands without memory.
use Rattle.std.specs.Prelude.{◌≡◌, ◌⊎◌, ℕ, ◌+◌, List, [], ◌∷◌, ◌++◌, length, Bool, true, false, Option, Some, None}
use Rattle.jc_rules.specs.declared.operation.Event.{Event}
use Rattle.jc_rules.specs.declared.rule.Rule.{Rule}
use Rattle.jc_rules.specs.Step.{Network, StepIn}
use Rattle.jc_scenario.specs.WellFormed.{Scenario}
use Rattle.jc_network.specs.Given.{before_given}
use Rattle.jc_rules.specs.State.{State}
use Rattle.jc_effects.specs.Difference.{Differences}
use Rattle.jc_journal.specs.EventLine.{AreEffects, event_line}
use Rattle.jc_journal.specs.StuckLine.{stuck_event_line}
use Rattle.jc_program.specs.Runs.{Made, Stuck, EndsAt, events_of, status_of}

-- ---- lines

-- what is asked for in the lines of events, besides: their rules, and what they changed in their replica's tree
pub record Asked : Type 0 where
  pub rules : Bool
  pub effects : Bool

-- the rules of an event, where they are asked for
abbrev pub rows_asked : Bool → List (Rule × ℕ) → Option (List (Rule × ℕ))
rows_asked false rows = None
rows_asked true rows = Some rows

-- the line of an event with its trace, which led its replica from state A to state B
abbrev pub IsEventLine
    : Asked → Bool → List (List ℕ) → ℕ → Event → List (Rule × ℕ) → State → State → List ℕ → Type 0
IsEventLine asked given names n event rows A B line =
    (effects : Option Differences)
    × AreEffects asked.effects event A B effects
    × (line ≡ event_line names given n event (rows_asked asked.rules rows) effects A B)

-- The network goes to the last one by steps of these events, in order and with these traces. The text has the line of
-- each, by the states of its replica before and after it, numbered from n on.
abbrev pub JournalBy
    : Asked → Bool → List (List ℕ) → ℕ → Network → List Made → Network → List ℕ → Type 0
JournalBy asked given names n network [] last text = (last ≡ network) × (text ≡ [])
JournalBy asked given names n network (m ∷ made) last text =
    (between : Network) × (step : StepIn network m.0 between m.1) × (line rest : List ℕ)
    × IsEventLine asked given names n m.0 m.1 step.step.before step.step.after line
    × JournalBy asked given names (n + 1) between made last rest
    × (text ≡ line ++ rest)

-- the line of the stuck event, whose number is n, if there is one
abbrev pub stuck_part : List (List ℕ) → Bool → ℕ → Network → Option Stuck → List ℕ
stuck_part names given n network None = []
stuck_part names given n network (Some (event, why)) = stuck_event_line names given n network.states why event

-- ---- journals

-- From the network the events are made up to the end or the first stuck one, and lead to the last network. The text is
-- that of their lines, numbered from 1 on.
pub record JournalOf
    (asked : Asked) (given : Bool) (names : List (List ℕ)) (network : Network) (events : List Event)
    (last : Network) (stuck : Option Stuck) (text : List ℕ) : Type 0 where
  pub made : List Made
  pub lines : List ℕ
  pub goes : JournalBy asked given names 1 network made last lines
  pub ends : EndsAt events made last stuck
  pub written : text ≡ lines ++ stuck_part names given (length made + 1) last stuck

-- The journal of a scenario, and its status: that of its given events, and where none of these is stuck, that of its
-- schedule behind it.
pub data Journaled (asked : Asked) (s : Scenario) (out : List ℕ) : ℕ → Type 0 where
  given_stuck : (last : Network) (stuck : Stuck)
      → JournalOf asked true s.names (before_given s) s.given last (Some stuck) out
      → Journaled asked s out 3
  ran : (start last : Network) (stuck : Option Stuck) (first text : List ℕ)
      → JournalOf asked true s.names (before_given s) s.given start None first
      → JournalOf asked false s.names start s.schedule last stuck text
      → out ≡ first ++ text
      → Journaled asked s out (status_of stuck)

-- ---- the lines of some first events

-- The text has the lines of some first events, and there is a next event, whose line it lacks.
pub record JournalStops
    (asked : Asked) (given : Bool) (names : List (List ℕ)) (network : Network) (events : List Event) (text : List ℕ)
    : Type 0 where
  pub made : List Made
  pub next : Event
  pub more : List Event
  pub last : Network
  pub goes : JournalBy asked given names 1 network made last text
  pub are_first : events ≡ events_of made ++ next ∷ more

-- Nothing; or the lines of some first given events of a scenario, but not of all; or those of all, and of some first
-- events of its schedule, but not of all.
abbrev pub IsJournalUnfinished : Asked → Scenario → List ℕ → Type 0
IsJournalUnfinished asked s text =
    (text ≡ [])
    ⊎ JournalStops asked true s.names (before_given s) s.given text
    ⊎ ((start : Network) × (first rest : List ℕ)
    × JournalOf asked true s.names (before_given s) s.given start None first
    × JournalStops asked false s.names start s.schedule rest
    × (text ≡ first ++ rest))

-- About `ScenarioGrammar`: the next symbol decides each choice. Lists are decided by the test of their parts.
use Rattle.std.proofs.Common.{◌≡◌, true, List, [], ◌∷◌, refl}
use Rattle.std.specs.Prelude.{codes, ◌-◌}
use Rattle.jc_rules.specs.declared.limits.TheConstants.{MAX_SELECTORS, MAX_COMMANDS, MAX_REPLICAS, MAX_EVENTS}
use Rattle.jc_rules.specs.declared.version.Version.{Version}
use Rattle.jc_rules.specs.declared.version.Version.TheVariants.{One, Two}
use Rattle.jc_syntax.specs.declared.token.TokenKind.TheVariants.{Semi, BraceR}
use Rattle.jc_grammar.specs.Classes.{Class, any}
use Rattle.jc_grammar.specs.Guards.{no_selector, no_command, no_event, new_replica}
use Rattle.jc_grammar.specs.Grammar.{nothing, repeated}
use Rattle.jc_grammar.specs.LookAhead.{is_decided}
use Rattle.jc_grammar.specs.ScenarioGrammar.{token, keyword, selector, selector_dot, expression, assignment, ending, command, script, event, events, blocks, replica, ScenariosDecided}
use Rattle.jc_grammar.proofs.LookAheadListsLemmas.{listed_decided, chained_decided, repeated_decided}

expression_decided : is_decided expression [] ≡ true
expression_decided = rw (repeated_decided MAX_SELECTORS no_selector selector_dot selector nothing [] refl) refl

-- a command, where these come behind it
abbrev Commands : List Class → Type 0
Commands cs = is_decided command cs ≡ true

last_alone : Commands []
last_alone =
    rw (
      chained_decided MAX_SELECTORS no_selector selector_dot selector assignment ending [] refl,
      repeated_decided MAX_SELECTORS no_selector selector_dot selector nothing [] refl,
    ) refl

alone : Commands (any Semi ∷ [])
alone =
    rw (
      chained_decided MAX_SELECTORS no_selector selector_dot selector assignment ending (any Semi ∷ []) refl,
      repeated_decided MAX_SELECTORS no_selector selector_dot selector nothing (any Semi ∷ []) refl,
    ) refl

last_in_braces : Commands (any BraceR ∷ [])
last_in_braces =
    rw (
      chained_decided MAX_SELECTORS no_selector selector_dot selector assignment ending (any BraceR ∷ []) refl,
      repeated_decided MAX_SELECTORS no_selector selector_dot selector nothing (any BraceR ∷ []) refl,
    ) refl

in_braces : Commands (any Semi ∷ any BraceR ∷ [])
in_braces =
    rw (
      chained_decided MAX_SELECTORS no_selector selector_dot selector assignment ending (any Semi ∷ any BraceR ∷ []) refl,
      repeated_decided MAX_SELECTORS no_selector selector_dot selector nothing (any Semi ∷ any BraceR ∷ []) refl,
    ) refl

script_decided : is_decided script [] ≡ true
script_decided = listed_decided MAX_COMMANDS no_command command (token Semi) [] (rw (alone, last_alone) refl)

pub closed_decided : is_decided script (any BraceR ∷ []) ≡ true
closed_decided =
    listed_decided MAX_COMMANDS no_command command (token Semi) (any BraceR ∷ []) (rw (in_braces, last_in_braces) refl)

event_decided : (v : Version) → is_decided (event v) [] ≡ true
event_decided One = refl
event_decided Two = refl

events_decided : (v : Version) → is_decided (events v) (any BraceR ∷ []) ≡ true
events_decided One = listed_decided MAX_EVENTS no_event (event One) (token Semi) (any BraceR ∷ []) refl
events_decided Two = listed_decided MAX_EVENTS no_event (event Two) (token Semi) (any BraceR ∷ []) refl

replicas_decided : (v : Version)
    → is_decided (repeated (MAX_REPLICAS - 1) (new_replica MAX_REPLICAS) (keyword (codes "replica")) replica (blocks v)) []
    ≡ true
replicas_decided One =
    repeated_decided (MAX_REPLICAS - 1) (new_replica MAX_REPLICAS) (keyword (codes "replica")) replica (blocks One) []
    (rw (closed_decided, events_decided One) refl)
replicas_decided Two =
    repeated_decided (MAX_REPLICAS - 1) (new_replica MAX_REPLICAS) (keyword (codes "replica")) replica (blocks Two) []
    (rw (closed_decided, events_decided Two) refl)

pub scenarios_decided : ScenariosDecided
scenarios_decided =
    (expression_decided, script_decided, event_decided, rw (closed_decided, replicas_decided One, replicas_decided Two) refl)

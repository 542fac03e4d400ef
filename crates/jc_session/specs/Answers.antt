-- What each request leads to and its reply, and the answers of lines: the text of a session is made of these.
use Rattle.std.specs.Prelude.{◌≡◌, ◌≢◌, ℕ, ◌+◌, ◌-◌, ◌≤◌, ◌<◌, List, [], length, slice_get, Option, Some, None, Contains, ◌⊎◌, true, false}
use Rattle.jc_rules.specs.declared.limits.TheConstants.{MAX_EVENTS}
use Rattle.jc_rules.specs.declared.operation.Event.{Event}
use Rattle.jc_rules.specs.declared.refusal.Refusal.{Refusal}
use Rattle.jc_rules.specs.declared.refusal.Refusal.TheVariants as F
use Rattle.jc_rules.specs.declared.rule.Rule.{Rule}
use Rattle.jc_rules.specs.declared.rule.Rule.TheVariants as R
use Rattle.jc_rules.specs.declared.version.Version.{Version}
use Rattle.jc_rules.specs.declared.version.Version.TheVariants.{One, Two}
use Rattle.jc_rules.specs.RuleNames.{rule_name}
use Rattle.jc_rules.specs.Refused.{Cause, IsStuckIn}
use Rattle.jc_rules.specs.WellFormed.{drop}
use Rattle.jc_rules.specs.State.{State}
use Rattle.jc_rules.specs.Step.{Network, StepIn}
use Rattle.jc_syntax.specs.declared.tree.NamedEvent.{NamedEvent}
use Rattle.jc_parser.specs.declared.fault.ScenarioFault.{ScenarioFault}
use Rattle.jc_parser.specs.Faults.{fault_refusal, fault_offset}
use Rattle.jc_parser.specs.Events.{IsEventOf, IsEventFault}
use Rattle.jc_scenario.specs.Resolved.{IsResolved, names_in_event, IsFirstStranger}
use Rattle.jc_scenario.specs.WellFormed.{Scenario}
use Rattle.jc_network.specs.Enabled.{AreEnabled, candidates}
use Rattle.jc_dump.specs.Texts.{refused_text}
use Rattle.jc_debug.specs.declared.breaks.Break.{Break}
use Rattle.jc_debug.specs.declared.breaks.Break.TheVariants as Kind
use Rattle.jc_debug.specs.DebuggerState.{Session, IsNetworkAt, MakesEvent, StuckEvent, GoesTo, IsLeast, RunOutcome, Runs, moved_to, acted, with_break}
use Rattle.jc_meaning.specs.declared.comparison.Comparison.{Comparison}
use Rattle.jc_meaning.specs.declared.comparison.Comparison.TheVariants.{SameOps, DifferentOps}
use Rattle.jc_session.specs.Lines.{Line}
use Rattle.jc_session.specs.Reply as Y
use Rattle.jc_session.specs.Reply.{Reply}
use Rattle.jc_session.specs.Requests as Q
use Rattle.jc_session.specs.Requests.{Request, nothing, asks, bad, meaning}
use Rattle.jc_session.specs.Texts.{refusal_line, reply_text}

-- what no line of a session changes: the replicas' names, and the network at position 0
pub record Origin : Type 0 where
  pub names : List (List ℕ)
  pub start : Network

-- that of a scenario and of the network at its start
abbrev pub origin_of : Scenario → Network → Origin
origin_of s start = record { names = s.names; start = start }

-- the replica of this number has the name
abbrev pub IsNamed : List (List ℕ) → List ℕ → ℕ → Type 0
IsNamed names name p = slice_get names p ≡ Some name

-- no replica has the name
abbrev pub IsStrange : List (List ℕ) → List ℕ → Type 0
IsStrange names name = Contains names name → ⊥

-- a session of the version knows the rule: RECV-ONE is of version 2 alone
abbrev pub Knows : Rule → Version → Type 0
Knows R.RecvOne One = ⊥
Knows R.RecvOne Two = Unit {0}
Knows rule version = Unit {0}

-- The line of a refusal that has a place.
pub record IsRefusalAt (which : Option Refusal) (at : Option ℕ) (text : List ℕ) : Type 0 where
  pub refusal : Refusal
  pub place : ℕ
  pub is_refusal : which ≡ Some refusal
  pub is_place : at ≡ Some place
  pub written : text ≡ refused_text refusal place

-- the line of a text's fault
abbrev pub IsFaultLine : ScenarioFault → List ℕ → Type 0
IsFaultLine fault text = IsRefusalAt (fault_refusal fault) (fault_offset fault) text

-- ---- parts of answers

-- The rest of an `act` line is no event of the version, or it has a name that no replica has. It is refused at this
-- offset.
pub data IsMisspelled (version : Version) (names : List (List ℕ)) (rest : List ℕ) : Refusal → ℕ → Type 0 where
  faulty : {refusal : Refusal} {place : ℕ} (fault : ScenarioFault)
      → IsEventFault version rest fault
      → fault_refusal fault ≡ Some refusal
      → fault_offset fault ≡ Some place
      → IsMisspelled version names rest refusal place
  strange : (named : NamedEvent) (place : ℕ)
      → IsEventOf version rest named
      → IsFirstStranger names (names_in_event named) place
      → IsMisspelled version names rest F.UnknownReplica place

-- the rest of an `act` line is this event of the version
pub record IsEventText (version : Version) (names : List (List ℕ)) (rest : List ℕ) (event : Event) : Type 0 where
  pub named : NamedEvent
  pub is : IsEventOf version rest named
  pub resolved : IsResolved names named event

-- An event is made at the position, where a schedule may be longer than that and the event isn't stuck.
pub data ActsOn (O : Origin) (A : Session) (event : Event) : Session → Reply → Type 0 where
  full : A.position ≡ MAX_EVENTS → ActsOn O A event A (Y.refused F.TooManyEvents)
  stuck : (why : Cause) (network : Network)
      → A.position < MAX_EVENTS
      → IsNetworkAt O.start A.schedule A.position network
      → IsStuckIn network event why
      → ActsOn O A event A (Y.went A.position (Some (event, why)))
  made : (network new : Network) (rows : List (Rule × ℕ))
      → A.position < MAX_EVENTS
      → IsNetworkAt O.start A.schedule A.position network
      → StepIn network event new rows
      → ActsOn O A event (acted A event) (Y.went (A.position + 1) None)

-- A new breakpoint gets the least place that is free.
pub data Sets (A : Session) (b : Break) : Session → Reply → Type 0 where
  set : {j : ℕ}
      → IsLeast (λ i. slice_get A.breaks i ≡ Some None) j
      → Sets A b (with_break A j (Some b)) (Y.set (j + 1))
  none_free : ((j : ℕ) → slice_get A.breaks j ≢ Some None) → Sets A b A (Y.refused F.TooManyBreaks)

-- Two states have applied the same operations, and their trees are the same or not once empty presence sets are
-- dropped; or they have applied different ones.
pub data Compares (C D : State) : Comparison → Type 0 where
  same_tree : C.ops ≡ D.ops → drop C.tree ≡ drop D.tree → Compares C D (SameOps true)
  different_tree : C.ops ≡ D.ops → drop C.tree ≢ drop D.tree → Compares C D (SameOps false)
  different_ops : C.ops ≢ D.ops → Compares C D DifferentOps

-- ---- requests

-- What a request leads to, and its reply. `quit` has none.
pub data Replies (O : Origin) (A : Session) : Request → Session → Reply → Type 0 where
  steps : {n p : ℕ} {end : Option StuckEvent}
      → A.position + n ≤ length A.schedule
      → GoesTo O.start A.schedule A.position (A.position + n) p end
      → Replies O A (Q.step n) (moved_to A p) (Y.went p end)
  steps_past : {n : ℕ}
      → length A.schedule < A.position + n
      → Replies O A (Q.step n) A (Y.refused F.AtEnd)
  goes_back : {n : ℕ}
      → n ≤ A.position
      → Replies O A (Q.back n) (moved_to A (A.position - n)) (Y.went (A.position - n) None)
  back_past : {n : ℕ} → A.position < n → Replies O A (Q.back n) A (Y.refused F.AtStart)
  goes_to : {n p : ℕ} {end : Option StuckEvent}
      → n ≤ length A.schedule
      → GoesTo O.start A.schedule A.position n p end
      → Replies O A (Q.goto n) (moved_to A p) (Y.went p end)
  goes_past : {n : ℕ} → length A.schedule < n → Replies O A (Q.goto n) A (Y.refused F.PastSchedule)
  acts : {rest : List ℕ} {B : Session} {reply : Reply} (event : Event)
      → IsEventText O.start.version O.names rest event
      → ActsOn O A event B reply
      → Replies O A (Q.act rest) B reply
  acts_misspelled : {rest : List ℕ} {refusal : Refusal} {place : ℕ}
      → IsMisspelled O.start.version O.names rest refusal place
      → Replies O A (Q.act rest) A (Y.misspelled refusal place)
  runs : {n : ℕ} {end : RunOutcome}
      → A.position < length A.schedule
      → Runs O.start A n end
      → Replies O A Q.run (moved_to A n) (Y.ran n end)
  runs_past : A.position ≡ length A.schedule → Replies O A Q.run A (Y.refused F.AtEnd)
  breaks_at : {n : ℕ} {B : Session} {reply : Reply}
      → Sets A (Kind.Position n) B reply
      → Replies O A (Q.break_at n) B reply
  breaks_rule : {name : List ℕ} {B : Session} {reply : Reply} (rule : Rule)
      → Knows rule O.start.version
      → rule_name rule ≡ name
      → Sets A (Kind.Rule rule) B reply
      → Replies O A (Q.break_rule name) B reply
  no_rule : {name : List ℕ}
      → ((rule : Rule) → Knows rule O.start.version → rule_name rule ≢ name)
      → Replies O A (Q.break_rule name) A (Y.refused F.BadLine)
  breaks_replica : {name : List ℕ} {B : Session} {reply : Reply} (p : ℕ)
      → IsNamed O.names name p
      → Sets A (Kind.Replica p) B reply
      → Replies O A (Q.break_replica name) B reply
  no_replica : {name : List ℕ}
      → IsStrange O.names name
      → Replies O A (Q.break_replica name) A (Y.refused F.UnknownReplica)
  clears : (j : ℕ) (b : Break)
      → slice_get A.breaks j ≡ Some (Some b)
      → Replies O A (Q.unbreak (j + 1)) (with_break A j None) (Y.cleared (j + 1))
  no_break : {k : ℕ}
      → ((j : ℕ) (b : Break) → k ≡ j + 1 → slice_get A.breaks j ≢ Some (Some b))
      → Replies O A (Q.unbreak k) A (Y.refused F.NoSuchBreak)
  states : (network : Network)
      → IsNetworkAt O.start A.schedule A.position network
      → Replies O A Q.state A (Y.states network.states)
  state_of : {name : List ℕ} (network : Network) (p : ℕ) (C : State)
      → IsNetworkAt O.start A.schedule A.position network
      → IsNamed O.names name p
      → slice_get network.states p ≡ Some C
      → Replies O A (Q.state_of name) A (Y.state_of name C)
  no_state : {name : List ℕ}
      → IsStrange O.names name
      → Replies O A (Q.state_of name) A (Y.refused F.UnknownReplica)
  traces : {n : ℕ} {event : Event} {rows : List (Rule × ℕ)}
      → A.position ≡ n + 1
      → MakesEvent O.start A.schedule n event rows
      → Replies O A Q.trace A (Y.traced (n + 1) event rows)
  at_start : A.position ≡ 0 → Replies O A Q.trace A Y.at_start
  enables : (network : Network) (events : List Event)
      → IsNetworkAt O.start A.schedule A.position network
      → AreEnabled network (candidates network) events
      → Replies O A Q.enabled A (Y.enabled events)
  lists : Replies O A Q.schedule A (Y.scheduled A.schedule)
  tells : Replies O A Q.position A (Y.stands A.position (length A.schedule))
  compares : {name other : List ℕ} {found : Comparison} (network : Network) (p q : ℕ) (C D : State)
      → IsNetworkAt O.start A.schedule A.position network
      → IsNamed O.names name p
      → IsNamed O.names other q
      → slice_get network.states p ≡ Some C
      → slice_get network.states q ≡ Some D
      → Compares C D found
      → Replies O A (Q.compare name other) A (Y.compared found)
  no_compared : {name other : List ℕ}
      → IsStrange O.names name ⊎ IsStrange O.names other
      → Replies O A (Q.compare name other) A (Y.refused F.UnknownReplica)

-- ---- lines

-- The session goes on after the line, with this answer. A line of no word has an empty one, and `quit` has none.
pub data LineAnswer (O : Origin) (A : Session) (l : Line) : Session → List ℕ → Type 0 where
  empty : meaning l ≡ nothing → LineAnswer O A l A []
  refused : meaning l ≡ bad → LineAnswer O A l A (refusal_line F.BadLine)
  replies : {B : Session} {reply : Reply} (request : Request)
      → meaning l ≡ asks request
      → Replies O A request B reply
      → LineAnswer O A l B (reply_text O.names reply)

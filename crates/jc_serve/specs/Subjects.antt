-- What a text is to `serve`, and the answers about it as a whole.
use Rattle.std.specs.Prelude.{◌≡◌, ℕ, ◌<◌, List, [], ◌++◌, length, sum_by, Bool, true, false, Some, codes}
use Rattle.jc_rules.specs.declared.operation.Event.{Event}
use Rattle.jc_rules.specs.declared.refusal.Refusal.{Refusal}
use Rattle.jc_rules.specs.declared.refusal.Refusal.TheVariants.{Unexpected, EndOfText, GivenStuck}
use Rattle.jc_rules.specs.Refused.{Cause}
use Rattle.jc_rules.specs.Step.{Network}
use Rattle.jc_parser.specs.declared.fault.ScenarioFault.{ScenarioFault}
use Rattle.jc_parser.specs.Faults.{fault_refusal, fault_offset}
use Rattle.jc_scenario.specs.Faults.{IsFault}
use Rattle.jc_scenario.specs.WellFormed.{Scenario, IsScenario}
use Rattle.jc_network.specs.Given.{IsStart}
use Rattle.jc_answers.specs.JsonTexts.{NamedText, number_member, text_member, object_text}
use Rattle.jc_answers.specs.Refusals.{refused_object, refusal_members, IsRefusedTextWith}
use Rattle.jc_expected.specs.Expected.{IsExpected}
use Rattle.jc_listings.specs.Journals.{stuck_line_behind}
use Rattle.jc_serve.specs.Marks.{Served, new_served}
use Rattle.jc_listings.specs.Positions.{StopsAt}

-- A given event that is stuck: how many are made before it, and the network to which they lead.
pub record GivenStop (s : Scenario) : Type 0 where
  pub count : ℕ
  pub network : Network
  pub event : Event
  pub why : Cause
  pub stops : StopsAt s s.schedule count network event why

-- A text is no scenario, for this fault; or one of which a given event is stuck; or one with a session, from its start.
pub data Subject : Type 0 where
  no_scenario : ScenarioFault → Subject
  stuck_given : (s : Scenario) → GivenStop s → Subject
  served : Scenario → Network → Served → Subject

-- what a text is, before anything is asked
pub data IsSubject (text : List ℕ) : Subject → Type 0 where
  is_refused : {fault : ScenarioFault} → IsFault text fault → IsSubject text (no_scenario fault)
  is_stuck : {s : Scenario} (stop : GivenStop s)
      → IsScenario text s
      → stop.count < length s.given
      → IsSubject text (stuck_given s stop)
  is_served : {s : Scenario} {start : Network}
      → IsScenario text s
      → IsStart s start
      → IsSubject text (served s start (new_served s.schedule))

-- ---- answers about a text as a whole

-- The refusals of a token that doesn't fit, and of a text that ends too early.
abbrev pub tells_expected : Refusal → Bool
tells_expected Unexpected = true
tells_expected EndOfText = true
tells_expected refusal = false

-- the member of what could stand at the offset, where it is there
abbrev pub IsExpectedMember : List ℕ → ℕ → Bool → List NamedText → Type 0
IsExpectedMember text place true more =
    (list : List ℕ) × IsExpected text place list × (more ≡ text_member (codes "expected") list)
IsExpectedMember text place false more = more ≡ []

-- the answer that refuses a scenario's text at an offset
pub record IsTextAnswer (text : List ℕ) (refusal : Refusal) (place : ℕ) (answer : List ℕ) : Type 0 where
  pub more : List NamedText
  pub expected : IsExpectedMember text place (tells_expected refusal) more
  pub written : IsRefusedTextWith more text refusal place answer

-- why the text is refused
pub record IsFaultAnswer (text : List ℕ) (fault : ScenarioFault) (answer : List ℕ) : Type 0 where
  pub refusal : Refusal
  pub place : ℕ
  pub is_refusal : fault_refusal fault ≡ Some refusal
  pub is_place : fault_offset fault ≡ Some place
  pub written : IsTextAnswer text refusal place answer

-- the journal's line of the given event that is stuck
abbrev pub stuck_line_of : (s : Scenario) → GivenStop s → List ℕ
stuck_line_of s stop = stuck_line_behind s stop.count stop.network stop.why stop.event

-- that a given event is stuck
abbrev pub given_stuck_answer : (s : Scenario) → GivenStop s → List ℕ
given_stuck_answer s stop = refused_object (refusal_members GivenStuck ++ text_member (codes "stuck") (stuck_line_of s stop))

abbrev pub command_count : Scenario → ℕ
command_count s = sum_by (λ script. length script) s.scripts

-- how much there is of the scenario
abbrev pub counts_answer : Scenario → List NamedText → List ℕ
counts_answer s stuck =
    object_text (
    number_member (codes "commands") (command_count s) ++ number_member (codes "events") (length s.schedule)
    ++ number_member (codes "given") (length s.given) ++ number_member (codes "replicas") (length s.names)
    ++ stuck)

-- the answer to the request that brought the text
abbrev pub IsCounts : List ℕ → Subject → List ℕ → Type 0
IsCounts text (no_scenario fault) answer = IsFaultAnswer text fault answer
IsCounts text (stuck_given s stop) answer = answer ≡ counts_answer s (text_member (codes "stuck") (stuck_line_of s stop))
IsCounts text (served s start A) answer = answer ≡ counts_answer s []

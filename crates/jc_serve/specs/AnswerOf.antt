-- What texts, requests and answers mean for values in memory: the contracts of subjects, answers and runs cite it.
use Rattle.std.specs.Prelude.{◌≡◌, ℕ, ◌<◌, ◌≤◌, List, [], ◌∷◌, ◌++◌, false, length, take, slice_get, Option, Some, None, Result, Ok, Err, alloc_error}
use Rattle.std.specs.declared.alloc.AllocError.{AllocError}
use Rattle.std.specs.declared.alloc.Global.{Global}
use Rattle.std.specs.declared.vec.Vec.{Vec}
use Rattle.jc_rules.specs.declared.limits.TheConstants.{MAX_EVENTS}
use Rattle.jc_rules.specs.declared.operation.Event.{Event}
use Rattle.jc_rules.specs.declared.refusal.Refusal.{Refusal}
use Rattle.jc_rules.specs.declared.rule.Rule.{Rule}
use Rattle.jc_rules.specs.Refused.{Cause}
use Rattle.jc_rules.specs.Step.{Network, StepIn}
use Rattle.jc_parser.specs.declared.fault.ScenarioFault.{ScenarioFault}
use Rattle.jc_scenario.specs.Views.{scenario_view}
use Rattle.jc_scenario.specs.WellFormed.{Scenario, IsScenario, IsWellFormedScenario}
use Rattle.jc_network.specs.Steps.{stuck_for}
use Rattle.jc_debug.specs.DebuggerState.{IsNetworkAt}
use Rattle.jc_debug.specs.Invariant.{Seen, start_of}
use Rattle.jc_session.specs.Requests as Q
use Rattle.jc_session.specs.Requests.{Request}
use Rattle.jc_requests.specs.Asked as K
use Rattle.jc_requests.specs.Asked.{Asked, Position}
use Rattle.jc_answers.specs.Refusals.{refusal_answer}
use Rattle.jc_replies.specs.AnswerOf.{background_of}
use Rattle.jc_replies.specs.ReplyTexts.{stuck_member, move_answer}
use Rattle.jc_looks.specs.declared.fault.LookFault.{LookFault}
use Rattle.jc_looks.specs.declared.fault.LookFault.TheVariants as F
use Rattle.jc_looks.specs.declared.looks.Look.{Look}
use Rattle.jc_looks.specs.Looks.{ShowsLook}
use Rattle.jc_listings.specs.declared.journals.Details.{Details}
use Rattle.jc_listings.specs.Journals.{IsMadeLine}
use Rattle.jc_listings.specs.Positions.{count_of, count_at, IsAt}
use Rattle.jc_serve.specs.declared.served.Served.{Served as AnyServed}
use Rattle.jc_serve.specs.declared.stuck.GivenStop.{GivenStop as AnyGivenStop}
use Rattle.jc_serve.specs.declared.subjects.Subject.{Subject as AnySubject}
use Rattle.jc_serve.specs.declared.subjects.Subject.TheVariants as S
use Rattle.jc_serve.specs.Answers.{position_in, IsOfText, AnswersServed, AnswersStuck, AnswersRefused, AnswersAbout, SetsMark}
use Rattle.jc_serve.specs.Asking.{IsLookRequest}
use Rattle.jc_serve.specs.InMemory.{state_of, IsServing}
use Rattle.jc_serve.specs.Marks.{Mark, Served, moved_to}
use Rattle.jc_serve.specs.Subjects.{Subject, IsSubject, GivenStop, no_scenario, stuck_given, served, IsFaultAnswer, given_stuck_answer}

-- ---- parts of a session

-- the same with another debugger beside
abbrev pub with_aside : AnyServed → Seen → AnyServed
with_aside x d = record x { aside = d }

-- the same with another debugger at the session's position
abbrev pub with_here : AnyServed → Seen → AnyServed
with_here x d = record x { here = d }

-- some scenario and start are those of the session
abbrev pub IsInService : AnyServed → Type 0
IsInService x = (s : Scenario) × (start : Network) × IsServing s start x

-- The request leads from the one to the other, and this is its answer.
abbrev pub LeadsTo : List ℕ → AnyServed → Asked → AnyServed → List ℕ → Type 0
LeadsTo text old request new answer =
    (s : Scenario) (start : Network)
    → IsServing s start old
    → AnswersServed text s start (state_of old) request (state_of new) answer
    × IsServing s start new

-- The breakpoint is set, or there is no place for it, and this is the answer.
abbrev pub SetsIn : AnyServed → Mark → AnyServed → List ℕ → Type 0
SetsIn old b new answer =
    (s : Scenario) (start : Network)
    → IsServing s start old
    → SetsMark (state_of old) b (state_of new) answer
    × IsServing s start new

-- What is shown is this answer, and the session is where it was.
abbrev pub ShowsIn : (Scenario → Served → List ℕ → Type 0) → AnyServed → AnyServed → List ℕ → Type 0
ShowsIn shows old new answer =
    (s : Scenario) (start : Network)
    → IsServing s start old
    → shows s (state_of old) answer
    × (state_of new ≡ state_of old)
    × IsServing s start new

-- the same, but the session's position may be another
abbrev pub ShowsBy : (Scenario → Served → List ℕ → Type 0) → AnyServed → AnyServed → List ℕ → Type 0
ShowsBy shows old new answer =
    (s : Scenario) (start : Network)
    → IsServing s start old
    → shows s (state_of old) answer
    × ((n : ℕ) × (state_of new ≡ moved_to (state_of old) n))
    × IsServing s start new

-- So many events lead to the network, of which the look shows this.
pub record ShowsAt (s : Scenario) (schedule : List Event) (count : ℕ) (look : Look) (answer : List ℕ) : Type 0 where
  pub network : Network
  pub is_at : IsAt s schedule count network
  pub shows : ShowsLook s.names network.states look answer

-- The line of the event that led to the position of one debugger, before which the other is.
pub record IsLineHere (details : Details) (aside here : Seen) (text : List ℕ) : Type 0 where
  pub event : Event
  pub rows : List (Rule × ℕ)
  pub is_at : IsNetworkAt (start_of aside) aside.schedule (length aside.traces) aside.net.history.now
  pub is : slice_get here.schedule (length aside.traces) ≡ Some event
  pub step : StepIn aside.net.history.now event here.net.history.now rows
  pub line : IsMadeLine details here.net.names (false, length here.traces) event rows step.step.before step.step.after text

-- A debugger's schedule was cut behind n events, and ends with another one.
pub record IsFollowed (old new : Seen) (n : ℕ) (event : Event) : Type 0 where
  pub names : new.net.names ≡ old.net.names
  pub start : start_of new ≡ start_of old
  pub schedule : new.schedule ≡ take n old.schedule ++ event ∷ []

-- the answer of a move that ended at the debugger's position, where an event is stuck
abbrev pub stopped_answer : List Event → Seen → Cause → Event → List ℕ
stopped_answer given d why event =
    move_answer (background_of given d) (length d.traces) []
    (stuck_member (background_of given d) (length d.traces) why event)

-- a request that makes an event of the caller's
abbrev pub IsAct : Request → Type 0
IsAct (Q.act rest) = Unit {0}
IsAct request = ⊥

-- no more events are asked for than a schedule may have
abbrev pub IsWithinLimit : Asked → Type 0
IsWithinLimit (K.weave seed limit) = limit ≤ MAX_EVENTS
IsWithinLimit request = Unit {0}

-- a request about the scenario as a whole, or about breakpoints, which a session doesn't have
abbrev pub IsOfWhole : Asked → Type 0
IsOfWhole K.places = Unit {0}
IsOfWhole K.print = Unit {0}
IsOfWhole K.back_run = Unit {0}
IsOfWhole (K.break_op counter name) = Unit {0}
IsOfWhole (K.break_place name expression) = Unit {0}
IsOfWhole K.breaks = Unit {0}
IsOfWhole (K.weave seed limit) = Unit {0}
IsOfWhole request = ⊥

-- a refusal is an answer too
abbrev pub answer_in : Result (Vec ℕ Global) LookFault → Result (Vec ℕ Global) AllocError
answer_in (Ok answer) = Ok answer
answer_in (Err (F.Refused answer)) = Ok answer
answer_in (Err F.Memory) = Err alloc_error

-- ---- positions that may not be there

-- why a position isn't there, as an answer
abbrev pub IsNowhereAnswer : Scenario → List Event → Position → List ℕ → Type 0
IsNowhereAnswer s schedule at answer =
    (refusal : Refusal) × (count_of s schedule at ≡ Err refusal) × (answer ≡ refusal_answer refusal)

-- the same of a position that may be the one here, which is there
abbrev pub AnswersNowhere : Scenario → List Event → ℕ → Option Position → List ℕ → Type 0
AnswersNowhere s schedule position at answer =
    (refusal : Refusal) × (count_at s schedule position at ≡ Err refusal) × (answer ≡ refusal_answer refusal)

-- so many events lead to the position, none of which is stuck
abbrev pub IsReachedBy : (s : Scenario) → GivenStop s → Option Position → ℕ → Type 0
IsReachedBy s stop at count =
    (p : Position) × (at ≡ Some p) × (count_of s s.schedule p ≡ Ok count) × (count ≤ stop.count)

-- What is answered where no position is asked for, or one that isn't there, or isn't reached.
pub data IsUnreached (s : Scenario) (stop : GivenStop s) (at : Option Position) : List ℕ → Type 0 where
  here : at ≡ None → IsUnreached s stop at (given_stuck_answer s stop)
  nowhere : {p : Position} {refusal : Refusal}
      → at ≡ Some p
      → count_of s s.schedule p ≡ Err refusal
      → IsUnreached s stop at (refusal_answer refusal)
  behind : {p : Position} {count : ℕ}
      → at ≡ Some p
      → count_of s s.schedule p ≡ Ok count
      → stop.count < count
      → IsUnreached s stop at (given_stuck_answer s stop)

-- What a look is answered where a given event is stuck.
pub data IsStopLook (s : Scenario) (stop : GivenStop s) (at : Option Position) (look : Look) : List ℕ → Type 0 where
  refuses : {answer : List ℕ} → IsUnreached s stop at answer → IsStopLook s stop at look answer
  shows : {count : ℕ} {answer : List ℕ}
      → IsReachedBy s stop at count
      → ShowsAt s s.schedule count look answer
      → IsStopLook s stop at look answer

-- it is neither about the text as a whole nor about a position
abbrev pub IsPlain : Asked → Type 0
IsPlain request = (IsLookRequest request → ⊥) × (position_in request ≡ None) × (IsOfText request → ⊥)

-- ---- subjects

-- The scenario of which a given event is stuck.
pub record IsStopped (s : Scenario) (stop : GivenStop s) (x : AnyGivenStop) : Type 0 where
  pub scenario : scenario_view x.scenario ≡ s
  pub formed : IsWellFormedScenario s
  pub given : stop.count < length s.given
  pub count : x.count ≡ stop.count
  pub names : x.net.names ≡ s.names
  pub network : x.net.history.now ≡ stop.network
  pub stuck : x.stuck ≡ stuck_for stop.why stop.event

-- a given event of some scenario is stuck
abbrev pub IsSomeStop : AnyGivenStop → Type 0
IsSomeStop x = (s : Scenario) × (stop : GivenStop s) × IsStopped s stop x

-- The request is answered so, where a given event is stuck.
abbrev pub AnswersStop : List ℕ → AnyGivenStop → Asked → List ℕ → Type 0
AnswersStop text x request answer =
    (s : Scenario) (stop : GivenStop s)
    → IsScenario text s
    → IsStopped s stop x
    → AnswersStuck text s stop request answer

-- it is so of the scenario
abbrev pub IsOfStop : ((s : Scenario) → GivenStop s → List ℕ → Type 0) → AnyGivenStop → List ℕ → Type 0
IsOfStop is x answer = (s : Scenario) (stop : GivenStop s) → IsStopped s stop x → is s stop answer

-- the value in memory is this subject, of this text
abbrev pub IsSubjectOf : List ℕ → Subject → AnySubject → Type 0
IsSubjectOf text (no_scenario fault) (S.NoScenario why) = IsFaultAnswer text fault why.items
IsSubjectOf text (stuck_given s stop) (S.StuckGiven x) = IsScenario text s × IsStopped s stop x
IsSubjectOf text (served s start A) (S.Served x) = IsScenario text s × IsServing s start x × (state_of x ≡ A)
IsSubjectOf text _ _ = ⊥

-- the value is what the text is, before anything is asked
abbrev pub IsNewFor : List ℕ → AnySubject → Type 0
IsNewFor text x = (subject : Subject) × IsSubject text subject × IsSubjectOf text subject x

-- it is some subject of the text
abbrev pub IsHeldFor : List ℕ → AnySubject → Type 0
IsHeldFor text x = (subject : Subject) × IsSubjectOf text subject x

-- The request is answered so, where the text is refused by the first answer.
abbrev pub AnswersRefusedBy : List ℕ → Asked → List ℕ → Type 0
AnswersRefusedBy why request answer =
    (text : List ℕ) (fault : ScenarioFault) → IsFaultAnswer text fault why → AnswersRefused text fault request answer

-- The request leads from the one to the other, and this is its answer.
abbrev pub AnswersOn : List ℕ → AnySubject → Asked → AnySubject → List ℕ → Type 0
AnswersOn text old request new answer =
    (subject : Subject)
    → IsSubjectOf text subject old
    → (next : Subject) × AnswersAbout text subject request next answer × IsSubjectOf text next new

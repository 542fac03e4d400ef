-- Of `Subjects` and `AnswerOf`: what a text is, before anything is asked.
use Rattle.std.proofs.Common.{◌≡◌, ℕ, ◌-◌, ◌<◌, List, [], length, take, replicate, codes, true, false, Some, None, Vec, Global, ◌≢◌, refl, sym, ap, subst, ◌∙◌, arith}
use Rattle.std.proofs.lemmas.Option.{slice_get_within}
use Rattle.jc_rules.specs.declared.limits.TheConstants.{MAX_BREAKS}
use Rattle.jc_rules.specs.declared.operation.Event.{Event}
use Rattle.jc_rules.specs.declared.refusal.Refusal.{Refusal}
use Rattle.jc_rules.specs.Step.{AfterIn}
use Rattle.jc_rules.proofs.VersionLemmas.{one_after_in}
use Rattle.jc_parser.specs.declared.fault.ScenarioFault.{ScenarioFault}
use Rattle.jc_parser.specs.declared.fault.ScenarioFault.TheVariants as ScenarioFaults
use Rattle.jc_parser.specs.Faults.{fault_refusal}
use Rattle.jc_scenario.specs.Faults.{IsFault}
use Rattle.jc_scenario.specs.Views.{scenario_view}
use Rattle.jc_scenario.specs.WellFormed.{Scenario, IsScenario, IsWellFormedScenario}
use Rattle.jc_network.specs.declared.fault.Stuck.{Stuck}
use Rattle.jc_network.specs.Given.{before_given, IsStart, IsStarted, IsGivenFault}
use Rattle.jc_debug.specs.DebuggerState.{Session, new_session}
use Rattle.jc_debug.specs.Invariant.{start_of, session_of}
use Rattle.jc_debug.proofs.RepliesLemmas.{begun_at}
use Rattle.jc_serve.specs.declared.served.Served.{Served as AnyServed}
use Rattle.jc_serve.specs.declared.stuck.GivenStop.{GivenStop as AnyGivenStop}
use Rattle.jc_serve.specs.declared.subjects.Subject.TheVariants as S
use Rattle.jc_serve.specs.AnswerOf.{IsSomeStop, IsSubjectOf, IsNewFor}
use Rattle.jc_serve.specs.InMemory.{marks_of, state_of, IsServing}
use Rattle.jc_serve.specs.Marks.{new_served}
use Rattle.jc_answers.specs.JsonTexts.{NamedText, text_member}
use Rattle.jc_answers.specs.Refusals.{IsRefusedTextWith, IsRefusedText}
use Rattle.jc_expected.specs.Expected.{IsExpected}
use Rattle.jc_serve.specs.Subjects.{Subject, GivenStop, no_scenario, stuck_given, served, is_refused, is_stuck, is_served, tells_expected, IsTextAnswer, IsFaultAnswer, counts_answer, IsCounts}
use Rattle.jc_serve.proofs.PositionsLemmas.{get_within, at_given}

-- ---- where a text is refused

pub misfit_told : (text : List ℕ) (refusal : Refusal) (place : ℕ) (answer : List ℕ) → tells_expected refusal ≡ true
    → (list : List ℕ) × IsExpected text place list × IsRefusedTextWith (text_member (codes "expected") list) text refusal place answer
    → IsTextAnswer text refusal place answer
misfit_told text refusal place answer is (list, expected, written) =
    record { more = text_member (codes "expected") list; expected = rw is (list, expected, refl); written = written }

pub other_told : (text : List ℕ) (refusal : Refusal) (place : ℕ) (answer : List ℕ) → tells_expected refusal ≡ false → IsRefusedText text refusal place answer → IsTextAnswer text refusal place answer
other_told text refusal place answer is written = record { more = []; expected = rw is refl; written = written }

-- no answer says that there was no memory
pub no_memory : (text : List ℕ) (fault : ScenarioFault) (answer : List ℕ) → IsFaultAnswer text fault answer → fault ≢ ScenarioFaults.Memory
no_memory text fault answer h e = none_is_some (ap fault_refusal (sym e) ∙ h.is_refusal)
  where
    none_is_some : None ≡ Some h.refusal → ⊥
    none_is_some k = cc

pub refused_new : (text : List ℕ) (fault : ScenarioFault) (why : Vec ℕ Global) → IsFault text fault → IsFaultAnswer text fault why.items → IsNewFor text (S.NoScenario why)
refused_new text fault why is says = (no_scenario fault, is_refused is, says)

pub counts_refused : (why : Vec ℕ Global) (answer : List ℕ) → answer ≡ why.items → (text : List ℕ) (H : Subject) → IsSubjectOf text H (S.NoScenario why) → IsCounts text H answer
counts_refused why answer is text (no_scenario fault) h = subst (λ (a : List ℕ). IsFaultAnswer text fault a) (sym is) h
counts_refused why answer is text (stuck_given s stop) h = absurd h
counts_refused why answer is text (served s start A) h = absurd h

-- ---- where a given event is stuck

module _ (s : Scenario) (at : ℕ) (stuck : Stuck) (h : IsGivenFault (before_given s) s.given at stuck) where
  low : h.stuck.before < length s.given
  low = slice_get_within s.given h.stuck.before h.event h.stuck.is

  before_it : at - 1 ≡ h.stuck.before
  before_it = let number = h.stuck.at_is in omega (arith, number)

  abbrev stop : GivenStop s
  stop =
      let lt = low in
      record {
        count = h.stuck.before;
        network = h.stuck.network;
        event = h.event;
        why = h.why;
        stops = record {
          is_at = at_given s s.schedule h.stuck.before h.stuck.network (omega (arith, lt)) h.stuck.led;
          is = get_within s.given s.schedule h.stuck.before h.event h.stuck.is;
          stuck = h.stuck.stuck;
        };
      }

  pub new_stop : (x : AnyGivenStop)
      → IsWellFormedScenario s
      → scenario_view x.scenario ≡ s
      → x.count ≡ at - 1
      → x.net.names ≡ s.names
      → AfterIn (before_given s) (take (at - 1) s.given) x.net.history.now
      → x.stuck ≡ stuck
      → (text : List ℕ) → IsScenario text s → IsNewFor text (S.StuckGiven x)
  new_stop x formed same count names led told text is =
      let there : AfterIn (before_given s) (take h.stuck.before s.given) x.net.history.now =
      subst (λ (n : ℕ). AfterIn (before_given s) (take n s.given) x.net.history.now) before_it led in (
        stuck_given s stop,
        is_stuck stop is low,
        (
          is,
          record {
            scenario = same;
            formed = formed;
            given = low;
            count = count ∙ before_it;
            names = names;
            network = one_after_in (before_given s) (take h.stuck.before s.given) x.net.history.now h.stuck.network there h.stuck.led;
            stuck = told ∙ h.is;
          },
        ),
      )

-- ---- where there is a session

pub new_session_for : (s : Scenario) (x : AnyServed)
    → scenario_view x.scenario ≡ s
    → IsWellFormedScenario s
    → IsStarted s x.here.net
    → session_of x.here ≡ new_session s.schedule
    → IsStarted s x.aside.net
    → session_of x.aside ≡ new_session s.schedule
    → marks_of x.marks.items ≡ replicate MAX_BREAKS None
    → length x.marks.items ≡ MAX_BREAKS
    → (text : List ℕ) → IsScenario text s → IsNewFor text (S.Served x)
new_session_for s x same formed here now aside beside none many text is =
    let start = start_of x.here in
    let starts : IsStart s start = begun_at x.here s here in
    let others : IsStart s (start_of x.aside) = begun_at x.aside s aside in
    let schedule : x.here.schedule ≡ s.schedule = ap (λ (A : Session). A.schedule) now in
    let position : length x.here.traces ≡ 0 = ap (λ (A : Session). A.position) now in
    let other : x.aside.schedule ≡ s.schedule = ap (λ (A : Session). A.schedule) beside in
    let serving : IsServing s start x = record {
      scenario = same;
      formed = formed;
      starts = starts;
      here = record { names = here.names; is_start = refl };
      no_breaks = ap (λ (A : Session). A.breaks) now;
      aside = record { names = aside.names; is_start = one_after_in (before_given s) s.given (start_of x.aside) start others starts };
      same = other ∙ sym schedule;
      current = subst (λ (es : List Event). IsWellFormedScenario (record s { schedule = es })) (sym schedule) formed;
      places = many;
    } in
    let state : state_of x ≡ new_served s.schedule = λ i. record { schedule = schedule i; position = position i; marks = none i } in
    (served s start (new_served s.schedule), is_served is starts, (is, serving, state))

-- ---- what is held

-- one of which a given event is stuck is so of some scenario
pub held_stop : (text : List ℕ) (H : Subject) (y : AnyGivenStop) → IsSubjectOf text H (S.StuckGiven y) → IsSomeStop y
held_stop text (no_scenario fault) y h = absurd h
held_stop text (stuck_given s stop) y h = (s, stop, h.1)
held_stop text (served s start A) y h = absurd h

pub counts_served : (text : List ℕ) (x : AnyServed) (beside : List NamedText) (answer : List ℕ) → beside ≡ [] → answer ≡ counts_answer (scenario_view x.scenario) beside → (H : Subject) → IsSubjectOf text H (S.Served x) → IsCounts text H answer
counts_served text x beside answer none is (no_scenario fault) h = absurd h
counts_served text x beside answer none is (stuck_given s stop) h = absurd h
counts_served text x beside answer none is (served s start A) h = is ∙ (λ i. counts_answer (h.1.scenario i) (none i))

-- Of `Asking` and jc_listings' `Journals`: what is shown at other positions of a session.
use Rattle.std.proofs.Common.{◌≡◌, ℕ, suc, ◌+◌, ◌-◌, ◌<◌, false, true, Bool, nat_lt, if◌then◌else◌, List, [], length, take, slice_get, Some, refl, sym, ap, subst, ◌∙◌, arith}
use Rattle.std.proofs.lemmas.Option.{slice_get_within}
use Rattle.jc_rules.specs.declared.operation.Event.{Event}
use Rattle.jc_rules.specs.declared.rule.Rule.{Rule}
use Rattle.jc_rules.specs.Refused.{Cause}
use Rattle.jc_rules.specs.Step.{Network, StepIn, AfterIn}
use Rattle.jc_printer.specs.Canon.{AreNamed}
use Rattle.jc_scenario.specs.WellFormed.{Scenario}
use Rattle.jc_network.specs.declared.fault.Stuck.{Stuck}
use Rattle.jc_network.specs.Steps.{stuck_for}
use Rattle.jc_network.proofs.AfterLemmas.{after_one_more, take_more}
use Rattle.jc_dump.specs.Lines.{IsNamedStuck}
use Rattle.jc_debug.specs.DebuggerState.{IsNetworkAt}
use Rattle.jc_debug.specs.Invariant.{Seen, IsDebugger, start_of}
use Rattle.jc_debug.specs.Moves.{IsToldAt, IsTraceOf}
use Rattle.jc_debug.proofs.InvariantLemmas.{is_at}
use Rattle.jc_debug.proofs.LawsLemmas.{one_network}
use Rattle.jc_session.specs.AnswerOf.{IsReply}
use Rattle.jc_session.specs.declared.replies.Reply.TheVariants as R
use Rattle.jc_session.specs.Reply as Y
use Rattle.jc_session.specs.Reply.{Reply}
use Rattle.jc_session.proofs.AnswerOfLemmas.{of_all}
use Rattle.jc_replies.specs.AnswerOf.{background_of}
use Rattle.jc_replies.specs.ReplyTexts.{stuck_member, move_answer, IsAnswer}
use Rattle.jc_listings.specs.declared.journals.Details.{Details}
use Rattle.jc_listings.specs.Journals.{IsMadeLine, IsLineBehind}
use Rattle.jc_listings.specs.Positions.{background, number_behind, unreached_answer, StopsAt}
use Rattle.jc_serve.specs.declared.served.Served.{Served as AnyServed}
use Rattle.jc_serve.specs.AnswerOf.{IsLineHere, stopped_answer}
use Rattle.jc_serve.specs.InMemory.{IsDebuggerOf, IsServing, IsBehind}
use Rattle.jc_serve.proofs.PositionsLemmas.{at_schedule, stops_at, get_behind}
use Rattle.jc_choice.proofs.ChosenNamesLemmas.{below}

-- ---- events that are stuck

-- the answer of a move that ended there is that of its reply
pub stopped_so : (given : List Event) (d : Seen) (text : List ℕ) (n : ℕ) (stuck : Stuck) (answer : List ℕ)
    → n ≡ length d.traces
    → ((r : Reply) → IsReply d (R.Stuck n stuck) r → IsAnswer (background_of given d) text r answer)
    → (why : Cause) (event : Event) → stuck ≡ stuck_for why event → answer ≡ stopped_answer given d why event
stopped_so given d text n stuck answer at h why event is =
    h (Y.went n (Some (event, why))) (why, event, is, refl)
    ∙ ap (λ (m : ℕ). move_answer (background_of given d) m [] (stuck_member (background_of given d) m why event)) at

-- an event on the way to a count of events is stuck, and this is the answer
pub record StopsBefore (s : Scenario) (events : List Event) (count : ℕ) (answer : List ℕ) : Type 0 where
  pub stop : ℕ
  pub network : Network
  pub event : Event
  pub why : Cause
  pub before : stop < count
  pub stops : StopsAt s events stop network event why
  pub is : answer ≡ unreached_answer s events stop network why event

module _ (s : Scenario) (start : Network) (x : AnyServed) (v : IsServing s start x) (d : Seen) (of : IsDebuggerOf s start d) (same : d.schedule ≡ x.here.schedule) where
  -- the event that is stuck names replicas
  pub stuck_is_named : (n : ℕ) (stuck : Stuck) → IsToldAt start x.here.schedule n stuck → IsNamedStuck d.net.names stuck
  stuck_is_named n stuck told = record {
    why = told.why;
    event = told.event;
    is = told.is;
    named = subst (λ (ns : List (List ℕ)). AreNamed told.event (length ns)) (sym of.names) (of_all (λ e. AreNamed e (length s.names)) x.here.schedule n told.event v.current.known told.stuck.is);
  }

  here_at : IsDebugger d → IsNetworkAt start x.here.schedule (length d.traces) d.net.history.now
  here_at trail =
      subst (λ (es : List Event). IsNetworkAt start es (length d.traces) d.net.history.now) same
      (subst (λ (S : Network). IsNetworkAt S d.schedule (length d.traces) d.net.history.now) of.is_start (is_at d trail))

  pub stopped_there : (n : ℕ) (stuck : Stuck) (answer : List ℕ)
      → IsDebugger d
      → length d.traces < n
      → IsToldAt start x.here.schedule (length d.traces) stuck
      → ((why : Cause) (event : Event) → stuck ≡ stuck_for why event → answer ≡ stopped_answer x.scenario.given.items d why event)
      → StopsBefore s x.here.schedule (length s.given + n) answer
  stopped_there n stuck answer trail lt told h =
      let there : told.stuck.before ≡ d.net.history.now = one_network start x.here.schedule (length d.traces) told.stuck.before d.net.history.now told.stuck.is_at (here_at trail) in
      let given : x.scenario.given.items ≡ s.given = ap (λ (t : Scenario). t.given) v.scenario in
      let count : length d.traces ≡ (length s.given + length d.traces) - length s.given = omega arith in
      let shown : background_of x.scenario.given.items d ≡ background s x.here.schedule d.net.history.now.states =
      λ i. record { names = of.names i; given = given i; schedule = same i; states = d.net.history.now.states } in
      record {
        stop = length s.given + length d.traces;
        network = d.net.history.now;
        event = told.event;
        why = told.why;
        before = omega (arith, lt);
        stops = subst (λ (N : Network). StopsAt s x.here.schedule (length s.given + length d.traces) N told.event told.why) there (stops_at s x.here.schedule start (length d.traces) told.event told.why v.starts told.stuck);
        is = h told.why told.event told.is ∙ (λ i. move_answer (shown i) (count i) [] (stuck_member (shown i) (count i) told.why told.event));
      }

-- ---- lines of events

pub number_in_schedule : (s : Scenario) (n : ℕ) → number_behind s (length s.given + n) ≡ (false, n + 1)
number_in_schedule s n = go (nat_lt (length s.given + n) (length s.given)) refl
  where
    go : (b : Bool) → nat_lt (length s.given + n) (length s.given) ≡ b → number_behind s (length s.given + n) ≡ (false, n + 1)
    go true is = let lt = below (length s.given + n) (length s.given) is in absurd (omega (arith, lt))
    go false is =
        let number : ((length s.given + n) - length s.given) + 1 ≡ n + 1 = omega arith in
        ap (λ b. if b then (true, (length s.given + n) + 1) else (false, ((length s.given + n) - length s.given) + 1)) is ∙ ap (λ m. (false, m)) number

-- the event that led to the one debugger's position is a step from the other's network
pub step_here : (a h : Seen) (rows : List (Rule × ℕ))
    → IsBehind a h
    → IsNetworkAt (start_of a) a.schedule (length a.traces) a.net.history.now
    → IsNetworkAt (start_of h) h.schedule (length h.traces) h.net.history.now
    → (t : IsTraceOf h rows)
    → StepIn a.net.history.now t.event h.net.history.now rows × (slice_get h.schedule (length a.traces) ≡ Some t.event)
step_here a h rows behind old new t =
    let S = start_of h in
    let es = h.schedule in
    let ends = t.position in
    let behind_by = behind.2 in
    let number : t.before ≡ length a.traces = omega (arith, ends, behind_by) in
    let m = t.makes in
    let first : IsNetworkAt S es (length a.traces) a.net.history.now =
    subst (λ (xs : List Event). IsNetworkAt S xs (length a.traces) a.net.history.now) behind.0
    (subst (λ (N : Network). IsNetworkAt N a.schedule (length a.traces) a.net.history.now) behind.1 old) in
    let before : m.before ≡ a.net.history.now =
    one_network S es (length a.traces) m.before a.net.history.now (subst (λ (n : ℕ). IsNetworkAt S es n m.before) number m.is_at) first in
    let one : suc t.before ≡ length h.traces = omega (arith, ends) in
    let within = slice_get_within es t.before t.event m.is in
    let led : IsNetworkAt S es (suc t.before) m.after = record {
      within = omega (arith, within);
      after = subst (λ (xs : List Event). AfterIn S xs m.after) (sym (take_more es t.before t.event m.is)) (after_one_more S (take t.before es) m.before t.event m.after rows m.is_at.after m.step);
    } in
    let after : m.after ≡ h.net.history.now =
    one_network S es (length h.traces) m.after h.net.history.now (subst (λ (n : ℕ). IsNetworkAt S es n m.after) one led) new in (
      subst (λ (N : Network). StepIn N t.event h.net.history.now rows) before (subst (λ (N : Network). StepIn m.before t.event N rows) after m.step),
      subst (λ (n : ℕ). slice_get es n ≡ Some t.event) number m.is,
    )

-- the line of the event that led there is that of the event behind so many of all
pub line_placed : (s : Scenario) (start : Network) (x : AnyServed) (v : IsServing s start x) (details : Details) (a h : Seen) (n : ℕ) (text : List ℕ)
    → IsDebuggerOf s start a
    → IsDebuggerOf s start h
    → a.schedule ≡ x.here.schedule
    → h.schedule ≡ x.here.schedule
    → length a.traces ≡ n
    → length h.traces ≡ n + 1
    → IsLineHere details a h text
    → IsLineBehind details s x.here.schedule (length s.given + n) text
line_placed s start x v details a h n text of_a of_h same_a same_h old new l =
    let led : IsNetworkAt start x.here.schedule n a.net.history.now =
    subst (λ (k : ℕ). IsNetworkAt start x.here.schedule k a.net.history.now) old
    (subst (λ (es : List Event). IsNetworkAt start es (length a.traces) a.net.history.now) same_a
    (subst (λ (S : Network). IsNetworkAt S a.schedule (length a.traces) a.net.history.now) of_a.is_start l.is_at)) in
    let there : slice_get x.here.schedule n ≡ Some l.event =
    subst (λ (k : ℕ). slice_get x.here.schedule k ≡ Some l.event) old
    (subst (λ (es : List Event). slice_get es (length a.traces) ≡ Some l.event) same_h l.is) in
    let number : (false, length h.traces) ≡ number_behind s (length s.given + n) = ap (λ k. (false, k)) new ∙ sym (number_in_schedule s n) in
    record {
      network = a.net.history.now;
      between = h.net.history.now;
      event = l.event;
      rows = l.rows;
      is_at = at_schedule s x.here.schedule start n a.net.history.now v.starts led;
      is = get_behind s.given x.here.schedule n ∙ there;
      step = l.step;
      line =
          subst (λ (k : Bool × ℕ). IsMadeLine details s.names k l.event l.rows l.step.step.before l.step.step.after text) number
          (subst (λ (ns : List (List ℕ)). IsMadeLine details ns (false, length h.traces) l.event l.rows l.step.step.before l.step.step.after text) of_h.names l.line);
    }

-- Of jc_listings' `Journals`: what is told of events of a session.
use Rattle.std.proofs.Common.{◌≡◌, ℕ, suc, ◌+◌, ◌-◌, ◌<◌, false, List, [], length, get_or, slice_get, option_copied, Option, Some, Ok, refl, sym, ap, subst, ◌∙◌, arith}
use Rattle.std.specs.Borrow.{Bor}
use Rattle.jc_rules.specs.declared.operation.Event.{Event}
use Rattle.jc_rules.specs.declared.rule.Rule.{Rule}
use Rattle.std.proofs.lemmas.Option.{slice_get-get_or}
use Rattle.jc_rules.specs.Step.{Network, StepIn}
use Rattle.jc_rules.specs.Trace.{Rows}
use Rattle.jc_scenario.specs.Views.{scenario_view}
use Rattle.jc_scenario.specs.WellFormed.{Scenario}
use Rattle.jc_effects.specs.declared.effects.Effects.{Effects}
use Rattle.jc_journal.specs.declared.event.NumberedEvent.{NumberedEvent}
use Rattle.jc_journal.specs.EventLine.{IsBeforeLast, AreEffects, event_line}
use Rattle.jc_journal.specs.Parts.{differences_in, differences_at}
use Rattle.jc_network.specs.NetworkHistory.{NetworkHistory}
use Rattle.jc_looks.specs.declared.fault.LookFault.{LookFault}
use Rattle.jc_looks.specs.declared.fault.LookFault.TheVariants as F
use Rattle.jc_looks.specs.LookFaults.{RefusesBy}
use Rattle.jc_answers.specs.JsonTexts.{unended}
use Rattle.jc_debug.specs.DebuggerState.{IsNetworkAt}
use Rattle.jc_debug.specs.Invariant.{Seen, IsDebugger, IsMoved, start_of}
use Rattle.jc_debug.proofs.InvariantLemmas.{is_at, trace_of}
use Rattle.jc_debug.specs.Moves.{IsTraceOf}
use Rattle.jc_requests.specs.Asked.{Position}
use Rattle.jc_listings.specs.declared.journals.Details.{Details}
use Rattle.jc_listings.specs.Journals as J
use Rattle.jc_listings.specs.JournalParts.{IsLineMade}
use Rattle.jc_listings.specs.Journals.{AnswersEvent, IsLineBehind, IsMadeLine, rules_asked}
use Rattle.jc_listings.proofs.JournalPartsLemmas.{made_told, line_moved}
use Rattle.jc_listings.specs.Positions.{count_at, IsAt}
use Rattle.jc_serve.specs.declared.served.Served.{Served as AnyServed}
use Rattle.jc_serve.specs.AnswerOf.{IsLineHere, ShowsIn, ShowsBy, AnswersNowhere}
use Rattle.jc_serve.specs.InMemory.{marks_of, state_of, IsServing, IsBehind}
use Rattle.jc_serve.specs.Marks.{moved_to}
use Rattle.jc_serve.proofs.PositionsLemmas.{at_given, given_leads}
use Rattle.jc_serve.proofs.PlacedLemmas.{line_placed, step_here}
use Rattle.jc_serve.proofs.SessionsLemmas.{moved_debugger, aside_moved, here_moved}
use Rattle.jc_serve.proofs.MarksLemmas.{last_is}

module _ (s : Scenario) (start : Network) (x : AnyServed) (v : IsServing s start x) (details : Details) where
  -- a given event is made
  pub given_made : (n : ℕ) → n < length x.scenario.given.items → (events : List Event) → events ≡ x.here.schedule → (N : Network) × IsAt (scenario_view x.scenario) events (suc n) N
  given_made n lt events same =
      let r = given_leads s x.here.schedule start (suc n) v.starts in
      let few : n < length s.given = subst (λ (t : Scenario). n < length t.given) v.scenario lt in
      let at = at_given s x.here.schedule (suc n) r.0 (omega (arith, few)) r.1 in
      (r.0, subst (λ (t : Scenario). IsAt t events (suc n) r.0) (sym v.scenario) (subst (λ (es : List Event). IsAt s es (suc n) r.0) (sym same) at))

  pub given_told : (n : ℕ) (events : List Event) (text : List ℕ) → events ≡ x.here.schedule → IsLineBehind details (scenario_view x.scenario) events n text → (at : Option Position) → count_at s x.here.schedule (length x.here.traces) at ≡ Ok (suc n) → AnswersEvent details s x.here.schedule (length x.here.traces) at text
  given_told n events text same h at is =
      J.tells is (subst (λ (t : Scenario). IsLineBehind details t x.here.schedule n text) v.scenario (subst (λ (es : List Event). IsLineBehind details (scenario_view x.scenario) es n text) same h))

  -- the line of an event of the schedule
  pub line_told : (h a : Seen) (n : ℕ) (text : List ℕ) → 0 < n → IsMoved x.here h n → IsMoved x.aside a (n - 1) → IsLineHere details a h text → (at : Option Position) → count_at s x.here.schedule (length x.here.traces) at ≡ Ok (length s.given + n) → AnswersEvent details s x.here.schedule (length x.here.traces) at text
  line_told h a n text some new old l at is =
      let number : length s.given + n ≡ suc (length s.given + (n - 1)) = omega (arith, some) in
      let next : n ≡ (n - 1) + 1 = omega (arith, some) in
      J.tells (is ∙ ap Ok number)
      (line_placed s start x v details a h (n - 1) text (moved_debugger s start x.aside a (n - 1) v.aside old) (moved_debugger s start x.here h n v.here new) (old.schedule ∙ v.same) new.schedule old.position (new.position ∙ next) l)

-- ---- the line of the event that led to a position

-- behind position 0 there is a trace
pub trace_there : (d : Seen) → IsDebugger d → 0 < length d.traces → (rows : List (Rule × ℕ)) × IsTraceOf d rows
trace_there d trail some =
    let n = length d.traces - 1 in
    let none : Rows = record { rows = []; depth = 0 } in
    let lt : n < length d.traces = omega (arith, some) in
    let next : length d.traces ≡ n + 1 = omega (arith, some) in
    ((get_or d.traces n none).rows, trace_of d trail n (get_or d.traces n none) next (slice_get-get_or d.traces n none lt))

module _ (a h : Seen) (n1 n2 : NetworkHistory) (trail : IsDebugger h) (behind : IsBehind a h) (one : n1 ≡ a.net) (two : n2 ≡ h.net) (at : IsNetworkAt (start_of a) a.schedule (length a.traces) n1.history.now) (e : Event) where
  own_at : IsNetworkAt (start_of a) a.schedule (length a.traces) a.net.history.now
  own_at = subst (λ (n : NetworkHistory). IsNetworkAt (start_of a) a.schedule (length a.traces) n.history.now) one at

  pub step_found : (rows : List (Rule × ℕ)) (t : IsTraceOf h rows) → e ≡ t.event → StepIn a.net.history.now e h.net.history.now rows
  step_found rows t same =
      subst (λ (f : Event). StepIn a.net.history.now f h.net.history.now rows) (sym same) (step_here a h rows behind own_at (is_at h trail) t).0

  pub last_found : IsBeforeLast a.net.history.now h.net.history
  last_found =
      let there : IsNetworkAt (start_of h) h.schedule (length a.traces) a.net.history.now =
      subst (λ (S : Network). IsNetworkAt S h.schedule (length a.traces) a.net.history.now) behind.1
      (subst (λ (es : List Event). IsNetworkAt (start_of a) es (length a.traces) a.net.history.now) behind.0 own_at) in
      last_is a h (length a.traces) trail there (let w = behind.2 in omega (arith, w))

  -- of the networks that are read
  pub last_there : IsBeforeLast n1.history.now n2.history
  last_there =
      subst (λ (n : NetworkHistory). IsBeforeLast n.history.now n2.history) (sym one)
      (subst (λ (n : NetworkHistory). IsBeforeLast a.net.history.now n.history) (sym two) last_found)

  pub line_found : (details : Details) (number : ℕ) (rows : List (Rule × ℕ)) (t : IsTraceOf h rows) (effects : Option Effects) (r : Option (Bor Effects)) (rules : Option (List (Rule × ℕ))) (line text : List ℕ)
      → e ≡ t.event
      → number ≡ length h.traces
      → option_copied r ≡ effects
      → rules ≡ rules_asked details.trace rows
      → ((ls : List (Rule × ℕ)) → (made : StepIn a.net.history.now e h.net.history.now ls) → AreEffects details.effects e made.step.before made.step.after (differences_in effects))
      → ((ls : List (Rule × ℕ)) → (made : StepIn n1.history.now e n2.history.now ls) → line ≡ event_line n2.names false number e rules (differences_at r) made.step.before made.step.after)
      → text ≡ unended line
      → IsLineHere details a h text
  line_found details number rows t effects r rules line text same position copied asked told lined cut =
      let made : StepIn n1.history.now e n2.history.now rows =
      subst (λ (n : NetworkHistory). StepIn n.history.now e n2.history.now rows) (sym one)
      (subst (λ (n : NetworkHistory). StepIn a.net.history.now e n.history.now rows) (sym two) (step_found rows t same)) in
      let effective : (ls : List (Rule × ℕ)) → (m : StepIn n1.history.now e n2.history.now ls) → AreEffects details.effects e m.step.before m.step.after (differences_in effects) =
      subst (λ (n : NetworkHistory). (ls : List (Rule × ℕ)) → (m : StepIn n.history.now e n2.history.now ls) → AreEffects details.effects e m.step.before m.step.after (differences_in effects)) (sym one)
      (subst (λ (n : NetworkHistory). (ls : List (Rule × ℕ)) → (m : StepIn a.net.history.now e n.history.now ls) → AreEffects details.effects e m.step.before m.step.after (differences_in effects)) (sym two) told) in
      let next : NumberedEvent = record { event = e; number = number; given = false } in
      let found : IsLineMade details n2.names next n1.history.now n2.history.now text =
      made_told details n2.names next n1.history.now n2.history.now rows made effects r rules line text copied asked (effective rows made) (lined rows made) cut in
      let moved : IsLineMade details h.net.names next a.net.history.now h.net.history.now text =
      line_moved details n2.names h.net.names next n1.history.now a.net.history.now n2.history.now h.net.history.now text (ap (λ (n : NetworkHistory). n.names) two) (ap (λ (n : NetworkHistory). n.history.now) one) (sym (ap (λ (n : NetworkHistory). n.history.now) two)) found in
      record {
        event = e;
        rows = moved.0;
        is_at = own_at;
        is = subst (λ (f : Event). slice_get h.schedule (length a.traces) ≡ Some f) (sym same) (step_here a h rows behind own_at (is_at h trail) t).1;
        step = moved.1;
        line = subst (λ (k : ℕ). IsMadeLine details h.net.names (false, k) e moved.0 moved.1.step.before moved.1.step.after text) position moved.2;
      }

-- a position that isn't there has no event
pub no_event_there : (x : AnyServed) (at : Option Position) (details : Details) (fault : LookFault)
    → ((s : Scenario) (start : Network) → IsServing s start x → RefusesBy (λ answer. AnswersNowhere s x.here.schedule (length x.here.traces) at answer) fault)
    → RefusesBy (ShowsIn (λ s A answer. AnswersEvent details s A.schedule A.position at answer) x x) fault
no_event_there x at details F.Memory h = tt
no_event_there x at details (F.Refused answer) h = λ s start v.
    let (refusal, none, is) = h s start v in
    (subst (λ (t : List ℕ). AnswersEvent details s x.here.schedule (length x.here.traces) at t) (sym is) (J.nowhere none), refl, v)

-- the line of an event of the schedule, where both debuggers have moved
pub line_so : (x : AnyServed) (h : Seen) (y : AnyServed) (details : Details) (n : ℕ) (text : List ℕ)
    → 0 < n
    → IsMoved x.here h n
    → y ≡ record x { here = h; aside = y.aside }
    → IsMoved x.aside y.aside (n - 1)
    → IsLineHere details y.aside y.here text
    → ShowsBy (λ s A answer. (at : Option Position) → count_at s A.schedule A.position at ≡ Ok (length s.given + n) → AnswersEvent details s A.schedule A.position at answer) x y text
line_so x h y details n text some new same old l s start v =
    let line : IsLineHere details y.aside h text = subst (λ (z : AnyServed). IsLineHere details y.aside z.here text) same l in
    let z : AnyServed = record x { here = h; aside = y.aside } in
    let state : state_of z ≡ moved_to (state_of x) n = λ i. record { schedule = new.schedule i; position = new.position i; marks = marks_of x.marks.items } in (
      line_told s start x v details h y.aside n text some new old line,
      (n, ap state_of same ∙ state),
      subst (λ (w : AnyServed). IsServing s start w) (sym same) (aside_moved s start (record x { here = h }) y.aside (n - 1) (here_moved s start x h n v new) old),
    )

-- another position of the session
pub here_state : (x : AnyServed) (d : Seen) (n : ℕ) → IsMoved x.here d n → state_of (record x { here = d }) ≡ moved_to (state_of x) n
here_state x d n m = λ i. record { schedule = m.schedule i; position = m.position i; marks = marks_of x.marks.items }

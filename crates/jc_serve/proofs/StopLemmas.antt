-- Of `AnswerOf`: what is answered where a given event is stuck.
use Rattle.std.proofs.Common.{◌≡◌, ℕ, suc, ◌+◌, ◌-◌, ◌<◌, ◌≤◌, Bool, true, false, nat_lt, if◌then◌else◌, List, length, take, Option, Some, None, Ok, Err, refl, sym, ap, subst, ◌∙◌, arith, rules}
use Rattle.std.specs.List.{All}
use Rattle.std.proofs.lemmas.List.Elements.{All-append}
use Rattle.jc_rules.specs.Refused.{Cause}
use Rattle.jc_rules.specs.Step.{Network, AfterIn}
use Rattle.jc_printer.specs.Canon.{AreNamed}
use Rattle.jc_scenario.specs.Views.{scenario_view}
use Rattle.jc_scenario.specs.WellFormed.{Scenario, IsWellFormedScenario}
use Rattle.jc_network.specs.declared.fault.Stuck.{Stuck}
use Rattle.jc_network.specs.Given.{before_given}
use Rattle.jc_network.specs.NetworkHistory.{NetworkHistory}
use Rattle.jc_network.specs.Steps.{stuck_for}
use Rattle.jc_dump.specs.Lines.{IsNamedStuck}
use Rattle.jc_journal.specs.StuckLine.{stuck_event_line}
use Rattle.jc_session.proofs.AnswerOfLemmas.{of_all}
use Rattle.jc_requests.specs.Asked.{Position}
use Rattle.jc_looks.specs.declared.fault.LookFault.{LookFault}
use Rattle.jc_looks.specs.declared.fault.LookFault.TheVariants as F
use Rattle.jc_looks.specs.declared.looks.Look.{Look}
use Rattle.jc_looks.specs.LookFaults.{RefusesBy}
use Rattle.jc_answers.specs.JsonTexts.{unended}
use Rattle.jc_looks.specs.Looks.{ShowsLook}
use Rattle.jc_listings.specs.declared.journals.Details.{Details}
use Rattle.jc_listings.specs.Journals.{AnswersEvent, IsLineBehind, tells}
use Rattle.jc_listings.specs.Positions.{all_events, number_behind, count_of, IsAt}
use Rattle.jc_serve.specs.declared.stuck.GivenStop.{GivenStop as AnyGivenStop}
use Rattle.jc_serve.specs.AnswerOf.{IsStopped, IsOfStop, IsNowhereAnswer, IsUnreached, here, nowhere, behind, ShowsAt}
use Rattle.jc_serve.specs.Subjects.{GivenStop, stuck_line_of, given_stuck_answer}
use Rattle.jc_serve.proofs.PositionsLemmas.{at_given, of_given, at_before}

not_below : (a b : ℕ) → nat_lt a b ≡ false → b ≤ a
not_below a b h = search (rules, h)

-- a given event has its number among these
pub number_given : (s : Scenario) (n : ℕ) → n < length s.given → number_behind s n ≡ (true, n + 1)
number_given s n lt = go (nat_lt n (length s.given)) refl
  where
    go : (b : Bool) → nat_lt n (length s.given) ≡ b → number_behind s n ≡ (true, n + 1)
    go true is = ap (λ b. if b then (true, n + 1) else (false, (n - length s.given) + 1)) is
    go false is = let le = not_below n (length s.given) is in absurd (omega (arith, le, lt))

module _ (s : Scenario) (stop : GivenStop s) (x : AnyGivenStop) (v : IsStopped s stop x) where
  all_named : All (λ e. AreNamed e (length s.names)) (all_events s s.schedule)
  all_named = All-append (λ e. AreNamed e (length s.names)) s.given s.schedule v.formed.given_known v.formed.known

  pub stuck_named : IsNamedStuck x.net.names x.stuck
  stuck_named = record {
    why = stop.why;
    event = stop.event;
    is = v.stuck;
    named = subst (λ (ns : List (List ℕ)). AreNamed stop.event (length ns)) (sym v.names) (of_all (λ e. AreNamed e (length s.names)) (all_events s s.schedule) stop.count stop.event all_named stop.stops.is);
  }

  pub line_told : (line text : List ℕ)
      → text ≡ unended line
      → ((why : Cause) → x.stuck ≡ stuck_for why x.stuck.event → line ≡ stuck_event_line x.net.names true (x.count + 1) x.net.history.now.states why x.stuck.event)
      → text ≡ stuck_line_of s stop
  line_told line text cut h =
      let event : x.stuck.event ≡ stop.event = ap (λ (t : Stuck). t.event) v.stuck in
      let is : x.stuck ≡ stuck_for stop.why x.stuck.event = v.stuck ∙ ap (stuck_for stop.why) (sym event) in
      cut
      ∙ ap unended (h stop.why is ∙ (λ i. stuck_event_line (v.names i) true (v.count i + 1) (v.network i).states stop.why (event i)))
      ∙ ap (λ (k : Bool × ℕ). unended (stuck_event_line s.names k.0 k.1 stop.network.states stop.why stop.event)) (sym (number_given s stop.count v.given))

  -- ---- positions

  pub unreached_nowhere : (p : Position) (fault : LookFault) → RefusesBy (IsNowhereAnswer (scenario_view x.scenario) (scenario_view x.scenario).schedule p) fault → RefusesBy (IsUnreached s stop (Some p)) fault
  unreached_nowhere p (F.Refused answer) (refusal, none, is) =
      subst (λ (t : List ℕ). IsUnreached s stop (Some p) t) (sym is) (nowhere refl (subst (λ (t : Scenario). count_of t t.schedule p ≡ Err refusal) v.scenario none))
  unreached_nowhere p F.Memory h = tt

  pub unreached_behind : (p : Position) (count : ℕ) (fault : LookFault) → count_of (scenario_view x.scenario) (scenario_view x.scenario).schedule p ≡ Ok count → x.count < count → RefusesBy (IsOfStop (λ t last text. text ≡ given_stuck_answer t last) x) fault → RefusesBy (IsUnreached s stop (Some p)) fault
  unreached_behind p count (F.Refused answer) is lt h =
      let number = v.count in
      subst (λ (t : List ℕ). IsUnreached s stop (Some p) t) (sym (h s stop v)) (behind refl (subst (λ (t : Scenario). count_of t t.schedule p ≡ Ok count) v.scenario is) (omega (arith, lt, number)))
  unreached_behind p count F.Memory is lt h = tt

  pub unreached_here : (at : Option Position) (fault : LookFault) → at ≡ None → RefusesBy (IsOfStop (λ t last text. text ≡ given_stuck_answer t last) x) fault → RefusesBy (IsUnreached s stop at) fault
  unreached_here at (F.Refused answer) none h = subst (λ (t : List ℕ). IsUnreached s stop at t) (sym (h s stop v)) (here none)
  unreached_here at F.Memory none h = tt

  -- ---- before the event

  pub led_before : (n : ℕ) → n ≤ stop.count → (N : Network) × IsAt s s.schedule n N
  led_before n le = at_before s s.schedule stop.count n stop.network le stop.stops.is_at

  pub given_led : (n : ℕ) → n ≤ x.count → (N : Network) × AfterIn (before_given (scenario_view x.scenario)) (take n (scenario_view x.scenario).given) N
  given_led n le =
      let number = v.count in
      let few = v.given in
      let r = led_before n (omega (arith, le, number)) in
      (r.0, subst (λ (t : Scenario). AfterIn (before_given t) (take n t.given) r.0) (sym v.scenario) (of_given s s.schedule n r.0 (omega (arith, le, number, few)) r.1))

  pub few_given : (n : ℕ) → n ≤ x.count → n ≤ length (scenario_view x.scenario).given
  few_given n le =
      let number = v.count in
      let few = v.given in
      subst (λ (t : Scenario). n ≤ length t.given) (sym v.scenario) (omega (arith, le, number, few))

  pub well_formed : IsWellFormedScenario (scenario_view x.scenario)
  well_formed = subst IsWellFormedScenario (sym v.scenario) v.formed

  pub at_network : (n : ℕ) (N : Network) → n ≤ x.count → AfterIn (before_given (scenario_view x.scenario)) (take n (scenario_view x.scenario).given) N → IsAt s s.schedule n N
  at_network n N le led =
      let number = v.count in
      let few = v.given in
      at_given s s.schedule n N (omega (arith, le, number, few)) (subst (λ (t : Scenario). AfterIn (before_given t) (take n t.given) N) v.scenario led)

  pub shown_at : (n : ℕ) (net : NetworkHistory) (look : Look) (answer : List ℕ) → n ≤ x.count → AfterIn (before_given (scenario_view x.scenario)) (take n (scenario_view x.scenario).given) net.history.now → net.names ≡ (scenario_view x.scenario).names → ShowsLook net.names net.history.now.states look answer → ShowsAt s s.schedule n look answer
  shown_at n net look answer le led names h = record {
    network = net.history.now;
    is_at = at_network n net.history.now le led;
    shows = subst (λ (ns : List (List ℕ)). ShowsLook ns net.history.now.states look answer) (names ∙ ap (λ (t : Scenario). t.names) v.scenario) h;
  }

  pub made_there : (n : ℕ) → 0 < n → n ≤ x.count → (N : Network) × IsAt (scenario_view x.scenario) (scenario_view x.scenario).schedule (suc (n - 1)) N
  made_there n some le =
      let number = v.count in
      let r = led_before n (omega (arith, le, number)) in
      let same : n ≡ suc (n - 1) = omega (arith, some) in
      (r.0, subst (λ (t : Scenario). IsAt t t.schedule (suc (n - 1)) r.0) (sym v.scenario) (subst (λ (k : ℕ). IsAt s s.schedule k r.0) same r.1))

  pub event_told : (details : Details) (n : ℕ) (answer : List ℕ) → 0 < n → IsLineBehind details (scenario_view x.scenario) (scenario_view x.scenario).schedule (n - 1) answer → (p : Position) → count_of s s.schedule p ≡ Ok n → AnswersEvent details s s.schedule 0 (Some p) answer
  event_told details n answer some h p is =
      let same : n ≡ suc (n - 1) = omega (arith, some) in
      tells (is ∙ ap Ok same) (subst (λ (t : Scenario). IsLineBehind details t t.schedule (n - 1) answer) v.scenario h)

-- Of `AnswerOf`: what a session shows at other positions, and its debuggers where a move has ended.
use Rattle.std.proofs.Common.{◌≡◌, ℕ, ◌+◌, ◌≤◌, List, length, take, sym, ap, subst, ◌∙◌, arith}
use Rattle.std.specs.List.{All}
use Rattle.jc_rules.specs.declared.operation.Event.{Event}
use Rattle.jc_rules.specs.declared.refusal.Refusal.TheVariants as F
use Rattle.jc_rules.specs.Refused.{Cause}
use Rattle.jc_rules.specs.Step.{Network, AfterIn}
use Rattle.jc_printer.specs.Canon.{AreNamed}
use Rattle.jc_scenario.specs.Views.{scenario_view}
use Rattle.jc_scenario.specs.WellFormed.{Scenario, IsWellFormedScenario}
use Rattle.jc_network.specs.declared.fault.Stuck.{Stuck}
use Rattle.jc_network.specs.Given.{before_given}
use Rattle.jc_network.specs.NetworkHistory.{NetworkHistory}
use Rattle.jc_network.specs.Steps.{stuck_for}
use Rattle.jc_dump.specs.Lines.{IsNamedStuck}
use Rattle.jc_debug.specs.declared.fault.DebugFault.TheVariants as D
use Rattle.jc_debug.specs.DebuggerState.{IsNetworkAt}
use Rattle.jc_debug.specs.Invariant.{Seen, IsDebugger, IsMoved, start_of}
use Rattle.jc_debug.specs.Moves.{IsMoveFault, IsToldAt}
use Rattle.jc_looks.specs.declared.looks.Look.{Look}
use Rattle.jc_looks.specs.Looks.{IsWithin, ShowsLook}
use Rattle.jc_listings.specs.Positions.{IsAt}
use Rattle.jc_serve.specs.declared.served.Served.{Served as AnyServed}
use Rattle.jc_serve.specs.AnswerOf.{ShowsAt, stopped_answer}
use Rattle.jc_serve.specs.InMemory.{IsDebuggerOf, IsServing}
use Rattle.jc_serve.proofs.PositionsLemmas.{at_schedule, at_given, given_leads}
use Rattle.jc_serve.proofs.PlacedLemmas.{StopsBefore, stopped_there, stuck_is_named}
use Rattle.jc_serve.proofs.SessionsLemmas.{each_at, moved_debugger}

pub shows_at : (s : Scenario) (events : List Event) (n : ℕ) (net : NetworkHistory) (look : Look) (answer : List ℕ) → IsAt s events n net.history.now → net.names ≡ s.names → ShowsLook net.names net.history.now.states look answer → ShowsAt s events n look answer
shows_at s events n net look answer at names h = record {
  network = net.history.now;
  is_at = at;
  shows = subst (λ (ns : List (List ℕ)). ShowsLook ns net.history.now.states look answer) names h;
}

module _ (s : Scenario) (start : Network) (x : AnyServed) (v : IsServing s start x) where
  -- the replicas of a look are those of a network
  pub within_at : (n : ℕ) (N : Network) (look : Look) → IsAt s x.here.schedule n N → IsWithin (length x.scenario.names.items) look → IsWithin (length N.states) look
  within_at n N look at h =
      let many : length x.scenario.names.items ≡ length N.states = ap (λ (t : Scenario). length t.names) v.scenario ∙ sym (each_at s x.here.schedule n N v.formed at) in
      subst (λ (m : ℕ). IsWithin m look) many h

  pub here_at : (net : NetworkHistory) → net ≡ x.here.net → IsNetworkAt (start_of x.here) x.here.schedule (length x.here.traces) net.history.now → IsAt s x.here.schedule (length s.given + length x.here.traces) net.history.now
  here_at net same at =
      at_schedule s x.here.schedule start (length x.here.traces) net.history.now v.starts
      (subst (λ (S : Network). IsNetworkAt S x.here.schedule (length x.here.traces) net.history.now) v.here.is_start at)

  pub aside_at : (a : Seen) (n : ℕ) (net : NetworkHistory) → IsMoved x.aside a n → IsNetworkAt (start_of a) a.schedule (length a.traces) net.history.now → IsAt s x.here.schedule (length s.given + n) net.history.now
  aside_at a n net m at =
      at_schedule s x.here.schedule start n net.history.now v.starts
      (subst (λ (k : ℕ). IsNetworkAt start x.here.schedule k net.history.now) m.position
      (subst (λ (es : List Event). IsNetworkAt start es (length a.traces) net.history.now) (m.schedule ∙ v.same)
      (subst (λ (S : Network). IsNetworkAt S a.schedule (length a.traces) net.history.now) (m.start ∙ v.aside.is_start) at)))

  pub some_given : (n : ℕ) → (N : Network) × AfterIn (before_given (scenario_view x.scenario)) (take n (scenario_view x.scenario).given) N
  some_given n =
      let r = given_leads s x.here.schedule start n v.starts in
      (r.0, subst (λ (t : Scenario). AfterIn (before_given t) (take n t.given) r.0) (sym v.scenario) r.1)

  pub given_at : (n : ℕ) (N : Network) → n ≤ length x.scenario.given.items → AfterIn (before_given (scenario_view x.scenario)) (take n (scenario_view x.scenario).given) N → IsAt s x.here.schedule n N
  given_at n N low h =
      at_given s x.here.schedule n N (subst (λ (t : Scenario). n ≤ length t.given) v.scenario low)
      (subst (λ (t : Scenario). AfterIn (before_given t) (take n t.given) N) v.scenario h)

  pub well_formed : IsWellFormedScenario (scenario_view x.scenario)
  well_formed = subst IsWellFormedScenario (sym v.scenario) v.formed

  pub given_named : (d : Seen) → IsDebuggerOf s start d → All (λ e. AreNamed e (length d.net.names)) x.scenario.given.items
  given_named d of =
      subst (λ (ns : List (List ℕ)). All (λ e. AreNamed e (length ns)) x.scenario.given.items) (sym of.names)
      (subst (λ (es : List Event). All (λ e. AreNamed e (length s.names)) es) (sym (ap (λ (t : Scenario). t.given) v.scenario)) v.formed.given_known)

  -- ---- moves that ended before an event

  module _ (d e : Seen) (of : IsDebuggerOf s start d) (same : d.schedule ≡ x.here.schedule) (n : ℕ) (stuck : Stuck) (fault : IsMoveFault F.PastSchedule d e n (D.Stuck stuck)) where
    pub ended : IsMoved d e fault.0
    ended = fault.1.moved

    pub ended_debugger : IsDebuggerOf s start e
    ended_debugger = moved_debugger s start d e fault.0 of ended

    ended_schedule : e.schedule ≡ x.here.schedule
    ended_schedule = ended.schedule ∙ same

    told_there : IsToldAt start x.here.schedule (length e.traces) stuck
    told_there =
        subst (λ (k : ℕ). IsToldAt start x.here.schedule k stuck) (sym ended.position)
        (subst (λ (es : List Event). IsToldAt start es fault.0 stuck) same
        (subst (λ (S : Network). IsToldAt S d.schedule fault.0 stuck) of.is_start fault.2))

    pub ended_stuck : IsNamedStuck e.net.names stuck
    ended_stuck = stuck_is_named s start x v e ended_debugger ended_schedule (length e.traces) stuck told_there

    pub ended_answer : (answer : List ℕ) → IsDebugger e → ((why : Cause) (event : Event) → stuck ≡ stuck_for why event → answer ≡ stopped_answer x.scenario.given.items e why event) → StopsBefore s x.here.schedule (length s.given + n) answer
    ended_answer answer trail h =
        let short = fault.1.short in
        let at = ended.position in
        stopped_there s start x v e ended_debugger ended_schedule n stuck answer trail (omega (arith, short, at)) told_there h

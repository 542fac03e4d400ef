-- About ViewText (RanThrough): runs of scenarios, whole or up to an early stop. `add_run` uses it.
use Rattle.std.proofs.Common.{◌≡◌, ℕ, ◌<◌, inl, inr, List, [], ◌++◌, length, take, Bool, Option, Some, None, refl, sym, ◌∙◌, ap, subst, subst₂, append-nil}
use Rattle.jc_rules.specs.declared.operation.Event.{Event}
use Rattle.jc_rules.specs.Refused.{Cause}
use Rattle.jc_scenario.specs.WellFormed.{Scenario}
use Rattle.jc_network.specs.declared.fault.Stuck.{Stuck as StuckEvent}
use Rattle.jc_network.specs.NetworkHistory.{NetworkHistory}
use Rattle.jc_network.specs.Given.{IsStarted}
use Rattle.jc_network.specs.Steps.{stuck_for}
use Rattle.jc_dump.specs.Lines.{stuck_text}
use Rattle.jc_out.specs.Out.{OutState, AddsText}
use Rattle.jc_out.proofs.OutLemmas.{adds_nothing, adds_both}
use Rattle.jc_program.specs.declared.run.ReplicaLines.{ReplicaLines}
use Rattle.jc_program.specs.ReplicaLines.{lines_text}
use Rattle.jc_program.specs.ViewOutput.{Begins, IsRunUnfinished, blocks, first_lines, all_lines}
use Rattle.jc_program.specs.PlayResult.{Tells, Added, PlaysAll}
use Rattle.jc_program.specs.ViewText.{RanThrough, ShowsRun}
use Rattle.jc_program.specs.Runs.{Stuck, Plays, stuck_line, status_of}
use Rattle.jc_program.proofs.PlayResultLemmas.{adds_on}

-- no stuck event is told of as none, and one as its event and its cause
tells_none : (names : List (List ℕ)) (stuck : Option Stuck) → Tells names None stuck → stuck ≡ None
tells_none names None t = refl
tells_none names (Some x) t = absurd t

tells_some : (names : List (List ℕ)) (r : StuckEvent) (stuck : Option Stuck) → Tells names (Some r) stuck → (event : Event) × (why : Cause) × (stuck ≡ Some (event, why)) × (r ≡ stuck_for why event)
tells_some names r None t = absurd t
tells_some names r (Some (event, why)) t = (event, why, refl, t.0)

module _ (trace : Bool) (lines : ReplicaLines) (wanted : List Event) (s : Scenario) where
  -- without memory up to the start nothing was added
  pub unstarted : (a b : OutState) → b ≡ a → Added (IsRunUnfinished trace lines wanted s) a b
  unstarted a b same = ([], inl refl, adds_nothing a b same)

  module _ (first : NetworkHistory) (schedule : List Event) (from : IsStarted s first) (events : schedule ≡ wanted) where
    -- the blocks of some events are there
    pub events_stand : (a b : OutState) → Added (Begins trace first.names first.history.now schedule) a b → Added (IsRunUnfinished trace lines wanted s) a b
    events_stand a b h = (h.0, inr (first.history.now, from.start, blocks (rw (from.names, events) at h.1)), h.2)

    -- ---- the events were executed, and nothing more was added

    module _ (last : NetworkHistory) (a o b : OutState) (answer : Option StuckEvent) (h : PlaysAll trace first last schedule a o answer) (none : AddsText [] o b) where
      names : last.names ≡ s.names
      names = h.names ∙ from.names

      plays : Plays trace s.names first.history.now wanted last.history.now h.stuck h.text
      plays = rw (from.names, events) at h.plays

      added : AddsText h.text a b
      added = adds_on a o b h.text h.added none

      one_stuck : (r : StuckEvent) → answer ≡ Some r → (event : Event) × (why : Cause) × (h.stuck ≡ Some (event, why)) × (r ≡ stuck_for why event)
      one_stuck r some = tells_some first.names r h.stuck (subst (λ (answer : Option StuckEvent). Tells first.names answer h.stuck) some h.tells)

      abbrev all : List ℕ
      all = lines_text lines last.names last.history.now.states

      abbrev shown : List ℕ
      shown = h.text ++ all ++ stuck_line last.names h.stuck

      whole : RanThrough trace lines wanted s shown (status_of h.stuck)
      whole = record {
        start = first.history.now;
        is_start = from.start;
        last = last.history.now;
        stuck = h.stuck;
        blocks = h.text;
        plays = plays;
        written = ap (λ ns. h.text ++ lines_text lines ns last.history.now.states ++ stuck_line ns h.stuck) names;
        ends = refl;
      }

      -- the lines of some replicas are there
      pub replicas_stand : (c : OutState) → ((n : ℕ) × (n < length last.history.now.states) × AddsText (lines_text lines last.names (take n last.history.now.states)) b c) → Added (IsRunUnfinished trace lines wanted s) a c
      replicas_stand c (n, inside, wrote) =
          let own = subst (λ (ns : List (List ℕ)). AddsText (lines_text lines ns (take n last.history.now.states)) b c) names wrote in
          (h.text ++ lines_text lines s.names (take n last.history.now.states), inr (first.history.now, from.start, first_lines last.history.now h.stuck n plays inside), adds_both a b c h.text (lines_text lines s.names (take n last.history.now.states)) added own)

      -- those of all, but not the line of the stuck event
      pub all_stand : (c : OutState) (r : StuckEvent) → answer ≡ Some r → AddsText all b c → Added (IsRunUnfinished trace lines wanted s) a c
      all_stand c r some wrote =
          let x = one_stuck r some in
          let own = subst (λ (ns : List (List ℕ)). AddsText (lines_text lines ns last.history.now.states) b c) names wrote in
          (h.text ++ lines_text lines s.names last.history.now.states, inr (first.history.now, from.start, all_lines last.history.now (x.0, x.1) (subst (λ (o : Option Stuck). Plays trace s.names first.history.now wanted last.history.now o h.text) x.2 plays)), adds_both a b c h.text (lines_text lines s.names last.history.now.states) added own)

      -- to its end
      pub ended : (c : OutState) → answer ≡ None → AddsText all b c → Added (λ text. ShowsRun trace lines wanted s text 0) a c
      ended c is wrote =
          let unstuck = tells_none first.names h.stuck (subst (λ (answer : Option StuckEvent). Tells first.names answer h.stuck) is h.tells) in
          let same : shown ≡ h.text ++ all = ap (λ x. h.text ++ all ++ stuck_line last.names x) unstuck ∙ append-nil (h.text ++ all) in
          (h.text ++ all, inl (subst₂ (RanThrough trace lines wanted s) same (ap status_of unstuck) whole), adds_both a b c h.text all added wrote)

      -- and up to a stuck event
      pub stopped : (c d : OutState) (r : StuckEvent) (line : List ℕ) → answer ≡ Some r → ((why : Cause) (event : Event) → r ≡ stuck_for why event → line ≡ stuck_text last.names why event) → AddsText all b c → AddsText line c d → Added (λ text. ShowsRun trace lines wanted s text 3) a d
      stopped c d r line some f wrote lined =
          let x = one_stuck r some in
          let its : line ≡ stuck_line last.names h.stuck = f x.1 x.0 x.3 ∙ ap (stuck_line last.names) (sym x.2) in
          let text = adds_both a c d (h.text ++ all) line (adds_both a b c h.text all added wrote) lined in
          (shown, inl (subst (RanThrough trace lines wanted s shown) (ap status_of x.2) whole), subst (λ t. AddsText (h.text ++ all ++ t) a d) its text)

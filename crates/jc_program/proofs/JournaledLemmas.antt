-- About Journals (Journaled): the journal of a scenario, whole or up to a halt. `add_journal` uses it.
use Rattle.std.proofs.Common.{◌≡◌, ℕ, List, [], ◌++◌, is_some, Bool, Option, Some, None, true, false, if◌then◌else◌, inl, inr, refl, ◌∙◌, ap, subst, arith}
use Rattle.jc_rules.specs.declared.operation.Event.{Event}
use Rattle.jc_rules.specs.Step.{Network}
use Rattle.jc_scenario.specs.WellFormed.{Scenario}
use Rattle.jc_rules.specs.History as H
use Rattle.jc_network.specs.NetworkHistory.{NetworkHistory}
use Rattle.jc_network.specs.Given.{before_given, IsBeforeGiven}
use Rattle.jc_cli.specs.declared.order.View.TheVariants.{Journal}
use Rattle.jc_out.specs.Out.{OutState, AddsText}
use Rattle.jc_out.proofs.OutLemmas.{adds_nothing, adds_both}
use Rattle.jc_program.specs.JournalResult.{JournalsAll}
use Rattle.jc_program.specs.Journals.{Asked, JournalOf, Journaled, given_stuck, ran, JournalStops, IsJournalUnfinished}
use Rattle.jc_program.specs.PlayResult.{Added}
use Rattle.jc_program.specs.Runs.{Stuck, status_of}
use Rattle.jc_program.specs.ViewText.{Shows}

-- where there was no memory for the network, nothing was added
pub nothing_journaled : (asked : Asked) (s : Scenario) (o : OutState) → Added (IsJournalUnfinished asked s) o o
nothing_journaled asked s o = ([], inl refl, adds_nothing o o refl)

-- the status for a stuck event, and for none
status_told : (stuck : Option Stuck) → status_of stuck ≡ (if is_some stuck then 3 else 0)
status_told stuck = grind arith

-- ---- the given events

-- All given events were made and their lines were added, and the network begins there.
pub record HasLed (asked : Asked) (s : Scenario) (begun : NetworkHistory) (a b : OutState) : Type 0 where
  pub start : Network
  pub first : List ℕ
  pub given : JournalOf asked true s.names (before_given s) s.given start None first
  pub added : AddsText first a b
  pub names : begun.names ≡ s.names
  pub network : begun.history.now ≡ start

module _ (asked : Asked) (s : Scenario) (first : NetworkHistory) (from : IsBeforeGiven s.version s.names s.scripts first) (given : List Event) (are_given : given ≡ s.given) where
  given_journal : (last : Network) (stuck : Option Stuck) (text : List ℕ) → JournalOf asked true first.names first.history.now given last stuck text → JournalOf asked true s.names (before_given s) s.given last stuck text
  given_journal last stuck text h = rw (from.called, from.network, are_given) at h

  stuck_journal : (last : Network) (stuck : Option Stuck) (text : List ℕ) → is_some stuck ≡ true → JournalOf asked true first.names first.history.now given last stuck text → Journaled asked s text 3
  stuck_journal last None text e h = let f : false ≡ true = e in cc
  stuck_journal last (Some x) text e h = given_stuck last x (given_journal last (Some x) text h)

  whole_journal : (last : Network) (stuck : Option Stuck) (text : List ℕ) → is_some stuck ≡ false → JournalOf asked true first.names first.history.now given last stuck text → JournalOf asked true s.names (before_given s) s.given last None text
  whole_journal last None text e h = given_journal last None text h
  whole_journal last (Some x) text e h = let f : true ≡ false = e in cc

  -- one is stuck
  pub given_stops : (last : NetworkHistory) (a b : OutState) → JournalsAll asked true first last given a b true → Added (λ text. Shows (Journal asked.rules asked.effects) s text 3) a b
  given_stops last a b h = (h.text, stuck_journal last.history.now h.stuck h.text h.tells h.journal, h.added)

  -- none is
  pub has_led : (last begun : NetworkHistory) (a b : OutState) → JournalsAll asked true first last given a b false → begun ≡ record last { history = H.begun last.history.now } → HasLed asked s begun a b
  has_led last begun a b h at = record {
    start = last.history.now;
    first = h.text;
    given = whole_journal last.history.now h.stuck h.text h.tells h.journal;
    added = h.added;
    names = ap (λ (c : NetworkHistory). c.names) at ∙ (h.names ∙ from.called);
    network = ap (λ (c : NetworkHistory). c.history.now) at;
  }

  -- the lines of some first ones
  pub given_stand : (a b : OutState) → Added (JournalStops asked true first.names first.history.now given) a b → Added (IsJournalUnfinished asked s) a b
  given_stand a b h = (h.0, inr (inl (rw (from.called, from.network, are_given) at h.1)), h.2)

-- ---- the schedule behind them

module _ (asked : Asked) (s : Scenario) (begun : NetworkHistory) (a b : OutState) (led : HasLed asked s begun a b) (schedule : List Event) (are_scheduled : schedule ≡ s.schedule) where
  -- one of its events is stuck, or none is
  pub schedule_told : (last : NetworkHistory) (c : OutState) (answer : Bool) → JournalsAll asked false begun last schedule b c answer → Added (λ text. Shows (Journal asked.rules asked.effects) s text (if answer then 3 else 0)) a c
  schedule_told last c answer h =
      let status : status_of h.stuck ≡ (if answer then 3 else 0) = status_told h.stuck ∙ ap (λ (b : Bool). if b then 3 else 0) h.tells in
      let journal = rw (led.names, led.network, are_scheduled) at h.journal in
      let shown = ran led.start last.history.now h.stuck led.first h.text led.given journal refl in
      (led.first ++ h.text, subst (Journaled asked s (led.first ++ h.text)) status shown, adds_both a b c led.first h.text led.added h.added)

  -- the lines of some first ones
  pub schedule_stand : (c : OutState) → Added (JournalStops asked false begun.names begun.history.now schedule) b c → Added (IsJournalUnfinished asked s) a c
  schedule_stand c h =
      let stops = rw (led.names, led.network, are_scheduled) at h.1 in
      (led.first ++ h.0, inr (inr (led.start, led.first, h.0, led.given, stops, refl)), adds_both a b c led.first h.0 led.added h.2)

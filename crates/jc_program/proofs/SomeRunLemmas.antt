-- About Laws (RunHasAText): each view of bytes has a text and a status, and what was begun is the front of such a text.
use Rattle.std.proofs.Common.{◌≡◌, inl, inr, ℕ, ◌+◌, length, List, [], ◌∷◌, ◌++◌, take, Bool, true, false, Option, Some, None, Ok, Err, refl, sym, ◌∙◌, ap, subst, append_assoc, append-nil}
use Rattle.std.proofs.lemmas.List.{map-append}
use Rattle.jc_rules.specs.declared.operation.Event.{Event}
use Rattle.jc_rules.specs.Step.{Network, AfterIn}
use Rattle.jc_rules.proofs.VersionLemmas.{after_states}
use Rattle.jc_parser.specs.declared.fault.ScenarioFault.{ScenarioFault}
use Rattle.jc_scenario.specs.Canon.{canon}
use Rattle.jc_scenario.specs.Faults.{IsFault}
use Rattle.jc_scenario.specs.Laws.{ScenarioElseFault}
use Rattle.jc_scenario.specs.WellFormed.{Scenario}
use Rattle.jc_network.specs.Given.{before_given, IsStart, LedOrStuck}
use Rattle.jc_network.specs.Laws.{StepOrStuck}
use Rattle.jc_network.proofs.EnabledLemmas.{decided_in}
use Rattle.jc_dump.specs.Texts.{given_text}
use Rattle.jc_session.proofs.TextFaultsLemmas.{fault_line, fault_told}
use Rattle.jc_network.proofs.AfterLemmas.{after_more, after_one_more}
use Rattle.jc_cli.specs.declared.order.View.{View}
use Rattle.jc_cli.specs.declared.order.View.TheVariants.{Check, Print, Run, Document, Journal}
use Rattle.jc_program.specs.Laws.{RunHasAText}
use Rattle.jc_program.specs.Journals.{Asked, JournalBy, JournalOf, Journaled, given_stuck, ran, stuck_part, IsJournalUnfinished}
use Rattle.jc_program.specs.declared.run.ReplicaLines.{ReplicaLines}
use Rattle.jc_program.specs.declared.run.ReplicaLines.TheVariants.{Dumps, Documents}
use Rattle.jc_program.specs.ReplicaLines.{lines_text}
use Rattle.jc_program.specs.ViewOutput.{Begins, blocks, first_lines, all_lines, IsRunUnfinished, IsUnfinishedOf}
use Rattle.jc_program.specs.ViewText.{ShowsRun, Shows, IsRefused}
use Rattle.jc_program.specs.Runs.{Made, GoesBy, EndsAt, Stuck, Plays, events_of, events_text, stuck_line, status_of}
use Rattle.jc_program.specs.Texts.{counts_text}
use Rattle.jc_program.proofs.ReplicaLinesLemmas.{lines_split}
use Rattle.jc_program.proofs.PlayResultLemmas.{goes_both, events_text-both}
use Rattle.jc_program.proofs.JournalsLemmas.{lines_both, lines_of, lines_go, after_made, all_led}

-- from a network a schedule is made up to its end or its first stuck event
record Played (network : Network) (schedule : List Event) : Type 0 where
  last : Network
  made : List Made
  stuck : Option Stuck
  goes : GoesBy network made last
  ends : EndsAt schedule made last stuck

-- some events, and the others behind them
ends_behind : (made : List Made) (events more : List Event) (others : List Made) (last : Network) (stuck : Option Stuck) → events ≡ events_of made ++ more → EndsAt more others last stuck → EndsAt events (made ++ others) last stuck
ends_behind made events more others last None first h = first ∙ (ap (λ es. events_of made ++ es) h ∙ sym (map-append (λ (m : Made). m.0) made others))
ends_behind made events more others last (Some (event, why)) first (later, is, stuck) =
    let all = sym (append_assoc (events_of made) (events_of others) (event ∷ later)) ∙ ap (λ es. es ++ event ∷ later) (sym (map-append (λ (m : Made). m.0) made others)) in
    (later, first ∙ (ap (λ es. events_of made ++ es) is ∙ all), stuck)

-- From a network the events were made and told up to the end or the first stuck one. The text is the front of what was
-- told, and this is the rest.
record Told (asked : Asked) (given : Bool) (names : List (List ℕ)) (network : Network) (events : List Event) (text : List ℕ) : Type 0 where
  rest : List ℕ
  made : List Made
  last : Network
  stuck : Option Stuck
  goes : JournalBy asked given names 1 network made last (text ++ rest)
  ends : EndsAt events made last stuck

-- the text is the front of a whole one
abbrev pub IsFrontOf : (List ℕ → ℕ → Type 0) → List ℕ → Type 0
IsFrontOf IsWhole text = (more : List ℕ) × (status : ℕ) × IsWhole (text ++ more) status

module _ (step_or_stuck : StepOrStuck) (led_or_stuck : LedOrStuck) where
  played : (s : Scenario) (before : List Event) (network : Network) → AfterIn (before_given s) before network → (es : List Event) → Played network es
  played s before network led [] = record { last = network; made = []; stuck = None; goes = refl; ends = refl }
  played s before network led (e ∷ es) =
      elim (decided_in network (λ x. (step_or_stuck s.scripts network.states (before, after_states (before_given s) before network led) x).0) e) [
        | inl (new, rows, step) ↦
            let rest = played s (before ++ e ∷ []) new (after_one_more (before_given s) before network e new rows led step) es in
            record {
              last = rest.last;
              made = (e, rows) ∷ rest.made;
              stuck = rest.stuck;
              goes = (new, step, rest.goes);
              ends = ends_behind ((e, rows) ∷ []) (e ∷ es) es rest.made rest.last rest.stuck refl rest.ends;
            }
        | inr (why, stuck) ↦ record { last = network; made = []; stuck = Some (e, why); goes = refl; ends = (es, refl, stuck) }
      ]

  -- ---- runs

  module _ (trace : Bool) (lines : ReplicaLines) (events : List Event) (s : Scenario) where
    -- a text that goes on as that of a run
    goes_as : (start : Network) → IsStart s start → (last : Network) (stuck : Option Stuck) (shown : List ℕ) → Plays trace s.names start events last stuck shown → (text more : List ℕ) → text ++ more ≡ shown ++ lines_text lines s.names last.states ++ stuck_line s.names stuck → IsFrontOf (ShowsRun trace lines events s) text
    goes_as start led last stuck shown plays text more written =
        (more, status_of stuck, inl (record { start = start; is_start = led; last = last; stuck = stuck; blocks = shown; plays = plays; written = written; ends = refl }))

    -- from a start, of which the text of some first events is there
    run_begun : (start : Network) (text : List ℕ) → IsStart s start → Begins trace s.names start events text → IsFrontOf (ShowsRun trace lines events s) text
    run_begun start text led h =
        let p = played s (s.given ++ events_of h.made) h.last (after_more (before_given s) s.given start (events_of h.made) h.last led (after_made start h.made h.last h.goes)) h.more in
        let rest = events_text trace s.names (1 + length h.made) p.made in
        let blocks = events_text trace s.names 1 (h.made ++ p.made) in
        let same : blocks ≡ text ++ rest = events_text-both trace s.names 1 h.made p.made ∙ ap (λ t. t ++ rest) (sym h.shown) in
        let plays : Plays trace s.names start events p.last p.stuck blocks = record {
          made = h.made ++ p.made;
          goes = goes_both start h.made h.last p.made p.last h.goes p.goes;
          ends = ends_behind h.made events h.more p.made p.last p.stuck h.events p.ends;
          shown = refl;
        } in
        goes_as start led p.last p.stuck blocks plays text (rest ++ lines_text lines s.names p.last.states ++ stuck_line s.names p.stuck) (rw same (simp append_assoc))

    run_or_given : IsFrontOf (ShowsRun trace lines events s) []
    run_or_given =
        elim ((led_or_stuck s.scripts (before_given s) s.given ([], refl)).0) [
          | inl (start, led) ↦ run_begun start [] led (record { made = []; more = events; last = start; goes = refl; events = refl; shown = refl })
          | inr (at, event, why, stuck) ↦
              (given_text s.names at why event, 3, inr (record { at = at; event = event; why = why; stuck = stuck; written = refl; ends = refl }))
        ]

    -- what is there of it without its last texts
    run_front : (text : List ℕ) → IsRunUnfinished trace lines events s text → IsFrontOf (ShowsRun trace lines events s) text
    run_front text (inl none) = subst (IsFrontOf (ShowsRun trace lines events s)) (sym none) run_or_given
    run_front text (inr (start, led, blocks begins)) = run_begun start text led begins
    run_front _ (inr (start, led, first_lines {text} last stuck n plays inside)) =
        let split = lines_split lines n s.names last.states in
        goes_as start led last stuck text plays (text ++ lines_text lines s.names (take n last.states)) (split.0 ++ stuck_line s.names stuck) (rw split.1 (simp append_assoc))
    run_front _ (inr (start, led, all_lines {text} last stuck plays)) =
        goes_as start led last (Some stuck) text plays (text ++ lines_text lines s.names last.states) (stuck_line s.names (Some stuck)) refl

  -- ---- journals

  -- behind the events before them, of some events the first ones were told
  told_on : (asked : Asked) (given : Bool) (s : Scenario) (before : List Event) (network : Network) → AfterIn (before_given s) before network → (events : List Event) (made : List Made) (last : Network) (text : List ℕ) (more : List Event) → JournalBy asked given s.names 1 network made last text → events ≡ events_of made ++ more → Told asked given s.names network events text
  told_on asked given s before network led events made last text more goes are_first =
      let here = after_more (before_given s) before network (events_of made) last led (after_made network made last (lines_go asked given s.names 1 network made last text goes)) in
      let p = played s (before ++ events_of made) last here more in
      let rest = lines_of s.scripts asked given s.names (1 + length made) last p.made p.last (before ++ events_of made, after_states (before_given s) (before ++ events_of made) last here) p.goes in
      record {
        rest = rest.0;
        made = made ++ p.made;
        last = p.last;
        stuck = p.stuck;
        goes = lines_both asked given s.names 1 network made last p.made p.last text rest.0 goes rest.1;
        ends = ends_behind made events more p.made p.last p.stuck are_first p.ends;
      }

  -- behind the journal of all given events, of the schedule some first events were told
  schedule_begun : (asked : Asked) (s : Scenario) (start : Network) (first text : List ℕ) → JournalOf asked true s.names (before_given s) s.given start None first → (made : List Made) (last : Network) (more : List Event) → JournalBy asked false s.names 1 start made last text → s.schedule ≡ events_of made ++ more → IsFrontOf (Journaled asked s) (first ++ text)
  schedule_begun asked s start first text given made last more goes are_first =
      let all = told_on asked false s s.given start (all_led asked true s.names (before_given s) s.given start first given) s.schedule made last text more goes are_first in
      let line = stuck_part s.names false (length all.made + 1) all.last all.stuck in
      let journal : JournalOf asked false s.names start s.schedule all.last all.stuck ((text ++ all.rest) ++ line) = record { made = all.made; lines = text ++ all.rest; goes = all.goes; ends = all.ends; written = refl } in
      (all.rest ++ line, status_of all.stuck, ran start all.last all.stuck first ((text ++ all.rest) ++ line) given journal (simp append_assoc))

  -- the lines of the given events were told
  journal_after : (asked : Asked) (s : Scenario) (last : Network) (made : List Made) (stuck : Option Stuck) (lines : List ℕ) → JournalBy asked true s.names 1 (before_given s) made last lines → EndsAt s.given made last stuck → IsFrontOf (Journaled asked s) lines
  journal_after asked s last made (Some x) lines goes ends =
      (stuck_part s.names true (length made + 1) last (Some x), 3, given_stuck last x (record { made = made; lines = lines; goes = goes; ends = ends; written = refl }))
  journal_after asked s start made None lines goes ends =
      let given : JournalOf asked true s.names (before_given s) s.given start None lines = record { made = made; lines = lines; goes = goes; ends = ends; written = sym (append-nil lines) } in
      subst (IsFrontOf (Journaled asked s)) (append-nil lines) (schedule_begun asked s start lines [] given [] start s.schedule (refl, refl) refl)

  -- of the given events some first ones were told
  given_begun : (asked : Asked) (s : Scenario) (text : List ℕ) (made : List Made) (last : Network) (more : List Event) → JournalBy asked true s.names 1 (before_given s) made last text → s.given ≡ events_of made ++ more → IsFrontOf (Journaled asked s) text
  given_begun asked s text made last more goes are_first =
      let all = told_on asked true s [] (before_given s) refl s.given made last text more goes are_first in
      let whole = journal_after asked s all.last all.made all.stuck (text ++ all.rest) all.goes all.ends in
      (all.rest ++ whole.0, whole.1, subst (λ t. Journaled asked s t whole.1) (append_assoc text all.rest whole.0) whole.2)

  -- what is there of a journal without its last lines
  journal_front : (asked : Asked) (s : Scenario) (text : List ℕ) → IsJournalUnfinished asked s text → IsFrontOf (Journaled asked s) text
  journal_front asked s text (inl none) = subst (IsFrontOf (Journaled asked s)) (sym none) (given_begun asked s [] [] (before_given s) s.given (refl, refl) refl)
  journal_front asked s text (inr (inl h)) = given_begun asked s text h.made h.last (h.next ∷ h.more) h.goes h.are_first
  journal_front asked s text (inr (inr (start, first, rest, given, h, is))) =
      subst (IsFrontOf (Journaled asked s)) (sym is) (schedule_begun asked s start first rest given h.made h.last (h.next ∷ h.more) h.goes h.are_first)

  -- ---- views

  -- what is there of a view without its last texts is the front of a whole text
  pub view_front : (view : View) (s : Scenario) (text : List ℕ) → IsUnfinishedOf view s text → IsFrontOf (Shows view s) text
  view_front Check s text none = (counts_text s, 0, (ap (λ t. t ++ counts_text s) none, refl))
  view_front Print s text none = (canon s, 0, (ap (λ t. t ++ canon s) none, refl))
  view_front (Run trace) s text begun = run_front trace Dumps s.schedule s text begun
  view_front (Document n) s text begun = run_front false Documents (take n s.schedule) s text begun
  view_front (Journal trace effects) s text begun = journal_front (record { rules = trace; effects = effects }) s text begun

-- nothing is there
none_begun : (view : View) (s : Scenario) → IsUnfinishedOf view s []
none_begun Check s = refl
none_begun Print s = refl
none_begun _ s = inl refl

refused_of : (bytes : List ℕ) (fault : ScenarioFault) → IsFault bytes fault → (out : List ℕ) × (status : ℕ) × IsRefused fault out status
refused_of bytes fault is =
    let (text, line) = fault_line fault (fault_told bytes fault is) in
    (text, 1, record { refusal = line.refusal; place = line.place; is = line.is_refusal; stands = line.is_place; written = line.written; ends = refl })

pub run_has_a_text : ScenarioElseFault → StepOrStuck → LedOrStuck → RunHasAText
run_has_a_text either step_or_stuck led_or_stuck view bytes =
    elim (either bytes) [
      | inl (s, is) ↦ let (out, status, shows) = view_front step_or_stuck led_or_stuck view s [] (none_begun view s) in (out, status, (Ok s, is, shows))
      | inr (fault, is) ↦ let (out, status, refused) = refused_of bytes fault is in (out, status, (Err fault, is, refused))
    ]

-- About Laws (OneRun): a view of bytes has one text and one status at most.
use Rattle.std.proofs.Common.{◌≡◌, ℕ, ◌+◌, length, inl, inr, List, [], ◌∷◌, ◌++◌, take, Bool, true, false, Option, Some, None, Result, Ok, Err, refl, sym, ◌∙◌, ap, subst}
use Rattle.std.proofs.lemmas.Option.{same_Some}
use Rattle.jc_rules.specs.declared.operation.Event.{Event}
use Rattle.jc_rules.specs.Refused.{IsStuckIn}
use Rattle.jc_rules.specs.Step.{Network, StepIn}
use Rattle.jc_rules.specs.Laws.{OneStepIn, StuckInHasNone, OneStuckIn}
use Rattle.jc_parser.specs.declared.fault.ScenarioFault.{ScenarioFault}
use Rattle.jc_scenario.specs.Laws.{OneScenario, ScenarioOrFault, OneFault}
use Rattle.jc_scenario.specs.WellFormed.{Scenario}
use Rattle.jc_network.specs.Given.{before_given, IsStart, OneStart, OneGivenStuck, LedOrStuck}
use Rattle.jc_dump.specs.Texts.{refused_text, given_text}
use Rattle.jc_program.specs.declared.run.ReplicaLines.{ReplicaLines}
use Rattle.jc_program.specs.declared.run.ReplicaLines.TheVariants.{Dumps, Documents}
use Rattle.jc_program.specs.ReplicaLines.{lines_text}
use Rattle.jc_program.specs.Runs.{Made, GoesBy, EndsAt, Stuck, Plays, events_of, events_text, stuck_line, status_of}
use Rattle.jc_cli.specs.declared.order.View.{View}
use Rattle.jc_cli.specs.declared.order.View.TheVariants.{Check, Print, Run, Document, Journal}
use Rattle.jc_program.specs.Journals.{Asked, JournalBy, JournalOf, Journaled, stuck_part}
use Rattle.jc_program.specs.Journals as J
use Rattle.jc_program.specs.Laws.{OneRun}
use Rattle.jc_program.specs.ViewText.{ReadsAs, RanThrough, IsGivenShown, ShowsRun, IsRefused, RanOn}
use Rattle.jc_program.proofs.JournalsLemmas.{lines_go, same_lines}

-- bytes are read in one way
pub one_reading : OneScenario → ScenarioOrFault → OneFault → (bytes : List ℕ) (read other : Result Scenario ScenarioFault) → ReadsAs bytes read → ReadsAs bytes other → read ≡ other
one_reading one_scenario scenario_or_fault one_fault bytes (Ok s) (Ok t) r q = ap Ok (one_scenario bytes s t r q)
one_reading one_scenario scenario_or_fault one_fault bytes (Ok s) (Err fault) r q = absurd (scenario_or_fault bytes s fault r q)
one_reading one_scenario scenario_or_fault one_fault bytes (Err fault) (Ok t) r q = absurd (scenario_or_fault bytes t fault q r)
one_reading one_scenario scenario_or_fault one_fault bytes (Err fault) (Err other) r q = ap Err (one_fault bytes fault other r q)

-- a scenario has a start, or a given event is stuck, and not both
pub no_start : LedOrStuck → (s : Scenario) (start : Network) (out : List ℕ) (status : ℕ) → IsStart s start → IsGivenShown s out status → ⊥
no_start led_or_stuck s start out status led a = (led_or_stuck s.scripts (before_given s) s.given ([], refl)).1 start a.at a.event a.why led a.stuck

-- a stuck given event has one text, and so has a fault
pub same_given : OneGivenStuck → (s : Scenario) (shown other : List ℕ) (status other_status : ℕ) → IsGivenShown s shown status → IsGivenShown s other other_status → (shown ≡ other) × (status ≡ other_status)
same_given one_given_stuck s shown other status other_status a b =
    let same = one_given_stuck (before_given s) s.given a.at b.at a.event b.event a.why b.why a.stuck b.stuck in
    (a.written ∙ ((λ i. given_text s.names (same.0 i) (same.2 i) (same.1 i)) ∙ sym b.written), a.ends ∙ sym b.ends)

pub same_refused : (fault : ScenarioFault) (shown other : List ℕ) (status other_status : ℕ) → IsRefused fault shown status → IsRefused fault other other_status → (shown ≡ other) × (status ≡ other_status)
same_refused fault shown other status other_status a b =
    let refusal = same_Some a.refusal b.refusal (sym a.is ∙ b.is) in
    let place = same_Some a.place b.place (sym a.stands ∙ b.stands) in
    (a.written ∙ ((λ i. refused_text (refusal i) (place i)) ∙ sym b.written), a.ends ∙ sym b.ends)

module _ (one_step : OneStepIn) (stuck_has_none : StuckInHasNone) (one_stuck : OneStuckIn) where
  -- the events of a run are executed in order
  head_made : (es : List Event) (m : Made) (made : List Made) (last : Network) (stuck : Option Stuck) → EndsAt es (m ∷ made) last stuck → (rest : List Event) × (es ≡ m.0 ∷ rest) × EndsAt rest made last stuck
  head_made es m made last None a = (events_of made, a, refl)
  head_made es m made last (Some (event, why)) a = (events_of made ++ event ∷ a.0, a.1, (a.0, refl, a.2))

  -- no event is made where the next is stuck or none is left
  no_more : (es rest : List Event) (network : Network) (m : Made) (made : List Made) (stuck : Option Stuck) (last : Network) → es ≡ m.0 ∷ rest → EndsAt es [] network stuck → GoesBy network (m ∷ made) last → ⊥
  no_more es rest network m made None last is a goes = cc
  no_more es rest network m made (Some (event, why)) last is a goes =
      let same : event ≡ m.0 = cc (is, a.1) in
      stuck_has_none network goes.0 m.0 why m.1 (subst (λ (x : Event). IsStuckIn network x why) same a.2) goes.1

  -- where nothing was made, the same is stuck
  same_end : (es : List Event) (network : Network) (stuck other : Option Stuck) → EndsAt es [] network stuck → EndsAt es [] network other → stuck ≡ other
  same_end es network None None a b = refl
  same_end es network None (Some (event, why)) a b = cc (a, b.1)
  same_end es network (Some (event, why)) None a b = cc (a.1, b)
  same_end es network (Some (event, why)) (Some (next, other)) a b =
      let same : event ≡ next = cc (a.1, b.1) in
      let cause : why ≡ other = one_stuck network next why other (subst (λ (x : Event). IsStuckIn network x why) same a.2) b.2 in
      rw (same, cause) refl

  -- from one network a schedule is played in one way
  pub same_play : (es : List Event) (network last other : Network) (made others : List Made) (stuck other_stuck : Option Stuck) → GoesBy network made last → EndsAt es made last stuck → GoesBy network others other → EndsAt es others other other_stuck → (made ≡ others) × (last ≡ other) × (stuck ≡ other_stuck)
  same_play es network last other [] [] stuck other_stuck goes a goes' b =
      (refl, goes ∙ sym goes', same_end es network stuck other_stuck (subst (λ (n : Network). EndsAt es [] n stuck) goes a) (subst (λ (n : Network). EndsAt es [] n other_stuck) goes' b))
  same_play es network last other [] (m ∷ others) stuck other_stuck goes a goes' b =
      let y = head_made es m others other other_stuck b in
      absurd (no_more es y.0 network m others stuck other y.1 (subst (λ (n : Network). EndsAt es [] n stuck) goes a) goes')
  same_play es network last other (m ∷ made) [] stuck other_stuck goes a goes' b =
      let x = head_made es m made last stuck a in
      absurd (no_more es x.0 network m made other_stuck last x.1 (subst (λ (n : Network). EndsAt es [] n other_stuck) goes' b) goes)
  same_play es network last other (m ∷ made) (k ∷ others) stuck other_stuck goes a goes' b =
      let x = head_made es m made last stuck a in
      let y = head_made es k others other other_stuck b in
      let event : m.0 ≡ k.0 = cc (x.1, y.1) in
      let rest : x.0 ≡ y.0 = cc (x.1, y.1) in
      let step = subst (λ (e : Event). StepIn network e goes.0 m.1) event goes.1 in
      let same = one_step network k.0 goes.0 goes'.0 m.1 k.1 step goes'.1 in
      let more = same_play y.0 goes'.0 last other made others stuck other_stuck (subst (λ (n : Network). GoesBy n made last) same.0 goes.2) (subst (λ (r : List Event). EndsAt r made last stuck) rest x.2) goes'.2 y.2 in
      let first : m ≡ k = (λ i. (event i, same.1 i)) in
      ((λ i. first i ∷ more.0 i), more.1, more.2)

  -- a journal from one network has one end and one text
  same_lines_of : (asked : Asked) (given : Bool) (names : List (List ℕ)) (network : Network) (events : List Event) (last other : Network) (stuck other_stuck : Option Stuck) (text more : List ℕ) → JournalOf asked given names network events last stuck text → JournalOf asked given names network events other other_stuck more → (last ≡ other) × (stuck ≡ other_stuck) × (text ≡ more)
  same_lines_of asked given names network events last other stuck other_stuck text more a b =
      let goes = lines_go asked given names 1 network a.made last a.lines a.goes in
      let goes' = lines_go asked given names 1 network b.made other b.lines b.goes in
      let same = same_play events network last other a.made b.made stuck other_stuck goes a.ends goes' b.ends in
      let here = subst (λ (made : List Made). JournalBy asked given names 1 network made last a.lines) same.0 a.goes in
      let lines : a.lines ≡ b.lines = same_lines one_step asked given names 1 network b.made last other a.lines b.lines here b.goes in
      (same.1, same.2, a.written ∙ ((λ i. lines i ++ stuck_part names given (length (same.0 i) + 1) (same.1 i) (same.2 i)) ∙ sym b.written))

  same_journal : (asked : Asked) (s : Scenario) (shown other : List ℕ) (status other_status : ℕ) → Journaled asked s shown status → Journaled asked s other other_status → (shown ≡ other) × (status ≡ other_status)
  same_journal asked s shown other status other_status (J.given_stuck last x a) (J.given_stuck end y b) =
      ((same_lines_of asked true s.names (before_given s) s.given last end (Some x) (Some y) shown other a b).2, refl)
  same_journal asked s shown other status other_status (J.given_stuck last x a) (J.ran start end stuck first text b c is) =
      let none : Some x ≡ None = (same_lines_of asked true s.names (before_given s) s.given last start (Some x) None shown first a b).1 in
      cc
  same_journal asked s shown other status other_status (J.ran start end stuck first text b c is) (J.given_stuck last x a) =
      let none : Some x ≡ None = (same_lines_of asked true s.names (before_given s) s.given last start (Some x) None other first a b).1 in
      cc
  same_journal asked s shown other status other_status (J.ran start last stuck first text a b is) (J.ran begun end others front more c d same_is) =
      let given = same_lines_of asked true s.names (before_given s) s.given start begun None None first front a c in
      let here = subst (λ (N : Network). JournalOf asked false s.names N s.schedule last stuck text) given.0 b in
      let after = same_lines_of asked false s.names begun s.schedule last end stuck others text more here d in
      (is ∙ ((λ i. given.2 i ++ after.2 i) ∙ sym same_is), ap status_of after.1)

  module _ (one_start : OneStart) (one_given_stuck : OneGivenStuck) (led_or_stuck : LedOrStuck) where
    same_through : (trace : Bool) (lines : ReplicaLines) (events : List Event) (s : Scenario) (shown other : List ℕ) (status other_status : ℕ) → RanThrough trace lines events s shown status → RanThrough trace lines events s other other_status → (shown ≡ other) × (status ≡ other_status)
    same_through trace lines events s shown other status other_status a b =
        let q = b.plays in
        let p = subst (λ (n : Network). Plays trace s.names n events a.last a.stuck a.blocks) (one_start s a.start b.start a.is_start b.is_start) a.plays in
        let same = same_play events b.start a.last b.last p.made q.made a.stuck b.stuck p.goes p.ends q.goes q.ends in
        let blocks : a.blocks ≡ b.blocks = p.shown ∙ (ap (λ made. events_text trace s.names 1 made) same.0 ∙ sym q.shown) in (
          a.written ∙ ((λ i. blocks i ++ lines_text lines s.names (same.1 i).states ++ stuck_line s.names (same.2 i)) ∙ sym b.written),
          a.ends ∙ (ap status_of same.2 ∙ sym b.ends),
        )

    same_run : (trace : Bool) (lines : ReplicaLines) (events : List Event) (s : Scenario) (shown other : List ℕ) (status other_status : ℕ) → ShowsRun trace lines events s shown status → ShowsRun trace lines events s other other_status → (shown ≡ other) × (status ≡ other_status)
    same_run trace lines events s shown other status other_status (inl a) (inl b) = same_through trace lines events s shown other status other_status a b
    same_run trace lines events s shown other status other_status (inl a) (inr b) = absurd (no_start led_or_stuck s a.start other other_status a.is_start b)
    same_run trace lines events s shown other status other_status (inr a) (inl b) = absurd (no_start led_or_stuck s b.start shown status b.is_start a)
    same_run trace lines events s shown other status other_status (inr a) (inr b) = same_given one_given_stuck s shown other status other_status a b

    same_ran : (view : View) (read : Result Scenario ScenarioFault) (shown other : List ℕ) (status other_status : ℕ) → RanOn view read shown status → RanOn view read other other_status → (shown ≡ other) × (status ≡ other_status)
    same_ran view (Err fault) shown other status other_status a b = same_refused fault shown other status other_status a b
    same_ran Check (Ok s) shown other status other_status a b = (a.0 ∙ sym b.0, a.1 ∙ sym b.1)
    same_ran Print (Ok s) shown other status other_status a b = (a.0 ∙ sym b.0, a.1 ∙ sym b.1)
    same_ran (Run trace) (Ok s) shown other status other_status a b = same_run trace Dumps s.schedule s shown other status other_status a b
    same_ran (Document n) (Ok s) shown other status other_status a b = same_run false Documents (take n s.schedule) s shown other status other_status a b
    same_ran (Journal trace effects) (Ok s) shown other status other_status a b = same_journal (record { rules = trace; effects = effects }) s shown other status other_status a b

    pub one_run : OneScenario → ScenarioOrFault → OneFault → OneRun
    one_run one_scenario scenario_or_fault one_fault view bytes shown other status other_status (read, reads, a) (next, others, b) =
        let same = one_reading one_scenario scenario_or_fault one_fault bytes read next reads others in
        same_ran view next shown other status other_status (subst (λ (r : Result Scenario ScenarioFault). RanOn view r shown status) same a) b

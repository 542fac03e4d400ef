-- About WeaveRuns: what is woven has texts, is never starved, and the same seed gives the same.
use Rattle.std.proofs.Common.{arith, ◌≡◌, ◌≢◌, ◌∙◌, ◌≤◌, if◌then◌else◌, ℕ, zero, suc, inl, inr, List, [], ◌∷◌, ◌++◌, Bool, false, Result, Ok, Err, string_bytes, codes, decimal, refl, sym, ap, subst, length, map, slice_get, slice_index, Some}
use Rattle.std.specs.Prelude.{All}
use Rattle.std.specs.List.{list_any}
use Rattle.std.proofs.lemmas.Option.{same_Some, slice_get_within, get_or_from_slice_get}
use Rattle.jc_rules.specs.declared.operation.Event.{Event}
use Rattle.jc_rules.specs.Refused.{Cause}
use Rattle.jc_rules.specs.State.{State}
use Rattle.jc_rules.specs.Step.{Network}
use Rattle.jc_network.specs.declared.fault.Stuck.{Stuck}
use Rattle.jc_network.specs.Given.{OneGivenStuck, LedOrStuck}
use Rattle.jc_network.specs.Steps.{stuck_for}
use Rattle.jc_parser.specs.declared.fault.ScenarioFault.{ScenarioFault}
use Rattle.jc_dump.specs.Lines.{stuck_text}
use Rattle.jc_scenario.specs.Canon.{canon}
use Rattle.jc_scenario.specs.Laws.{OneScenario, ScenarioOrFault, OneFault}
use Rattle.jc_scenario.specs.WellFormed.{Scenario, IsWellFormedScenario}
use Rattle.jc_choice.specs.declared.end.End.{End}
use Rattle.jc_choice.specs.declared.end.End.TheVariants as N
use Rattle.jc_choice.specs.Laws.{with_schedule}
use Rattle.jc_choice.proofs.LegalLemmas.{well_formed_with}
use Rattle.jc_weave.specs.Laws.{OneSchedule, SchedulesLead, EachIsChosen}
use Rattle.jc_weave.specs.Weaving.{end_in, counts_in, numbers_from, IsWoven}
use Rattle.jc_weave.proofs.WeavingLemmas.{leads, within}
use Rattle.jc_weave.proofs.WeavingStuckLemmas.{IsEndOfReplicas, ends_of_replicas, ends_long, counts_long}
use Rattle.jc_program.specs.declared.recording.Outcome.TheVariants as O
use Rattle.jc_program.specs.Ends.{IsEndText, IsEndLine, AreLinesBelow, AreEndLines, IsTellable, AreTellable, lacks_memory, is_stuck, outcome_of}
use Rattle.jc_program.specs.Laws.{OneWeaving, WovenTextsLead}
use Rattle.jc_program.specs.ThreadRuns.{outcome_status, AreRecordingTexts, ShowsRecording, RecordsOn}
use Rattle.jc_program.specs.WeaveRuns.{IsBySeed}
use Rattle.jc_program.proofs.LawsLemmas.{one_reading, no_start, same_given, same_refused}

-- ---- texts

one_of_all : (P : End → Type 0) (ends : List End) (p : ℕ) (end : End) → All P ends → slice_get ends p ≡ Some end → P end
one_of_all P ends p end all there = subst P (get_or_from_slice_get ends p end end there) (all p end (slice_get_within ends p end there))

tellable_end : (names : List (List ℕ)) (end : End) → IsEndOfReplicas (length names) end → IsTellable names end
tellable_end names (N.StuckAt stuck) h = record { why = h.why; event = h.event; is = h.is; named = h.named }
tellable_end names _ h = tt

-- the ends have lines
pub tellable : (s : Scenario) (seed limit : ℕ) (schedule : List Event) (network : Network) (ends : List End) → IsWellFormedScenario s → IsWoven s seed limit schedule network ends → AreTellable s.names (counts_in schedule s.names) ends
tellable s seed limit schedule network ends formed x = record {
  each_made = counts_long schedule s.names;
  each_end = ap length x.are_ends ∙ ends_long x.stucks network.states s.names;
  each = λ p end there. tellable_end s.names end (one_of_all (IsEndOfReplicas (length s.names)) ends p end (ends_of_replicas s seed limit schedule network ends formed x) there);
}

-- the scenario may have the schedule
pub formed : (s : Scenario) (seed limit : ℕ) (schedule : List Event) (network : Network) (ends : List End) → IsWellFormedScenario s → limit ≤ 100000 → IsWoven s seed limit schedule network ends → IsWellFormedScenario (with_schedule s schedule)
formed s seed limit schedule network ends well most x =
    well_formed_with s schedule network well (leads s seed limit schedule network ends x) (omega (arith, within s seed limit schedule network ends x, most))

-- ---- no end is want of memory

end_no_memory : (stucks : List Stuck) (states : List State) (p : ℕ) → lacks_memory (end_in stucks states p) ≡ false
end_no_memory stucks states p = grind arith

none_lacks : (f : ℕ → End) (ps : List ℕ) → ((p : ℕ) → lacks_memory (f p) ≡ false) → list_any lacks_memory (map f ps) ≡ false
none_lacks f [] each = refl
none_lacks f (p ∷ ps) each = rw (each p) (none_lacks f ps each)

not_five : (lacks stuck : Bool) → lacks ≡ false → outcome_status (if lacks then O.NoMemory else (if stuck then O.Stuck else O.Done)) ≢ 5
not_five lacks stuck e = grind arith

-- so the status is never that of want of memory
pub woven_not_five : (s : Scenario) (seed limit : ℕ) (out lines : List ℕ) → AreRecordingTexts (IsBySeed seed limit s) out lines 5 → ⊥
woven_not_five s seed limit out lines h =
    let x = h.is_recording in
    let w = x.is_woven in
    let none : list_any lacks_memory x.ends ≡ false = ap (list_any lacks_memory) w.are_ends ∙ none_lacks (end_in w.stucks x.network.states) (numbers_from 0 s.names) (end_no_memory w.stucks x.network.states) in
    not_five (list_any lacks_memory x.ends) (list_any is_stuck x.ends) none (sym (h.ends ∙ ap outcome_status x.texts.outcome))

-- ---- one text

one_cause : (why due : Cause) (event next : Event) → stuck_for why event ≡ stuck_for due next → why ≡ due
one_cause why due event next e = grind arith

one_end_text : (names : List (List ℕ)) (end : End) (text other : List ℕ) → IsEndText names end text → IsEndText names end other → text ≡ other
one_end_text names (N.StuckAt s) text other (why, event, is, shown) (due, next, same, told) =
    let both : stuck_for why event ≡ stuck_for due next = sym is ∙ same in
    let cause : why ≡ due = one_cause why due event next both in
    let of : event ≡ next = ap (λ (t : Stuck). t.event) both in
    shown ∙ ((λ i. stuck_text names (cause i) (of i)) ∙ sym told)
one_end_text names _ text other a b = a ∙ sym b

one_line : (names : List (List ℕ)) (made : List ℕ) (ends : List End) (p : ℕ) (line other : List ℕ) → IsEndLine names made ends p line → IsEndLine names made ends p other → line ≡ other
one_line names made ends p line other a b =
    let name : a.name ≡ b.name = same_Some a.name b.name (sym a.is_name ∙ b.is_name) in
    let end : a.end ≡ b.end = same_Some a.end b.end (sym a.is_end ∙ b.is_end) in
    let text : a.text ≡ b.text = one_end_text names b.end a.text b.text (subst (λ (e : End). IsEndText names e a.text) end a.is_text) b.is_text in
    a.is_line ∙ ((λ i. name i ++ codes " made " ++ decimal (slice_index made p) ++ codes " " ++ text i) ∙ sym b.is_line)

one_lines : (n : ℕ) (names : List (List ℕ)) (made : List ℕ) (ends : List End) (text other : List ℕ) → AreLinesBelow n names made ends text → AreLinesBelow n names made ends other → text ≡ other
one_lines zero names made ends text other a b = a ∙ sym b
one_lines (suc n) names made ends text other (before, line, rest, is, whole) (prior, last, more, are, all) =
    let first : before ≡ prior = one_lines n names made ends before prior rest more in
    let second : line ≡ last = one_line names made ends n line last is are in
    whole ∙ ((λ i. first i ++ second i) ∙ sym all)

module _ (one_schedule : OneSchedule) where
  same_woven : (s : Scenario) (seed limit : ℕ) (out other lines others : List ℕ) (status other_status : ℕ) → AreRecordingTexts (IsBySeed seed limit s) out lines status → AreRecordingTexts (IsBySeed seed limit s) other others other_status
      → (out ≡ other) × (lines ≡ others) × (status ≡ other_status)
  same_woven s seed limit out other lines others status other_status a b =
      let x = a.is_recording in
      let y = b.is_recording in
      let h = one_schedule s seed limit x.schedule y.schedule x.network y.network x.ends y.ends x.is_woven y.is_woven in
      let moved = subst (λ (l : List Event). AreEndLines s.names (counts_in l s.names) y.ends (string_bytes a.recording.lines)) h.0 (subst (λ (e : List End). AreEndLines s.names (counts_in x.schedule s.names) e (string_bytes a.recording.lines)) h.2 x.texts.lines) in
      let told = one_lines (length s.names) s.names (counts_in y.schedule s.names) y.ends (string_bytes a.recording.lines) (string_bytes b.recording.lines) moved y.texts.lines in (
        a.shown ∙ (x.texts.text ∙ (ap (λ (l : List Event). canon (with_schedule s l)) h.0 ∙ (sym y.texts.text ∙ sym b.shown))),
        a.told ∙ (told ∙ sym b.told),
        a.ends ∙ (ap outcome_status (x.texts.outcome ∙ (ap outcome_of h.2 ∙ sym y.texts.outcome)) ∙ sym b.ends),
      )

  module _ (one_given_stuck : OneGivenStuck) (led_or_stuck : LedOrStuck) where
    same_shown : (s : Scenario) (seed limit : ℕ) (out other lines others : List ℕ) (status other_status : ℕ) → ShowsRecording (IsBySeed seed limit) s out lines status → ShowsRecording (IsBySeed seed limit) s other others other_status
        → (out ≡ other) × (lines ≡ others) × (status ≡ other_status)
    same_shown s seed limit out other lines others status other_status (inl a) (inl b) = same_woven s seed limit out other lines others status other_status a b
    same_shown s seed limit out other lines others status other_status (inl a) (inr b) = let w = a.is_recording.is_woven.after in absurd (no_start led_or_stuck s w.start other other_status w.is_start b.0)
    same_shown s seed limit out other lines others status other_status (inr a) (inl b) = let w = b.is_recording.is_woven.after in absurd (no_start led_or_stuck s w.start out status w.is_start a.0)
    same_shown s seed limit out other lines others status other_status (inr a) (inr b) =
        let h = same_given one_given_stuck s out other status other_status a.0 b.0 in
        (h.0, a.1 ∙ sym b.1, h.1)

    same_told : (seed limit : ℕ) (read : Result Scenario ScenarioFault) (out other lines others : List ℕ) (status other_status : ℕ) → RecordsOn (IsBySeed seed limit) read out lines status → RecordsOn (IsBySeed seed limit) read other others other_status
        → (out ≡ other) × (lines ≡ others) × (status ≡ other_status)
    same_told seed limit (Ok s) out other lines others status other_status a b = same_shown s seed limit out other lines others status other_status a b
    same_told seed limit (Err fault) out other lines others status other_status a b =
        let h = same_refused fault out other status other_status a.0 b.0 in
        (h.0, a.1 ∙ sym b.1, h.1)

    pub one_weaving : OneScenario → ScenarioOrFault → OneFault → OneWeaving
    one_weaving one_scenario scenario_or_fault one_fault seed limit bytes out other lines others status other_status (read, reads, a) (next, rest, b) =
        let same = one_reading one_scenario scenario_or_fault one_fault bytes read next reads rest in
        same_told seed limit next out other lines others status other_status (subst (λ (r : Result Scenario ScenarioFault). RecordsOn (IsBySeed seed limit) r out lines status) same a) b

-- ---- the schedule

pub woven_texts_lead : SchedulesLead → EachIsChosen → WovenTextsLead
woven_texts_lead lead each s seed limit r well x =
    (x.schedule, x.network, x.texts.text, lead s seed limit x.schedule x.network x.ends x.is_woven, each s seed limit x.schedule x.network x.ends well x.is_woven)

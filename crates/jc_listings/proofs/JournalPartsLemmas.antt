-- About `JournalParts` and `Journals`: two networks behind the same events, the line of the next one, and lines one
-- after another. The functions of `journals` use it.
use Rattle.std.proofs.Common.{◌≡◌, ℕ, zero, suc, ◌+◌, ◌-◌, ◌<◌, ◌≤◌, List, [], ◌∷◌, ◌++◌, length, take, drop, get_or, slice_get, Bool, true, false, not, Option, Some, None, option_copied, refl, ap, sym, subst, ◌∙◌, append_assoc, append-nil, arith}
use Rattle.std.specs.Borrow.{Bor}
use Rattle.std.specs.List.{All}
use Rattle.std.proofs.lemmas.List.{take_more, take-take, drop_more}
use Rattle.std.proofs.lemmas.List.Elements.{All-append, All-get_or}
use Rattle.std.proofs.lemmas.Option.{slice_get_within, get_or_from_slice_get}
use Rattle.jc_rules.specs.declared.limits.TheConstants.{MAX_EVENTS}
use Rattle.jc_rules.specs.declared.operation.Event.{Event}
use Rattle.jc_rules.specs.declared.rule.Rule.{Rule}
use Rattle.jc_rules.specs.History.{begun}
use Rattle.jc_rules.specs.Refused.{Cause}
use Rattle.jc_rules.specs.Step.{Network, StepIn, AfterIn}
use Rattle.jc_rules.proofs.VersionLemmas.{one_step_in, stuck_in_has_none}
use Rattle.jc_printer.specs.Canon.{AreNamed}
use Rattle.jc_scenario.specs.WellFormed.{Scenario, IsWellFormedScenario}
use Rattle.jc_network.specs.declared.fault.Stuck.{Stuck}
use Rattle.jc_network.specs.Given.{before_given}
use Rattle.jc_network.specs.NetworkHistory.{NetworkHistory}
use Rattle.jc_network.specs.Steps.{IsStuckFor}
use Rattle.jc_network.proofs.AfterLemmas.{after_one_more}
use Rattle.jc_network.proofs.GivenLemmas.{led_or_stuck}
use Rattle.jc_effects.specs.declared.effects.Effects.{Effects}
use Rattle.jc_effects.specs.Difference.{Differences}
use Rattle.jc_journal.specs.Parts.{differences_in, differences_at}
use Rattle.jc_journal.specs.declared.event.NumberedEvent.{NumberedEvent}
use Rattle.jc_journal.specs.EventLine.{AreEffects, event_line}
use Rattle.jc_answers.specs.declared.arrays.ArrayText.{ArrayText}
use Rattle.jc_answers.specs.JsonTexts.{unended, array_text}
use Rattle.jc_answers.specs.Parts.{HasItems}
use Rattle.jc_listings.specs.declared.journals.Details.{Details}
use Rattle.jc_listings.specs.declared.journals.Networks.{Networks}
use Rattle.jc_listings.specs.Positions.{all_events, number_behind, IsAt, StopsAt}
use Rattle.jc_listings.specs.Journals.{rules_asked, IsMadeLine, stuck_line_in, AreLines, none, made, stuck, events_between, ListsLines, unreached, lists, IsLineBehind}
use Rattle.jc_listings.specs.JournalParts.{AreTwins, AreBehind, IsUnreached, IsLineMade, IsLineStuck, IsNextLine}

-- ---- one line

-- what is told of effects, by a reference to them
told_at : (r : Option (Bor Effects)) → differences_at r ≡ differences_in (option_copied r)
told_at None = refl
told_at (Some r) = refl

-- the line of an event that was made
pub made_told : (details : Details) (names : List (List ℕ)) (next : NumberedEvent) (old new : Network) (rows : List (Rule × ℕ)) (step : StepIn old next.event new rows) (effects : Option Effects) (r : Option (Bor Effects)) (rules : Option (List (Rule × ℕ))) (line text : List ℕ)
    → option_copied r ≡ effects → rules ≡ rules_asked details.trace rows → AreEffects details.effects next.event step.step.before step.step.after (differences_in effects)
    → line ≡ event_line names next.given next.number next.event rules (differences_at r) step.step.before step.step.after
    → text ≡ unended line
    → IsLineMade details names next old new text
made_told details names next old new rows step effects r rules line text same are_rules are_effects is cut =
    let told = told_at r ∙ ap differences_in same in (
      rows,
      step,
      record {
        effects = differences_in effects;
        are_effects = are_effects;
        is = cut ∙ ap unended (is ∙ (λ i. event_line names next.given next.number next.event (are_rules i) (told i) step.step.before step.step.after));
      },
    )

pub is_asked : (b : Bool) → not b ≡ false → b ≡ true
is_asked true h = refl
is_asked false h = absurd cc

-- its effects, where they are asked for
pub effects_where : (asked : Bool) (event : Event) (old new : Network) (effects : Option Differences) → asked ≡ true
    → ((rows : List (Rule × ℕ)) → (step : StepIn old event new rows) → AreEffects true event step.step.before step.step.after effects)
    → (rows : List (Rule × ℕ)) → (step : StepIn old event new rows) → AreEffects asked event step.step.before step.step.after effects
effects_where asked event old new effects is h rows step = subst (λ (b : Bool). AreEffects b event step.step.before step.step.after effects) (sym is) (h rows step)

-- the same line, of the same networks
pub line_moved : (details : Details) (names others : List (List ℕ)) (next : NumberedEvent) (old other new last : Network) (text : List ℕ) → names ≡ others → old ≡ other → last ≡ new → IsLineMade details names next old new text → IsLineMade details others next other last text
line_moved details names others next old other new last text p q r h =
    subst (λ (ns : List (List ℕ)). IsLineMade details ns next other last text) p
    (subst (λ (n : Network). IsLineMade details names next n last text) q
    (subst (λ (n : Network). IsLineMade details names next old n text) (sym r) h))

-- ---- what can be made

-- no network without earlier steps has made all that it may
pub not_full : (c : NetworkHistory) → c.history.earlier ≡ [] → MAX_EVENTS ≤ length c.history.earlier → ⊥
not_full c new full = let none : length c.history.earlier ≡ 0 = ap length new in omega (arith, none, full)

-- an event that can be made isn't stuck
pub not_stuck : (network : Network) (event : Event) (s : Stuck) → ((next : Network) × (rows : List (Rule × ℕ)) × StepIn network event next rows) → IsStuckFor network event s → ⊥
not_stuck network event s can h = stuck_in_has_none network can.0 event h.why can.1 h.stuck can.2

-- what can be made in the first can be made in the second
pub twin_can : (first second : NetworkHistory) (next : Network) (event : Event) (rows : List (Rule × ℕ)) → AreTwins first second → StepIn first.history.now event next rows → (M : Network) × (ls : List (Rule × ℕ)) × StepIn second.history.now event M ls
twin_can first second next event rows t step = (next, rows, subst (λ (n : Network). StepIn n event next rows) (sym t.same) step)

-- behind an event that is stuck there is nothing
pub not_behind : (s : Scenario) (schedule : List Event) (stop : ℕ) (K : Network) (e : Event) (why : Cause) (n : ℕ) (N : Network) → StopsAt s schedule stop K e why → stop < n → IsAt s schedule n N → ⊥
not_behind s schedule stop K e why n N stops lt h =
    let events = all_events s schedule in
    (led_or_stuck s.scripts (before_given s) (take n events) ([], refl)).1 N (stop + 1) e why h.after
    (record {
      before = stop;
      network = K;
      at_is = refl;
      led = subst (λ (es : List Event). AfterIn (before_given s) es K) (sym (take-take stop n events (omega (arith, lt)))) stops.is_at.after;
      is = get_taken events n stop lt ∙ stops.is;
      stuck = stops.stuck;
    })
  where
    get_taken : (xs : List Event) (n k : ℕ) → k < n → slice_get (take n xs) k ≡ slice_get xs k
    get_taken xs zero k h = absurd (omega (arith, h))
    get_taken [] (suc n) k h = refl
    get_taken (x ∷ xs) (suc n) zero h = refl
    get_taken (x ∷ xs) (suc n) (suc k) h = get_taken xs n k (omega (arith, h))

-- ---- two networks

-- once both made the event they are one again
pub twins_after : (first second third fourth last : NetworkHistory) (event : Event) (rows : List (Rule × ℕ)) → AreTwins first second → StepIn first.history.now event third.history.now rows → last ≡ record third { history = begun third.history.now } → ((ls : List (Rule × ℕ)) × StepIn second.history.now event fourth.history.now ls) → fourth.history.earlier ≡ [] → AreTwins last fourth
twins_after first second third fourth last event rows t step begins follows new =
    let here : last.history.now ≡ third.history.now = ap (λ (k : NetworkHistory). k.history.now) begins in
    let other = subst (λ (n : Network). StepIn n event fourth.history.now follows.0) t.same follows.1 in
    record {
      same = (one_step_in first.history.now event fourth.history.now third.history.now follows.0 rows other step).0 ∙ sym here;
      first_new = ap (λ (k : NetworkHistory). k.history.earlier) begins;
      second_new = new;
    }

-- the step, as seen where nothing is kept any more
pub step_begun : (first third last : NetworkHistory) (event : Event) (rows : List (Rule × ℕ)) → StepIn first.history.now event third.history.now rows → last ≡ record third { history = begun third.history.now } → StepIn first.history.now event last.history.now rows
step_begun first third last event rows step begins = subst (λ (n : Network). StepIn first.history.now event n rows) (sym (ap (λ (k : NetworkHistory). k.history.now) begins)) step

is_at_more : (s : Scenario) (schedule : List Event) (count : ℕ) (N M : Network) (event : Event) (rows : List (Rule × ℕ)) → IsAt s schedule count N → slice_get (all_events s schedule) count ≡ Some event → StepIn N event M rows → IsAt s schedule (count + 1) M
is_at_more s schedule count N M event rows at is step =
    let all = all_events s schedule in
    let lt : count < length all = slice_get_within all count event is in
    let next : get_or all count event ≡ event = get_or_from_slice_get all count event event is in
    let taken : take (count + 1) all ≡ take count all ++ event ∷ [] = take_more all count event lt ∙ ap (λ e. take count all ++ e ∷ []) next in
    record { within = omega arith; after = subst (λ (es : List Event). AfterIn (before_given s) es M) (sym taken) (after_one_more (before_given s) (take count all) N event M rows at.after step) }

pub behind_more : (s : Scenario) (schedule : List Event) (count : ℕ) (old new : Networks) (event : Event) → AreBehind s schedule count old → slice_get (all_events s schedule) count ≡ Some event → ((rows : List (Rule × ℕ)) × StepIn old.first.history.now event new.first.history.now rows) → AreTwins new.first new.second → new.first.names ≡ old.first.names → AreBehind s schedule (count + 1) new
behind_more s schedule count old new event b is step twins names = record {
  is_at = is_at_more s schedule count old.first.history.now new.first.history.now event step.0 b.is_at is step.1;
  twins = twins;
  names = names ∙ b.names;
}

-- ---- names

pub all_named : (s : Scenario) (schedule : List Event) → IsWellFormedScenario s → All (λ e. AreNamed e (length s.names)) schedule → All (λ e. AreNamed e (length s.names)) (all_events s schedule)
all_named s schedule formed named = All-append (λ e. AreNamed e (length s.names)) s.given schedule formed.given_known named

pub one_named : (size : ℕ) (es : List Event) (count : ℕ) (event : Event) → All (λ e. AreNamed e size) es → slice_get es count ≡ Some event → AreNamed event size
one_named size es count event all is =
    subst (λ e. AreNamed e size) (get_or_from_slice_get es count event event is) (All-get_or (λ e. AreNamed e size) es count event (slice_get_within es count event is) all)

-- ---- lines one after another

-- the events from one on, of which the first is this
next_between : (s : Scenario) (schedule : List Event) (count last : ℕ) (event : Event) → slice_get (all_events s schedule) count ≡ Some event → count < last → events_between s schedule count last ≡ event ∷ events_between s schedule (suc count) last
next_between s schedule count last event is lt =
    let all = all_events s schedule in
    let inside : count < length all = slice_get_within all count event is in
    let next : get_or all count event ≡ event = get_or_from_slice_get all count event event is in
    let one : count + 1 ≡ suc count = omega arith in
    let size : last - count ≡ suc (last - suc count) = omega arith in
    let rest : drop count all ≡ event ∷ drop (suc count) all = drop_more all count event inside ∙ (λ i. next i ∷ drop (one i) all) in
    (λ i. take (size i) (rest i))

none_between : (s : Scenario) (schedule : List Event) (count last : ℕ) → last ≤ count → events_between s schedule count last ≡ []
none_between s schedule count last le = let size : last - count ≡ 0 = omega arith in ap (λ n. take n (drop count (all_events s schedule))) size

-- The lines of the events before a count are listed. With those of the other ones behind them they are all.
pub record LinesGoOn (details : Details) (s : Scenario) (schedule : List Event) (first last : ℕ) (start : Network) (count : ℕ) (now : Network) (a : ArrayText) : Type 0 where
  pub texts : List (List ℕ)
  pub listed : HasItems a texts
  pub goes : (rest : List (List ℕ)) → AreLines details s count now (events_between s schedule count last) rest → AreLines details s first start (events_between s schedule first last) (texts ++ rest)

-- and both networks are there
pub record LinesHere (details : Details) (s : Scenario) (schedule : List Event) (first last : ℕ) (start : Network) (count : ℕ) (here other : NetworkHistory) (a : ArrayText) : Type 0 where
  pub twins : AreTwins here other
  pub names : here.names ≡ s.names
  pub lines : LinesGoOn details s schedule first last start count here.history.now a

-- the lines are there, and are these
abbrev pub AreListed : Details → Scenario → List Event → ℕ → ℕ → Network → ArrayText → Type 0
AreListed details s schedule first last start a =
    (texts : List (List ℕ)) × AreLines details s first start (events_between s schedule first last) texts × HasItems a texts

made_of : (details : Details) (names : List (List ℕ)) (next : NumberedEvent) (old new : Network) (is_stuck : Bool) (text : List ℕ) → is_stuck ≡ false → IsNextLine details names next old new is_stuck text → IsLineMade details names next old new text
made_of details names next old new false text is h = h
made_of details names next old new true text is h = absurd cc

stuck_of : (details : Details) (names : List (List ℕ)) (next : NumberedEvent) (old new : Network) (is_stuck : Bool) (text : List ℕ) → is_stuck ≡ true → IsNextLine details names next old new is_stuck text → IsLineStuck names next old text
stuck_of details names next old new true text is h = h
stuck_of details names next old new false text is h = absurd cc

module _ (details : Details) (s : Scenario) (schedule : List Event) (first last : ℕ) (start : Network) (count : ℕ) (now new : Network) (names : List (List ℕ)) (same : names ≡ s.names) (a b : ArrayText) (next : NumberedEvent) (h : LinesGoOn details s schedule first last start count now a) (lt : count < last) (is : slice_get (all_events s schedule) count ≡ Some next.event) (number : (next.given, next.number) ≡ number_behind s count) (is_stuck : Bool) (text : List ℕ) (line : IsNextLine details names next now new is_stuck text) (push : (ts : List (List ℕ)) → HasItems a ts → HasItems b (ts ++ text ∷ [])) where
  pub lines_more : is_stuck ≡ false → LinesGoOn details s schedule first last start (count + 1) new b
  lines_more no_stop =
      let m = made_of details names next now new is_stuck text no_stop line in
      let step = m.1 in
      let own : IsMadeLine details s.names (number_behind s count) next.event m.0 step.step.before step.step.after text =
      subst (λ (ns : List (List ℕ)). IsMadeLine details ns (number_behind s count) next.event m.0 step.step.before step.step.after text) same
      (subst (λ (n : Bool × ℕ). IsMadeLine details names n next.event m.0 step.step.before step.step.after text) number m.2) in
      let one : count + 1 ≡ suc count = omega arith in
      record {
        texts = h.texts ++ text ∷ [];
        listed = push h.texts h.listed;
        goes = λ rest k.
            let later : AreLines details s (suc count) new (events_between s schedule (suc count) last) rest = subst (λ (n : ℕ). AreLines details s n new (events_between s schedule n last) rest) one k in
            let here : AreLines details s count now (events_between s schedule count last) (text ∷ rest) = subst (λ (es : List Event). AreLines details s count now es (text ∷ rest)) (sym (next_between s schedule count last next.event is lt)) (made step own later) in
            subst (λ (ts : List (List ℕ)). AreLines details s first start (events_between s schedule first last) ts) (sym (append_assoc h.texts (text ∷ []) rest)) (h.goes (text ∷ rest) here);
      }

  pub lines_stuck : is_stuck ≡ true → AreListed details s schedule first last start b
  lines_stuck stops =
      let m = stuck_of details names next now new is_stuck text stops line in
      let own : text ≡ stuck_line_in s.names (number_behind s count) now m.0 next.event = m.2 ∙ (λ i. stuck_line_in (same i) (number i) now m.0 next.event) in
      let here : AreLines details s count now (events_between s schedule count last) (text ∷ []) =
      subst (λ (t : List ℕ). AreLines details s count now (events_between s schedule count last) (t ∷ [])) (sym own)
      (subst (λ (es : List Event). AreLines details s count now es (stuck_line_in s.names (number_behind s count) now m.0 next.event ∷ [])) (sym (next_between s schedule count last next.event is lt)) (stuck m.0 m.1)) in
      (h.texts ++ text ∷ [], h.goes (text ∷ []) here, push h.texts h.listed)

pub lines_end : (details : Details) (s : Scenario) (schedule : List Event) (first last : ℕ) (start : Network) (count : ℕ) (now : Network) (a : ArrayText) → LinesGoOn details s schedule first last start count now a → last ≤ count → AreListed details s schedule first last start a
lines_end details s schedule first last start count now a h all =
    let here : AreLines details s count now (events_between s schedule count last) [] = subst (λ (es : List Event). AreLines details s count now es []) (sym (none_between s schedule count last all)) none in
    (h.texts, subst (λ (ts : List (List ℕ)). AreLines details s first start (events_between s schedule first last) ts) (append-nil h.texts) (h.goes [] here), h.listed)

-- ---- the line of one event

module _ (details : Details) (s : Scenario) (schedule : List Event) (count : ℕ) (old : Networks) (new : Network) (next : NumberedEvent) (b : AreBehind s schedule count old) (is : slice_get (all_events s schedule) count ≡ Some next.event) (there : (M : Network) × IsAt s schedule (suc count) M) where
  -- an event behind which something is isn't stuck
  goes_on : (is_stuck : Bool) (text : List ℕ) → IsNextLine details old.first.names next old.first.history.now new is_stuck text → is_stuck ≡ false
  goes_on false text line = refl
  goes_on true text line =
      let le : count < suc count = omega arith in
      absurd (not_behind s schedule count old.first.history.now next.event line.0 (suc count) there.0 (record { is_at = b.is_at; is = is; stuck = line.1 }) le there.1)

  pub line_there : (is_stuck : Bool) (text : List ℕ) → (next.given, next.number) ≡ number_behind s count → IsNextLine details old.first.names next old.first.history.now new is_stuck text → IsLineBehind details s schedule count text
  line_there is_stuck text number line =
      let m = made_of details old.first.names next old.first.history.now new is_stuck text (goes_on is_stuck text line) line in
      record {
        network = old.first.history.now;
        between = new;
        event = next.event;
        rows = m.0;
        is_at = b.is_at;
        is = is;
        step = m.1;
        line = subst (λ (ns : List (List ℕ)). IsMadeLine details ns (number_behind s count) next.event m.0 m.1.step.before m.1.step.after text) b.names
            (subst (λ (n : Bool × ℕ). IsMadeLine details old.first.names n next.event m.0 m.1.step.before m.1.step.after text) number m.2);
      }

-- ---- answers

pub listed_between : (details : Details) (s : Scenario) (schedule : List Event) (first last : ℕ) (n : Networks) (answer : List ℕ) → AreBehind s schedule first n
    → ((texts : List (List ℕ)) × AreLines details s first n.first.history.now (events_between s schedule first last) texts × (answer ≡ array_text texts))
    → ListsLines details s schedule first last answer
listed_between details s schedule first last n answer b h = subst (λ (t : List ℕ). ListsLines details s schedule first last t) (sym h.2) (lists b.is_at h.1)

pub listed_none : (details : Details) (s : Scenario) (schedule : List Event) (first last : ℕ) (answer : List ℕ) → IsUnreached s schedule first → answer ≡ array_text [] → ListsLines details s schedule first last answer
listed_none details s schedule first last answer u is = subst (λ (t : List ℕ). ListsLines details s schedule first last t) (sym is) (unreached u.before u.stops)

-- About JournalResult: one line, a journal that goes on by one event, and its end. `journal_next` and `journal_events`
-- use it.
use Rattle.std.proofs.Common.{◌≡◌, ℕ, ◌+◌, ◌<◌, List, [], ◌∷◌, ◌++◌, length, take, drop, get_or, Bool, Option, Some, None, Result, Ok, Err, is_err, is_some, option_copied, IfSome, IfOk, true, false, refl, sym, ◌∙◌, ap, subst, append-nil, arith}
use Rattle.std.specs.Borrow.{Bor}
use Rattle.std.proofs.Math.Seq.{take-length}
use Rattle.jc_rules.specs.declared.operation.Event.{Event}
use Rattle.jc_rules.specs.declared.rule.Rule.{Rule}
use Rattle.jc_rules.specs.Refused.{Cause}
use Rattle.jc_rules.proofs.VersionLemmas.{one_step_in}
use Rattle.jc_rules.specs.Step.{Network, StepIn}
use Rattle.jc_rules.specs.Trace.{Rows}
use Rattle.jc_printer.specs.Canon.{AreNamed}
use Rattle.jc_network.specs.declared.fault.Stuck.{Stuck as StuckEvent}
use Rattle.jc_rules.specs.History.{begun, timeline}
use Rattle.jc_network.specs.NetworkHistory.{NetworkHistory, StepsTo}
use Rattle.jc_network.specs.Steps.{IsStuckFor, stuck_for}
use Rattle.jc_dump.specs.Lines.{IsNamedStuck}
use Rattle.jc_effects.specs.declared.effects.Effects.{Effects}
use Rattle.jc_effects.specs.Difference.{Differences}
use Rattle.jc_journal.specs.Parts.{differences_in, differences_at}
use Rattle.jc_journal.specs.declared.event.NumberedEvent.{NumberedEvent}
use Rattle.jc_journal.specs.EventLine.{IsBeforeLast, AreEffects, event_line}
use Rattle.jc_journal.specs.StuckLine.{stuck_event_line}
use Rattle.jc_out.specs.Out.{OutState, AddsText}
use Rattle.jc_out.proofs.OutLemmas.{adds_both}
use Rattle.jc_program.specs.JournalResult.{IsBehind, CatchesUp, IsLineOf, JournalsNext, JournalsAll}
use Rattle.jc_program.specs.Journals.{Asked, rows_asked, IsEventLine, JournalBy, JournalStops}
use Rattle.jc_program.specs.PlayResult.{Added}
use Rattle.jc_program.specs.Runs.{Made, events_of}
use Rattle.jc_program.proofs.JournalsLemmas.{lines_both}
use Rattle.jc_program.proofs.PlayResultLemmas.{made_count, split_here, taken_more}

-- ---- one line

module _ (asked : Asked) (old new : NetworkHistory) (behind : Option NetworkHistory) (e : NumberedEvent) (rows : Rows) (to : StepsTo old e.event new rows) (rules : Option (List (Rule × ℕ))) (are_rules : rules ≡ rows_asked asked.rules rows.rows) (told : is_some behind ≡ asked.effects) (is_behind : IsBehind behind old.history.now) where
  -- an event that was made
  pub event_made : (line : List ℕ) → IsLineOf new behind e rules line → JournalsNext asked old new e line false
  event_made line h =
      let A = to.step.step.before in
      let B = to.step.step.after in
      let x = h old.history.now rows.rows (record { before = old.history.earlier; earlier = to.earlier }) to.step is_behind in
      (rows, to, (x.0, subst (λ (b : Bool). AreEffects b e.event A B x.0) told x.1, x.2 ∙ (λ i. event_line (to.names i) e.given e.number e.event (are_rules i) x.0 A B)))

-- ---- the network behind

-- what is told of effects, by a reference to them
told_at : (r : Option (Bor Effects)) → differences_at r ≡ differences_in (option_copied r)
told_at r = grind arith

-- what differs from the network behind is what the event changed
pub told_some : (c : NetworkHistory) (e : Event) (new : Network) (x : Option Differences) → ((rows : List (Rule × ℕ)) → (made : StepIn c.history.now e new rows) → AreEffects true e made.step.before made.step.after x)
    → (first : Network) (rows : List (Rule × ℕ)) → (made : StepIn first e new rows) → IsBehind (Some c) first → AreEffects true e made.step.before made.step.after x
told_some c e new x h first rows made b = subst (λ (F : Network). (ls : List (Rule × ℕ)) → (s : StepIn F e new ls) → AreEffects true e s.step.before s.step.after x) b.0 h rows made

-- the line of an event, with what is told of its effects
pub line_told : (net : NetworkHistory) (behind : Option NetworkHistory) (e : NumberedEvent) (rules : Option (List (Rule × ℕ))) (effects : Option Effects) (r : Option (Bor Effects)) (line : List ℕ)
    → option_copied r ≡ effects
    → ((first : Network) (rows : List (Rule × ℕ)) → (made : StepIn first e.event net.history.now rows) → IsBehind behind first → AreEffects (is_some behind) e.event made.step.before made.step.after (differences_in effects))
    → ((first : Network) (rows : List (Rule × ℕ)) → IsBeforeLast first net.history → (made : StepIn first e.event net.history.now rows) → line ≡ event_line net.names e.given e.number e.event rules (differences_at r) made.step.before made.step.after)
    → IsLineOf net behind e rules line
line_told net behind e rules effects r line same told h first rows last made b =
    (differences_in effects, told first rows made b, h first rows last made ∙ ap (λ (x : Option Differences). event_line net.names e.given e.number e.event rules x made.step.before made.step.after) (told_at r ∙ ap differences_in same))

pub behind_last : (behind : Option NetworkHistory) (old new : NetworkHistory) → IsBehind behind old.history.now → new.history.earlier ≡ timeline old.history → IfSome behind (λ c. IsBeforeLast c.history.now new.history)
behind_last None old new b e = tt
behind_last (Some c) old new b e = record { before = old.history.earlier; earlier = e ∙ ap (λ (N : Network). old.history.earlier ++ N ∷ []) (sym b.0) }

-- a network that made the event, and then keeps nothing to go back with
pub catches_up : {E : Type 0} (event : Event) (old new after : NetworkHistory) (r : Result Rows E) → is_err r ≡ false → IfOk r (λ t. StepsTo old event new t) → after ≡ record new { history = begun new.history.now } → CatchesUp event (Some old) (Some after)
catches_up event old new after (Ok t) e s b =
    ((t.rows, subst (λ (n : NetworkHistory). StepIn old.history.now event n.history.now t.rows) (sym b) s.step), ap (λ (n : NetworkHistory). n.history.earlier) b)
catches_up event old new after (Err x) e s b = let no : true ≡ false = e in cc

-- once it has made the event it is at the network after it
pub caught_up : (event : Event) (behind now : Option NetworkHistory) (old new : Network) (rows : List (Rule × ℕ)) → IsBehind behind old → CatchesUp event behind now → StepIn old event new rows → IsBehind now new × (is_some now ≡ is_some behind)
caught_up event None None old new rows b h s = (tt, refl)
caught_up event (Some c) (Some d) old new rows b h s =
    let from = subst (λ (N : Network). StepIn N event d.history.now h.0.0) b.0 h.0.1 in
    (((one_step_in old event d.history.now new h.0.0 rows from s).0, h.1), refl)
caught_up event _ _ old new rows b h s = absurd h

module _ (asked : Asked) (old new : NetworkHistory) (e : NumberedEvent) (s : StuckEvent) (x : IsStuckFor old.history.now e.event s) (same : new ≡ old) where
  -- a stuck one
  pub stuck_named : AreNamed e.event (length old.names) → IsNamedStuck new.names s
  stuck_named named = rw same (record { why = x.why; event = e.event; is = x.is; named = named })

  pub event_stuck : (line : List ℕ) → ((why : Cause) → s ≡ stuck_for why s.event → line ≡ stuck_event_line new.names e.given e.number new.history.now.states why s.event) → JournalsNext asked old new e line true
  event_stuck line h =
      let its : s.event ≡ e.event = ap (λ (t : StuckEvent). t.event) x.is in
      let own = h x.why (x.is ∙ ap (stuck_for x.why) (sym its)) in
      (same, x.why, x.stuck, cc)

-- ---- all events

-- the events before a place of the list were made, and their lines were added
pub record LinesGoOn (asked : Asked) (given : Bool) (names : List (List ℕ)) (first now : Network) (es : List Event) (i : ℕ) (a b : OutState) : Type 0 where
  pub made : List Made
  pub text : List ℕ
  pub goes : JournalBy asked given names 1 first made now text
  pub taken : take i es ≡ events_of made
  pub added : AddsText text a b

abbrev pub numbered_event : Bool → List Event → ℕ → ℕ → Event → NumberedEvent
numbered_event given es i n d = record { event = get_or es i d; number = n; given = given }

module _ {asked : Asked} {given : Bool} (old now : NetworkHistory) {es : List Event} {i : ℕ} {a b : OutState} (names : now.names ≡ old.names) (so_far : LinesGoOn asked given old.names old.history.now now.history.now es i a b) where
  module _ (new : NetworkHistory) (n : ℕ) (d : Event) (c : OutState) (line : List ℕ) (inside : i < length es) (numbered : n ≡ i + 1) (more : AddsText line b c) where
    number : n ≡ 1 + length so_far.made
    number = let count = made_count es i so_far.made (omega (arith, inside)) so_far.taken in omega (arith, numbered, count)

    -- the event at the place was made
    pub line_here : JournalsNext asked now new (numbered_event given es i n d) line false → LinesGoOn asked given old.names old.history.now new.history.now es (i + 1) a c × (new.names ≡ old.names)
    line_here (rows, to, own) =
        let e = get_or es i d in
        let m : Made = (e, rows.rows) in
        let is : IsEventLine asked given old.names (1 + length so_far.made) e rows.rows to.step.step.before to.step.step.after line = rw (names, number) at own in (
          record {
            made = so_far.made ++ m ∷ [];
            text = so_far.text ++ line;
            goes = lines_both asked given old.names 1 old.history.now so_far.made now.history.now (m ∷ []) new.history.now so_far.text line so_far.goes (new.history.now, to.step, line, [], is, (refl, refl), sym (append-nil line));
            taken = taken_more es i so_far.made d rows.rows inside so_far.taken;
            added = adds_both a b c so_far.text line so_far.added more;
          },
          to.names ∙ names,
        )

    -- it is stuck
    pub line_stops : JournalsNext asked now new (numbered_event given es i n d) line true → JournalsAll asked given old new es a c true
    line_stops (same, why, stuck, is) =
        let e = get_or es i d in
        let last : n ≡ length so_far.made + 1 = omega (arith, number) in
        let its : line ≡ stuck_event_line old.names given (length so_far.made + 1) now.history.now.states why e = is ∙ (λ j. stuck_event_line (names j) given (last j) now.history.now.states why e) in
        rw same (record {
          stuck = Some (e, why);
          text = so_far.text ++ line;
          journal = record {
            made = so_far.made;
            lines = so_far.text;
            goes = so_far.goes;
            ends = (drop (i + 1) es, split_here es i so_far.made d inside so_far.taken, stuck);
            written = ap (λ t. so_far.text ++ t) its;
          };
          tells = refl;
          names = names;
          added = adds_both a b c so_far.text line so_far.added more;
        })

  -- all events were made
  pub lines_end : length es ≡ i → JournalsAll asked given old now es a b false
  lines_end all =
      let whole : es ≡ events_of so_far.made = sym (take-length es) ∙ (ap (λ k. take k es) all ∙ so_far.taken) in
      record {
        stuck = None;
        text = so_far.text;
        journal = record { made = so_far.made; lines = so_far.text; goes = so_far.goes; ends = whole; written = sym (append-nil so_far.text) };
        tells = refl;
        names = names;
        added = so_far.added;
      }

  -- those before a halt
  pub lines_stand : (d : Event) → i < length es → Added (JournalStops asked given old.names old.history.now es) a b
  lines_stand d inside =
      let first = split_here es i so_far.made d inside so_far.taken in
      (so_far.text, record { made = so_far.made; next = get_or es i d; more = drop (i + 1) es; last = now.history.now; goes = so_far.goes; are_first = first }, so_far.added)

-- About PlayResult: a run that goes on by one event, and its end. The functions of `run` use it.
use Rattle.std.proofs.Common.{◌≡◌, ℕ, ◌+◌, ◌<◌, ◌≤◌, List, [], ◌∷◌, ◌++◌, length, take, drop, get_or, Bool, Some, None, refl, ap, sym, ◌∙◌, subst, append_assoc, append-nil, add-zero, arith}
use Rattle.std.proofs.lemmas.Grind.{common_steps}
use Rattle.std.proofs.lemmas.List.{take_more, take-append-drop, map-append}
use Rattle.std.proofs.Math.Seq.{take-length}
use Rattle.jc_rules.specs.declared.operation.Event.{Event}
use Rattle.jc_rules.specs.declared.rule.Rule.{Rule}
use Rattle.jc_rules.specs.Step.{Network}
use Rattle.jc_rules.specs.Trace.{Rows}
use Rattle.jc_printer.specs.Canon.{AreNamed}
use Rattle.jc_network.specs.declared.fault.Stuck.{Stuck as StuckEvent}
use Rattle.jc_network.specs.NetworkHistory.{NetworkHistory, StepsTo}
use Rattle.jc_network.specs.Steps.{IsStuckFor}
use Rattle.jc_out.specs.Out.{OutState, AddsText}
use Rattle.jc_out.proofs.OutLemmas.{adds_both, adds_same}
use Rattle.jc_program.specs.Texts.{event_text}
use Rattle.jc_program.specs.Runs.{Made, GoesBy, events_of, events_text}
use Rattle.jc_program.specs.PlayResult.{Added, PlaysAll}
use Rattle.jc_program.specs.ViewOutput.{Begins}

-- ---- some events, and the others behind them

pub goes_both : (network : Network) (made : List Made) (between : Network) (others : List Made) (last : Network) → GoesBy network made between → GoesBy between others last → GoesBy network (made ++ others) last
goes_both network [] between others last a b = subst (λ (N : Network). GoesBy N others last) a b
goes_both network (m ∷ made) between others last a b = (a.0, a.1, goes_both a.0 made between others last a.2 b)

pub events_text-both : (trace : Bool) (names : List (List ℕ)) (n : ℕ) (made others : List Made) → events_text trace names n (made ++ others) ≡ events_text trace names n made ++ events_text trace names (n + length made) others
events_text-both trace names n [] others = ap (λ k. events_text trace names k others) (sym (add-zero n))
events_text-both trace names n (m ∷ made) others =
    let number : n + 1 + length made ≡ n + length (m ∷ made) = omega arith in
    let block = event_text trace names n m.0 m.1 in
    ap (λ t. block ++ t) (events_text-both trace names (n + 1) made others ∙ ap (λ k. events_text trace names (n + 1) made ++ events_text trace names k others) number)
    ∙ sym (append_assoc block (events_text trace names (n + 1) made) (events_text trace names (n + length (m ∷ made)) others))

-- ---- events before a place of the list

-- as many were made as were taken
pub made_count : (es : List Event) (i : ℕ) (made : List Made) → i ≤ length es → take i es ≡ events_of made → length made ≡ i
made_count es i made h e = grind (arith, common_steps)

-- the events that were made, the next one and the rest
pub split_here : (es : List Event) (i : ℕ) (made : List Made) (d : Event) → i < length es → take i es ≡ events_of made → es ≡ events_of made ++ get_or es i d ∷ drop (i + 1) es
split_here es i made d h e = grind (arith, common_steps)

-- one more was made
pub taken_more : (es : List Event) (i : ℕ) (made : List Made) (d : Event) (rows : List (Rule × ℕ)) → i < length es → take i es ≡ events_of made → take (i + 1) es ≡ events_of (made ++ (get_or es i d, rows) ∷ [])
taken_more es i made d rows h e = take_more es i d h ∙ (ap (λ l. l ++ get_or es i d ∷ []) e ∙ sym (map-append (λ (m : Made). m.0) made ((get_or es i d, rows) ∷ [])))

-- the text of one more
text_more : (trace : Bool) (names : List (List ℕ)) (made : List Made) (m : Made) (n : ℕ) → n ≡ length made + 1 → events_text trace names 1 made ++ event_text trace names n m.0 m.1 ≡ events_text trace names 1 (made ++ m ∷ [])
text_more trace names made m n count =
    let number : n ≡ 1 + length made = omega (arith, count) in
    rw number (ap (λ t. events_text trace names 1 made ++ t) (sym (append-nil _)) ∙ sym (events_text-both trace names 1 made (m ∷ [])))

-- a text was added, and then nothing more
pub adds_on : (a b c : OutState) (text : List ℕ) → AddsText text a b → AddsText [] b c → AddsText text a c
adds_on a b c text h none = adds_same a c (text ++ []) text (append-nil text) (adds_both a b c text [] h none)

-- ---- a run

-- the events before a place of the list were made, and their blocks were added
pub record GoesOn (trace : Bool) (names : List (List ℕ)) (first now : Network) (es : List Event) (i : ℕ) (a b : OutState) : Type 0 where
  pub made : List Made
  pub goes : GoesBy first made now
  pub taken : take i es ≡ events_of made
  pub added : AddsText (events_text trace names 1 made) a b

module _ {trace : Bool} (old now : NetworkHistory) {es : List Event} {i : ℕ} {a b : OutState} (names : now.names ≡ old.names) (so_far : GoesOn trace old.names old.history.now now.history.now es i a b) where
  -- the event at the place is stuck
  pub stops_here : (new : NetworkHistory) (d : Event) (s : StuckEvent) → i < length es → AreNamed (get_or es i d) (length old.names) → IsStuckFor now.history.now (get_or es i d) s → new ≡ now → PlaysAll trace old new es a b (Some s)
  stops_here new d s inside named stuck same =
      let ends = split_here es i so_far.made d inside so_far.taken in
      rw same (record {
        stuck = Some (get_or es i d, stuck.why);
        text = events_text trace old.names 1 so_far.made;
        plays = record { made = so_far.made; goes = so_far.goes; ends = (drop (i + 1) es, ends, stuck.stuck); shown = refl };
        tells = (stuck.is, named);
        names = names;
        added = so_far.added;
      })

  -- it was made
  pub goes_here : (new : NetworkHistory) (n : ℕ) (d : Event) (rows : Rows) (c : OutState) → n ≡ i + 1 → i < length es → StepsTo now (get_or es i d) new rows → AddsText (event_text trace now.names n (get_or es i d) rows.rows) b c → GoesOn trace old.names old.history.now new.history.now es (i + 1) a c
  goes_here new n d rows c number inside to more =
      let made = so_far.made in
      let m : Made = (get_or es i d, rows.rows) in
      let count : length made ≡ i = made_count es i made (omega (arith, inside)) so_far.taken in
      let block = subst (λ ns. AddsText (event_text trace ns n m.0 m.1) b c) names more in
      record {
        made = made ++ m ∷ [];
        goes = goes_both old.history.now made now.history.now (m ∷ []) new.history.now so_far.goes (new.history.now, to.step, refl);
        taken = taken_more es i made d rows.rows inside so_far.taken;
        added = adds_same a c _ _ (text_more trace old.names made m n (omega (arith, number, count))) (adds_both a b c _ _ so_far.added block);
      }

  -- all events were made
  pub ends_here : length es ≡ i → PlaysAll trace old now es a b None
  ends_here all =
      let whole : es ≡ events_of so_far.made = sym (take-length es) ∙ (ap (λ k. take k es) all ∙ so_far.taken) in
      record {
        stuck = None;
        text = events_text trace old.names 1 so_far.made;
        plays = record { made = so_far.made; goes = so_far.goes; ends = whole; shown = refl };
        tells = tt;
        names = names;
        added = so_far.added;
      }

  -- the run halted, and added nothing more
  pub halts_here : (c : OutState) → AddsText [] b c → Added (Begins trace old.names old.history.now es) a c
  halts_here c none =
      let text = events_text trace old.names 1 so_far.made in
      let events : es ≡ events_of so_far.made ++ drop i es = sym (take-append-drop i es) ∙ ap (λ l. l ++ drop i es) so_far.taken in
      (text, record { made = so_far.made; more = drop i es; last = now.history.now; goes = so_far.goes; events = events; shown = refl }, adds_on a b c text so_far.added none)

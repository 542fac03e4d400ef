-- About Journals: lines that follow one another, what they say of the network, and that the same events have one text.
use Rattle.std.proofs.Common.{◌≡◌, ℕ, ◌+◌, List, [], ◌∷◌, ◌++◌, length, take, slice_get, Bool, Option, Some, None, refl, sym, ◌∙◌, ap, subst, append_assoc, add-zero, arith}
use Rattle.std.proofs.lemmas.Option.{same_Some}
use Rattle.jc_rules.specs.declared.operation.Event.{Event}
use Rattle.jc_rules.specs.declared.rule.Rule.{Rule}
use Rattle.jc_rules.specs.Laws.{OneStepIn}
use Rattle.jc_rules.specs.Refused.{Cause}
use Rattle.jc_rules.specs.State.{State}
use Rattle.jc_rules.specs.Step.{Step, Network, AfterIn, replica_of}
use Rattle.jc_rules.specs.Syntax.{Cmd}
use Rattle.jc_effects.specs.Difference.{Differences}
use Rattle.jc_network.specs.Given.{IsGivenStuck}
use Rattle.jc_network.specs.Laws.{IsReached}
use Rattle.jc_network.proofs.GivenLemmas.{reached_more}
use Rattle.jc_network.proofs.MembersLemmas.{set_there}
use Rattle.jc_journal.specs.EventLine.{event_line}
use Rattle.jc_journal.proofs.EventEffectsLemmas.{told_effects, same_effects}
use Rattle.jc_program.specs.Journals.{Asked, rows_asked, IsEventLine, JournalBy, JournalOf}
use Rattle.jc_program.specs.Runs.{Made, GoesBy, events_of}

-- ---- lines

-- those of some events, and of the others behind them
pub lines_both : (asked : Asked) (given : Bool) (names : List (List ℕ)) (n : ℕ) (network : Network) (made : List Made) (between : Network) (others : List Made) (last : Network) (text more : List ℕ)
    → JournalBy asked given names n network made between text
    → JournalBy asked given names (n + length made) between others last more
    → JournalBy asked given names n network (made ++ others) last (text ++ more)
lines_both asked given names n network [] between others last text more a b =
    let here = subst (λ (N : Network). JournalBy asked given names n N others last more) a.0 (subst (λ k. JournalBy asked given names k between others last more) (add-zero n) b) in
    subst (λ t. JournalBy asked given names n network others last (t ++ more)) (sym a.1) here
lines_both asked given names n network (m ∷ made) between others last text more a b =
    let number : n + length (m ∷ made) ≡ n + 1 + length made = omega arith in
    let later = lines_both asked given names (n + 1) a.0 made between others last a.3 more a.5 (subst (λ k. JournalBy asked given names k between others last more) number b) in
    (a.0, a.1, a.2, a.3 ++ more, a.4, later, ap (λ t. t ++ more) a.6 ∙ append_assoc a.2 a.3 more)

-- the events of the lines were made
pub lines_go : (asked : Asked) (given : Bool) (names : List (List ℕ)) (n : ℕ) (network : Network) (made : List Made) (last : Network) (text : List ℕ) → JournalBy asked given names n network made last text → GoesBy network made last
lines_go asked given names n network [] last text h = h.0
lines_go asked given names n network (m ∷ made) last text h = (h.0, h.1, lines_go asked given names (n + 1) h.0 made last h.3 h.5)

-- events that were made have lines
pub lines_of : (scripts : List (List Cmd)) (asked : Asked) (given : Bool) (names : List (List ℕ)) (n : ℕ) (network : Network) (made : List Made) (last : Network) → IsReached scripts network.states → GoesBy network made last → (text : List ℕ) × JournalBy asked given names n network made last text
lines_of scripts asked given names n network [] last r g = ([], (g, refl))
lines_of scripts asked given names n network (m ∷ made) last r g =
    let s = g.1.step in
    let x = told_effects asked.effects scripts network.states g.0.states m.0 m.1 r s in
    let line = event_line names given n m.0 (rows_asked asked.rules m.1) x.0 s.before s.after in
    let rest = lines_of scripts asked given names (n + 1) g.0 made last (reached_more scripts network g.0 m.0 m.1 r g.1) g.2 in
    (line ++ rest.0, (g.0, g.1, line, rest.0, (x.0, x.1, refl), rest.1, refl))

-- ---- one text

-- steps of one network by one event that lead to one network have one state of its replica after them
same_after : (N : List State) (e : Event) (M K : List State) (rows others : List (Rule × ℕ)) (s : Step N e M rows) (t : Step N e K others) → M ≡ K → s.after ≡ t.after
same_after N e M K rows others s t same =
    let p = replica_of e in
    let one : slice_get M p ≡ Some s.after = ap (λ (L : List State). slice_get L p) s.is_new ∙ set_there N p s.before s.after s.is_there in
    let two : slice_get K p ≡ Some t.after = ap (λ (L : List State). slice_get L p) t.is_new ∙ set_there N p t.before t.after t.is_there in
    same_Some s.after t.after (sym one ∙ (ap (λ (L : List State). slice_get L p) same ∙ two))

-- one event has one line
same_line : (asked : Asked) (given : Bool) (names : List (List ℕ)) (n : ℕ) (event : Event) (rows : List (Rule × ℕ)) (A B : State) (line other : List ℕ) → IsEventLine asked given names n event rows A B line → IsEventLine asked given names n event rows A B other → line ≡ other
same_line asked given names n event rows A B line other a b =
    a.2 ∙ (ap (λ (x : Option Differences). event_line names given n event (rows_asked asked.rules rows) x A B) (same_effects asked.effects event A B a.0 b.0 a.1 b.1) ∙ sym b.2)

module _ (one_step : OneStepIn) where
  pub same_lines : (asked : Asked) (given : Bool) (names : List (List ℕ)) (n : ℕ) (network : Network) (made : List Made) (last other : Network) (text more : List ℕ) → JournalBy asked given names n network made last text → JournalBy asked given names n network made other more → text ≡ more
  same_lines asked given names n network [] last other text more a b = a.1 ∙ sym b.1
  same_lines asked given names n network (m ∷ made) last other text more a b =
      let between : a.0 ≡ b.0 = (one_step network m.0 a.0 b.0 m.1 m.1 a.1 b.1).0 in
      let states : a.0.states ≡ b.0.states = ap (λ (N : Network). N.states) between in
      let before : a.1.step.before ≡ b.1.step.before = same_Some a.1.step.before b.1.step.before (sym a.1.step.is_there ∙ b.1.step.is_there) in
      let after = same_after network.states m.0 a.0.states b.0.states m.1 m.1 a.1.step b.1.step states in
      let own : IsEventLine asked given names n m.0 m.1 b.1.step.before b.1.step.after a.2 = rw (before, after) at a.4 in
      let line : a.2 ≡ b.2 = same_line asked given names n m.0 m.1 b.1.step.before b.1.step.after a.2 b.2 own b.4 in
      let here = subst (λ (N : Network). JournalBy asked given names (n + 1) N made last a.3) between a.5 in
      let rest : a.3 ≡ b.3 = same_lines asked given names (n + 1) b.0 made last other a.3 b.3 here b.5 in
      a.6 ∙ ((λ i. line i ++ rest i) ∙ sym b.6)

-- ---- journals

pub after_made : (network : Network) (made : List Made) (last : Network) → GoesBy network made last → AfterIn network (events_of made) last
after_made network [] last g = sym g
after_made network (m ∷ made) last g = (g.0, m.1, g.1, after_made g.0 made last g.2)

-- where none is stuck, all events led to the last network
pub all_led : (asked : Asked) (given : Bool) (names : List (List ℕ)) (network : Network) (events : List Event) (last : Network) (text : List ℕ) → JournalOf asked given names network events last None text → AfterIn network events last
all_led asked given names network events last text h =
    subst (λ (es : List Event). AfterIn network es last) (sym h.ends) (after_made network h.made last (lines_go asked given names 1 network h.made last h.lines h.goes))

first_made : (made : List Made) (more : List Event) → take (length made) (events_of made ++ more) ≡ events_of made
first_made [] more = refl
first_made (m ∷ made) more = ap (λ es. m.0 ∷ es) (first_made made more)

next_made : (made : List Made) (event : Event) (more : List Event) → slice_get (events_of made ++ event ∷ more) (length made) ≡ Some event
next_made [] event more = refl
next_made (m ∷ made) event more = next_made made event more

-- and where one is, it is the first that is
pub first_stuck : (asked : Asked) (given : Bool) (names : List (List ℕ)) (network : Network) (events : List Event) (last : Network) (event : Event) (why : Cause) (text : List ℕ) → JournalOf asked given names network events last (Some (event, why)) text → (at : ℕ) × IsGivenStuck network events at event why
first_stuck asked given names network events last event why text h =
    let made = h.made in
    let more : List Event = h.ends.0 in
    let goes = lines_go asked given names 1 network made last h.lines h.goes in
    let front : take (length made) events ≡ events_of made = ap (take (length made)) h.ends.1 ∙ first_made made (event ∷ more) in (
      length made + 1,
      record {
        before = length made;
        network = last;
        at_is = refl;
        led = subst (λ (es : List Event). AfterIn network es last) (sym front) (after_made network made last goes);
        is = ap (λ (es : List Event). slice_get es (length made)) h.ends.1 ∙ next_made made event more;
        stuck = h.ends.2;
      },
    )

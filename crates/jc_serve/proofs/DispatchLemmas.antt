-- Of `Answers` and `AnswerOf`: which function answers a request.
use Rattle.std.proofs.Common.{◌≡◌, ℕ, Bool, List, length, Option, Vec, Global, refl, sym, ap, subst, ◌∙◌}
use Rattle.std.specs.declared.alloc.Global.{Global}
use Rattle.std.specs.declared.vec.Vec.{Vec}
use Rattle.jc_printer.specs.Canon.{quoted}
use Rattle.jc_scenario.specs.Canon.{canon}
use Rattle.jc_scenario.specs.Views.{scenario_view}
use Rattle.jc_scenario.specs.WellFormed.{Scenario, IsScenario}
use Rattle.jc_choice.specs.Laws.{with_schedule}
use Rattle.jc_session.specs.Requests as Q
use Rattle.jc_requests.specs.Asked as K
use Rattle.jc_requests.specs.Asked.{Asked, Position}
use Rattle.jc_answers.specs.JsonTexts.{array_text}
use Rattle.jc_looks.specs.declared.fault.LookFault.{LookFault}
use Rattle.jc_looks.specs.declared.fault.LookFault.TheVariants as F
use Rattle.jc_looks.specs.declared.looks.Look.{Look}
use Rattle.jc_looks.specs.LookFaults.{RefusesBy}
use Rattle.jc_listings.specs.Journals.{AnswersJournal, AnswersEvent}
use Rattle.jc_listings.specs.Places.{IsPlaces}
use Rattle.jc_listings.specs.WovenTexts.{IsWovenText}
use Rattle.jc_serve.specs.declared.served.Served.{Served as AnyServed}
use Rattle.jc_serve.specs.declared.stuck.GivenStop.{GivenStop as AnyGivenStop}
use Rattle.jc_serve.specs.declared.subjects.Subject.TheVariants as S
use Rattle.jc_serve.specs.Answers as A
use Rattle.jc_serve.specs.Answers.{details, quit_answer, mark_answers, AnswersServed, AnswersStuck}
use Rattle.jc_serve.specs.Asking as G
use Rattle.jc_serve.specs.Asking.{IsBadLook, AsksLook, LooksAt}
use Rattle.jc_serve.specs.AnswerOf.{LeadsTo, ShowsIn, IsOfStop, IsStopLook, AnswersStop, IsSomeStop, IsSubjectOf, AnswersRefusedBy, AnswersOn}
use Rattle.jc_serve.specs.InMemory.{state_of}
use Rattle.jc_serve.specs.Marks.{Served}
use Rattle.jc_serve.specs.Subjects.{Subject, no_scenario, stuck_given, served}
use Rattle.jc_serve.proofs.AnswersLemmas.{shows_lead}
use Rattle.jc_serve.proofs.StopAnswersLemmas.{look_answer}

-- ---- where there is a session

pub quit_lead : (text : List ℕ) (x : AnyServed) (answer : List ℕ) → answer ≡ quit_answer → LeadsTo text x (K.of_session Q.quit) x answer
quit_lead text x answer is s start v = (subst (λ (t : List ℕ). AnswersServed text s start (state_of x) (K.of_session Q.quit) (state_of x) t) (sym is) A.quits, v)

pub places_lead : (text : List ℕ) (x : AnyServed) (answer : List ℕ) → IsPlaces text answer → LeadsTo text x K.places x answer
places_lead text x answer h s start v = (A.places h, v)

pub weave_lead : (text : List ℕ) (x : AnyServed) (seed limit : ℕ) (answer : List ℕ) → IsWovenText (scenario_view x.scenario) seed limit answer → LeadsTo text x (K.weave seed limit) x answer
weave_lead text x seed limit answer h s start v = (A.weaves (subst (λ (t : Scenario). IsWovenText t seed limit answer) v.scenario h), v)

pub print_lead : (text : List ℕ) (x y : AnyServed) (answer : List ℕ) → ShowsIn (λ s A answer. answer ≡ quoted (canon (with_schedule s A.schedule))) x y answer → LeadsTo text x K.print y answer
print_lead text x y answer h =
    shows_lead (λ s A answer. answer ≡ quoted (canon (with_schedule s A.schedule))) text x y K.print answer (λ s start v is.
    subst (λ (t : List ℕ). AnswersServed text s start (state_of x) K.print (state_of x) t) (sym is) A.prints) h

pub breaks_lead : (text : List ℕ) (x y : AnyServed) (answer : List ℕ) → ShowsIn (λ s A answer. answer ≡ array_text (mark_answers s.names 1 A.marks)) x y answer → LeadsTo text x K.breaks y answer
breaks_lead text x y answer h =
    shows_lead (λ s A answer. answer ≡ array_text (mark_answers s.names 1 A.marks)) text x y K.breaks answer (λ s start v is.
    subst (λ (t : List ℕ). AnswersServed text s start (state_of x) K.breaks (state_of x) t) (sym is) A.lists_breaks) h

pub event_lead : (text : List ℕ) (x y : AnyServed) (at : Option Position) (trace effects : Bool) (answer : List ℕ) → ShowsIn (λ s B answer. AnswersEvent (details trace effects) s B.schedule B.position at answer) x y answer → LeadsTo text x (K.event at trace effects) y answer
event_lead text x y at trace effects answer h =
    shows_lead (λ s B answer. AnswersEvent (details trace effects) s B.schedule B.position at answer) text x y (K.event at trace effects) answer (λ s start v told. A.tells_event told) h

pub journal_lead : (text : List ℕ) (x y : AnyServed) (trace effects : Bool) (between : Option (Position × Position)) (answer : List ℕ) → ShowsIn (λ s B answer. AnswersJournal (details trace effects) s B.schedule between answer) x y answer → LeadsTo text x (K.journal trace effects between) y answer
journal_lead text x y trace effects between answer h =
    shows_lead (λ s B answer. AnswersJournal (details trace effects) s B.schedule between answer) text x y (K.journal trace effects between) answer (λ s start v told. A.tells_journal told) h

pub look_lead : (text : List ℕ) (x y : AnyServed) (names : List (List ℕ)) (r : Asked) (at : Option Position) (look : Look) (answer : List ℕ) → names ≡ x.scenario.names.items → AsksLook names r at look → ShowsIn (λ s A answer. LooksAt s A.schedule A.position at look answer) x y answer → LeadsTo text x r y answer
look_lead text x y names r at look answer same asks h =
    shows_lead (λ s A answer. LooksAt s A.schedule A.position at look answer) text x y r answer (λ s start v shown.
    A.looks (G.looks (subst (λ (ns : List (List ℕ)). AsksLook ns r at look) (same ∙ ap (λ (t : Scenario). t.names) v.scenario) asks) shown)) h

pub bad_look_lead : (text : List ℕ) (x : AnyServed) (names : List (List ℕ)) (r : Asked) (fault : LookFault) → names ≡ x.scenario.names.items → RefusesBy (IsBadLook names r) fault → RefusesBy (LeadsTo text x r x) fault
bad_look_lead text x names r F.Memory same h = tt
bad_look_lead text x names r (F.Refused answer) same h = λ s start v.
    (A.bad (A.bad_look (subst (λ (ns : List (List ℕ)). IsBadLook ns r answer.items) (same ∙ ap (λ (t : Scenario). t.names) v.scenario) h)), v)

pub end_lead : (text : List ℕ) (x y : AnyServed) (n : ℕ) (answer : List ℕ) → n ≡ length x.here.schedule → LeadsTo text x (K.of_session (Q.goto n)) y answer → LeadsTo text x K.goto_end y answer
end_lead text x y n answer is h s start v =
    let r = h s start v in
    (A.goes_to_end (subst (λ (m : ℕ). AnswersServed text s start (state_of x) (K.of_session (Q.goto m)) (state_of y) answer) is r.0), r.1)

-- ---- where a given event is stuck

pub bad_look_stop : (text : List ℕ) (x : AnyGivenStop) (names : List (List ℕ)) (r : Asked) (fault : LookFault) → names ≡ x.scenario.names.items → RefusesBy (IsBadLook names r) fault → RefusesBy (AnswersStop text x r) fault
bad_look_stop text x names r F.Memory same h = tt
bad_look_stop text x names r (F.Refused answer) same h = λ s stop is v.
    A.bad (A.bad_look (subst (λ (ns : List (List ℕ)). IsBadLook ns r answer.items) (same ∙ ap (λ (t : Scenario). t.names) v.scenario) h))

pub look_stop : (text : List ℕ) (x : AnyGivenStop) (names : List (List ℕ)) (r : Asked) (at : Option Position) (look : Look) (answer : List ℕ) → names ≡ x.scenario.names.items → AsksLook names r at look → IsOfStop (λ s stop t. IsStopLook s stop at look t) x answer → AnswersStop text x r answer
look_stop text x names r at look answer same asks h s stop is v =
    look_answer text s stop r at look answer (subst (λ (ns : List (List ℕ)). AsksLook ns r at look) (same ∙ ap (λ (t : Scenario). t.names) v.scenario) asks) (h s stop v)

pub quit_stop : (text : List ℕ) (x : AnyGivenStop) (answer : List ℕ) → answer ≡ quit_answer → AnswersStop text x (K.of_session Q.quit) answer
quit_stop text x answer is s stop of v = subst (λ (t : List ℕ). AnswersStuck text s stop (K.of_session Q.quit) t) (sym is) A.quits

pub places_stop : (text : List ℕ) (x : AnyGivenStop) (answer : List ℕ) → IsPlaces text answer → AnswersStop text x K.places answer
places_stop text x answer h s stop of v = A.places h

pub print_stop : (text : List ℕ) (x : AnyGivenStop) (answer : List ℕ) → answer ≡ quoted (canon (scenario_view x.scenario)) → AnswersStop text x K.print answer
print_stop text x answer is s stop of v =
    subst (λ (t : List ℕ). AnswersStuck text s stop K.print t) (sym (is ∙ ap (λ (t : Scenario). quoted (canon t)) v.scenario)) A.prints

pub journal_stop : (text : List ℕ) (x : AnyGivenStop) (trace effects : Bool) (between : Option (Position × Position)) (answer : List ℕ) → AnswersJournal (A.details trace effects) (scenario_view x.scenario) (scenario_view x.scenario).schedule between answer → AnswersStop text x (K.journal trace effects between) answer
journal_stop text x trace effects between answer h s stop of v =
    A.journal (subst (λ (t : Scenario). AnswersJournal (A.details trace effects) t t.schedule between answer) v.scenario h)

-- ---- any text

module _ (text : List ℕ) where
  pub held_stopped : (H : Subject) (y : AnyGivenStop) → IsSubjectOf text H (S.StuckGiven y) → IsSomeStop y × ((s : Scenario) × IsScenario text s)
  held_stopped (no_scenario fault) y h = absurd h
  held_stopped (stuck_given s stop) y h = ((s, stop, h.1), (s, h.0))
  held_stopped (served s start A) y h = absurd h

  pub refused_on : (why : Vec ℕ Global) (r : Asked) (answer : List ℕ) → AnswersRefusedBy why.items r answer → AnswersOn text (S.NoScenario why) r (S.NoScenario why) answer
  refused_on why r answer h (no_scenario fault) is = (no_scenario fault, A.of_refused (h text fault is), is)
  refused_on why r answer h (stuck_given s stop) is = absurd is
  refused_on why r answer h (served s start A) is = absurd is

  pub stuck_on : (y : AnyGivenStop) (r : Asked) (answer : List ℕ) → AnswersStop text y r answer → AnswersOn text (S.StuckGiven y) r (S.StuckGiven y) answer
  stuck_on y r answer h (no_scenario told) is = absurd is
  stuck_on y r answer h (stuck_given s stop) is = (stuck_given s stop, A.of_stuck (h s stop is.0 is.1), is)
  stuck_on y r answer h (served s start A) is = absurd is

  pub served_on : (x y : AnyServed) (r : Asked) (answer : List ℕ) → LeadsTo text x r y answer → AnswersOn text (S.Served x) r (S.Served y) answer
  served_on x y r answer h (no_scenario told) is = absurd is
  served_on x y r answer h (stuck_given s stop) is = absurd is
  served_on x y r answer h (served s start C) is =
      let (answers, v) = h s start is.1 in
      (served s start (state_of y), A.of_served (subst (λ (B : Served). AnswersServed text s start B r (state_of y) answer) is.2 answers), (is.0, v, refl))

-- Of `Answers`: what is answered to runs.
use Rattle.std.proofs.Common.{◌≡◌, ◌≢◌, ℕ, zero, suc, ◌<◌, List, [], length, Option, Some, None, IfSome, refl, ap, sym, subst, ◌∙◌, arith}
use Rattle.std.specs.List.{All}
use Rattle.jc_rules.specs.declared.operation.Event.{Event}
use Rattle.jc_rules.specs.declared.refusal.Refusal.TheVariants as F
use Rattle.jc_rules.specs.State.{State}
use Rattle.jc_rules.specs.Step.{Network}
use Rattle.jc_printer.specs.Canon.{AreNamed}
use Rattle.jc_scenario.specs.Views.{scenario_view}
use Rattle.jc_scenario.specs.WellFormed.{Scenario, IsWellFormedScenario}
use Rattle.jc_debug.specs.declared.fault.RunEnd.{RunEnd}
use Rattle.jc_debug.specs.declared.fault.RunEnd.TheVariants as E
use Rattle.jc_debug.specs.DebuggerState.{IsNetworkAt, RunOutcome}
use Rattle.jc_debug.specs.Invariant.{IsDebugger, start_of}
use Rattle.jc_debug.proofs.InvariantLemmas.{at_old}
use Rattle.jc_session.specs.declared.replies.Reply.TheVariants as R
use Rattle.jc_session.specs.AnswerOf.{AllNamed, IsReply, IsNamedEnd}
use Rattle.jc_session.specs.Requests as Q
use Rattle.jc_session.specs.Reply as Y
use Rattle.jc_session.specs.Reply.{Reply}
use Rattle.jc_session.proofs.AnswerOfLemmas.{of_all}
use Rattle.jc_requests.specs.Asked as K
use Rattle.jc_requests.specs.Asked.{Asked}
use Rattle.jc_answers.specs.JsonTexts.{NamedText}
use Rattle.jc_answers.specs.Refusals.{refusal_answer}
use Rattle.jc_replies.specs.ReplyTexts.{Background, IsAnswer, move_answer}
use Rattle.jc_replies.specs.AnswerOf.{background_of}
use Rattle.jc_listings.specs.Positions.{background}
use Rattle.jc_serve.specs.declared.served.Served.{Served as AnyServed}
use Rattle.jc_serve.specs.Answers as A
use Rattle.jc_serve.specs.Answers.{AnswersServed, at_mark, at_start}
use Rattle.jc_serve.specs.AnswerOf.{LeadsTo}
use Rattle.jc_serve.specs.InMemory.{state_of, IsServing}
use Rattle.jc_serve.specs.Marks.{Served, RunsTo, RunsBack, RunCanEnd, moved_to, to_mark}
use Rattle.jc_serve.specs.Moves.{IsMovedTo, RunsForward, RunsBackward}
use Rattle.jc_serve.proofs.MarksLemmas.{mark_within}

-- ---- the session, and one that moved from it

pub serving_still : (s : Scenario) (start : Network) (x y : AnyServed) (n : ℕ) → IsMovedTo x y n → IsServing s start x → IsServing s start y
serving_still s start x y n m h = record {
  scenario = ap scenario_view m.scenario ∙ h.scenario;
  formed = h.formed;
  starts = h.starts;
  here = record { names = m.here.names ∙ h.here.names; is_start = m.here.start ∙ h.here.is_start };
  no_breaks = m.here.breaks ∙ h.no_breaks;
  aside = record { names = m.aside.names ∙ h.aside.names; is_start = m.aside.start ∙ h.aside.is_start };
  same = m.aside.schedule ∙ (h.same ∙ sym m.here.schedule);
  current = subst (λ (es : List Event). IsWellFormedScenario (record s { schedule = es })) (sym m.here.schedule) h.current;
  places = ap (λ v. length v.items) m.marks ∙ h.places;
}

state_moved : (x y : AnyServed) (n : ℕ) → IsMovedTo x y n → state_of y ≡ moved_to (state_of x) n
state_moved x y n m =
    let marks = ap (λ v. (state_of (record y { marks = v })).marks) m.marks in
    λ i. record { schedule = m.here.schedule i; position = m.here.position i; marks = marks i }

background_now : (s : Scenario) (start : Network) (x : AnyServed) → IsServing s start x → background_of x.scenario.given.items x.here ≡ background s x.here.schedule x.here.net.history.now.states
background_now s start x h =
    let given = ap (λ (v : Scenario). v.given) h.scenario in
    let names = h.here.names in
    λ i. record { names = names i; given = given i; schedule = x.here.schedule; states = x.here.net.history.now.states }

-- the request leads to where the session moved, and is answered by the text
answered : (text : List ℕ) (s : Scenario) (start : Network) (x y : AnyServed) (n : ℕ) (request : Asked) (items : List ℕ) → IsMovedTo x y n → IsServing s start x
    → AnswersServed text s start (state_of x) request (moved_to (state_of x) n) items
    → AnswersServed text s start (state_of x) request (state_of y) items × IsServing s start y
answered text s start x y n request items m h a =
    (subst (λ (B : Served). AnswersServed text s start (state_of x) request B items) (sym (state_moved x y n m)) a, serving_still s start x y n m h)

-- ---- runs forward

pub run_answered : (x y : AnyServed) (at : ℕ) (end : RunEnd) (items : List ℕ) → IsDebugger y.here → at ≡ length y.here.traces → length x.here.traces ≢ length x.here.schedule → RunsForward x y end
    → ((r : Reply) → IsReply y.here (R.Ran at end) r → IsAnswer (background_of y.scenario.given.items y.here) [] r items)
    → (text : List ℕ) → LeadsTo text x (K.of_session Q.run) y items
run_answered x y at end items trail here more r told text s start h =
    let n = r.position in
    let place : at ≡ n = here ∙ r.moved.here.position in
    let now = serving_still s start x y n r.moved h in
    let answer : IsAnswer (background_of y.scenario.given.items y.here) [] (Y.ran n r.outcome) items = subst (λ (k : ℕ). IsAnswer (background_of y.scenario.given.items y.here) [] (Y.ran k r.outcome) items) place (told (Y.ran at r.outcome) (r.outcome, r.is_end, refl)) in
    let shown : IsAnswer (background s y.here.schedule y.here.net.history.now.states) [] (Y.ran n r.outcome) items = subst (λ (B : Background). IsAnswer B [] (Y.ran n r.outcome) items) (background_now s start y now) answer in
    let along : IsAnswer (background s x.here.schedule y.here.net.history.now.states) [] (Y.ran n r.outcome) items = subst (λ (es : List Event). IsAnswer (background s es y.here.net.history.now.states) [] (Y.ran n r.outcome) items) r.moved.here.schedule shown in
    let runs : RunsTo start (state_of x) n r.outcome = subst (λ (S : Network). RunsTo S (state_of x) n r.outcome) h.here.is_start r.runs in
    let there : IsNetworkAt start x.here.schedule n y.here.net.history.now = subst (λ (S : Network). IsNetworkAt S x.here.schedule n y.here.net.history.now) h.here.is_start (at_old x.here y.here n r.moved.here trail) in
    answered text s start x y n (K.of_session Q.run) items r.moved h (A.runs y.here.net.history.now more runs there along)

pub run_past : (x : AnyServed) (items : List ℕ) → length x.here.traces ≡ length x.here.schedule → items ≡ refusal_answer F.AtEnd → (text : List ℕ) → LeadsTo text x (K.of_session Q.run) x items
run_past x items e is text s start h = (subst (λ (t : List ℕ). AnswersServed text s start (state_of x) (K.of_session Q.run) (state_of x) t) (sym is) (A.runs_past e), h)

-- ---- runs backward

-- no state is told of a move
stateless : (s : Scenario) (es : List Event) (states : List State) (n : ℕ) (end more : List NamedText) → move_answer (background s es states) n end more ≡ move_answer (background s es []) n end more
stateless s es states zero end more = refl
stateless s es states (suc n) end more = refl

pub back_answered : (x y : AnyServed) (end : Option ℕ) (items : List ℕ) → 0 < length x.here.traces → RunsBackward x y end
    → items ≡ move_answer (background_of y.scenario.given.items y.here) (length y.here.traces) (at_mark end) (at_start end)
    → (text : List ℕ) → LeadsTo text x K.back_run y items
back_answered x y end items some r written text s start h =
    let n = r.position in
    let now = serving_still s start x y n r.moved h in
    let states = y.here.net.history.now.states in
    let shown = ap (λ (B : Background). move_answer B (length y.here.traces) (at_mark end) (at_start end)) (background_now s start y now) in
    let along = ap (λ (es : List Event). move_answer (background s es states) (length y.here.traces) (at_mark end) (at_start end)) r.moved.here.schedule in
    let there = ap (λ (k : ℕ). move_answer (background s x.here.schedule states) k (at_mark end) (at_start end)) r.moved.here.position in
    let all = written ∙ (shown ∙ (along ∙ (there ∙ stateless s x.here.schedule states n (at_mark end) (at_start end)))) in
    let later : length x.here.traces ≢ 0 = omega (arith, some) in
    let runs : RunsBack start (state_of x) n end = subst (λ (S : Network). RunsBack S (state_of x) n end) h.here.is_start r.runs in
    answered text s start x y n K.back_run items r.moved h
    (subst (λ (t : List ℕ). AnswersServed text s start (state_of x) K.back_run (moved_to (state_of x) n) t) (sym all) (A.runs_back later runs))

pub back_past : (x : AnyServed) (items : List ℕ) → length x.here.traces ≡ 0 → items ≡ refusal_answer F.AtStart → (text : List ℕ) → LeadsTo text x K.back_run x items
back_past x items e is text s start h = (subst (λ (t : List ℕ). AnswersServed text s start (state_of x) K.back_run (state_of x) t) (sym is) (A.runs_back_past e), h)

-- ---- the replicas that a session names

pub all_named : (s : Scenario) (start : Network) (x : AnyServed) → IsServing s start x → AllNamed x.here
all_named s start x h = subst (λ (ns : List (List ℕ)). All (λ e. AreNamed e (length ns)) x.here.schedule) (sym h.here.names) h.current.known

pub given_named : (s : Scenario) (start : Network) (x : AnyServed) → IsServing s start x → All (λ e. AreNamed e (length x.here.net.names)) x.scenario.given.items
given_named s start x h =
    subst (λ (ns : List (List ℕ)). All (λ e. AreNamed e (length ns)) x.scenario.given.items) (sym h.here.names)
    (subst (λ (v : Scenario). All (λ e. AreNamed e (length s.names)) v.given) (sym h.scenario) h.formed.given_known)

pub end_named : (x y : AnyServed) (end : RunEnd) → AllNamed x.here → RunsForward x y end → IsNamedEnd y.here.net.names end
end_named x y (E.Break k) all r = tt
end_named x y E.End all r = tt
end_named x y (E.Stuck t) all r =
    let why = r.is_end.0 in
    let event = r.is_end.1 in
    let stuck = (subst (λ (o : RunOutcome). RunCanEnd (start_of x.here) (state_of x) r.position o) r.is_end.3 r.runs.ends_so).1 in
    record {
      why = why;
      event = event;
      is = r.is_end.2;
      named = subst (λ (ns : List (List ℕ)). AreNamed event (length ns)) (sym r.moved.here.names)
          (of_all (λ e. AreNamed e (length x.here.net.names)) x.here.schedule r.position event all stuck.is);
    }

-- ---- the answers of the code

pub told_run : (x y : AnyServed) (at : ℕ) (end : RunEnd) (items empty : List ℕ) (given : List Event) → IsDebugger y.here → at ≡ length y.here.traces → length x.here.traces ≢ length x.here.schedule → RunsForward x y end
    → empty ≡ []
    → given ≡ y.scenario.given.items
    → ((r : Reply) → IsReply y.here (R.Ran at end) r → IsAnswer (background_of given y.here) empty r items)
    → (text : List ℕ) → LeadsTo text x (K.of_session Q.run) y items
told_run x y at end items empty given trail here more r none all told =
    run_answered x y at end items trail here more r
    (subst (λ (es : List Event). (q : Reply) → IsReply y.here (R.Ran at end) q → IsAnswer (background_of es y.here) [] q items) all
    (subst (λ (t : List ℕ). (q : Reply) → IsReply y.here (R.Ran at end) q → IsAnswer (background_of given y.here) t q items) none told))

-- the breakpoint at which a run back ended is at one of the places
pub end_within : (s : Scenario) (start : Network) (x y : AnyServed) (end : Option ℕ) → IsServing s start x → RunsBackward x y end → IfSome end (λ j. j < 256)
end_within s start x y end h r = within (r.position) end (r.runs)
  where
    within : (n : ℕ) (end : Option ℕ) → RunsBack (start_of x.here) (state_of x) n end → IfSome end (λ j. j < 256)
    within n None b = tt
    within n (Some j) (to_mark some lt least quiet) = let w = mark_within x.marks.items j (Some least.0.0) least.0.1 in let size = h.places in omega (arith, w, size)

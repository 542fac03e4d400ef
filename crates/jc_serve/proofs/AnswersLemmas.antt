-- Of `Answers` and `AnswerOf`: what is shown is what a request leads to.
use Rattle.std.proofs.Common.{◌≡◌, ℕ, ◌+◌, ◌-◌, ◌≤◌, nat_le, if◌then◌else◌, Bool, true, false, List, length, Option, Some, None, Result, Ok, Err, IfOk, refl, sym, subst, arith}
use Rattle.std.proofs.lemmas.Bool.Decides.{nat_tests}
use Rattle.std.proofs.lemmas.Option.{slice_get_within}
use Rattle.jc_rules.specs.declared.operation.Event.{Event}
use Rattle.jc_rules.specs.declared.refusal.Refusal.{Refusal}
use Rattle.jc_rules.specs.declared.refusal.Refusal.TheVariants.{AtStart, PastSchedule}
use Rattle.jc_rules.specs.declared.rule.Rule.{Rule}
use Rattle.jc_rules.specs.Step.{Network, StepIn}
use Rattle.jc_scenario.specs.WellFormed.{Scenario}
use Rattle.jc_scenario.specs.Views.{scenario_view}
use Rattle.jc_network.specs.NetworkHistory.{NetworkHistory}
use Rattle.jc_effects.specs.Difference.{Differences}
use Rattle.jc_journal.specs.EventLine.{AreEffects}
use Rattle.jc_requests.specs.Asked as K
use Rattle.jc_requests.specs.Asked.{Asked, Position}
use Rattle.jc_looks.specs.declared.fault.LookFault.{LookFault}
use Rattle.jc_looks.specs.declared.fault.LookFault.TheVariants as F
use Rattle.jc_looks.specs.LookFaults.{RefusesBy, Finds}
use Rattle.jc_looks.specs.declared.looks.Look.{Look}
use Rattle.jc_looks.specs.declared.looks.Look.TheVariants as L
use Rattle.jc_looks.specs.Looks.{IsWithin}
use Rattle.jc_listings.specs.declared.journals.Details.{Details}
use Rattle.jc_listings.specs.Journals as J
use Rattle.jc_answers.specs.Refusals.{refusal_answer}
use Rattle.jc_listings.specs.Journals.{asked_counts, AnswersJournal, AnswersEvent}
use Rattle.jc_listings.specs.Positions.{count_of, count_at}
use Rattle.jc_serve.specs.declared.served.Served.{Served as AnyServed}
use Rattle.jc_serve.specs.Answers.{AnswersServed}
use Rattle.jc_serve.specs.Asking as G
use Rattle.jc_serve.specs.Asking.{AsksLook, LooksAt}
use Rattle.jc_serve.specs.AnswerOf.{LeadsTo, ShowsIn, ShowsAt, IsNowhereAnswer}
use Rattle.jc_serve.specs.InMemory.{state_of, IsServing}
use Rattle.jc_serve.specs.Marks.{Served}
use Rattle.jc_serve.proofs.PlacedLemmas.{StopsBefore}

-- ---- where nothing but what is looked at has moved

pub shows_lead : (P : Scenario → Served → List ℕ → Type 0) (text : List ℕ) (old new : AnyServed) (r : Asked) (answer : List ℕ)
    → ((s : Scenario) (start : Network) → IsServing s start old → P s (state_of old) answer → AnswersServed text s start (state_of old) r (state_of old) answer)
    → ShowsIn P old new answer
    → LeadsTo text old r new answer
shows_lead P text old new r answer f h s start v =
    let (p, same, w) = h s start v in
    (subst (λ (B : Served). AnswersServed text s start (state_of old) r B answer) (sym same) (f s start v p), w)

-- ---- looks

pub looks_stopped : (s : Scenario) (events : List Event) (position count : ℕ) (at : Option Position) (look : Look) (answer : List ℕ) → count_at s events position at ≡ Ok count → StopsBefore s events count answer → LooksAt s events position at look answer
looks_stopped s events position count at look answer is b = subst (λ (t : List ℕ). LooksAt s events position at look t) (sym b.is) (G.unreached is b.before b.stops)

pub looks_shown : (s : Scenario) (events : List Event) (position count : ℕ) (at : Option Position) (look : Look) (answer : List ℕ) → count_at s events position at ≡ Ok count → ShowsAt s events count look answer → LooksAt s events position at look answer
looks_shown s events position count at look answer is h = G.shows is h.is_at h.shows

pub tells_stopped : (details : Details) (s : Scenario) (events : List Event) (position count : ℕ) (at : Option Position) (answer : List ℕ) → count_at s events position at ≡ Ok count → StopsBefore s events count answer → AnswersEvent details s events position at answer
tells_stopped details s events position count at answer is b = subst (λ (t : List ℕ). AnswersEvent details s events position at t) (sym b.is) (J.unreached is b.before b.stops)

pub no_journal : (details : Details) (s : Scenario) (events : List Event) (between : Option (Position × Position)) (answer : List ℕ) → (refusal : Refusal) × (asked_counts s events between ≡ Err refusal) × (answer ≡ refusal_answer refusal) → AnswersJournal details s events between answer
no_journal details s events between answer (refusal, none, is) = subst (λ (t : List ℕ). AnswersJournal details s events between t) (sym is) (J.nowhere none)

-- the replicas of a look have names
pub look_within : (names : List (List ℕ)) (request : Asked) (at : Option Position) (look : Look) → AsksLook names request at look → IsWithin (length names) look
look_within names (K.view a None) at look (here, p, is, each) =
    subst (λ (l : Look). IsWithin (length names) l) (sym is) (subst (λ (q : Option ℕ). IsWithin (length names) (L.View q)) (sym each) tt)
look_within names (K.view a (Some name)) at look (here, p, is, one) =
    subst (λ (l : Look). IsWithin (length names) l) (sym is) (subst (λ (q : Option ℕ). IsWithin (length names) (L.View q)) (sym one.1) (slice_get_within names one.0 name one.2))
look_within names (K.view_place a name text) at look (here, found, is, one) =
    subst (λ (l : Look). IsWithin (length names) l) (sym is) (slice_get_within names found.0 name one.0)
look_within names (K.state_at a None) at look (here, p, is, each) =
    subst (λ (l : Look). IsWithin (length names) l) (sym is) (subst (λ (q : Option ℕ). IsWithin (length names) (L.State q)) (sym each) tt)
look_within names (K.state_at a (Some name)) at look (here, p, is, one) =
    subst (λ (l : Look). IsWithin (length names) l) (sym is) (subst (λ (q : Option ℕ). IsWithin (length names) (L.State q)) (sym one.1) (slice_get_within names one.0 name one.2))
look_within names (K.brief a name) at look (here, p, is, named) =
    subst (λ (l : Look). IsWithin (length names) l) (sym is) (slice_get_within names p name named)
look_within names (K.eval a name text) at look (here, found, is, one) =
    subst (λ (l : Look). IsWithin (length names) l) (sym is) (slice_get_within names found.0 name one.0)
look_within names request at look h = absurd h

-- a look at a position that isn't there
pub looks_nowhere : (x : AnyServed) (p : Position) (look : Look) (fault : LookFault) → RefusesBy (IsNowhereAnswer (scenario_view x.scenario) x.here.schedule p) fault → RefusesBy (ShowsIn (λ s A answer. LooksAt s A.schedule A.position (Some p) look answer) x x) fault
looks_nowhere x p look F.Memory h = tt
looks_nowhere x p look (F.Refused answer) (refusal, none, is) = λ s start v.
    (subst (λ (t : List ℕ). LooksAt s x.here.schedule (length x.here.traces) (Some p) look t) (sym is) (G.nowhere (subst (λ (t : Scenario). count_of t x.here.schedule p ≡ Err refusal) v.scenario none)), refl, v)

-- what an event changed, in networks that are the same
pub effects_told : (a b c d : NetworkHistory) (event : Event) (flag : Bool) (told : Option Differences) → a ≡ c → b ≡ d → flag ≡ true
    → ((rows : List (Rule × ℕ)) → (made : StepIn a.history.now event b.history.now rows) → AreEffects true event made.step.before made.step.after told)
    → (rows : List (Rule × ℕ)) → (made : StepIn c.history.now event d.history.now rows) → AreEffects flag event made.step.before made.step.after told
effects_told a b c d event flag told one two asked h =
    subst (λ (f : Bool). (rows : List (Rule × ℕ)) → (made : StepIn c.history.now event d.history.now rows) → AreEffects f event made.step.before made.step.after told) (sym asked)
    (subst (λ (n : NetworkHistory). (rows : List (Rule × ℕ)) → (made : StepIn n.history.now event d.history.now rows) → AreEffects true event made.step.before made.step.after told) one
    (subst (λ (n : NetworkHistory). (rows : List (Rule × ℕ)) → (made : StepIn a.history.now event n.history.now rows) → AreEffects true event made.step.before made.step.after told) two h))

-- the count of a position
pub count_in : (s : Scenario) (start : Network) (x : AnyServed) (v : IsServing s start x) (p : Position) (count : ℕ) (events : List Event) → events ≡ x.here.schedule → count_of (scenario_view x.scenario) events p ≡ Ok count → count_of s x.here.schedule p ≡ Ok count
count_in s start x v p count events same is =
    subst (λ (t : Scenario). count_of t x.here.schedule p ≡ Ok count) v.scenario (subst (λ (es : List Event). count_of (scenario_view x.scenario) es p ≡ Ok count) same is)

-- no position has more events before it than there are
pub count_within : (s : Scenario) (events : List Event) (p : Position) (count : ℕ) → count_of s events p ≡ Ok count → count ≤ length s.given + length events
count_within s events (K.after n) count is = go (nat_le n (length events)) refl is
  where
    go : (b : Bool) → nat_le n (length events) ≡ b → (if b then Ok (length s.given + n) else Err PastSchedule) ≡ Ok count → count ≤ length s.given + length events
    go true t e = let le : n ≤ length events = grind (arith, nat_tests) in let same : length s.given + n ≡ count = cc in omega (arith, le, same)
    go false t e = absurd cc
count_within s events (K.before k) count is = go (nat_le k (length s.given)) refl is
  where
    go : (b : Bool) → nat_le k (length s.given) ≡ b → (if b then Ok (length s.given - k) else Err AtStart) ≡ Ok count → count ≤ length s.given + length events
    go true t e = let same : length s.given - k ≡ count = cc in omega (arith, same)
    go false t e = absurd cc

-- the same of a count that was found
pub found_within : (s : Scenario) (events : List Event) (p : Position) (r : Result ℕ LookFault) → Finds (λ count. count_of s events p ≡ Ok count) (IsNowhereAnswer s events p) r → IfOk r (λ count. count ≤ length s.given + length events)
found_within s events p (Ok count) h = count_within s events p count h
found_within s events p (Err fault) h = tt

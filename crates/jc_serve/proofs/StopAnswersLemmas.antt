-- Of `Answers` and `AnswerOf`: the answers to requests where a given event is stuck.
use Rattle.std.proofs.Common.{◌≡◌, ◌≢◌, ℕ, Bool, List, [], Option, Some, None, Result, Ok, Err, refl, sym, ap, subst, ◌∙◌, arith}
use Rattle.std.specs.Borrow.{Bor}
use Rattle.std.proofs.lemmas.Option.{same_Some}
use Rattle.jc_rules.specs.declared.refusal.Refusal.{Refusal}
use Rattle.jc_rules.specs.declared.refusal.Refusal.TheVariants as E
use Rattle.jc_scenario.specs.Views.{scenario_view}
use Rattle.jc_scenario.specs.WellFormed.{Scenario}
use Rattle.jc_session.specs.declared.request.Request.{Request as AnyRequest}
use Rattle.jc_session.specs.declared.request.Request.TheVariants as R
use Rattle.jc_session.specs.Answers.{IsStrange, IsMisspelled}
use Rattle.jc_session.specs.Requests as Q
use Rattle.jc_session.specs.Requests.{Request}
use Rattle.jc_session.specs.Views.{request_view}
use Rattle.jc_requests.specs.declared.kinds.Asked.{Asked as AnyAsked}
use Rattle.jc_requests.specs.declared.kinds.Asked.TheVariants as V
use Rattle.jc_requests.specs.Asked as K
use Rattle.jc_requests.specs.Asked.{Asked, Position}
use Rattle.jc_requests.specs.Views.{asked_view}
use Rattle.jc_answers.specs.Refusals.{refusal_answer, IsRefusedText}
use Rattle.jc_looks.specs.declared.fault.LookFault.{LookFault}
use Rattle.jc_looks.specs.declared.fault.LookFault.TheVariants as F
use Rattle.jc_looks.specs.declared.looks.Look.{Look}
use Rattle.jc_looks.specs.LookFaults.{RefusesBy, IsRefusedAt}
use Rattle.jc_listings.specs.Journals.{AnswersEvent}
use Rattle.jc_listings.specs.Positions.{count_of}
use Rattle.jc_listings.proofs.JournalPartsLemmas.{not_behind}
use Rattle.jc_serve.specs.declared.stuck.GivenStop.{GivenStop as AnyGivenStop}
use Rattle.jc_serve.specs.Answers as A
use Rattle.jc_serve.specs.Answers.{position_in, IsOfText, IsBadRequest, IsGoodRequest, AnswersStuck}
use Rattle.jc_serve.specs.Asking.{AsksLook, IsStrangeAnswer}
use Rattle.jc_serve.specs.AnswerOf as O
use Rattle.jc_serve.specs.AnswerOf.{IsStopped, IsOfStop, IsReachedBy, IsUnreached, IsStopLook, IsPlain, AnswersStop}
use Rattle.jc_serve.specs.Subjects.{GivenStop, given_stuck_answer}
use Rattle.jc_serve.proofs.StopLemmas.{led_before}

-- ---- requests that are neither about the text nor about a position

pub not_quit : (q : AnyRequest) → (q ≡ R.Quit → ⊥) → IsOfText (K.of_session (request_view q)) → ⊥
not_quit R.Quit other h = other refl
not_quit q other h = h

-- What a request asks is answered by the refusal, where it is good and no position in it is reached.
pub stuck_plain : (text : List ℕ) (s : Scenario) (stop : GivenStop s) (r : Asked) → IsPlain r → IsGoodRequest s r → AnswersStuck text s stop r (given_stuck_answer s stop)
stuck_plain text s stop r plain good =
    A.stuck good
    (λ refusal at. let no : ◌≡◌ {A = Option Position} None (Some at.0) = sym plain.1 ∙ at.1 in absurd cc)
    plain.2
    (λ to. let no : ◌≡◌ {A = Option Position} None (Some to.at) = sym plain.1 ∙ to.asked in absurd cc)

pub plain_refused : (x : AnyGivenStop) (r : Asked) (fault : LookFault) → IsPlain r → IsGoodRequest (scenario_view x.scenario) r
    → RefusesBy (IsOfStop (λ t last text. text ≡ given_stuck_answer t last) x) fault
    → RefusesBy (λ answer. (text : List ℕ) → AnswersStop text x r answer) fault
plain_refused x r F.Memory plain good h = tt
plain_refused x r (F.Refused answer) plain good h = λ text s stop is v.
    subst (λ (t : List ℕ). AnswersStuck text s stop r t) (sym (h s stop v)) (stuck_plain text s stop r plain (subst (λ (t : Scenario). IsGoodRequest t r) v.scenario good))

pub bad_refused : (x : AnyGivenStop) (r : Asked) (fault : LookFault) → RefusesBy (IsBadRequest (scenario_view x.scenario) r) fault → RefusesBy (λ answer. (text : List ℕ) → AnswersStop text x r answer) fault
bad_refused x r F.Memory h = tt
bad_refused x r (F.Refused answer) h = λ text s stop is v. A.bad (subst (λ (t : Scenario). IsBadRequest t r answer.items) v.scenario h)

-- ---- requests about a position

module _ (text : List ℕ) (s : Scenario) (stop : GivenStop s) (r : Asked) (good : IsGoodRequest s r) (other : IsOfText r → ⊥) where
  pub unreached_answer : (answer : List ℕ) → IsUnreached s stop (position_in r) answer → AnswersStuck text s stop r answer
  unreached_answer answer (O.nowhere {p} {refusal} at none) = A.nowhere good (p, at, none)
  unreached_answer answer (O.here none) =
      A.stuck good
      (λ refusal at. let no : ◌≡◌ {A = Option Position} None (Some at.0) = sym none ∙ at.1 in absurd cc)
      other
      (λ to. let no : ◌≡◌ {A = Option Position} None (Some to.at) = sym none ∙ to.asked in absurd cc)
  unreached_answer answer (O.behind {p} {count} at is lt) =
      A.stuck good
      (λ refusal there.
      let same : p ≡ there.0 = let e : ◌≡◌ {A = Option Position} (Some p) (Some there.0) = sym at ∙ there.1 in cc in
      let no : ◌≡◌ {A = Result ℕ Refusal} (Ok count) (Err refusal) = sym is ∙ ap (count_of s s.schedule) same ∙ there.2 in absurd cc)
      other
      (λ to.
      let same : p ≡ to.at = let e : ◌≡◌ {A = Option Position} (Some p) (Some to.at) = sym at ∙ to.asked in cc in
      let one : ◌≡◌ {A = Result ℕ Refusal} (Ok count) (Ok to.count) = sym is ∙ ap (count_of s s.schedule) same ∙ to.counts in
      let number : count ≡ to.count = cc in
      not_behind s s.schedule stop.count stop.network stop.event stop.why to.count to.network stop.stops (omega (arith, lt, number)) to.is_at)

-- the request asks for a look at its position
asks_at : (names : List (List ℕ)) (r : Asked) (at : Option Position) (look : Look) → AsksLook names r at look → position_in r ≡ at
asks_at names (K.view a name) at look h = sym h.0
asks_at names (K.view_place a name t) at look h = sym h.0
asks_at names (K.state_at a name) at look h = sym h.0
asks_at names (K.brief a name) at look h = sym h.0
asks_at names (K.eval a name t) at look h = sym h.0
asks_at names r at look h = absurd h

asks_good : (s : Scenario) (r : Asked) (at : Option Position) (look : Look) → AsksLook s.names r at look → IsGoodRequest s r
asks_good s (K.view a name) at look (here, p, is, one) = (p, one)
asks_good s (K.view_place a name t) at look (here, found, is, one) = (found, one)
asks_good s (K.state_at a name) at look (here, p, is, one) = (p, one)
asks_good s (K.brief a name) at look (here, p, is, one) = (p, one)
asks_good s (K.eval a name t) at look (here, found, is, one) = (found, one)
asks_good s r at look h = absurd h

asks_other : (names : List (List ℕ)) (r : Asked) (at : Option Position) (look : Look) → AsksLook names r at look → IsOfText r → ⊥
asks_other names (K.view a name) at look h of = of
asks_other names (K.view_place a name t) at look h of = of
asks_other names (K.state_at a name) at look h of = of
asks_other names (K.brief a name) at look h of = of
asks_other names (K.eval a name t) at look h of = of
asks_other names r at look h of = absurd h

pub look_answer : (text : List ℕ) (s : Scenario) (stop : GivenStop s) (r : Asked) (at : Option Position) (look : Look) (answer : List ℕ) → AsksLook s.names r at look → IsStopLook s stop at look answer → AnswersStuck text s stop r answer
look_answer text s stop r at look answer asks (O.refuses h) =
    unreached_answer text s stop r (asks_good s r at look asks) (asks_other s.names r at look asks) answer
    (subst (λ (o : Option Position). IsUnreached s stop o answer) (sym (asks_at s.names r at look asks)) h)
look_answer text s stop r at look answer asks (O.shows {count} (p, some, is, le) h) =
    A.shows look
    (record { at = p; count = count; network = h.network; asked = asks_at s.names r at look asks ∙ some; counts = is; is_at = h.is_at })
    (subst (λ (o : Option Position). AsksLook s.names r o look) some asks)
    h.shows

-- ---- events

module _ (text : List ℕ) (s : Scenario) (stop : GivenStop s) (at : Option Position) (trace effects : Bool) where
  pub no_event : (answer : List ℕ) → IsUnreached s stop at answer → AnswersStuck text s stop (K.event at trace effects) answer
  no_event answer h = unreached_answer text s stop (K.event at trace effects) tt (λ h2. h2) answer h

  pub event_answer : (x : AnyGivenStop) (v : IsStopped s stop x) (count : ℕ) (answer : List ℕ) → IsReachedBy s stop at count → ((p : Position) → count_of s s.schedule p ≡ Ok count → AnswersEvent (A.details trace effects) s s.schedule 0 (Some p) answer) → AnswersStuck text s stop (K.event at trace effects) answer
  event_answer x v count answer (p, some, is, le) h =
      let r = led_before s stop x v count le in
      subst (λ (o : Option Position). AnswersStuck text s stop (K.event o trace effects) answer) (sym some)
      (A.event (record { at = p; count = count; network = r.0; asked = refl; counts = is; is_at = r.1 }) (h p is))

pub event_refused : (x : AnyGivenStop) (at : Option Position) (trace effects : Bool) (fault : LookFault) → ((s : Scenario) (stop : GivenStop s) → IsStopped s stop x → RefusesBy (IsUnreached s stop at) fault) → RefusesBy (λ answer. (text : List ℕ) → AnswersStop text x (K.event at trace effects) answer) fault
event_refused x at trace effects F.Memory h = tt
event_refused x at trace effects (F.Refused answer) h = λ text s stop is v. no_event text s stop at trace effects answer.items (h s stop v)

pub look_refused : (x : AnyGivenStop) (at : Option Position) (look : Look) (fault : LookFault) → ((s : Scenario) (stop : GivenStop s) → IsStopped s stop x → RefusesBy (IsUnreached s stop at) fault) → RefusesBy (IsOfStop (λ s stop text. IsStopLook s stop at look text) x) fault
look_refused x at look F.Memory h = tt
look_refused x at look (F.Refused answer) h = λ s stop v. O.refuses (h s stop v)

-- ---- what is wrong in a request

pub strange_bad : (s : Scenario) (name : List ℕ) (r : Asked) → (IsStrange s.names name → IsBadRequest s r (refusal_answer E.UnknownReplica)) → (answer : List ℕ) → IsStrangeAnswer s.names name answer → IsBadRequest s r answer
strange_bad s name r f answer (strange, is) = subst (λ (t : List ℕ). IsBadRequest s r t) (sym is) (f strange)

pub misspelled_bad : (s : Scenario) (rest text : List ℕ) (refusal : Refusal) (place : ℕ) (fault : LookFault) → text ≡ rest → IsMisspelled s.version s.names rest refusal place → RefusesBy (IsRefusedAt text (Some refusal) (Some place)) fault → RefusesBy (IsBadRequest s (K.of_session (Q.act rest))) fault
misspelled_bad s rest text refusal place F.Memory same is h = tt
misspelled_bad s rest text refusal place (F.Refused answer) same is h =
    let which : h.which ≡ refusal = same_Some h.which refusal (sym h.is_refusal) in
    let at : h.at ≡ place = same_Some h.at place (sym h.is_place) in
    A.misspelled is
    (subst (λ (t : List ℕ). IsRefusedText t refusal place answer.items) same
    (subst (λ (n : ℕ). IsRefusedText text refusal n answer.items) at
    (subst (λ (f : Refusal). IsRefusedText text f h.at answer.items) which h.written)))

-- ---- where there is no scenario

abbrev IsQuitRequest : Request → Type 0
IsQuitRequest Q.quit = Unit {0}
IsQuitRequest q = ⊥

abbrev IsRuleRequest : Request → Type 0
IsRuleRequest (Q.break_rule name) = Unit {0}
IsRuleRequest q = ⊥

abbrev IsSessionRequest : Asked → Type 0
IsSessionRequest (K.of_session q) = Unit {0}
IsSessionRequest r = ⊥

abbrev request_in : Asked → Request
request_in (K.of_session q) = q
request_in r = Q.run

abbrev word_in : Asked → List ℕ
word_in (K.of_session (Q.break_rule name)) = name
word_in r = []

pub no_quit : (q : AnyRequest) → (q ≡ R.Quit → ⊥) → K.of_session (request_view q) ≢ K.of_session Q.quit
no_quit q other e = go q other (subst IsQuitRequest (sym (ap request_in e)) tt)
  where
    go : (p : AnyRequest) → (p ≡ R.Quit → ⊥) → IsQuitRequest (request_view p) → ⊥
    go R.Quit no_other h = no_other refl
    go p no_other h = h

pub no_rule_request : (q : AnyRequest) → ((name : Bor (List ℕ)) → q ≡ R.BreakRule name → ⊥) → (w : List ℕ) → K.of_session (request_view q) ≢ K.of_session (Q.break_rule w)
no_rule_request q other w e = go q other (subst IsRuleRequest (sym (ap request_in e)) tt)
  where
    go : (p : AnyRequest) → ((name : Bor (List ℕ)) → p ≡ R.BreakRule name → ⊥) → IsRuleRequest (request_view p) → ⊥
    go (R.BreakRule name) no_other h = no_other name refl
    go p no_other h = h

pub no_session : (r : AnyAsked) → ((q : AnyRequest) → r ≡ V.OfSession q → ⊥) → (q : Request) → asked_view r ≢ K.of_session q
no_session r other q e = go r other (subst IsSessionRequest (sym e) tt)
  where
    go : (p : AnyAsked) → ((k : AnyRequest) → p ≡ V.OfSession k → ⊥) → IsSessionRequest (asked_view p) → ⊥
    go (V.OfSession k) no_other h = no_other k refl
    go p no_other h = h

pub rule_not_quit : (name : List ℕ) → K.of_session (Q.break_rule name) ≢ K.of_session Q.quit
rule_not_quit name e = subst IsQuitRequest (sym (ap request_in e)) tt

pub same_word : (v w : List ℕ) → K.of_session (Q.break_rule v) ≡ K.of_session (Q.break_rule w) → v ≡ w
same_word v w e = ap word_in e

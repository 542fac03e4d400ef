-- Of `Sent`: sessions on the scenario that bytes are, from its start.
use Rattle.std.proofs.Common.{◌≡◌, ◌≢◌, ℕ, List, length, Option, None, Some, Result, Ok, Err, IfErr, IsErrOf, IsErrAnd, ap, sym, subst, ◌∙◌}
use Rattle.jc_rules.specs.declared.operation.Event.{Event}
use Rattle.jc_rules.specs.declared.refusal.Refusal.{Refusal}
use Rattle.jc_rules.specs.Refused.{Cause}
use Rattle.jc_parser.specs.declared.fault.ScenarioFault.{ScenarioFault}
use Rattle.jc_parser.specs.declared.fault.ScenarioFault.TheVariants as S
use Rattle.jc_parser.specs.Faults.{fault_refusal, fault_offset}
use Rattle.jc_printer.specs.Canon.{AreNamed}
use Rattle.jc_scenario.specs.WellFormed.{Scenario, IsWellFormedScenario, IsScenario}
use Rattle.jc_scenario.specs.Faults.{IsFault}
use Rattle.jc_network.specs.declared.fault.Stuck.{Stuck}
use Rattle.jc_network.specs.Given.{before_given, IsStarted, IsGivenFault}
use Rattle.jc_network.specs.Steps.{stuck_for}
use Rattle.jc_dump.specs.Lines.{IsNamedStuck}
use Rattle.jc_dump.specs.Texts.{given_text}
use Rattle.jc_debug.specs.DebuggerState.{Session, new_session}
use Rattle.jc_debug.specs.Invariant.{Seen, start_of}
use Rattle.jc_debug.proofs.RepliesLemmas.{begun_at}
use Rattle.jc_session.specs.Answers.{Origin, origin_of, IsRefusalAt, IsFaultLine}
use Rattle.jc_session.specs.declared.sessions.SessionFault.{SessionFault}
use Rattle.jc_session.specs.declared.sessions.SessionFault.TheVariants.{Memory}
use Rattle.jc_session.specs.AnswerOf.{origin_in}
use Rattle.jc_session.specs.SessionText.{End, text_refused, given_stuck, Talks, ShowsSession, refused, stuck, talks}
use Rattle.jc_session.specs.Sent.{OfLines, OfLinesLeft, StopsAt, WentWhole, IsPast, AnsweredAll, ShowsAll, WentRefused, WentGiven, OnScenario}
use Rattle.jc_io.specs.Written.{Stream, Wrote, Interrupted, Written}
use Rattle.jc_session.proofs.AnswerOfLemmas.{of_all}
use Rattle.jc_session.proofs.TextFaultsLemmas.{not_memory}

pub origin_is : (d : Seen) (s : Scenario) → IsStarted s d.net → origin_in d ≡ origin_of s (start_of d)
origin_is d s h = let names = h.names in λ i. record { names = names i; start = start_of d }

-- the line that was made for its refusal and its place, and was sent, is the fault's
pub fault_told : (fault : ScenarioFault) (refusal : Option Refusal) (place : Option ℕ) (text sent : List ℕ) → refusal ≡ fault_refusal fault → place ≡ fault_offset fault → sent ≡ text → IsRefusalAt refusal place text → IsFaultLine fault sent
fault_told fault refusal place text sent which at same h =
    record { refusal = h.refusal; place = h.place; is_refusal = sym which ∙ h.is_refusal; is_place = sym at ∙ h.is_place; written = same ∙ h.written }

pub text_refused_shown : (b : List ℕ) (f fault : ScenarioFault) (o p : Stream) → (f ≢ S.Memory → IsFault b f) → Written (IsFaultLine f) o p → f ≡ fault → (l : List ℕ) → ShowsAll b l (text_refused fault) o p
text_refused_shown b f fault o p is h same l = subst (λ (x : ScenarioFault). ShowsAll b l (text_refused x) o p) same (h.0, refused f (is (not_memory f h.0 h.1)) h.1, h.2)

pub refused_front : (b : List ℕ) (f : ScenarioFault) (o p : Stream) → (f ≢ S.Memory → IsFault b f) → (text : List ℕ) → IsFaultLine f text → Interrupted text o p → WentRefused b o p
refused_front b f o p is text line went = (f, text, is (not_memory f text line), line, went)

-- ---- a given event that is stuck

-- it names replicas of the scenario
pub given_named : (s : Scenario) (names : List (List ℕ)) (at : ℕ) (t : Stuck) → IsWellFormedScenario s → names ≡ s.names → IsGivenFault (before_given s) s.given at t → IsNamedStuck names t
given_named s names at t formed same g = record {
  why = g.why;
  event = g.event;
  is = g.is;
  named = subst (λ (ns : List (List ℕ)). AreNamed g.event (length ns)) (sym same) (of_all (λ e. AreNamed e (length s.names)) s.given g.stuck.before g.event formed.given_known g.stuck.is);
}

-- the text that was sent is that of the event and the cause of the fault
pub given_is : (s : Scenario) (names : List (List ℕ)) (at : ℕ) (t : Stuck) (text sent : List ℕ) → sent ≡ text → names ≡ s.names → (g : IsGivenFault (before_given s) s.given at t) → ((why : Cause) (event : Event) → t ≡ stuck_for why event → text ≡ given_text names at why event) → sent ≡ given_text s.names at g.why g.event
given_is s names at t text sent is same g h = is ∙ h g.why g.event g.is ∙ ap (λ (ns : List (List ℕ)). given_text ns at g.why g.event) same

pub given_shown : (b : List ℕ) (s : Scenario) (at : ℕ) (t : Stuck) (text : List ℕ) (o p : Stream) → IsScenario b s → (g : IsGivenFault (before_given s) s.given at t) → text ≡ given_text s.names at g.why g.event → Wrote text o p → (l : List ℕ) → ShowsAll b l given_stuck o p
given_shown b s at t text o p is g same went l =
    (text, subst (λ (x : List ℕ). ShowsSession b l x given_stuck) (sym same) (stuck s at g.event g.why is g.stuck), went)

pub given_front : (b : List ℕ) (s : Scenario) (at : ℕ) (t : Stuck) (text : List ℕ) (o p : Stream) → IsScenario b s → (g : IsGivenFault (before_given s) s.given at t) → text ≡ given_text s.names at g.why g.event → Interrupted text o p → WentGiven b o p
given_front b s at t text o p is g same went = (s, at, g.event, g.why, is, g.stuck, subst (λ (x : List ℕ). Interrupted x o p) same went)

-- ---- a fault that stopped it

-- a fault that is passed on
pub handed : {T U E : Type 0} (f x : E) (r : Result T E) → IsErrAnd r (λ e. e ≡ f) → IsErrOf r x → IsErrOf {T = U} (Err f) x
handed f x (Ok v) h k = absurd h
handed f x (Err e) h k = let same : e ≡ x = cc in ap Err (sym h ∙ same)

-- want of memory, passed on
pub starved : {T : Type 0} (O : Origin) (A : Session) (first left : Option (List ℕ)) (o p : Stream) (r : Result T SessionFault) → IsErrAnd r (λ e. e ≡ Memory) → OfLinesLeft first left (λ l rest. WentWhole O A l rest o p) → IfErr r (λ fault. OfLinesLeft first left (λ l rest. StopsAt fault O A l rest o p))
starved O A first left o p (Ok v) h went = absurd h
starved O A first left o p (Err e) h went = subst (λ (f : SessionFault). OfLinesLeft first left (λ l rest. StopsAt f O A l rest o p)) (sym h) went

-- it is this one
pub stops_as : {T : Type 0} (fault x : SessionFault) (O : Origin) (A : Session) (first left : Option (List ℕ)) (o p : Stream) → IsErrOf {T = T} (Err fault) x → OfLinesLeft first left (λ l rest. StopsAt fault O A l rest o p) → OfLinesLeft first left (λ l rest. StopsAt x O A l rest o p)
stops_as fault x O A first left o p is h =
    let same : fault ≡ x = cc in subst (λ (f : SessionFault). OfLinesLeft first left (λ l rest. StopsAt f O A l rest o p)) same h

-- ---- from the start

pub on_scenario : (Says : Origin → Session → Type 0) (b : List ℕ) (s : Scenario) (d : Seen) (A : Session) → IsScenario b s → IsStarted s d.net → A ≡ new_session s.schedule → Says (origin_in d) A → OnScenario b Says
on_scenario Says b s d A is net at h =
    (s, start_of d, is, begun_at d s net, subst (λ (B : Session). Says (origin_of s (start_of d)) B) at (subst (λ (P : Origin). Says P A) (origin_is d s net) h))

-- a fault of the session that stopped it
pub stopped_on : {T : Type 0} (fault x : SessionFault) (b : List ℕ) (s : Scenario) (d : Seen) (A : Session) (first left : Option (List ℕ)) (o p : Stream) → IsErrOf {T = T} (Err fault) x → IsScenario b s → IsStarted s d.net → A ≡ new_session s.schedule → OfLinesLeft first left (λ l rest. StopsAt fault (origin_in d) A l rest o p)
    → OnScenario b (λ O B. OfLinesLeft first left (λ l rest. StopsAt x O B l rest o p))
stopped_on {T} fault x b s d A first left o p is scenario net at h =
    on_scenario (λ O B. OfLinesLeft first left (λ l rest. StopsAt x O B l rest o p)) b s d A scenario net at (stops_as {T = T} fault x (origin_in d) A first left o p is h)

shown : (b : List ℕ) (s : Scenario) (d : Seen) (A : Session) (l : List ℕ) (end : End) (o p : Stream) → IsScenario b s → IsStarted s d.net → A ≡ new_session s.schedule → AnsweredAll (origin_in d) A l end o p → ShowsAll b l end o p
shown b s d A l end o p is net at h =
    let on = on_scenario (λ O B. Talks O B l h.0 end) b s d A is net at h.1 in
    (h.0, talks on.0 on.1 on.2 on.3 on.4, h.2)

pub shown_by : (b : List ℕ) (s : Scenario) (d : Seen) (A : Session) (first : Option (List ℕ)) (end : End) (o p : Stream) → IsScenario b s → IsStarted s d.net → A ≡ new_session s.schedule → OfLines first (λ l. AnsweredAll (origin_in d) A l end o p) → OfLines first (λ l. ShowsAll b l end o p)
shown_by b s d A None end o p is net at h = (h.0, shown b s d A h.0 end o p is net at h.1)
shown_by b s d A (Some l) end o p is net at h = shown b s d A l end o p is net at h

-- past a limit
pub shown_past : (b : List ℕ) (s : Scenario) (d : Seen) (A : Session) (first left : Option (List ℕ)) (end : End) (o p : Stream) → IsScenario b s → IsStarted s d.net → A ≡ new_session s.schedule
    → OfLinesLeft first left (λ l now_left. AnsweredAll (origin_in d) A l end o p × IsPast l now_left) → OfLinesLeft first left (λ l now_left. ShowsAll b l end o p × IsPast l now_left)
shown_past b s d A None left end o p is net at h = (h.0, h.1, (shown b s d A h.0 end o p is net at h.2.0, h.2.1))
shown_past b s d A (Some l) left end o p is net at h = (shown b s d A l end o p is net at h.0, h.1)

-- Of `InMemory` and `AnswerOf`: sessions in memory, and what a session's requests make of them.
use Rattle.std.proofs.Common.{◌≡◌, ℕ, ◌+◌, ◌<◌, ◌≤◌, List, [], ◌∷◌, ◌++◌, length, take, replicate, slice_get, Some, None, refl, sym, ap, subst, ◌∙◌, arith, length-append}
use Rattle.std.proofs.lemmas.List.{length-map, length-take-le, take_all}
use Rattle.std.proofs.Math.Seq.{take-append_seam}
use Rattle.jc_rules.specs.declared.limits.TheConstants.{MAX_BREAKS}
use Rattle.jc_rules.specs.declared.operation.Event.{Event}
use Rattle.jc_rules.specs.State.{start as first_state}
use Rattle.jc_rules.specs.Step.{Network, AfterIn}
use Rattle.jc_rules.proofs.VersionLemmas.{after_states}
use Rattle.jc_scenario.specs.WellFormed.{Scenario, IsWellFormedScenario}
use Rattle.jc_network.specs.Given.{before_given}
use Rattle.jc_network.specs.Laws.{starts}
use Rattle.jc_network.proofs.AfterLemmas.{after_count}
use Rattle.jc_debug.specs.DebuggerState.{Session, IsNetworkAt, acted}
use Rattle.jc_debug.specs.Invariant.{Seen, IsDebugger, IsMoved, session_of}
use Rattle.jc_debug.proofs.InvariantLemmas.{is_at}
use Rattle.jc_choice.specs.Legal.{IsLegal}
use Rattle.jc_choice.specs.Laws.{with_schedule}
use Rattle.jc_choice.proofs.LegalLemmas.{well_formed_with}
use Rattle.jc_session.specs.Answers as N
use Rattle.jc_session.specs.Answers.{Origin, origin_of, ActsOn, Replies}
use Rattle.jc_session.specs.AnswerOf.{origin_in}
use Rattle.jc_session.specs.Reply.{Reply}
use Rattle.jc_session.specs.Requests as Q
use Rattle.jc_session.specs.Requests.{Request}
use Rattle.jc_requests.specs.Asked as K
use Rattle.jc_replies.specs.AnswerOf.{background_of, event_text, GivesServed}
use Rattle.jc_replies.specs.ReplyTexts.{IsAnswer, Background}
use Rattle.jc_listings.specs.Positions.{background, IsAt}
use Rattle.jc_serve.specs.declared.served.Served.{Served as AnyServed}
use Rattle.jc_serve.specs.Answers as A
use Rattle.jc_serve.specs.Answers.{IsOwn, AnswersServed}
use Rattle.jc_serve.specs.AnswerOf.{IsAct, IsFollowed, IsInService, LeadsTo}
use Rattle.jc_serve.specs.InMemory.{state_of, IsDebuggerOf, IsServing}
use Rattle.jc_serve.specs.Marks.{session_in}
use Rattle.jc_serve.specs.Moves.{SharesFirst}

-- ---- parts of a session

-- a network behind some events has a state for each replica
pub each_at : (s : Scenario) (events : List Event) (n : ℕ) (N : Network) → IsWellFormedScenario s → IsAt s events n N → length N.states ≡ length s.names
each_at s events n N formed h =
    after_count (starts s.scripts) (take n (s.given ++ events)) N.states (after_states (before_given s) (take n (s.given ++ events)) N h.after)
    ∙ length-map s.scripts first_state
    ∙ formed.each

-- a debugger that has moved is still one of the scenario
pub moved_debugger : (s : Scenario) (start : Network) (d e : Seen) (n : ℕ) → IsDebuggerOf s start d → IsMoved d e n → IsDebuggerOf s start e
moved_debugger s start d e n is m = record { names = m.names ∙ is.names; is_start = m.start ∙ is.is_start }

-- other debuggers with the same schedule stand for a session too
pub serving : (s : Scenario) (start : Network) (x : AnyServed) (h a : Seen)
    → IsServing s start x
    → IsDebuggerOf s start h
    → h.breaks ≡ replicate MAX_BREAKS None
    → IsDebuggerOf s start a
    → a.schedule ≡ h.schedule
    → IsWellFormedScenario (with_schedule s h.schedule)
    → IsServing s start (record x { here = h; aside = a })
serving s start x h a v here none aside same current = record {
  scenario = v.scenario;
  formed = v.formed;
  starts = v.starts;
  here = here;
  no_breaks = none;
  aside = aside;
  same = same;
  current = current;
  places = v.places;
}

-- the one beside has moved
pub aside_moved : (s : Scenario) (start : Network) (x : AnyServed) (a : Seen) (n : ℕ) → IsServing s start x → IsMoved x.aside a n → IsServing s start (record x { aside = a })
aside_moved s start x a n v m =
    serving s start x x.here a v v.here v.no_breaks (moved_debugger s start x.aside a n v.aside m) (m.schedule ∙ v.same) v.current

-- the one at the session's position has moved
pub here_moved : (s : Scenario) (start : Network) (x : AnyServed) (h : Seen) (n : ℕ) → IsServing s start x → IsMoved x.here h n → IsServing s start (record x { here = h })
here_moved s start x h n v m =
    serving s start x h x.aside v (moved_debugger s start x.here h n v.here m) (m.breaks ∙ v.no_breaks) v.aside (v.same ∙ sym m.schedule)
    (subst (λ (es : List Event). IsWellFormedScenario (with_schedule s es)) (sym m.schedule) v.current)

-- ---- requests of a session

-- A request leaves the schedule as it was, or it makes an event of the caller's.
pub data Leaves (A B : Session) (q : Request) : Type 0 where
  kept : B.schedule ≡ A.schedule → B.breaks ≡ A.breaks → (IsAct q → B.position ≡ A.position) → Leaves A B q
  made : (event : Event) → IsAct q → B ≡ acted A event → Leaves A B q

act_leaves : (O : Origin) (A B : Session) (rest : List ℕ) (e : Event) (reply : Reply) → ActsOn O A e B reply → Leaves A B (Q.act rest)
act_leaves O A B rest e reply (N.full is) = kept refl refl (λ act. refl)
act_leaves O A B rest e reply (N.stuck why network lt is stuck) = kept refl refl (λ act. refl)
act_leaves O A B rest e reply (N.made network new rows lt is step) = made e tt refl

pub leaves : (O : Origin) (A B : Session) (q : Request) (reply : Reply) → (IsOwn q → ⊥) → Replies O A q B reply → Leaves A B q
leaves O A B q reply own (N.acts {rest} event spelled acts) = act_leaves O A B rest event reply acts
leaves O A B q reply own (N.acts_misspelled m) = kept refl refl (λ act. refl)
leaves O A B q reply own (N.runs lt runs) = absurd (own tt)
leaves O A B q reply own (N.runs_past is) = absurd (own tt)
leaves O A B q reply own (N.breaks_at sets) = absurd (own tt)
leaves O A B q reply own (N.breaks_rule rule has is sets) = absurd (own tt)
leaves O A B q reply own (N.no_rule none) = absurd (own tt)
leaves O A B q reply own (N.breaks_replica p is sets) = absurd (own tt)
leaves O A B q reply own (N.no_replica none) = absurd (own tt)
leaves O A B q reply own (N.clears j b is) = absurd (own tt)
leaves O A B q reply own (N.no_break none) = absurd (own tt)
leaves O A B q reply own _ = kept refl refl (λ act. absurd act)

module _ (s : Scenario) (start : Network) (x : AnyServed) (v : IsServing s start x) (q : Request) (d : Seen) (trail : IsDebugger d) (answer : List ℕ) (g : GivesServed x.scenario.given.items x.here q d answer) (own : IsOwn q → ⊥) where
  debugger : IsDebuggerOf s start d
  debugger = record { names = ap (λ (O : Origin). O.names) g.origin ∙ v.here.names; is_start = ap (λ (O : Origin). O.start) g.origin ∙ v.here.is_start }

  given_is : x.scenario.given.items ≡ s.given
  given_is = ap (λ (t : Scenario). t.given) v.scenario

  here : IsNetworkAt start d.schedule (length d.traces) d.net.history.now
  here = subst (λ (S : Network). IsNetworkAt S d.schedule (length d.traces) d.net.history.now) debugger.is_start (is_at d trail)

  in_session : session_of x.here ≡ session_in (state_of x)
  in_session = λ i. record { schedule = x.here.schedule; position = length x.here.traces; breaks = v.no_breaks i }

  origin : origin_in x.here ≡ origin_of s start
  origin = λ i. record { names = v.here.names i; start = v.here.is_start i }

  replied : Replies (origin_of s start) (session_in (state_of x)) q (session_of d) g.reply
  replied =
      subst (λ (O : Origin). Replies O (session_in (state_of x)) q (session_of d) g.reply) origin
      (subst (λ (S : Session). Replies (origin_in x.here) S q (session_of d) g.reply) in_session g.replies)

  shown : IsAnswer (background s d.schedule d.net.history.now.states) (event_text q) g.reply answer
  shown =
      let same : background_of x.scenario.given.items d ≡ background s d.schedule d.net.history.now.states =
      λ i. record { names = debugger.names i; given = given_is i; schedule = d.schedule; states = d.net.history.now.states } in
      subst (λ (B : Background). IsAnswer B (event_text q) g.reply answer) same g.answer

  -- the request is answered so, whichever debugger is beside
  pub answered_so : (text : List ℕ) (a : Seen) → AnswersServed text s start (state_of x) (K.of_session q) (state_of (record x { here = d; aside = a })) answer
  answered_so text a = A.replies d.net.history.now own replied here shown

  left : Leaves (session_of x.here) (session_of d) q
  left = leaves (origin_in x.here) (session_of x.here) (session_of d) q g.reply own g.replies

  pub kept_serving : ((IsAct q × (length x.here.traces < length d.traces)) → ⊥) → IsServing s start (record x { here = d })
  kept_serving not_made = go left
    where
      go : Leaves (session_of x.here) (session_of d) q → IsServing s start (record x { here = d })
      go (kept schedule breaks stays) =
          serving s start x d x.aside v debugger (breaks ∙ v.no_breaks) v.aside (v.same ∙ sym schedule)
          (subst (λ (es : List Event). IsWellFormedScenario (with_schedule s es)) (sym schedule) v.current)
      go (made event act is) =
          let further : length d.traces ≡ length x.here.traces + 1 = ap (λ (S : Session). S.position) is in
          absurd (not_made (act, omega (arith, further)))

  pub event_made : IsAct q → length x.here.traces < length d.traces → (event : Event) × (session_of d ≡ acted (session_of x.here) event)
  event_made act further = go left
    where
      go : Leaves (session_of x.here) (session_of d) q → (event : Event) × (session_of d ≡ acted (session_of x.here) event)
      go (kept schedule breaks stays) = let same : length d.traces ≡ length x.here.traces = stays act in absurd (omega (arith, same, further))
      go (made event act is) = (event, is)

  pub made_there : (old : IsDebugger x.here) (event : Event) → session_of d ≡ acted (session_of x.here) event → slice_get d.schedule (length x.here.traces) ≡ Some event
  made_there old event is =
      let schedule : d.schedule ≡ take (length x.here.traces) x.here.schedule ++ event ∷ [] = ap (λ (S : Session). S.schedule) is in
      let many : length (take (length x.here.traces) x.here.schedule) ≡ length x.here.traces = length-take-le (length x.here.traces) x.here.schedule old.within in
      ap (λ (es : List Event). slice_get es (length x.here.traces)) schedule
      ∙ ap (slice_get (take (length x.here.traces) x.here.schedule ++ event ∷ [])) (sym many)
      ∙ last_of (take (length x.here.traces) x.here.schedule) event
    where
      last_of : (es : List Event) (e : Event) → slice_get (es ++ e ∷ []) (length es) ≡ Some e
      last_of [] e = refl
      last_of (f ∷ es) e = last_of es e

  pub made_serving : (old : IsDebugger x.here) (event : Event) (a : Seen) → session_of d ≡ acted (session_of x.here) event → IsFollowed x.aside a (length x.here.traces) event → IsServing s start (record x { here = d; aside = a })
  made_serving old event a is followed =
      let schedule : d.schedule ≡ take (length x.here.traces) x.here.schedule ++ event ∷ [] = ap (λ (S : Session). S.schedule) is in
      let position : length d.traces ≡ length x.here.traces + 1 = ap (λ (S : Session). S.position) is in
      let breaks : d.breaks ≡ x.here.breaks = ap (λ (S : Session). S.breaks) is in
      let within = old.within in
      let many = length-take-le (length x.here.traces) x.here.schedule within in
      let more = length-append (take (length x.here.traces) x.here.schedule) (event ∷ []) in
      let longer = ap length schedule in
      let all : length d.schedule ≤ length d.traces = omega (arith, longer, more, many, position) in
      let short = trail.short in
      let legal : IsLegal d.schedule s d.net.history.now = record {
        start = start;
        is_start = v.starts;
        after = subst (λ (es : List Event). AfterIn start es d.net.history.now) (take_all (length d.traces) d.schedule all) here.after;
      } in
      let beside : a.schedule ≡ d.schedule =
      followed.schedule ∙ ap (λ (es : List Event). take (length x.here.traces) es ++ event ∷ []) v.same ∙ sym schedule in
      serving s start x d a v debugger (breaks ∙ v.no_breaks)
      (record { names = followed.names ∙ v.aside.names; is_start = followed.start ∙ v.aside.is_start })
      beside
      (well_formed_with s d.schedule d.net.history.now v.formed legal short)

-- ---- what a session's request leads to

module _ (x : AnyServed) (q : Request) (d : Seen) (answer : List ℕ) (old : IsDebugger x.here) (trail : IsDebugger d) (own : IsOwn q → ⊥) (g : GivesServed x.scenario.given.items x.here q d answer) where
  -- an event was made, up to which the debugger beside has the same schedule
  pub shares : (n : ℕ) → n ≡ length x.here.traces → IsAct q → n < length d.traces → IsInService x → SharesFirst x.aside d n
  shares n at act lt (s, start, v) =
      let was = length x.here.traces in
      let made = event_made s start x v q d trail answer g own act (omega (arith, lt, at)) in
      let schedule : d.schedule ≡ take was x.here.schedule ++ made.0 ∷ [] = ap (λ (S : Session). S.schedule) made.1 in
      let within = old.within in
      let many = length-take-le was x.here.schedule within in
      let longer = ap length v.same in
      let first : take was d.schedule ≡ take was x.here.schedule =
      ap (take was) schedule
      ∙ (ap (λ (k : ℕ). take k (take was x.here.schedule ++ made.0 ∷ [])) (sym many) ∙ take-append_seam (take was x.here.schedule) (made.0 ∷ [])) in
      let both : take n d.schedule ≡ take n x.here.schedule = subst (λ (k : ℕ). take k d.schedule ≡ take k x.here.schedule) (sym at) first in
      record {
        start = v.aside.is_start ∙ sym (debugger s start x v q d trail answer g own).is_start;
        first = ap (take n) v.same ∙ sym both;
        within = omega (arith, at, within, longer);
        made = lt;
      }

  -- an event was made, which the debugger beside has made too
  pub with_event : (y : AnyServed) (n : ℕ)
      → n ≡ length x.here.traces
      → IsAct q
      → n < length d.traces
      → y ≡ record x { here = d; aside = y.aside }
      → ((event : Event) → slice_get d.schedule n ≡ Some event → IsFollowed x.aside y.aside n event)
      → (text : List ℕ) → LeadsTo text x (K.of_session q) y answer
  with_event y n at act lt same f text s start v =
      let further : length x.here.traces < length d.traces = omega (arith, lt, at) in
      let made = event_made s start x v q d trail answer g own act further in
      let there : slice_get d.schedule n ≡ Some made.0 =
      subst (λ (k : ℕ). slice_get d.schedule k ≡ Some made.0) (sym at) (made_there s start x v q d trail answer g own old made.0 made.1) in
      let followed : IsFollowed x.aside y.aside (length x.here.traces) made.0 = subst (λ (k : ℕ). IsFollowed x.aside y.aside k made.0) at (f made.0 there) in
      subst (λ (z : AnyServed). AnswersServed text s start (state_of x) (K.of_session q) (state_of z) answer × IsServing s start z) (sym same)
      (answered_so s start x v q d trail answer g own text y.aside, made_serving s start x v q d trail answer g own old made.0 y.aside made.1 followed)

  -- none was made
  pub without_event : ((IsAct q × (length x.here.traces < length d.traces)) → ⊥) → (text : List ℕ) → LeadsTo text x (K.of_session q) (record x { here = d }) answer
  without_event none text s start v =
      (answered_so s start x v q d trail answer g own text x.aside, kept_serving s start x v q d trail answer g own none)

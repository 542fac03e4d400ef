-- Of `AnswerOf`: the contracts of a debugger's calls give the replies to requests.
use Rattle.std.proofs.Common.{◌≡◌, ◌≢◌, ◌↔◌, ℕ, ◌+◌, ◌-◌, ◌<◌, ◌≤◌, List, [], length, take, slice_get, get_or, Option, None, Some, Result, Ok, Err, Contains, IfSome, IsNone, IsFalse, true, false, inl, inr, ◌⊎◌, refl, ap, sym, subst, ◌∙◌, arith}
use Rattle.std.specs.List.{All}
use Rattle.std.proofs.lemmas.Option.{slice_get_within, get_or_from_slice_get, slice_get-get_or}
use Rattle.jc_rules.specs.declared.operation.Event.{Event}
use Rattle.jc_rules.specs.declared.refusal.Refusal.{Refusal}
use Rattle.jc_rules.specs.declared.refusal.Refusal.TheVariants as F
use Rattle.jc_rules.specs.declared.rule.Rule.{Rule}
use Rattle.jc_rules.specs.declared.version.Version.{Version}
use Rattle.jc_rules.specs.RuleNames.{rule_name}
use Rattle.jc_rules.specs.State.{State, start}
use Rattle.jc_network.specs.declared.fault.Stuck.{Stuck}
use Rattle.jc_network.specs.Invariant.{IsFromStart}
use Rattle.jc_network.specs.Laws.{StepOrStuck}
use Rattle.jc_network.specs.NetworkHistory.{NetworkHistory}
use Rattle.jc_network.proofs.AfterLemmas.{after_version}
use Rattle.jc_meaning.specs.declared.comparison.Comparison.{Comparison}
use Rattle.jc_meaning.specs.declared.comparison.Comparison.TheVariants.{SameOps, DifferentOps}
use Rattle.jc_meaning.specs.Comparison.{IsFound, IsComparison}
use Rattle.jc_debug.specs.declared.breaks.Break.{Break}
use Rattle.jc_debug.specs.declared.fault.DebugFault.{DebugFault}
use Rattle.jc_debug.specs.declared.fault.DebugFault.TheVariants as D
use Rattle.jc_debug.specs.declared.fault.RunEnd.{RunEnd}
use Rattle.jc_debug.specs.Moves.{IsMoveFault, IsRunFault, IsActFault, IsTraceOf, RunMoves, IsActed, IsStuckHere, IsSet, IsCleared, IsNoBreak}
use Rattle.jc_debug.specs.DebuggerState.{Session, IsNetworkAt, StuckEvent, GoesTo, moved_to, acted, with_break}
use Rattle.jc_debug.specs.Invariant.{Seen, start_of, session_of, IsDebugger, IsMoved}
use Rattle.jc_debug.proofs.RepliesLemmas.{moved_session, arrived, stopped}
use Rattle.jc_session.specs.declared.replies.Reply.{Reply as AnyReply}
use Rattle.jc_session.specs.declared.replies.Reply.TheVariants as R
use Rattle.jc_session.specs.Answers as A
use Rattle.jc_session.specs.Answers.{Replies, Sets, IsNamed, IsEventText, Knows}
use Rattle.jc_session.specs.AnswerOf.{origin_in, IsReply, traced, at_start, GivesReply, set_reply}
use Rattle.jc_session.specs.Reply as Y
use Rattle.jc_session.specs.Reply.{Reply}
use Rattle.jc_session.specs.Requests as Q
use Rattle.jc_session.specs.Requests.{Request}
use Rattle.jc_session.proofs.ChosenEventsLemmas.{some_enabled}

-- ---- ends of calls

-- what is in a list that is all so
pub of_all : (P : Event → Type 0) (xs : List Event) (k : ℕ) (x : Event) → All P xs → slice_get xs k ≡ Some x → P x
of_all P xs k x h e = subst P (get_or_from_slice_get xs k x x e) (h k x (slice_get_within xs k x e))

-- ---- moves

-- the debugger's state is this one now
gives : (d e : Seen) (B : Session) (q : Request) (answer : AnyReply) (reply : Reply) → session_of e ≡ B → origin_in e ≡ origin_in d → IsReply e answer reply → Replies (origin_in d) (session_of d) q B reply → GivesReply d q e answer
gives d e B q answer reply same origin is r = record {
  reply = reply;
  is_reply = is;
  replies = subst (λ (X : Session). Replies (origin_in d) (session_of d) q X reply) (sym same) r;
  origin = origin;
}

gives_moved : (d e : Seen) (n : ℕ) (q : Request) (answer : AnyReply) (reply : Reply) → IsMoved d e n → IsReply e answer reply → Replies (origin_in d) (session_of d) q (moved_to (session_of d) n) reply → GivesReply d q e answer
gives_moved d e n q answer reply m is r = gives d e (moved_to (session_of d) n) q answer reply (moved_session d e n m) (λ i. record { names = m.names i; start = m.start i }) is r

-- a call that is refused, for what its contract says
refuses : (d e : Seen) (q : Request) {refusal : Refusal} (r : Refusal) → r ≡ refusal → e ≡ d → Replies (origin_in d) (session_of d) q (session_of d) (Y.refused refusal) → GivesReply d q e (R.Refused r)
refuses d e q {refusal} r is same due = gives d e (session_of d) q (R.Refused r) (Y.refused refusal) (ap session_of same) (ap origin_in same) (ap Y.refused (sym is)) due

-- a move that arrived
came_to : (d e : Seen) (n m : ℕ) (q : Request) → IsMoved d e n → m ≡ length e.traces → Replies (origin_in d) (session_of d) q (moved_to (session_of d) n) (Y.went n None) → GivesReply d q e (R.Went m)
came_to d e n m q moves at r =
    let number : m ≡ n = at ∙ moves.position in
    gives_moved d e n q (R.Went m) (Y.went n None) moves (ap (λ (k : ℕ). Y.went k None) (sym number)) r

-- A request to move to this position: it is refused past the schedule, and else it goes there.
pub record MovesTo (d : Seen) (q : Request) (to : ℕ) (refusal : Refusal) : Type 0 where
  pub past : length d.schedule < to → Replies (origin_in d) (session_of d) q (session_of d) (Y.refused refusal)
  pub goes : (n : ℕ) (end : Option StuckEvent) → to ≤ length d.schedule → GoesTo (start_of d) d.schedule (length d.traces) to n end → Replies (origin_in d) (session_of d) q (moved_to (session_of d) n) (Y.went n end)

pub steps_to : (d : Seen) (n : ℕ) → MovesTo d (Q.step n) (length d.traces + n) F.AtEnd
steps_to d n = record { past = λ past. A.steps_past past; goes = λ p end within goes. A.steps within goes }

pub goes_to : (d : Seen) (n : ℕ) → MovesTo d (Q.goto n) n F.PastSchedule
goes_to d n = record { past = λ past. A.goes_past past; goes = λ p end within goes. A.goes_to within goes }

-- a move that wasn't refused, and arrived
pub reply_moved : (d e : Seen) {q : Request} {to : ℕ} {refusal : Refusal} (m : ℕ) (v : Unit {0}) → MovesTo d q to refusal → ((◌≡◌ {A = Result (Unit {0}) DebugFault} (Ok v) (Err (D.Refused refusal))) ↔ (length d.schedule < to)) → IsDebugger e → IsMoved d e to → m ≡ length e.traces → GivesReply d q e (R.Went m)
reply_moved d e {q} {to} m v move exactly trail moves at =
    let no : length d.schedule < to → ⊥ = λ lt. cc (exactly.1 lt) in
    came_to d e to m q moves at (move.goes to None (omega (arith, no)) (arrived d e to trail moves))

-- a move past the schedule
pub reply_past : (d e : Seen) {q : Request} {to : ℕ} {refusal : Refusal} (r : Refusal) (fault : DebugFault) → MovesTo d q to refusal → fault ≡ D.Refused r → ((◌≡◌ {A = Result (Unit {0}) DebugFault} (Err fault) (Err (D.Refused refusal))) ↔ (length d.schedule < to)) → IsMoveFault refusal d e to fault → GivesReply d q e (R.Refused r)
reply_past d e {q} {to} {refusal} r fault move is exactly h =
    let why : (r ≡ refusal) × (e ≡ d) = subst (λ (f : DebugFault). IsMoveFault refusal d e to f) is h in
    refuses d e q r why.0 why.1 (move.past (exactly.0 (ap Err (is ∙ ap D.Refused why.0))))

-- a move that stopped before a stuck event
pub reply_stuck : (d e : Seen) {q : Request} {to : ℕ} {refusal : Refusal} (m : ℕ) (fault : DebugFault) (s : Stuck) → MovesTo d q to refusal → fault ≡ D.Stuck s → ((◌≡◌ {A = Result (Unit {0}) DebugFault} (Err fault) (Err (D.Refused refusal))) ↔ (length d.schedule < to)) → IsMoveFault refusal d e to fault → m ≡ length e.traces → GivesReply d q e (R.Stuck m s)
reply_stuck d e {q} {to} {refusal} m fault s move is exactly h at =
    let no : length d.schedule < to → ⊥ = λ lt. cc (exactly.1 lt) in
    let st = stopped d e to s (subst (λ (f : DebugFault). IsMoveFault refusal d e to f) is h) in
    let number : m ≡ st.position = at ∙ st.moved.position in
    gives_moved d e st.position q (R.Stuck m s) (Y.went st.position (Some (st.event, st.why))) st.moved
    (st.why, st.event, st.is, ap (λ (k : ℕ). Y.went k (Some (st.event, st.why))) (sym number)) (move.goes st.position (Some (st.event, st.why)) (omega (arith, no)) st.goes)

pub reply_back : (d e : Seen) (n m : ℕ) → n ≤ length d.traces → IsMoved d e (length d.traces - n) → m ≡ length e.traces → GivesReply d (Q.back n) e (R.Went m)
reply_back d e n m le moves at = came_to d e (length d.traces - n) m (Q.back n) moves at (A.goes_back le)

pub went_back : (a n : ℕ) → (IsFalse true ↔ (a < n)) → n ≤ a
went_back a n exactly = let no : a < n → ⊥ = λ lt. cc (exactly.1 lt) in omega (arith, no)

pub back_past : (d e : Seen) (n : ℕ) → length d.traces < n → e ≡ d → GivesReply d (Q.back n) e (R.Refused F.AtStart)
back_past d e n lt same = refuses d e (Q.back n) F.AtStart refl same (A.back_past lt)

-- ---- runs

pub run_past : (d e : Seen) (fault : DebugFault) (r : Refusal) → fault ≡ D.Refused r → ((◌≡◌ {A = Result RunEnd DebugFault} (Err fault) (Err (D.Refused F.AtEnd))) ↔ (length d.traces ≡ length d.schedule)) → IsRunFault d e fault → GivesReply d Q.run e (R.Refused r)
run_past d e fault r is exactly h =
    let why : (r ≡ F.AtEnd) × (e ≡ d) = subst (λ (f : DebugFault). IsRunFault d e f) is h in
    refuses d e Q.run r why.0 why.1 (A.runs_past (exactly.0 (ap Err (is ∙ ap D.Refused why.0))))

pub reply_run : (d e : Seen) (end : RunEnd) (m : ℕ) → ((◌≡◌ {A = Result RunEnd DebugFault} (Ok end) (Err (D.Refused F.AtEnd))) ↔ (length d.traces ≡ length d.schedule)) → RunMoves d e end → m ≡ length e.traces → GivesReply d Q.run e (R.Ran m end)
reply_run d e end m exactly r at =
    let other : length d.traces ≢ length d.schedule = λ same. cc (exactly.1 same) in
    let number : m ≡ r.position = at ∙ r.moved.position in
    gives_moved d e r.position Q.run (R.Ran m end) (Y.ran r.position r.outcome) r.moved
    (r.outcome, r.is_end, ap (λ (k : ℕ). Y.ran k r.outcome) (sym number))
    (A.runs (omega (arith, other, r.runs.forward, r.runs.is_at.within)) r.runs)

-- ---- events of a line

pub reply_act : (d e : Seen) (rest : List ℕ) (event : Event) (m : ℕ) → IsEventText (start_of d).version d.net.names rest event → IsDebugger e → IsActed d e event → m ≡ length e.traces → GivesReply d (Q.act rest) e (R.Went m)
reply_act d e rest event m spelled trail a at =
    let position : length e.traces ≡ length d.traces + 1 = ap (λ (S : Session). S.position) a.session in
    gives d e (acted (session_of d) event) (Q.act rest) (R.Went m) (Y.went (length d.traces + 1) None) a.session (λ i. record { names = a.names i; start = a.start i })
    (ap (λ (k : ℕ). Y.went k None) (sym (at ∙ position)))
    (A.acts event spelled (A.made d.net.history.now e.net.history.now a.rows (omega (arith, position, trail.within, trail.short)) a.is_at a.step))

pub act_full : (d e : Seen) (rest : List ℕ) (event : Event) (fault : DebugFault) (r : Refusal) → IsEventText (start_of d).version d.net.names rest event → fault ≡ D.Refused r → IsActFault d event fault → e ≡ d → GivesReply d (Q.act rest) e (R.Refused r)
act_full d e rest event fault r spelled is h same =
    let why : (r ≡ F.TooManyEvents) × (length d.traces ≡ 100000) = subst (λ (f : DebugFault). IsActFault d event f) is h in
    refuses d e (Q.act rest) r why.0 same (A.acts event spelled (A.full why.1))

pub act_stuck : (d e : Seen) (rest : List ℕ) (event : Event) (m : ℕ) (fault : DebugFault) (s : Stuck) → IsEventText (start_of d).version d.net.names rest event → IsDebugger e → fault ≡ D.Stuck s → ((◌≡◌ {A = Result (Unit {0}) DebugFault} (Err fault) (Err (D.Refused F.TooManyEvents))) ↔ (length d.traces ≡ 100000)) → IsActFault d event fault → e ≡ d → m ≡ length e.traces → GivesReply d (Q.act rest) e (R.Stuck m s)
act_stuck d e rest event m fault s spelled trail is exactly h same at =
    let here : IsStuckHere d event s = subst (λ (f : DebugFault). IsActFault d event f) is h in
    let why = here.stuck.why in
    let number : m ≡ length d.traces = at ∙ ap (λ (v : Seen). length v.traces) same in
    let other : length d.traces ≢ 100000 = λ full. cc (exactly.1 full) in
    let old = subst IsDebugger same trail in
    gives d e (session_of d) (Q.act rest) (R.Stuck m s) (Y.went (length d.traces) (Some (event, why))) (ap session_of same) (ap origin_in same)
    (why, event, here.stuck.is, ap (λ (k : ℕ). Y.went k (Some (event, why))) (sym number))
    (A.acts event spelled (A.stuck why d.net.history.now (omega (arith, other, old.within, old.short)) here.is_at here.stuck.stuck))

-- the version of the network at the position is that of the first
same_version : (d : Seen) (net : NetworkHistory) (version : Version) → version ≡ net.history.now.version → IsNetworkAt (start_of d) d.schedule (length d.traces) net.history.now → version ≡ (start_of d).version
same_version d net version is at = is ∙ after_version (start_of d) (take (length d.traces) d.schedule) net.history.now at.after

pub spelled_in : (d : Seen) (net : NetworkHistory) (version : Version) (names : List (List ℕ)) (rest : List ℕ) (event : Event) → version ≡ net.history.now.version → IsNetworkAt (start_of d) d.schedule (length d.traces) net.history.now → net ≡ d.net → names ≡ net.names → IsEventText version names rest event → IsEventText (start_of d).version d.net.names rest event
spelled_in d net version names rest event of at same is h =
    subst (λ (v : Version). IsEventText v d.net.names rest event) (same_version d net version of at)
    (subst (λ (ns : List (List ℕ)). IsEventText version ns rest event) (is ∙ ap (λ (c : NetworkHistory). c.names) same) h)

pub reply_misspelled : (d : Seen) (net : NetworkHistory) (version : Version) (names : List (List ℕ)) (rest : List ℕ) (refusal : Refusal) (place : ℕ) → version ≡ net.history.now.version → IsNetworkAt (start_of d) d.schedule (length d.traces) net.history.now → net ≡ d.net → names ≡ net.names → A.IsMisspelled version names rest refusal place → GivesReply d (Q.act rest) d (R.Misspelled refusal place)
reply_misspelled d net version names rest refusal place of at same is h =
    let named = subst (λ (ns : List (List ℕ)). A.IsMisspelled version ns rest refusal place) (is ∙ ap (λ (c : NetworkHistory). c.names) same) h in
    gives d d (session_of d) (Q.act rest) (R.Misspelled refusal place) (Y.misspelled refusal place) refl refl refl
    (A.acts_misspelled (subst (λ (v : Version). A.IsMisspelled v d.net.names rest refusal place) (same_version d net version of at) named))

-- ---- breakpoints

-- a breakpoint was set, or could not be
pub gives_set : (d e : Seen) (b : Break) (q : Request) (r : Result ℕ DebugFault) (answer : AnyReply) → answer ≡ set_reply r → IsSet d e b r → ((B : Session) (reply : Reply) → Sets (session_of d) b B reply → Replies (origin_in d) (session_of d) q B reply) → GivesReply d q e answer
gives_set d e b q (Ok k) answer same (j, number, least, new) due =
    subst (λ (a : AnyReply). GivesReply d q e a) (sym same)
    (gives d e (with_break (session_of d) j (Some b)) q (R.Set k) (Y.set (j + 1)) (ap session_of new) (ap origin_in new) (ap Y.set (sym number)) (due (with_break (session_of d) j (Some b)) (Y.set (j + 1)) (A.set least)))
gives_set d e b q (Err fault) answer same (is, none, old) due =
    subst (λ (a : AnyReply). GivesReply d q e a) (sym same) (refuses d e q F.TooManyBreaks refl old (due (session_of d) (Y.refused F.TooManyBreaks) (A.none_free none)))

pub known_here : (d : Seen) (net : NetworkHistory) (version : Version) (rule : Rule) → version ≡ net.history.now.version → IsNetworkAt (start_of d) d.schedule (length d.traces) net.history.now → Knows rule version → Knows rule (start_of d).version
known_here d net version rule is at known = subst (Knows rule) (same_version d net version is at) known

pub reply_no_rule : (d : Seen) (net : NetworkHistory) (version : Version) (name : List ℕ) → version ≡ net.history.now.version → IsNetworkAt (start_of d) d.schedule (length d.traces) net.history.now → ((rule : Rule) → Knows rule version → rule_name rule ≢ name) → GivesReply d (Q.break_rule name) d (R.Refused F.BadLine)
reply_no_rule d net version name is at none =
    refuses d d (Q.break_rule name) F.BadLine refl refl (A.no_rule (λ rule known. none rule (subst (Knows rule) (sym (same_version d net version is at)) known)))

pub reply_unbreak : (d e : Seen) (k : ℕ) → IsCleared d e k → GivesReply d (Q.unbreak k) e (R.Cleared k)
reply_unbreak d e k c =
    subst (λ (n : ℕ). GivesReply d (Q.unbreak n) e (R.Cleared n)) (sym c.number)
    (gives d e (with_break (session_of d) c.place None) (Q.unbreak (c.place + 1)) (R.Cleared (c.place + 1)) (Y.cleared (c.place + 1)) (ap session_of c.is_free) (ap origin_in c.is_free) refl (A.clears c.place c.was c.is_there))

pub reply_no_break : (d e : Seen) (k : ℕ) → IsNoBreak d k → e ≡ d → GivesReply d (Q.unbreak k) e (R.Refused F.NoSuchBreak)
reply_no_break d e k none same = refuses d e (Q.unbreak k) F.NoSuchBreak refl same (A.no_break none)

-- ---- what is shown

-- the network at the position is the debugger's
here : (d : Seen) (net : NetworkHistory) → net ≡ d.net → IsNetworkAt (start_of d) d.schedule (length d.traces) net.history.now → IsNetworkAt (start_of d) d.schedule (length d.traces) d.net.history.now
here d net same is = subst (λ (c : NetworkHistory). IsNetworkAt (start_of d) d.schedule (length d.traces) c.history.now) same is

pub reply_state : (d : Seen) (net : NetworkHistory) → net ≡ d.net → IsNetworkAt (start_of d) d.schedule (length d.traces) net.history.now → GivesReply d Q.state d R.States
reply_state d net same is = gives d d (session_of d) Q.state R.States (Y.states d.net.history.now.states) refl refl refl (A.states d.net.history.now (here d net same is))

-- no replica has the name, in the debugger's list of them
strange_in : (d : Seen) (net : NetworkHistory) (names : List (List ℕ)) (name : List ℕ) → net ≡ d.net → names ≡ net.names → (Contains names name → ⊥) → Contains d.net.names name → ⊥
strange_in d net names name same is none = subst (λ (ns : List (List ℕ)). Contains ns name → ⊥) (is ∙ ap (λ (c : NetworkHistory). c.names) same) none

pub named_in : (d : Seen) (net : NetworkHistory) (names : List (List ℕ)) (name : List ℕ) (p : ℕ) → net ≡ d.net → names ≡ net.names → IsNamed names name p → IsNamed d.net.names name p
named_in d net names name p same is named = subst (λ (ns : List (List ℕ)). IsNamed ns name p) (is ∙ ap (λ (c : NetworkHistory). c.names) same) named

pub reply_state_of : (d : Seen) (net : NetworkHistory) (names : List (List ℕ)) (name : List ℕ) (p : ℕ) → net ≡ d.net → names ≡ net.names → IsNetworkAt (start_of d) d.schedule (length d.traces) net.history.now → length net.history.now.states ≡ length net.names → IsNamed names name p → GivesReply d (Q.state_of name) d (R.StateOf p)
reply_state_of d net names name p same is is_at each named =
    let there : IsNamed d.net.names name p = named_in d net names name p same is named in
    let count : length d.net.history.now.states ≡ length d.net.names = subst (λ (c : NetworkHistory). length c.history.now.states ≡ length c.names) same each in
    let within : p < length d.net.history.now.states = subst (λ (n : ℕ). p < n) (sym count) (slice_get_within d.net.names p name there) in
    let C = get_or d.net.history.now.states p (start []) in
    let at = slice_get-get_or d.net.history.now.states p (start []) within in
    gives d d (session_of d) (Q.state_of name) (R.StateOf p) (Y.state_of name C) refl refl (name, C, there, at, refl) (A.state_of d.net.history.now p C (here d net same is_at) there at)

pub reply_no_state : (d : Seen) (net : NetworkHistory) (names : List (List ℕ)) (name : List ℕ) → net ≡ d.net → names ≡ net.names → (Contains names name → ⊥) → GivesReply d (Q.state_of name) d (R.Refused F.UnknownReplica)
reply_no_state d net names name same is none = refuses d d (Q.state_of name) F.UnknownReplica refl refl (A.no_state (strange_in d net names name same is none))

pub reply_no_replica : (d : Seen) (net : NetworkHistory) (names : List (List ℕ)) (name : List ℕ) → net ≡ d.net → names ≡ net.names → (Contains names name → ⊥) → GivesReply d (Q.break_replica name) d (R.Refused F.UnknownReplica)
reply_no_replica d net names name same is none = refuses d d (Q.break_replica name) F.UnknownReplica refl refl (A.no_replica (strange_in d net names name same is none))

pub reply_trace : {X : Type 0} (rows_of : X → List (Rule × ℕ)) (d : Seen) (rows : Option X) → IfSome rows (λ t. IsTraceOf d (rows_of t)) → (IsNone rows ↔ (length d.traces ≡ 0)) → GivesReply d Q.trace d R.Trace
reply_trace rows_of d (Some t) is start =
    gives d d (session_of d) Q.trace R.Trace (Y.traced (length d.traces) is.event (rows_of t)) refl refl (traced is)
    (subst (λ (n : ℕ). Replies (origin_in d) (session_of d) Q.trace (session_of d) (Y.traced n is.event (rows_of t))) (sym is.position) (A.traces is.position is.makes))
reply_trace rows_of d None is start =
    let none : length d.traces ≡ 0 = start.0 refl in
    gives d d (session_of d) Q.trace R.Trace Y.at_start refl refl (at_start none) (A.at_start none)

pub reply_enabled : (d : Seen) (net : NetworkHistory) → StepOrStuck → net ≡ d.net → IsNetworkAt (start_of d) d.schedule (length d.traces) net.history.now → IsFromStart net.history.now.states → GivesReply d Q.enabled d R.Enabled
reply_enabled d net law same is from =
    let (events, are) = some_enabled law d.net.history.now (subst (λ (c : NetworkHistory). IsFromStart c.history.now.states) same from) in
    gives d d (session_of d) Q.enabled R.Enabled (Y.enabled events) refl refl (events, are, refl) (A.enables d.net.history.now events (here d net same is) are)

pub reply_schedule : (d : Seen) → GivesReply d Q.schedule d R.Schedule
reply_schedule d = gives d d (session_of d) Q.schedule R.Schedule (Y.scheduled d.schedule) refl refl refl A.lists

pub reply_position : (d : Seen) → GivesReply d Q.position d R.Position
reply_position d = gives d d (session_of d) Q.position R.Position (Y.stands (length d.traces) (length d.schedule)) refl refl refl A.tells

-- ---- comparisons

found_so : (C D : State) (found : Comparison) → IsFound C D found → A.Compares C D found
found_so C D (SameOps true) (ops, tree, is) = A.same_tree ops tree
found_so C D (SameOps false) (ops, tree, is) = let no : false ≡ true = is in absurd (cc)
found_so C D DifferentOps ops = A.different_ops ops

pub reply_compare : (d : Seen) (net : NetworkHistory) (names : List (List ℕ)) (name other : List ℕ) (p q : ℕ) (found : Comparison) → net ≡ d.net → names ≡ net.names → IsNetworkAt (start_of d) d.schedule (length d.traces) net.history.now → IsNamed names name p → IsNamed names other q → IsComparison net.history.now.states p q found → GivesReply d (Q.compare name other) d (R.Compared found)
reply_compare d net names name other p q found same is is_at one two c =
    gives d d (session_of d) (Q.compare name other) (R.Compared found) (Y.compared found) refl refl refl
    (A.compares net.history.now p q c.one c.other is_at (named_in d net names name p same is one) (named_in d net names other q same is two) c.one_there c.other_there (found_so c.one c.other found c.found))

pub reply_no_compare : (d : Seen) (net : NetworkHistory) (names : List (List ℕ)) (name other : List ℕ) → net ≡ d.net → names ≡ net.names → (Contains names name → ⊥) ⊎ (Contains names other → ⊥) → GivesReply d (Q.compare name other) d (R.Refused F.UnknownReplica)
reply_no_compare d net names name other same is (inl none) = refuses d d (Q.compare name other) F.UnknownReplica refl refl (A.no_compared (inl (strange_in d net names name same is none)))
reply_no_compare d net names name other same is (inr none) = refuses d d (Q.compare name other) F.UnknownReplica refl refl (A.no_compared (inr (strange_in d net names other same is none)))

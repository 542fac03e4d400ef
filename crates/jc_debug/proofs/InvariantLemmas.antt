-- About specs/Invariant: one event made, and one taken back, keep the trail of networks.
use Rattle.std.proofs.Common.{◌≡◌, ℕ, zero, suc, ◌+◌, ◌-◌, ◌<◌, ◌≤◌, List, [], ◌∷◌, ◌++◌, length, take, slice_get, unwrap_or, option_to_list, Option, Some, None, Bool, true, false, IsTrue, IsFalse, IsSome, get_or, refl, ap, sym, subst, ◌∙◌, arith, length-append, below_more}
use Rattle.std.proofs.lemmas.Option.{slice_get_within, slice_get_read, same_Some}
use Rattle.jc_rules.specs.declared.operation.Event.{Event}
use Rattle.jc_rules.specs.declared.rule.Rule.{Rule}
use Rattle.jc_rules.specs.Step.{Network, StepIn, AfterIn}
use Rattle.jc_rules.specs.Trace.{Rows}
use Rattle.jc_rules.specs.History.{timeline}
use Rattle.jc_rules.proofs.HistoryLemmas.{first_step}
use Rattle.jc_network.specs.NetworkHistory.{NetworkHistory, StepsTo}
use Rattle.jc_network.proofs.AfterLemmas.{after_one_more, take_more}
use Rattle.jc_network.proofs.HalvesLemmas.{get_front, get_back}
use Rattle.jc_debug.specs.declared.breaks.Break.{Break}
use Rattle.jc_debug.specs.Moves.{IsTraceOf}
use Rattle.jc_debug.specs.DebuggerState.{IsNetworkAt}
use Rattle.jc_debug.specs.Invariant.{Seen, start_of, FollowsTrail, IsDebugger, IsMoved}

abbrev pub seen : NetworkHistory → List Event → List Rows → List (Option Break) → Seen
seen net schedule traces breaks = record { net = net; schedule = schedule; traces = traces; breaks = breaks }

-- ---- elements by number

pub get_last : {X : Type 0} (xs : List X) (x : X) → slice_get (xs ++ x ∷ []) (length xs) ≡ Some x
get_last xs x = get_back xs (x ∷ []) x refl

get_within : {X : Type 0} (xs ys : List X) (i : ℕ) (x : X) → i < length xs → slice_get (xs ++ ys) i ≡ Some x → slice_get xs i ≡ Some x
get_within [] ys i x h e = absurd (omega arith)
get_within (y ∷ xs) ys zero x h e = e
get_within (y ∷ xs) ys (suc i) x h e = get_within xs ys i x (omega arith) e

-- ---- one event on

follows_on : (d e : Seen) (k : ℕ) → FollowsTrail d k → (ns : List Network) → timeline e.net.history ≡ timeline d.net.history ++ ns → e.schedule ≡ d.schedule → (ts : List Rows) → e.traces ≡ d.traces ++ ts → FollowsTrail e k
follows_on d e k f ns n s ts t = record {
  before = f.before;
  after = f.after;
  event = f.event;
  rows = f.rows;
  is_before = ap (λ l. slice_get l k) n ∙ get_front (timeline d.net.history) ns k f.before f.is_before;
  is_after = ap (λ l. slice_get l (k + 1)) n ∙ get_front (timeline d.net.history) ns (k + 1) f.after f.is_after;
  is_event = ap (λ l. slice_get l k) s ∙ f.is_event;
  is_trace = ap (λ l. slice_get l k) t ∙ get_front d.traces ts k f.rows f.is_trace;
  step = f.step;
}

-- the event at the position was made
pub trail_on : (d e : Seen) (t : Rows) (event : Event) → IsDebugger d → slice_get d.schedule (length d.traces) ≡ Some event → StepsTo d.net event e.net t → e.schedule ≡ d.schedule → e.traces ≡ d.traces ++ t ∷ [] → e.breaks ≡ d.breaks → IsDebugger e
trail_on d e t event h i s sc tr br =
    let grown : length e.traces ≡ length d.traces + 1 = ap length tr ∙ length-append d.traces (t ∷ []) in
    let networks : length e.net.history.earlier ≡ length d.net.history.earlier + 1 = ap length s.earlier ∙ length-append d.net.history.earlier (d.net.history.now ∷ []) in
    let c = h.count in
    let w : length d.traces < length d.schedule = slice_get_within d.schedule (length d.traces) event i in
    let size : length e.schedule ≡ length d.schedule = ap length sc in
    let all : timeline e.net.history ≡ timeline d.net.history ++ e.net.history.now ∷ [] = ap (λ l. l ++ e.net.history.now ∷ []) s.earlier in
    let last : FollowsTrail e (length d.traces) = record {
      before = d.net.history.now;
      after = e.net.history.now;
      event = event;
      rows = t;
      is_before = ap (λ l. slice_get l (length d.traces)) all ∙ get_front (timeline d.net.history) (e.net.history.now ∷ []) (length d.traces) d.net.history.now (ap (slice_get (timeline d.net.history)) (sym c) ∙ get_last d.net.history.earlier d.net.history.now);
      is_after = ap (slice_get (timeline e.net.history)) (omega (arith, networks, c)) ∙ get_last e.net.history.earlier e.net.history.now;
      is_event = ap (λ l. slice_get l (length d.traces)) sc ∙ i;
      is_trace = ap (λ l. slice_get l (length d.traces)) tr ∙ get_last d.traces t;
      step = s.step;
    } in
    let short = h.short in
    record {
      count = omega (arith, networks, grown, c);
      within = omega (arith, grown, w, size);
      short = omega (arith, size, short);
      places = ap length br ∙ h.places;
      follows = subst (λ (m : ℕ). (k : ℕ) → k < m → FollowsTrail e k) (sym grown)
          (below_more (λ k. FollowsTrail e k) (length d.traces) (λ k lt. follows_on d e k (h.follows k lt) (e.net.history.now ∷ []) all sc (t ∷ []) tr) last);
    }

-- the first network stays
pub start_on : (d e : Seen) → e.net.history.earlier ≡ timeline d.net.history → start_of e ≡ start_of d
start_on d e n = first_step d.net.history e.net.history n

pub moved_on : (d e : Seen) (t : Rows) (event : Event) → StepsTo d.net event e.net t → e.schedule ≡ d.schedule → e.traces ≡ d.traces ++ t ∷ [] → e.breaks ≡ d.breaks → IsMoved d e (length d.traces + 1)
moved_on d e t event s sc tr br = record {
  names = s.names;
  start = start_on d e s.earlier;
  schedule = sc;
  breaks = br;
  position = ap length tr ∙ length-append d.traces (t ∷ []);
}

-- ---- one event back

follows_back : (d e : Seen) (k : ℕ) → FollowsTrail d k → (ns : List Network) → timeline d.net.history ≡ timeline e.net.history ++ ns → e.schedule ≡ d.schedule → (ts : List Rows) → d.traces ≡ e.traces ++ ts → k + 1 < length (timeline e.net.history) → k < length e.traces → FollowsTrail e k
follows_back d e k f ns n s ts t in_networks in_traces = record {
  before = f.before;
  after = f.after;
  event = f.event;
  rows = f.rows;
  is_before = get_within (timeline e.net.history) ns k f.before (omega arith) (ap (λ l. slice_get l k) (sym n) ∙ f.is_before);
  is_after = get_within (timeline e.net.history) ns (k + 1) f.after in_networks (ap (λ l. slice_get l (k + 1)) (sym n) ∙ f.is_after);
  is_event = ap (λ l. slice_get l k) s ∙ f.is_event;
  is_trace = get_within e.traces ts k f.rows in_traces (ap (λ l. slice_get l k) (sym t) ∙ f.is_trace);
  step = f.step;
}

-- the last event was taken back
pub trail_back : (d e : Seen) (t : Rows) → IsDebugger d → d.net.history.earlier ≡ timeline e.net.history → e.schedule ≡ d.schedule → d.traces ≡ e.traces ++ t ∷ [] → e.breaks ≡ d.breaks → IsDebugger e
trail_back d e t h n sc tr br =
    let grown : length d.traces ≡ length e.traces + 1 = ap length tr ∙ length-append e.traces (t ∷ []) in
    let networks : length d.net.history.earlier ≡ length e.net.history.earlier + 1 = ap length n ∙ length-append e.net.history.earlier (e.net.history.now ∷ []) in
    let whole : length (timeline e.net.history) ≡ length e.net.history.earlier + 1 = length-append e.net.history.earlier (e.net.history.now ∷ []) in
    let all : timeline d.net.history ≡ timeline e.net.history ++ d.net.history.now ∷ [] = ap (λ l. l ++ d.net.history.now ∷ []) n in
    let c = h.count in
    let w = h.within in
    let short = h.short in
    let size : length e.schedule ≡ length d.schedule = ap length sc in
    record {
      count = omega (arith, networks, grown, c);
      within = omega (arith, grown, w, size);
      short = omega (arith, size, short);
      places = ap length br ∙ h.places;
      follows = λ k lt. follows_back d e k (h.follows k (omega (arith, lt, grown))) (d.net.history.now ∷ []) all sc (t ∷ []) tr (omega (arith, whole, networks, grown, c, lt)) lt;
    }

pub moved_back : (d e : Seen) (t : Rows) → d.net.history.earlier ≡ timeline e.net.history → e.net.names ≡ d.net.names → e.schedule ≡ d.schedule → d.traces ≡ e.traces ++ t ∷ [] → e.breaks ≡ d.breaks → IsMoved d e (length d.traces - 1)
moved_back d e t n ns sc tr br =
    let size : length d.traces ≡ length e.traces + 1 = ap length tr ∙ length-append e.traces (t ∷ []) in
    record { names = ns; start = sym (start_on e d n); schedule = sc; breaks = br; position = omega (arith, size) }

-- the last of some traces was taken away
pub last_gone : (r : Option Rows) (old new : List Rows) → IsSome r → old ≡ new ++ option_to_list r → (t : Rows) × (old ≡ new ++ t ∷ [])
last_gone (Some t) old new some e = (t, e)
last_gone None old new some e = cc

-- the network before a step that was taken back
pub undone : (b : Bool) (old new : NetworkHistory) → (IsTrue b → old.history.earlier ≡ timeline new.history) → (IsFalse b → (new ≡ old) × (old.history.earlier ≡ [])) → 0 < length old.history.earlier → old.history.earlier ≡ timeline new.history
undone true old new t f some = t refl
undone false old new t f some = let none : length old.history.earlier ≡ 0 = ap length (f refl).1 in absurd (omega (arith, none, some))

-- ---- moves one after the other

pub moved_none : (d : Seen) → IsMoved d d (length d.traces)
moved_none d = record { names = refl; start = refl; schedule = refl; breaks = refl; position = refl }

pub moved_both : (d e f : Seen) (n m k : ℕ) → IsMoved d e n → IsMoved e f m → m ≡ k → IsMoved d f k
moved_both d e f n m k a b h = record {
  names = b.names ∙ a.names;
  start = b.start ∙ a.start;
  schedule = b.schedule ∙ a.schedule;
  breaks = b.breaks ∙ a.breaks;
  position = b.position ∙ h;
}

pub moved_more : (old now new : Seen) (i : ℕ) → IsMoved old now i → IsMoved now new (length now.traces + 1) → IsMoved old new (i + 1)
moved_more old now new i a b = let p = a.position in moved_both old now new i (length now.traces + 1) (i + 1) a b (omega (arith, p))

-- what holds at a new position holds by the old debugger's start, schedule and breakpoints
pub carried : (P : Network → List Event → List (Option Break) → ℕ → Type 0) (old now : Seen) (n : ℕ) → IsMoved old now n → P (start_of now) now.schedule now.breaks (length now.traces) → P (start_of old) old.schedule old.breaks n
carried P old now n m h =
    subst (λ (S : Network). P S old.schedule old.breaks n) m.start
    (subst (λ (es : List Event). P (start_of now) es old.breaks n) m.schedule
    (subst (λ (bs : List (Option Break)). P (start_of now) now.schedule bs n) m.breaks
    (subst (λ (k : ℕ). P (start_of now) now.schedule now.breaks k) m.position h)))

-- ---- where the schedule leads

-- the schedule leads to the network at each position
pub after_first : (d : Seen) → IsDebugger d → (k : ℕ) → k ≤ length d.traces → (N : Network) → slice_get (timeline d.net.history) k ≡ Some N → AfterIn (start_of d) (take k d.schedule) N
after_first d h zero le N e = ap (λ o. unwrap_or o d.net.history.now) e
after_first d h (suc k) le N e =
    let f = h.follows k (omega arith) in
    let next : slice_get (timeline d.net.history) (k + 1) ≡ Some N = ap (slice_get (timeline d.net.history)) (omega arith) ∙ e in
    let same : f.after ≡ N = same_Some f.after N (sym f.is_after ∙ next) in
    let before = after_first d h k (omega arith) f.before f.is_before in
    subst (λ (es : List Event). AfterIn (start_of d) es N) (sym (take_more d.schedule k f.event f.is_event))
    (after_one_more (start_of d) (take k d.schedule) f.before f.event N f.rows.rows before (subst (λ (X : Network). StepIn f.before f.event X f.rows.rows) same f.step))

pub is_at : (d : Seen) → IsDebugger d → IsNetworkAt (start_of d) d.schedule (length d.traces) d.net.history.now
is_at d h = record {
  within = h.within;
  after = after_first d h (length d.traces) (omega arith) d.net.history.now (ap (slice_get (timeline d.net.history)) (sym h.count) ∙ get_last d.net.history.earlier d.net.history.now);
}

pub at_old : (old now : Seen) (n : ℕ) → IsMoved old now n → IsDebugger now → IsNetworkAt (start_of old) old.schedule n now.net.history.now
at_old old now n m h = carried (λ S es bs k. IsNetworkAt S es k now.net.history.now) old now n m (is_at now h)

-- the trace of the last event
pub trace_of : (d : Seen) → IsDebugger d → (n : ℕ) (t : Rows) → length d.traces ≡ n + 1 → slice_get d.traces n ≡ Some t → IsTraceOf d t.rows
trace_of d h n t e at =
    let f = h.follows n (omega (arith, e)) in
    let same : f.rows ≡ t = same_Some f.rows t (sym f.is_trace ∙ at) in
    let w = h.within in
    record {
      before = n;
      event = f.event;
      position = e;
      makes = record {
        before = f.before;
        after = f.after;
        is_at = record { within = omega (arith, e, w); after = after_first d h n (omega (arith, e)) f.before f.is_before };
        is = f.is_event;
        step = subst (λ (r : Rows). StepIn f.before f.event f.after r.rows) same f.step;
      };
    }

pub last_trace : (d : Seen) → IsDebugger d → (t : Rows) (rows : List (Rule × ℕ)) → slice_get d.traces (length d.traces - 1) ≡ Some t → rows ≡ t.rows → IsTraceOf d rows
last_trace d h t rows at same =
    let some = slice_get_within d.traces (length d.traces - 1) t at in
    subst (IsTraceOf d) (sym same) (trace_of d h (length d.traces - 1) t (omega (arith, some)) at)

-- the event at the position, which code reads by its index
pub next_event : (d : Seen) (i : ℕ) (event : Event) → i ≡ length d.traces → length d.traces < length d.schedule → event ≡ get_or d.schedule i event → slice_get d.schedule (length d.traces) ≡ Some event
next_event d i event here more e = ap (slice_get d.schedule) (sym here) ∙ slice_get_read d.schedule (length d.schedule) i event refl (omega (arith, here, more)) e

-- About specs/Moves: events of a caller's (`act`).
use Rattle.std.proofs.Common.{◌≡◌, ℕ, zero, suc, ◌+◌, ◌<◌, ◌≤◌, List, [], ◌∷◌, ◌++◌, length, take, slice_get, Option, Some, refl, ap, ◌∙◌, arith, length-append}
use Rattle.jc_rules.specs.declared.operation.Event.{Event}
use Rattle.jc_rules.specs.Trace.{Rows}
use Rattle.jc_network.specs.declared.fault.Stuck.{Stuck}
use Rattle.jc_network.specs.NetworkHistory.{StepsTo}
use Rattle.jc_network.specs.Steps.{IsStuckFor}
use Rattle.jc_debug.specs.declared.breaks.Break.{Break}
use Rattle.jc_debug.specs.Moves.{IsActed, IsStuckHere}
use Rattle.jc_debug.specs.DebuggerState.{Session}
use Rattle.jc_debug.specs.Invariant.{Seen, IsDebugger}
use Rattle.jc_debug.proofs.InvariantLemmas.{seen, is_at, start_on, trail_on}

get_cut : {X : Type 0} (xs ys : List X) (n k : ℕ) → k < n → n ≤ length xs → slice_get (take n xs ++ ys) k ≡ slice_get xs k
get_cut xs ys zero k lt le = absurd (omega arith)
get_cut [] ys (suc n) k lt le = absurd (omega arith)
get_cut (x ∷ xs) ys (suc n) zero lt le = refl
get_cut (x ∷ xs) ys (suc n) (suc k) lt le = get_cut xs ys n k (omega arith) (omega arith)

get_end : {X : Type 0} (xs : List X) (y : X) (n : ℕ) → n ≤ length xs → slice_get (take n xs ++ y ∷ []) n ≡ Some y
get_end xs y zero le = refl
get_end [] y (suc n) le = absurd (omega arith)
get_end (x ∷ xs) y (suc n) le = get_end xs y n (omega arith)

cut_length : {X : Type 0} (xs : List X) (y : X) (n : ℕ) → n ≤ length xs → length (take n xs ++ y ∷ []) ≡ n + 1
cut_length xs y zero le = refl
cut_length [] y (suc n) le = absurd (omega arith)
cut_length (x ∷ xs) y (suc n) le = ap suc (cut_length xs y n (omega arith)) ∙ omega arith

-- the schedule is cut at the position, and the event is appended
cut_trail : (d : Seen) (event : Event) → IsDebugger d → length d.traces < 100000 → IsDebugger (seen d.net (take (length d.traces) d.schedule ++ event ∷ []) d.traces d.breaks)
cut_trail d event h lt =
    let n = cut_length d.schedule event (length d.traces) h.within in
    record {
      count = h.count;
      within = omega (arith, n);
      short = omega (arith, n, lt);
      places = h.places;
      follows = λ k l. let f = h.follows k l in record {
        before = f.before;
        after = f.after;
        event = f.event;
        rows = f.rows;
        is_before = f.is_before;
        is_after = f.is_after;
        is_event = get_cut d.schedule (event ∷ []) (length d.traces) k l h.within ∙ f.is_event;
        is_trace = f.is_trace;
        step = f.step;
      };
    }

-- then the event is made
pub acted_trail : (d e : Seen) (t : Rows) (event : Event) → IsDebugger d → StepsTo d.net event e.net t → e.schedule ≡ take (length d.traces) d.schedule ++ event ∷ [] → e.traces ≡ d.traces ++ t ∷ [] → e.breaks ≡ d.breaks → length d.traces < 100000 → IsDebugger e
acted_trail d e t event h s sc tr br lt =
    trail_on (seen d.net (take (length d.traces) d.schedule ++ event ∷ []) d.traces d.breaks) e t event (cut_trail d event h lt) (get_end d.schedule event (length d.traces) h.within) s sc tr br

pub is_acted : (d e : Seen) (t : Rows) (event : Event) → IsDebugger d → StepsTo d.net event e.net t → e.schedule ≡ take (length d.traces) d.schedule ++ event ∷ [] → e.traces ≡ d.traces ++ t ∷ [] → e.breaks ≡ d.breaks → IsActed d e event
is_acted d e t event h s sc tr br = record {
  rows = t.rows;
  is_at = is_at d h;
  step = s.step;
  names = s.names;
  start = start_on d e s.earlier;
  session = same_session sc (ap length tr ∙ length-append d.traces (t ∷ [])) br;
}
  where
    same_session : {es fs : List Event} {n m : ℕ} {b c : List (Option Break)} → es ≡ fs → n ≡ m → b ≡ c
        → ◌≡◌ {A = Session} (record { schedule = es; position = n; breaks = b }) (record { schedule = fs; position = m; breaks = c })
    same_session x y z = λ i. record { schedule = x i; position = y i; breaks = z i }

pub stuck_here : (d : Seen) (event : Event) (s : Stuck) → IsDebugger d → IsStuckFor d.net.history.now event s → IsStuckHere d event s
stuck_here d event s h k = record { is_at = is_at d h; stuck = k }

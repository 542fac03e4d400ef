-- About specs/Moves: how a run ends, from its last move.
use Rattle.std.proofs.Common.{◌≡◌, ℕ, ◌+◌, ◌<◌, ◌≤◌, length, refl, sym, subst, arith, below_more}
use Rattle.jc_network.specs.declared.fault.Stuck.{Stuck}
use Rattle.jc_debug.specs.declared.fault.Halt.TheVariants as H
use Rattle.jc_debug.specs.declared.fault.RunEnd.TheVariants as E
use Rattle.jc_debug.specs.declared.fault.DebugFault.TheVariants as D
use Rattle.jc_debug.specs.Moves.{IsNextHalted, RunMoves, IsRunFault}
use Rattle.jc_debug.specs.DebuggerState.{NamesAt, IsFree, IsLeast, breaks, sticks, ends}
use Rattle.jc_debug.specs.Invariant.{Seen, IsDebugger, IsMoved, start_of, session_of}
use Rattle.jc_debug.proofs.HaltLemmas.{told_old}
use Rattle.jc_debug.proofs.InvariantLemmas.{at_old, carried, moved_more}

free_old : (old now : Seen) (n : ℕ) → IsMoved old now n → IsFree (start_of now) (session_of now) (length now.traces) → IsFree (start_of old) (session_of old) n
free_old old now n m h = carried (λ S es bs k. IsFree S (record { schedule = es; position = length old.traces; breaks = bs }) k) old now n m h

least_old : (old now : Seen) (n j : ℕ) → IsMoved old now n → IsLeast (NamesAt (start_of now) (session_of now) (length now.traces)) j → IsLeast (NamesAt (start_of old) (session_of old) n) j
least_old old now n j m h = carried (λ S es bs k. IsLeast (NamesAt S (record { schedule = es; position = length old.traces; breaks = bs }) k) j) old now n m h

-- no breakpoint names a later position before n
abbrev pub Quiet : Seen → ℕ → Type 0
Quiet old n = (m : ℕ) → m < n → length old.traces < m → IsFree (start_of old) (session_of old) m

pub quiet_more : (old now new : Seen) (i : ℕ) → IsMoved old now i → Quiet old (i + 1) → IsMoved now new (length now.traces + 1) → IsFree (start_of new) (session_of new) (length new.traces) → Quiet old (i + 1 + 1)
quiet_more old now new i m q b f =
    below_more (λ x. length old.traces < x → IsFree (start_of old) (session_of old) x) (i + 1) q (λ _. free_old old new (i + 1) (moved_more old now new i m b) f)

-- a run that ends before a stuck event
pub ran_stuck : (old now new : Seen) (i : ℕ) (s : Stuck) → IsMoved old now i → length old.traces ≤ i → Quiet old (i + 1) → IsNextHalted now (H.Stuck s) → new ≡ now → RunMoves old new (E.Stuck s)
ran_stuck old now new i s m le q told e =
    let there = told_old old now i s m told in
    record {
      position = i;
      outcome = sticks there.event there.why;
      is_end = (there.why, there.event, there.is, refl);
      moved = subst (λ (v : Seen). IsMoved old v i) (sym e) m;
      runs = record {
        network = there.stuck.before;
        is_at = there.stuck.is_at;
        forward = le;
        quiet = λ k lt below. q k (omega (arith, below)) lt;
        at = (λ lt. q i (omega arith) lt, there.stuck);
      };
    }

-- a run that ends for want of memory
pub ran_short : (old now new : Seen) (i : ℕ) → IsMoved old now i → length old.traces ≤ i → i < length old.schedule → Quiet old (i + 1) → new ≡ now → IsRunFault old new D.Memory
ran_short old now new i m le lt q e =
    (i, record { forward = le; short = lt; moved = subst (λ (v : Seen). IsMoved old v i) (sym e) m }, λ k from to. q k (omega (arith, to)) from)

-- a run that ends at a breakpoint
pub ran_break : (old now new : Seen) (i k j : ℕ) → IsMoved old now i → length old.traces ≤ i → Quiet old (i + 1) → IsMoved now new (length now.traces + 1) → IsDebugger new → k ≡ j + 1
    → IsLeast (NamesAt (start_of new) (session_of new) (length new.traces)) j → RunMoves old new (E.Break k)
ran_break old now new i k j m le q b h e least =
    let more = moved_more old now new i m b in
    record {
      position = i + 1;
      outcome = breaks j;
      is_end = (j, e, refl);
      moved = more;
      runs = record {
        network = new.net.history.now;
        is_at = at_old old new (i + 1) more h;
        forward = omega (arith, le);
        quiet = λ x lt below. q x below lt;
        at = (omega (arith, le), least_old old new (i + 1) j more least);
      };
    }

-- a run that ends at the schedule's end
pub ran_end : (old now : Seen) (i : ℕ) → IsDebugger now → IsMoved old now i → Quiet old (i + 1) → i ≡ length old.schedule → length old.traces < i → RunMoves old now E.End
ran_end old now i h m q e lt = record {
  position = i;
  outcome = ends;
  is_end = refl;
  moved = m;
  runs = record {
    network = now.net.history.now;
    is_at = at_old old now i m h;
    forward = omega (arith, lt);
    quiet = λ x from below. q x (omega (arith, below)) from;
    at = (e, q i (omega arith) lt);
  };
}

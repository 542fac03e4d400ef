-- Of `Moves`: a session that moved, and runs made of its moves.
use Rattle.std.proofs.Common.{◌≡◌, ◌≢◌, ◌↔◌, IsTrue, IsFalse, ℕ, ◌+◌, ◌-◌, ◌<◌, ◌≤◌, nat_eq, List, length, slice_get, Option, Some, None, Bool, true, false, refl, ap, sym, subst, ◌∙◌, arith, below_more}
use Rattle.std.proofs.lemmas.Bool.Decides.{nat_tests}
use Rattle.jc_rules.specs.declared.operation.Event.{Event}
use Rattle.jc_rules.specs.Step.{Network}
use Rattle.jc_debug.specs.declared.fault.RunEnd.{RunEnd}
use Rattle.jc_debug.specs.declared.fault.RunEnd.TheVariants as E
use Rattle.jc_debug.specs.DebuggerState.{IsLeast, breaks, sticks, ends}
use Rattle.jc_debug.specs.Invariant.{Seen, IsDebugger, IsMoved, start_of}
use Rattle.jc_debug.proofs.HaltLemmas.{told_old}
use Rattle.jc_debug.proofs.InvariantLemmas as D
use Rattle.jc_debug.proofs.InvariantLemmas.{at_old}
use Rattle.jc_serve.specs.declared.marks.Mark.{Mark as AnyMark}
use Rattle.jc_serve.specs.declared.served.Served.{Served as AnyServed}
use Rattle.jc_serve.specs.AnswerOf.{with_here}
use Rattle.jc_serve.specs.InMemory.{state_of, marks_of}
use Rattle.jc_serve.specs.Marks.{Mark, MarkNames, MarkNamesAt, IsUnmarked, to_mark, to_start}
use Rattle.jc_serve.specs.Moves.{IsMovedTo, IsNamedBy, GoesForward, RunsForward, RunsBackward}

-- ---- moves one after the other

pub moved_none : (x : AnyServed) → IsMovedTo x x (length x.here.traces)
moved_none x = record { scenario = refl; marks = refl; here = D.moved_none x.here; aside = D.moved_none x.aside }

pub moved_both : (x y z : AnyServed) (n k : ℕ) → IsMovedTo x y n → IsMovedTo y z k → IsMovedTo x z k
moved_both x y z n k a b = record {
  scenario = b.scenario ∙ a.scenario;
  marks = b.marks ∙ a.marks;
  here = D.moved_both x.here y.here z.here n k k a.here b.here refl;
  aside = D.moved_both x.aside y.aside z.aside (length y.aside.traces) (length z.aside.traces) (length z.aside.traces) a.aside b.aside refl;
}

-- what holds at the new position holds by the old session's start, schedule and breakpoints
carried : (P : Network → List Event → List (Option AnyMark) → ℕ → Type 0) (x y : AnyServed) (n : ℕ) → IsMovedTo x y n → P (start_of y.here) y.here.schedule y.marks.items (length y.here.traces) → P (start_of x.here) x.here.schedule x.marks.items n
carried P x y n m h =
    subst (λ (S : Network). P S x.here.schedule x.marks.items n) m.here.start
    (subst (λ (es : List Event). P (start_of y.here) es x.marks.items n) m.here.schedule
    (subst (λ (bs : List (Option AnyMark)). P (start_of y.here) y.here.schedule bs n) (ap (λ v. v.items) m.marks)
    (subst (λ (k : ℕ). P (start_of y.here) y.here.schedule y.marks.items k) m.here.position h)))

-- the breakpoint at place j names position k
abbrev NamesThere : Network → List Event → List (Option AnyMark) → ℕ → ℕ → Type 0
NamesThere S es bs k j = (b : Mark) × (slice_get (marks_of bs) j ≡ Some (Some b)) × MarkNames S es b k

pub unmarked_old : (x y : AnyServed) (n : ℕ) → IsMovedTo x y n → IsNamedBy y.here y.marks.items None → IsUnmarked (start_of x.here) (state_of x) n
unmarked_old x y n m h = carried (λ S es bs k. (j : ℕ) → NamesThere S es bs k j → ⊥) x y n m h

pub least_old : (x y : AnyServed) (n j : ℕ) → IsMovedTo x y n → IsNamedBy y.here y.marks.items (Some j) → IsLeast (MarkNamesAt (start_of x.here) (state_of x) n) j
least_old x y n j m h = carried (λ S es bs k. IsLeast (NamesThere S es bs k) j) x y n m h

-- ---- runs forward

-- no breakpoint names a later position before n
abbrev pub Quiet : AnyServed → ℕ → Type 0
Quiet x n = (m : ℕ) → m < n → length x.here.traces < m → IsUnmarked (start_of x.here) (state_of x) m

pub quiet_more : (x y z : AnyServed) → IsMovedTo x y (length y.here.traces) → Quiet x (length y.here.traces + 1) → GoesForward y z None → Quiet x (length z.here.traces + 1)
quiet_more x y z m q g =
    let here : length z.here.traces ≡ length y.here.traces + 1 = g.0.here.position in
    let more = moved_both x y z (length y.here.traces) (length y.here.traces + 1) m g.0 in
    subst (λ (k : ℕ). Quiet x (k + 1)) (sym here)
    (below_more (λ k. length x.here.traces < k → IsUnmarked (start_of x.here) (state_of x) k) (length y.here.traces + 1) q (λ _. unmarked_old x z (length y.here.traces + 1) more g.1))

pub moved_on : (x y z : AnyServed) → IsMovedTo x y (length y.here.traces) → GoesForward y z None → IsMovedTo x z (length z.here.traces)
moved_on x y z m g =
    let here : length z.here.traces ≡ length y.here.traces + 1 = g.0.here.position in
    subst (IsMovedTo x z) (sym here) (moved_both x y z (length y.here.traces) (length y.here.traces + 1) m g.0)

pub run_ended : (x y z : AnyServed) (end : RunEnd) → IsMovedTo x y (length y.here.traces) → length x.here.traces ≤ length y.here.traces → Quiet x (length y.here.traces + 1) → GoesForward y z (Some end) → RunsForward x z end
run_ended x y z (E.Break k) m le q g =
    let n = length y.here.traces in
    let more = moved_both x y z n (n + 1) m g.0 in
    record {
      position = n + 1;
      outcome = breaks g.1.0;
      is_end = (g.1.0, g.1.1, refl);
      moved = more;
      runs = record {
        network = z.here.net.history.now;
        is_at = at_old x.here z.here (n + 1) more.here g.2;
        forward = omega (arith, le);
        quiet = λ k from below. q k below from;
        ends_so = (omega (arith, le), least_old x z (n + 1) g.1.0 more g.1.2);
      };
    }
run_ended x y z (E.Stuck s) m le q g =
    let n = length y.here.traces in
    let there = told_old x.here y.here n s m.here g.1 in
    record {
      position = n;
      outcome = sticks there.event there.why;
      is_end = (there.why, there.event, there.is, refl);
      moved = moved_both x y z n n m g.0;
      runs = record {
        network = there.stuck.before;
        is_at = there.stuck.is_at;
        forward = le;
        quiet = λ k from below. q k (omega (arith, below)) from;
        ends_so = (λ lt. q n (omega arith) lt, there.stuck);
      };
    }
run_ended x y z E.End m le q g = absurd g

pub ran_out : (x y : AnyServed) → IsDebugger y.here → IsMovedTo x y (length y.here.traces) → length x.here.traces < length x.here.schedule → Quiet x (length y.here.traces + 1) → length y.here.schedule ≤ length y.here.traces → RunsForward x y E.End
ran_out x y h m lt q le =
    let n = length y.here.traces in
    let size : length y.here.schedule ≡ length x.here.schedule = ap length m.here.schedule in
    let all : n ≡ length x.here.schedule = (let w = h.within in omega (arith, w, le, size)) in
    record {
      position = n;
      outcome = ends;
      is_end = refl;
      moved = m;
      runs = record {
        network = y.here.net.history.now;
        is_at = at_old x.here y.here n m.here h;
        forward = omega (arith, all, lt);
        quiet = λ k from below. q k (omega (arith, below)) from;
        ends_so = (all, q n (omega arith) (omega (arith, all, lt)));
      };
    }

-- ---- runs backward

-- no breakpoint names an earlier position from n on
abbrev pub QuietFrom : AnyServed → ℕ → Type 0
QuietFrom x n = (m : ℕ) → n ≤ m → m < length x.here.traces → IsUnmarked (start_of x.here) (state_of x) m

pub quiet_at_first : (x : AnyServed) → QuietFrom x (length x.here.traces)
quiet_at_first x m from below = absurd (omega (arith, from, below))

pub quiet_before : (x y : AnyServed) (n : ℕ) → IsMovedTo x y n → IsNamedBy y.here y.marks.items None → QuietFrom x (n + 1) → QuietFrom x n
quiet_before x y n m none q k from below = by_place (nat_eq n k) refl
  where
    by_place : (t : Bool) → nat_eq n k ≡ t → IsUnmarked (start_of x.here) (state_of x) k
    by_place true e = let same : n ≡ k = grind (arith, nat_tests) in subst (IsUnmarked (start_of x.here) (state_of x)) same (unmarked_old x y n m none)
    by_place false e = let other : n ≢ k = grind (arith, nat_tests) in q k (omega (arith, other, from)) below

pub back_to_mark : (x y : AnyServed) (n j : ℕ) → IsMovedTo x y n → 0 < n → n < length x.here.traces → QuietFrom x (n + 1) → IsNamedBy y.here y.marks.items (Some j) → RunsBackward x y (Some j)
back_to_mark x y n j m some lt q least = record {
  position = n;
  moved = m;
  runs = to_mark some lt (least_old x y n j m least) (λ k from below. q k (omega (arith, from)) below);
}

pub back_to_start : (x y : AnyServed) → IsMovedTo x y 0 → QuietFrom x 1 → RunsBackward x y None
back_to_start x y m q = record { position = 0; moved = m; runs = to_start (λ k from below. q k from below) }

-- ---- one debugger moved

pub moved_as : (x y : AnyServed) (n k : ℕ) → n ≡ k → IsMovedTo x y n → IsMovedTo x y k
moved_as x y n k e m = subst (IsMovedTo x y) e m

-- the first debugger moved, and the second one looked at what is there
here_moved : (x z : AnyServed) (h : Seen) (n : ℕ) → IsMoved x.here h n → IsMovedTo (with_here x h) z (length h.traces) → IsMovedTo x z n
here_moved x z h n a b = record {
  scenario = b.scenario;
  marks = b.marks;
  here = D.moved_both x.here h z.here n (length h.traces) n a b.here a.position;
  aside = b.aside;
}

here_alone : (x : AnyServed) (h : Seen) (n : ℕ) → IsMoved x.here h n → IsMovedTo x (with_here x h) n
here_alone x h n a = record { scenario = refl; marks = refl; here = a; aside = D.moved_none x.aside }

-- an event forward, and no breakpoint or the least one that names the position
pub forward_quiet : (x z : AnyServed) (h : Seen) (found : Option ℕ) → IsMoved x.here h (length x.here.traces + 1) → IsMovedTo (with_here x h) z (length h.traces) → IsNamedBy z.here z.marks.items found → found ≡ None → IsDebugger z.here → GoesForward x z None
forward_quiet x z h found a b named is trail = (here_moved x z h (length x.here.traces + 1) a b, subst (IsNamedBy z.here z.marks.items) is named, trail)

pub forward_break : (x z : AnyServed) (h : Seen) (found : Option ℕ) (j : ℕ) → IsMoved x.here h (length x.here.traces + 1) → IsMovedTo (with_here x h) z (length h.traces) → IsNamedBy z.here z.marks.items found → found ≡ Some j → IsDebugger z.here → GoesForward x z (Some (E.Break (j + 1)))
forward_break x z h found j a b named is trail = (here_moved x z h (length x.here.traces + 1) a b, (j, refl, subst (IsNamedBy z.here z.marks.items) is named), trail)

-- ---- an event back

-- it was taken back, since there was one
pub taken_back : (t : Bool) (n : ℕ) (P : Type 0) → (IsTrue t → P) → (IsFalse t ↔ (n < 1)) → 0 < n → P
taken_back true n P f g some = f refl
taken_back false n P f g some = absurd (let none = g.0 refl in omega (arith, none, some))

moved_back : (x y z : AnyServed) (h : Seen) → IsMovedTo x y (length y.here.traces) → IsMoved y.here h (length y.here.traces - 1) → IsMovedTo (with_here y h) z (length h.traces) → IsMovedTo x z (length y.here.traces - 1)
moved_back x y z h m a b = moved_both x y z (length y.here.traces) (length y.here.traces - 1) m (here_moved y z h (length y.here.traces - 1) a b)

quiet_here : (x : AnyServed) (n : ℕ) → 0 < n → QuietFrom x n → QuietFrom x (n - 1 + 1)
quiet_here x n some q = let same : n ≡ n - 1 + 1 = omega (arith, some) in subst (QuietFrom x) same q

pub back_marked : (x y z : AnyServed) (h : Seen) (found : Option ℕ) (j : ℕ) → IsMovedTo x y (length y.here.traces) → 1 < length y.here.traces → length y.here.traces ≤ length x.here.traces → QuietFrom x (length y.here.traces)
    → IsMoved y.here h (length y.here.traces - 1) → IsMovedTo (with_here y h) z (length h.traces) → IsNamedBy z.here z.marks.items found → found ≡ Some j → RunsBackward x z (Some j)
back_marked x y z h found j m some le q a b named is =
    let n = length y.here.traces - 1 in
    back_to_mark x z n j (moved_back x y z h m a b) (omega (arith, some)) (omega (arith, some, le)) (quiet_here x (length y.here.traces) (omega (arith, some)) q) (subst (IsNamedBy z.here z.marks.items) is named)

-- What a run back keeps.
pub record GoesBack (x y : AnyServed) : Type 0 where
  pub moved : IsMovedTo x y (length y.here.traces)
  pub later : 0 < length y.here.traces
  pub below : length y.here.traces ≤ length x.here.traces
  pub quiet : QuietFrom x (length y.here.traces)

pub back_begun : (x : AnyServed) → 0 < length x.here.traces → GoesBack x x
back_begun x some = record { moved = moved_none x; later = some; below = omega arith; quiet = quiet_at_first x }

pub back_more : (x y z : AnyServed) (h : Seen) (found : Option ℕ) → GoesBack x y → 1 < length y.here.traces
    → IsMoved y.here h (length y.here.traces - 1) → IsMovedTo (with_here y h) z (length h.traces) → IsNamedBy z.here z.marks.items found → found ≡ None → GoesBack x z
back_more x y z h found g some a b named is =
    let n = length y.here.traces - 1 in
    let moved = moved_back x y z h g.moved a b in
    let here : length z.here.traces ≡ n = moved.here.position in
    let le = g.below in
    record {
      moved = moved_as x z n (length z.here.traces) (sym here) moved;
      later = omega (arith, here, some);
      below = omega (arith, here, le);
      quiet = subst (QuietFrom x) (sym here) (quiet_before x z n moved (subst (IsNamedBy z.here z.marks.items) is named) (quiet_here x (length y.here.traces) (omega (arith, some)) g.quiet));
    }

pub back_first : (x y : AnyServed) (h : Seen) → GoesBack x y → length y.here.traces ≤ 1 → IsMoved y.here h (length y.here.traces - 1) → RunsBackward x (with_here y h) None
back_first x y h g le a =
    let some = g.later in
    let one : length y.here.traces ≡ 1 = omega (arith, le, some) in
    let first : length y.here.traces - 1 ≡ 0 = omega (arith, one) in
    let moved = moved_both x y (with_here y h) (length y.here.traces) (length y.here.traces - 1) g.moved (here_alone y h (length y.here.traces - 1) a) in
    back_to_start x (with_here y h) (moved_as x (with_here y h) (length y.here.traces - 1) 0 first moved) (subst (QuietFrom x) one g.quiet)

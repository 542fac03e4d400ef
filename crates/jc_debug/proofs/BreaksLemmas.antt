-- About specs/DebuggerState and specs/Moves: which breakpoints name a position.
use Rattle.std.proofs.Common.{◌≡◌, ◌↔◌, ◌⊎◌, inl, inr, ℕ, zero, suc, ◌+◌, ◌<◌, ◌≤◌, List, [], ◌∷◌, ◌++◌, length, take, slice_get, slice_set, nat_eq, Option, Some, None, Result, Ok, Err, OnErr, Bool, true, false, IsTrue, refl, ap, sym, subst, ◌∙◌, arith, rules}
use Rattle.std.proofs.lemmas.Option.{slice_get_within, same_Some}
use Rattle.jc_rules.specs.declared.operation.Event.{Event}
use Rattle.jc_rules.specs.declared.refusal.Refusal.TheVariants as F
use Rattle.jc_rules.specs.declared.rule.Rule.{Rule}
use Rattle.jc_rules.specs.declared.run.Run.{Run}
use Rattle.jc_rules.specs.Runs.{deeper, run_rows, rows_of_all}
use Rattle.jc_rules.specs.Step.{Network, StepIn, replica_of}
use Rattle.jc_rules.proofs.VersionLemmas.{one_step_in, one_after_in}
use Rattle.jc_debug.specs.declared.breaks.Break.{Break}
use Rattle.jc_debug.specs.declared.breaks.Break.TheVariants as Kind
use Rattle.jc_debug.specs.declared.fault.DebugFault.{DebugFault}
use Rattle.jc_debug.specs.declared.fault.DebugFault.TheVariants as D
use Rattle.jc_debug.specs.Moves.{IsTraceOf, IsSet}
use Rattle.jc_debug.specs.DebuggerState.{Session, MakesEvent, Names, NamesAt, IsFree, HasRule}
use Rattle.jc_debug.specs.Invariant.{Seen, IsDebugger, start_of, session_of, placed_in}

-- ---- rules of a trace

-- an event has one trace at a position
pub one_makes : (S : Network) (es : List Event) (n : ℕ) (e f : Event) (rows more : List (Rule × ℕ)) → MakesEvent S es n e rows → MakesEvent S es n f more → (e ≡ f) × (rows ≡ more)
one_makes S es n e f rows more a b =
    let before : a.before ≡ b.before = one_after_in S (take n es) a.before b.before a.is_at.after b.is_at.after in
    let event : e ≡ f = same_Some e f (sym a.is ∙ b.is) in
    let step = subst (λ (x : Event). StepIn b.before x a.after rows) event (subst (λ (N : Network). StepIn N e a.after rows) before a.step) in
    (event, (one_step_in b.before f a.after b.after rows more step b.step).1)

-- a breakpoint for a rule names the position exactly where the trace of the event that led to it has the rule
pub rule_named : (d : Seen) (t : List (Rule × ℕ)) (rule : Rule) → IsTraceOf d t → HasRule t rule ↔ Names (start_of d) d.schedule (Kind.Rule rule) (length d.traces)
rule_named d t rule is = (
  λ h. (is.before, is.event, t, is.position, is.makes, h),
  λ x. let p = is.position in
      let q = x.3 in
      let same : x.0 ≡ is.before = omega (arith, p, q) in
      let makes = subst (λ (k : ℕ). MakesEvent (start_of d) d.schedule k x.1 x.2) same x.4 in
      subst (λ (r : List (Rule × ℕ)). HasRule r rule) (one_makes (start_of d) d.schedule is.before x.1 is.event x.2 t makes is.makes).1 x.5,
)

-- a row of the first or of the others
has_front : (xs ys : List (Rule × ℕ)) (rule : Rule) → HasRule xs rule → HasRule (xs ++ ys) rule
has_front [] ys rule (k, depth, e) = cc
has_front (x ∷ xs) ys rule (zero, depth, e) = (zero, depth, e)
has_front (x ∷ xs) ys rule (suc k, depth, e) = let h = has_front xs ys rule (k, depth, e) in (suc h.0, h.1, h.2)

has_back : (xs ys : List (Rule × ℕ)) (rule : Rule) → HasRule ys rule → HasRule (xs ++ ys) rule
has_back [] ys rule h = h
has_back (x ∷ xs) ys rule h = let r = has_back xs ys rule h in (suc r.0, r.1, r.2)

has_either : (xs ys : List (Rule × ℕ)) (rule : Rule) → HasRule (xs ++ ys) rule → HasRule xs rule ⊎ HasRule ys rule
has_either [] ys rule h = inr h
has_either (x ∷ xs) ys rule (zero, depth, e) = inl (zero, depth, e)
has_either (x ∷ xs) ys rule (suc k, depth, e) =
    elim (has_either xs ys rule (k, depth, e)) [
      | inl h ↦ inl (suc h.0, h.1, h.2)
      | inr h ↦ inr h
    ]

-- a run with rows has its own rule alone
own_first : (r : Rule) (d n : ℕ) (rule : Rule) → r ≡ rule → 0 < n → HasRule (deeper r d n) rule
own_first r d zero rule e some = absurd (omega (arith, some))
own_first r d (suc n) rule e some = (0, d, ap (λ q. Some (q, d)) e)

own_alone : (r : Rule) (d n : ℕ) (rule : Rule) → HasRule (deeper r d n) rule → (r ≡ rule) × (0 < n)
own_alone r d zero rule (k, depth, e) = cc
own_alone r d (suc n) rule (zero, depth, e) = (ap (λ (row : Rule × ℕ). row.0) (same_Some (r, d) (rule, depth) e), omega arith)
own_alone r d (suc n) rule (suc k, depth, e) = ((own_alone r (d + 1) n rule (k, depth, e)).0, omega arith)

pub runs_have : (runs : List Run) (i : ℕ) (run : Run) (rule : Rule) → slice_get runs i ≡ Some run → run.rule ≡ rule → 0 < run.count → HasRule (rows_of_all runs) rule
runs_have [] i run rule at e some = cc
runs_have (r ∷ runs) zero run rule at e some =
    let same : r ≡ run = same_Some r run at in
    has_front (run_rows r) (rows_of_all runs) rule (subst (λ (x : Run). HasRule (run_rows x) rule) (sym same) (own_first run.rule run.depth run.count rule e some))
runs_have (r ∷ runs) (suc i) run rule at e some = has_back (run_rows r) (rows_of_all runs) rule (runs_have runs i run rule at e some)

pub runs_have_none : (runs : List Run) (rule : Rule) → ((k : ℕ) (run : Run) → slice_get runs k ≡ Some run → run.rule ≡ rule → 0 < run.count → ⊥) → HasRule (rows_of_all runs) rule → ⊥
runs_have_none [] rule none (k, depth, e) = cc
runs_have_none (r ∷ runs) rule none h =
    elim (has_either (run_rows r) (rows_of_all runs) rule h) [
      | inl own ↦ let o = own_alone r.rule r.depth r.count rule own in none 0 r refl o.0 o.1
      | inr more ↦ runs_have_none runs rule (λ k run at. none (suc k) run at) more
    ]

-- ---- the replica of an event

pub last_of : (es : List Event) (m n : ℕ) (event : Event) (q p : ℕ) → n ≡ m + 1 → slice_get es m ≡ Some event → q ≡ replica_of event
    → IsTrue (nat_eq q p) ↔ ((x : ℕ) × (f : Event) × (n ≡ x + 1) × (slice_get es x ≡ Some f) × (replica_of f ≡ p))
last_of es m n event q p e at is = (
  λ y. let h : q ≡ p = search rules in (m, event, e, at, sym is ∙ h),
  λ x. let k : x.0 ≡ m = let t = x.2 in omega (arith, t, e) in
      let f : x.1 ≡ event = same_Some x.1 event (sym x.3 ∙ (ap (slice_get es) k ∙ at)) in
      let h : q ≡ p = is ∙ (ap replica_of (sym f) ∙ x.4) in
      search rules,
)

-- ---- any breakpoint

pub as_break : (S : Network) (es : List Event) (n : ℕ) (b c : Break) (t : Bool) → b ≡ c → (IsTrue t ↔ Names S es c n) → (IsTrue t ↔ Names S es b n)
as_break S es n b c t e h = subst (λ (x : Break). IsTrue t ↔ Names S es x n) (sym e) h

pub both_ways : {P Q T : Type 0} → (P ↔ Q) → (Q ↔ T) → (P ↔ T)
both_ways a b = (λ p. b.0 (a.0 p), λ t. a.1 (b.1 t))

pub no_at_none : (S : Network) (A : Session) (n j : ℕ) → slice_get A.breaks j ≡ Some None → NamesAt S A n j → ⊥
no_at_none S A n j e (b, at, names) = cc

not_true : (t : Bool) → t ≡ false → IsTrue t → ⊥
not_true true e y = cc
not_true false e y = cc

pub no_at_other : (S : Network) (A : Session) (n j : ℕ) (b : Break) (t : Bool) → slice_get A.breaks j ≡ Some (Some b) → (IsTrue t ↔ Names S A.schedule b n) → t ≡ false → NamesAt S A n j → ⊥
no_at_other S A n j b t e h f (c, at, names) =
    let same : c ≡ b = same_Some c b (same_Some (Some c) (Some b) (sym at ∙ e)) in
    not_true t f (h.1 (subst (λ (x : Break). Names S A.schedule x n) same names))

pub none_named : (d : Seen) → IsDebugger d → (m : ℕ) → 256 ≤ m → ((i : ℕ) → i < m → NamesAt (start_of d) (session_of d) (length d.traces) i → ⊥) → IsFree (start_of d) (session_of d) (length d.traces)
none_named d h m le none j (b, at, names) = none j (let w : j < length d.breaks = slice_get_within d.breaks j (Some b) at in let p = h.places in omega (arith, w, p, le)) (b, at, names)

-- ---- places

pub placed_trail : (d : Seen) (j : ℕ) (b : Option Break) → IsDebugger d → IsDebugger (placed_in d j b)
placed_trail d j b h = record {
  count = h.count;
  within = h.within;
  short = h.short;
  places = set_length d.breaks j b ∙ h.places;
  follows = λ k lt. let f = h.follows k lt in record {
    before = f.before;
    after = f.after;
    event = f.event;
    rows = f.rows;
    is_before = f.is_before;
    is_after = f.is_after;
    is_event = f.is_event;
    is_trace = f.is_trace;
    step = f.step;
  };
}
  where
    set_length : {X : Type 0} (xs : List X) (j : ℕ) (x : X) → length (slice_set xs j x) ≡ length xs
    set_length xs j x = search rules

-- ---- a breakpoint that could not be set

pub never_missing : (old new : Seen) (b : Break) (r : Result ℕ DebugFault) → IsSet old new b r → r ≡ Err (D.Refused F.NoSuchReplica) → ⊥
never_missing old new b (Ok k) h e = cc
never_missing old new b (Err fault) h e =
    let x : fault ≡ D.Refused F.NoSuchReplica = cc in
    let y : D.Refused F.TooManyBreaks ≡ D.Refused F.NoSuchReplica = sym h.0 ∙ x in
    cc

pub none_set : (old new : Seen) (b : Break) (r : Result ℕ DebugFault) → IsSet old new b r → OnErr r (new ≡ old)
none_set old new b (Ok k) h = tt
none_set old new b (Err fault) (is, none, same) = same

-- Of `Answers`: a move to each later position, and a run, where each event is made or stuck, for `SomeReplyLemmas`.
use Rattle.std.proofs.Common.{◌≡◌, ◌⊎◌, inl, inr, ℕ, zero, suc, ◌+◌, ◌-◌, ◌<◌, ◌≤◌, List, [], ◌∷◌, ◌++◌, length, take, slice_get, Option, Some, None, below_more, refl, ap, sym, subst, ◌∙◌, arith, length-append, length-take-le}
use Rattle.std.proofs.lemmas.Bool.{cases_lt, cases_eq}
use Rattle.std.proofs.lemmas.List.{take_all}
use Rattle.std.proofs.lemmas.Option.{same_Some, slice_get_within}
use Rattle.jc_rules.specs.declared.operation.Event.{Event}
use Rattle.jc_rules.specs.declared.rule.Rule.{Rule}
use Rattle.jc_rules.specs.Refused.{Cause}
use Rattle.jc_rules.specs.Step.{Network, StepIn, AfterIn, replica_of}
use Rattle.jc_network.specs.Enabled.{HasStep, IsAnyStuck}
use Rattle.jc_network.proofs.AfterLemmas.{after_one_more, states_set, take_more}
use Rattle.jc_network.proofs.MembersLemmas.{some_at}
use Rattle.jc_debug.specs.declared.breaks.Break.{Break}
use Rattle.jc_debug.specs.declared.breaks.Break.TheVariants as Kind
use Rattle.jc_debug.specs.DebuggerState.{Session, IsNetworkAt, MakesEvent, IsStuckAt, StuckEvent, GoesTo, arrives, stops, HasRule, Names, NamesAt, IsFree, IsLeast, RunOutcome, breaks, sticks, ends, Runs}
use Rattle.jc_debug.proofs.BreaksLemmas.{one_makes}
use Rattle.jc_debug.proofs.LawsLemmas.{cut}
use Rattle.jc_session.proofs.DecisionsLemmas.{Decided, least, has_rule}

-- ---- networks

-- events leave as many replicas as there were
pub same_count : (S : Network) (es : List Event) (N : Network) → AfterIn S es N → length N.states ≡ length S.states
same_count S [] N h = ap (λ (M : Network). length M.states) (sym h)
same_count S (e ∷ es) N h =
    let step = h.2.step in
    same_count h.0 es N h.3 ∙ (ap length step.is_new ∙ states_set S.states (replica_of e) step.after)

-- the network at an earlier position
before : (S : Network) (es : List Event) (m n : ℕ) (N : Network) → m ≤ n → AfterIn S (take n es) N → (M : Network) × AfterIn S (take m es) M
before S es zero n N le h = (S, refl)
before S [] (suc m) n N le h = (S, refl)
before S (e ∷ es) (suc m) zero N le h = absurd (omega (arith, le))
before S (e ∷ es) (suc m) (suc n) N le h = let (M, rest) = before h.0 es m n N (omega (arith, le)) h.3 in (M, (h.0, h.1, h.2, rest))

pub at_earlier : (S : Network) (es : List Event) (m n : ℕ) (N : Network) → m ≤ n → IsNetworkAt S es n N → (M : Network) × IsNetworkAt S es m M
at_earlier S es m n N le a =
    let (M, after) = before S es m n N le a.after in
    (M, record { within = (let w = a.within in omega (arith, le, w)); after = after })

pub made_before : (S : Network) (es : List Event) (n to : ℕ) (N : Network) → n < to → IsNetworkAt S es to N → (event : Event) × (rows : List (Rule × ℕ)) × MakesEvent S es n event rows
made_before S es n to N lt a = cut S es n to N lt a.within a.after

-- one event is made at a position in place of those after it
pub acted_at : (S : Network) (es : List Event) (n : ℕ) (N : Network) (e : Event) (M : Network) (rows : List (Rule × ℕ)) → IsNetworkAt S es n N → StepIn N e M rows → IsNetworkAt S (take n es ++ e ∷ []) (n + 1) M
acted_at S es n N e M rows a step =
    let size : length (take n es ++ e ∷ []) ≡ n + 1 = length-append (take n es) (e ∷ []) ∙ ap (λ (k : ℕ). k + 1) (length-take-le n es a.within) in
    record {
      within = omega (arith, size);
      after = subst (λ (l : List Event). AfterIn S l M) (sym (take_all (n + 1) (take n es ++ e ∷ []) (omega (arith, size)))) (after_one_more S (take n es) N e M rows a.after step);
    }

-- ---- moves

-- Each network that events lead to from the start has a step of each event, or that is stuck there.
abbrev pub Decides : Network → Type 0
Decides S = (es : List Event) (N : Network) → AfterIn S es N → (event : Event) → HasStep N event ⊎ IsAnyStuck N event

module _ (S : Network) (decides : Decides S) where
  -- the event at a position that was reached is made or stuck
  next : (es : List Event) (n : ℕ) (N : Network) → n < length es → IsNetworkAt S es n N → ((M : Network) × IsNetworkAt S es (suc n) M) ⊎ ((event : Event) × (why : Cause) × IsStuckAt S es n event why)
  next es n N lt a =
      let (event, is) = some_at es n lt in
      elim (decides (take n es) N a.after event) [
        | inl (M, rows, step) ↦ inl (M, record { within = omega (arith, lt); after = subst (λ (l : List Event). AfterIn S l M) (sym (take_more es n event is)) (after_one_more S (take n es) N event M rows a.after step) })
        | inr (why, stuck) ↦ inr (event, why, record { before = N; is_at = a; is = is; stuck = stuck })
      ]

  -- a move to a later position
  pub move : (es : List Event) (k from m to : ℕ) (N : Network) → from ≤ m → k + m ≡ to → to ≤ length es → IsNetworkAt S es m N → (p : ℕ) × (end : Option StuckEvent) × GoesTo S es from to p end
  move es zero from m to N le e within a =
      let same : m ≡ to = omega (arith, e) in
      (to, None, arrives (subst (λ (n : ℕ). IsNetworkAt S es n N) same a))
  move es (suc k) from m to N le e within a =
      elim (next es m N (omega (arith, e, within)) a) [
        | inl (M, b) ↦ move es k from (suc m) to M (omega (arith, le)) (omega (arith, e)) within b
        | inr (event, why, stuck) ↦ (m, Some (event, why), stops le (omega (arith, e)) stuck)
      ]

-- the position that a move reached
pub come_to : (S : Network) (es : List Event) (from to p : ℕ) (end : Option StuckEvent) → GoesTo S es from to p end → (N : Network) × IsNetworkAt S es p N
come_to S es from to p end (arrives {network} a) = (network, a)
come_to S es from to p end (stops le lt stuck) = (stuck.before, stuck.is_at)

-- ---- breakpoints

no_other_trace : (S : Network) (es : List Event) (m : ℕ) (event : Event) (rows : List (Rule × ℕ)) (rule : Rule) → MakesEvent S es m event rows → (HasRule rows rule → ⊥) → Names S es (Kind.Rule rule) (suc m) → ⊥
no_other_trace S es m event rows rule makes none x =
    let same : x.0 ≡ m = omega (arith, x.3) in
    let there : MakesEvent S es m x.1 x.2 = subst (λ (k : ℕ). MakesEvent S es k x.1 x.2) same x.4 in
    none (subst (λ (r : List (Rule × ℕ)). HasRule r rule) (one_makes S es m x.1 event x.2 rows there makes).1 x.5)

no_other_replica : (S : Network) (es : List Event) (m : ℕ) (event : Event) (p : ℕ) → slice_get es m ≡ Some event → (replica_of event ≡ p → ⊥) → Names S es (Kind.Replica p) (suc m) → ⊥
no_other_replica S es m event p is other x =
    let same : x.0 ≡ m = omega (arith, x.2) in
    let one : x.1 ≡ event = same_Some x.1 event (sym x.3 ∙ ap (slice_get es) same ∙ is) in
    other (ap replica_of (sym one) ∙ x.4)

-- a breakpoint names a later position than the first, or not
named : (S : Network) (es : List Event) (m : ℕ) (N : Network) → IsNetworkAt S es (suc m) N → (b : Break) → Decided (Names S es b (suc m))
named S es m N a (Kind.Position n) = cases_eq (suc m) n
named S es m N a (Kind.Rule rule) =
    let (event, rows, makes) = made_before S es m (suc m) N (omega arith) a in
    elim (has_rule rows rule) [
      | inl has ↦ inl (m, event, rows, omega arith, makes, has)
      | inr none ↦ inr (no_other_trace S es m event rows rule makes none)
    ]
named S es m N a (Kind.Replica p) =
    let (event, is) = some_at es m (omega (arith, a.within)) in
    elim (cases_eq (replica_of event) p) [
      | inl same ↦ inl (m, event, omega arith, is, same)
      | inr other ↦ inr (no_other_replica S es m event p is other)
    ]

named_at : (S : Network) (A : Session) (m : ℕ) (N : Network) → IsNetworkAt S A.schedule (suc m) N → (j : ℕ) → Decided (NamesAt S A (suc m) j)
named_at S A m N a j = by_place (slice_get A.breaks j) refl
  where
    by_place : (o : Option (Option Break)) → slice_get A.breaks j ≡ o → Decided (NamesAt S A (suc m) j)
    by_place (Some (Some b)) e =
        elim (named S A.schedule m N a b) [
          | inl names ↦ inl (b, e, names)
          | inr none ↦
              inr (λ (c, at, names).
              (let same : c ≡ b = same_Some c b (same_Some (Some c) (Some b) (sym at ∙ e)) in
              none (subst (λ (x : Break). Names S A.schedule x (suc m)) same names)))
        ]
    by_place o e = inr (λ (b, at, names). (let no : o ≡ Some (Some b) = sym e ∙ at in cc))

-- a least breakpoint names a later position than the first, or none does
named_or_free : (S : Network) (A : Session) (m : ℕ) (N : Network) → IsNetworkAt S A.schedule (suc m) N → ((j : ℕ) × IsLeast (NamesAt S A (suc m)) j) ⊎ IsFree S A (suc m)
named_or_free S A m N a =
    elim (least (NamesAt S A (suc m)) (named_at S A m N a) (length A.breaks)) [
      | inl found ↦ inl found
      | inr none ↦ inr (λ j (b, at, names). none j (slice_get_within A.breaks j (Some b) at) (b, at, names))
    ]

-- ---- runs

module _ (S : Network) (decides : Decides S) (A : Session) where
  abbrev Ran : Type 0
  Ran = (n : ℕ) × (end : RunOutcome) × Runs S A n end

  abbrev IsQuiet : ℕ → Type 0
  IsQuiet n = (m : ℕ) → A.position < m → m < n → IsFree S A m

  more_quiet : (n : ℕ) → IsQuiet n → (A.position < n → IsFree S A n) → IsQuiet (suc n)
  more_quiet n quiet free m past lt = below_more (λ k. A.position < k → IsFree S A k) n (λ k less beyond. quiet k beyond less) free m (omega (arith, lt)) past

  -- a run ends at a breakpoint, or goes on
  at_break : (n : ℕ) (N : Network) → A.position ≤ n → IsNetworkAt S A.schedule n N → IsQuiet n → ((A.position < n → IsFree S A n) → Ran) → Ran
  at_break zero N le a quiet on = on (λ past. absurd (omega (arith, past)))
  at_break (suc m) N le a quiet on =
      elim (cases_lt A.position (suc m)) [
        | inr first ↦ on (λ past. absurd (omega (arith, first, past)))
        | inl past ↦
            elim (named_or_free S A m N a) [
              | inl (j, least) ↦ (suc m, breaks j, record { network = N; is_at = a; forward = le; quiet = quiet; at = (past, least) })
              | inr free ↦ on (λ h. free)
            ]
      ]

  run_from : (k n : ℕ) (N : Network) → A.position < length A.schedule → A.position ≤ n → k + n ≡ length A.schedule → IsNetworkAt S A.schedule n N → IsQuiet n → Ran
  run_from zero n N some le e a quiet =
      at_break n N le a quiet (λ free.
      (n, ends, record { network = N; is_at = a; forward = le; quiet = quiet; at = (omega (arith, e), free (omega (arith, some, e))) }))
  run_from (suc k) n N some le e a quiet =
      at_break n N le a quiet (λ free.
      elim (next S decides A.schedule n N (omega (arith, e)) a) [
        | inl (M, b) ↦ run_from k (suc n) M some (omega (arith, le)) (omega (arith, e)) b (more_quiet n quiet free)
        | inr (event, why, stuck) ↦ (n, sticks event why, record { network = N; is_at = a; forward = le; quiet = quiet; at = (free, stuck) })
      ])

  -- a run from a position before the schedule's end
  pub run : (N : Network) → A.position < length A.schedule → IsNetworkAt S A.schedule A.position N → (n : ℕ) × (end : RunOutcome) × Runs S A n end
  run N some a = run_from (length A.schedule - A.position) A.position N some (omega arith) (omega (arith, some)) a (λ m past lt. absurd (omega (arith, past, lt)))

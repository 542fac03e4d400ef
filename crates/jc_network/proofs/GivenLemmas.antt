-- Lemmas about Given: given events lead to a network, or one of them is the first that is stuck.
use Rattle.std.proofs.Common.{◌≡◌, ◌⊎◌, inl, inr, ℕ, zero, suc, ◌+◌, List, [], ◌∷◌, ◌++◌, Some, take, slice_get, refl, sym, ◌∙◌, ap, subst, arith}
use Rattle.jc_rules.specs.declared.operation.Event.{Event}
use Rattle.jc_rules.specs.declared.rule.Rule.{Rule}
use Rattle.jc_rules.specs.Refused.{Cause, IsStuckIn}
use Rattle.jc_rules.specs.State.{State}
use Rattle.jc_rules.specs.Step.{Step, After, Network, StepIn, AfterIn}
use Rattle.jc_rules.specs.Syntax.{Cmd}
use Rattle.jc_rules.proofs.VersionLemmas.{one_step_in, stuck_in_has_none, one_stuck_in}
use Rattle.jc_network.specs.Given.{IsGivenStuck, OneGivenStuck, LedOrStuck}
use Rattle.jc_network.specs.Laws.{starts, IsReached}
use Rattle.jc_network.proofs.RunInvariantStartLemmas.{start_well, after_well}
use Rattle.jc_network.proofs.ChainedLemmas.{are_chained}
use Rattle.jc_network.proofs.EventsDecideLemmas.{step_decided}
use Rattle.jc_network.proofs.EnabledLemmas.{StepsOrStuckIn, decided_in}

-- ---- one of them

abbrev LedOrOneStuck : Network → List Event → Type 0
LedOrOneStuck N given =
    ((M : Network) × AfterIn N given M) ⊎ ((at : ℕ) × (event : Event) × (why : Cause) × IsGivenStuck N given at event why)

given_later : (N M : Network) (e : Event) (rows : List (Rule × ℕ)) (es : List Event) (at : ℕ) (event : Event) (why : Cause) → StepIn N e M rows → IsGivenStuck M es at event why → IsGivenStuck N (e ∷ es) (at + 1) event why
given_later N M e rows es at event why step g = record {
  before = suc g.before;
  network = g.network;
  at_is = let n = g.at_is in omega (arith, n);
  led = (M, rows, step, g.led);
  is = g.is;
  stuck = g.stuck;
}

-- an event has a step from a network that is reached, or is stuck there
pub step_or_stuck_in : (scripts : List (List Cmd)) (N : Network) (e : Event) → IsReached scripts N.states → StepsOrStuckIn N e
step_or_stuck_in scripts N e r =
    decided_in N (step_decided N.states (after_well (starts scripts) r.0 N.states (start_well scripts) r.1) (are_chained scripts r.0 N.states (start_well scripts) r.1)) e

pub reached_more : (scripts : List (List Cmd)) (N M : Network) (e : Event) (rows : List (Rule × ℕ)) → IsReached scripts N.states → StepIn N e M rows → IsReached scripts M.states
reached_more scripts N M e rows r s = (r.0 ++ e ∷ [], go (starts scripts) r.0 r.1)
  where
    go : (L : List State) (es : List Event) → After L es N.states → After L (es ++ e ∷ []) M.states
    go L [] a = (M.states, rows, subst (λ (K : List State). Step K e M.states rows) (sym a) s.step, refl)
    go L (f ∷ es) a = (a.0, a.1, a.2, go a.0 es a.3)

led_or_one_stuck : (scripts : List (List Cmd)) (N : Network) (given : List Event) → IsReached scripts N.states → LedOrOneStuck N given
led_or_one_stuck scripts N [] r = inl (N, refl)
led_or_one_stuck scripts N (e ∷ es) r =
    go (step_or_stuck_in scripts N e r) (λ M rows s. led_or_one_stuck scripts M es (reached_more scripts N M e rows r s))
  where
    more : (M : Network) (rows : List (Rule × ℕ)) → StepIn N e M rows → LedOrOneStuck M es → LedOrOneStuck N (e ∷ es)
    more M rows s (inl (K, a)) = inl (K, (M, rows, s, a))
    more M rows s (inr (at, event, why, g)) = inr (at + 1, event, why, given_later N M e rows es at event why s g)

    go : StepsOrStuckIn N e → ((M : Network) (rows : List (Rule × ℕ)) → StepIn N e M rows → LedOrOneStuck M es) → LedOrOneStuck N (e ∷ es)
    go (inl (M, rows, s)) f = more M rows s (f M rows s)
    go (inr (why, s)) f = inr (1, e, why, record { before = 0; network = N; at_is = refl; led = refl; is = refl; stuck = s })

-- ---- and never both

given_bars : (N M K : Network) (given : List Event) (b : ℕ) (event : Event) (why : Cause) → AfterIn N given M → AfterIn N (take b given) K → slice_get given b ≡ Some event → IsStuckIn K event why → ⊥
given_bars N M K [] b event why a l i s = cc
given_bars N M K (e ∷ es) zero event why a l i s =
    let same : e ≡ event = cc in
    let here : IsStuckIn N e why = subst (λ (L : Network). IsStuckIn L e why) (sym l) (subst (λ (x : Event). IsStuckIn K x why) (sym same) s) in
    stuck_in_has_none N a.0 e why a.1 here a.2
given_bars N M K (e ∷ es) (suc b) event why a l i s =
    let same : a.0 ≡ l.0 = (one_step_in N e a.0 l.0 a.1 l.1 a.2 l.2).0 in
    given_bars l.0 M K es b event why (subst (λ (L : Network). AfterIn L es M) same a.3) l.3 i s

pub led_or_stuck : LedOrStuck
led_or_stuck scripts N given r =
    (led_or_one_stuck scripts N given r, λ M at event why a g. given_bars N M g.network given g.before event why a g.led g.is g.stuck)

-- ---- and only one

one_first : (N K L : Network) (given : List Event) (b m : ℕ) (event other : Event) (why due : Cause) → AfterIn N (take b given) K → AfterIn N (take m given) L → slice_get given b ≡ Some event → slice_get given m ≡ Some other → IsStuckIn K event why → IsStuckIn L other due → (b ≡ m) × (event ≡ other) × (why ≡ due)
one_first N K L [] b m event other why due k l i j s t = cc
one_first N K L (e ∷ es) zero zero event other why due k l i j s t =
    let same : other ≡ event = cc in
    let there : L ≡ K = sym l ∙ k in
    (refl, sym same, one_stuck_in K event why due s (subst (λ (M : Network). IsStuckIn M event due) there (subst (λ (x : Event). IsStuckIn L x due) same t)))
one_first N K L (e ∷ es) zero (suc m) event other why due k l i j s t =
    let same : e ≡ event = cc in
    let here : IsStuckIn N e why = subst (λ (M : Network). IsStuckIn M e why) (sym k) (subst (λ (x : Event). IsStuckIn K x why) (sym same) s) in
    absurd (stuck_in_has_none N l.0 e why l.1 here l.2)
one_first N K L (e ∷ es) (suc b) zero event other why due k l i j s t =
    let same : e ≡ other = cc in
    let here : IsStuckIn N e due = subst (λ (M : Network). IsStuckIn M e due) (sym l) (subst (λ (x : Event). IsStuckIn L x due) (sym same) t) in
    absurd (stuck_in_has_none N k.0 e due k.1 here k.2)
one_first N K L (e ∷ es) (suc b) (suc m) event other why due k l i j s t =
    let same : k.0 ≡ l.0 = (one_step_in N e k.0 l.0 k.1 l.1 k.2 l.2).0 in
    let one = one_first l.0 K L es b m event other why due (subst (λ (M : Network). AfterIn M (take b es) K) same k.3) l.3 i j s t in
    (ap suc one.0, one.1, one.2)

pub one_given_stuck : OneGivenStuck
one_given_stuck first given at n event other why due g h =
    let one = one_first first g.network h.network given g.before h.before event other why due g.led h.led g.is h.is g.stuck h.stuck in
    (g.at_is ∙ (ap (λ (k : ℕ). k + 1) one.0 ∙ sym h.at_is), one.1, one.2)

-- Of `Positions`: where the given events and those of a schedule lead together.
use Rattle.std.proofs.Common.{◌≡◌, ℕ, zero, suc, ◌+◌, ◌≤◌, List, [], ◌∷◌, ◌++◌, length, take, slice_get, Some, refl, sym, ap, subst, ◌∙◌, arith, length-append}
use Rattle.std.proofs.lemmas.List.{take-append-le, take-take}
use Rattle.std.proofs.Math.Seq.{take-append-add}
use Rattle.jc_rules.specs.declared.operation.Event.{Event}
use Rattle.jc_rules.specs.Refused.{Cause}
use Rattle.jc_rules.specs.Step.{Network, AfterIn}
use Rattle.jc_scenario.specs.WellFormed.{Scenario}
use Rattle.jc_network.specs.Given.{before_given, IsStart}
use Rattle.jc_network.proofs.AfterLemmas.{after_more}
use Rattle.jc_debug.specs.DebuggerState.{IsNetworkAt, IsStuckAt}
use Rattle.jc_listings.specs.Positions.{all_events, IsAt, StopsAt}

-- ---- lists

pub get_within : {X : Type 0} (xs ys : List X) (n : ℕ) (x : X) → slice_get xs n ≡ Some x → slice_get (xs ++ ys) n ≡ Some x
get_within [] ys n x e = absurd cc
get_within (y ∷ xs) ys zero x e = e
get_within (y ∷ xs) ys (suc n) x e = get_within xs ys n x e

pub get_behind : {X : Type 0} (xs ys : List X) (n : ℕ) → slice_get (xs ++ ys) (length xs + n) ≡ slice_get ys n
get_behind [] ys n = ap (slice_get ys) (omega arith)
get_behind (x ∷ xs) ys n =
    let number : length (x ∷ xs) + n ≡ suc (length xs + n) = omega arith in
    ap (slice_get (x ∷ xs ++ ys)) number ∙ get_behind xs ys n

-- ---- where events lead

-- events that lead somewhere have led somewhere before
pub after_first : (N : Network) (es : List Event) (M : Network) (n : ℕ) → AfterIn N es M → (K : Network) × AfterIn N (take n es) K
after_first N es M zero h = (N, refl)
after_first N [] M (suc n) h = (N, refl)
after_first N (e ∷ es) M (suc n) h = let r = after_first h.0 es M n h.3 in (r.0, (h.0, h.1, h.2, r.1))

module _ (s : Scenario) (events : List Event) where
  -- the schedule's network behind the given events
  pub at_schedule : (S : Network) (n : ℕ) (N : Network) → IsStart s S → IsNetworkAt S events n N → IsAt s events (length s.given + n) N
  at_schedule S n N starts h =
      let low = h.within in
      let many = length-append s.given events in
      record {
        within = omega (arith, many, low);
        after = subst (λ (es : List Event). AfterIn (before_given s) es N) (sym (take-append-add s.given events n)) (after_more (before_given s) s.given S (take n events) N starts h.after);
      }

  -- the network behind some of the given events
  pub at_given : (n : ℕ) (N : Network) → n ≤ length s.given → AfterIn (before_given s) (take n s.given) N → IsAt s events n N
  at_given n N low h =
      let many = length-append s.given events in
      record {
        within = omega (arith, many, low);
        after = subst (λ (es : List Event). AfterIn (before_given s) es N) (sym (take-append-le n s.given events low)) h;
      }

  pub of_given : (n : ℕ) (N : Network) → n ≤ length s.given → IsAt s events n N → AfterIn (before_given s) (take n s.given) N
  of_given n N low h = subst (λ (es : List Event). AfterIn (before_given s) es N) (take-append-le n s.given events low) h.after

  -- what leads somewhere has led somewhere before
  pub at_before : (n m : ℕ) (N : Network) → m ≤ n → IsAt s events n N → (K : Network) × IsAt s events m K
  at_before n m N low h =
      let within = h.within in
      let r = after_first (before_given s) (take n (all_events s events)) N m h.after in (
        r.0,
        record {
          within = omega (arith, within, low);
          after = subst (λ (es : List Event). AfterIn (before_given s) es r.0) (take-take m n (all_events s events) low) r.1;
        },
      )

  -- an event of the schedule is stuck behind the given ones
  pub stops_at : (S : Network) (n : ℕ) (e : Event) (why : Cause) → IsStart s S → (h : IsStuckAt S events n e why) → StopsAt s events (length s.given + n) h.before e why
  stops_at S n e why starts h = record {
    is_at = at_schedule S n h.before starts h.is_at;
    is = get_behind s.given events n ∙ h.is;
    stuck = h.stuck;
  }

  -- some of the given events lead somewhere
  pub given_leads : (S : Network) (n : ℕ) → IsStart s S → (N : Network) × AfterIn (before_given s) (take n s.given) N
  given_leads S n starts = after_first (before_given s) s.given S n starts

  -- so do all of a session's
  pub led_to : (S : Network) (n : ℕ) (N : Network) (m : ℕ) → IsStart s S → IsNetworkAt S events n N → m ≤ length s.given + n → (K : Network) × IsAt s events m K
  led_to S n N m starts h low = at_before (length s.given + n) m N low (at_schedule S n N starts h)

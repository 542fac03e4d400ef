-- The statements of this crate's laws.
use Rattle.std.specs.Prelude.{◌≡◌, ◌≢◌, ◌↔◌, ℕ, List, not, ◌||◌, ◌&&◌}
use Rattle.std.specs.Cmp.{IsTotalOrder}
use Rattle.std.specs.declared.cmp.Ordering.{Ordering}
use Rattle.std.specs.declared.cmp.Ordering.TheVariants.{Equal}
use Rattle.jc_rules.specs.declared.id.Id.{Id}
use Rattle.jc_rules.specs.declared.operation.Event.{Event}
use Rattle.jc_rules.specs.declared.rule.Rule.{Rule}
use Rattle.jc_rules.specs.declared.rule.Rule.TheVariants.{RecvOne}
use Rattle.jc_rules.specs.declared.refusal.Refusal.{Refusal}
use Rattle.jc_rules.specs.Order.{id_cmp, name_cmp, key_cmp, same_id}
use Rattle.jc_rules.specs.Ids.{AreRising, has_id, with_id, union, without}
use Rattle.jc_rules.specs.RuleNames.{rule_name}
use Rattle.jc_rules.specs.Refusals.{refusal_number}
use Rattle.jc_rules.specs.State.{State}
use Rattle.jc_rules.specs.Derivation.{Question, Derivation, derive, Premises, none, premise, conclusion, asked}
use Rattle.jc_rules.specs.Table.{Holds, HoldsFifty}
use Rattle.jc_rules.specs.Step.{Step, After, Network, StepIn, AfterIn}
use Rattle.jc_rules.specs.Refused.{Cause, Refused, IsStuck, IsStuckIn}

-- Two derivations that hold and answer one question are one.
abbrev pub OneDerivation : Type 0
OneDerivation = (d e : Derivation) → Holds d → Holds e → asked (conclusion d) ≡ asked (conclusion e) → d ≡ e

-- An event leads a network to one network at most, by one trace.
abbrev pub OneStep : Type 0
OneStep =
    (network : List State) (event : Event) (new other : List State) (rows other_rows : List (Rule × ℕ))
    → Step network event new rows → Step network event other other_rows → (new ≡ other) × (rows ≡ other_rows)

-- The same events lead a network to one network at most.
abbrev pub OneAfter : Type 0
OneAfter =
    (network : List State) (events : List Event) (last other : List State)
    → After network events last → After network events other → last ≡ other

-- The same of a network of some version.
abbrev pub OneStepIn : Type 0
OneStepIn =
    (network : Network) (event : Event) (new other : Network) (rows other_rows : List (Rule × ℕ))
    → StepIn network event new rows → StepIn network event other other_rows → (new ≡ other) × (rows ≡ other_rows)

abbrev pub OneAfterIn : Type 0
OneAfterIn =
    (network : Network) (events : List Event) (last other : Network)
    → AfterIn network events last → AfterIn network events other → last ≡ other

-- the rule occurs nowhere in the derivation
abbrev mutual
  pub Lacks : Rule → Derivation → Type 0
  Lacks rule (derive r j ps) = (r ≢ rule) × AllLack rule ps

  pub AllLack : Rule → Premises → Type 0
  AllLack rule none = Unit {0}
  AllLack rule (premise d ps) = Lacks rule d × AllLack rule ps

-- A derivation without RECV-ONE holds in the table exactly where it holds in that of the fifty rules.
abbrev pub FiftyRulesStand : Type 0
FiftyRulesStand = (d : Derivation) → Lacks RecvOne d → Holds d ↔ HoldsFifty d

-- A question that is refused has no derivation.
abbrev pub RefusedHasNone : Type 0
RefusedHasNone = (q : Question) (why : Cause) → Refused q why → (d : Derivation) → Holds d → asked (conclusion d) ≢ q

-- A question is refused in one way only.
abbrev pub OneCause : Type 0
OneCause = (q : Question) (why other : Cause) → Refused q why → Refused q other → why ≡ other

-- An event that is stuck leads to no network.
abbrev pub StuckHasNone : Type 0
StuckHasNone =
    (network new : List State) (event : Event) (why : Cause) (rows : List (Rule × ℕ))
    → IsStuck network event why → Step network event new rows → ⊥

-- An event is stuck in one way only.
abbrev pub OneStuck : Type 0
OneStuck =
    (network : List State) (event : Event) (why other : Cause)
    → IsStuck network event why → IsStuck network event other → why ≡ other

-- The same of a network of some version.
abbrev pub StuckInHasNone : Type 0
StuckInHasNone =
    (network new : Network) (event : Event) (why : Cause) (rows : List (Rule × ℕ))
    → IsStuckIn network event why → StepIn network event new rows → ⊥

abbrev pub OneStuckIn : Type 0
OneStuckIn =
    (network : Network) (event : Event) (why other : Cause)
    → IsStuckIn network event why → IsStuckIn network event other → why ≡ other

-- an order that tells different keys apart
pub record IsExactOrder {K : Type 0} (R : K → K → Ordering) : Type 0 where
  pub total : IsTotalOrder R
  pub exact : (j k : K) → R j k ≡ Equal → j ≡ k

pub record AreExactOrders : Type 0 where
  pub ids : IsExactOrder id_cmp
  pub names : IsExactOrder name_cmp
  pub keys : IsExactOrder key_cmp

-- The ascending lists that sets of identifiers are: what is in them, that they ascend, and that equal members make
-- equal lists.
pub record AreSets : Type 0 where
  pub with_one : (k i : Id) (s : List Id) → has_id k (with_id i s) ≡ same_id k i || has_id k s
  pub in_either : (k : Id) (s t : List Id) → has_id k (union s t) ≡ has_id k s || has_id k t
  pub in_first : (k : Id) (s t : List Id) → has_id k (without s t) ≡ has_id k s && not (has_id k t)
  pub with_rises : (i : Id) (s : List Id) → AreRising s → AreRising (with_id i s)
  pub union_rises : (s t : List Id) → AreRising (union s t)
  pub without_rises : (s t : List Id) → AreRising s → AreRising (without s t)
  pub extensional : (s t : List Id) → AreRising s → AreRising t → ((k : Id) → has_id k s ≡ has_id k t) → s ≡ t

abbrev pub NamesDiffer : Type 0
NamesDiffer = (r s : Rule) → rule_name r ≡ rule_name s → r ≡ s

abbrev pub NumbersDiffer : Type 0
NumbersDiffer = (r s : Refusal) → refusal_number r ≡ refusal_number s → r ≡ s

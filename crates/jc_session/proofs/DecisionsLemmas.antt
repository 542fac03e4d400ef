-- Of `Answers`: decisions about names, rules and operations, and the least number of a kind, for `SomeReplyLemmas`.
use Rattle.std.proofs.Common.{◌≡◌, ◌≢◌, ◌⊎◌, inl, inr, ℕ, zero, suc, ◌<◌, List, [], ◌∷◌, length, get_or, unwrap_or, slice_get, Option, Some, None, Bool, true, false, Contains, below_more, refl, ap, sym, subst, ◌∙◌, arith}
use Rattle.std.specs.Bool.{Decides}
use Rattle.std.specs.Str.{bytes_eq}
use Rattle.std.specs.Cmp.Lexicographic.{pointwise}
use Rattle.std.proofs.lemmas.Option.{same_Some, slice_get_within, slice_get-get_or, get_or_from_slice_get}
use Rattle.std.proofs.lemmas.Slice.Eq.{bytes_eq-Decides, slice_eq-Decides}
use Rattle.jc_rules.specs.declared.id.Id.{Id}
use Rattle.jc_rules.specs.declared.operation.Event.{Event}
use Rattle.jc_rules.specs.declared.operation.Event.TheVariants as E
use Rattle.jc_rules.specs.declared.rule.Rule.{Rule}
use Rattle.jc_rules.specs.declared.rule.Rule.TheVariants as R
use Rattle.jc_rules.specs.declared.version.Version.{Version}
use Rattle.jc_rules.specs.declared.version.Version.TheVariants.{One, Two}
use Rattle.jc_rules.specs.ReplicaNames.{name_at}
use Rattle.jc_rules.specs.Order.{same_id}
use Rattle.jc_rules.specs.RuleNames.{rule_name}
use Rattle.jc_rules.proofs.IdsLemmas.{same_id-self, same_id-true}
use Rattle.jc_rules.proofs.RefusalsLemmas.{rule_place, every_rule, rule_within, names_differ}
use Rattle.jc_syntax.specs.declared.tree.Named.{Named}
use Rattle.jc_syntax.specs.declared.tree.NamedEvent.{NamedEvent}
use Rattle.jc_syntax.specs.declared.tree.NamedEvent.TheVariants as N
use Rattle.jc_parser.specs.Events.{executes, sends, receives, takes, applies, ends}
use Rattle.jc_scenario.specs.Resolved.{IsResolved, names_in_event, IsFirstStranger}
use Rattle.jc_debug.specs.DebuggerState.{HasRule, IsLeast}
use Rattle.jc_session.specs.Answers.{IsNamed, IsStrange, Knows}

-- it holds or it doesn't
abbrev pub Decided : Type 0 → Type 0
Decided P = P ⊎ (P → ⊥)

-- what a test tells
decided : {P : Type 0} (b : Bool) → Decides b P → Decided P
decided true tells = inl (tells.0 refl)
decided false tells = inr (λ h. (let no : false ≡ true = tells.1 h in cc))

-- ---- the least number

-- below a number there is a least one of which it holds, or there is none
pub least : (P : ℕ → Type 0) → ((j : ℕ) → Decided (P j)) → (n : ℕ) → ((j : ℕ) × IsLeast P j) ⊎ ((j : ℕ) → j < n → P j → ⊥)
least P decided zero = inr (λ j lt h. omega (arith, lt))
least P decided (suc n) =
    elim (least P decided n) [
      | inl found ↦ inl found
      | inr before ↦
          elim (decided n) [
            | inl here ↦ inl (n, (here, before))
            | inr other ↦ inr (λ j lt. below_more (λ k. P k → ⊥) n before other j (omega (arith, lt)))
          ]
    ]

-- a list has the element at this place, or not
pub stands : {X : Type 0} (same : (x y : X) → Decided (x ≡ y)) (xs : List X) (y : X) (j : ℕ) → Decided (slice_get xs j ≡ Some y)
stands {X} same xs y j = by_place (slice_get xs j) refl
  where
    by_place : (o : Option X) → slice_get xs j ≡ o → Decided (slice_get xs j ≡ Some y)
    by_place None e = inr (λ f. (let no : None ≡ Some y = sym e ∙ f in cc))
    by_place (Some x) e =
        elim (same x y) [
          | inl one ↦ inl (e ∙ ap Some one)
          | inr other ↦ inr (λ f. other (same_Some x y (sym e ∙ f)))
        ]

-- ---- names

same_bytes : (m n : List ℕ) → Decided (m ≡ n)
same_bytes m n = decided (bytes_eq m n) (bytes_eq-Decides m n)

-- a replica has the name, or none has it
pub named_or_strange : (names : List (List ℕ)) (name : List ℕ) → ((p : ℕ) × IsNamed names name p) ⊎ IsStrange names name
named_or_strange names name =
    elim (least (IsNamed names name) (stands same_bytes names name) (length names)) [
      | inl (p, is) ↦ inl (p, is.0)
      | inr none ↦ inr (λ (k, inside, is). none k inside (slice_get-get_or names k name inside ∙ ap Some is))
    ]

-- ---- rules

pub same_rule : (r s : Rule) → Decided (r ≡ s)
same_rule r s =
    elim (same_bytes (rule_name r) (rule_name s)) [
      | inl same ↦ inl (names_differ r s same)
      | inr other ↦ inr (λ same. other (ap rule_name same))
    ]

-- a rule has the name, or none has it
rule_or_none : (name : List ℕ) → ((rule : Rule) × (rule_name rule ≡ name)) ⊎ ((rule : Rule) → rule_name rule ≢ name)
rule_or_none name =
    elim (least (λ k. rule_name (get_or every_rule.0 k R.Exec) ≡ name) (λ k. same_bytes (rule_name (get_or every_rule.0 k R.Exec)) name) 51) [
      | inl (k, is) ↦ inl (get_or every_rule.0 k R.Exec, is.0)
      | inr none ↦ inr (λ rule is. none (rule_place rule) (rule_within rule) (ap rule_name (every_rule.1 rule R.Exec) ∙ is))
    ]

knows_or_not : (rule : Rule) (version : Version) → Decided (Knows rule version)
knows_or_not R.RecvOne One = inr (λ known. known)
knows_or_not R.RecvOne Two = inl tt
knows_or_not rule version = inl tt

-- where a rule of the name isn't known no other one is
pub not_known : (rule : Rule) (version : Version) (name : List ℕ) → rule_name rule ≡ name → (Knows rule version → ⊥) → (other : Rule) → Knows other version → rule_name other ≢ name
not_known rule version name is bars other known it =
    bars (subst (λ (r : Rule). Knows r version) (names_differ other rule (it ∙ sym is)) known)

-- a rule that is known in the version has the name, or none has it
pub known_or_none : (version : Version) (name : List ℕ) → ((rule : Rule) × Knows rule version × (rule_name rule ≡ name)) ⊎ ((rule : Rule) → Knows rule version → rule_name rule ≢ name)
known_or_none version name =
    elim (rule_or_none name) [
      | inr none ↦ inr (λ rule known. none rule)
      | inl (rule, is) ↦
          elim (knows_or_not rule version) [
            | inl known ↦ inl (rule, known, is)
            | inr bars ↦ inr (not_known rule version name is bars)
          ]
    ]

further : (r rule : Rule) (depth : ℕ) (rows : List (Rule × ℕ)) → (r ≡ rule → ⊥) → (HasRule rows rule → ⊥) → (k d : ℕ) → slice_get ((r, depth) ∷ rows) k ≡ Some (rule, d) → ⊥
further r rule depth rows other none zero d e = other (ap (λ (row : Rule × ℕ). row.0) (same_Some (r, depth) (rule, d) e))
further r rule depth rows other none (suc k) d e = none (k, d, e)

-- a trace has the rule or not
pub has_rule : (rows : List (Rule × ℕ)) (rule : Rule) → Decided (HasRule rows rule)
has_rule [] rule = inr (λ h. (let e = h.2 in cc))
has_rule ((r, depth) ∷ rows) rule =
    elim (same_rule r rule) [
      | inl same ↦ inl (0, depth, λ i. Some (same i, depth))
      | inr other ↦
          elim (has_rule rows rule) [
            | inl (k, d, is) ↦ inl (suc k, d, is)
            | inr none ↦ inr (λ h. further r rule depth rows other none h.0 h.1 h.2)
          ]
    ]

-- ---- operations

pub same_ops : (s t : List Id) → Decided (s ≡ t)
same_ops s t =
    decided (pointwise same_id s t) (slice_eq-Decides (λ i j. (same_id-true i j, λ same. ap (same_id i) (sym same) ∙ same_id-self i)) s t (pointwise same_id s t) refl)

-- ---- names in an event

abbrev AreNumbered : List (List ℕ) → List ℕ → Type 0
AreNumbered names name = (p : ℕ) × (p < length names) × (name_at names p ≡ name)

numbered : (names : List (List ℕ)) (name : List ℕ) (p : ℕ) → IsNamed names name p → AreNumbered names name
numbered names name p is = (p, slice_get_within names p name is, ap (λ (o : Option (List ℕ)). unwrap_or o []) is)

is_known : (names : List (List ℕ)) (name : List ℕ) (p : ℕ) → IsNamed names name p → Contains names name
is_known names name p is = (p, slice_get_within names p name is, get_or_from_slice_get names p name name is)

-- each of the names is a replica's
abbrev AllNumbered : List (List ℕ) → List Named → Type 0
AllNumbered names [] = Unit {0}
AllNumbered names (q ∷ qs) = AreNumbered names q.name × AllNumbered names qs

-- or there is a first one that no replica has
numbered_or_strange : (names : List (List ℕ)) (qs : List Named) → AllNumbered names qs ⊎ ((place : ℕ) × IsFirstStranger names qs place)
numbered_or_strange names [] = inl tt
numbered_or_strange names (q ∷ qs) =
    elim (named_or_strange names q.name) [
      | inr new ↦ inr (q.place, inl (new, refl))
      | inl (p, is) ↦
          elim (numbered_or_strange names qs) [
            | inl all ↦ inl (numbered names q.name p is, all)
            | inr (place, first) ↦ inr (place, inr (is_known names q.name p is, first))
          ]
    ]

resolved : (names : List (List ℕ)) (x : NamedEvent) → AllNumbered names (names_in_event x) → (event : Event) × IsResolved names x event
resolved names (N.Exec q) ((p, inside, is), none) = (E.Exec p, record { known = inside; called = ap executes is })
resolved names (N.Send q) ((p, inside, is), none) = (E.Send p, record { known = inside; called = ap sends is })
resolved names (N.Done q) ((p, inside, is), none) = (E.Done p, record { known = inside; called = ap ends is })
resolved names (N.Recv q s) ((p, inside, is), ((r, within, other), none)) = (E.Recv p r, record { known = (inside, within); called = λ i. receives (is i) (other i) })
resolved names (N.Take q s counter t) ((p, inside, is), ((r, within, other), ((o, under, third), none))) =
    (E.Take p r (record { counter = counter; replica = o }), record { known = (inside, within, under); called = λ i. takes (is i) (other i) counter (third i) })
resolved names (N.Apply q counter s) ((p, inside, is), ((r, within, other), none)) =
    (E.Apply p (record { counter = counter; replica = r }), record { known = (inside, within); called = λ i. applies (is i) counter (other i) })

-- an event by names is one by numbers, or it has a first name that no replica has
pub resolved_or_strange : (names : List (List ℕ)) (x : NamedEvent) → ((event : Event) × IsResolved names x event) ⊎ ((place : ℕ) × IsFirstStranger names (names_in_event x) place)
resolved_or_strange names x =
    elim (numbered_or_strange names (names_in_event x)) [
      | inl all ↦ inl (resolved names x all)
      | inr stranger ↦ inr stranger
    ]

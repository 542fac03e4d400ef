-- About Meaning: the inserts after one key, found one after another; and whether identifiers differ.
use Rattle.std.proofs.Common.{◌≡◌, ◌≢◌, ℕ, ◌+◌, ◌<◌, List, [], ◌∷◌, ◌++◌, length, take, get_or, Bool, true, false, ◌||◌, ◌&&◌, cond, Some, None, is_some, ◌↔◌, refl, sym, ◌∙◌, ap, subst}
use Rattle.std.specs.List.{AllByRecursion}
use Rattle.std.proofs.Math.Seq.{take-length}
use Rattle.std.proofs.lemmas.List.{take_more}
use Rattle.jc_rules.specs.declared.id.Id.{Id}
use Rattle.jc_rules.specs.declared.key.Key.{Key}
use Rattle.jc_rules.specs.declared.key.Tagged.{Tagged}
use Rattle.jc_rules.specs.declared.operation.Op.{Op}
use Rattle.jc_rules.specs.Order.{same_id}
use Rattle.jc_rules.specs.Ids.{has_id, with_id}
use Rattle.jc_rules.specs.WellFormed.{AreDistinct}
use Rattle.jc_rules.specs.Table.{op_of}
use Rattle.jc_rules.proofs.IdsLemmas.{has_id-with, same_id-true, same_id-self}
use Rattle.jc_rules.proofs.BoolLemmas.{none_of as none_is, and_true, or_false}
use Rattle.jc_replica.specs.Operations.{identifiers}
use Rattle.jc_meaning.specs.Meaning.{some_op, holds_of, names, hangs_at}
use Rattle.jc_meaning.proofs.ChainEndsLemmas.{some_more}

-- the insert with the identifier, among those after the key
abbrev pub is_named : List Tagged → Key → Id → Op → Bool
is_named P k i o = names P k o && same_id i o.id

-- none of these has the identifier
pub none_of : (i : Id) (os : List Op) → AllByRecursion (λ y. y ≢ i) (identifiers os) → op_of i os ≡ None
none_of i [] a = refl
none_of i (o ∷ os) a = go (same_id i o.id) refl (none_of i os a.1)
  where
    go : (b : Bool) → same_id i o.id ≡ b → op_of i os ≡ None → cond b (Some o) (op_of i os) ≡ None
    go true e h = absurd (a.0 (sym (same_id-true i o.id e)))
    go false e h = h

named_hangs : (P : List Tagged) (k : Key) (O : List Op) → AreDistinct (identifiers O) → (i : Id) → some_op (is_named P k i) O ≡ hangs_at O P k i
named_hangs P k [] d i = refl
named_hangs P k (o ∷ os) d i = go (same_id i o.id) refl (named_hangs P k os d.1 i)
  where
    and_none : (b c : Bool) → ((b && false) || c) ≡ c
    and_none true c = refl
    and_none false c = refl

    go : (b : Bool) → same_id i o.id ≡ b → some_op (is_named P k i) os ≡ hangs_at os P k i → ((names P k o && b) || some_op (is_named P k i) os) ≡ holds_of (names P k) (cond b (Some o) (op_of i os))
    go true e h =
        let absent : op_of i os ≡ None = ap (λ j. op_of j os) (same_id-true i o.id e) ∙ none_of o.id os d.0 in
        ap (λ b. (names P k o && true) || b) (h ∙ ap (holds_of (names P k)) absent) ∙ or_false (names P k o && true) ∙ and_true (names P k o)
    go false e h = and_none (names P k o) (some_op (is_named P k i) os) ∙ h

module _ (O : List Op) (P : List Tagged) (k : Key) (n : ℕ) (ids : List Id) (has : (i : Id) → has_id i ids ≡ some_op (is_named P k i) (take n O)) where
  pub all_named : n ≡ length O → AreDistinct (identifiers O) → (i : Id) → has_id i ids ≡ hangs_at O P k i
  all_named e d i = has i ∙ ap (some_op (is_named P k i)) (ap (λ m. take m O) e ∙ take-length O) ∙ named_hangs P k O d i

  module _ (o : Op) (h : n < length O) (e : o ≡ get_or O n o) where
    more : (i : Id) → some_op (is_named P k i) (take (n + 1) O) ≡ (some_op (is_named P k i) (take n O) || is_named P k i o)
    more i = ap (some_op (is_named P k i)) (take_more O n o h ∙ ap (λ u. take n O ++ u ∷ []) (sym e)) ∙ some_more (is_named P k i) (take n O) o

    turn : (a b : Bool) → (a || b) ≡ (b || a)
    turn true true = refl
    turn true false = refl
    turn false true = refl
    turn false false = refl

    pub one_named : names P k o ≡ true → (i : Id) → has_id i (with_id o.id ids) ≡ some_op (is_named P k i) (take (n + 1) O)
    one_named t i = has_id-with i o.id ids ∙ ap (λ b. same_id i o.id || b) (has i) ∙ turn (same_id i o.id) (some_op (is_named P k i) (take n O)) ∙ ap (λ b. some_op (is_named P k i) (take n O) || (b && same_id i o.id)) (sym t) ∙ sym (more i)

    pub not_named : names P k o ≡ false → (i : Id) → has_id i ids ≡ some_op (is_named P k i) (take (n + 1) O)
    not_named f i = has i ∙ sym (or_false (some_op (is_named P k i) (take n O))) ∙ ap (λ b. some_op (is_named P k i) (take n O) || (b && same_id i o.id)) (sym f) ∙ sym (more i)

-- ---- whether identifiers differ

others_differ : (i : Id) (os : List Op) → op_of i os ≡ None → AllByRecursion (λ y. y ≢ i) (identifiers os)
others_differ i [] h = tt
others_differ i (o ∷ os) h = go (same_id i o.id) refl (others_differ i os) h
  where
    go : (b : Bool) → same_id i o.id ≡ b → (op_of i os ≡ None → AllByRecursion (λ y. y ≢ i) (identifiers os)) → cond b (Some o) (op_of i os) ≡ None → AllByRecursion (λ y. y ≢ i) (identifiers (o ∷ os))
    go true e ih g = cc
    go false e ih g = (λ s. let yes : same_id i o.id ≡ true = ap (λ q. same_id i q) s ∙ same_id-self i in let z : true ≡ false = sym yes ∙ e in cc, ih g)

-- one has the first one's identifier
pub twice_there : (all rest later : List Op) (o : Op) → (AreDistinct (identifiers all) ↔ AreDistinct (identifiers rest)) → rest ≡ o ∷ later → is_some (op_of o.id later) ≡ true → AreDistinct (identifiers all) → ⊥
twice_there all rest later o both e some d =
    let here : AreDistinct (identifiers (o ∷ later)) = subst (λ os. AreDistinct (identifiers os)) e (both.0 d) in
    let z : true ≡ false = sym some ∙ ap is_some (none_of o.id later here.0) in
    cc

-- none has it
pub distinct_on : (all rest later : List Op) (o : Op) → (AreDistinct (identifiers all) ↔ AreDistinct (identifiers rest)) → rest ≡ o ∷ later → is_some (op_of o.id later) ≡ false → (AreDistinct (identifiers all) ↔ AreDistinct (identifiers later))
distinct_on all rest later o both e some = (
  λ d. let here : AreDistinct (identifiers (o ∷ later)) = subst (λ os. AreDistinct (identifiers os)) e (both.0 d) in here.1,
  λ d. both.1 (subst (λ os. AreDistinct (identifiers os)) (sym e) (others_differ o.id later (none_is (op_of o.id later) some), d)),
)

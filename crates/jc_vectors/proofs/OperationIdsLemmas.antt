-- About specs/OperationIds.
use Rattle.std.proofs.Common.{◌≡◌, List, [], ◌∷◌, Bool, true, false, ◌||◌, Some, refl, sym, ◌∙◌, ap}
use Rattle.jc_rules.specs.declared.id.Id.{Id}
use Rattle.jc_rules.specs.declared.operation.Op.{Op}
use Rattle.jc_rules.specs.Order.{same_id}
use Rattle.jc_rules.specs.Ids.{AreRising, has_id}
use Rattle.jc_rules.specs.Table.{op_of}
use Rattle.jc_rules.proofs.IdsLemmas.{has_id-with, with-rises, same_members}
use Rattle.jc_rules.specs.VersionVectors.{covered, greatest_of}
use Rattle.jc_rules.specs.Representation.{IsCausallyClosed, Represents}
use Rattle.jc_vectors.specs.OperationIds.{ids_of_ops, ids_within}
use Rattle.jc_vectors.specs.KnownIds.{Agree}
use Rattle.jc_rules.specs.Sound.{IsSound}
use Rattle.jc_rules.proofs.CoveredLemmas.{left_in, in_filled, filled_in, same_filled, greatest_of-filled}
use Rattle.jc_rules.proofs.WithdrawLemmas.{in_filter, filter_in, filter-rises}
use Rattle.jc_rules.proofs.RepresentationLemmas.{contains_stands, counts}
use Rattle.jc_rules.proofs.RepresentationLemmas as standing
use Rattle.jc_rules.proofs.WithdrawLemmas.{lowered-inserted}
use Rattle.jc_vectors.specs.Laws.{CountersTell, WithinIs, InsertedWithdrawn}
use Rattle.jc_rules.proofs.BoolLemmas.{no_truth, or_right, same_tests}

-- an identifier of the set is that of one of its operations
pub of_operation : (i : Id) (set : List Op) → has_id i (ids_of_ops set) ≡ true → (o : Op) × (op_of i set ≡ Some o)
of_operation i [] h = no_truth h
of_operation i (e ∷ set) h = go (same_id i e.id) refl (of_operation i set)
  where
    further : ((o : Op) × (op_of i set ≡ Some o)) → same_id i e.id ≡ false → (o : Op) × (op_of i (e ∷ set) ≡ Some o)
    further t p = (t.0, rw p t.1)

    go : (b : Bool) → same_id i e.id ≡ b → (has_id i (ids_of_ops set) ≡ true → (o : Op) × (op_of i set ≡ Some o)) → (o : Op) × (op_of i (e ∷ set) ≡ Some o)
    go true p ih = (e, rw p refl)
    go false p ih =
        let both : same_id i e.id || has_id i (ids_of_ops set) ≡ true = sym (has_id-with i e.id (ids_of_ops set)) ∙ h in
        let rest : has_id i (ids_of_ops set) ≡ true = rw p at both in
        further (ih rest) p

pub operation_of : (i : Id) (set : List Op) (o : Op) → op_of i set ≡ Some o → has_id i (ids_of_ops set) ≡ true
operation_of i [] o h = absurd (let f : ⊥ = cc in f)
operation_of i (e ∷ set) o h = has_id-with i e.id (ids_of_ops set) ∙ go (same_id i e.id) refl (operation_of i set o)
  where
    go : (b : Bool) → same_id i e.id ≡ b → (op_of i set ≡ Some o → has_id i (ids_of_ops set) ≡ true) → same_id i e.id || has_id i (ids_of_ops set) ≡ true
    go true p ih = left_in (same_id i e.id) (has_id i (ids_of_ops set)) p
    go false p ih = or_right (same_id i e.id) (has_id i (ids_of_ops set)) (ih (rw p at h))

-- what is stood for and the greatest counters agree on identifiers of the set
pub stands_agree : (set : List Op) (s v : List Id) → Represents set s v → Agree (ids_of_ops set) v s
stands_agree set s v h i e = let t = of_operation i set e in contains_stands set s v i t.0 h t.1

-- greatest counters stand for one set
pub one_set : (set : List Op) (s t : List Id) → IsSound set → IsCausallyClosed set s → IsCausallyClosed set t → covered s ≡ covered t → s ≡ t
one_set set s t sound a b e = same_members s t a.rises b.rises (λ k. same_tests (has_id k s) (has_id k t) (over s t a b e k) (over t s b a (sym e) k))
  where
    over : (x y : List Id) → IsCausallyClosed set x → IsCausallyClosed set y → covered x ≡ covered y → (k : Id) → has_id k x ≡ true → has_id k y ≡ true
    over x y c d f k h =
        let o = c.known k h in
        let one = standing.counters_tell set x sound c k o.0 o.1 in
        let two = standing.counters_tell set y sound d k o.0 o.1 in
        sym two ∙ ap (λ (z : List Id). has_id k z) (sym f) ∙ one ∙ h

pub ids-rise : (set : List Op) → AreRising (ids_of_ops set)
ids-rise [] = tt
ids-rise (o ∷ set) = with-rises o.id (ids_of_ops set) (ids-rise set)

pub within_is : WithinIs
within_is set s sound closed = same_members (ids_within set (covered s)) s (filter-rises test (ids_of_ops set) (ids-rise set)) closed.rises (λ k. same_tests (has_id k (ids_within set (covered s))) (has_id k s) (down k) (up k))
  where
    test : Id → Bool
    test = λ i. has_id i (covered s)

    down : (k : Id) → has_id k (ids_within set (covered s)) ≡ true → has_id k s ≡ true
    down k h =
        let t = in_filter test k (ids_of_ops set) h in
        let o = of_operation k set t.0 in
        sym (standing.counters_tell set s sound closed k o.0 o.1) ∙ t.1

    up : (k : Id) → has_id k s ≡ true → has_id k (ids_within set (covered s)) ≡ true
    up k h =
        let o = closed.known k h in
        filter_in test k (ids_of_ops set) (operation_of k set o.0 o.1) (standing.counters_tell set s sound closed k o.0 o.1 ∙ h)

pub counters_tell : CountersTell
counters_tell set s sound closed i o h =
    let same = standing.counters_tell set s sound closed i o h in
    (λ e. (in_filled i s (same ∙ e)).1, λ l. sym same ∙ filled_in i s (counts set i o sound h) l)

pub inserted_withdrawn : InsertedWithdrawn
inserted_withdrawn i s t e l =
    let whole : t ≡ covered t = e ∙ same_filled s (covered s) (λ p. sym (greatest_of-filled p s)) ∙ ap (λ (x : List Id). covered x) (sym e) in
    lowered-inserted i t (greatest_of i.replica t) whole refl l

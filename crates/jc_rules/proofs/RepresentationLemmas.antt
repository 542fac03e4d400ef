-- About specs/Representation: version vectors of causally closed sets.
use Rattle.std.proofs.Common.{◌≡◌, ℕ, suc, ◌<◌, ◌≤◌, List, [], ◌∷◌, Bool, true, false, ◌⊎◌, inl, inr, leb, leb-true, leb-false, Some, refl, sym, ◌∙◌, ap, arith}
use Rattle.std.specs.Prelude.{Contains, ◌↔◌}
use Rattle.jc_rules.specs.declared.id.Id.{Id}
use Rattle.jc_rules.specs.declared.operation.Op.{Op}
use Rattle.jc_rules.specs.Order.{same_id}
use Rattle.jc_rules.specs.Ids.{has_id, with_id, union, greatest, AreIn}
use Rattle.jc_rules.specs.Table.{op_of}
use Rattle.jc_rules.specs.Sound.{IsSound}
use Rattle.jc_rules.proofs.IdsLemmas.{same_id-true, has_id-with, with-rises}
use Rattle.jc_rules.specs.VersionVectors.{ids_up_to, covered, greatest_of}
use Rattle.jc_rules.specs.Representation.{IsCausallyClosed, Represents}
use Rattle.jc_rules.proofs.IdSetLemmas.{greatest-filled}
use Rattle.jc_rules.proofs.CoveredLemmas.{same_parts, in_filled, filled_in, reached, member_below, filled-with, filled_subset, greatest_least, greatest_of-filled}
use Rattle.jc_rules.proofs.BoolLemmas.{or_cases, or_right, same_tests}

-- the operation that was looked up
pub looked_up : (i : Id) (set : List Op) (o : Op) → op_of i set ≡ Some o → (o.id ≡ i) × Contains set o
looked_up i [] o h = absurd (let f : ⊥ = cc in f)
looked_up i (e ∷ set) o h = go (same_id i e.id) refl (looked_up i set o) h
  where
    further : (set : List Op) → Contains set o → Contains (e ∷ set) o
    further set c = (suc c.0, (let l = c.1 in omega arith), c.2)

    go : (b : Bool) → same_id i e.id ≡ b → (op_of i set ≡ Some o → (o.id ≡ i) × Contains set o) → op_of i (e ∷ set) ≡ Some o → (o.id ≡ i) × Contains (e ∷ set) o
    go true p ih g =
        let found : Some e ≡ Some o = rw p at g in
        let is : e ≡ o = cc in
        let same : i ≡ e.id = same_id-true i e.id p in
        (ap (λ (x : Op). x.id) (sym is) ∙ sym same, (0, (omega arith), is))
    go false p ih g = let t = ih (rw p at g) in (t.0, further set t.1)

-- a counter of the set is at least 1
pub counts : (set : List Op) (i : Id) (o : Op) → IsSound set → op_of i set ≡ Some o → 1 ≤ i.counter
counts set i o sound h =
    let t = looked_up i set o h in
    let c = sound.counted o t.1 in
    let e : o.id.counter ≡ i.counter = ap (λ (x : Id). x.counter) t.0 in
    omega arith

-- an earlier one of the same replica is there too
earlier : (set : List Op) (s : List Id) → IsSound set → IsCausallyClosed set s → (i j : Id) (o : Op) → op_of i set ≡ Some o → has_id j s ≡ true → i.replica ≡ j.replica → i.counter ≤ j.counter → has_id i s ≡ true
earlier set s sound closed i j o h there r l = go (leb j.counter i.counter) refl
  where
    go : (b : Bool) → leb j.counter i.counter ≡ b → has_id i s ≡ true
    go true e =
        let m = leb-true j.counter i.counter e in
        let same : i ≡ j = same_parts i j (omega arith) r in
        rw same there
    go false e =
        let m : i.counter < j.counter = leb-false j.counter i.counter e in
        let found = closed.known j there in
        let a = looked_up i set o h in
        let b = looked_up j set found.0 found.1 in
        let ci : o.id.counter ≡ i.counter = ap (λ (x : Id). x.counter) a.0 in
        let cj : found.0.id.counter ≡ j.counter = ap (λ (x : Id). x.counter) b.0 in
        let ri : o.id.replica ≡ i.replica = ap (λ (x : Id). x.replica) a.0 in
        let rj : found.0.id.replica ≡ j.replica = ap (λ (x : Id). x.replica) b.0 in
        let dep : has_id o.id found.0.deps ≡ true = sound.in_order o found.0 a.1 b.1 (ri ∙ r ∙ sym rj) (omega arith) in
        let dep_i : has_id i found.0.deps ≡ true = rw a.0 at dep in
        closed.closed j found.0 there found.1 i dep_i

-- greatest counters tell what is in a causally closed set
pub counters_tell : (set : List Op) (s : List Id) → IsSound set → IsCausallyClosed set s → (i : Id) (o : Op) → op_of i set ≡ Some o → has_id i (covered s) ≡ has_id i s
counters_tell set s sound closed i o h = same_tests (has_id i (covered s)) (has_id i s) down up
  where
    down : has_id i (covered s) ≡ true → has_id i s ≡ true
    down e =
        let t = in_filled i s e in
        let l = t.0 in
        let m = t.1 in
        earlier set s sound closed i (record { counter = greatest_of i.replica s; replica = i.replica }) o h (reached i.replica s (omega arith)) refl m

    up : has_id i s ≡ true → has_id i (covered s) ≡ true
    up e = filled_in i s (counts set i o sound h) (member_below i s e)

-- an operation whose dependencies are there comes in
pub closed_with : (set : List Op) (s : List Id) (i : Id) (o : Op) → IsCausallyClosed set s → op_of i set ≡ Some o → AreIn o.deps s → IsCausallyClosed set (with_id i s)
closed_with set s i o closed h deps = record {
  rises = with-rises i s closed.rises;
  known = λ j e. known j (or_cases (same_id j i) (has_id j s) (sym (has_id-with j i s) ∙ e));
  closed = λ j p e g. inside j p g (or_cases (same_id j i) (has_id j s) (sym (has_id-with j i s) ∙ e));
}
  where
    known : (j : Id) → (same_id j i ≡ true) ⊎ (has_id j s ≡ true) → (p : Op) × (op_of j set ≡ Some p)
    known j (inl e) = let q : j ≡ i = same_id-true j i e in (o, rw q h)
    known j (inr e) = closed.known j e

    wider : (k : Id) → has_id k s ≡ true → has_id k (with_id i s) ≡ true
    wider k e = has_id-with k i s ∙ or_right (same_id k i) (has_id k s) e

    inside : (j : Id) (p : Op) → op_of j set ≡ Some p → (same_id j i ≡ true) ⊎ (has_id j s ≡ true) → AreIn p.deps (with_id i s)
    inside j p g (inl e) k d =
        let q : j ≡ i = same_id-true j i e in
        let two : Some p ≡ Some o = sym g ∙ ap (λ (x : Id). op_of x set) q ∙ h in
        let same : p ≡ o = cc in
        let d2 : has_id k o.deps ≡ true = rw same at d in
        wider k (deps k d2)
    inside j p g (inr e) k d = wider k (closed.closed j p e g k d)

-- an inserted operation
pub stands-inserted : (set : List Op) (s counters new : List Id) (i : Id) (o : Op) → Represents set s counters → op_of i set ≡ Some o → AreIn o.deps s → new ≡ union (ids_up_to i.replica i.counter) counters → Represents set (with_id i s) new
stands-inserted set s counters new i o h f deps e = record {
  sound = h.sound;
  closed = closed_with set s i o h.closed f deps;
  is = e ∙ ap (λ (c : List Id). union (ids_up_to i.replica i.counter) c) h.is ∙ sym (filled-with i s);
}

-- what is in one of two causally closed sets and in the other
pub subset_both : (set : List Op) (s t : List Id) → IsSound set → IsCausallyClosed set s → IsCausallyClosed set t → AreIn (covered s) (covered t) ↔ AreIn s t
subset_both set s t sound a b = (down, up)
  where
    down : AreIn (covered s) (covered t) → AreIn s t
    down h i e =
        let found = a.known i e in
        let one = counters_tell set s sound a i found.0 found.1 in
        let two = counters_tell set t sound b i found.0 found.1 in
        sym two ∙ h i (one ∙ e)

    up : AreIn s t → AreIn (covered s) (covered t)
    up h = filled_subset s t (λ p. greatest_least p (greatest_of p t) s (λ k e r. let m = member_below k t (h k e) in rw r at m))

-- what the calls say of a set that is stood for
pub contains_stands : (set : List Op) (s v : List Id) (i : Id) (o : Op) → Represents set s v → op_of i set ≡ Some o → has_id i v ≡ has_id i s
contains_stands set s v i o h e = ap (λ (x : List Id). has_id i x) h.is ∙ counters_tell set s h.sound h.closed i o e

pub subset_stands : (set : List Op) (s t v w : List Id) → Represents set s v → Represents set t w → AreIn v w ↔ AreIn s t
subset_stands set s t v w h g =
    let both = subset_both set s t h.sound h.closed g.closed in
    ((λ e. both.0 (λ i f. sym (ap (λ (x : List Id). has_id i x) g.is) ∙ e i (ap (λ (x : List Id). has_id i x) h.is ∙ f))), (λ e i f. ap (λ (x : List Id). has_id i x) g.is ∙ both.1 e i (sym (ap (λ (x : List Id). has_id i x) h.is) ∙ f)))

pub greatest_of_stands : (set : List Op) (s v : List Id) (p : ℕ) → Represents set s v → greatest_of p v ≡ greatest_of p s
greatest_of_stands set s v p h = ap (λ (x : List Id). greatest_of p x) h.is ∙ greatest_of-filled p s

pub greatest_stands : (set : List Op) (s v : List Id) → Represents set s v → greatest v ≡ greatest s
greatest_stands set s v h = ap (λ (x : List Id). greatest x) h.is ∙ greatest-filled s

-- Lemmas about Received: up to which counter a sender's operations are complete.
use Rattle.std.proofs.Common.{◌≡◌, ℕ, zero, suc, ◌-◌, length-drop, ◌≤◌, ◌<◌, List, [], ◌∷◌, ◌++◌, length, take, drop, remove, slice_get, get_or, unwrap_or, filter, Option, Some, None, Result, Ok, Err, Bool, true, false, not, ◌||◌, eqb, leb, eqb-true, eq-eqb, leb-true, le-leb, max, ◌⊎◌, inl, inr, refl, sym, ◌∙◌, ap, subst, arith}
use Rattle.std.proofs.Math.Nat.{eq-or-lt_of_le}
use Rattle.std.proofs.lemmas.Bool.{cases_lt}
use Rattle.std.proofs.lemmas.Option.{slice_get_past}
use Rattle.std.proofs.lemmas.List.{take_all}
use Rattle.std.specs.declared.cmp.Ordering.TheVariants.{Less, Equal}
use Rattle.std.specs.List.{AllByRecursion}
use Rattle.jc_rules.specs.declared.id.Id.{Id}
use Rattle.jc_rules.specs.declared.operation.Op.{Op}
use Rattle.jc_rules.specs.Order.{id_cmp, same_id}
use Rattle.jc_rules.specs.VersionVectors.{covered, ids_up_to, greatest_of, truncated}
use Rattle.jc_rules.specs.Ids.{AreRising, has_id, union}
use Rattle.jc_rules.specs.Sound.{IsSound}
use Rattle.jc_rules.specs.Table.{op_of, both}
use Rattle.jc_rules.proofs.IdsLemmas.{same_id-true, same_id-self, equal_itself, same_members}
use Rattle.jc_rules.proofs.CoveredLemmas.{same_parts, member_below, reached, in_filled, filled_in, filled-rises, same_filled, greatest_least, greatest_of-filled, greatest_here, greatest_there}
use Rattle.jc_rules.proofs.WithdrawLemmas.{in_filter, filter_in, filter-rises}
use Rattle.jc_rules.proofs.RepresentationLemmas.{looked_up, counts}
use Rattle.jc_vectors.specs.StoredStates.{stored_op}
use Rattle.jc_replica.specs.Operations.{identifiers, AreInOrder, AreOwn}
use Rattle.jc_replica.specs.Received.{IsOpAt, IsOpPlace, AreKeptOf, AreAmong, HasEach, IsContiguousTo, none, more, IsKeptList, is_new}
use Rattle.jc_replica.specs.Undo.{without_ops}
use Rattle.jc_replica.proofs.ReceivedUnionLemmas.{taken_out, filter-in_order, filter_all, drop-in_order, all_filter, all_drop, found_all, there_found, not_there_absent, found_both, both-there, both-append, both-new, both-in_order, there_both}
use Rattle.jc_rules.proofs.BoolLemmas.{no_truth, or_right, same_tests}

pub found_in : (P : Op → Type 0) (i : Id) (os : List Op) (o : Op) → AllByRecursion P os → op_of i os ≡ Some o → P o
found_in P i [] o a e = absurd (let f : ⊥ = cc in f)
found_in P i (p ∷ os) o a e = go (same_id i p.id) refl (found_in P i os o a.1)
  where
    go : (b : Bool) → same_id i p.id ≡ b → (op_of i os ≡ Some o → P o) → P o
    go true q ih =
        let two : Some p ≡ Some o = rw q at e in
        let same : p ≡ o = cc in
        subst P same a.0
    go false q ih = ih (rw q at e)

-- In a sound set that the operations are of, all of the replica's own up to the counter are among them.
pub whole_has : (set : List Op) (q : ℕ) (os : List Op) → IsSound set → AreKeptOf set os → {n : ℕ} → IsContiguousTo q os n → (e : Op) → op_of e.id set ≡ Some e → e.id.replica ≡ q → e.id.counter ≤ n → has_id e.id (identifiers os) ≡ true
whole_has set q os sound kept none e of own l = let c = counts set e.id e sound of in absurd (omega arith)
whole_has set q os sound kept (more {n = n} {o = o} found earlier rest) e of own l = go (eq-or-lt_of_le l) (whole_has set q os sound kept rest e of own)
  where
    go : (e.id.counter ≡ n) ⊎ (e.id.counter < n) → (e.id.counter ≤ greatest_of q o.deps → has_id e.id (identifiers os) ≡ true) → has_id e.id (identifiers os) ≡ true
    go (inl c) ih =
        let same : e.id ≡ record { counter = n; replica = q } = same_parts e.id (record { counter = n; replica = q }) c own in
        rw same (there_found (record { counter = n; replica = q }) os o found)
    go (inr c) ih =
        let k = found_in (λ p. (x : Op) × (op_of p.id set ≡ Some x) × (p ≡ stored_op x)) (record { counter = n; replica = q }) os o kept found in
        let x : Op = k.0 in
        let at : o.id ≡ record { counter = n; replica = q } = (looked_up (record { counter = n; replica = q }) os o found).0 in
        let there = looked_up o.id set x k.1 in
        let xi : x.id ≡ record { counter = n; replica = q } = there.0 ∙ at in
        let replica : e.id.replica ≡ x.id.replica = own ∙ sym (ap (λ (i : Id). i.replica) xi) in
        let xc : x.id.counter ≡ n = ap (λ (i : Id). i.counter) xi in
        let depends : has_id e.id x.deps ≡ true = sound.in_order e x (looked_up e.id set e of).1 there.1 replica (omega (arith, xc)) in
        let below : e.id.counter ≤ greatest_of e.id.replica x.deps = member_below e.id x.deps depends in
        let deps : o.deps ≡ covered x.deps = ap (λ (p : Op). p.deps) k.2 in
        let most : greatest_of q o.deps ≡ greatest_of q x.deps = ap (greatest_of q) deps ∙ greatest_of-filled q x.deps in
        let at_q : greatest_of e.id.replica x.deps ≡ greatest_of q x.deps = ap (λ (r : ℕ). greatest_of r x.deps) own in
        ih (omega arith)

-- One more of the replica's own, which depends on what is there, and the next nearest.
pub whole_more : (q last : ℕ) (o : Op) (os : List Op) → o.id.replica ≡ q → op_of o.id os ≡ Some o → greatest_of q o.deps ≡ last → last < o.id.counter → IsContiguousTo q os last → IsContiguousTo q os o.id.counter
whole_more q last o os own found nearest l whole =
    let at : o.id ≡ record { counter = o.id.counter; replica = q } = same_parts o.id (record { counter = o.id.counter; replica = q }) refl own in
    more (ap (λ (i : Id). op_of i os) (sym at) ∙ found) (omega (arith, nearest)) (subst (IsContiguousTo q os) (sym nearest) whole)

-- it is so of a list that has more
pub whole_on : (q : ℕ) (os ps : List Op) → ((i : Id) (o : Op) → op_of i os ≡ Some o → op_of i ps ≡ Some o) → {n : ℕ} → IsContiguousTo q os n → IsContiguousTo q ps n
whole_on q os ps stays none = none
whole_on q os ps stays (more {n = n} {o = o} found earlier rest) = more (stays (record { counter = n; replica = q }) o found) earlier (whole_on q os ps stays rest)

-- and of a list without an operation that isn't among these
found_without : (i j : Id) (os : List Op) (o : Op) → same_id j i ≡ false → op_of j os ≡ Some o → op_of j (without_ops (i ∷ []) os) ≡ Some o
found_without i j [] o d e = e
found_without i j (p ∷ os) o d e = go (same_id j p.id) refl (same_id p.id i) refl (found_without i j os o d)
  where
    go : (b : Bool) → same_id j p.id ≡ b → (c : Bool) → same_id p.id i ≡ c → (op_of j os ≡ Some o → op_of j (without_ops (i ∷ []) os) ≡ Some o) → op_of j (without_ops (i ∷ []) (p ∷ os)) ≡ Some o
    go true f true g ih =
        let same : j ≡ p.id = same_id-true j p.id f in
        let no : true ≡ false = sym g ∙ sym (ap (λ (k : Id). same_id k i) same) ∙ d in
        no_truth (sym no)
    go true f false g ih = let two : Some p ≡ Some o = rw f at e in rw (g, f) two
    go false f true g ih = rw g (ih (rw f at e))
    go false f false g ih = rw (g, f) (ih (rw f at e))

pub whole_without : (q : ℕ) (i : Id) (os : List Op) → {n : ℕ} → ((m : ℕ) → m ≤ n → same_id (record { counter = m; replica = q }) i ≡ false) → IsContiguousTo q os n → IsContiguousTo q (without_ops (i ∷ []) os) n
whole_without q i os apart none = none
whole_without q i os apart (more {n = n} {o = o} found earlier rest) =
    more (found_without i (record { counter = n; replica = q }) os o (apart n (omega arith)) found) earlier (whole_without q i os (λ m l. apart m (omega arith)) rest)

-- what its replica offers again is there
skipped : (set : List Op) (q last : ℕ) (os ps : List Op) → IsSound set → AreKeptOf set os → AreKeptOf set ps → AreOwn q ps → AllByRecursion (λ p. p.id.counter ≤ last) ps → IsContiguousTo q os last → AllByRecursion (λ p. has_id p.id (identifiers os) ≡ true) ps
skipped set q last os [] sound kept of own low whole = tt
skipped set q last os (p ∷ ps) sound kept of own low whole = (one of.0, skipped set q last os ps sound kept of.1 own.1 low.1 whole)
  where
    one : ((x : Op) × (op_of p.id set ≡ Some x) × (p ≡ stored_op x)) → has_id p.id (identifiers os) ≡ true
    one k =
        let x : Op = k.0 in
        let same : x.id ≡ p.id = (looked_up p.id set x k.1).0 in
        let of_x : op_of x.id set ≡ Some x = ap (λ (i : Id). op_of i set) same ∙ k.1 in
        let own_x : x.id.replica ≡ q = ap (λ (i : Id). i.replica) same ∙ own.0 in
        let at : x.id.counter ≡ p.id.counter = ap (λ (i : Id). i.counter) same in
        let l = low.0 in
        ap (λ (i : Id). has_id i (identifiers os)) (sym same) ∙ whole_has set q os sound kept whole x of_x own_x (omega arith)

all_take : {X : Type 0} (P : X → Type 0) (n : ℕ) (xs : List X) → AllByRecursion P xs → AllByRecursion P (take n xs)
all_take P zero xs a = tt
all_take P (suc n) [] a = tt
all_take P (suc n) (x ∷ xs) a = (a.0, all_take P n xs a.1)

pub take-drop : {X : Type 0} (n : ℕ) (xs : List X) → take n xs ++ drop n xs ≡ xs
take-drop zero xs = refl
take-drop (suc n) [] = refl
take-drop {X} (suc n) (x ∷ xs) = ap (λ (ys : List X). x ∷ ys) (take-drop n xs)

more_there : (os qs ps : List Op) → AllByRecursion (λ p. has_id p.id (identifiers os) ≡ true) ps → AllByRecursion (λ p. has_id p.id (identifiers (both os qs)) ≡ true) ps
more_there os qs [] a = tt
more_there os qs (p ∷ ps) a = (there_both p.id os qs a.0, more_there os qs ps a.1)

-- So uniting with what comes after that is uniting with all.
pub united : (set : List Op) (q last n : ℕ) (os ps : List Op) → AreInOrder os → IsSound set → AreKeptOf set os → AreKeptOf set ps → AreOwn q ps → AllByRecursion (λ p. p.id.counter ≤ last) (take n ps) → IsContiguousTo q os last → both os (filter (is_new os) (drop n ps)) ≡ both os ps
united set q last n os ps order sound kept of own low whole =
    let front = take n ps in
    let rest = drop n ps in
    let there = skipped set q last os front sound kept (all_take (λ k. (o : Op) × (op_of k.id set ≡ Some o) × (k ≡ stored_op o)) n ps of) (all_take (λ p. p.id.replica ≡ q) n ps own) low whole in
    sym (both-new os rest order)
    ∙ sym (both-there (both os rest) front (both-in_order os rest order) (more_there os rest front there))
    ∙ sym (both-append os front rest)
    ∙ ap (both os) (take-drop n ps)

-- nothing is missing where nothing is
pub none_whole : IsKeptList [] []
none_whole = record { order = tt; filled = refl; missing = λ q. none }

-- version vectors

filled_again : (s : List Id) → covered (covered s) ≡ covered s
filled_again s = same_filled (covered s) s (λ p. greatest_of-filled p s)

-- with one inserted
inserted_is : (i : Id) (s : List Id) → s ≡ covered s → union (ids_up_to i.replica i.counter) s ≡ covered (i ∷ s)
inserted_is i s e = ap (λ (t : List Id). union (ids_up_to i.replica i.counter) t) e

pub inserted_filled : (i : Id) (s new : List Id) → s ≡ covered s → new ≡ union (ids_up_to i.replica i.counter) s → new ≡ covered new
inserted_filled i s new e n =
    let is : new ≡ covered (i ∷ s) = n ∙ inserted_is i s e in
    is ∙ sym (filled_again (i ∷ s)) ∙ ap covered (sym is)

-- Where nothing was missing, nothing is with one replica's counter raised to where nothing of its own is missing.
pub inserted_whole : (q n : ℕ) (s new : List Id) (os : List Op) → s ≡ covered s → new ≡ union (ids_up_to q n) s → ((r : ℕ) → IsContiguousTo r os (greatest_of r s)) → IsContiguousTo q os n → (r : ℕ) → IsContiguousTo r os (greatest_of r new)
inserted_whole q n s new os e ne before now r = subst (IsContiguousTo r os) (sym most) (go (eqb q r) refl)
  where
    i : Id
    i = record { counter = n; replica = q }

    most : greatest_of r new ≡ greatest_of r (record { counter = n; replica = q } ∷ s)
    most = ap (greatest_of r) (ne ∙ inserted_is (record { counter = n; replica = q }) s e) ∙ greatest_of-filled r (record { counter = n; replica = q } ∷ s)

    go : (b : Bool) → eqb q r ≡ b → IsContiguousTo r os (greatest_of r (record { counter = n; replica = q } ∷ s))
    go false f = subst (IsContiguousTo r os) (sym (greatest_there (record { counter = n; replica = q }) s r f)) (before r)
    go true f =
        let same : q ≡ r = eqb-true q r f in
        let here : IsContiguousTo r os n = subst (λ (p : ℕ). IsContiguousTo p os n) same now in
        let is = greatest_here (record { counter = n; replica = q }) s r same in
        subst (IsContiguousTo r os) (sym is) (pick here (cases_lt n (greatest_of r s)))
      where
        pick : IsContiguousTo r os n → (n < greatest_of r s) ⊎ (greatest_of r s ≤ n) → IsContiguousTo r os (max n (greatest_of r s))
        pick here (inl l) = let m : greatest_of r s ≡ max n (greatest_of r s) = omega arith in subst (IsContiguousTo r os) m (before r)
        pick here (inr l) = let m : n ≡ max n (greatest_of r s) = omega arith in subst (IsContiguousTo r os) m here

-- with one replica's lowered
module _ (p n : ℕ) (s : List Id) (e : s ≡ covered s) where
  test : Id → Bool
  test = λ i. not (eqb i.replica p) || leb i.counter n

  lowered_down : (k : Id) → has_id k (truncated p n s) ≡ true → has_id k (covered (truncated p n s)) ≡ true
  lowered_down k h =
      let t = in_filter (λ i. not (eqb i.replica p) || leb i.counter n) k s h in
      let f = in_filled k s (subst (λ (x : List Id). has_id k x ≡ true) e t.0) in
      filled_in k (truncated p n s) f.0 (member_below k (truncated p n s) h)

  lowered_up : (k : Id) → has_id k (covered (truncated p n s)) ≡ true → has_id k (truncated p n s) ≡ true
  lowered_up k h =
      let f = in_filled k (truncated p n s) h in
      let least = f.0 in
      let most = f.1 in
      let at = reached k.replica (truncated p n s) (omega arith) in
      let top : Id = record { counter = greatest_of k.replica (truncated p n s); replica = k.replica } in
      let t = in_filter (λ i. not (eqb i.replica p) || leb i.counter n) top s at in
      let below = member_below top s t.0 in
      let there : has_id k s ≡ true = subst (λ (x : List Id). has_id k x ≡ true) (sym e) (filled_in k s least (omega arith)) in
      filter_in (λ i. not (eqb i.replica p) || leb i.counter n) k s there (passes (eqb k.replica p) refl (greatest_of k.replica (truncated p n s)) t.1 most)
    where
      passes : (b : Bool) → eqb k.replica p ≡ b → (g : ℕ) → not (eqb k.replica p) || leb g n ≡ true → k.counter ≤ g → not (eqb k.replica p) || leb k.counter n ≡ true
      passes false q g t l = rw q refl
      passes true q g t l =
          let low : leb g n ≡ true = rw q at t in
          let m : g ≤ n = leb-true g n low in
          rw q (le-leb k.counter n (omega arith))

  pub lowered_filled : truncated p n s ≡ covered (truncated p n s)
  lowered_filled =
      same_members (truncated p n s) (covered (truncated p n s))
      (filter-rises (λ i. not (eqb i.replica p) || leb i.counter n) s (subst (λ (x : List Id). AreRising x) (sym e) (filled-rises s))) (filled-rises (truncated p n s))
      (λ k. same_tests (has_id k (truncated p n s)) (has_id k (covered (truncated p n s))) (lowered_down k) (lowered_up k))

  -- of another replica it is as it was
  lowered_other : (r : ℕ) → eqb r p ≡ false → greatest_of r (truncated p n s) ≡ greatest_of r s
  lowered_other r d =
      let down : greatest_of r (truncated p n s) ≤ greatest_of r s = greatest_least r (greatest_of r s) (truncated p n s) (λ k h re. low k re (in_filter (λ i. not (eqb i.replica p) || leb i.counter n) k s h).0) in
      let up : greatest_of r s ≤ greatest_of r (truncated p n s) = greatest_least r (greatest_of r (truncated p n s)) s (λ k h re. high k re h) in
      omega arith
    where
      low : (k : Id) → k.replica ≡ r → has_id k s ≡ true → k.counter ≤ greatest_of r s
      low k re h = subst (λ (x : ℕ). k.counter ≤ greatest_of x s) re (member_below k s h)

      high : (k : Id) → k.replica ≡ r → has_id k s ≡ true → k.counter ≤ greatest_of r (truncated p n s)
      high k re h =
          let f : eqb k.replica p ≡ false = ap (λ (x : ℕ). eqb x p) re ∙ d in
          let passes : not (eqb k.replica p) || leb k.counter n ≡ true = rw f refl in
          subst (λ (x : ℕ). k.counter ≤ greatest_of x (truncated p n s)) re (member_below k (truncated p n s) (filter_in (λ i. not (eqb i.replica p) || leb i.counter n) k s h passes))

  -- of its own it is the counter
  lowered_own : n ≤ greatest_of p s → greatest_of p (truncated p n s) ≡ n
  lowered_own l =
      let down : greatest_of p (truncated p n s) ≤ n = greatest_least p n (truncated p n s) (λ k h re. low k re (in_filter (λ i. not (eqb i.replica p) || leb i.counter n) k s h).1) in
      let up : n ≤ greatest_of p (truncated p n s) = reaches n refl in
      omega arith
    where
      low : (k : Id) → k.replica ≡ p → not (eqb k.replica p) || leb k.counter n ≡ true → k.counter ≤ n
      low k re t =
          let f : eqb k.replica p ≡ true = eq-eqb k.replica p re in
          let low : leb k.counter n ≡ true = rw f at t in
          leb-true k.counter n low

      reaches : (m : ℕ) → m ≡ n → n ≤ greatest_of p (truncated p n s)
      reaches zero z = omega arith
      reaches (suc m) z =
          let top : Id = record { counter = n; replica = p } in
          let there : has_id (record { counter = n; replica = p }) s ≡ true = subst (λ (x : List Id). has_id (record { counter = n; replica = p }) x ≡ true) (sym e) (filled_in (record { counter = n; replica = p }) s (omega arith) l) in
          let at : leb n n ≡ true = le-leb n n (omega arith) in
          let passes : not (eqb p p) || leb n n ≡ true = or_right (not (eqb p p)) (leb n n) at in
          member_below (record { counter = n; replica = p }) (truncated p n s) (filter_in (λ i. not (eqb i.replica p) || leb i.counter n) (record { counter = n; replica = p }) s there passes)

  -- So nothing is missing.
  pub lowered_whole : (os ps : List Op) → n ≤ greatest_of p s → ((r : ℕ) → eqb r p ≡ false → IsContiguousTo r ps (greatest_of r s)) → IsContiguousTo p ps n → (r : ℕ) → IsContiguousTo r ps (greatest_of r (truncated p n s))
  lowered_whole os ps l others own r = go (eqb r p) refl
    where
      go : (b : Bool) → eqb r p ≡ b → IsContiguousTo r ps (greatest_of r (truncated p n s))
      go false d = subst (IsContiguousTo r ps) (sym (lowered_other r d)) (others r d)
      go true d =
          let same : r ≡ p = eqb-true r p d in
          subst (λ (x : ℕ). IsContiguousTo x ps (greatest_of x (truncated p n s))) (sym same) (subst (IsContiguousTo p ps) (sym (lowered_own l)) own)

-- without an operation

not_same : (i j : Id) → (i ≡ j → ⊥) → same_id i j ≡ false
not_same i j f = go (same_id i j) refl
  where
    go : (b : Bool) → same_id i j ≡ b → same_id i j ≡ false
    go true e = absurd (f (same_id-true i j e))
    go false e = e

apart_other : (q m : ℕ) (i : Id) → eqb q i.replica ≡ false → same_id (record { counter = m; replica = q }) i ≡ false
apart_other q m i d = not_same (record { counter = m; replica = q }) i (λ e. no_truth (sym d ∙ eq-eqb q i.replica (ap (λ (j : Id). j.replica) e)))

apart_less : (q m : ℕ) (i : Id) → m < i.counter → same_id (record { counter = m; replica = q }) i ≡ false
apart_less q m i l = not_same (record { counter = m; replica = q }) i (λ e. let c : m ≡ i.counter = ap (λ (j : Id). j.counter) e in omega arith)

-- the one next before an operation up to which nothing is missing
whole_before : (q : ℕ) (os : List Op) (o : Op) → {n : ℕ} → IsContiguousTo q os n → 0 < n → op_of (record { counter = n; replica = q }) os ≡ Some o → (greatest_of q o.deps < n) × IsContiguousTo q os (greatest_of q o.deps)
whole_before q os o none l f = absurd (omega arith)
whole_before q os o (more {n = n} {o = p} found earlier rest) l f =
    let two : Some p ≡ Some o = sym found ∙ f in
    let same : p ≡ o = cc in
    subst (λ (x : Op). (greatest_of q x.deps < n) × IsContiguousTo q os (greatest_of q x.deps)) same (earlier, rest)

-- the counter before an operation's, where it is the last one; else none
pub record IsBefore (o : Op) (last before : ℕ) : Type 0 where
  pub here : o.id.counter ≡ last → before ≡ greatest_of o.id.replica o.deps
  pub there : (o.id.counter ≡ last → ⊥) → before ≡ 0

module _ (o : Op) (s : List Id) (last before : ℕ) (e : s ≡ covered s) (le : last ≡ greatest_of o.id.replica s) (b : IsBefore o last before) (os : List Op) (found : op_of o.id os ≡ Some o) (whole : (q : ℕ) → IsContiguousTo q os (greatest_of q s)) where
  others_left : (r : ℕ) → eqb r o.id.replica ≡ false → IsContiguousTo r (without_ops (o.id ∷ []) os) (greatest_of r s)
  others_left r d = whole_without r o.id os (λ m l. apart_other r m o.id d) (whole r)

  own_whole : IsContiguousTo o.id.replica os last
  own_whole = subst (IsContiguousTo o.id.replica os) (sym le) (whole o.id.replica)

  at_last : o.id.counter ≡ last → 0 < last → (greatest_of o.id.replica o.deps < last) × IsContiguousTo o.id.replica os (greatest_of o.id.replica o.deps)
  at_last c l =
      let i : o.id ≡ record { counter = last; replica = o.id.replica } = same_parts o.id (record { counter = last; replica = o.id.replica }) c refl in
      whole_before o.id.replica os o own_whole l (ap (λ (j : Id). op_of j os) (sym i) ∙ found)

  pub lowered_missing : o.id.counter ≤ last → before < last → (q : ℕ) → IsContiguousTo q (without_ops (o.id ∷ []) os) (greatest_of q (truncated o.id.replica before s))
  lowered_missing l low = lowered_whole o.id.replica before s e os (without_ops (o.id ∷ []) os) (omega arith) others_left (go (eq-or-lt_of_le l))
    where
      go : (o.id.counter ≡ last) ⊎ (o.id.counter < last) → IsContiguousTo o.id.replica (without_ops (o.id ∷ []) os) before
      go (inl c) =
          let w = at_last c (omega arith) in
          let is = b.here c in
          let less = w.0 in
          subst (IsContiguousTo o.id.replica (without_ops (o.id ∷ []) os)) (sym is) (whole_without o.id.replica o.id os (λ m k. apart_less o.id.replica m o.id (omega (arith, c, less))) w.1)
      go (inr c) = subst (IsContiguousTo o.id.replica (without_ops (o.id ∷ []) os)) (sym (b.there (λ f. omega arith))) none

  pub kept_missing : ((o.id.counter ≤ last) × (last ≤ before)) ⊎ (last < o.id.counter) → (q : ℕ) → IsContiguousTo q (without_ops (o.id ∷ []) os) (greatest_of q s)
  kept_missing k q = go (eqb q o.id.replica) refl
    where
      own_left : ((o.id.counter ≤ last) × (last ≤ before)) ⊎ (last < o.id.counter) → IsContiguousTo o.id.replica (without_ops (o.id ∷ []) os) last
      own_left (inr l) = whole_without o.id.replica o.id os (λ m n. apart_less o.id.replica m o.id (omega arith)) own_whole
      own_left (inl l) = zeros (cases_lt 0 last) (eq-or-lt_of_le l.0)
        where
          zeros : (0 < last) ⊎ (last ≤ 0) → (o.id.counter ≡ last) ⊎ (o.id.counter < last) → IsContiguousTo o.id.replica (without_ops (o.id ∷ []) os) last
          zeros (inr z) c = let n : 0 ≡ last = omega arith in subst (IsContiguousTo o.id.replica (without_ops (o.id ∷ []) os)) n none
          zeros (inl z) (inl c) = let w = at_last c z in let is = b.here c in let less = w.0 in let no = l.1 in absurd (omega arith)
          zeros (inl z) (inr c) = let is = b.there (λ f. omega arith) in let no = l.1 in absurd (omega arith)

      go : (d : Bool) → eqb q o.id.replica ≡ d → IsContiguousTo q (without_ops (o.id ∷ []) os) (greatest_of q s)
      go false d = others_left q d
      go true d =
          let same : q ≡ o.id.replica = eqb-true q o.id.replica d in
          subst (λ (r : ℕ). IsContiguousTo r (without_ops (o.id ∷ []) os) (greatest_of r s)) (sym same) (subst (IsContiguousTo o.id.replica (without_ops (o.id ∷ []) os)) le (own_left k))

-- what one operation less keeps in order
pub without-in_order : (ids : List Id) (os : List Op) → AreInOrder os → AreInOrder (without_ops ids os)
without-in_order ids os h = filter-in_order (λ o. not (has_id o.id ids)) os h

-- taking one out, by its place

pub without_absent : (i : Id) (os : List Op) → op_of i os ≡ None → without_ops (i ∷ []) os ≡ os
without_absent i [] h = refl
without_absent i (o ∷ os) h = go (same_id i o.id) refl (same_id o.id i) refl (without_absent i os)
  where
    go : (b : Bool) → same_id i o.id ≡ b → (d : Bool) → same_id o.id i ≡ d → (op_of i os ≡ None → without_ops (i ∷ []) os ≡ os) → without_ops (i ∷ []) (o ∷ os) ≡ o ∷ os
    go true e d f ih = let no : Some o ≡ None = rw e at h in cc
    go false e true f ih = let same : o.id ≡ i = same_id-true o.id i f in no_truth (sym e ∙ ap (λ (j : Id). same_id i j) same ∙ same_id-self i)
    go false e false f ih = rw f (ap (λ (x : List Op). o ∷ x) (ih (rw e at h)))

absent_below : (i : Id) (os : List Op) → AllByRecursion (λ j. id_cmp i j ≡ Less) (identifiers os) → op_of i os ≡ None
absent_below i [] h = refl
absent_below i (o ∷ os) h = rw (h.0) (absent_below i os h.1)

pub standing_within : (i : Id) (os : List Op) (n : ℕ) → IsOpAt i os n → n < length os
standing_within i os n s = go (cases_lt n (length os))
  where
    go : (n < length os) ⊎ (length os ≤ n) → n < length os
    go (inl l) = l
    go (inr l) = let no : None ≡ Some s.operation = sym (slice_get_past os n l) ∙ s.entry in cc

pub without_standing : (i : Id) (os : List Op) (n : ℕ) (o : Op) → AreInOrder os → slice_get os n ≡ Some o → o.id ≡ i → without_ops (i ∷ []) os ≡ remove os n
without_standing i [] n o h e is = cc
without_standing i (p ∷ os) zero o h e is =
    let two : Some p ≡ Some o = e in
    let same : p ≡ o = cc in
    let own : p.id ≡ i = ap (λ (x : Op). x.id) same ∙ is in
    let here : same_id p.id i ≡ true = ap (λ (j : Id). same_id j i) own ∙ same_id-self i in
    let below = subst (λ (j : Id). AllByRecursion (λ k. id_cmp j k ≡ Less) (identifiers os)) own h.0 in
    rw here (without_absent i os (absent_below i os below))
without_standing i (p ∷ os) (suc n) o h e is =
    let other : same_id p.id i ≡ false = not_same p.id i (λ f. later os n h.0 e f) in
    rw other (ap (λ (x : List Op). p ∷ x) (without_standing i os n o h.1 e is))
  where
    later : (qs : List Op) (m : ℕ) → AllByRecursion (λ j. id_cmp p.id j ≡ Less) (identifiers qs) → slice_get qs m ≡ Some o → p.id ≡ i → ⊥
    later [] m a g f = cc
    later (q ∷ qs) zero a g f =
        let two : Some q ≡ Some o = g in
        let same : q ≡ o = cc in
        let at : q.id ≡ p.id = ap (λ (x : Op). x.id) same ∙ is ∙ sym f in
        let no : Equal ≡ Less = sym (equal_itself p.id) ∙ sym (ap (id_cmp p.id) at) ∙ a.0 in
        cc
    later (q ∷ qs) (suc m) a g f = later qs m a.1 g f

-- what the type keeps without it
pub taken_out_kept : (o : Op) (os : List Op) (s new : List Id) → IsKeptList os s → op_of o.id os ≡ Some o → new ≡ covered new → ((ps : List Op) → op_of o.id ps ≡ Some o → ((q : ℕ) → IsContiguousTo q ps (greatest_of q s)) → (q : ℕ) → IsContiguousTo q (without_ops (o.id ∷ []) ps) (greatest_of q new)) → IsKeptList (without_ops (o.id ∷ []) os) new
taken_out_kept o os s new k found e h = record { order = without-in_order (o.id ∷ []) os k.order; filled = e; missing = h os found k.missing }

-- what comes in of what is offered
module _ (os ps : List Op) (n : ℕ) (fresh : List Op) (is : fresh ≡ filter (is_new os) (drop n ps)) where
  pub fresh_new : AllByRecursion (λ p. is_new os p ≡ true) fresh
  fresh_new = subst (λ (x : List Op). AllByRecursion (λ p. is_new os p ≡ true) x) (sym is) (filter_all (is_new os) (drop n ps))

  pub fresh_order : AreInOrder ps → AreInOrder fresh
  fresh_order h = subst AreInOrder (sym is) (filter-in_order (is_new os) (drop n ps) (drop-in_order n ps h))

  pub fresh_all : (P : Op → Type 0) → AllByRecursion P ps → AllByRecursion P fresh
  fresh_all P a = subst (λ (x : List Op). AllByRecursion P x) (sym is) (all_filter P (is_new os) (drop n ps) (all_drop P n ps a))

  pub united_with : (set : List Op) (q last : ℕ) → AreInOrder os → IsSound set → AreKeptOf set os → AreKeptOf set ps → AreOwn q ps → AllByRecursion (λ p. p.id.counter ≤ last) (take n ps) → IsContiguousTo q os last → both os fresh ≡ both os ps
  united_with set q last order sound kept of own low whole = ap (both os) is ∙ united set q last n os ps order sound kept of own low whole

pub united_kept : (os fresh : List Op) (s new : List Id) (q last counter : ℕ) → IsKeptList os s → AreInOrder fresh → AllByRecursion (λ p. is_new os p ≡ true) fresh → last ≡ greatest_of q s → ((xs : List Op) → HasEach os xs → AreAmong fresh xs → IsContiguousTo q xs last → IsContiguousTo q xs counter) → new ≡ union (ids_up_to q counter) s → IsKeptList (both os fresh) new
united_kept os fresh s new q last counter k order fn le w ne =
    let still = λ (r : ℕ). whole_on r os (both os fresh) (λ i o. found_both i os fresh o k.order) (k.missing r) in
    record {
      order = both-in_order os fresh k.order;
      filled = inserted_filled (record { counter = counter; replica = q }) s new k.filled ne;
      missing = inserted_whole q counter s new (both os fresh) k.filled ne still (w (both os fresh) (λ i o. found_both i os fresh o k.order) (found_all os fresh k.order order fn) (subst (IsContiguousTo q (both os fresh)) (sym le) (still q)));
    }

-- what a test lets pass has what all such have
passing : (P : Op → Type 0) (f : Op → Bool) (ps : List Op) (n : ℕ) (p : Op) → n < length ps → p ≡ get_or ps n p → f p ≡ true → AllByRecursion P (filter f ps) → P p
passing P f [] n p l is t a = absurd (omega arith)
passing P f (q ∷ ps) zero p l is t a =
    let here : f q ≡ true = ap f (sym is) ∙ t in
    let b : AllByRecursion P (q ∷ filter f ps) = rw here at a in
    subst P (sym is) b.0
passing P f (q ∷ ps) (suc n) p l is t a = go (f q) refl (λ b. passing P f ps n p (omega arith) is t b)
  where
    go : (b : Bool) → f q ≡ b → (AllByRecursion P (filter f ps) → P p) → P p
    go true e later = let b : AllByRecursion P (q ∷ filter f ps) = rw e at a in later b.1
    go false e later = let b : AllByRecursion P (filter f ps) = rw e at a in later b

-- an offered operation, as it was received before or as it comes in now, is in the list that has both
pub among_either : (os ps all : List Op) (n : ℕ) (p o : Op) → n < length ps → p ≡ get_or ps n p → o ≡ unwrap_or (op_of p.id os) p → HasEach os all → AreAmong (filter (is_new os) ps) all → op_of o.id all ≡ Some o
among_either os ps all n p o l is e each among = go (op_of p.id os) refl
  where
    go : (f : Option Op) → op_of p.id os ≡ f → op_of o.id all ≡ Some o
    go (Some r) f =
        let same : o ≡ r = e ∙ ap (λ (x : Option Op). unwrap_or x p) f in
        let own : r.id ≡ p.id = (looked_up p.id os r f).0 in
        let there : op_of r.id all ≡ Some r = ap (λ (i : Id). op_of i all) own ∙ each p.id r f in
        subst (λ (x : Op). op_of x.id all ≡ Some x) (sym same) there
    go None f =
        let same : o ≡ p = e ∙ ap (λ (x : Option Op). unwrap_or x p) f in
        let new : is_new os p ≡ true = ap not (not_there_absent p.id os f) in
        subst (λ (x : Op). op_of x.id all ≡ Some x) (sym same) (passing (λ x. op_of x.id all ≡ Some x) (is_new os) ps n p l is new among)

-- where a search found no place
pub place_absent : (i : Id) (os : List Op) (r : Result ℕ ℕ) → IsOpPlace i os r → ((n : ℕ) → r ≡ Ok n → ⊥) → op_of i os ≡ None
place_absent i os (Ok n) p h = absurd (h n refl)
place_absent i os (Err n) p h = p.absent

-- all from a place on
pub rest_is : (n : ℕ) (os : List Op) → take (length os - n) (drop n os) ≡ drop n os
rest_is n os = take_all (length os - n) (drop n os) (omega (arith, length-drop n os))

-- taking out the last of these, and then the others

has_id-last : (k i : Id) (is : List Id) → has_id k (is ++ i ∷ []) ≡ has_id k is || same_id k i
has_id-last k i [] = go (same_id k i)
  where
    go : (b : Bool) → b || false ≡ b
    go true = refl
    go false = refl
has_id-last k i (j ∷ is) = go (same_id k j) (has_id-last k i is)
  where
    go : (b : Bool) → has_id k (is ++ i ∷ []) ≡ has_id k is || same_id k i → b || has_id k (is ++ i ∷ []) ≡ (b || has_id k is) || same_id k i
    go true e = refl
    go false e = e

pub without-last : (is : List Id) (i : Id) (os : List Op) → without_ops (is ++ i ∷ []) os ≡ without_ops is (without_ops (i ∷ []) os)
without-last is i [] = refl
without-last is i (o ∷ os) = go (has_id o.id is) refl (same_id o.id i) refl (without-last is i os)
  where
    all : has_id o.id (is ++ i ∷ []) ≡ has_id o.id is || same_id o.id i
    all = has_id-last o.id i is

    go : (b : Bool) → has_id o.id is ≡ b → (d : Bool) → same_id o.id i ≡ d → without_ops (is ++ i ∷ []) os ≡ without_ops is (without_ops (i ∷ []) os) → without_ops (is ++ i ∷ []) (o ∷ os) ≡ without_ops is (without_ops (i ∷ []) (o ∷ os))
    go true e true f ih = let a : has_id o.id (is ++ i ∷ []) ≡ true = all ∙ rw e refl in rw (a, f) ih
    go true e false f ih = let a : has_id o.id (is ++ i ∷ []) ≡ true = all ∙ rw e refl in rw (a, f, e) ih
    go false e true f ih = let a : has_id o.id (is ++ i ∷ []) ≡ true = all ∙ rw (e, f) refl in rw (a, f) ih
    go false e false f ih = let a : has_id o.id (is ++ i ∷ []) ≡ false = all ∙ rw (e, f) refl in rw (a, f, e) (ap (λ (x : List Op). o ∷ x) ih)

pub without_nothing : (is : List Id) (os : List Op) → length is ≡ 0 → without_ops is os ≡ os
without_nothing [] os z = taken_out os [] tt
without_nothing (i ∷ is) os z = absurd (omega arith)

-- Lemmas about Received: lists of operations with one more, and the union of two.
use Rattle.std.proofs.Common.{◌≡◌, ℕ, zero, suc, ◌+◌, ◌≤◌, ◌<◌, List, [], ◌∷◌, ◌++◌, length, get_or, take, drop, leb, leb-true, le-leb, insert, filter, cond, map, Some, None, Bool, true, false, not, Result, Ok, Err, IsErr, refl, sym, ◌∙◌, ap, subst, arith}
use Rattle.std.specs.List.{AllByRecursion, AllWithin}
use Rattle.std.specs.Result.{is_err}
use Rattle.std.specs.List.Sorted.{IsSearchInRange, IsBinarySearchResult, IsNonDecreasingBy, IsPartitionedBy}
use Rattle.std.specs.Ordering.{ordering_index, nat_cmp, is_lt}
use Rattle.std.proofs.lemmas.Cmp.{nat_cmp_total}
use Rattle.std.proofs.lemmas.Map.Keys.{ge_from_not_lt}
use Rattle.std.specs.declared.cmp.Ordering.{Ordering}
use Rattle.std.specs.declared.cmp.Ordering.TheVariants.{Less, Equal, Greater}
use Rattle.std.proofs.lemmas.List.{get_or-map, length-map, map-id}
use Rattle.std.proofs.lemmas.List.Elements.{filter_more}
use Rattle.std.proofs.lemmas.Option.{slice_get-get_or, get_or_from_slice_get}
use Rattle.jc_rules.specs.declared.id.Id.{Id}
use Rattle.jc_rules.specs.declared.operation.Op.{Op}
use Rattle.jc_rules.specs.Order.{id_cmp, same_id}
use Rattle.jc_rules.specs.Ids.{has_id, with_id}
use Rattle.jc_rules.specs.Table.{op_of, with_op, both}
use Rattle.jc_rules.proofs.OrderLemmas.{ids_total, exact_ids}
use Rattle.jc_rules.proofs.RisingLemmas as rising
use Rattle.jc_rules.proofs.IdsLemmas.{has_id-with, with-rises, same_id-true, same_id-self, all_later}
use Rattle.jc_rules.proofs.CoveredLemmas.{left_in}
use Rattle.jc_replica.specs.Operations.{identifiers, AreInOrder}
use Rattle.jc_replica.specs.Received.{is_new, IsOpAt, OpBelongsAt, IsOpPlace}
use Rattle.jc_replica.specs.Undo.{without_ops}
use Rattle.jc_rules.proofs.BoolLemmas.{or_right, untrue}

-- the identifiers of a list with one more
pub identifiers-with : (p : Op) (os : List Op) → identifiers (with_op p os) ≡ with_id p.id (identifiers os)
identifiers-with p [] = refl
identifiers-with p (o ∷ os) = go (id_cmp p.id o.id) refl (identifiers-with p os)
  where
    go : (c : Ordering) → id_cmp p.id o.id ≡ c → identifiers (with_op p os) ≡ with_id p.id (identifiers os) → identifiers (with_op p (o ∷ os)) ≡ with_id p.id (identifiers (o ∷ os))
    go Less e ih = rw e refl
    go Equal e ih = rw e refl
    go Greater e ih = rw e (ap (λ (is : List Id). o.id ∷ is) ih)

pub with-in_order : (p : Op) (os : List Op) → AreInOrder os → AreInOrder (with_op p os)
with-in_order p os h = rw (identifiers-with p os) (with-rises p.id (identifiers os) h)

pub both-in_order : (os ps : List Op) → AreInOrder os → AreInOrder (both os ps)
both-in_order os [] h = h
both-in_order os (p ∷ ps) h = with-in_order p (both os ps) (both-in_order os ps h)

-- what is there, stays
pub there_with : (i : Id) (p : Op) (os : List Op) → has_id i (identifiers os) ≡ true → has_id i (identifiers (with_op p os)) ≡ true
there_with i p os h = ap (has_id i) (identifiers-with p os) ∙ has_id-with i p.id (identifiers os) ∙ or_right (same_id i p.id) (has_id i (identifiers os)) h

pub there_both : (i : Id) (os ps : List Op) → has_id i (identifiers os) ≡ true → has_id i (identifiers (both os ps)) ≡ true
there_both i os [] h = h
there_both i os (p ∷ ps) h = there_with i p (both os ps) (there_both i os ps h)

-- what all are is true of a list with one more, and of both
pub all_with : (P : Op → Type 0) (p : Op) (os : List Op) → P p → AllByRecursion P os → AllByRecursion P (with_op p os)
all_with P p [] x a = (x, tt)
all_with P p (o ∷ os) x a = go (id_cmp p.id o.id) refl (all_with P p os x a.1)
  where
    go : (c : Ordering) → id_cmp p.id o.id ≡ c → AllByRecursion P (with_op p os) → AllByRecursion P (with_op p (o ∷ os))
    go Less e ih = rw e (x, a)
    go Equal e ih = rw e a
    go Greater e ih = rw e (a.0, ih)

pub all_both : (P : Op → Type 0) (os ps : List Op) → AllByRecursion P os → AllByRecursion P ps → AllByRecursion P (both os ps)
all_both P os [] a b = a
all_both P os (p ∷ ps) a b = all_with P p (both os ps) b.0 (all_both P os ps a b.1)

-- an identifier below all others isn't among them
below_others : (i : Id) (is : List Id) → AllByRecursion (λ j. id_cmp i j ≡ Less) is → has_id i is ≡ false
below_others i [] h = refl
below_others i (j ∷ is) h = rw (h.0) (below_others i is h.1)

-- one that is there already changes nothing
pub with-there : (p : Op) (os : List Op) → AreInOrder os → has_id p.id (identifiers os) ≡ true → with_op p os ≡ os
with-there p [] h e = absurd (let f : ⊥ = cc in f)
with-there p (o ∷ os) h e = go (id_cmp p.id o.id) refl (with-there p os h.1)
  where
    go : (c : Ordering) → id_cmp p.id o.id ≡ c → (has_id p.id (identifiers os) ≡ true → with_op p os ≡ os) → with_op p (o ∷ os) ≡ o ∷ os
    go Less f ih =
        let none = below_others p.id (identifiers os) (all_later p.id o.id (identifiers os) f h.0) in
        let no : false ≡ true = sym (rw f none) ∙ e in
        absurd (let z : ⊥ = cc in z)
    go Equal f ih = rw f refl
    go Greater f ih = rw f (ap (λ (x : List Op). o ∷ x) (ih (rw f at e)))

-- operations of different identifiers come in in any order
pub with-swap : (p q : Op) (os : List Op) → id_cmp q.id p.id ≡ Less → with_op q (with_op p os) ≡ with_op p (with_op q os)
with-swap p q [] l = rw (l, rising.less_greater ids_total q.id p.id l) refl
with-swap p q (o ∷ os) l = go (id_cmp p.id o.id) refl (id_cmp q.id o.id) refl (with-swap p q os l)
  where
    later : id_cmp p.id q.id ≡ Greater
    later = rising.less_greater ids_total q.id p.id l

    go : (c : Ordering) → id_cmp p.id o.id ≡ c → (d : Ordering) → id_cmp q.id o.id ≡ d → with_op q (with_op p os) ≡ with_op p (with_op q os) → with_op q (with_op p (o ∷ os)) ≡ with_op p (with_op q (o ∷ os))
    go Less e d f ih =
        let g : id_cmp q.id o.id ≡ Less = ids_total.trans q.id p.id o.id l e in
        rw (e, l, g, later, e) refl
    go Equal e d f ih =
        let same : p.id ≡ o.id = exact_ids p.id o.id e in
        let g : id_cmp q.id o.id ≡ Less = sym (ap (λ (i : Id). id_cmp q.id i) same) ∙ l in
        rw (e, g, later, e) refl
    go Greater e Less f ih = rw (e, f, later, e) refl
    go Greater e Equal f ih = rw (e, f, e) refl
    go Greater e Greater f ih = rw (e, f, e) (ap (λ (x : List Op). o ∷ x) ih)

pub both-append : (os ps qs : List Op) → both os (ps ++ qs) ≡ both (both os qs) ps
both-append os [] qs = refl
both-append os (p ∷ ps) qs = ap (with_op p) (both-append os ps qs)

-- those that are there already change nothing
pub both-there : (os ps : List Op) → AreInOrder os → AllByRecursion (λ p. has_id p.id (identifiers os) ≡ true) ps → both os ps ≡ os
both-there os [] h a = refl
both-there os (p ∷ ps) h a = ap (with_op p) (both-there os ps h a.1) ∙ with-there p os h a.0

-- only those count that aren't there
pub both-new : (os ps : List Op) → AreInOrder os → both os ps ≡ both os (filter (is_new os) ps)
both-new os [] h = refl
both-new os (p ∷ ps) h = go (has_id p.id (identifiers os)) refl (both-new os ps h)
  where
    go : (b : Bool) → has_id p.id (identifiers os) ≡ b → both os ps ≡ both os (filter (is_new os) ps) → both os (p ∷ ps) ≡ both os (filter (is_new os) (p ∷ ps))
    go true e ih = rw e (with-there p (both os ps) (both-in_order os ps h) (there_both p.id os ps e) ∙ ih)
    go false e ih = rw e (ap (with_op p) ih)

-- what a search by identifier finds
found_at : (i : Id) (os : List Op) (k : ℕ) (d : Op) → AreInOrder os → k < length os → id_cmp (get_or os k d).id i ≡ Equal → op_of i os ≡ Some (get_or os k d)
found_at i [] k d h l e = absurd (omega arith)
found_at i (o ∷ os) zero d h l e = let q : id_cmp i o.id ≡ Equal = rising.equal_back ids_total o.id i e in rw q refl
found_at i (o ∷ os) (suc k) d h l e =
    let x = get_or os k d in
    let n : length (identifiers os) ≡ length os = length-map os (λ p. p.id) in
    let m : get_or (identifiers os) k d.id ≡ x.id = get_or-map (λ (p : Op). p.id) os k d d.id (omega arith) in
    let above : id_cmp o.id x.id ≡ Less = subst (λ (j : Id). id_cmp o.id j ≡ Less) m (rising.all_at {X = Id} (λ j. id_cmp o.id j ≡ Less) (identifiers os) h.0 k d.id (omega arith)) in
    let same : x.id ≡ i = exact_ids x.id i e in
    let less : id_cmp o.id i ≡ Less = rw same at above in
    rw (rising.less_greater ids_total o.id i less) (found_at i os k d h.1 (omega arith) e)

placed_at : (i : Id) (os : List Op) (n : ℕ) → n ≤ length os → ((k : ℕ) (d : Op) → k < n → id_cmp (get_or os k d).id i ≡ Less) → ((k : ℕ) (d : Op) → n ≤ k → k < length os → id_cmp (get_or os k d).id i ≡ Greater) → (op_of i os ≡ None) × ((o : Op) → o.id ≡ i → with_op o os ≡ insert os n o)
placed_at i [] zero h less more = (refl, λ o e. refl)
placed_at i [] (suc n) h less more = absurd (omega arith)
placed_at i (o ∷ os) zero h less more =
    let q : id_cmp i o.id ≡ Less = rising.greater_less ids_total o.id i (more 0 o (omega arith) (omega arith)) in
    let rest = placed_at i os 0 (omega arith) (λ k d l. absurd (omega arith)) (λ k d l m. more (suc k) d (omega arith) (omega arith)) in
    (rw (q, rest.0) refl, λ p e. let f : id_cmp p.id o.id ≡ Less = ap (λ (j : Id). id_cmp j o.id) e ∙ q in rw f refl)
placed_at i (o ∷ os) (suc n) h less more =
    let q : id_cmp i o.id ≡ Greater = rising.less_greater ids_total o.id i (less 0 o (omega arith)) in
    let rest = placed_at i os n (omega arith) (λ k d l. less (suc k) d (omega arith)) (λ k d l m. more (suc k) d (omega arith) (omega arith)) in
    (rw (q, rest.0) refl, λ p e. let f : id_cmp p.id o.id ≡ Greater = ap (λ (j : Id). id_cmp j o.id) e ∙ q in rw f (ap (λ (x : List Op). o ∷ x) (rest.1 p e)))

do_not_fall : (i : Id) (os : List Op) → AreInOrder os → IsNonDecreasingBy (λ o. ordering_index (id_cmp o.id i)) os
do_not_fall i os h j k d le within =
    let n : length (identifiers os) ≡ length os = length-map os (λ o. o.id) in
    rw (← get_or-map (λ (o : Op). o.id) os j d d.id (omega arith), ← get_or-map (λ (o : Op). o.id) os k d d.id within) (rising.non_decreasing ids_total i (identifiers os) h j k d.id le (omega arith))

pub searched : (i : Id) (os : List Op) (r : Result ℕ ℕ) → AreInOrder os → IsSearchInRange r (length os) → IsBinarySearchResult (λ o. id_cmp o.id i) os r → IsOpPlace i os r
searched i [] (Ok n) h b f = absurd (omega arith)
searched i (o ∷ os) (Ok n) h b f =
    let x = get_or (o ∷ os) n o in
    record { operation = x; entry = slice_get-get_or (o ∷ os) n o b; found = found_at i (o ∷ os) n o h b (f o) }
searched i os (Err n) h b f =
    let parts = f (do_not_fall i os h) in
    let p = placed_at i os n b (λ k d l. parts.0 k d (omega arith) l) parts.1 in
    record { within = b; absent = p.0; place = p.1 }

-- whether an identifier is there
pub there_found : (i : Id) (os : List Op) (o : Op) → op_of i os ≡ Some o → has_id i (identifiers os) ≡ true
there_found i [] o h = absurd (let f : ⊥ = cc in f)
there_found i (p ∷ os) o h = go (same_id i p.id) refl (there_found i os o)
  where
    go : (b : Bool) → same_id i p.id ≡ b → (op_of i os ≡ Some o → has_id i (identifiers os) ≡ true) → has_id i (identifiers (p ∷ os)) ≡ true
    go true e ih = rw e refl
    go false e ih = rw e (ih (rw e at h))

pub not_there_absent : (i : Id) (os : List Op) → op_of i os ≡ None → has_id i (identifiers os) ≡ false
not_there_absent i [] h = refl
not_there_absent i (p ∷ os) h = go (same_id i p.id) refl (not_there_absent i os)
  where
    go : (b : Bool) → same_id i p.id ≡ b → (op_of i os ≡ None → has_id i (identifiers os) ≡ false) → has_id i (identifiers (p ∷ os)) ≡ false
    go true e ih = let f : Some p ≡ None = rw e at h in cc
    go false e ih = rw e (ih (rw e at h))

-- what is found stays
pub found_with : (i : Id) (p : Op) (os : List Op) (o : Op) → AreInOrder os → op_of i os ≡ Some o → op_of i (with_op p os) ≡ Some o
found_with i p [] o h e = absurd (let f : ⊥ = cc in f)
found_with i p (q ∷ os) o h e = go (id_cmp p.id q.id) refl (same_id i p.id) refl (same_id i q.id) refl (found_with i p os o h.1)
  where
    go : (c : Ordering) → id_cmp p.id q.id ≡ c → (b : Bool) → same_id i p.id ≡ b → (d : Bool) → same_id i q.id ≡ d → (op_of i os ≡ Some o → op_of i (with_op p os) ≡ Some o) → op_of i (with_op p (q ∷ os)) ≡ Some o
    go Less f true g d s ih =
        let same : i ≡ p.id = same_id-true i p.id g in
        let none = below_others p.id (identifiers (q ∷ os)) (f, all_later p.id q.id (identifiers os) f h.0) in
        let there = there_found i (q ∷ os) o e in
        let no : false ≡ true = sym none ∙ sym (ap (λ (j : Id). has_id j (identifiers (q ∷ os))) same) ∙ there in
        absurd (let z : ⊥ = cc in z)
    go Less f false g d s ih = rw (f, g) e
    go Equal f b g d s ih = rw f e
    go Greater f b g true s ih = let same : Some q ≡ Some o = rw s at e in rw (f, s) same
    go Greater f b g false s ih = rw (f, s) (ih (rw s at e))

pub found_both : (i : Id) (os ps : List Op) (o : Op) → AreInOrder os → op_of i os ≡ Some o → op_of i (both os ps) ≡ Some o
found_both i os [] o h e = e
found_both i os (p ∷ ps) o h e = found_with i p (both os ps) o (both-in_order os ps h) (found_both i os ps o h e)

-- one that wasn't there is found now
pub found_new : (p : Op) (os : List Op) → has_id p.id (identifiers os) ≡ false → op_of p.id (with_op p os) ≡ Some p
found_new p [] h = rw (same_id-self p.id) refl
found_new p (q ∷ os) h = go (id_cmp p.id q.id) refl (found_new p os)
  where
    go : (c : Ordering) → id_cmp p.id q.id ≡ c → (has_id p.id (identifiers os) ≡ false → op_of p.id (with_op p os) ≡ Some p) → op_of p.id (with_op p (q ∷ os)) ≡ Some p
    go Less f ih = rw (f, same_id-self p.id) refl
    go Equal f ih = let no : true ≡ false = rw f at h in cc
    go Greater f ih = rw (f, f) (ih (rw f at h))

-- a place tells whether the identifier is there
pub place_tells : (i : Id) (os : List Op) (r : Result ℕ ℕ) → IsOpPlace i os r → is_err r ≡ not (has_id i (identifiers os))
place_tells i os (Ok n) p = ap not (sym (there_found i os p.operation p.found))
place_tells i os (Err n) p = ap not (sym (not_there_absent i os p.absent))

-- one more that is looked at
pub filtered_more : (os xs : List Op) (i : ℕ) (o : Op) (b : Bool) → i < length xs → o ≡ get_or xs i o → b ≡ is_new os o → filter (is_new os) (take (i + 1) xs) ≡ filter (is_new os) (take i xs) ++ cond b (o ∷ []) []
filtered_more os xs i o b h is e =
    filter_more (is_new os) xs i o h
    ∙ ap (λ (x : Op). filter (is_new os) (take i xs) ++ cond (is_new os x) (x ∷ []) []) (sym is)
    ∙ ap (λ (c : Bool). filter (is_new os) (take i xs) ++ cond c (o ∷ []) []) (sym e)

-- one that is greater than all others comes in last or first
pub both-last : (os ps : List Op) (p : Op) → AllByRecursion (λ q. id_cmp q.id p.id ≡ Less) ps → both os (ps ++ p ∷ []) ≡ with_op p (both os ps)
both-last os [] p h = refl
both-last os (q ∷ ps) p h = ap (with_op q) (both-last os ps p h.1) ∙ with-swap p q (both os ps) h.0

-- where it isn't in the list, it isn't in the list with others
pub absent_both : (i : Id) (os ps : List Op) → has_id i (identifiers os) ≡ false → AllByRecursion (λ q. same_id i q.id ≡ false) ps → has_id i (identifiers (both os ps)) ≡ false
absent_both i os [] e h = e
absent_both i os (q ∷ ps) e h =
    let other : same_id i q.id ≡ false = h.0 in
    ap (has_id i) (identifiers-with q (both os ps)) ∙ has_id-with i q.id (identifiers (both os ps)) ∙ rw other (absent_both i os ps e h.1)

later_others : (i : Id) (ps : List Op) → AllByRecursion (λ q. id_cmp q.id i ≡ Less) ps → AllByRecursion (λ q. same_id i q.id ≡ false) ps
later_others i [] h = tt
later_others i (q ∷ ps) h = (rw (rising.less_greater ids_total q.id i h.0) refl, later_others i ps h.1)

earlier_others : (i : Id) (ps : List Op) → AllByRecursion (λ j. id_cmp i j ≡ Less) (identifiers ps) → AllByRecursion (λ q. same_id i q.id ≡ false) ps
earlier_others i [] h = tt
earlier_others i (q ∷ ps) h = (rw (h.0) refl, earlier_others i ps h.1)

-- in order, all before a place are less than what stands there
pub before_place : (os : List Op) (n : ℕ) (d : Op) → AreInOrder os → n < length os → AllByRecursion (λ q. id_cmp q.id (get_or os n d).id ≡ Less) (take n os)
before_place [] n d h l = absurd (omega arith)
before_place (o ∷ os) zero d h l = tt
before_place (o ∷ os) (suc n) d h l =
    let x = get_or os n d in
    let k : length (identifiers os) ≡ length os = length-map os (λ p. p.id) in
    let m : get_or (identifiers os) n d.id ≡ x.id = get_or-map (λ (p : Op). p.id) os n d d.id (omega arith) in
    (subst (λ (j : Id). id_cmp o.id j ≡ Less) m (rising.all_at {X = Id} (λ j. id_cmp o.id j ≡ Less) (identifiers os) h.0 n d.id (omega arith)), before_place os n d h.1 (omega arith))

-- One of the new operations, which come in in their order: those before it are less, and it isn't there.
pub record IsTurn (old before : List Op) (o : Op) : Type 0 where
  pub later : AllByRecursion (λ q. id_cmp q.id o.id ≡ Less) before
  pub absent : has_id o.id (identifiers (both old before)) ≡ false

pub turn : (old fresh before : List Op) (o : Op) → AreInOrder fresh → AllByRecursion (λ p. is_new old p ≡ true) fresh → map (λ x. x) before ≡ take (length before) fresh → (length before < length fresh) × (o ≡ get_or fresh (length before) o) → IsTurn old before o
turn old fresh before o order new so_far at =
    let n = length before in
    let l = at.0 in
    let front : take n fresh ≡ before = sym so_far ∙ map-id before in
    let less = subst (λ (x : Op). AllByRecursion (λ q. id_cmp q.id x.id ≡ Less) (take n fresh)) (sym at.1) (before_place fresh n o order l) in
    let later = subst (λ (ps : List Op). AllByRecursion (λ q. id_cmp q.id o.id ≡ Less) ps) front less in
    let here : is_new old o ≡ true = subst (λ (x : Op). is_new old x ≡ true) (sym at.1) (rising.all_at (λ p. is_new old p ≡ true) fresh new n o l) in
    record { later = later; absent = absent_both o.id old before (untrue (has_id o.id (identifiers old)) here) (later_others o.id before later) }

-- where one that isn't there belongs
pub belongs : (i : Id) (os : List Op) (r : Result ℕ ℕ) → has_id i (identifiers os) ≡ false → IsOpPlace i os r → IsErr r
belongs i os (Ok n) e p = let no : true ≡ false = sym (there_found i os p.operation p.found) ∙ e in cc
belongs i os (Err n) e p = refl

-- where a search found no place of it, it belongs there
pub belongs_there : (i : Id) (os : List Op) (r : Result ℕ ℕ) (n : ℕ) → IsOpPlace i os r → r ≡ Err n → OpBelongsAt i os n
belongs_there i os r n p e = subst (IsOpPlace i os) e p

-- what stands at the place of an identifier
pub standing : (i : Id) (os : List Op) (n : ℕ) (o : Op) → IsOpAt i os n → o ≡ get_or os n o → Some o ≡ op_of i os
standing i os n o p e =
    let same : get_or os n o ≡ p.operation = get_or_from_slice_get os n p.operation o p.entry in
    ap (λ (x : Op). Some x) (e ∙ same) ∙ sym p.found

-- what is left of a list in order

pub all_drop : {X : Type 0} (P : X → Type 0) (n : ℕ) (xs : List X) → AllByRecursion P xs → AllByRecursion P (drop n xs)
all_drop P zero xs a = a
all_drop P (suc n) [] a = tt
all_drop P (suc n) (x ∷ xs) a = all_drop P n xs a.1

pub all_filter : {X : Type 0} (P : X → Type 0) (f : X → Bool) (xs : List X) → AllByRecursion P xs → AllByRecursion P (filter f xs)
all_filter P f [] a = tt
all_filter P f (x ∷ xs) a = go (f x) refl (all_filter P f xs a.1)
  where
    go : (b : Bool) → f x ≡ b → AllByRecursion P (filter f xs) → AllByRecursion P (filter f (x ∷ xs))
    go true e ih = rw e (a.0, ih)
    go false e ih = rw e ih

pub filter_all : {X : Type 0} (f : X → Bool) (xs : List X) → AllByRecursion (λ x. f x ≡ true) (filter f xs)
filter_all f [] = tt
filter_all f (x ∷ xs) = go (f x) refl (filter_all f xs)
  where
    go : (b : Bool) → f x ≡ b → AllByRecursion (λ y. f y ≡ true) (filter f xs) → AllByRecursion (λ y. f y ≡ true) (filter f (x ∷ xs))
    go true e ih = rw e (e, ih)
    go false e ih = rw e ih

pub drop-in_order : (n : ℕ) (os : List Op) → AreInOrder os → AreInOrder (drop n os)
drop-in_order zero os h = h
drop-in_order (suc n) [] h = h
drop-in_order (suc n) (o ∷ os) h = drop-in_order n os h.1

less_filter : (i : Id) (f : Op → Bool) (os : List Op) → AllByRecursion (λ j. id_cmp i j ≡ Less) (identifiers os) → AllByRecursion (λ j. id_cmp i j ≡ Less) (identifiers (filter f os))
less_filter i f [] h = tt
less_filter i f (o ∷ os) h = go (f o) refl (less_filter i f os h.1)
  where
    go : (b : Bool) → f o ≡ b → AllByRecursion (λ j. id_cmp i j ≡ Less) (identifiers (filter f os)) → AllByRecursion (λ j. id_cmp i j ≡ Less) (identifiers (filter f (o ∷ os)))
    go true e ih = rw e (h.0, ih)
    go false e ih = rw e ih

pub filter-in_order : (f : Op → Bool) (os : List Op) → AreInOrder os → AreInOrder (filter f os)
filter-in_order f [] h = h
filter-in_order f (o ∷ os) h = go (f o) refl (filter-in_order f os h.1)
  where
    go : (b : Bool) → f o ≡ b → AreInOrder (filter f os) → AreInOrder (filter f (o ∷ os))
    go true e ih = rw e (less_filter o.id f os h.0, ih)
    go false e ih = rw e ih

-- new operations in order are found once they are inserted
pub found_all : (os ps : List Op) → AreInOrder os → AreInOrder ps → AllByRecursion (λ p. is_new os p ≡ true) ps → AllByRecursion (λ p. op_of p.id (both os ps) ≡ Some p) ps
found_all os [] h g n = tt
found_all os (p ∷ ps) h g n =
    let absent = absent_both p.id os ps (untrue (has_id p.id (identifiers os)) n.0) (earlier_others p.id ps g.0) in
    (found_new p (both os ps) absent, others ps (found_all os ps h g.1 n.1))
  where
    others : (qs : List Op) → AllByRecursion (λ q. op_of q.id (both os ps) ≡ Some q) qs → AllByRecursion (λ q. op_of q.id (with_op p (both os ps)) ≡ Some q) qs
    others [] a = tt
    others (q ∷ qs) a = (found_with q.id p (both os ps) q (both-in_order os ps h) a.0, others qs a.1)

-- what was inserted is removed

without-with : (ids : List Id) (p : Op) (os : List Op) → has_id p.id ids ≡ true → without_ops ids (with_op p os) ≡ without_ops ids os
without-with ids p [] h = rw h refl
without-with ids p (o ∷ os) h = go (id_cmp p.id o.id) refl (has_id o.id ids) refl (without-with ids p os h)
  where
    go : (c : Ordering) → id_cmp p.id o.id ≡ c → (b : Bool) → has_id o.id ids ≡ b → without_ops ids (with_op p os) ≡ without_ops ids os → without_ops ids (with_op p (o ∷ os)) ≡ without_ops ids (o ∷ os)
    go Less e b f ih = rw (e, h) refl
    go Equal e b f ih = rw e refl
    go Greater e true f ih = rw (e, f) ih
    go Greater e false f ih = rw (e, f) (ap (λ (x : List Op). o ∷ x) ih)

without-both : (ids : List Id) (os ps : List Op) → AllByRecursion (λ p. has_id p.id ids ≡ true) ps → without_ops ids (both os ps) ≡ without_ops ids os
without-both ids os [] a = refl
without-both ids os (p ∷ ps) a = without-with ids p (both os ps) a.0 ∙ without-both ids os ps a.1

without-none : (ids : List Id) (os : List Op) → AllByRecursion (λ o. has_id o.id ids ≡ false) os → without_ops ids os ≡ os
without-none ids [] a = refl
without-none ids (o ∷ os) a = rw (a.0) (ap (λ (x : List Op). o ∷ x) (without-none ids os a.1))

among_more : (i : Id) (ids : List Id) (ps : List Op) → AllByRecursion (λ p. has_id p.id ids ≡ true) ps → AllByRecursion (λ p. has_id p.id (i ∷ ids) ≡ true) ps
among_more i ids [] a = tt
among_more i ids (p ∷ ps) a = (or_right (same_id p.id i) (has_id p.id ids) a.0, among_more i ids ps a.1)

their_own : (ps : List Op) → AllByRecursion (λ p. has_id p.id (identifiers ps) ≡ true) ps
their_own [] = tt
their_own (p ∷ ps) = (left_in (same_id p.id p.id) (has_id p.id (identifiers ps)) (same_id-self p.id), among_more p.id (identifiers ps) ps (their_own ps))

not_same_back : (i j : Id) → same_id i j ≡ false → same_id j i ≡ false
not_same_back i j e = go (same_id j i) refl
  where
    go : (b : Bool) → same_id j i ≡ b → same_id j i ≡ false
    go false f = f
    go true f =
        let same : j ≡ i = same_id-true j i f in
        let no : true ≡ false = sym (same_id-self i) ∙ sym (ap (same_id i) same) ∙ e in
        absurd (let z : ⊥ = cc in z)

-- none of the old ones is among new ones
not_among : (os ps : List Op) → AllByRecursion (λ p. is_new os p ≡ true) ps → AllByRecursion (λ o. has_id o.id (identifiers ps) ≡ false) os
not_among [] ps n = tt
not_among (o ∷ os) ps n = (head ps n, not_among os ps (tail ps n))
  where
    parts : (p : Op) → is_new (o ∷ os) p ≡ true → (same_id o.id p.id ≡ false) × (is_new os p ≡ true)
    parts p e = pick (same_id p.id o.id) refl (untrue (has_id p.id (identifiers (o ∷ os))) e)
      where
        pick : (b : Bool) → same_id p.id o.id ≡ b → has_id p.id (identifiers (o ∷ os)) ≡ false → (same_id o.id p.id ≡ false) × (is_new os p ≡ true)
        pick true f g = let no : true ≡ false = rw f at g in absurd (let z : ⊥ = cc in z)
        pick false f g = let h : has_id p.id (identifiers os) ≡ false = rw f at g in (not_same_back p.id o.id f, ap not h)

    head : (qs : List Op) → AllByRecursion (λ p. is_new (o ∷ os) p ≡ true) qs → has_id o.id (identifiers qs) ≡ false
    head [] m = refl
    head (q ∷ qs) m = rw ((parts q m.0).0) (head qs m.1)

    tail : (qs : List Op) → AllByRecursion (λ p. is_new (o ∷ os) p ≡ true) qs → AllByRecursion (λ p. is_new os p ≡ true) qs
    tail [] m = tt
    tail (q ∷ qs) m = ((parts q m.0).1, tail qs m.1)

pub taken_out : (os ps : List Op) → AllByRecursion (λ p. is_new os p ≡ true) ps → without_ops (identifiers ps) (both os ps) ≡ os
taken_out os ps n = without-both (identifiers ps) os ps (their_own ps) ∙ without-none (identifiers ps) os (not_among os ps n)

-- counters up to one

le_counter : (i j : Id) → id_cmp i j ≡ Less → i.counter ≤ j.counter
le_counter i j h = ge_from_not_lt j.counter i.counter (go (nat_cmp i.counter j.counter) refl)
  where
    go : (c : Ordering) → nat_cmp i.counter j.counter ≡ c → is_lt (nat_cmp j.counter i.counter) ≡ false
    go Less e = rw (rising.less_greater nat_cmp_total i.counter j.counter e) refl
    go Equal e = rw (rising.equal_back nat_cmp_total i.counter j.counter e) refl
    go Greater e = let f : Greater ≡ Less = rw e at h in cc

counters_rise : (os : List Op) (i j : ℕ) (d : Op) → AreInOrder os → i ≤ j → j < length os → (get_or os i d).id.counter ≤ (get_or os j d).id.counter
counters_rise [] i j d h l m = absurd (omega arith)
counters_rise (o ∷ os) zero zero d h l m = omega arith
counters_rise (o ∷ os) zero (suc j) d h l m =
    let x = get_or os j d in
    let k : length (identifiers os) ≡ length os = length-map os (λ p. p.id) in
    let at : get_or (identifiers os) j d.id ≡ x.id = get_or-map (λ (p : Op). p.id) os j d d.id (omega arith) in
    le_counter o.id x.id (subst (λ (i : Id). id_cmp o.id i ≡ Less) at (rising.all_at {X = Id} (λ i. id_cmp o.id i ≡ Less) (identifiers os) h.0 j d.id (omega arith)))
counters_rise (o ∷ os) (suc i) zero d h l m = absurd (omega arith)
counters_rise (o ∷ os) (suc i) (suc j) d h l m = counters_rise os i j d h.1 (omega arith) (omega arith)

pub partitioned : (os : List Op) (last : ℕ) → AreInOrder os → IsPartitionedBy (λ o. leb o.id.counter last) os
partitioned os last h i j d l m e =
    let c = counters_rise os i j d h l m in
    let low = leb-true (get_or os j d).id.counter last e in
    le-leb (get_or os i d).id.counter last (omega arith)

pub front_low : (os : List Op) (last n : ℕ) → n ≤ length os → AllWithin (λ o. leb o.id.counter last ≡ true) os 0 n → AllByRecursion (λ o. o.id.counter ≤ last) (take n os)
front_low os last zero l a = tt
front_low [] last (suc n) l a = tt
front_low (o ∷ os) last (suc n) l a = (leb-true o.id.counter last (a 0 o (omega arith) (omega arith)), front_low os last n (omega arith) (λ k d low high. a (suc k) d (omega arith) (omega arith)))

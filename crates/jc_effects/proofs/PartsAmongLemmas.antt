-- About Parts: the places that differ among some keys (`IsDifferenceAmong`), one key after another.
use Rattle.std.proofs.Common.{◌≡◌, List, [], ◌∷◌, ◌++◌, Bool, true, false, not, ◌&&◌, cond, Option, Some, None, is_some, refl, sym, ◌∙◌, ap, subst}
use Rattle.std.specs.List.{AllByRecursion}
use Rattle.std.specs.declared.cmp.Ordering.TheVariants.{Less}
use Rattle.jc_rules.specs.declared.id.Id.{Id}
use Rattle.jc_rules.specs.declared.key.Key.{Key}
use Rattle.jc_rules.specs.declared.key.Next.{Next}
use Rattle.jc_rules.specs.declared.key.Next.TheVariants.{Tail, Elem as To}
use Rattle.jc_rules.specs.declared.key.Tagged.{Tagged}
use Rattle.jc_rules.specs.declared.key.Tagged.TheVariants.{MapT, ListT, RegT}
use Rattle.jc_rules.specs.declared.value.Value.{Value}
use Rattle.jc_rules.specs.Order.{key_cmp, id_cmp, same_id, same_key}
use Rattle.jc_rules.specs.Entries.{find}
use Rattle.jc_rules.specs.Ids.{has_id, without}
use Rattle.jc_rules.specs.Context.{Context, Register, next, empty}
use Rattle.jc_rules.specs.ContextsAt.{first_key}
use Rattle.jc_rules.specs.Table.{is_done}
use Rattle.jc_rules.proofs.BoolLemmas.{first_true, second_true, neither, no_truth, same_tests}
use Rattle.jc_rules.proofs.IdsLemmas.{same_id-true, has_id-without}
use Rattle.jc_tree.specs.Tree.{or_no_entries}
use Rattle.jc_meaning.specs.Seen.{seen, ids_at, reg_at, value_in_some, value_seen_at, has_tag}
use Rattle.jc_meaning.proofs.OrdersLemmas.{keys_eq, keys_back, keys_self}
use Rattle.jc_meaning.proofs.ClearingEffectsLemmas.{below_reg}
use Rattle.jc_meaning.proofs.ComparedContextsLemmas.{in_all}
use Rattle.jc_effects.specs.Difference.{OwnDifference, same_link, values_without, tag_made, link_changed, own_difference, is_nothing, is_quiet, Differences, no_difference, difference, is_no_difference, differing_keys, is_listed, below, IsSameAt, IsSameFrom, IsDifference}
use Rattle.jc_effects.specs.Parts.{AreLater, with_difference, IsDifferenceAmong}

-- What no word tells: the tags stay, and so does a value under its identifier.
pub record Keeps (k : Key) (c d : Context) : Type 0 where
  pub maps : has_tag (MapT k) c ≡ true → has_tag (MapT k) d ≡ true
  pub lists : has_tag (ListT k) c ≡ true → has_tag (ListT k) d ≡ true
  pub registers : has_tag (RegT k) c ≡ true → has_tag (RegT k) d ≡ true
  pub values : (i : Id) → is_some (value_seen_at i k c) ≡ true → is_some (value_seen_at i k d) ≡ true → value_seen_at i k d ≡ value_seen_at i k c

-- ---- where a key's own entries are quiet, they are the same

pub nothing_is : {X : Type 0} (xs : List X) → is_nothing xs ≡ true → xs ≡ []
nothing_is [] e = refl
nothing_is (x ∷ xs) e = cc

nothing_both : {X : Type 0} (xs ys : List X) → is_nothing (xs ++ ys) ≡ true → (is_nothing xs ≡ true) × (is_nothing ys ≡ true)
nothing_both [] ys e = (refl, e)
nothing_both (x ∷ xs) ys e = cc

pub kept_in : (is js : List Id) → is_nothing (without is js) ≡ true → (i : Id) → has_id i is ≡ true → has_id i js ≡ true
kept_in is js q i h = go (has_id i is) (has_id i js) (ap (has_id i) (sym (nothing_is (without is js) q)) ∙ has_id-without i is js) h
  where
    go : (a b : Bool) → false ≡ (a && not b) → a ≡ true → b ≡ true
    go a true e f = refl
    go true false e f = cc
    go false false e f = cc

values_kept : (r : Register) (k : Key) (d : Context) → is_nothing (values_without r k d) ≡ true → (i : Id) → is_some (find id_cmp i r) ≡ true → is_some (value_seen_at i k d) ≡ true
values_kept [] k d q i f = no_truth f
values_kept (e ∷ es) k d q i f = go (is_some (value_seen_at e.0 k d)) refl (same_id i e.0) refl q f (λ p g. values_kept es k d p i g)
  where
    go : (b : Bool) → is_some (value_seen_at e.0 k d) ≡ b → (s : Bool) → same_id i e.0 ≡ s → is_nothing (values_without (e ∷ es) k d) ≡ true → is_some (find id_cmp i (e ∷ es)) ≡ true → (is_nothing (values_without es k d) ≡ true → is_some (find id_cmp i es) ≡ true → is_some (value_seen_at i k d) ≡ true) → is_some (value_seen_at i k d) ≡ true
    go true x true y p g ih = subst (λ j. is_some (value_seen_at j k d) ≡ true) (sym (same_id-true i e.0 y)) x
    go true x false y p g ih = ih (rw x at p) (rw y at g)
    go false x s y p g ih = let z : false ≡ true = rw x at p in no_truth z

-- a value that is seen is in the register
pub value_found : (o : Option Register) (i : Id) → value_in_some i o ≡ find id_cmp i (or_no_entries o)
value_found None i = refl
value_found (Some r) i = refl

same_value : (v w : Option Value) → (is_some v ≡ true → is_some w ≡ true) → (is_some w ≡ true → is_some v ≡ true) → (is_some v ≡ true → is_some w ≡ true → w ≡ v) → w ≡ v
same_value None None f g h = refl
same_value (Some x) None f g h = no_truth (f refl)
same_value None (Some y) f g h = no_truth (g refl)
same_value (Some x) (Some y) f g h = h refl refl

tag_same : (u : Tagged) (c d : Context) → is_nothing (tag_made u c d) ≡ true → (has_tag u c ≡ true → has_tag u d ≡ true) → has_tag u d ≡ has_tag u c
tag_same u c d q h = go (has_tag u c) (has_tag u d) q h
  where
    go : (a b : Bool) → is_nothing (cond (b && not a) (u ∷ []) []) ≡ true → (a ≡ true → b ≡ true) → b ≡ a
    go true b p f = f refl
    go false true p f = cc
    go false false p f = refl

links_same : (m n : Option Next) → same_link m n ≡ true → n ≡ m
links_same None None e = refl
links_same None (Some Tail) e = no_truth e
links_same None (Some (To j)) e = no_truth e
links_same (Some Tail) None e = no_truth e
links_same (Some Tail) (Some Tail) e = refl
links_same (Some Tail) (Some (To j)) e = no_truth e
links_same (Some (To i)) None e = no_truth e
links_same (Some (To i)) (Some Tail) e = no_truth e
links_same (Some (To i)) (Some (To j)) e = ap (λ x. Some (To x)) (sym (same_id-true i j e))

link_same : (m n : Option Next) → not (is_some (link_changed m n)) ≡ true → n ≡ m
link_same m n e = go (same_link m n) refl e
  where
    go : (b : Bool) → same_link m n ≡ b → not (is_some {T = Option Next × Option Next} (cond b None (Some (m, n)))) ≡ true → n ≡ m
    go true f g = links_same m n f
    go false f g = no_truth g

six : (a b c d e f : Bool) → (a && (b && (c && (d && (e && f))))) ≡ true → (a ≡ true) × (b ≡ true) × (c ≡ true) × (d ≡ true) × (e ≡ true) × (f ≡ true)
six true true true true true true h = (refl, refl, refl, refl, refl, refl)
six false b c d e f h = no_truth h
six true false c d e f h = no_truth h
six true true false d e f h = no_truth h
six true true true false e f h = no_truth h
six true true true true false f h = no_truth h
six true true true true true false h = no_truth h

quiet_same : (k : Key) (c d : Context) → Keeps k c d → is_quiet (own_difference k c d) ≡ true → IsSameAt k c d
quiet_same k c d s q =
    let a = six _ _ _ _ _ _ q in
    let tags = nothing_both (tag_made (MapT k) c d ++ tag_made (ListT k) c d) (tag_made (RegT k) c d) a.2 in
    let two = nothing_both (tag_made (MapT k) c d) (tag_made (ListT k) c d) tags.0 in
    record {
      maps = tag_same (MapT k) c d two.0 s.maps;
      lists = tag_same (ListT k) c d two.1 s.lists;
      registers = tag_same (RegT k) c d tags.1 s.registers;
      ids = λ i. same_tests (has_id i (ids_at k d)) (has_id i (ids_at k c)) (kept_in (ids_at k d) (ids_at k c) a.0 i) (kept_in (ids_at k c) (ids_at k d) a.1 i);
      values = λ i. same_value (value_seen_at i k c) (value_seen_at i k d)
          (λ e. values_kept (or_no_entries (reg_at k c)) k d a.4 i (ap is_some (sym (value_found (reg_at k c) i)) ∙ e))
          (λ e. values_kept (or_no_entries (reg_at k d)) k c a.5 i (ap is_some (sym (value_found (reg_at k d) i)) ∙ e))
          (s.values i);
      links = link_same (next k c) (next k d) a.3;
    }

-- ---- and where below it nothing differs either, all is the same

pub itself : (k : Key) (c : Context) → IsSameAt k c c
itself k c = record { maps = refl; lists = refl; registers = refl; ids = λ i. refl; values = λ i. refl; links = refl }

-- below a register there is nothing
pub same_below_register : (j : Key) (P : List Tagged) (l : Key) (c d : Context) → IsSameAt l (seen P (below (RegT j) c)) (seen P (below (RegT j) d))
same_below_register j P l c d =
    subst (λ z. IsSameAt l (seen P z) (seen P (below (RegT j) d))) (sym (below_reg j c))
    (subst (λ z. IsSameAt l (seen P empty) (seen P z)) (sym (below_reg j d)) (itself l (seen P empty)))

pub same_from : (k : Key) (c d : Context) → IsSameAt k c d → IsDifference (below (MapT k) c) (below (MapT k) d) no_difference → IsDifference (below (ListT k) c) (below (ListT k) d) no_difference → IsSameFrom k c d
same_from k c d s m n [] l e = subst (λ z. IsSameAt z c d) (keys_eq k l e) s
same_from k c d s m n (MapT j ∷ P) l e = subst (λ z. IsSameAt l (seen P (below (MapT z) c)) (seen P (below (MapT z) d))) (keys_eq k j e) (m.complete.others (first_key P l) refl P l (keys_self (first_key P l)))
same_from k c d s m n (ListT j ∷ P) l e = subst (λ z. IsSameAt l (seen P (below (ListT z) c)) (seen P (below (ListT z) d))) (keys_eq k j e) (n.complete.others (first_key P l) refl P l (keys_self (first_key P l)))
same_from k c d s m n (RegT j ∷ P) l e = same_below_register j P l c d

-- ---- one key more

pub none_among : (c d : Context) → IsDifferenceAmong [] c d no_difference
none_among c d = record { rise = tt; among = tt; others = λ k e f. no_truth e; exact = tt }

is_none : (x : Differences) → is_no_difference x ≡ true → x ≡ no_difference
is_none no_difference e = refl
is_none (difference k o m l rest) e = no_truth e

wider : (k : Key) (ks js : List Key) → AllByRecursion (λ j. is_done ks j ≡ true) js → AllByRecursion (λ j. is_done (k ∷ ks) j ≡ true) js
wider k ks [] a = tt
wider k ks (j ∷ js) a = (go (same_key k j) a.0, wider k ks js a.1)
  where
    go : (b : Bool) → is_done ks j ≡ true → cond b true (is_done ks j) ≡ true
    go true e = refl
    go false e = e

later_among : (k : Key) (ks js : List Key) → AreLater k ks → AllByRecursion (λ j. is_done ks j ≡ true) js → AllByRecursion (λ j. key_cmp k j ≡ Less) js
later_among k ks [] h a = tt
later_among k ks (j ∷ js) h a = (in_all (λ i. key_cmp k i ≡ Less) ks j h a.0, later_among k ks js h a.1)

-- nothing differs there
pub same_more : (k : Key) (ks : List Key) (c d : Context) (x : Differences) → IsSameFrom k c d → IsDifferenceAmong ks c d x → IsDifferenceAmong (k ∷ ks) c d x
same_more k ks c d x same xi = record {
  rise = xi.rise;
  among = wider k ks (differing_keys x) xi.among;
  others = λ j f g. other j (same_key k j) refl f g;
  exact = xi.exact;
}
  where
    other : (j : Key) (b : Bool) → same_key k j ≡ b → cond b true (is_done ks j) ≡ true → is_listed j x ≡ false → IsSameFrom j c d
    other j true f g h = subst (λ z. IsSameFrom z c d) (keys_eq k j f) same
    other j false f g h = xi.others j g h

pub one_more : (k : Key) (ks : List Key) (c d : Context) (o : OwnDifference) (m l x : Differences) → AreLater k ks → Keeps k c d → o ≡ own_difference k c d → IsDifference (below (MapT k) c) (below (MapT k) d) m → IsDifference (below (ListT k) c) (below (ListT k) d) l → IsDifferenceAmong ks c d x → IsDifferenceAmong (k ∷ ks) c d (with_difference k o m l x)
one_more k ks c d o m l x later s e mi li xi = go (is_quiet o && (is_no_difference m && is_no_difference l)) refl
  where
    same : (is_quiet o && (is_no_difference m && is_no_difference l)) ≡ true → IsSameFrom k c d
    same q =
        let both = second_true (is_quiet o) (is_no_difference m && is_no_difference l) q in
        let mn : m ≡ no_difference = is_none m (first_true (is_no_difference m) (is_no_difference l) both) in
        let ln : l ≡ no_difference = is_none l (second_true (is_no_difference m) (is_no_difference l) both) in
        same_from k c d (quiet_same k c d s (ap is_quiet (sym e) ∙ first_true (is_quiet o) (is_no_difference m && is_no_difference l) q))
        (subst (IsDifference (below (MapT k) c) (below (MapT k) d)) mn mi)
        (subst (IsDifference (below (ListT k) c) (below (ListT k) d)) ln li)

    away : (j : Key) (b : Bool) → same_key k j ≡ b → cond b true (is_done ks j) ≡ true → (same_key j k ≡ false) × (is_listed j x ≡ false) → IsSameFrom j c d
    away j true f g h = let z : false ≡ true = sym h.0 ∙ keys_back j k ∙ f in no_truth z
    away j false f g h = xi.others j g h.1

    go : (b : Bool) → (is_quiet o && (is_no_difference m && is_no_difference l)) ≡ b → IsDifferenceAmong (k ∷ ks) c d (cond b x (difference k o m l x))
    go true q = same_more k ks c d x (same q) xi
    go false q = record {
      rise = (later_among k ks (differing_keys x) later xi.among, xi.rise);
      among = (ap (λ b. cond b true (is_done ks k)) (keys_self k), wider k ks (differing_keys x) xi.among);
      others = λ j f g. away j (same_key k j) refl f (neither (same_key j k) (is_listed j x) g);
      exact = (e, q, mi.complete, mi.exact, li.complete, li.exact, xi.exact);
    }

-- among all keys that may differ it is the difference
pub all_among : (ks : List Key) (c d : Context) (x : Differences) → ((k : Key) → is_done ks k ≡ false → IsSameFrom k c d) → IsDifferenceAmong ks c d x → IsDifference c d x
all_among ks c d x rest a = record { complete = record { rise = a.rise; others = λ k f. go k (is_done ks k) refl f }; exact = a.exact }
  where
    go : (k : Key) (b : Bool) → is_done ks k ≡ b → is_listed k x ≡ false → IsSameFrom k c d
    go k true e f = a.others k e f
    go k false e f = rest k e

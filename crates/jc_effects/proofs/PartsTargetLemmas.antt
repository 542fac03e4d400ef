-- About Parts: where an operation touches, clears and writes, by its path, and what it takes below its target
-- (`OnlyLoses`).
use Rattle.std.proofs.Common.{◌≡◌, append_assoc, List, [], ◌∷◌, ◌++◌, Bool, true, false, not, ◌||◌, ◌&&◌, cond, Option, Some, None, is_some, refl, sym, ◌∙◌, ap, subst}
use Rattle.jc_rules.specs.declared.id.Id.{Id}
use Rattle.jc_rules.specs.declared.key.Key.{Key}
use Rattle.jc_rules.specs.declared.key.Tagged.{Tagged}
use Rattle.jc_rules.specs.declared.key.Tagged.TheVariants.{MapT, ListT, RegT}
use Rattle.jc_rules.specs.declared.operation.Mutation.{Mutation}
use Rattle.jc_rules.specs.declared.operation.Mutation.TheVariants as M
use Rattle.jc_rules.specs.declared.operation.Op.{Op}
use Rattle.jc_rules.specs.declared.value.Value.{Value}
use Rattle.jc_rules.specs.Order.{same_id, same_key}
use Rattle.jc_rules.specs.Ids.{has_id}
use Rattle.jc_rules.specs.Context.{Context, key_of_tagged}
use Rattle.jc_rules.proofs.BoolLemmas.{no_truth, same_tests, and_false}
use Rattle.jc_vectors.specs.OperationIds.{with_deps}
use Rattle.jc_meaning.specs.Effects.{same_tagged, same_path, is_at_or_above, is_delete, is_insert, is_clearing, target_of, target, touches, clears, written_by, is_made_by, passed, goes_through, value_in, primitive_in}
use Rattle.jc_meaning.specs.Seen.{seen, ids_at, value_seen_at}
use Rattle.jc_meaning.specs.ClearingEffects.{in_key}
use Rattle.jc_meaning.proofs.OperationActsLemmas.{or_else, Changes}
use Rattle.jc_meaning.proofs.OrdersLemmas.{keys_eq, keys_back, keys_self}
use Rattle.jc_meaning.proofs.TagsLemmas.{tags_self}
use Rattle.jc_effects.specs.Difference.{no_difference, below, IsSameAt, IsSameFrom, IsDifference}
use Rattle.jc_effects.specs.Laws.{IsChangedBy, IsAway, LosesNone}
use Rattle.jc_effects.specs.Parts.{OnlyLosesAt, OnlyLoses}
use Rattle.jc_effects.proofs.ElsewhereLemmas.{tidy_before, changes_of, elsewhere}
use Rattle.jc_effects.proofs.LawsPathLemmas.{seen_seen, other_made}
use Rattle.jc_effects.proofs.LossesLemmas.{up}

and_true : (b : Bool) → b ≡ (b && true)
and_true true = refl
and_true false = refl

-- ---- paths

above_on : (P : List Tagged) (t : Tagged) (X : List Tagged) (q : Key) → is_at_or_above P (key_of_tagged t) (P ++ t ∷ X) q ≡ true
above_on [] t X q = keys_self (key_of_tagged t)
above_on (u ∷ us) t X q = ap (λ b. b && is_at_or_above us (key_of_tagged t) (us ++ t ∷ X) q) (tags_self u) ∙ above_on us t X q

not_above : (P : List Tagged) (t : Tagged) (X : List Tagged) (q k : Key) → is_at_or_above (P ++ t ∷ X) q P k ≡ false
not_above [] t X q k = refl
not_above (u ∷ us) t X q k = ap (λ b. b && is_at_or_above (us ++ t ∷ X) q us k) (tags_self u) ∙ not_above us t X q k

not_same : (P : List Tagged) (t : Tagged) (X : List Tagged) → same_path (P ++ t ∷ X) P ≡ false
not_same [] t X = refl
not_same (u ∷ us) t X = ap (λ b. b && same_path (us ++ t ∷ X) us) (tags_self u) ∙ not_same us t X

above_self : (P : List Tagged) (k q : Key) → is_at_or_above P k P q ≡ same_key k q
above_self [] k q = refl
above_self (u ∷ us) k q = ap (λ b. b && is_at_or_above us k us q) (tags_self u) ∙ above_self us k q

not_deeper : (P : List Tagged) (t : Tagged) (R : List Tagged) (l q : Key) → is_at_or_above (P ++ t ∷ R) l P q ≡ false
not_deeper P t R l q = not_above P t R l q

same_shorter : (P : List Tagged) (t : Tagged) (R : List Tagged) → same_path P (P ++ t ∷ R) ≡ false
same_shorter [] t R = refl
same_shorter (u ∷ us) t R = ap (λ b. b && same_path us (us ++ t ∷ R)) (tags_self u) ∙ same_shorter us t R

none_passed : (P : List Tagged) (q : Key) (v : Option Value) (t : Tagged) (R : List Tagged) (u : Tagged) → passed P q v (P ++ t ∷ R) u ≡ false
none_passed [] q v t R u = refl
none_passed (s ∷ ss) q v t R u = ap (λ b. b && passed ss q v (ss ++ t ∷ R) u) (tags_self s) ∙ none_passed ss q v t R u

passed_there : (P : List Tagged) (t : Tagged) (X : List Tagged) (q : Key) (v : Option Value) (u : Tagged) → passed (P ++ t ∷ X) q v P u ≡ same_tagged t u
passed_there [] t X q v u = refl
passed_there (s ∷ ss) t X q v u = ap (λ b. b && passed (ss ++ t ∷ X) q v ss u) (tags_self s) ∙ passed_there ss t X q v u

passed_end : (P : List Tagged) (q : Key) (v : Option Value) (u : Tagged) → passed P q v P u ≡ is_made_by v q u
passed_end [] q v u = refl
passed_end (s ∷ ss) q v u = ap (λ b. b && passed ss q v ss u) (tags_self s) ∙ passed_end ss q v u

-- for what is below a key of the context at the path, the key decides
under_key : (P : List Tagged) (t : Tagged) (X : List Tagged) (q l : Key) → is_at_or_above P q (P ++ t ∷ X) l ≡ same_key q (key_of_tagged t)
under_key [] t X q l = refl
under_key (u ∷ us) t X q l = ap (λ b. b && is_at_or_above us q (us ++ t ∷ X) l) (tags_self u) ∙ under_key us t X q l

-- ---- on the path, at the target, and at another key there

no_value_at : (o : Op) (P : List Tagged) (k : Key) → (same_path o.cursor.path P && same_key (target o) k) ≡ false → written_by o P k ≡ None
no_value_at o P k e = ap (λ z. cond z (primitive_in (value_in o.mutation)) None) e

module _ (o : Op) (P : List Tagged) (t : Tagged) (X : List Tagged) (e : o.cursor.path ≡ P ++ t ∷ X) where
  pub touched_on_path : touches o P (key_of_tagged t) ≡ not (is_delete o.mutation)
  touched_on_path = ap (λ b. not (is_delete o.mutation) && b) (ap (λ p. is_at_or_above P (key_of_tagged t) p (target o)) e ∙ above_on P t X (target o)) ∙ sym (and_true (not (is_delete o.mutation)))

  pub uncleared_on_path : clears o P (key_of_tagged t) ≡ false
  uncleared_on_path = ap (λ b. is_clearing o.mutation && b) (ap (λ p. is_at_or_above p (target o) P (key_of_tagged t)) e ∙ not_above P t X (target o) (key_of_tagged t)) ∙ and_false (is_clearing o.mutation)

  pub off_on_path : same_path o.cursor.path P ≡ false
  off_on_path = ap (λ p. same_path p P) e ∙ not_same P t X

  pub unwritten_on_path : written_by o P (key_of_tagged t) ≡ None
  unwritten_on_path = no_value_at o P (key_of_tagged t) (ap (λ b. b && same_key (target o) (key_of_tagged t)) off_on_path)

  pub passed_on_path : (u : Tagged) → goes_through o P u ≡ same_tagged t u
  passed_on_path u = ap (λ p. passed p (target o) (value_in o.mutation) P u) e ∙ passed_there P t X (target o) (value_in o.mutation) u

pub touched_at_target : (o : Op) (P : List Tagged) (k : Key) → P ≡ o.cursor.path → k ≡ target o → touches o P k ≡ not (is_delete o.mutation)
touched_at_target o P k e f =
    ap (λ b. not (is_delete o.mutation) && b) (ap (λ p. is_at_or_above p k o.cursor.path (target o)) e ∙ above_self o.cursor.path k (target o) ∙ ap (λ z. same_key z (target o)) f ∙ keys_self (target o))
    ∙ sym (and_true (not (is_delete o.mutation)))

-- what doesn't clear clears nowhere
pub uncleared_by : (o : Op) (P : List Tagged) (k : Key) → is_clearing o.mutation ≡ false → clears o P k ≡ false
uncleared_by o P k e = ap (λ b. b && is_at_or_above o.cursor.path (target o) P k) e

insert_clears : (m : Mutation) → is_insert m ≡ true → is_clearing m ≡ false
insert_clears M.Delete e = no_truth e
insert_clears (M.Assign v) e = no_truth e
insert_clears (M.Insert v) e = refl

module _ (o : Op) (k : Key) (is : is_insert o.mutation ≡ true) (other : same_key (target o) k ≡ false) where
  pub untouched_at_link : touches o o.cursor.path k ≡ false
  untouched_at_link = ap (λ b. not (is_delete o.mutation) && b) (above_self o.cursor.path k (target o) ∙ keys_back k (target o) ∙ other) ∙ and_false (not (is_delete o.mutation))

  pub uncleared_at_link : clears o o.cursor.path k ≡ false
  uncleared_at_link = uncleared_by o o.cursor.path k (insert_clears o.mutation is)

  pub unwritten_at_link : written_by o o.cursor.path k ≡ None
  unwritten_at_link = no_value_at o o.cursor.path k (ap (λ b. same_path o.cursor.path o.cursor.path && b) other ∙ and_false (same_path o.cursor.path o.cursor.path))

  pub unpassed_at_link : (u : Tagged) → same_key k (key_of_tagged u) ≡ true → goes_through o o.cursor.path u ≡ false
  unpassed_at_link u f = passed_end o.cursor.path (target o) (value_in o.mutation) u ∙ other_made (value_in o.mutation) (target o) u (ap (same_key (target o)) (sym (keys_eq k (key_of_tagged u) f)) ∙ other)

-- ---- below the target

module _ (o : Op) (c d : Context) (x : IsChangedBy o c d) (t : Tagged) where
  changes : Changes o.id x.0 o.cursor.path o.cursor.last o.mutation c d
  changes = changes_of (with_deps x.0 o) c d x.1

  inside : (c : Context) (R : List Tagged) → seen (o.cursor.path ++ t ∷ R) c ≡ seen R (below t (seen o.cursor.path c))
  inside c R = seen_seen o.cursor.path (t ∷ R) c

  -- what doesn't clear leaves all below its target as it was
  same_inside : is_clearing o.mutation ≡ false → (R : List Tagged) (l : Key) → IsSameAt l (seen R (below t (seen o.cursor.path c))) (seen R (below t (seen o.cursor.path d)))
  same_inside not_clearing R l =
      subst (λ z. IsSameAt l z (seen R (below t (seen o.cursor.path d)))) (inside c R)
      (subst (λ z. IsSameAt l (seen (o.cursor.path ++ t ∷ R) c) z) (inside d R)
      (elsewhere (with_deps x.0 o) c d x.1 (o.cursor.path ++ t ∷ R) l away (ap (λ b. is_insert o.mutation && b) (same_shorter o.cursor.path t R) ∙ and_false (is_insert o.mutation))))
    where
      away : IsAway (with_deps x.0 o) (o.cursor.path ++ t ∷ R) l
      away = record {
        untouched = ap (λ b. not (is_delete o.mutation) && b) (not_deeper o.cursor.path t R l (target o)) ∙ and_false (not (is_delete o.mutation));
        uncleared = ap (λ b. b && is_at_or_above o.cursor.path (target o) (o.cursor.path ++ t ∷ R) l) not_clearing;
        no_map = none_passed o.cursor.path (target o) (value_in o.mutation) t R (MapT l);
        no_list = none_passed o.cursor.path (target o) (value_in o.mutation) t R (ListT l);
        no_register = none_passed o.cursor.path (target o) (value_in o.mutation) t R (RegT l);
      }

  pub none_inside : is_clearing o.mutation ≡ false → IsDifference (below t (seen o.cursor.path c)) (below t (seen o.cursor.path d)) no_difference
  none_inside not_clearing = record { complete = record { rise = tt; others = λ k e R l f. same_inside not_clearing R l }; exact = tt }

  clearing_inserts : (m : Mutation) → is_clearing m ≡ true → is_insert m ≡ false
  clearing_inserts M.Delete e = refl
  clearing_inserts (M.Assign v) e = refl
  clearing_inserts (M.Insert v) e = no_truth e

  unmade : (a b : Bool) → b ≡ false → (a || b) ≡ a
  unmade true b e = refl
  unmade false b e = e

  was_there : (s t x cl y : Bool) → t ≡ false → ((s && t) || (x && not (cl && y))) ≡ true → x ≡ true
  was_there s t true cl y e f = refl
  was_there true true false cl y e f = no_truth (sym e)
  was_there true false false cl y e f = no_truth f
  was_there false t false cl y e f = no_truth f

  still : (s b : Bool) (w v : Option Value) → w ≡ None → is_some (or_else (cond s w None) (cond b None v)) ≡ true → or_else (cond s w None) (cond b None v) ≡ v
  still true true None v e f = no_truth f
  still true false None v e f = refl
  still false true w v e f = no_truth f
  still false false w v e f = refl
  still true b (Some z) v e f = cc

  untouched : (X : List Tagged) (l : Key) → touches o (o.cursor.path ++ t ∷ X) l ≡ false
  untouched X l = ap (λ b. not (is_delete o.mutation) && b) (not_deeper o.cursor.path t X l (target o)) ∙ and_false (not (is_delete o.mutation))

  unwritten : (X : List Tagged) (l : Key) → written_by o (o.cursor.path ++ t ∷ X) l ≡ None
  unwritten X l = no_value_at o (o.cursor.path ++ t ∷ X) l (ap (λ b. b && same_key (target o) l) (same_shorter o.cursor.path t X))

  loses_at : is_clearing o.mutation ≡ true → (R : List Tagged) (l : Key) → OnlyLosesAt l (seen (o.cursor.path ++ t ∷ R) c) (seen (o.cursor.path ++ t ∷ R) d)
  loses_at clearing R l =
      let P = o.cursor.path ++ t ∷ R in
      record {
        maps = changes.tags P (MapT l) ∙ unmade _ _ (none_passed o.cursor.path (target o) (value_in o.mutation) t R (MapT l));
        lists = changes.tags P (ListT l) ∙ unmade _ _ (none_passed o.cursor.path (target o) (value_in o.mutation) t R (ListT l));
        registers = changes.tags P (RegT l) ∙ unmade _ _ (none_passed o.cursor.path (target o) (value_in o.mutation) t R (RegT l));
        ids = λ i e. was_there (same_id i o.id) (touches o P l) (has_id i (ids_at l (seen P c))) _ (has_id i x.0) (untouched R l) (sym (changes.ids P l i) ∙ e);
        values = λ i e. changes.values P l i ∙ still (same_id i o.id) _ (written_by o P l) (value_seen_at i l (seen P c)) (unwritten R l) (ap is_some (sym (changes.values P l i)) ∙ e);
        links = changes.links (clearing_inserts o.mutation clearing) P l;
      }

  -- it takes the same identifiers everywhere below one key
  clears_all : is_clearing o.mutation ≡ true → (X : List Tagged) (l : Key) → clears o (o.cursor.path ++ t ∷ X) l ≡ same_key (target o) (key_of_tagged t)
  clears_all clearing X l = ap (λ b. b && is_at_or_above o.cursor.path (target o) (o.cursor.path ++ t ∷ X) l) clearing ∙ under_key o.cursor.path t X (target o) l

  not_taken : (s h b y : Bool) → true ≡ ((s && false) || (h && not (b && y))) → (b && y) ≡ false
  not_taken s h false y e = refl
  not_taken s h true false e = refl
  not_taken true true true true e = no_truth (sym e)
  not_taken true false true true e = no_truth (sym e)
  not_taken false true true true e = no_truth (sym e)
  not_taken false false true true e = no_truth (sym e)

  stays_there : (s h z : Bool) → h ≡ true → z ≡ false → ((s && false) || (h && not z)) ≡ true
  stays_there true h z e f = rw e (rw f refl)
  stays_there false h z e f = rw e (rw f refl)

  value_stays : (s cl i y : Bool) (w v : Option Value) → w ≡ None → (cl && y) ≡ false → or_else (cond s w None) (cond ((cl || (i && is_some w)) && y) None v) ≡ v
  value_stays true true i true None v e f = no_truth (sym f)
  value_stays true true i false None v e f = refl
  value_stays true false true y None v e f = refl
  value_stays true false false y None v e f = refl
  value_stays false true i true None v e f = no_truth (sym f)
  value_stays false true i false None v e f = refl
  value_stays false false true y None v e f = refl
  value_stays false false false y None v e f = refl
  value_stays s cl i y (Some z) v e f = cc

  module _ (clearing : is_clearing o.mutation ≡ true) (R : List Tagged) (k : Key) (none : LosesNone k (seen (o.cursor.path ++ t ∷ R) c) (seen (o.cursor.path ++ t ∷ R) d)) (Q : List Tagged) (l : Key) (within : in_key k Q l ≡ true) where
    abbrev W : List Tagged
    W = o.cursor.path ++ t ∷ (R ++ Q)

    longer : (o.cursor.path ++ t ∷ R) ++ Q ≡ W
    longer = append_assoc o.cursor.path (t ∷ R) Q

    -- an identifier there is at the key, where it stays
    not_gone : (i : Id) → has_id i (ids_at l (seen W c)) ≡ true → (same_key (target o) (key_of_tagged t) && has_id i x.0) ≡ false
    not_gone i h =
        let there : has_id i (ids_at k (seen (o.cursor.path ++ t ∷ R) c)) ≡ true =
        up c (tidy_before (with_deps x.0 o) c d x.1) Q (o.cursor.path ++ t ∷ R) k l i within (subst (λ p. has_id i (ids_at l (seen p c)) ≡ true) (sym longer) h) in
        not_taken (same_id i o.id) (has_id i (ids_at k (seen (o.cursor.path ++ t ∷ R) c))) (same_key (target o) (key_of_tagged t)) (has_id i x.0)
        (sym (none i there) ∙ changes.ids (o.cursor.path ++ t ∷ R) k i
        ∙ ap (λ b. (same_id i o.id && b) || (has_id i (ids_at k (seen (o.cursor.path ++ t ∷ R) c)) && not (clears o (o.cursor.path ++ t ∷ R) k && has_id i x.0))) (untouched R k)
        ∙ ap (λ b. (same_id i o.id && false) || (has_id i (ids_at k (seen (o.cursor.path ++ t ∷ R) c)) && not (b && has_id i x.0))) (clears_all clearing R k))

    id_stays : (i : Id) → has_id i (ids_at l (seen W c)) ≡ true → has_id i (ids_at l (seen W d)) ≡ true
    id_stays i h =
        changes.ids W l i
        ∙ ap (λ b. (same_id i o.id && b) || (has_id i (ids_at l (seen W c)) && not (clears o W l && has_id i x.0))) (untouched (R ++ Q) l)
        ∙ stays_there (same_id i o.id) (has_id i (ids_at l (seen W c))) (clears o W l && has_id i x.0) h
        (ap (λ b. b && has_id i x.0) (clears_all clearing (R ++ Q) l) ∙ not_gone i h)

    value_same : (i : Id) (v w : Option Value) → value_seen_at i l (seen W d) ≡ v → value_seen_at i l (seen W c) ≡ w → value_seen_at i l (seen W d) ≡ value_seen_at i l (seen W c)
    value_same i None None e f = e ∙ sym f
    value_same i (Some v) w e f = (loses_at clearing (R ++ Q) l).values i (ap is_some e)
    value_same i None (Some w) e f =
        let h : has_id i (ids_at l (seen W c)) ≡ true = (tidy_before (with_deps x.0 o) c d x.1 W).written l i (ap is_some f) in
        changes.values W l i
        ∙ value_stays (same_id i o.id) (clears o W l) (not (is_insert o.mutation)) (has_id i x.0) (written_by o W l) (value_seen_at i l (seen W c)) (unwritten (R ++ Q) l)
        (ap (λ b. b && has_id i x.0) (clears_all clearing (R ++ Q) l) ∙ not_gone i h)

    same_deeper : IsSameAt l (seen W c) (seen W d)
    same_deeper =
        let h : OnlyLosesAt l (seen W c) (seen W d) = loses_at clearing (R ++ Q) l in
        record {
          maps = h.maps;
          lists = h.lists;
          registers = h.registers;
          ids = λ i. same_tests (has_id i (ids_at l (seen W d))) (has_id i (ids_at l (seen W c))) (h.ids i) (id_stays i);
          values = λ i. value_same i (value_seen_at i l (seen W d)) (value_seen_at i l (seen W c)) refl refl;
          links = h.links;
        }

    seen_deeper : (b : Context) → seen W b ≡ seen Q (seen (o.cursor.path ++ t ∷ R) b)
    seen_deeper b = ap (λ p. seen p b) (sym longer) ∙ seen_seen (o.cursor.path ++ t ∷ R) Q b

    pub kept_at : IsSameAt l (seen Q (seen (o.cursor.path ++ t ∷ R) c)) (seen Q (seen (o.cursor.path ++ t ∷ R) d))
    kept_at = subst (λ z. IsSameAt l z (seen Q (seen (o.cursor.path ++ t ∷ R) d))) (seen_deeper c) (subst (λ z. IsSameAt l (seen W c) z) (seen_deeper d) same_deeper)

  -- what clears takes away, and does nothing else there
  pub loses_inside : is_clearing o.mutation ≡ true → OnlyLoses (below t (seen o.cursor.path c)) (below t (seen o.cursor.path d))
  loses_inside clearing = record {
    losses = λ R l.
        subst (λ z. OnlyLosesAt l z (seen R (below t (seen o.cursor.path d)))) (inside c R)
        (subst (λ z. OnlyLosesAt l (seen (o.cursor.path ++ t ∷ R) c) z) (inside d R) (loses_at clearing R l));
    kept = λ R k.
        subst (λ z. LosesNone k z (seen R (below t (seen o.cursor.path d))) → IsSameFrom k z (seen R (below t (seen o.cursor.path d)))) (inside c R)
        (subst (λ z. LosesNone k (seen (o.cursor.path ++ t ∷ R) c) z → IsSameFrom k (seen (o.cursor.path ++ t ∷ R) c) z) (inside d R) (λ none Q l within. kept_at clearing R k none Q l within));
  }

-- what isn't an insert has its last key as its target
pub other_target : (o : Op) → is_insert o.mutation ≡ false → o.cursor.last ≡ target o
other_target o no_insert = go o.mutation no_insert
  where
    go : (m : Mutation) → is_insert m ≡ false → o.cursor.last ≡ target_of m o.id o.cursor.last
    go M.Delete e = refl
    go (M.Assign v) e = refl
    go (M.Insert v) e = no_truth (sym e)

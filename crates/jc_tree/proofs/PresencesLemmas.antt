-- About Undo: identifiers that are added to a presence set, and taken out of it.
use Rattle.std.proofs.Common.{◌≡◌, ℕ, zero, suc, ◌<◌, List, [], ◌∷◌, ◌++◌, length, ◌+◌, slice_get, get_or, remove, Bool, true, false, Option, Some, None, refl, sym, ◌∙◌, ap, arith}
use Rattle.std.specs.List.{AllByRecursion}
use Rattle.std.specs.declared.cmp.Ordering.{Ordering}
use Rattle.std.specs.declared.cmp.Ordering.TheVariants.{Less, Equal, Greater}
use Rattle.jc_rules.specs.declared.id.Id.{Id}
use Rattle.jc_rules.specs.declared.key.Key.{Key}
use Rattle.jc_rules.specs.Order.{id_cmp, key_cmp, same_id}
use Rattle.jc_rules.specs.Entries.{find, put}
use Rattle.jc_rules.specs.Ids.{AreRising, has_id, with_id}
use Rattle.jc_rules.proofs.OrderLemmas.{keys_total, exact_keys, ids_total}
use Rattle.jc_rules.proofs.RisingLemmas.{less_greater, greater_less}
use Rattle.jc_rules.proofs.EntriesLemmas.{found-put, put-put, put-same}
use Rattle.jc_rules.proofs.IdsLemmas.{equal_itself, same_id-self, same_id-true, with-rises}
use Rattle.jc_tree.specs.Tree.{or_no_entries}
use Rattle.jc_tree.specs.Undo.{taken_out, out_of_set}

below_left : (k i : Id) (s : List Id) → AllByRecursion (λ j. id_cmp k j ≡ Less) s → AllByRecursion (λ j. id_cmp k j ≡ Less) (taken_out i s)
below_left k i [] h = tt
below_left k i (j ∷ js) h = go (same_id i j) refl (below_left k i js h.1)
  where
    go : (b : Bool) → same_id i j ≡ b → AllByRecursion (λ j. id_cmp k j ≡ Less) (taken_out i js) → AllByRecursion (λ j. id_cmp k j ≡ Less) (taken_out i (j ∷ js))
    go true p ih = rw p h.1
    go false p ih = rw p (h.0, ih)

pub taken-rises : (i : Id) (s : List Id) → AreRising s → AreRising (taken_out i s)
taken-rises i [] h = tt
taken-rises i (j ∷ js) h = go (same_id i j) refl (taken-rises i js h.1)
  where
    go : (b : Bool) → same_id i j ≡ b → AreRising (taken_out i js) → AreRising (taken_out i (j ∷ js))
    go true p ih = rw p h.1
    go false p ih = rw p (below_left j i js h.0, ih)

pub taken-absent : (i : Id) (s : List Id) → has_id i s ≡ false → taken_out i s ≡ s
taken-absent i [] h = refl
taken-absent i (j ∷ js) h = go (same_id i j) refl (λ g. taken-absent i js g) h
  where
    go : (b : Bool) → same_id i j ≡ b → (has_id i js ≡ false → taken_out i js ≡ js) → has_id i (j ∷ js) ≡ false → taken_out i (j ∷ js) ≡ j ∷ js
    go true p ih g = let no : true ≡ false = rw p at g in cc
    go false p ih g = rw p (ap (λ r. j ∷ r) (ih (rw p at g)))

above_at : (k d : Id) (s : List Id) (p : ℕ) → AllByRecursion (λ j. id_cmp k j ≡ Less) s → p < length s → id_cmp k (get_or s p d) ≡ Less
above_at k d [] p h w = absurd (omega (arith, w))
above_at k d (j ∷ js) zero h w = h.0
above_at k d (j ∷ js) (suc p) h w = above_at k d js p h.1 (omega (arith, w))

pub taken-at : (i : Id) (s : List Id) (p : ℕ) → AreRising s → p < length s → get_or s p i ≡ i → taken_out i s ≡ remove s p
taken-at i [] p h w e = absurd (omega (arith, w))
taken-at i (j ∷ js) zero h w e = rw (e, same_id-self i) refl
taken-at i (j ∷ js) (suc p) h w e = go (same_id i j) refl (taken-at i js p h.1 (omega (arith, w)) e)
  where
    go : (b : Bool) → same_id i j ≡ b → taken_out i js ≡ remove js p → taken_out i (j ∷ js) ≡ remove (j ∷ js) (suc p)
    go true q ih =
        let same : i ≡ j = same_id-true i j q in
        let less : id_cmp j i ≡ Less = ap (λ x. id_cmp j x) (sym e) ∙ above_at j i js p h.0 (omega (arith, w)) in
        let no : Equal ≡ Less = sym (equal_itself j) ∙ ap (λ x. id_cmp j x) (sym same) ∙ less in
        cc
    go false q ih = rw q (ap (λ r. j ∷ r) ih)

-- an identifier that is added and taken out again
pub out-with : (i : Id) (s : List Id) → has_id i s ≡ false → taken_out i (with_id i s) ≡ s
out-with i [] h = rw (same_id-self i) refl
out-with i (j ∷ js) h = go (id_cmp i j) refl (λ g. out-with i js g) h
  where
    go : (o : Ordering) → id_cmp i j ≡ o → (has_id i js ≡ false → taken_out i (with_id i js) ≡ js) → has_id i (j ∷ js) ≡ false → taken_out i (with_id i (j ∷ js)) ≡ j ∷ js
    go Less p ih g = rw p (rw (same_id-self i) refl)
    go Equal p ih g = let n : true ≡ false = rw p at g in cc
    go Greater p ih g = rw (p, p) (ap (λ r. j ∷ r) (ih (rw p at g)))

-- the same in a key's set
pub set-out : (k : Key) (i : Id) (s : List Id) (es : List (Key × List Id)) → find key_cmp k es ≡ Some s → has_id i s ≡ false → out_of_set k i (find key_cmp k (put key_cmp k (with_id i s) es)) (put key_cmp k (with_id i s) es) ≡ es
set-out k i s es e h =
    ap (λ o. out_of_set k i o (put key_cmp k (with_id i s) es)) (found-put keys_total exact_keys k (with_id i s) es)
    ∙ ap (λ v. put key_cmp k v (put key_cmp k (with_id i s) es)) (out-with i s h)
    ∙ put-put keys_total exact_keys k s (with_id i s) es
    ∙ put-same keys_total exact_keys k s es e

pub rising_there : (o : Option (List Id)) → ((s : List Id) → o ≡ Some s → AreRising s) → AreRising (or_no_entries o)
rising_there None h = tt
rising_there (Some s) h = h s refl

same_last : (i j : Id) → Some i ≡ Some j → i ≡ j
same_last i j h = cc

-- an identifier above all of a set isn't there, and comes last
pub above_absent : (i : Id) (s : List Id) → AllByRecursion (λ j. id_cmp j i ≡ Less) s → has_id i s ≡ false
above_absent i [] h = refl
above_absent i (j ∷ js) h = rw (less_greater ids_total j i h.0) (above_absent i js h.1)

pub above_with : (i : Id) (s : List Id) → AllByRecursion (λ j. id_cmp j i ≡ Less) s → with_id i s ≡ s ++ i ∷ []
above_with i [] h = refl
above_with i (j ∷ js) h = rw (less_greater ids_total j i h.0) (ap (λ l. j ∷ l) (above_with i js h.1))

pub above_rises : (i : Id) (s : List Id) → AreRising s → AllByRecursion (λ j. id_cmp j i ≡ Less) s → AreRising (s ++ i ∷ [])
above_rises i s r h = rw (← above_with i s h) (with-rises i s r)

-- what is above the last one of a rising set is above all
pub above_last : (i l : Id) (s : List Id) (n : ℕ) → AreRising s → n + 1 ≡ length s → slice_get s n ≡ Some l → id_cmp i l ≡ Greater → AllByRecursion (λ j. id_cmp j i ≡ Less) s
above_last i l [] n r q e h = tt
above_last i l (j ∷ []) zero r q e h = (greater_less ids_total i j (ap (id_cmp i) (same_last j l e) ∙ h), tt)
above_last i l (j ∷ []) (suc n) r q e h = absurd (omega (arith, q))
above_last i l (j ∷ k ∷ js) zero r q e h = absurd (omega (arith, q))
above_last i l (j ∷ k ∷ js) (suc n) r q e h =
    let rest = above_last i l (k ∷ js) n r.1 (omega (arith, q)) e h in
    (ids_total.trans j k i r.0.0 rest.0, rest)

pub found_there : (i : Id) (s : List Id) (n : ℕ) → slice_get s n ≡ Some i → has_id i s ≡ true
found_there i [] n h = cc
found_there i (j ∷ js) zero h = let e : j ≡ i = same_last j i h in rw (e, same_id-self i) refl
found_there i (j ∷ js) (suc n) h = go (same_id i j) refl (found_there i js n h)
  where
    go : (b : Bool) → same_id i j ≡ b → has_id i js ≡ true → has_id i (j ∷ js) ≡ true
    go true p f = rw p refl
    go false p f = rw p f

-- About Counted: how many presence sets have an identifier after one of them changed.
use Rattle.std.proofs.Common.{◌≡◌, ℕ, ◌+◌, List, [], ◌∷◌, Bool, true, false, not, cond, Option, Some, None, refl, sym, ◌∙◌, ap, arith}
use Rattle.std.specs.declared.cmp.Ordering.{Ordering}
use Rattle.std.specs.declared.cmp.Ordering.TheVariants.{Less, Equal, Greater}
use Rattle.std.proofs.lemmas.List.Sums.{sum_by-cons}
use Rattle.jc_rules.specs.declared.id.Id.{Id}
use Rattle.jc_rules.specs.declared.key.Key.{Key}
use Rattle.jc_rules.specs.Order.{key_cmp, id_cmp}
use Rattle.jc_rules.specs.Entries.{find, replaced, placed, put}
use Rattle.jc_rules.specs.Ids.{with_id}
use Rattle.jc_tree.specs.Tree.{or_no_entries, has_ids, count_present}
use Rattle.jc_tree.specs.Counted.{is_last}
use Rattle.jc_tree.specs.Undo.{removed, restored, taken_out, out_of_set}
use Rattle.jc_tree.proofs.SortedMapLemmas.{replaced_absent}

abbrev pub one_if : Bool → ℕ
one_if b = cond b 1 0

-- one where the set has an identifier
abbrev pub one : List Id → ℕ
one s = one_if (has_ids s)

abbrev pub one_of : Option (List Id) → ℕ
one_of o = one (or_no_entries o)

pub count_cons : (e : Key × List Id) (es : List (Key × List Id)) → count_present (e ∷ es) ≡ one e.1 + count_present es
count_cons e es = sum_by-cons (λ (d : Key × List Id). cond (has_ids d.1) 1 0) e es

-- the set of an entry that is put in another's place
swap : (e d : Key × List Id) (es : List (Key × List Id)) → count_present (d ∷ es) + one e.1 ≡ count_present (e ∷ es) + one d.1
swap e d es = omega (arith, count_cons e es, count_cons d es)

-- an entry before two lists that differ by as much
before : (e : Key × List Id) (ds es : List (Key × List Id)) (a b : ℕ) → count_present ds + a ≡ count_present es + b → count_present (e ∷ ds) + a ≡ count_present (e ∷ es) + b
before e ds es a b h = omega (arith, count_cons e ds, count_cons e es, h)

same_some : {A : Type 0} (x y : A) → Some x ≡ Some y → x ≡ y
same_some x y h = cc

count_replaced : (k : Key) (s t : List Id) (es : List (Key × List Id)) → find key_cmp k es ≡ Some t → count_present (replaced key_cmp k s es) + one t ≡ count_present es + one s
count_replaced k s t [] h = cc
count_replaced k s t (e ∷ es) h = go (key_cmp k e.0) refl (λ f. count_replaced k s t es f) h
  where
    go : (o : Ordering) → key_cmp k e.0 ≡ o → (find key_cmp k es ≡ Some t → count_present (replaced key_cmp k s es) + one t ≡ count_present es + one s) → find key_cmp k (e ∷ es) ≡ Some t → count_present (replaced key_cmp k s (e ∷ es)) + one t ≡ count_present (e ∷ es) + one s
    go Less p ih f = rw p (before e (replaced key_cmp k s es) es (one t) (one s) (ih (rw p at f)))
    go Equal p ih f = let is : Some e.1 ≡ Some t = rw p at f in rw (p, ← same_some e.1 t is) (swap e (k, s) es)
    go Greater p ih f = rw p (before e (replaced key_cmp k s es) es (one t) (one s) (ih (rw p at f)))

count_placed : (k : Key) (s : List Id) (es : List (Key × List Id)) → count_present (placed key_cmp k s es) ≡ count_present es + one s
count_placed k s [] = omega (arith, count_cons (k, s) [])
count_placed k s (e ∷ es) = go (key_cmp k e.0) refl (count_placed k s es)
  where
    go : (o : Ordering) → key_cmp k e.0 ≡ o → count_present (placed key_cmp k s es) ≡ count_present es + one s → count_present (placed key_cmp k s (e ∷ es)) ≡ count_present (e ∷ es) + one s
    go Less p ih = rw p (omega (arith, count_cons (k, s) (e ∷ es)))
    go Equal p ih = rw p (omega (arith, count_cons (k, s) (e ∷ es)))
    go Greater p ih = rw p (omega (arith, ih, count_cons e (placed key_cmp k s es), count_cons e es))

-- once a key was given a set
pub count_put : (k : Key) (s : List Id) (es : List (Key × List Id)) → count_present (put key_cmp k s es) + one_of (find key_cmp k es) ≡ count_present es + one s
count_put k s es = go (find key_cmp k es) refl
  where
    go : (o : Option (List Id)) → find key_cmp k es ≡ o → count_present (put key_cmp k s es) + one_of (find key_cmp k es) ≡ count_present es + one s
    go None p = rw p (omega (arith, count_placed k s es))
    go (Some t) p = rw p (count_replaced k s t es p)

count_removed : (k : Key) (es : List (Key × List Id)) → count_present (removed key_cmp k es) + one_of (find key_cmp k es) ≡ count_present es
count_removed k [] = refl
count_removed k (e ∷ es) = go (key_cmp k e.0) refl (count_removed k es)
  where
    go : (o : Ordering) → key_cmp k e.0 ≡ o → count_present (removed key_cmp k es) + one_of (find key_cmp k es) ≡ count_present es → count_present (removed key_cmp k (e ∷ es)) + one_of (find key_cmp k (e ∷ es)) ≡ count_present (e ∷ es)
    go Less p ih = rw p (omega (arith, ih, count_cons e (removed key_cmp k es), count_cons e es))
    go Equal p ih = rw p (omega (arith, count_cons e es))
    go Greater p ih = rw p (omega (arith, ih, count_cons e (removed key_cmp k es), count_cons e es))

-- once a key that has a set was given its former one
pub count_restored : (k : Key) (o : Option (List Id)) (t : List Id) (es : List (Key × List Id)) → find key_cmp k es ≡ Some t → count_present (restored key_cmp k o es) + one t ≡ count_present es + one_of o
count_restored k None t es h = omega (arith, count_removed k es, ap one_of h)
count_restored k (Some s) t es h = count_replaced k s t es h

removed_absent : (k : Key) (es : List (Key × List Id)) → find key_cmp k es ≡ None → removed key_cmp k es ≡ es
removed_absent k [] h = refl
removed_absent k (e ∷ es) h = go (key_cmp k e.0) refl (λ f. removed_absent k es f) h
  where
    go : (o : Ordering) → key_cmp k e.0 ≡ o → (find key_cmp k es ≡ None → removed key_cmp k es ≡ es) → find key_cmp k (e ∷ es) ≡ None → removed key_cmp k (e ∷ es) ≡ e ∷ es
    go Less p ih f = rw p (ap (λ r. e ∷ r) (ih (rw p at f)))
    go Equal p ih f = let n : Some e.1 ≡ None = rw p at f in cc
    go Greater p ih f = rw p (ap (λ r. e ∷ r) (ih (rw p at f)))

-- a key without a set keeps none
pub restored_absent : (k : Key) (o : Option (List Id)) (es : List (Key × List Id)) → find key_cmp k es ≡ None → restored key_cmp k o es ≡ es
restored_absent k None es h = removed_absent k es h
restored_absent k (Some s) es h = replaced_absent k s es h

-- a set with one identifier more has one
pub has_added : (i : Id) (s : List Id) → has_ids (with_id i s) ≡ true
has_added i [] = refl
has_added i (j ∷ js) = go (id_cmp i j) refl
  where
    go : (o : Ordering) → id_cmp i j ≡ o → has_ids (with_id i (j ∷ js)) ≡ true
    go Less p = rw p refl
    go Equal p = rw p refl
    go Greater p = rw p refl

-- what has an identifier after one was taken out had one before
one_left : (i : Id) (s : List Id) → one (taken_out i s) + cond (is_last i s) 1 0 ≡ one s
one_left i [] = refl
one_left i (j ∷ js) = go (has_ids (taken_out i (j ∷ js))) refl
  where
    go : (b : Bool) → has_ids (taken_out i (j ∷ js)) ≡ b → one (taken_out i (j ∷ js)) + cond (is_last i (j ∷ js)) 1 0 ≡ one (j ∷ js)
    go true p = rw p refl
    go false p = rw p refl

-- once an identifier was taken out of a key's set
pub count_out : (k : Key) (i : Id) (es : List (Key × List Id)) → count_present (out_of_set k i (find key_cmp k es) es) + cond (is_last i (or_no_entries (find key_cmp k es))) 1 0 ≡ count_present es
count_out k i es = go (find key_cmp k es) refl
  where
    go : (o : Option (List Id)) → find key_cmp k es ≡ o → count_present (out_of_set k i (find key_cmp k es) es) + cond (is_last i (or_no_entries (find key_cmp k es))) 1 0 ≡ count_present es
    go None p = rw p (omega arith)
    go (Some s) p = rw p (omega (arith, count_put k (taken_out i s) es, ap one_of p, one_left i s))

pub some_left : {a b : Bool} → a ≡ not b → not a ≡ b
some_left {b} h = ap not h ∙ twice b
  where
    twice : (b : Bool) → not (not b) ≡ b
    twice true = refl
    twice false = refl

module _ (n : ℕ) (k : Key) (es : List (Key × List Id)) (count : n ≡ count_present es) where
  ones : {a b : Bool} → a ≡ b → one_if a ≡ one_if b
  ones h = ap one_if h

  pub counted_put : (s : List Id) (new : List (Key × List Id)) (o : Option (List Id)) (empty was : Bool) → empty ≡ not (has_ids s) → was ≡ has_ids (or_no_entries o) → o ≡ find key_cmp k es → new ≡ put key_cmp k s es → n + cond (not empty) 1 0 ≡ count_present new + cond was 1 0
  counted_put s new o empty was h g f e =
      omega (arith, count, ones (some_left h), ones (g ∙ ap (λ p. has_ids (or_no_entries p)) f), ap count_present e, count_put k s es)

  pub counted_add : (i : Id) (new : List (Key × List Id)) (was : Bool) → was ≡ has_ids (or_no_entries (find key_cmp k es)) → new ≡ put key_cmp k (with_id i (or_no_entries (find key_cmp k es))) es → n + 1 ≡ count_present new + cond was 1 0
  counted_add i new was g e =
      let s = with_id i (or_no_entries (find key_cmp k es)) in
      omega (arith, count, ones (has_added i (or_no_entries (find key_cmp k es))), ones g, ap count_present e, count_put k s es)

  pub counted_restore : (s : List Id) (new : List (Key × List Id)) (o : Option (List Id)) (empty is : Bool) → Some s ≡ find key_cmp k es → is ≡ has_ids (or_no_entries o) → empty ≡ not (has_ids s) → new ≡ restored key_cmp k o es → n + cond is 1 0 ≡ count_present new + cond (not empty) 1 0
  counted_restore s new o empty is f g h e =
      omega (arith, count, ones (some_left h), ones g, ap count_present e, count_restored k o s es (sym f))

  pub counted_out : (i : Id) (new : List (Key × List Id)) (last : Bool) → last ≡ is_last i (or_no_entries (find key_cmp k es)) → new ≡ out_of_set k i (find key_cmp k es) es → n + 0 ≡ count_present new + cond last 1 0
  counted_out i new last h e = omega (arith, count, ones h, ap count_present e, count_out k i es)

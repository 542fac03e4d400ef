-- About Walks: a walk over keys, from each to the least above it, and over entries that rise by key.
use Rattle.std.proofs.Common.{◌≡◌, ◌≢◌, ◌<◌, ◌≤◌, ◌⊎◌, List, [], ◌∷◌, ◌++◌, length, filter, Bool, true, false, Option, Some, None, refl, sym, ◌∙◌, ap, subst, arith, inl, inr}
use Rattle.std.specs.List.{AllByRecursion}
use Rattle.std.specs.Ordering.{is_lt}
use Rattle.std.specs.declared.cmp.Ordering.{Ordering}
use Rattle.std.specs.declared.cmp.Ordering.TheVariants.{Less, Equal, Greater}
use Rattle.std.specs.Cmp.{tied_itself}
use Rattle.jc_rules.specs.declared.key.Key.{Key}
use Rattle.jc_rules.specs.Order.{key_cmp}
use Rattle.jc_rules.specs.Entries.{IsRising, keys_of, find}
use Rattle.jc_rules.specs.Table.{lesser, least}
use Rattle.jc_rules.proofs.OrderLemmas.{keys_total, exact_keys}
use Rattle.jc_rules.proofs.RisingLemmas.{greater_less}
use Rattle.jc_tree.specs.Tree.{is_after, least_after}
use Rattle.jc_tree.specs.Walks.{keys_above, entry_of}

-- ---- lists of keys

abbrev IsAmong : Key → List Key → Type 0
IsAmong k [] = ⊥
IsAmong k (j ∷ js) = (k ≡ j) ⊎ IsAmong k js

-- what the least key of a list is
record IsLeast (k : Key) (ks : List Key) : Type 0 where
  among : IsAmong k ks
  below : AllByRecursion (λ j. key_cmp k j ≢ Greater) ks

pub none_found : (k : Key) (o : Option Key) → lesser k o ≢ None
none_found k None e = cc
none_found k (Some j) e = go (key_cmp k j) refl
  where
    go : (o : Ordering) → key_cmp k j ≡ o → ⊥
    go Less f = let h : Some k ≡ None = rw f at e in cc
    go Equal f = let h : Some k ≡ None = rw f at e in cc
    go Greater f = let h : Some j ≡ None = rw f at e in cc

empty_list : (ks : List Key) → least ks ≡ None → ks ≡ []
empty_list [] e = refl
empty_list (k ∷ ks) e = absurd (none_found k (least ks) e)

not_above : (j k : Key) → key_cmp j k ≡ Less → key_cmp j k ≢ Greater
not_above j k e g = let h : Less ≡ Greater = sym e ∙ g in cc

itself : (k : Key) → key_cmp k k ≢ Greater
itself k g = let h : Equal ≡ Greater = sym (tied_itself keys_total k) ∙ g in cc

less_over : (i j k : Key) → key_cmp i j ≡ Less → key_cmp j k ≢ Greater → key_cmp i k ≡ Less
less_over i j k e n = go (key_cmp j k) refl
  where
    go : (o : Ordering) → key_cmp j k ≡ o → key_cmp i k ≡ Less
    go Less f = keys_total.trans i j k e f
    go Equal f = let s : j ≡ k = exact_keys j k f in rw (← s) e
    go Greater f = absurd (n f)

below_all : (i j : Key) (ks : List Key) → key_cmp i j ≡ Less → AllByRecursion (λ k. key_cmp j k ≢ Greater) ks → AllByRecursion (λ k. key_cmp i k ≢ Greater) ks
below_all i j [] e a = tt
below_all i j (k ∷ ks) e a = (not_above i k (less_over i j k e a.0), below_all i j ks e a.1)

least_is : (k : Key) (ks : List Key) → least ks ≡ Some k → IsLeast k ks
least_is k [] e = cc
least_is k (j ∷ ks) e = go (least ks) refl (λ i f. least_is i ks f)
  where
    pick : (i : Key) (o : Ordering) → key_cmp j i ≡ o → least ks ≡ Some i → IsLeast i ks → IsLeast k (j ∷ ks)
    pick i Less f g h = let s : j ≡ k = let t : Some j ≡ Some k = rw (g, f) at e in cc in rw (← s) (record { among = inl refl; below = (itself j, below_all j i ks f h.below) })
    pick i Equal f g h =
        let s : j ≡ k = let t : Some j ≡ Some k = rw (g, f) at e in cc in
        let t : j ≡ i = exact_keys j i f in
        rw (← s) (record { among = inl refl; below = (itself j, subst (λ (x : Key). AllByRecursion (λ y. key_cmp x y ≢ Greater) ks) (sym t) h.below) })
    pick i Greater f g h = let s : i ≡ k = let t : Some i ≡ Some k = rw (g, f) at e in cc in rw (← s) (record { among = inr h.among; below = (not_above i j (greater_less keys_total j i f), h.below) })

    go : (o : Option Key) → least ks ≡ o → ((i : Key) → least ks ≡ Some i → IsLeast i ks) → IsLeast k (j ∷ ks)
    go None f ih =
        let n : ks ≡ [] = empty_list ks f in
        let s : j ≡ k = let t : Some j ≡ Some k = rw f at e in cc in
        rw (n, ← s) (record { among = inl refl; below = (itself j, tt) })
    go (Some i) f ih = pick i (key_cmp j i) refl f (ih i f)

module _ (p : Key → Bool) where
  among-filter : (k : Key) (ks : List Key) → IsAmong k (filter p ks) → (p k ≡ true) × IsAmong k ks
  among-filter k [] h = absurd h
  among-filter k (j ∷ ks) h = go (p j) refl (among-filter k ks) h
    where
      either : p j ≡ true → (IsAmong k (filter p ks) → (p k ≡ true) × IsAmong k ks) → (k ≡ j) ⊎ IsAmong k (filter p ks) → (p k ≡ true) × IsAmong k (j ∷ ks)
      either e ih (inl s) = (rw s e, inl s)
      either e ih (inr f) = let r = ih f in (r.0, inr r.1)

      go : (b : Bool) → p j ≡ b → (IsAmong k (filter p ks) → (p k ≡ true) × IsAmong k ks) → IsAmong k (filter p (j ∷ ks)) → (p k ≡ true) × IsAmong k (j ∷ ks)
      go true e ih f = either e ih (rw e at f)
      go false e ih f = let r = ih (rw e at f) in (r.0, inr r.1)

  all-filter : (P : Key → Type 0) (ks : List Key) → AllByRecursion P (filter p ks) → AllByRecursion (λ k. p k ≡ true → P k) ks
  all-filter P [] a = tt
  all-filter P (j ∷ ks) a = go (p j) refl (all-filter P ks) a
    where
      go : (b : Bool) → p j ≡ b → (AllByRecursion P (filter p ks) → AllByRecursion (λ k. p k ≡ true → P k) ks) → AllByRecursion P (filter p (j ∷ ks)) → AllByRecursion (λ k. p k ≡ true → P k) (j ∷ ks)
      go true e ih b = let c : AllByRecursion P (j ∷ filter p ks) = rw e at b in ((λ _. c.0), ih c.1)
      go false e ih b = ((λ f. absurd (let g : true ≡ false = sym f ∙ e in let h : ⊥ = cc in h)), ih (rw e at b))

  none-filter : (ks : List Key) → filter p ks ≡ [] → AllByRecursion (λ k. p k ≡ false) ks
  none-filter [] e = tt
  none-filter (j ∷ ks) e = go (p j) refl (none-filter ks) e
    where
      go : (b : Bool) → p j ≡ b → (filter p ks ≡ [] → AllByRecursion (λ k. p k ≡ false) ks) → filter p (j ∷ ks) ≡ [] → AllByRecursion (λ k. p k ≡ false) (j ∷ ks)
      go true f ih g = let h : j ∷ filter p ks ≡ [] = rw f at g in cc
      go false f ih g = (f, ih (rw f at g))

  module _ (q : Key → Bool) (fewer : (k : Key) → q k ≡ true → p k ≡ true) where
    no_more : (ks : List Key) → length (filter q ks) ≤ length (filter p ks)
    no_more [] = omega arith
    no_more (j ∷ ks) = go (q j) (p j) refl refl (no_more ks)
      where
        go : (b d : Bool) → q j ≡ b → p j ≡ d → length (filter q ks) ≤ length (filter p ks) → length (filter q (j ∷ ks)) ≤ length (filter p (j ∷ ks))
        go true true e f ih = rw (e, f) (omega arith)
        go true false e f ih = absurd (let g : true ≡ false = sym (fewer j e) ∙ f in let h : ⊥ = cc in h)
        go false true e f ih = rw (e, f) (omega arith)
        go false false e f ih = rw (e, f) ih

    -- one of them passes the first test alone
    less_by : (k : Key) (ks : List Key) → IsAmong k ks → p k ≡ true → q k ≡ false → length (filter q ks) < length (filter p ks)
    less_by k [] h y n = absurd h
    less_by k (j ∷ ks) (inl s) y n =
        let e : q j ≡ false = rw (← s) n in
        let f : p j ≡ true = rw (← s) y in
        let m = no_more ks in
        rw (e, f) (omega arith)
    less_by k (j ∷ ks) (inr h) y n = go (q j) (p j) refl refl (less_by k ks h y n)
      where
        go : (b d : Bool) → q j ≡ b → p j ≡ d → length (filter q ks) < length (filter p ks) → length (filter q (j ∷ ks)) < length (filter p (j ∷ ks))
        go true true e f ih = rw (e, f) (omega arith)
        go true false e f ih = absurd (let g : true ≡ false = sym (fewer j e) ∙ f in let h : ⊥ = cc in h)
        go false true e f ih = rw (e, f) (omega arith)
        go false false e f ih = rw (e, f) ih

-- ---- one step

-- the key is the next one after the last
pub record IsNext (last : Option Key) (ks : List Key) (k : Key) : Type 0 where
  pub after : is_after last k ≡ true
  pub below : AllByRecursion (λ j. is_after last j ≡ true → key_cmp k j ≢ Greater) ks
  pub fewer : length (filter (λ j. is_after (Some k) j) ks) < length (filter (λ j. is_after last j) ks)

pub lt_less : (i j : Key) → is_lt (key_cmp i j) ≡ true → key_cmp i j ≡ Less
lt_less i j e = go (key_cmp i j) refl
  where
    go : (o : Ordering) → key_cmp i j ≡ o → key_cmp i j ≡ Less
    go Less f = f
    go Equal f = let h : false ≡ true = rw f at e in cc
    go Greater f = let h : false ≡ true = rw f at e in cc

-- what is above a key that is after the last is after the last too
pub after_over : (last : Option Key) (k j : Key) → is_after last k ≡ true → key_cmp k j ≡ Less → is_after last j ≡ true
after_over None k j a l = refl
after_over (Some i) k j a l = rw (keys_total.trans i k j (lt_less i k a) l) refl

pub next_is : (last : Option Key) (ks : List Key) (k : Key) → least_after last ks ≡ Some k → IsNext last ks k
next_is last ks k e =
    let l : IsLeast k (filter (λ j. is_after last j) ks) = least_is k _ e in
    let w = among-filter (λ j. is_after last j) k ks l.among in
    let no : is_after (Some k) k ≡ false = rw (tied_itself keys_total k) refl in
    record {
      after = w.0;
      below = all-filter (λ j. is_after last j) (λ j. key_cmp k j ≢ Greater) ks l.below;
      fewer = less_by (λ j. is_after last j) (λ j. is_after (Some k) j) (λ j h. after_over last k j w.0 (lt_less k j h)) k ks w.1 w.0 no;
    }

pub none_is : (last : Option Key) (ks : List Key) → least_after last ks ≡ None → AllByRecursion (λ j. is_after last j ≡ false) ks
none_is last ks e = none-filter (λ j. is_after last j) ks (empty_list _ e)

-- ---- entries

module _ {X : Type 0} where
  pub above-none : (es : List (Key × X)) → keys_above None es ≡ es
  above-none [] = refl
  above-none (e ∷ es) = ap (λ r. e ∷ r) (above-none es)

  pub all_above : (last : Option Key) (k : Key) (es : List (Key × X)) → is_after last k ≡ true → AllByRecursion (λ j. key_cmp k j ≡ Less) (keys_of es) → keys_above last es ≡ es
  all_above last k [] a h = refl
  all_above last k (e ∷ es) a h = rw (after_over last k e.0 a h.0) (ap (λ r. e ∷ r) (all_above last k es a h.1))

  -- nothing is left
  pub none_above : (last : Option Key) (es : List (Key × X)) → AllByRecursion (λ j. is_after last j ≡ false) (keys_of es) → keys_above last es ≡ []
  none_above last [] h = refl
  none_above last (e ∷ es) h = rw h.0 (none_above last es h.1)

  not_found : (k : Key) (es : List (Key × X)) → AllByRecursion (λ j. key_cmp k j ≡ Less) (keys_of es) → find key_cmp k es ≡ None
  not_found k [] h = refl
  not_found k (e ∷ es) h = rw h.0 (not_found k es h.1)

  -- Of the entries that are left, the next key's comes first.
  pub step : (last : Option Key) (k : Key) (es : List (Key × X)) → is_after last k ≡ true → AllByRecursion (λ j. is_after last j ≡ true → key_cmp k j ≢ Greater) (keys_of es) → IsRising key_cmp (keys_of es)
      → keys_above last es ≡ entry_of k (find key_cmp k es) ++ keys_above (Some k) es
  step last k [] a h r = refl
  step last k (e ∷ es) a h r = go (key_cmp k e.0) refl (step last k es a h.1 r.1)
    where
      over : (j : Key) → key_cmp k e.0 ≡ Less → key_cmp e.0 j ≡ Less → key_cmp k j ≡ Less
      over j f g = keys_total.trans k e.0 j f g

      all_over : (es : List (Key × X)) → key_cmp k e.0 ≡ Less → AllByRecursion (λ j. key_cmp e.0 j ≡ Less) (keys_of es) → AllByRecursion (λ j. key_cmp k j ≡ Less) (keys_of es)
      all_over [] f b = tt
      all_over (d ∷ es) f b = (over d.0 f b.0, all_over es f b.1)

      before : (b : Bool) → is_after last e.0 ≡ b → key_cmp k e.0 ≡ Greater → is_after last e.0 ≡ false
      before false g f = g
      before true g f = absurd (h.0 g f)

      go : (o : Ordering) → key_cmp k e.0 ≡ o → keys_above last es ≡ entry_of k (find key_cmp k es) ++ keys_above (Some k) es → keys_above last (e ∷ es) ≡ entry_of k (find key_cmp k (e ∷ es)) ++ keys_above (Some k) (e ∷ es)
      go Less f ih =
          let all = all_over es f r.0 in
          rw (after_over last k e.0 a f, f, not_found k es all) (ap (λ l. e ∷ l) (all_above last k es a all ∙ sym (all_above (Some k) e.0 es (rw f refl) r.0)))
      go Equal f ih =
          let s : k ≡ e.0 = exact_keys k e.0 f in
          let y : is_after last e.0 ≡ true = rw (← s) a in
          let rest : AllByRecursion (λ j. key_cmp k j ≡ Less) (keys_of es) = rw s r.0 in
          rw (y, f) (ap (λ (j : Key). (j, e.1) ∷ keys_above last es) (sym s) ∙ ap (λ l. (k, e.1) ∷ l) (all_above last k es a rest ∙ sym (all_above_itself es rest)))
        where
          all_above_itself : (es : List (Key × X)) → AllByRecursion (λ j. key_cmp k j ≡ Less) (keys_of es) → keys_above (Some k) es ≡ es
          all_above_itself [] b = refl
          all_above_itself (d ∷ es) b = rw b.0 (ap (λ l. d ∷ l) (all_above_itself es b.1))
      go Greater f ih = rw (before (is_after last e.0) refl f, f) ih

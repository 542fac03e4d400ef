-- About ContentKeys: the keys of a context in a list, and which are left of them.
use Rattle.std.proofs.Common.{◌≡◌, ◌≢◌, ◌⊎◌, inl, inr, ℕ, zero, suc, ◌<◌, List, [], ◌∷◌, ◌++◌, length, filter, slice_index_or, Contains, Option, Some, None, Bool, true, false, is_some, ◌||◌, refl, sym, ◌∙◌, ap, subst, arith}
use Rattle.std.specs.List.{AllByRecursion}
use Rattle.std.specs.Ordering.{eq_by_cmp}
use Rattle.std.specs.declared.cmp.Ordering.{Ordering}
use Rattle.std.specs.declared.cmp.Ordering.TheVariants.{Less, Equal, Greater}
use Rattle.std.specs.Cmp.{tied_itself}
use Rattle.std.proofs.lemmas.Option.{same_Some}
use Rattle.jc_rules.specs.declared.key.Key.{Key}
use Rattle.jc_rules.specs.declared.key.Tagged.TheVariants.{MapT, ListT}
use Rattle.jc_rules.specs.Order.{key_cmp}
use Rattle.jc_rules.specs.Entries.{IsRising, find, keys_of}
use Rattle.jc_rules.specs.Context.{Context, maps, lists, registers, node_of, content, keys, presences, links}
use Rattle.jc_rules.specs.Table.{least}
use Rattle.jc_rules.proofs.OrderLemmas.{keys_total, exact_keys}
use Rattle.jc_rules.proofs.RisingLemmas.{less_greater}
use Rattle.jc_rules.proofs.EntriesLemmas.{same-self, same-eq}
use Rattle.jc_tree.specs.Tree.{is_after, least_after, all_keys}
use Rattle.jc_clear.specs.ContentKeys.{has_content}
use Rattle.jc_clear.specs.Turns.{IsOneOf, AreLeft}
use Rattle.jc_tree.proofs.WalksLemmas.{IsNext, next_is, none_is, after_over, lt_less}

-- rising, these keys and no others
pub record AreContentKeys (ks : List Key) (c : Context) : Type 0 where
  pub rise : IsRising key_cmp ks
  pub only : AllByRecursion (λ k. has_content c k ≡ true) ks
  pub all : AllByRecursion (Contains ks) (keys c)

-- ---- one of a list

front : (js ks : List Key) (k : Key) → IsOneOf js k → IsOneOf (js ++ ks) k
front [] ks k h = absurd h
front (j ∷ js) ks k (inl e) = inl e
front (j ∷ js) ks k (inr h) = inr (front js ks k h)

back : (js ks : List Key) (k : Key) → IsOneOf ks k → IsOneOf (js ++ ks) k
back [] ks k h = h
back (j ∷ js) ks k h = inr (back js ks k h)

either : (js ks : List Key) (k : Key) → IsOneOf (js ++ ks) k → IsOneOf js k ⊎ IsOneOf ks k
either [] ks k h = inr h
either (j ∷ js) ks k (inl e) = inl (inl e)
either (j ∷ js) ks k (inr h) = go (either js ks k h)
  where
    go : IsOneOf js k ⊎ IsOneOf ks k → IsOneOf (j ∷ js) k ⊎ IsOneOf ks k
    go (inl f) = inl (inr f)
    go (inr f) = inr f

contained : (ks : List Key) (k : Key) → Contains ks k → IsOneOf ks k
contained ks k c = go ks c.0 c.1 c.2
  where
    go : (ks : List Key) (i : ℕ) → i < length ks → slice_index_or ks i k ≡ k → IsOneOf ks k
    go [] i h e = absurd (omega (arith, h))
    go (j ∷ ks) zero h e = inl e
    go (j ∷ ks) (suc i) h e = inr (go ks i (omega (arith, h)) e)

containing : (ks : List Key) (k : Key) → IsOneOf ks k → Contains ks k
containing [] k h = absurd h
containing (j ∷ ks) k (inl e) = (0, omega arith, e)
containing (j ∷ ks) k (inr h) = let c = containing ks k h in (suc c.0, omega (arith, c.1), c.2)

all_of : (P : Key → Type 0) (ks : List Key) → ((k : Key) → IsOneOf ks k → P k) → AllByRecursion P ks
all_of P [] f = tt
all_of P (k ∷ ks) f = (f k (inl refl), all_of P ks (λ j h. f j (inr h)))

of_all : (P : Key → Type 0) (ks : List Key) (k : Key) → AllByRecursion P ks → IsOneOf ks k → P k
of_all P [] k a h = absurd h
of_all P (j ∷ ks) k a (inl e) = subst P e a.0
of_all P (j ∷ ks) k a (inr h) = of_all P ks k a.1 h

-- ---- what has a content is a key of the context

module _ {X : Type 0} where
  found_one : (k : Key) (es : List (Key × X)) → is_some (find key_cmp k es) ≡ true → IsOneOf (keys_of es) k
  found_one k [] h = cc
  found_one k (e ∷ es) h = go (eq_by_cmp key_cmp k e.0) refl (found_one k es) h
    where
      go : (b : Bool) → eq_by_cmp key_cmp k e.0 ≡ b → (is_some (find key_cmp k es) ≡ true → IsOneOf (keys_of es) k) → is_some (find key_cmp k (e ∷ es)) ≡ true → IsOneOf (keys_of (e ∷ es)) k
      go true p ih g = inl (sym (same-eq keys_total exact_keys k e.0 p))
      go false p ih g = inr (ih (rw p at g))

  one_found : (k : Key) (es : List (Key × X)) → IsOneOf (keys_of es) k → is_some (find key_cmp k es) ≡ true
  one_found k [] h = absurd h
  one_found k (e ∷ es) (inl s) = let p : eq_by_cmp key_cmp k e.0 ≡ true = rw s (same-self keys_total exact_keys k) in rw p refl
  one_found k (e ∷ es) (inr h) = go (eq_by_cmp key_cmp k e.0) refl (one_found k es h)
    where
      go : (b : Bool) → eq_by_cmp key_cmp k e.0 ≡ b → is_some (find key_cmp k es) ≡ true → is_some (find key_cmp k (e ∷ es)) ≡ true
      go true p ih = rw p refl
      go false p ih = rw p ih

is_node : (o : Option Context) → is_some (node_of o) ≡ is_some o
is_node None = refl
is_node (Some d) = refl

has_one : (c : Context) (k : Key) → has_content c k ≡ true → IsOneOf (keys c) k
has_one c k h = go (is_some (content (MapT k) c)) (is_some (content (ListT k) c)) (is_some (find key_cmp k (registers c))) refl refl refl h
  where
    ms : List Key
    ms = keys_of (maps c)

    ls : List Key
    ls = keys_of (lists c)

    rs : List Key
    rs = keys_of (registers c)

    go : (a b d : Bool) → is_some (content (MapT k) c) ≡ a → is_some (content (ListT k) c) ≡ b → is_some (find key_cmp k (registers c)) ≡ d → a || b || d ≡ true → IsOneOf (keys c) k
    go true b d e f g t = front (ms ++ ls) rs k (front ms ls k (found_one k (maps c) (sym (is_node (find key_cmp k (maps c))) ∙ e)))
    go false true d e f g t = front (ms ++ ls) rs k (back ms ls k (found_one k (lists c) (sym (is_node (find key_cmp k (lists c))) ∙ f)))
    go false false d e f g t = back (ms ++ ls) rs k (found_one k (registers c) (g ∙ t))

or_last : (a b : Bool) → b ≡ true → a || b ≡ true
or_last true b e = refl
or_last false b e = e

or_first : (a b : Bool) → a ≡ true → a || b ≡ true
or_first a b e = rw e refl

one_has : (c : Context) (k : Key) → IsOneOf (keys c) k → has_content c k ≡ true
one_has c k h = go (either (keys_of (maps c) ++ keys_of (lists c)) (keys_of (registers c)) k h)
  where
    m : Bool
    m = is_some (content (MapT k) c)

    l : Bool
    l = is_some (content (ListT k) c)

    r : Bool
    r = is_some (find key_cmp k (registers c))

    node : IsOneOf (keys_of (maps c)) k ⊎ IsOneOf (keys_of (lists c)) k → m || l ≡ true
    node (inl f) = or_first m l (is_node (find key_cmp k (maps c)) ∙ one_found k (maps c) f)
    node (inr f) = or_last m l (is_node (find key_cmp k (lists c)) ∙ one_found k (lists c) f)

    go : IsOneOf (keys_of (maps c) ++ keys_of (lists c)) k ⊎ IsOneOf (keys_of (registers c)) k → has_content c k ≡ true
    go (inl f) = or_first (m || l) r (node (either (keys_of (maps c)) (keys_of (lists c)) k f))
    go (inr f) = or_last (m || l) r (one_found k (registers c) f)

-- ---- those that pass a test

module _ (p : Key → Bool) where
  all_kept : (P : Key → Type 0) (ks : List Key) → AllByRecursion P ks → AllByRecursion P (filter p ks)
  all_kept P [] a = tt
  all_kept P (k ∷ ks) a = go (p k) refl (all_kept P ks a.1)
    where
      go : (b : Bool) → p k ≡ b → AllByRecursion P (filter p ks) → AllByRecursion P (filter p (k ∷ ks))
      go true e r = rw e (a.0, r)
      go false e r = rw e r

  rising_kept : (ks : List Key) → IsRising key_cmp ks → IsRising key_cmp (filter p ks)
  rising_kept [] r = tt
  rising_kept (k ∷ ks) r = go (p k) refl (all_kept (λ j. key_cmp k j ≡ Less) ks r.0) (rising_kept ks r.1)
    where
      go : (b : Bool) → p k ≡ b → AllByRecursion (λ j. key_cmp k j ≡ Less) (filter p ks) → IsRising key_cmp (filter p ks) → IsRising key_cmp (filter p (k ∷ ks))
      go true e a s = rw e (a, s)
      go false e a s = rw e s

  all_pass : (ks : List Key) → AllByRecursion (λ k. p k ≡ true) (filter p ks)
  all_pass [] = tt
  all_pass (k ∷ ks) = go (p k) refl (all_pass ks)
    where
      go : (b : Bool) → p k ≡ b → AllByRecursion (λ j. p j ≡ true) (filter p ks) → AllByRecursion (λ j. p j ≡ true) (filter p (k ∷ ks))
      go true e r = rw e (e, r)
      go false e r = rw e r

  passes : (ks : List Key) (k : Key) → IsOneOf ks k → p k ≡ true → IsOneOf (filter p ks) k
  passes [] k h t = absurd h
  passes (j ∷ ks) k (inl e) t = let q : p j ≡ true = ap p e ∙ t in rw q (inl e)
  passes (j ∷ ks) k (inr h) t = go (p j) refl (passes ks k h t)
    where
      go : (b : Bool) → p j ≡ b → IsOneOf (filter p ks) k → IsOneOf (filter p (j ∷ ks)) k
      go true e r = rw e (inr r)
      go false e r = rw e r

  passed : (ks : List Key) (k : Key) → IsOneOf (filter p ks) k → IsOneOf ks k
  passed [] k h = absurd h
  passed (j ∷ ks) k h = go (p j) refl (passed ks k) h
    where
      either_of : (IsOneOf (filter p ks) k → IsOneOf ks k) → (j ≡ k) ⊎ IsOneOf (filter p ks) k → IsOneOf (j ∷ ks) k
      either_of ih (inl e) = inl e
      either_of ih (inr f) = inr (ih f)

      go : (b : Bool) → p j ≡ b → (IsOneOf (filter p ks) k → IsOneOf ks k) → IsOneOf (filter p (j ∷ ks)) k → IsOneOf (j ∷ ks) k
      go true e ih f = either_of ih (rw e at f)
      go false e ih f = inr (ih (rw e at f))

least_one : (ks : List Key) (m : Key) → least ks ≡ Some m → IsOneOf ks m
least_one [] m e = cc
least_one (k ∷ ks) m e = go (least ks) refl (λ i f. least_one ks i f)
  where
    pick : (i : Key) (o : Ordering) → key_cmp k i ≡ o → least ks ≡ Some i → IsOneOf ks i → IsOneOf (k ∷ ks) m
    pick i Less f g h = inl (same_Some k m (rw (g, f) at e))
    pick i Equal f g h = inl (same_Some k m (rw (g, f) at e))
    pick i Greater f g h = inr (subst (λ (x : Key). IsOneOf ks x) (same_Some i m (rw (g, f) at e)) h)

    go : (o : Option Key) → least ks ≡ o → ((i : Key) → least ks ≡ Some i → IsOneOf ks i) → IsOneOf (k ∷ ks) m
    go None f ih = inl (same_Some k m (rw f at e))
    go (Some i) f ih = pick i (key_cmp k i) refl f (ih i f)

-- ---- the keys that are left

all_after_none : (ks : List Key) → AllByRecursion (λ k. is_after None k ≡ true) ks
all_after_none [] = tt
all_after_none (k ∷ ks) = (refl, all_after_none ks)

-- those that have a content, of keys that rise and have all of the context's among them
pub content_keys : (ks all : List Key) (c : Context) → IsRising key_cmp all → AllByRecursion (Contains all) (all_keys c) → ks ≡ filter (λ k. has_content c k) all → AreContentKeys ks c
content_keys ks all c r h e =
    subst (λ (l : List Key). AreContentKeys l c) (sym e) (record {
      rise = rising_kept (λ k. has_content c k) all r;
      only = all_pass (λ k. has_content c k) all;
      all = all_of (Contains (filter (λ k. has_content c k) all)) (keys c) (λ j i. containing (filter (λ k. has_content c k) all) j (passes (λ k. has_content c k) all j (contained all j (of_all (Contains all) (all_keys c) j h (front (keys c ++ keys_of (presences c)) (keys_of (links c)) j (front (keys c) (keys_of (presences c)) j i)))) (one_has c j i)));
    })

-- at first all are left
pub all_left : (ks : List Key) (c : Context) → AreContentKeys ks c → AreLeft None ks c
all_left ks c w = record {
  rise = w.rise;
  after = all_after_none ks;
  among = w.only;
  all = λ j i a. contained ks j (of_all (Contains ks) (keys c) j w.all i);
}

all_above : (k : Key) (ks : List Key) → AllByRecursion (λ j. key_cmp k j ≡ Less) ks → AllByRecursion (λ j. is_after (Some k) j ≡ true) ks
all_above k [] a = tt
all_above k (j ∷ ks) a = (rw a.0 refl, all_above k ks a.1)

pub next_left : (last : Option Key) (k : Key) (ks : List Key) (c : Context) → AreLeft last (k ∷ ks) c → AreLeft (Some k) ks c
next_left last k ks c w = record {
  rise = w.rise.1;
  after = all_above k ks w.rise.0;
  among = w.among.1;
  all = λ j i a. go j (lt_less k j a) (w.all j i (after_over last k j w.after.0 (lt_less k j a)));
}
  where
    go : (j : Key) → key_cmp k j ≡ Less → (k ≡ j) ⊎ IsOneOf ks j → IsOneOf ks j
    go j l (inl e) = absurd (let f : Equal ≡ Less = sym (tied_itself keys_total k) ∙ ap (key_cmp k) e ∙ l in let g : ⊥ = cc in g)
    go j l (inr h) = h

pub first_is_least : (last : Option Key) (k : Key) (ks : List Key) (c : Context) → AreLeft last (k ∷ ks) c → least_after last (keys c) ≡ Some k
first_is_least last k ks c w = go (least_after last (keys c)) refl
  where
    one : IsOneOf (keys c) k
    one = has_one c k w.among.0

    same : (m : Key) → key_cmp m k ≢ Greater → (k ≡ m) ⊎ IsOneOf ks m → Some m ≡ Some k
    same m n (inl e) = ap Some (sym e)
    same m n (inr h) = absurd (n (less_greater keys_total k m (of_all (λ j. key_cmp k j ≡ Less) ks m w.rise.0 h)))

    go : (o : Option Key) → least_after last (keys c) ≡ o → o ≡ Some k
    go None e = absurd (let f : true ≡ false = sym w.after.0 ∙ of_all (λ j. is_after last j ≡ false) (keys c) k (none_is last (keys c) e) one in let g : ⊥ = cc in g)
    go (Some m) e =
        let n : IsNext last (keys c) m = next_is last (keys c) m e in
        same m (of_all (λ j. is_after last j ≡ true → key_cmp m j ≢ Greater) (keys c) k n.below one w.after.0) (w.all m (passed (λ j. is_after last j) (keys c) m (least_one (filter (λ j. is_after last j) (keys c)) m e)) n.after)

pub none_left : (last : Option Key) (c : Context) → AreLeft last [] c → least_after last (keys c) ≡ None
none_left last c w = go (least_after last (keys c)) refl
  where
    go : (o : Option Key) → least_after last (keys c) ≡ o → o ≡ None
    go None e = refl
    go (Some m) e =
        let n : IsNext last (keys c) m = next_is last (keys c) m e in
        absurd (w.all m (passed (λ j. is_after last j) (keys c) m (least_one (filter (λ j. is_after last j) (keys c)) m e)) n.after)

-- About Tree: keys that are lent in their order.
use Rattle.std.proofs.Common.{◌≡◌, ◌≢◌, ℕ, List, [], ◌∷◌, ◌++◌, Contains, Option, Some, None, Bool, true, false, Bor, is_lt, refl, sym, ◌∙◌, ap, subst, true≢false, append_assoc, append-nil}
use Rattle.std.specs.List.{AllByRecursion}
use Rattle.std.specs.declared.cmp.Ordering.{Ordering}
use Rattle.std.specs.declared.cmp.Ordering.TheVariants.{Less, Equal, Greater}
use Rattle.std.specs.Cmp.{tied_itself}
use Rattle.std.proofs.lemmas.List.{map-append}
use Rattle.std.proofs.lemmas.List.Elements.{recursion_from_All, All-contains_itself, Contains-push, Contains-append_left}
use Rattle.jc_rules.specs.declared.id.Id.{Id}
use Rattle.jc_rules.specs.declared.key.Key.{Key}
use Rattle.jc_rules.specs.declared.key.Next.{Next}
use Rattle.jc_rules.specs.Order.{key_cmp}
use Rattle.jc_rules.specs.Entries.{IsRising, keys_of}
use Rattle.jc_rules.specs.Context.{Context, Register, keys, presences, links}
use Rattle.jc_rules.proofs.OrderLemmas.{keys_total, exact_keys}
use Rattle.jc_rules.proofs.RisingLemmas.{less_greater, greater_less}
use Rattle.jc_tree.specs.Tree.{is_after, least_after, all_keys, keys_lent}
use Rattle.jc_tree.specs.Arena.{Flat, flat_keys}
use Rattle.jc_tree.specs.Numbered.{Numbering, IsNumbered, at_number, column_entries}
use Rattle.jc_tree.specs.Tables.{flat_of}
use Rattle.jc_tree.proofs.ShownLemmas.{all-shown}
use Rattle.jc_tree.proofs.WalksLemmas.{IsNext, none_is}
use Rattle.jc_tree.proofs.WalksLeastLemmas.{least_of, least_after-append}

-- what is true of all of two lists
and_all : (P : Key → Type 0) (js ks : List Key) → AllByRecursion P js → AllByRecursion P ks → AllByRecursion P (js ++ ks)
and_all P [] ks a b = b
and_all P (j ∷ js) ks a b = (a.0, and_all P js ks a.1 b)

-- where the one is true of all, and with it the other, so is the other
all_then : (P Q : Key → Type 0) (ks : List Key) → AllByRecursion P ks → AllByRecursion (λ k. P k → Q k) ks → AllByRecursion Q ks
all_then P Q [] a b = tt
all_then P Q (k ∷ ks) a b = (b.0 a.0, all_then P Q ks a.1 b.1)

module _ {X : Type 0} where
  -- one key more
  lent_push : (xs : List (Bor Key × X)) (k : Bor Key) (x : X) → keys_lent (xs ++ (k, x) ∷ []) ≡ keys_lent xs ++ k.now ∷ []
  lent_push xs k x = map-append (λ (l : Bor Key × X). l.0.now) xs ((k, x) ∷ [])

  -- ---- from the order of a table

  pub lent_begins : (xs : List (Bor Key × X)) (es all : List (Key × ℕ)) → xs ≡ [] → es ≡ all → keys_lent xs ++ keys_of es ≡ keys_of all
  lent_begins xs es all n e = ap (λ ys. keys_lent ys ++ keys_of es) n ∙ ap (λ (ys : List (Key × ℕ)). keys_of ys) e

  pub lent_goes_on : (xs new : List (Bor Key × X)) (es rest : List (Key × ℕ)) (k : Bor Key) (x : X) (n : ℕ) (all : List Key) → es ≡ (k.now, n) ∷ rest → new ≡ xs ++ (k, x) ∷ [] → keys_lent xs ++ keys_of es ≡ all → keys_lent new ++ keys_of rest ≡ all
  lent_goes_on xs new es rest k x n all s p h =
      ap (λ ys. keys_lent ys ++ keys_of rest) p
      ∙ ap (λ ks. ks ++ keys_of rest) (lent_push xs k x)
      ∙ append_assoc (keys_lent xs) (k.now ∷ []) (keys_of rest)
      ∙ ap (λ ys. keys_lent xs ++ keys_of ys) (sym s)
      ∙ h

  pub lent_ends : (xs : List (Bor Key × X)) (es : List (Key × ℕ)) (all : List Key) → es ≡ [] → keys_lent xs ++ keys_of es ≡ all → keys_lent xs ≡ all
  lent_ends xs es all n h = sym (ap (λ ys. keys_lent xs ++ keys_of ys) n ∙ append-nil (keys_lent xs)) ∙ h

-- the keys of a table rise in its order
pub table_rises : (t : Numbering) (ks : List Key) → IsNumbered t → ks ≡ keys_of t.order → IsRising key_cmp ks
table_rises t ks i e = subst (IsRising key_cmp) (sym e) i.rise

-- and each key of a column is one of them
all_of_column : {X : Type 0} (t : Numbering) (col : List (Option X)) → AllByRecursion (Contains (keys_of t.order)) (keys_of (column_entries col t))
all_of_column t col =
    let ks = keys_of t.order in
    all-shown keys_total exact_keys (Contains ks) (λ n. at_number col n) t.order (recursion_from_All (Contains ks) ks (All-contains_itself ks))

pub all_of_node : (t : Numbering) (m l : List (Option ℕ)) (r : List (Option Register)) (p : List (Option (List Id))) (x : List (Option Next)) (n : Flat) (ks : List Key) → flat_of t m l r p x ≡ n → ks ≡ keys_of t.order → AllByRecursion (Contains ks) (flat_keys n)
all_of_node t m l r p x n ks v e = subst (λ (f : Flat). AllByRecursion (Contains ks) (flat_keys f)) v (subst (λ js. AllByRecursion (Contains js) (flat_keys (flat_of t m l r p x))) (sym e) all)
  where
    all : AllByRecursion (Contains (keys_of t.order)) (flat_keys (flat_of t m l r p x))
    all =
        let P : Key → Type 0 = Contains (keys_of t.order) in
        let ms = keys_of (column_entries m t) in
        let ls = keys_of (column_entries l t) in
        let rs = keys_of (column_entries r t) in
        let ps = keys_of (column_entries p t) in
        let xs = keys_of (column_entries x t) in
        and_all P (ms ++ ls ++ rs ++ ps) xs (and_all P (ms ++ ls ++ rs) ps (and_all P (ms ++ ls) rs (and_all P ms ls (all_of_column t m) (all_of_column t l)) (all_of_column t r)) (all_of_column t p)) (all_of_column t x)

-- ---- from the least key to the greatest

-- the least key under which something stands, by what stands there
pub least_of_all : (k : Option Key) (c : Context) → least_after k (all_keys c) ≡ least_of (least_of (least_after k (keys c)) (least_after k (keys_of (presences c)))) (least_after k (keys_of (links c)))
least_of_all k c = least_after-append k (keys c ++ keys_of (presences c)) (keys_of (links c)) ∙ ap (λ o. least_of o (least_after k (keys_of (links c)))) (least_after-append k (keys c) (keys_of (presences c)))

rising_push : (js : List Key) (k : Key) → IsRising key_cmp js → AllByRecursion (λ j. key_cmp j k ≡ Less) js → IsRising key_cmp (js ++ k ∷ [])
rising_push [] k r a = (tt, tt)
rising_push (j ∷ js) k r a = (and_all (λ i. key_cmp j i ≡ Less) js (k ∷ []) r.0 (a.0, tt), rising_push js k r.1 a.1)

-- a key that isn't after the last one is below one that is
is_below : (last : Option Key) (j k : Key) → is_after last k ≡ true → is_after last j ≡ false → key_cmp j k ≡ Less
is_below None j k a b = absurd (true≢false b)
is_below (Some i) j k a b = go (key_cmp i k) (key_cmp i j) refl refl
  where
    go : (o p : Ordering) → key_cmp i k ≡ o → key_cmp i j ≡ p → key_cmp j k ≡ Less
    go Less Less e f = let c : true ≡ false = rw f at b in absurd (true≢false c)
    go Less Equal e f = ap (λ h. key_cmp h k) (sym (exact_keys i j f)) ∙ e
    go Less Greater e f = keys_total.trans j i k (greater_less keys_total i j f) e
    go Equal p e f = let c : false ≡ true = rw e at a in absurd (true≢false (sym c))
    go Greater p e f = let c : false ≡ true = rw e at a in absurd (true≢false (sym c))

all_below : (last : Option Key) (k : Key) (js : List Key) → is_after last k ≡ true → AllByRecursion (λ j. is_after last j ≡ false) js → AllByRecursion (λ j. key_cmp j k ≡ Less) js
all_below last k [] a b = tt
all_below last k (j ∷ js) a b = (is_below last j k a b.0, all_below last k js a b.1)

none_after : (k : Key) (js : List Key) → AllByRecursion (λ j. key_cmp j k ≡ Less) js → AllByRecursion (λ j. is_after (Some k) j ≡ false) js
none_after k [] a = tt
none_after k (j ∷ js) a = (ap is_lt (less_greater keys_total j k a.0), none_after k js a.1)

-- The keys that are lent rise, up to the last one, and each of the keys up to there is one of them.
pub record IsLentTo {X : Type 0} (last : Option Key) (ks : List Key) (xs : List (Bor Key × X)) : Type 0 where
  pub rise : IsRising key_cmp (keys_lent xs)
  pub below : AllByRecursion (λ j. is_after last j ≡ false) (keys_lent xs)
  pub all : AllByRecursion (λ j. is_after last j ≡ false → Contains (keys_lent xs) j) ks

module _ {X : Type 0} (ks : List Key) where
  pub walk_begins : (xs : List (Bor Key × X)) → xs ≡ [] → IsLentTo None ks xs
  walk_begins xs e = subst (IsLentTo None ks) (sym e) (record { rise = tt; below = tt; all = none_yet ks })
    where
      none_yet : (js : List Key) → AllByRecursion (λ j. is_after None j ≡ false → Contains (keys_lent {X = X} []) j) js
      none_yet [] = tt
      none_yet (j ∷ js) = ((λ f. absurd (true≢false f)), none_yet js)

  pub walk_goes_on : (last : Option Key) (xs new : List (Bor Key × X)) (k : Bor Key) (x : X) → IsNext last ks k.now → new ≡ xs ++ (k, x) ∷ [] → IsLentTo last ks xs → IsLentTo (Some k.now) ks new
  walk_goes_on last xs new k x n p i = record {
    rise = subst (IsRising key_cmp) (sym lent) (rising_push (keys_lent xs) k.now i.rise less);
    below = subst (AllByRecursion (λ j. is_after (Some k.now) j ≡ false)) (sym lent) (and_all (λ j. is_after (Some k.now) j ≡ false) (keys_lent xs) (k.now ∷ []) (none_after k.now (keys_lent xs) less) (ap is_lt (tied_itself keys_total k.now), tt));
    all = subst (λ ls. AllByRecursion (λ j. is_after (Some k.now) j ≡ false → Contains ls j) ks) (sym lent) (each ks n.below i.all);
  }
    where
      lent : keys_lent new ≡ keys_lent xs ++ k.now ∷ []
      lent = ap (λ ys. keys_lent ys) p ∙ lent_push xs k x

      less : AllByRecursion (λ j. key_cmp j k.now ≡ Less) (keys_lent xs)
      less = all_below last k.now (keys_lent xs) n.after i.below

      -- the key itself, or one that was lent before
      one : (j : Key) → (is_after last j ≡ true → key_cmp k.now j ≢ Greater) → (is_after last j ≡ false → Contains (keys_lent xs) j) → is_after (Some k.now) j ≡ false → Contains (keys_lent xs ++ k.now ∷ []) j
      one j above before f = go (is_after last j) refl
        where
          own : (o : Ordering) → key_cmp k.now j ≡ o → key_cmp k.now j ≢ Greater → Contains (keys_lent xs ++ k.now ∷ []) j
          own Less e g = let c : true ≡ false = rw e at f in absurd (true≢false c)
          own Equal e g = subst (Contains (keys_lent xs ++ k.now ∷ [])) (exact_keys k.now j e) (Contains-push (keys_lent xs) k.now)
          own Greater e g = absurd (g e)

          go : (b : Bool) → is_after last j ≡ b → Contains (keys_lent xs ++ k.now ∷ []) j
          go true e = own (key_cmp k.now j) refl (above e)
          go false e = Contains-append_left (keys_lent xs) (k.now ∷ []) j (before e)

      each : (js : List Key) → AllByRecursion (λ j. is_after last j ≡ true → key_cmp k.now j ≢ Greater) js → AllByRecursion (λ j. is_after last j ≡ false → Contains (keys_lent xs) j) js → AllByRecursion (λ j. is_after (Some k.now) j ≡ false → Contains (keys_lent xs ++ k.now ∷ []) j) js
      each [] a b = tt
      each (j ∷ js) a b = (one j a.0 b.0, each js a.1 b.1)

  pub walk_ends : (last : Option Key) (xs : List (Bor Key × X)) → least_after last ks ≡ None → IsLentTo last ks xs → AllByRecursion (Contains (keys_lent xs)) ks
  walk_ends last xs e i = all_then (λ j. is_after last j ≡ false) (Contains (keys_lent xs)) ks (none_is last ks e) i.all

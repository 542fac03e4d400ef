-- About Forest and Meaning: each list has a forest of inserts, whatever the operations. What isn't reached from
-- the head is left out, and no identifier occurs twice.
use Rattle.std.proofs.Common.{◌≡◌, ℕ, zero, suc, ◌+◌, ◌≤◌, ◌<◌, List, [], ◌∷◌, length, Bool, true, false, not, ◌||◌, ◌&&◌, cond, Option, Some, None, is_some, refl, sym, ◌∙◌, ap, subst, arith}
use Rattle.std.specs.List.{AllByRecursion}
use Rattle.std.specs.Ordering.{match_ordering}
use Rattle.std.specs.declared.cmp.Ordering.{Ordering}
use Rattle.std.specs.declared.cmp.Ordering.TheVariants.{Less, Equal, Greater}
use Rattle.jc_rules.specs.declared.id.Id.{Id}
use Rattle.jc_rules.specs.declared.key.Key.{Key}
use Rattle.jc_rules.specs.declared.key.Key.TheVariants as K
use Rattle.jc_rules.specs.declared.key.Tagged.{Tagged}
use Rattle.jc_rules.specs.declared.operation.Op.{Op}
use Rattle.jc_rules.specs.Order.{id_cmp, same_id, same_key}
use Rattle.jc_rules.specs.Ids.{has_id}
use Rattle.jc_rules.specs.Table.{op_of}
use Rattle.jc_rules.proofs.OrderLemmas.{ids_total, exact_ids}
use Rattle.jc_rules.proofs.IdsLemmas.{same_id-self, same_id-true}
use Rattle.jc_rules.proofs.RisingLemmas as rising
use Rattle.jc_rules.proofs.BoolLemmas.{first_true, second_true, both_true, not_so}
use Rattle.jc_tree.proofs.CountedLemmas.{one_if}
use Rattle.jc_meaning.specs.Effects.{same_path, is_insert}
use Rattle.jc_meaning.specs.Forest.{Forest, bare, tree, preorder, is_less, is_under, Hangs}
use Rattle.jc_meaning.specs.Meaning.{holds_of, names, hangs_at}
use Rattle.jc_meaning.proofs.ChainLemmas.{key_in}
use Rattle.jc_meaning.proofs.ForestCountsLemmas.{count, count_key}
use Rattle.jc_meaning.proofs.ForestInsertLemmas.{key_in_append}
use Rattle.jc_meaning.proofs.OrdersLemmas.{keys_eq, ids_back, less_trans, less_self, under_less}
use Rattle.jc_meaning.proofs.ForestOnceLemmas.{counted_at, out_counted}

-- ---- falling lists of identifiers

abbrev pub Falls : List Id → Type 0
Falls [] = Unit {0}
Falls (i ∷ is) = AllByRecursion (λ j. is_less (id_cmp j i) ≡ true) is × Falls is

all_from : (P : Id → Type 0) (js : List Id) → ((j : Id) → has_id j js ≡ true → P j) → AllByRecursion P js
all_from P [] f = tt
all_from P (i ∷ js) f = (f i (rw (same_id-self i) refl), all_from P js (λ j h. f j (later (same_id j i) h)))
  where
    later : {b : Bool} (a : Bool) → b ≡ true → (a || b) ≡ true
    later true h = refl
    later false h = h

pub all_has : (P : Id → Type 0) (js : List Id) (j : Id) → AllByRecursion P js → has_id j js ≡ true → P j
all_has P [] j a h = cc
all_has P (i ∷ js) j a h = go (same_id j i) refl (λ g. all_has P js j a.1 g) h
  where
    go : (b : Bool) → same_id j i ≡ b → (has_id j js ≡ true → P j) → (b || has_id j js) ≡ true → P j
    go true e f g = subst P (sym (same_id-true j i e)) a.0
    go false e f g = f g

-- all but the one
abbrev pub others : Id → List Id → List Id
others i [] = []
others i (j ∷ js) = cond (same_id j i) (others i js) (j ∷ others i js)

has_others : (i k : Id) (js : List Id) → has_id k (others i js) ≡ (has_id k js && not (same_id k i))
has_others i k [] = refl
has_others i k (j ∷ js) = go (same_id j i) (same_id k j) refl refl (has_others i k js)
  where
    go : (a b : Bool) → same_id j i ≡ a → same_id k j ≡ b → has_id k (others i js) ≡ (has_id k js && not (same_id k i)) → has_id k (cond a (others i js) (j ∷ others i js)) ≡ ((b || has_id k js) && not (same_id k i))
    go true true e f h =
        let same : same_id k i ≡ true = ap (λ q. same_id q i) (same_id-true k j f) ∙ e in
        h ∙ rw same (none (has_id k js))
      where
        none : (x : Bool) → (x && false) ≡ false
        none true = refl
        none false = refl
    go true false e f h = h
    go false true e f h =
        let apart : same_id k i ≡ false = ap (λ q. same_id q i) (same_id-true k j f) ∙ e in
        rw (f, apart) refl
    go false false e f h = rw f h

fewer : (i : Id) (js : List Id) → length (others i js) ≤ length js
fewer i [] = omega arith
fewer i (j ∷ js) = go (same_id j i) (fewer i js)
  where
    go : (a : Bool) → length (others i js) ≤ length js → length (cond a (others i js) (j ∷ others i js)) ≤ length (j ∷ js)
    go true h = omega arith
    go false h = omega arith

one_fewer : (i : Id) (js : List Id) → has_id i js ≡ true → length (others i js) < length js
one_fewer i [] h = cc
one_fewer i (j ∷ js) h = go (same_id j i) (same_id i j) refl (ids_back j i) (fewer i js) (one_fewer i js) h
  where
    go : (a b : Bool) → same_id j i ≡ a → same_id j i ≡ same_id i j → length (others i js) ≤ length js → (has_id i js ≡ true → length (others i js) < length js) → (same_id i j || has_id i js) ≡ true → length (cond a (others i js) (j ∷ others i js)) < length (j ∷ js)
    go true b e f l m g = omega arith
    go false b e f l m g = let less : length (others i js) < length js = m (ap (λ z. z || has_id i js) (sym (sym f ∙ e)) ∙ g) in omega (arith, less)

all_others : (P : Id → Type 0) (i : Id) (js : List Id) → AllByRecursion P js → AllByRecursion P (others i js)
all_others P i [] a = tt
all_others P i (j ∷ js) a = go (same_id j i) (all_others P i js a.1)
  where
    go : (b : Bool) → AllByRecursion P (others i js) → AllByRecursion P (cond b (others i js) (j ∷ others i js))
    go true h = h
    go false h = (a.0, h)

falls_others : (i : Id) (js : List Id) → Falls js → Falls (others i js)
falls_others i [] h = tt
falls_others i (j ∷ js) h = go (same_id j i) (falls_others i js h.1)
  where
    go : (b : Bool) → Falls (others i js) → Falls (cond b (others i js) (j ∷ others i js))
    go true g = g
    go false g = (all_others (λ k. is_less (id_cmp k j) ≡ true) i js h.0, g)

-- ---- the identifiers of operations, falling

abbrev pub put_falling : Id → List Id → List Id
put_falling i [] = i ∷ []
put_falling i (j ∷ js) = match_ordering (id_cmp i j) (j ∷ put_falling i js) (j ∷ js) (i ∷ j ∷ js)

abbrev pub falling : List Op → List Id
falling [] = []
falling (o ∷ os) = put_falling o.id (falling os)

all_put : (P : Id → Type 0) (i : Id) (js : List Id) → P i → AllByRecursion P js → AllByRecursion P (put_falling i js)
all_put P i [] p a = (p, tt)
all_put P i (j ∷ js) p a = go (id_cmp i j) (all_put P i js p a.1)
  where
    go : (o : Ordering) → AllByRecursion P (put_falling i js) → AllByRecursion P (match_ordering o (j ∷ put_falling i js) (j ∷ js) (i ∷ j ∷ js))
    go Less h = (a.0, h)
    go Equal h = a
    go Greater h = (p, a)

below_all : (i j : Id) (js : List Id) → is_less (id_cmp j i) ≡ true → AllByRecursion (λ k. is_less (id_cmp k j) ≡ true) js → AllByRecursion (λ k. is_less (id_cmp k i) ≡ true) js
below_all i j [] l a = tt
below_all i j (k ∷ js) l a = (less_trans k j i a.0 l, below_all i j js l a.1)

falls_put : (i : Id) (js : List Id) → Falls js → Falls (put_falling i js)
falls_put i [] h = (tt, tt)
falls_put i (j ∷ js) h = go (id_cmp i j) refl (falls_put i js h.1)
  where
    go : (o : Ordering) → id_cmp i j ≡ o → Falls (put_falling i js) → Falls (match_ordering o (j ∷ put_falling i js) (j ∷ js) (i ∷ j ∷ js))
    go Less e g = (all_put (λ k. is_less (id_cmp k j) ≡ true) i js (ap is_less e) h.0, g)
    go Equal e g = h
    go Greater e g =
        let less : is_less (id_cmp j i) ≡ true = ap is_less (rising.greater_less ids_total i j e) in
        ((less, below_all i j js less h.0), h)

falling_falls : (O : List Op) → Falls (falling O)
falling_falls [] = tt
falling_falls (o ∷ os) = falls_put o.id (falling os) (falling_falls os)

has_put : (k i : Id) (js : List Id) → (same_id k i || has_id k js) ≡ true → has_id k (put_falling i js) ≡ true
has_put k i [] h = h
has_put k i (j ∷ js) h = go (id_cmp i j) refl (has_put k i js)
  where
    moved : (a b c : Bool) → (a || (b || c)) ≡ true → b ≡ false → (a || c) ≡ true
    moved true b c e f = refl
    moved false true c e f = cc
    moved false false c e f = e

    at_later : (b : Bool) → same_id k j ≡ b → ((same_id k i || has_id k js) ≡ true → has_id k (put_falling i js) ≡ true) → (b || has_id k (put_falling i js)) ≡ true
    at_later true e ih = refl
    at_later false e ih = ih (moved (same_id k i) (same_id k j) (has_id k js) h e)

    equal : (a b c : Bool) → (a ≡ true → b ≡ true) → (a || (b || c)) ≡ true → (b || c) ≡ true
    equal true b c f e = rw (f refl) refl
    equal false b c f e = e

    go : (o : Ordering) → id_cmp i j ≡ o → ((same_id k i || has_id k js) ≡ true → has_id k (put_falling i js) ≡ true) → has_id k (match_ordering o (j ∷ put_falling i js) (j ∷ js) (i ∷ j ∷ js)) ≡ true
    go Less e ih = at_later (same_id k j) refl ih
    go Equal e ih = equal (same_id k i) (same_id k j) (has_id k js) (λ s. ap (λ q. same_id k q) (sym (exact_ids i j e)) ∙ s) h
    go Greater e ih = h

pub listed_op : (O : List Op) (j : Id) → is_some (op_of j O) ≡ true → has_id j (falling O) ≡ true
listed_op [] j h = cc
listed_op (o ∷ os) j h = has_put j o.id (falling os) (go (same_id j o.id) (listed_op os j) h)
  where
    go : (b : Bool) → (is_some (op_of j os) ≡ true → has_id j (falling os) ≡ true) → is_some (cond b (Some o) (op_of j os)) ≡ true → (b || has_id j (falling os)) ≡ true
    go true ih e = refl
    go false ih e = ih e

-- ---- a forest of what hangs there, among some identifiers

abbrev pub among : List Id → (Key → Id → Bool) → Key → Id → Bool
among is at k j = has_id j is && at k j

-- what hangs is told in another way, at the keys of which Q holds
pub moved : (at at2 : Key → Id → Bool) (Q : Key → Type 0) → ((k : Key) (j : Id) → Q k → at k j ≡ at2 k j) → ((k : Key) (j : Id) → at k j ≡ true → Q (K.Elem j)) → (k : Key) (b : Option Id) (f : Forest) → Q k → Hangs at k b f → Hangs at2 k b f
moved at at2 Q same on k b bare q h = λ j e u. h j (same k j q ∙ e) u
moved at at2 Q same on k b (tree i f x) q h =
    (sym (same k i q) ∙ h.0, h.1, λ j e u l. h.2 j (same k j q ∙ e) u l, moved at at2 Q same on (K.Elem i) None f (on k i h.0) h.3, moved at at2 Q same on k (Some i) x q h.4)

not_first : (j i : Id) (js : List Id) → has_id j (i ∷ js) ≡ true → (same_id j i ≡ true → ⊥) → has_id j js ≡ true
not_first j i js h f = go (same_id j i) refl h
  where
    go : (b : Bool) → same_id j i ≡ b → (b || has_id j js) ≡ true → has_id j js ≡ true
    go true e g = absurd (f e)
    go false e g = g

siblings : (at : Key → Id → Bool) (is : List Id) (k : Key) → ((i : Id) → has_id i is ≡ true → at k i ≡ true → (f : Forest) × Hangs (among is at) (K.Elem i) None f)
    → (js : List Id) (b : Option Id) → Falls js → AllByRecursion (λ j. is_under j b ≡ true) js → AllByRecursion (λ j. has_id j is ≡ true) js
    → ((j : Id) → among is at k j ≡ true → is_under j b ≡ true → has_id j js ≡ true)
    → (f : Forest) × Hangs (among is at) k b f
siblings at is k below [] b falls under within all = (bare, λ j e u. let z : false ≡ true = all j e u in cc)
siblings at is k below (i ∷ js) b falls under within all =
    go (at k i) refl (siblings at is k below js b falls.1 under.1 within.1) (siblings at is k below js (Some i) falls.1 falls.0 within.1)
  where
    lower : (j : Id) → has_id j js ≡ true → is_less (id_cmp j i) ≡ true
    lower j h = all_has (λ j. is_less (id_cmp j i) ≡ true) js j falls.0 h

    itself : (j : Id) → same_id j i ≡ true → is_less (id_cmp j i) ≡ true → ⊥
    itself j e l = less_self i (subst (λ q. is_less (id_cmp q i) ≡ true) (same_id-true j i e) l)

    itself_back : (j : Id) → same_id j i ≡ true → is_less (id_cmp i j) ≡ true → ⊥
    itself_back j e l = less_self i (subst (λ q. is_less (id_cmp i q) ≡ true) (same_id-true j i e) l)

    go : (x : Bool) → at k i ≡ x → (((j : Id) → among is at k j ≡ true → is_under j b ≡ true → has_id j js ≡ true) → (f : Forest) × Hangs (among is at) k b f)
        → (((j : Id) → among is at k j ≡ true → is_under j (Some i) ≡ true → has_id j js ≡ true) → (f : Forest) × Hangs (among is at) k (Some i) f)
        → (f : Forest) × Hangs (among is at) k b f
    go true e skip more =
        let later = more (λ j w l. not_first j i js (all j w (under_less j i b l under.0)) (λ s. itself j s l)) in
        let inner = below i within.0 e in (
          tree i inner.0 later.0,
          (
            both_true (has_id i is) (at k i) within.0 e,
            under.0,
            λ j w u l. less_self i (less_trans i j i l (lower j (not_first j i js (all j w u) (λ s. itself_back j s l)))),
            inner.1,
            later.1,
          ),
        )
    go false e skip more = skip (λ j w u. not_first j i js (all j w u) (λ s. let there : at k i ≡ true = subst (λ q. at k q ≡ true) (same_id-true j i s) (second_true (has_id j is) (at k j) w) in let z : true ≡ false = sym there ∙ e in cc))

module _ (at : Key → Id → Bool) (single : (k l : Key) (j : Id) → at k j ≡ true → at l j ≡ true → k ≡ l) where
  grow : (n : ℕ) (is : List Id) → length is ≤ n → Falls is → (k : Key) → ((j : Id) → has_id j is ≡ true → K.Elem j ≡ k → ⊥) → (f : Forest) × Hangs (among is at) k None f
  grow zero [] l falls k out = (bare, λ j e u. cc)
  grow zero (i ∷ is) l falls k out = absurd (omega (arith, l))
  grow (suc n) is l falls k out = siblings at is k (below (grow n)) is None falls (all_from (λ j. is_under j None ≡ true) is (λ j h. refl)) (all_from (λ j. has_id j is ≡ true) is (λ j h. h)) (λ j w u. first_true (has_id j is) (at k j) w)
    where
      below : ((is : List Id) → length is ≤ n → Falls is → (k : Key) → ((j : Id) → has_id j is ≡ true → K.Elem j ≡ k → ⊥) → (f : Forest) × Hangs (among is at) k None f)
          → (i : Id) → has_id i is ≡ true → at k i ≡ true → (f : Forest) × Hangs (among is at) (K.Elem i) None f
      below ih i h e =
          let less : length (others i is) < length is = one_fewer i is h in
          let g = ih (others i is) (omega (arith, less, l)) (falls_others i is falls) (K.Elem i) apart in
          (g.0, moved (among (others i is) at) (among is at) (λ q. q ≡ k → ⊥) same on (K.Elem i) None g.0 (out i h) g.1)
        where
          apart : (j : Id) → has_id j (others i is) ≡ true → K.Elem j ≡ K.Elem i → ⊥
          apart j w s =
              let eq : j ≡ i = cc in
              let left : not (same_id j i) ≡ true = second_true (has_id j is) (not (same_id j i)) (sym (has_others i j is) ∙ w) in
              let yes : same_id j i ≡ true = ap (λ q. same_id q i) eq ∙ same_id-self i in
              let z : false ≡ true = ap not (sym yes) ∙ left in
              cc

          on : (q : Key) (j : Id) → among (others i is) at q j ≡ true → K.Elem j ≡ k → ⊥
          on q j w = out j (first_true (has_id j is) (not (same_id j i)) (sym (has_others i j is) ∙ first_true (has_id j (others i is)) (at q j) w))

          same : (q : Key) (j : Id) → (q ≡ k → ⊥) → among (others i is) at q j ≡ among is at q j
          same q j differs = ap (λ b. b && at q j) (has_others i j is) ∙ go (same_id j i) refl
            where
              none : (x : Bool) → ((x && false) && at q j) ≡ (x && false)
              none true = refl
              none false = refl

              all : (x : Bool) → ((x && true) && at q j) ≡ (x && at q j)
              all true = refl
              all false = refl

              go : (b : Bool) → same_id j i ≡ b → ((has_id j is && not b) && at q j) ≡ (has_id j is && at q j)
              go true s =
                  let gone : at q j ≡ false = not_so (at q j) (λ a. differs (single q k j a (subst (λ z. at k z ≡ true) (sym (same_id-true j i s)) e))) in
                  none (has_id j is) ∙ ap (λ b. has_id j is && b) (sym gone)
              go false s = all (has_id j is)

-- ---- of a list

pub one_key : (O : List Op) (P : List Tagged) (k l : Key) (j : Id) → hangs_at O P k j ≡ true → hangs_at O P l j ≡ same_key k l
one_key O P k l j h = go (op_of j O) h
  where
    go : (o : Option Op) → holds_of (names P k) o ≡ true → holds_of (names P l) o ≡ same_key k l
    go None e = cc
    go (Some o) e =
        let insert : is_insert o.mutation ≡ true = first_true (is_insert o.mutation) (same_path o.cursor.path P && same_key o.cursor.last k) e in
        let rest : (same_path o.cursor.path P && same_key o.cursor.last k) ≡ true = second_true (is_insert o.mutation) (same_path o.cursor.path P && same_key o.cursor.last k) e in
        let path : same_path o.cursor.path P ≡ true = first_true (same_path o.cursor.path P) (same_key o.cursor.last k) rest in
        let last : o.cursor.last ≡ k = keys_eq o.cursor.last k (second_true (same_path o.cursor.path P) (same_key o.cursor.last k) rest) in
        ap (λ b. b && (same_path o.cursor.path P && same_key o.cursor.last l)) insert ∙ ap (λ b. b && same_key o.cursor.last l) path ∙ ap (λ q. same_key q l) last

pub forest_of : (O : List Op) (P : List Tagged) → (f : Forest) × Hangs (hangs_at O P) K.Head None f
forest_of O P =
    let g = grow (hangs_at O P) single (length (falling O)) (falling O) (omega arith) (falling_falls O) K.Head (λ j h e. cc) in
    (g.0, moved (among (falling O) (hangs_at O P)) (hangs_at O P) (λ k. Unit {0}) same (λ k j e. tt) K.Head None g.0 tt g.1)
  where
    single : (k l : Key) (j : Id) → hangs_at O P k j ≡ true → hangs_at O P l j ≡ true → k ≡ l
    single k l j h g = keys_eq k l (sym (one_key O P k l j h) ∙ g)

    found : (k : Key) (o : Option Op) → holds_of (names P k) o ≡ true → is_some o ≡ true
    found k None e = cc
    found k (Some o) e = refl

    same : (k : Key) (j : Id) → Unit {0} → among (falling O) (hangs_at O P) k j ≡ hangs_at O P k j
    same k j u = go (hangs_at O P k j) refl
      where
        none : (x : Bool) → (x && false) ≡ false
        none true = refl
        none false = refl

        go : (b : Bool) → hangs_at O P k j ≡ b → (has_id j (falling O) && b) ≡ b
        go true e = rw (listed_op O j (found k (op_of j O) e)) refl
        go false e = none (has_id j (falling O))

-- none stands twice
module _ (O : List Op) (P : List Tagged) (F : Forest) (H : Hangs (hangs_at O P) K.Head None F) where
  stands : (k : Key) (j : Id) → hangs_at O P k j ≡ true → count j (preorder F) ≡ one_if (same_key k K.Head && true) + count_key k (preorder F)
  stands k j h = counted_at (hangs_at O P) j k (λ l. one_key O P k l j h) F H

  once_in : (k : Key) (b : Option Id) (f : Forest) → Hangs (hangs_at O P) k b f → one_if (same_key k K.Head && true) + count_key k (preorder F) ≤ 1 → (i : Id) → key_in (K.Elem i) (preorder f) ≡ true → count i (preorder F) ≤ 1
  once_in k b bare h l i e = cc
  once_in k b (tree j g x) h l i e = go (same_id j i) (key_in (K.Elem i) (preorder g)) refl refl (once_in (K.Elem j) None g h.3 inner i) (once_in k (Some j) x h.4 l i) (ap (λ z. same_id j i || z) (sym (key_in_append (K.Elem i) (preorder g) (preorder x))) ∙ e)
    where
      here : count j (preorder F) ≡ one_if (same_key k K.Head && true) + count_key k (preorder F)
      here = stands k j h.0

      inner : 0 + count j (preorder F) ≤ 1
      inner = omega (arith, here, l)

      go : (y z : Bool) → same_id j i ≡ y → key_in (K.Elem i) (preorder g) ≡ z → (key_in (K.Elem i) (preorder g) ≡ true → count i (preorder F) ≤ 1) → (key_in (K.Elem i) (preorder x) ≡ true → count i (preorder F) ≤ 1) → (same_id j i || (key_in (K.Elem i) (preorder g) || key_in (K.Elem i) (preorder x))) ≡ true → count i (preorder F) ≤ 1
      go true z s w f m q = subst (λ n. count n (preorder F) ≤ 1) (same_id-true j i s) (omega (arith, inner))
      go false true s w f m q = f w
      go false false s w f m q = m (ap (λ z. z || key_in (K.Elem i) (preorder x)) (sym w) ∙ ap (λ z. z || (key_in (K.Elem i) (preorder g) || key_in (K.Elem i) (preorder x))) (sym s) ∙ q)

  pub once_at : (i : Id) → count i (preorder F) ≤ 1
  once_at i = go (key_in (K.Elem i) (preorder F)) refl
    where
      go : (b : Bool) → key_in (K.Elem i) (preorder F) ≡ b → count i (preorder F) ≤ 1
      go true e = once_in K.Head None F H (omega arith) i e
      go false e = let none : count i (preorder F) ≡ 0 = out_counted i (preorder F) e in omega (arith, none)

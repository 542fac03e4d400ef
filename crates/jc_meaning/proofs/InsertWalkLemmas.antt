-- About Forest: the walk of an insert along the links (`follow`).
use Rattle.std.proofs.Common.{◌≡◌, List, [], ◌∷◌, Bool, true, false, ◌||◌, cond, Option, Some, None, refl, sym, ◌∙◌, subst}
use Rattle.jc_rules.specs.declared.id.Id.{Id}
use Rattle.jc_rules.specs.declared.key.Key.{Key}
use Rattle.jc_rules.specs.declared.key.Key.TheVariants as K
use Rattle.jc_rules.specs.declared.key.Next.{Next}
use Rattle.jc_rules.specs.declared.key.Next.TheVariants.{Tail, Elem as To}
use Rattle.jc_rules.specs.Order.{id_cmp, same_key}
use Rattle.jc_meaning.specs.Forest.{is_less, follow}
use Rattle.jc_meaning.proofs.OrdersLemmas.{keys_eq, keys_self}
use Rattle.jc_meaning.proofs.ChainLemmas.{skip, after, key_in, after_here}
use Rattle.jc_rules.proofs.BoolLemmas.{or_right, neither}

abbrev pub Distinct : Key → List Id → Type 0
Distinct j [] = Unit {0}
Distinct j (n ∷ ns) = (key_in j (n ∷ ns) ≡ false) × Distinct (K.Elem n) ns

-- what follows a key is in the chain
pub followed_in : (j : Key) (ns : List Id) (r : Key) (m : Id) → follow j ns r ≡ Some (To m) → key_in (K.Elem m) ns ≡ true
followed_in j [] r m e = by_cases (same_key j r) e
  where
    by_cases : (b : Bool) → cond b (Some Tail) None ≡ Some (To m) → key_in (K.Elem m) [] ≡ true
    by_cases true h = cc
    by_cases false h = cc
followed_in j (n ∷ ns) r m e = by_cases (same_key j r) (λ h. followed_in (K.Elem n) ns r m h) e
  where
    by_cases : (b : Bool) → (follow (K.Elem n) ns r ≡ Some (To m) → key_in (K.Elem m) ns ≡ true) → cond b (Some (To n)) (follow (K.Elem n) ns r) ≡ Some (To m) → (same_key (K.Elem n) (K.Elem m) || key_in (K.Elem m) ns) ≡ true
    by_cases true k h = let same : n ≡ m = cc in rw (same, keys_self (K.Elem m)) refl
    by_cases false k h = or_right (same_key (K.Elem n) (K.Elem m)) (key_in (K.Elem m) ns) (k h)

-- INSERT2: to go on from what follows r, where that is greater
pub walked : (r : Key) (o m : Id) (j : Key) (ns : List Id) → Distinct j ns → follow j ns r ≡ Some (To m) → is_less (id_cmp o m) ≡ true → after r o j ns ≡ after (K.Elem m) o j ns
walked r o m j [] d e l = absurd (by_cases (same_key j r) e)
  where
    by_cases : (b : Bool) → cond b (Some Tail) None ≡ Some (To m) → ⊥
    by_cases true h = cc
    by_cases false h = cc
walked r o m j (n ∷ ns) d e l =
    by_cases (same_key j r) e (λ h. walked r o m (K.Elem n) ns d.1 h l) (apart (same_key j (K.Elem m)) refl)
  where
    apart : (b : Bool) → same_key j (K.Elem m) ≡ b → same_key j (K.Elem m) ≡ false
    apart false h = h
    apart true h =
        let same : j ≡ K.Elem m = keys_eq j (K.Elem m) h in
        let there : key_in (K.Elem m) (n ∷ ns) ≡ true = followed_in j (n ∷ ns) r m e in
        let gone : key_in (K.Elem m) (n ∷ ns) ≡ false = subst (λ q. key_in q (n ∷ ns) ≡ false) same d.0 in
        cc

    by_cases : (b : Bool) → cond b (Some (To n)) (follow (K.Elem n) ns r) ≡ Some (To m) → (follow (K.Elem n) ns r ≡ Some (To m) → after r o (K.Elem n) ns ≡ after (K.Elem m) o (K.Elem n) ns) → same_key j (K.Elem m) ≡ false → cond b (skip o (n ∷ ns)) (n ∷ after r o (K.Elem n) ns) ≡ cond (same_key j (K.Elem m)) (skip o (n ∷ ns)) (n ∷ after (K.Elem m) o (K.Elem n) ns)
    by_cases true h k a =
        let same : n ≡ m = cc in
        let over : is_less (id_cmp o n) ≡ true = subst (λ q. is_less (id_cmp o q) ≡ true) (sym same) l in
        rw (a, over, after_here (K.Elem m) o (K.Elem n) ns (rw (same, keys_self (K.Elem m)) refl)) refl
    by_cases false h k a = rw (a, k h) refl

abbrev pub StopsAt : Id → Next → Type 0
StopsAt o Tail = Unit {0}
StopsAt o (To m) = is_less (id_cmp o m) ≡ false

-- two keys that differ aren't both k
not_both : (i j k : Key) → same_key i j ≡ false → same_key i k ≡ true → same_key j k ≡ true → ⊥
not_both i j k d e f =
    let one : i ≡ k = keys_eq i k e in
    let two : j ≡ k = keys_eq j k f in
    let same : i ≡ j = one ∙ sym two in
    let yes : same_key i j ≡ true = subst (λ q. same_key i q ≡ true) same (keys_self i) in
    cc

turned : (a c : Bool) (x y z w : Option Next) → (a ≡ true → c ≡ true → ⊥) → cond a x (cond c y w) ≡ cond c y (cond a x (cond a z w))
turned true true x y z w h = absurd (h refl refl)
turned true false x y z w h = refl
turned false true x y z w h = refl
turned false false x y z w h = refl

deeper : (a c d : Bool) (x y z w v : Option Next) → (a ≡ true → c ≡ true → ⊥) → (a ≡ true → d ≡ true → ⊥) → v ≡ cond c y (cond d z w) → cond a x v ≡ cond c y (cond d z (cond a x w))
deeper true true d x y z w v h l e = absurd (h refl refl)
deeper true false true x y z w v h l e = absurd (l refl refl)
deeper true false false x y z w v h l e = refl
deeper false c d x y z w v h l e = e

-- INSERT1: the links with o between r and what follows it
pub linked : (r : Key) (o : Id) (j : Key) (ns : List Id) (n : Next) → Distinct j ns → same_key j (K.Elem o) ≡ false → key_in (K.Elem o) ns ≡ false → follow j ns r ≡ Some n → StopsAt o n → (k : Key) → follow j (after r o j ns) k ≡ cond (same_key (K.Elem o) k) (Some n) (cond (same_key r k) (Some (To o)) (follow j ns k))
linked r o j [] n d a q e s k = by_cases (same_key j r) refl e
  where
    by_cases : (b : Bool) → same_key j r ≡ b → cond b (Some Tail) None ≡ Some n → follow j (cond b (o ∷ []) []) k ≡ cond (same_key (K.Elem o) k) (Some n) (cond (same_key r k) (Some (To o)) (cond (same_key j k) (Some Tail) None))
    by_cases false h g = cc
    by_cases true h g =
        let same : j ≡ r = keys_eq j r h in
        rw (← same, ← g) (turned (same_key j k) (same_key (K.Elem o) k) (Some (To o)) (Some Tail) (Some Tail) None (λ x y. not_both j (K.Elem o) k a x y))
linked r o j (m ∷ ns) n d a q e s k = by_cases (same_key j r) refl e (λ g. linked r o (K.Elem m) ns n d.1 ((neither _ _ q).0) ((neither _ _ q).1) g s k)
  where
    by_cases : (b : Bool) → same_key j r ≡ b → cond b (Some (To m)) (follow (K.Elem m) ns r) ≡ Some n → (follow (K.Elem m) ns r ≡ Some n → follow (K.Elem m) (after r o (K.Elem m) ns) k ≡ cond (same_key (K.Elem o) k) (Some n) (cond (same_key r k) (Some (To o)) (follow (K.Elem m) ns k))) → follow j (cond b (skip o (m ∷ ns)) (m ∷ after r o (K.Elem m) ns)) k ≡ cond (same_key (K.Elem o) k) (Some n) (cond (same_key r k) (Some (To o)) (cond (same_key j k) (Some (To m)) (follow (K.Elem m) ns k)))
    by_cases true h g l =
        let same : j ≡ r = keys_eq j r h in
        let to : To m ≡ n = cc in
        let stop : is_less (id_cmp o m) ≡ false = subst (StopsAt o) (sym to) s in
        rw (← same, ← to, stop) (turned (same_key j k) (same_key (K.Elem o) k) (Some (To o)) (Some (To m)) (Some (To m)) (follow (K.Elem m) ns k) (λ x y. not_both j (K.Elem o) k a x y))
    by_cases false h g l = deeper (same_key j k) (same_key (K.Elem o) k) (same_key r k) (Some (To m)) (Some n) (Some (To o)) (follow (K.Elem m) ns k) (follow (K.Elem m) (after r o (K.Elem m) ns) k) (λ x y. not_both j (K.Elem o) k a x y) (λ x y. not_both j r k h x y) (l g)

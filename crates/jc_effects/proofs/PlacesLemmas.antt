-- About Places: what differs under a tagged key, and that nothing differs where none is told.
use Rattle.std.proofs.Common.{◌≡◌, ℕ, suc, ◌<◌, List, [], ◌∷◌, ◌++◌, length, drop, get_or, Bool, true, false, ◌||◌, cond, refl, sym, ◌∙◌, ap, subst, drop-cons}
use Rattle.std.specs.List.{AllByRecursion}
use Rattle.jc_rules.specs.declared.key.Key.{Key}
use Rattle.jc_rules.specs.declared.key.Tagged.{Tagged}
use Rattle.jc_rules.specs.declared.key.Tagged.TheVariants.{MapT, ListT, RegT}
use Rattle.jc_rules.specs.Context.{Context, key_of_tagged}
use Rattle.jc_rules.specs.Order.{same_key}
use Rattle.jc_rules.specs.Paths.{HasContext}
use Rattle.jc_meaning.specs.Seen.{seen}
use Rattle.jc_meaning.proofs.OrdersLemmas.{keys_eq, keys_self}
use Rattle.jc_effects.specs.Difference.{OwnDifference, Differences, no_difference, difference, is_listed, below, IsSameAt, IsSameFrom, AreExact, IsDifference}
use Rattle.jc_effects.specs.Places.{part_under, differences_under, differs_at}
use Rattle.jc_effects.proofs.LawsPathLemmas.{seen_seen}

not_same : (j k : Key) → (j ≡ k → ⊥) → same_key j k ≡ false
not_same j k n = go (same_key j k) refl
  where
    go : (b : Bool) → same_key j k ≡ b → same_key j k ≡ false
    go true e = absurd (n (keys_eq j k e))
    go false e = e

-- ---- the first place, and the others

module _ (k : Key) (o : OwnDifference) (m l rest : Differences) where
  pub under_first : (t : Tagged) → k ≡ key_of_tagged t → differences_under t (difference k o m l rest) ≡ part_under t m l
  under_first t e = ap (λ b. cond b (part_under t m l) (differences_under t rest)) (ap (same_key (key_of_tagged t)) e ∙ keys_self (key_of_tagged t))

  pub under_later : (t : Tagged) → (k ≡ key_of_tagged t → ⊥) → differences_under t (difference k o m l rest) ≡ differences_under t rest
  under_later t n = ap (λ b. cond b (part_under t m l) (differences_under t rest)) (not_same (key_of_tagged t) k (λ e. n (sym e)))

  pub listed_first : (j : Key) → j ≡ k → is_listed j (difference k o m l rest) ≡ true
  listed_first j e = ap (λ b. b || is_listed j rest) (ap (same_key j) (sym e) ∙ keys_self j)

  pub listed_later : (j : Key) → (j ≡ k → ⊥) → is_listed j (difference k o m l rest) ≡ is_listed j rest
  listed_later j n = ap (λ b. b || is_listed j rest) (not_same j k n)

-- ---- on the way down

nothing_below : (ts : List Tagged) (k : Key) → differs_at ts k no_difference ≡ false
nothing_below [] k = refl
nothing_below (t ∷ ts) k = nothing_below ts k

pub nothing_under : (path : List Tagged) (n : ℕ) (t : Tagged) (k : Key) (x : Differences) (b : Bool) → n < length path → t ≡ get_or path n t → differences_under t x ≡ no_difference → differs_at (drop n path) k x ≡ b → false ≡ b
nothing_under path n t k x b within is none e =
    let rest : drop n path ≡ t ∷ drop (suc n) path = drop-cons path n t within ∙ ap (λ (u : Tagged). u ∷ drop (suc n) path) (sym is) in
    sym (nothing_below (drop (suc n) path) k) ∙ ap (differs_at (drop (suc n) path) k) (sym none) ∙ ap (λ (p : List Tagged). differs_at p k x) (sym rest) ∙ e

-- ---- where none is told

of_part : (c d : Context) (k : Key) (o : OwnDifference) (m l rest : Differences) (t : Tagged) → HasContext t → k ≡ key_of_tagged t → AreExact c d (difference k o m l rest) → IsDifference (below t c) (below t d) (part_under t m l)
of_part c d k o m l rest (MapT j) f e a = subst (λ (z : Key). IsDifference (below (MapT z) c) (below (MapT z) d) m) e (record { complete = a.2; exact = a.3 })
of_part c d k o m l rest (ListT j) f e a = subst (λ (z : Key). IsDifference (below (ListT z) c) (below (ListT z) d) l) e (record { complete = a.4; exact = a.5 })
of_part c d k o m l rest (RegT j) f e a = absurd f

-- under a key that is told it is the difference of what is there
under_is : (c d : Context) (t : Tagged) → HasContext t → (x : Differences) → AreExact c d x → is_listed (key_of_tagged t) x ≡ true → IsDifference (below t c) (below t d) (differences_under t x)
under_is c d t f no_difference a e = cc
under_is c d t f (difference k o m l rest) a e = go (same_key (key_of_tagged t) k) refl e (under_is c d t f rest a.6)
  where
    go : (b : Bool) → same_key (key_of_tagged t) k ≡ b → (b || is_listed (key_of_tagged t) rest) ≡ true
        → (is_listed (key_of_tagged t) rest ≡ true → IsDifference (below t c) (below t d) (differences_under t rest))
        → IsDifference (below t c) (below t d) (cond b (part_under t m l) (differences_under t rest))
    go true s h ih = of_part c d k o m l rest t f (sym (keys_eq (key_of_tagged t) k s)) a
    go false s h ih = ih h

pub same_where_none : (P : List Tagged) (c d : Context) (x : Differences) (k : Key) → IsDifference c d x → AllByRecursion HasContext P → differs_at P k x ≡ false → IsSameFrom k (seen P c) (seen P d)
same_where_none [] c d x k h f e = h.complete.others k e
same_where_none (t ∷ ts) c d x k h f e = go (is_listed (key_of_tagged t) x) refl (λ y g. same_where_none ts (below t c) (below t d) y k g f.1)
  where
    go : (b : Bool) → is_listed (key_of_tagged t) x ≡ b
        → ((y : Differences) → IsDifference (below t c) (below t d) y → differs_at ts k y ≡ false → IsSameFrom k (seen ts (below t c)) (seen ts (below t d)))
        → IsSameFrom k (seen (t ∷ ts) c) (seen (t ∷ ts) d)
    go true told ih = ih (differences_under t x) (under_is c d t f.0 x h.exact told) e
    go false told ih = λ Q j i.
        let s : IsSameAt j (seen ((t ∷ ts) ++ Q) c) (seen ((t ∷ ts) ++ Q) d) = h.complete.others (key_of_tagged t) told ((t ∷ ts) ++ Q) j (keys_self (key_of_tagged t)) in
        subst (λ (z : Context). IsSameAt j z (seen Q (seen (t ∷ ts) d))) (seen_seen (t ∷ ts) Q c)
        (subst (λ (z : Context). IsSameAt j (seen ((t ∷ ts) ++ Q) c) z) (seen_seen (t ∷ ts) Q d) s)

-- About Forest: an insert comes into a forest.
use Rattle.std.proofs.Common.{◌≡◌, List, [], ◌∷◌, ◌++◌, Bool, true, false, ◌||◌, ◌&&◌, cond, Option, Some, None, refl, sym, ◌∙◌, ap, subst}
use Rattle.jc_rules.specs.declared.id.Id.{Id}
use Rattle.jc_rules.specs.declared.key.Key.{Key}
use Rattle.jc_rules.specs.declared.key.Key.TheVariants as K
use Rattle.jc_rules.specs.Order.{id_cmp, same_id, same_key}
use Rattle.jc_meaning.specs.Forest.{Forest, bare, tree, preorder, is_less, is_under, Hangs}
use Rattle.jc_rules.proofs.CoveredLemmas.{left_in}
use Rattle.jc_rules.proofs.IdsLemmas.{same_id-self, same_id-true}
use Rattle.jc_rules.proofs.BoolLemmas.{neither}
use Rattle.jc_meaning.proofs.OrdersLemmas.{keys_eq, keys_self, less_trans, less_self, less_total, under_less}
use Rattle.jc_meaning.proofs.ChainLemmas.{add, key_in, graft}

pub key_in_append : (r : Key) (xs ys : List Id) → key_in r (xs ++ ys) ≡ (key_in r xs || key_in r ys)
key_in_append r [] ys = refl
key_in_append r (n ∷ ns) ys = rw (key_in_append r ns ys) (or_assoc (same_key (K.Elem n) r) _ _)
  where
    or_assoc : (a b c : Bool) → (a || (b || c)) ≡ ((a || b) || c)
    or_assoc true b c = refl
    or_assoc false b c = refl

-- r stands once
abbrev pub Once : Key → Forest → Type 0
Once r bare = Unit {0}
Once r (tree i f x) = (same_key (K.Elem i) r ≡ true → key_in r (preorder f) ≡ false) × (same_key (K.Elem i) r ≡ true → key_in r (preorder x) ≡ false) × (key_in r (preorder f) ≡ true → key_in r (preorder x) ≡ false) × Once r f × Once r x

-- o hangs at r too
abbrev pub with_at : (Key → Id → Bool) → Key → Id → Key → Id → Bool
with_at at r o k i = at k i || (same_key k r && same_id i o)

module _ (at : Key → Id → Bool) (r : Key) (o : Id) (nothing_below : (j : Id) → at (K.Elem o) j ≡ false) (other_key : same_key (K.Elem o) r ≡ false) where
  abbrev with_new : Key → Id → Bool
  with_new = with_at at r o

  split : (X : Type 0) (k : Key) (j : Id) → with_new k j ≡ true → (at k j ≡ true → X) → (j ≡ o → X) → X
  split X k j e f g = by_cases (at k j) (same_key k r) (same_id j o) refl refl e
    where
      by_cases : (x y z : Bool) → at k j ≡ x → same_id j o ≡ z → (x || (y && z)) ≡ true → X
      by_cases true y z a s e = f a
      by_cases false true true a s e = g (same_id-true j o s)
      by_cases false true false a s e = cc
      by_cases false false z a s e = cc

  -- what hangs there now and is under b
  was : (k : Key) (b : Option Id) (j : Id) → (same_key k r && is_under o b) ≡ false → with_new k j ≡ true → is_under j b ≡ true → at k j ≡ true
  was k b j h e u = by_cases (at k j) (same_key k r) (same_id j o) refl e h
    where
      by_cases : (x y z : Bool) → same_id j o ≡ z → (x || (y && z)) ≡ true → (y && is_under o b) ≡ false → x ≡ true
      by_cases true y z s e h = refl
      by_cases false true true s e h = let same : j ≡ o = same_id-true j o s in let v : is_under o b ≡ true = subst (λ q. is_under q b ≡ true) same u in cc
      by_cases false true false s e h = cc
      by_cases false false z s e h = cc

  pub keep : (k : Key) (b : Option Id) (f : Forest) → (same_key k r && is_under o b) ≡ false → key_in r (preorder f) ≡ false → Hangs at k b f → Hangs with_new k b f
  keep k b bare h q s = λ j e u. s j (was k b j h e u) u
  keep k b (tree i f x) h q s =
      let inner : (key_in r (preorder f) || key_in r (preorder x)) ≡ false = sym (key_in_append r (preorder f) (preorder x)) ∙ (neither _ _ q).1 in (
        left_in _ _ s.0,
        s.1,
        λ j e u. s.2 j (was k b j h e u) u,
        keep (K.Elem i) None f (ap (λ b. b && true) ((neither _ _ q).0)) ((neither _ _ inner).0) s.3,
        keep k (Some i) x (by_cases (same_key k r) (is_under o b) (is_less (id_cmp o i)) refl refl h) ((neither _ _ inner).1) s.4,
      )
    where
      by_cases : (y z w : Bool) → is_under o b ≡ z → is_less (id_cmp o i) ≡ w → (y && z) ≡ false → (y && w) ≡ false
      by_cases false z w a c h = refl
      by_cases true z false a c h = refl
      by_cases true true true a c h = h
      by_cases true false true a c h = let v = under_less o i b c s.1 in cc

  not_itself : (j : Id) → j ≡ o → is_less (id_cmp o j) ≡ true → ⊥
  not_itself j w l = less_self o (subst (λ q. is_less (id_cmp o q) ≡ true) w l)

  not_itself_before : (j : Id) → j ≡ o → is_less (id_cmp j o) ≡ true → ⊥
  not_itself_before j w l = less_self o (subst (λ q. is_less (id_cmp q o) ≡ true) w l)

  new_bare : Hangs with_new (K.Elem o) None bare
  new_bare j e v = let a = nothing_below j in let h = was (K.Elem o) None j (ap (λ b. b && true) other_key) e refl in cc

  new_there : at r o ≡ false → with_new r o ≡ true
  new_there n = rw (n, keys_self r, same_id-self o) refl

  -- among the siblings at r
  pub add_hangs : (b : Option Id) (f : Forest) → is_under o b ≡ true → at r o ≡ false → key_in r (preorder f) ≡ false → Hangs at r b f → Hangs with_new r b (add o f)
  add_hangs b bare u n q s = (
    new_there n,
    u,
    λ j e v l. split ⊥ r j e (λ a. s j a v) (λ w. not_itself j w l),
    new_bare,
    λ j e v. split ⊥ r j e (λ a. s j a (under_less j o b v u)) (λ w. not_itself_before j w v),
  )
  add_hangs b (tree i f x) u n q s = by_cases (is_less (id_cmp o i)) refl (λ l. add_hangs (Some i) x l n ((neither (key_in r (preorder f)) (key_in r (preorder x)) inner).1) s.4)
    where
      inner : (key_in r (preorder f) || key_in r (preorder x)) ≡ false
      inner = sym (key_in_append r (preorder f) (preorder x)) ∙ (neither (same_key (K.Elem i) r) (key_in r (preorder f ++ preorder x)) q).1

      below : Hangs with_new (K.Elem i) None f
      below = keep (K.Elem i) None f (ap (λ b. b && true) ((neither (same_key (K.Elem i) r) (key_in r (preorder f ++ preorder x)) q).0)) ((neither (key_in r (preorder f)) (key_in r (preorder x)) inner).0) s.3

      apart : (b : Bool) → same_id o i ≡ b → b ≡ false
      apart true e = let same : o ≡ i = same_id-true o i e in let there : at r o ≡ true = subst (λ j. at r j ≡ true) (sym same) s.0 in cc
      apart false e = refl

      by_cases : (b2 : Bool) → is_less (id_cmp o i) ≡ b2 → (is_less (id_cmp o i) ≡ true → Hangs with_new r (Some i) (add o x)) → Hangs with_new r b (cond b2 (tree i f (add o x)) (tree o bare (tree i f x)))
      by_cases true e k =
          (left_in (at r i) (same_key r r && same_id i o) s.0, s.1, λ j h v l. split ⊥ r j h (λ a. s.2 j a v l) (λ w. less_self i (less_trans i j i l (subst (λ z. is_less (id_cmp z i) ≡ true) (sym w) e))), below, k e)
      by_cases false e k =
          let lower : is_less (id_cmp i o) ≡ true = less_total o i e (apart (same_id o i) refl) in (
            new_there n,
            u,
            λ j h v l. split ⊥ r j h (λ a. s.2 j a v (less_trans i o j lower l)) (λ w. not_itself j w l),
            new_bare,
            (
              left_in (at r i) (same_key r r && same_id i o) s.0,
              lower,
              λ j h v l. split ⊥ r j h (λ a. s.2 j a (under_less j o b v u) l) (λ w. not_itself_before j w v),
              below,
              keep r (Some i) x (rw (keys_self r, e) refl) ((neither (key_in r (preorder f)) (key_in r (preorder x)) inner).1) s.4,
            ),
          )

  -- below r
  pub graft_hangs : (k : Key) (b : Option Id) (f : Forest) → same_key k r ≡ false → at r o ≡ false → key_in r (preorder f) ≡ true → Once r f → Hangs at k b f → Hangs with_new k b (graft r o f)
  graft_hangs k b bare h n q w s = cc
  graft_hangs k b (tree i f x) h n q w s = by_cases (same_key (K.Elem i) r) (key_in r (preorder f)) refl refl q (λ e g. graft_hangs (K.Elem i) None f e n g w.3 s.3) (λ e. graft_hangs k (Some i) x h n e w.4 s.4)
    where
      no_one : (c : Option Id) → (same_key k r && is_under o c) ≡ false
      no_one c = rw h refl

      greatest : (j : Id) → with_new k j ≡ true → is_under j b ≡ true → is_less (id_cmp i j) ≡ true → ⊥
      greatest j e u = s.2 j (was k b j (no_one b) e u) u

      old : with_new k i ≡ true
      old = left_in (at k i) (same_key k r && same_id i o) s.0

      in_later : (y z : Bool) → y ≡ false → z ≡ false → (y || key_in r (preorder f ++ preorder x)) ≡ true → key_in r (preorder f) ≡ z → key_in r (preorder x) ≡ true
      in_later y z a c e g = let whole : key_in r (preorder f ++ preorder x) ≡ (key_in r (preorder f) || key_in r (preorder x)) = key_in_append r (preorder f) (preorder x) in rest (key_in r (preorder f)) (key_in r (preorder x)) (g ∙ c) (sym whole ∙ unfirst y a e)
        where
          rest : (v t : Bool) → v ≡ false → (v || t) ≡ true → t ≡ true
          rest true t p q2 = cc
          rest false t p q2 = q2

          unfirst : (y2 : Bool) → y2 ≡ false → (y2 || key_in r (preorder f ++ preorder x)) ≡ true → key_in r (preorder f ++ preorder x) ≡ true
          unfirst true p q2 = cc
          unfirst false p q2 = q2

      by_cases : (y z : Bool) → same_key (K.Elem i) r ≡ y → key_in r (preorder f) ≡ z → (y || key_in r (preorder f ++ preorder x)) ≡ true → (same_key (K.Elem i) r ≡ false → key_in r (preorder f) ≡ true → Hangs with_new (K.Elem i) None (graft r o f)) → (key_in r (preorder x) ≡ true → Hangs with_new k (Some i) (graft r o x)) → Hangs with_new k b (cond y (tree i (add o f) x) (cond z (tree i (graft r o f) x) (tree i f (graft r o x))))
      by_cases true z e g t l m =
          let same : K.Elem i ≡ r = keys_eq (K.Elem i) r e in
          let there : Hangs at r None f = subst (λ c. Hangs at c None f) same s.3 in
          (old, s.1, greatest, subst (λ c. Hangs with_new c None (add o f)) (sym same) (add_hangs None f refl n (w.0 e) there), keep k (Some i) x (no_one (Some i)) (w.1 e) s.4)
      by_cases false true e g t l m = (old, s.1, greatest, l e g, keep k (Some i) x (no_one (Some i)) (w.2 g) s.4)
      by_cases false false e g t l m = (old, s.1, greatest, keep (K.Elem i) None f (ap (λ c. c && true) e) g s.3, m (in_later false false refl refl t g))

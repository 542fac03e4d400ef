-- About Meaning: which keys a list and a new element have, by the roots of operations.
use Rattle.std.proofs.Common.{◌≡◌, List, [], ◌∷◌, Bool, true, false, not, ◌||◌, cond, Option, Some, None, is_some, Contains, ◌⊎◌, inl, inr, refl, sym, ◌∙◌, ap, subst}
use Rattle.jc_rules.specs.declared.id.Id.{Id}
use Rattle.jc_rules.specs.declared.key.Key.{Key}
use Rattle.jc_rules.specs.declared.key.Key.TheVariants as K
use Rattle.jc_rules.specs.declared.key.Next.TheVariants.{Tail, Elem as To}
use Rattle.jc_rules.specs.declared.key.Tagged.{Tagged}
use Rattle.jc_rules.specs.declared.key.Tagged.TheVariants.{MapT, ListT, RegT}
use Rattle.jc_rules.specs.declared.operation.Op.{Op}
use Rattle.jc_rules.specs.declared.operation.Mutation.{Mutation}
use Rattle.jc_rules.specs.declared.operation.Mutation.TheVariants as M
use Rattle.jc_rules.specs.declared.value.Value.{Value}
use Rattle.jc_rules.specs.declared.value.Value.TheVariants as V
use Rattle.jc_rules.specs.Order.{same_key}
use Rattle.jc_rules.specs.Context.{Context, next, key_of_tagged}
use Rattle.jc_rules.specs.WellFormed.{LeadsThrough, elements, chain_of}
use Rattle.jc_rules.specs.Table.{is_done, op_of}
use Rattle.jc_network.proofs.MembersLemmas.{op_in}
use Rattle.jc_meaning.specs.Effects.{same_tagged, same_path, is_at_or_above, list_at, target_of, target, is_delete, is_insert, touches, value_in, is_made_by, passed, goes_through}
use Rattle.jc_meaning.specs.Seen.{seen, has_tag}
use Rattle.jc_meaning.specs.Forest.{follow}
use Rattle.jc_meaning.specs.Meaning.{holds_of, is_present, is_cleared, value_written, goes}
use Rattle.jc_meaning.specs.ClearingEffects.{is_tagged}
use Rattle.jc_meaning.proofs.OrdersLemmas.{keys_eq, keys_back, keys_self}
use Rattle.jc_meaning.proofs.TagsLemmas.{tags_eq, tags_back}
use Rattle.jc_meaning.proofs.OperationActsLemmas.{Fresh}
use Rattle.jc_meaning.proofs.ClearingEffectsInductionLemmas.{or_cond}
use Rattle.jc_meaning.proofs.ChainLemmas.{key_in}
use Rattle.jc_meaning.proofs.NextOperationLemmas.{some_in, inserted_at, inserted_by, IsRoot, IsGood, NewFor, not_in_deps_of}
use Rattle.jc_meaning.proofs.MeaningForcesLemmas.{value_present}
use Rattle.jc_meaning.proofs.MeaningStepButLinksLemmas.{MeansAt}
use Rattle.jc_meaning.proofs.InsertWalkLemmas.{Distinct}
use Rattle.jc_rules.proofs.BoolLemmas.{or_right, first_true, second_true, both_true, not_so}

-- ---- places above places

pub above_trans : (Q : List Tagged) (q : Key) (P : List Tagged) (l : Key) (R : List Tagged) (r : Key) → is_at_or_above Q q P l ≡ true → is_at_or_above P l R r ≡ true → is_at_or_above Q q R r ≡ true
above_trans [] q [] l [] r h g = subst (λ z. same_key z r ≡ true) (sym (keys_eq q l h)) g
above_trans [] q [] l (u ∷ us) r h g = subst (λ z. same_key z (key_of_tagged u) ≡ true) (sym (keys_eq q l h)) g
above_trans [] q (s ∷ ss) l [] r h g = cc
above_trans [] q (s ∷ ss) l (u ∷ us) r h g = subst (λ z. same_key q (key_of_tagged z) ≡ true) (tags_eq s u (first_true (same_tagged s u) (is_at_or_above ss l us r) g)) h
above_trans (t ∷ ts) q [] l R r h g = cc
above_trans (t ∷ ts) q (s ∷ ss) l [] r h g = cc
above_trans (t ∷ ts) q (s ∷ ss) l (u ∷ us) r h g =
    both_true (same_tagged t u) (is_at_or_above ts q us r)
    (subst (λ z. same_tagged t z ≡ true) (tags_eq s u (first_true (same_tagged s u) (is_at_or_above ss l us r) g)) (first_true (same_tagged t s) (is_at_or_above ts q ss l) h))
    (above_trans ts q ss l us r (second_true (same_tagged t s) (is_at_or_above ts q ss l) h) (second_true (same_tagged s u) (is_at_or_above ss l us r) g))

-- above another last key, or at this one
above_or : (P : List Tagged) (l : Key) (Q : List Tagged) (a b : Key) → is_at_or_above P l Q a ≡ true → (is_at_or_above P l Q b ≡ true) ⊎ ((same_path Q P ≡ true) × (same_key l a ≡ true))
above_or [] l [] a b h = inr (refl, h)
above_or [] l (u ∷ us) a b h = inl h
above_or (t ∷ ts) l [] a b h = cc
above_or (t ∷ ts) l (u ∷ us) a b h = go (above_or ts l us a b (second_true (same_tagged t u) (is_at_or_above ts l us a) h))
  where
    one : same_tagged t u ≡ true
    one = first_true (same_tagged t u) (is_at_or_above ts l us a) h

    go : (is_at_or_above ts l us b ≡ true) ⊎ ((same_path us ts ≡ true) × (same_key l a ≡ true)) → (is_at_or_above (t ∷ ts) l (u ∷ us) b ≡ true) ⊎ ((same_path (u ∷ us) (t ∷ ts) ≡ true) × (same_key l a ≡ true))
    go (inl x) = inl (both_true (same_tagged t u) (is_at_or_above ts l us b) one x)
    go (inr x) = inr (both_true (same_tagged u t) (same_path us ts) (tags_back u t ∙ one) x.0, x.1)

-- a place above an operation's target is above its cursor, or it is the element that it inserts
pub target_above : (p : Op) (P : List Tagged) (l : Key) → is_at_or_above P l p.cursor.path (target p) ≡ true → (is_at_or_above P l p.cursor.path p.cursor.last ≡ true) ⊎ ((is_insert p.mutation ≡ true) × (same_path p.cursor.path P ≡ true) × (same_key l (K.Elem p.id) ≡ true))
target_above p P l h = go p.mutation h
  where
    own : (is_at_or_above P l p.cursor.path p.cursor.last ≡ true) ⊎ ((same_path p.cursor.path P ≡ true) × (same_key l (K.Elem p.id) ≡ true)) → (is_at_or_above P l p.cursor.path p.cursor.last ≡ true) ⊎ ((true ≡ true) × (same_path p.cursor.path P ≡ true) × (same_key l (K.Elem p.id) ≡ true))
    own (inl x) = inl x
    own (inr x) = inr (refl, x.0, x.1)

    go : (m : Mutation) → is_at_or_above P l p.cursor.path (target_of m p.id p.cursor.last) ≡ true → (is_at_or_above P l p.cursor.path p.cursor.last ≡ true) ⊎ ((is_insert m ≡ true) × (same_path p.cursor.path P ≡ true) × (same_key l (K.Elem p.id) ≡ true))
    go (M.Insert v) x = own (above_or P l p.cursor.path (K.Elem p.id) p.cursor.last x)
    go (M.Assign v) x = inl x
    go M.Delete x = inl x

reg_key : (k : Key) (u : Tagged) → same_tagged (RegT k) u ≡ true → same_key (key_of_tagged u) k ≡ true
reg_key k (MapT j) h = cc
reg_key k (ListT j) h = cc
reg_key k (RegT j) h = keys_back j k ∙ h

made_key : (v : Option Value) (k : Key) (u : Tagged) → is_made_by v k u ≡ true → same_key (key_of_tagged u) k ≡ true
made_key None k u h = cc
made_key (Some V.EmptyMap) k (MapT j) h = keys_back j k ∙ h
made_key (Some V.EmptyMap) k (ListT j) h = cc
made_key (Some V.EmptyMap) k (RegT j) h = cc
made_key (Some V.EmptyList) k (MapT j) h = cc
made_key (Some V.EmptyList) k (ListT j) h = keys_back j k ∙ h
made_key (Some V.EmptyList) k (RegT j) h = cc
made_key (Some v) k u h = reg_key k u h

-- a tagged key on the way, or made at its end
passed_above : (Q : List Tagged) (q : Key) (v : Option Value) (P : List Tagged) (u : Tagged) → passed Q q v P u ≡ true → is_at_or_above P (key_of_tagged u) Q q ≡ true
passed_above [] q v [] u h = made_key v q u h
passed_above [] q v (s ∷ ss) u h = cc
passed_above (t ∷ ts) q v [] u h = subst (λ z. same_key (key_of_tagged u) (key_of_tagged z) ≡ true) (sym (tags_eq t u h)) (keys_self (key_of_tagged u))
passed_above (t ∷ ts) q v (s ∷ ss) u h =
    both_true (same_tagged s t) (is_at_or_above ss (key_of_tagged u) ts q)
    (tags_back s t ∙ first_true (same_tagged t s) (passed ts q v ss u) h)
    (passed_above ts q v ss u (second_true (same_tagged t s) (passed ts q v ss u) h))

-- ---- chains

done_in : (L : List Id) (k : Key) → is_done (elements L) k ≡ key_in k L
done_in [] k = refl
done_in (n ∷ ns) k = sym (or_cond (same_key (K.Elem n) k) (is_done (elements ns) k)) ∙ ap (λ b. same_key (K.Elem n) k || b) (done_in ns k)

leads_from : (c : Context) (j : Key) (ns : List Id) → Distinct j ns → ((k : Key) → (same_key j k || key_in k ns) ≡ true → next k c ≡ follow j ns k) → LeadsThrough c j ns
leads_from c j [] d h = h j (ap (λ b. b || false) (keys_self j)) ∙ ap (λ b. cond b (Some Tail) None) (keys_self j)
leads_from c j (n ∷ ns) d h = (first, leads_from c (K.Elem n) ns d.1 rest)
  where
    first : next j c ≡ Some (To n)
    first = h j (ap (λ b. b || key_in j (n ∷ ns)) (keys_self j)) ∙ ap (λ b. cond b (Some (To n)) (follow (K.Elem n) ns j)) (keys_self j)

    apart : (k : Key) → key_in k (n ∷ ns) ≡ true → same_key j k ≡ true → ⊥
    apart k e g =
        let there : key_in j (n ∷ ns) ≡ true = subst (λ z. key_in z (n ∷ ns) ≡ true) (sym (keys_eq j k g)) e in
        let z : true ≡ false = sym there ∙ d.0 in
        cc

    rest : (k : Key) → (same_key (K.Elem n) k || key_in k ns) ≡ true → next k c ≡ follow (K.Elem n) ns k
    rest k e = h k (or_right (same_key j k) (key_in k (n ∷ ns)) e) ∙ ap (λ b. cond b (Some (To n)) (follow (K.Elem n) ns k)) (not_so (same_key j k) (apart k e))

pub leads_through : (c : Context) (ns : List Id) → Distinct K.Head ns → ((k : Key) → next k c ≡ follow K.Head ns k) → LeadsThrough c K.Head ns
leads_through c ns d h = leads_from c K.Head ns d (λ k e. h k)

-- ---- what has a tag in a list is linked

module _ (S : List Op) (good : IsGood S) (P : List Tagged) (list : list_at false P ≡ true) (L : List Id) (all : (i : Id) → inserted_at S P i ≡ true → key_in (K.Elem i) L ≡ true) where
  element_linked : (i : Id) → inserted_at S P i ≡ true → is_done (chain_of L) (K.Elem i) ≡ true
  element_linked i e = done_in L (K.Elem i) ∙ all i e

  root_linked : (p : Op) (k : Key) → IsRoot S p P k → is_done (chain_of L) k ≡ true
  root_linked p K.Head r = refl
  root_linked p (K.Elem j) r = element_linked j r.1
  root_linked p K.Doc r = absurd r
  root_linked p (K.Name s) r = absurd r

  goes_linked : (u : Tagged) → goes S P u ≡ true → is_done (chain_of L) (key_of_tagged u) ≡ true
  goes_linked u h = go (some_in (λ o. goes_through o P u) S h)
    where
      at : (p : Op) → Contains S p → (is_at_or_above P (key_of_tagged u) p.cursor.path p.cursor.last ≡ true) ⊎ ((is_insert p.mutation ≡ true) × (same_path p.cursor.path P ≡ true) × (same_key (key_of_tagged u) (K.Elem p.id) ≡ true)) → is_done (chain_of L) (key_of_tagged u) ≡ true
      at p k (inl x) = root_linked p (key_of_tagged u) (good.rooted p k P (key_of_tagged u) list x)
      at p k (inr x) = subst (λ q. is_done (chain_of L) q ≡ true) (sym (keys_eq (key_of_tagged u) (K.Elem p.id) x.2)) (element_linked p.id (inserted_by S P p.id p (good.one p k) x.0 x.1))

      go : (p : Op) × Contains S p × (goes_through p P u ≡ true) → is_done (chain_of L) (key_of_tagged u) ≡ true
      go (p, k, e) = at p k (target_above p P (key_of_tagged u) (passed_above p.cursor.path (target p) (value_in p.mutation) P u e))

  pub tagged_linked : (t : Context) → MeansAt S t → (k : Key) → is_tagged k (seen P t) ≡ true → is_done (chain_of L) k ≡ true
  tagged_linked t m k h = go (has_tag (MapT k) (seen P t)) (has_tag (ListT k) (seen P t)) (has_tag (RegT k) (seen P t)) refl refl refl h
    where
      one : (u : Tagged) → has_tag u (seen P t) ≡ true → is_done (chain_of L) (key_of_tagged u) ≡ true
      one u e = goes_linked u (sym (m.tags P u) ∙ e)

      go : (a b c : Bool) → has_tag (MapT k) (seen P t) ≡ a → has_tag (ListT k) (seen P t) ≡ b → has_tag (RegT k) (seen P t) ≡ c → (a || (b || c)) ≡ true → is_done (chain_of L) k ≡ true
      go true b c x y z e = one (MapT k) x
      go false true c x y z e = one (ListT k) y
      go false false true x y z e = one (RegT k) z
      go false false false x y z e = cc

-- ---- nothing is at a new element or below it

module _ (S : List Op) (o : Op) (new : NewFor S o) (list : list_at false o.cursor.path ≡ true) where
  none_touches : (P : List Tagged) (l : Key) → is_at_or_above o.cursor.path (K.Elem o.id) P l ≡ true → (p : Op) → Contains S p → touches p P l ≡ true → ⊥
  none_touches P l h p k e = go (target_above p o.cursor.path (K.Elem o.id) (above_trans o.cursor.path (K.Elem o.id) P l p.cursor.path (target p) h (second_true (not (is_delete p.mutation)) (is_at_or_above P l p.cursor.path (target p)) e)))
    where
      go : (is_at_or_above o.cursor.path (K.Elem o.id) p.cursor.path p.cursor.last ≡ true) ⊎ ((is_insert p.mutation ≡ true) × (same_path p.cursor.path o.cursor.path ≡ true) × (same_key (K.Elem o.id) (K.Elem p.id) ≡ true)) → ⊥
      go (inl x) =
          let r = new.good.rooted p k o.cursor.path (K.Elem o.id) list x in
          let z : true ≡ false = sym r.0 ∙ not_in_deps_of S o new p k in
          cc
      go (inr x) =
          let same : K.Elem o.id ≡ K.Elem p.id = keys_eq (K.Elem o.id) (K.Elem p.id) x.2 in
          let ids : o.id ≡ p.id = cc in
          let z : None ≡ Some p = sym new.outside ∙ ap (λ j. op_of j S) ids ∙ new.good.one p k in
          cc

  none_present : (P : List Tagged) (l : Key) (j : Id) → is_at_or_above o.cursor.path (K.Elem o.id) P l ≡ true → is_present S P l j ≡ false
  none_present P l j h = not_so (is_present S P l j) (λ e. go (op_of j S) refl (first_true (holds_of (λ p. touches p P l) (op_of j S)) (not (is_cleared S P l j)) e))
    where
      go : (x : Option Op) → op_of j S ≡ x → holds_of (λ p. touches p P l) x ≡ true → ⊥
      go None f g = cc
      go (Some p) f g = none_touches P l h p (op_in j S p f).0 g

  pub is_fresh : (t : Context) → MeansAt S t → Fresh o.id o.cursor.path t
  is_fresh t m P l j h = (m.ids P l j ∙ none_present P l j h, m.values P l j ∙ none (value_written S P l j) refl)
    where
      none : (v : Option Value) → value_written S P l j ≡ v → v ≡ None
      none None e = refl
      none (Some v) e =
          let x : is_present S P l j ≡ true = value_present S P l j (ap is_some e) in
          let z : true ≡ false = sym x ∙ none_present P l j h in
          cc

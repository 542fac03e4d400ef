-- About Meaning: the links of a meaning where nothing was inserted, and at the start.
use Rattle.std.proofs.Common.{◌≡◌, List, [], ◌∷◌, Bool, true, false, ◌||◌, ◌&&◌, cond, Option, Some, None, ◌⊎◌, inl, inr, refl, sym, ◌∙◌, ap, subst}
use Rattle.jc_rules.specs.declared.id.Id.{Id}
use Rattle.jc_rules.specs.declared.key.Key.{Key}
use Rattle.jc_rules.specs.declared.key.Key.TheVariants as K
use Rattle.jc_rules.specs.declared.key.Tagged.{Tagged}
use Rattle.jc_rules.specs.declared.key.Tagged.TheVariants.{MapT, ListT, RegT}
use Rattle.jc_rules.specs.declared.operation.Op.{Op}
use Rattle.jc_rules.specs.Order.{same_id, same_key}
use Rattle.jc_rules.specs.Ids.{has_id}
use Rattle.jc_rules.specs.Context.{Context, next, empty, empty_list}
use Rattle.jc_rules.specs.Derivation.{Operate, ToContext}
use Rattle.jc_rules.specs.Table.{op_of}
use Rattle.jc_rules.proofs.IdsLemmas.{same_id-true}
use Rattle.jc_meaning.specs.Effects.{same_path, list_at, is_insert}
use Rattle.jc_meaning.specs.Seen.{seen, has_tag}
use Rattle.jc_meaning.specs.Forest.{Forest, bare, tree, preorder, Hangs, follow}
use Rattle.jc_meaning.proofs.ChainLemmas.{after, key_in}
use Rattle.jc_meaning.proofs.ClearingEffectsLemmas.{ids_empty, value_empty}
use Rattle.jc_meaning.proofs.InsertWalkLemmas.{Distinct}
use Rattle.jc_meaning.proofs.OperationActsLemmas.{Changes, Fresh}
use Rattle.jc_rules.specs.Refused.{IsAnswered}
use Rattle.jc_meaning.specs.Meaning.{holds_of, names, hangs_at, LinksOf}
use Rattle.jc_meaning.proofs.InsertEffectsLemmas.{operation_changes}
use Rattle.jc_meaning.proofs.MeaningStepButLinksLemmas.{MeansAt}
use Rattle.jc_meaning.specs.ClearingEffects.{Tidy}

pub hangs_same : (at at2 : Key → Id → Bool) → ((k : Key) (i : Id) → at2 k i ≡ at k i) → (k : Key) (b : Option Id) (f : Forest) → Hangs at k b f → Hangs at2 k b f
hangs_same at at2 e k b bare h = λ j x y. h j (sym (e k j) ∙ x) y
hangs_same at at2 e k b (tree i f r) h = (e k i ∙ h.0, h.1, λ j x y z. h.2 j (sym (e k j) ∙ x) y z, hangs_same at at2 e (K.Elem i) None f h.3, hangs_same at at2 e k (Some i) r h.4)

-- what hangs where, with one operation more
pub hangs_with : (S : List Op) (o : Op) (P : List Tagged) → op_of o.id S ≡ None → (k : Key) (i : Id) → hangs_at (o ∷ S) P k i ≡ (hangs_at S P k i || (names P k o && same_id i o.id))
hangs_with S o P outside k i = go (same_id i o.id) refl
  where
    one : (x : Bool) → x ≡ (x && true)
    one true = refl
    one false = refl

    two : (x y : Bool) → x ≡ (x || (y && false))
    two true y = refl
    two false true = refl
    two false false = refl

    go : (b : Bool) → same_id i o.id ≡ b → holds_of (names P k) (cond b (Some o) (op_of i S)) ≡ (hangs_at S P k i || (names P k o && b))
    go true e = let none : op_of i S ≡ None = subst (λ q. op_of q S ≡ None) (sym (same_id-true i o.id e)) outside in rw none (one (names P k o))
    go false e = two (hangs_at S P k i) (names P k o)

-- links of a list into which o doesn't insert
pub links_elsewhere : (S : List Op) (o : Op) (P : List Tagged) (c d : Context) (b : Bool) → op_of o.id S ≡ None → (is_insert o.mutation && same_path o.cursor.path P) ≡ false → ((l : Key) → next l d ≡ next l c) → LinksOf b S P c → LinksOf b (o ∷ S) P d
links_elsewhere S o P c d false outside away e h = λ k. e k ∙ h k
links_elsewhere S o P c d true outside away e h = (h.0, hangs_same (hangs_at S P) (hangs_at (o ∷ S) P) same K.Head None h.0 h.1, λ k. e k ∙ h.2 k)
  where
    gone : (a b c s x : Bool) → (a && b) ≡ false → (x || ((a && (b && c)) && s)) ≡ x
    gone true true c s x h = cc
    gone true false c s true h = refl
    gone true false c s false h = refl
    gone false b c s true h = refl
    gone false b c s false h = refl

    same : (k : Key) (i : Id) → hangs_at (o ∷ S) P k i ≡ hangs_at S P k i
    same k i = hangs_with S o P outside k i ∙ gone (is_insert o.mutation) (same_path o.cursor.path P) (same_key o.cursor.last k) (same_id i o.id) (hangs_at S P k i) away

away_cases : (a b : Bool) → (a && b) ≡ false → (a ≡ false) ⊎ (b ≡ false)
away_cases true false h = inr refl
away_cases true true h = cc
away_cases false b h = inl refl

-- the links field of the step theorem, but for the list into which o inserts
pub step_links : (S : List Op) (o : Op) (t t2 : Context) → op_of o.id S ≡ None → Tidy false t → (is_insert o.mutation ≡ true → Fresh o.id o.cursor.path t) → IsAnswered (Operate t o) (ToContext t2)
    → (P : List Tagged) → (is_insert o.mutation && same_path o.cursor.path P) ≡ false → LinksOf (list_at false P) S P (seen P t) → LinksOf (list_at false P) (o ∷ S) P (seen P t2)
step_links S o t t2 outside tidy fresh a P away h = links_elsewhere S o P (seen P t) (seen P t2) (list_at false P) outside away (go (away_cases (is_insert o.mutation) (same_path o.cursor.path P) away)) h
  where
    k : Changes o.id o.deps o.cursor.path o.cursor.last o.mutation t t2
    k = operation_changes false t t2 o tidy fresh a

    go : (is_insert o.mutation ≡ false) ⊎ (same_path o.cursor.path P ≡ false) → (l : Key) → next l (seen P t2) ≡ next l (seen P t)
    go (inl e) = k.links e P
    go (inr e) = λ l. k.elsewhere P l e

-- the links of the list into which o inserts: the forest with o, when its preorder is the old one with o after the key that it names
pub step_linked : (S : List Op) (o : Op) (t t2 : Context) (ns : List Id) (g : Forest) → Tidy false t → (is_insert o.mutation ≡ true → Fresh o.id o.cursor.path t) → IsAnswered (Operate t o) (ToContext t2) → is_insert o.mutation ≡ true
    → Distinct K.Head ns → key_in (K.Elem o.id) ns ≡ false → ((l : Key) → next l (seen o.cursor.path t) ≡ follow K.Head ns l) → Hangs (hangs_at (o ∷ S) o.cursor.path) K.Head None g → preorder g ≡ after o.cursor.last o.id K.Head ns
    → LinksOf true (o ∷ S) o.cursor.path (seen o.cursor.path t2)
step_linked S o t t2 ns g tidy fresh a is apart out h hangs e =
    let k : Changes o.id o.deps o.cursor.path o.cursor.last o.mutation t t2 = operation_changes false t t2 o tidy fresh a in
    (g, hangs, λ l. k.linked is ns apart out h l ∙ ap (λ q. follow K.Head q l) (sym e))

-- nothing is seen of the empty tree
mutual
  tag_empty : (P : List Tagged) (u : Tagged) → has_tag u (seen P empty) ≡ false
  tag_empty [] (MapT k) = refl
  tag_empty [] (ListT k) = refl
  tag_empty [] (RegT k) = refl
  tag_empty (MapT j ∷ ts) u = tag_empty ts u
  tag_empty (ListT j ∷ ts) u = tag_empty_list ts u
  tag_empty (RegT j ∷ ts) u = tag_empty ts u

  tag_empty_list : (P : List Tagged) (u : Tagged) → has_tag u (seen P empty_list) ≡ false
  tag_empty_list [] (MapT k) = refl
  tag_empty_list [] (ListT k) = refl
  tag_empty_list [] (RegT k) = refl
  tag_empty_list (MapT j ∷ ts) u = tag_empty ts u
  tag_empty_list (ListT j ∷ ts) u = tag_empty_list ts u
  tag_empty_list (RegT j ∷ ts) u = tag_empty ts u

pub start_means : MeansAt [] empty
start_means = record { tags = tag_empty; ids = λ P k i. ap (has_id i) (ids_empty P k); values = value_empty }

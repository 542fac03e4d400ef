-- About Forest and Meaning: the forest of a list with one more insert.
use Rattle.std.proofs.Common.{◌≡◌, ◌<◌, List, ◌∷◌, Bool, true, false, ◌||◌, ◌&&◌, None, refl, sym, ◌∙◌, ap, subst}
use Rattle.jc_rules.specs.declared.id.Id.{Id}
use Rattle.jc_rules.specs.declared.key.Key.{Key}
use Rattle.jc_rules.specs.declared.key.Key.TheVariants as K
use Rattle.jc_rules.specs.declared.key.Tagged.{Tagged}
use Rattle.jc_rules.specs.declared.operation.Op.{Op}
use Rattle.jc_rules.specs.Order.{id_cmp, same_id, same_key}
use Rattle.jc_rules.specs.Ids.{has_id}
use Rattle.jc_rules.proofs.IdsLemmas.{same_id-true}
use Rattle.jc_rules.proofs.BoolLemmas.{not_so}
use Rattle.jc_meaning.specs.Effects.{same_path, list_at, is_insert}
use Rattle.jc_meaning.specs.Forest.{Forest, preorder, is_less, Hangs}
use Rattle.jc_meaning.specs.Meaning.{holds_of, names, hangs_at}
use Rattle.jc_meaning.proofs.OrdersLemmas.{keys_back, keys_self, less_counter}
use Rattle.jc_meaning.proofs.ChainLemmas.{add, graft, add_preorder, graft_preorder, after, after_here, after_later}
use Rattle.jc_meaning.proofs.NextOperationLemmas.{paths_self, inserted_at, Inserted, the_insert, hung_inserted, hangs_is, IsRoot, IsGood, NewFor, not_in_deps_of, not_its_own}
use Rattle.jc_meaning.proofs.MeaningForcesLemmas.{path_above}
use Rattle.jc_meaning.proofs.ForestInsertLemmas.{with_at, add_hangs, graft_hangs}
use Rattle.jc_meaning.proofs.LinkEffectsLemmas.{hangs_same, hangs_with}
use Rattle.jc_meaning.proofs.ForestRisesLemmas.{rises, fits}
use Rattle.jc_meaning.proofs.ForestOnceLemmas.{IsWhole, whole, once_from, head_out}

-- what hangs at a key of a good set is rooted there
pub hung_root : (S : List Op) → IsGood S → (P : List Tagged) → list_at false P ≡ true → (k : Key) (i : Id) → hangs_at S P k i ≡ true → (x : Inserted S P i) × IsRoot S x.op P k
hung_root S good P list k i h =
    let x = the_insert S P i (hung_inserted S P k i h) in
    (x, good.rooted x.op x.within P k list (path_above x.op.cursor.path P x.op.cursor.last k x.path (sym (hangs_is S P i x k) ∙ h)))

-- what hangs at an element is above it
pub hung_above : (S : List Op) → IsGood S → (P : List Tagged) → list_at false P ≡ true → (i j : Id) → hangs_at S P (K.Elem i) j ≡ true → is_less (id_cmp i j) ≡ true
hung_above S good P list i j h =
    let r = hung_root S good P list (K.Elem i) j h in
    let older : i.counter < r.0.op.id.counter = good.older r.0.op r.0.within i r.1.0 in
    less_counter i j (subst (λ (q : Id). i.counter < q.counter) r.0.is older)

module _ (S : List Op) (o : Op) (new : NewFor S o) (is : is_insert o.mutation ≡ true) (list : list_at false o.cursor.path ≡ true) (f : Forest) (h : Hangs (hangs_at S o.cursor.path) K.Head None f) where
  nothing_below : (j : Id) → hangs_at S o.cursor.path (K.Elem o.id) j ≡ false
  nothing_below j = not_so (hangs_at S o.cursor.path (K.Elem o.id) j) no
    where
      no : hangs_at S o.cursor.path (K.Elem o.id) j ≡ true → ⊥
      no e =
          let r = hung_root S new.good o.cursor.path list (K.Elem o.id) j e in
          let d : has_id o.id r.0.op.deps ≡ true = r.1.0 in
          let z : true ≡ false = sym d ∙ not_in_deps_of S o new r.0.op r.0.within in
          cc

  nothing_at : (k : Key) → hangs_at S o.cursor.path k o.id ≡ false
  nothing_at k = ap (holds_of (names o.cursor.path k)) new.outside

  abbrev Grown : Type 0
  Grown = (g : Forest) × Hangs (hangs_at (o ∷ S) o.cursor.path) K.Head None g × (preorder g ≡ after o.cursor.last o.id K.Head (preorder f))

  grows_at : (r : Key) → o.cursor.last ≡ r → (g : Forest) → Hangs (with_at (hangs_at S o.cursor.path) r o.id) K.Head None g → preorder g ≡ after r o.id K.Head (preorder f) → Grown
  grows_at r e g hangs order = (g, hangs_same (with_at (hangs_at S o.cursor.path) r o.id) (hangs_at (o ∷ S) o.cursor.path) same K.Head None g hangs, order ∙ ap (λ q. after q o.id K.Head (preorder f)) (sym e))
    where
      third : (a b c : Bool) → a ≡ true → b ≡ true → (a && (b && c)) ≡ c
      third true true c x y = refl
      third true false c x y = cc
      third false b c x y = cc

      named : (k : Key) → names o.cursor.path k o ≡ same_key k r
      named k =
          third (is_insert o.mutation) (same_path o.cursor.path o.cursor.path) (same_key o.cursor.last k) is (paths_self o.cursor.path)
          ∙ ap (λ q. same_key q k) e ∙ keys_back r k

      same : (k : Key) (i : Id) → hangs_at (o ∷ S) o.cursor.path k i ≡ with_at (hangs_at S o.cursor.path) r o.id k i
      same k i = hangs_with S o o.cursor.path new.outside k i ∙ ap (λ b. hangs_at S o.cursor.path k i || (b && same_id i o.id)) (named k)

  pub grown : Grown
  grown = go o.cursor.last refl (new.rooted o.cursor.path o.cursor.last list (path_above o.cursor.path o.cursor.path o.cursor.last o.cursor.last (paths_self o.cursor.path) (keys_self o.cursor.last)))
    where
      at_head : o.cursor.last ≡ K.Head → Grown
      at_head e =
          grows_at K.Head e (add o.id f)
          (add_hangs (hangs_at S o.cursor.path) K.Head o.id nothing_below refl None f refl (nothing_at K.Head) (head_out (preorder f)) h)
          (add_preorder o.id f (rises (hangs_at S o.cursor.path) (hung_above S new.good o.cursor.path list) K.Head None f h) ∙ sym (after_here K.Head o.id K.Head (preorder f) refl))

      at_element : (j : Id) → o.cursor.last ≡ K.Elem j → has_id j o.deps ≡ true → inserted_at S o.cursor.path j ≡ true → Grown
      at_element j e d there =
          let w : IsWhole S o.cursor.path f = whole S new.good o.cursor.path list f h in
          let apart : same_id o.id j ≡ false = not_so (same_id o.id j) (λ x. let y : has_id o.id o.deps ≡ true = subst (λ q. has_id q o.deps ≡ true) (sym (same_id-true o.id j x)) d in let z : true ≡ false = sym y ∙ not_its_own S o new in cc) in
          let up = hung_above S new.good o.cursor.path list in
          grows_at (K.Elem j) e (graft (K.Elem j) o.id f)
          (graft_hangs (hangs_at S o.cursor.path) (K.Elem j) o.id nothing_below apart K.Head None f refl (nothing_at (K.Elem j)) (w.all j there) (once_from j f (w.once j)) h)
          (graft_preorder (K.Elem j) o.id f (rises (hangs_at S o.cursor.path) up K.Head None f h) (fits (hangs_at S o.cursor.path) up j o.id (less_counter j o.id (new.older j d)) K.Head None f h)
          ∙ sym (after_later (K.Elem j) o.id K.Head (preorder f) refl))

      go : (r : Key) → o.cursor.last ≡ r → IsRoot S o o.cursor.path r → Grown
      go K.Head e r = at_head e
      go (K.Elem j) e r = at_element j e r.0 r.1
      go K.Doc e r = absurd r
      go (K.Name s) e r = absurd r

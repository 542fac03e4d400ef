-- About Meaning: a derivation of one more operation leads to what the set with it means.
use Rattle.std.proofs.Common.{◌≡◌, List, [], ◌∷◌, Bool, true, false, ◌&&◌, cond, Option, Some, None, refl, sym, ap, subst}
use Rattle.jc_rules.specs.declared.id.Id.{Id}
use Rattle.jc_rules.specs.declared.key.Key.{Key}
use Rattle.jc_rules.specs.declared.key.Key.TheVariants as K
use Rattle.jc_rules.specs.declared.key.Tagged.{Tagged}
use Rattle.jc_rules.specs.declared.key.Tagged.TheVariants.{MapT, ListT, RegT}
use Rattle.jc_rules.specs.declared.operation.Op.{Op}
use Rattle.jc_rules.specs.Context.{Context, Content, Node, Values, content, next, empty, empty_list}
use Rattle.jc_rules.specs.Derivation.{Operate, ToContext}
use Rattle.jc_rules.specs.ContextsAt.{node_in}
use Rattle.jc_rules.specs.Refused.{IsAnswered}
use Rattle.jc_rules.specs.WellFormed.{LeadsThrough, chain_of}
use Rattle.jc_rules.specs.Table.{is_done}
use Rattle.jc_apply.specs.Fits as fits
use Rattle.jc_apply.specs.Fits.{InChild}
use Rattle.jc_network.specs.LinksEverywhere.{Reach}
use Rattle.jc_network.proofs.LinksKeptLemmas.{operates}
use Rattle.jc_rules.specs.declared.key.Next.TheVariants.{Tail}
use Rattle.jc_rules.proofs.BoolLemmas.{first_true, second_true}
use Rattle.jc_meaning.specs.Effects.{same_path, list_at, is_insert}
use Rattle.jc_meaning.specs.Seen.{context_or_new, seen}
use Rattle.jc_meaning.specs.Forest.{bare, preorder}
use Rattle.jc_meaning.specs.Meaning.{LinksOf, Means}
use Rattle.jc_meaning.specs.ClearingEffects.{is_tagged, Tidy}
use Rattle.jc_meaning.proofs.OperationActsLemmas.{Fresh}
use Rattle.jc_meaning.proofs.OrdersLemmas.{keys_back}
use Rattle.jc_meaning.proofs.NextOperationLemmas.{paths_eq, is_insert-is, IsGood, NewFor, not_inserted}
use Rattle.jc_meaning.proofs.MeaningForcesLemmas.{tidy_means}
use Rattle.jc_meaning.proofs.ForestGrowsLemmas.{grown}
use Rattle.jc_meaning.proofs.LinkEffectsLemmas.{step_links, step_linked, start_means}
use Rattle.jc_meaning.proofs.RootsLemmas.{leads_through, tagged_linked, is_fresh}
use Rattle.jc_meaning.proofs.ForestOnceLemmas.{IsWhole, whole, distinct_from, head_out}
use Rattle.jc_meaning.proofs.MeaningStepButLinksLemmas.{MeansAt, step_new}

-- what is reached has a link
pub reached : (P : List Tagged) (c : Context) (k : Key) → Reach c P k → next k (seen P c) ≡ None → ⊥
reached [] c k r = r
reached (t ∷ ts) c k r = go t (content t c) (λ d. reached ts d k) r
  where
    go : (u : Tagged) (o : Option Content) → ((d : Context) → Reach d ts k → next k (seen ts d) ≡ None → ⊥) → InChild (node_in (Some (fits.content_or_new u o))) (λ d. Reach d ts k) → next k (seen ts (context_or_new o u)) ≡ None → ⊥
    go (MapT j) None f x = f empty x
    go (ListT j) None f x = f empty_list x
    go (RegT j) None f x = absurd x
    go u (Some (Node d)) f x = f d x
    go u (Some (Values v)) f x = absurd x

pub but_links : (S : List Op) (t : Context) → Means S t → MeansAt S t
but_links S t m = record { tags = m.tags; ids = m.ids; values = m.values }

-- the tree of a good set is tidy
pub is_tidy : (S : List Op) (t : Context) → IsGood S → Means S t → Tidy false t
is_tidy S t good m = tidy_means S t (but_links S t m) linked
  where
    linked : (P : List Tagged) → list_at false P ≡ true → (is : List Id) × LeadsThrough (seen P t) K.Head is × ((k : Key) → is_tagged k (seen P t) ≡ true → is_done (chain_of is) k ≡ true)
    linked P list =
        let l : LinksOf true S P (seen P t) = subst (λ b. LinksOf b S P (seen P t)) list (m.links P) in
        let w : IsWhole S P l.0 = whole S good P list l.0 l.1 in
        (preorder l.0, leads_through (seen P t) (preorder l.0) (distinct_from (preorder l.0) K.Head (head_out (preorder l.0)) w.once) l.2, tagged_linked S good P list (preorder l.0) w.all t (but_links S t m))

-- an insert's path ends in a list
insert_listed : (S : List Op) (o : Op) (t d : Context) → Means S t → IsAnswered (Operate t o) (ToContext d) → is_insert o.mutation ≡ true → list_at false o.cursor.path ≡ true
insert_listed S o t d m a is = go (list_at false o.cursor.path) (m.links o.cursor.path)
  where
    go : (b : Bool) → LinksOf b S o.cursor.path (seen o.cursor.path t) → b ≡ true
    go true l = refl
    go false l = absurd (reached o.cursor.path t o.cursor.last ((operates t o d a).wants (is_insert-is o.mutation is)) (l o.cursor.last))

pub means_with : (S : List Op) (o : Op) (t d : Context) → NewFor S o → Means S t → IsAnswered (Operate t o) (ToContext d) → Means (o ∷ S) d
means_with S o t d n m a = record { tags = x.tags; ids = x.ids; values = x.values; links = λ P. links P (is_insert o.mutation && same_path o.cursor.path P) refl }
  where
    tidy : Tidy false t
    tidy = is_tidy S t n.good m

    fresh : is_insert o.mutation ≡ true → Fresh o.id o.cursor.path t
    fresh is = is_fresh S o n (insert_listed S o t d m a is) t (but_links S t m)

    x : MeansAt (o ∷ S) d
    x = step_new S o t d n tidy fresh (but_links S t m) a

    here : is_insert o.mutation ≡ true → list_at false o.cursor.path ≡ true → LinksOf true (o ∷ S) o.cursor.path (seen o.cursor.path d)
    here is list =
        let l : LinksOf true S o.cursor.path (seen o.cursor.path t) = subst (λ b. LinksOf b S o.cursor.path (seen o.cursor.path t)) list (m.links o.cursor.path) in
        let w : IsWhole S o.cursor.path l.0 = whole S n.good o.cursor.path list l.0 l.1 in
        let g = grown S o n is list l.0 l.1 in
        step_linked S o t d (preorder l.0) g.0 tidy fresh a is (distinct_from (preorder l.0) K.Head (head_out (preorder l.0)) w.once) (w.only o.id (not_inserted S o o.cursor.path n)) l.2 g.1 g.2

    links : (P : List Tagged) (b : Bool) → (is_insert o.mutation && same_path o.cursor.path P) ≡ b → LinksOf (list_at false P) (o ∷ S) P (seen P d)
    links P true e =
        let is : is_insert o.mutation ≡ true = first_true (is_insert o.mutation) (same_path o.cursor.path P) e in
        let list : list_at false o.cursor.path ≡ true = insert_listed S o t d m a is in
        let own : LinksOf (list_at false o.cursor.path) (o ∷ S) o.cursor.path (seen o.cursor.path d) = subst (λ b. LinksOf b (o ∷ S) o.cursor.path (seen o.cursor.path d)) (sym list) (here is list) in
        subst (λ Q. LinksOf (list_at false Q) (o ∷ S) Q (seen Q d)) (paths_eq o.cursor.path P (second_true (is_insert o.mutation) (same_path o.cursor.path P) e)) own
    links P false e = step_links S o t d n.outside tidy fresh a P e (m.links P)

-- no operations mean the empty tree: no links below P, told of any path Q
mutual
  nothing_linked : (Q P : List Tagged) → LinksOf (list_at false P) [] Q (seen P empty)
  nothing_linked Q [] = λ k. refl
  nothing_linked Q (MapT j ∷ ts) = nothing_linked Q ts
  nothing_linked Q (ListT j ∷ ts) = nothing_in_list Q ts
  nothing_linked Q (RegT j ∷ ts) = nothing_linked Q ts

  nothing_in_list : (Q P : List Tagged) → LinksOf (list_at true P) [] Q (seen P empty_list)
  nothing_in_list Q [] = (bare, λ j e u. let z : false ≡ true = e in cc, λ k. ap (λ b. cond b (Some Tail) None) (keys_back k K.Head))
  nothing_in_list Q (MapT j ∷ ts) = nothing_linked Q ts
  nothing_in_list Q (ListT j ∷ ts) = nothing_in_list Q ts
  nothing_in_list Q (RegT j ∷ ts) = nothing_linked Q ts

pub nothing_means : Means [] empty
nothing_means = record { tags = start_means.tags; ids = start_means.ids; values = start_means.values; links = λ P. nothing_linked P P }

-- About AppliesAlong: the rule of a path's first key adds the identifier and changes what is below.
use Rattle.std.proofs.Common.{◌≡◌, List, [], ◌∷◌, ◌++◌, Option, Some, None, Bool, refl, sym, ◌∙◌, ap, subst}
use Rattle.jc_rules.specs.declared.id.Id.{Id}
use Rattle.jc_rules.specs.declared.key.Key.{Key}
use Rattle.jc_rules.specs.declared.key.Tagged.{Tagged}
use Rattle.jc_rules.specs.declared.key.Tagged.TheVariants.{MapT, ListT, RegT}
use Rattle.jc_rules.specs.declared.operation.Mutation.{Mutation}
use Rattle.jc_rules.specs.declared.operation.Op.{Op}
use Rattle.jc_rules.specs.declared.rule.Rule.{Rule}
use Rattle.jc_rules.specs.declared.rule.Rule.TheVariants as R
use Rattle.jc_rules.specs.Context.{Context, context, Content, Node, content, with_content, with_presence, key_of_tagged}
use Rattle.jc_rules.specs.ContextsAt.{node_in, node_at, with_node_at}
use Rattle.jc_rules.specs.Derivation.{Child, Operate, Answer, ToContent, ToContext, Judgement, gives, Derivation, derive, conclusion, conclusions, trace}
use Rattle.jc_rules.specs.Derives.{Derives}
use Rattle.jc_rules.specs.Trace.{Rows, pushed, one_deeper, at_depth}
use Rattle.jc_rules.specs.Table.{Follows, Holds, moved}
use Rattle.jc_rules.specs.Paths.{HasContext}
use Rattle.jc_rules.proofs.OrderLemmas.{keys_total, exact_keys}
use Rattle.jc_rules.proofs.EntriesLemmas.{found-put}
use Rattle.jc_rules.proofs.ContextsAtLemmas.{listed_children, with-with, with_node-twice, node-below, with_node-below}
use Rattle.jc_rules.proofs.DerivesLemmas.{three_premises}
use Rattle.jc_tree.specs.Tree.{Tree, HasPlace, here}
use Rattle.jc_tree.proofs.PlacesLemmas.{then_node, then_here, then_place, then_now}
use Rattle.jc_apply.specs.Fits.{content_or_new, child_context}
use Rattle.jc_apply.specs.AppliesAlong.{AddsId, IsAdded, TellsAdded, LeadsTo, Enters}

-- an added identifier leaves alone what is under tagged keys
content_presence : (k : Tagged) (j : Key) (s : List Id) (c : Context) → content k (with_presence j s c) ≡ content k c
content_presence (MapT k) j s (context m l r p n) = refl
content_presence (ListT k) j s (context m l r p n) = refl
content_presence (RegT k) j s (context m l r p n) = refl

content_added : (k : Tagged) (i : Id) (m : Mutation) (was : Option Bool) (c d : Context) → IsAdded k i m was c d → content k d ≡ content k c
content_added k i m None c d h = ap (content k) h.1
content_added k i m (Some was) c d h = ap (content k) h.2 ∙ content_presence k (key_of_tagged k) _ c

content_here : (k : Tagged) (i : Id) (m : Mutation) (was : Option Bool) (at : List Tagged) (a b : Tree) → HasPlace at a → AddsId k i m was at a b → content k (here at b) ≡ content k (here at a)
content_here k i m was at a b h x = ap (content k) (then_here at x.after a b h x.now) ∙ content_added k i m was (here at a) x.after x.added

-- the same child is under the key
pub child_added : (k : Tagged) (i : Id) (m : Mutation) (was : Option Bool) (at : List Tagged) (a b d : Tree) (t u : Rows) → HasPlace at a → AddsId k i m was at a b → (x : Enters k at b d t u) → child_context k (here at a) ≡ Some x.below
child_added k i m was at a b d t u h y x =
    ap (λ (o : Option Content). node_in (Some (content_or_new k o))) (sym (content_here k i m was at a b h y)) ∙ x.is

-- a child is derived alike where the same is under its key
follows_child : (r : Rule) (k : Tagged) (x y : Context) (a : Answer) (js : List Judgement) → content k x ≡ content k y → Follows r (Child x k) a js → Follows r (Child y k) a js
follows_child R.ChildGet k x y a js e (z, f, g, h) = (z, sym e ∙ f, g, h)
follows_child R.ChildMap (MapT k) x y a js e (f, g, h) = (sym e ∙ f, g, h)
follows_child R.ChildList (ListT k) x y a js e (f, g, h) = (sym e ∙ f, g, h)
follows_child R.ChildReg (RegT k) x y a js e (f, g, h) = (sym e ∙ f, g, h)
follows_child _ k x y a js e h = absurd h

child_moved : (k : Tagged) (x y : Context) (a : Answer) (t u : Rows) → content k x ≡ content k y → Derives (Child x k) a t u → Derives (Child y k) a t u
child_moved k x y a t u e h = go h.derivation h.holds h.concludes h.rows
  where
    go : (d : Derivation) → Holds d → conclusion d ≡ gives (Child x k) a → u.rows ≡ t.rows ++ trace t.depth d → Derives (Child y k) a t u
    go (derive r j ps) holds is rows =
        let h2 = subst (λ (i : Judgement). Holds (derive r i ps)) is holds in
        record { derivation = derive r (gives (Child y k) a) ps; holds = (follows_child r k x y a (conclusions ps) e h2.0, h2.1); concludes = refl; rows = rows; depth = h.depth }

-- a context that was put can be found
content_new : (k : Tagged) (d c : Context) → HasContext k → content k (with_content k (Node d) c) ≡ Some (Node d)
content_new (MapT k) d (context m l r p n) h = rw (listed_children, found-put keys_total exact_keys) refl
content_new (ListT k) d (context m l r p n) h = rw (listed_children, found-put keys_total exact_keys) refl
content_new (RegT k) d c h = absurd h

-- the child's context
child_node : (k : Tagged) (at : List Tagged) (a b : Tree) (t u : Rows) → HasPlace at a → HasContext k → (x : Enters k at a b t u) → node_at (at ++ k ∷ []) b.now ≡ Some x.below
child_node k at a b t u p h x =
    node-below at k (with_content k (Node x.below) (here at a)) x.below b.now (then_node at _ a b p x.now) (content_new k x.below (here at a) h)

pub child_here : (k : Tagged) (at down : List Tagged) (a b : Tree) (t u : Rows) → HasPlace at a → HasContext k → down ≡ at ++ k ∷ [] → (x : Enters k at a b t u) → here down b ≡ x.below
child_here k at down a b t u p h e x = rw (e, child_node k at a b t u p h x) refl

-- the context above, after a change below
above_now : (k : Tagged) (at : List Tagged) (a b d : Tree) (y : Context) (t u : Rows) → HasPlace at a → HasContext k → (x : Enters k at a b t u) → d.now ≡ with_node_at (at ++ k ∷ []) y b.now → d.now ≡ with_node_at at (with_content k (Node y) (here at a)) a.now
above_now k at a b d y t u p h x e =
    let x1 = with_content k (Node x.below) (here at a) in
    e
    ∙ with_node-below at k x1 x.below y b.now (then_node at _ a b p x.now) (content_new k x.below (here at a) h)
    ∙ ap (λ c. with_node_at at (with_content k (Node y) x1) c) x.now
    ∙ with_node-twice at x1 (with_content k (Node y) x1) a.now
    ∙ ap (λ c. with_node_at at c a.now) (with-with k y x.below (here at a))

pub descended : (o : Op) (k : Tagged) (at down path rest : List Tagged) (was : Option Bool) (a b d e : Tree) (t p u1 u2 u3 w : Rows) → HasPlace at a → HasContext k → down ≡ at ++ k ∷ [] → path ≡ k ∷ rest → p ≡ one_deeper (pushed t R.Descend) → AddsId k o.id o.mutation was at a b → Enters k at b d p u1 → LeadsTo (λ c. Operate c (moved o rest o.cursor.last o.mutation)) down d e u1 u2 → TellsAdded was u2 u3 → w ≡ at_depth t.depth u3 → LeadsTo (λ c. Operate c (moved o path o.cursor.last o.mutation)) at a e t w
descended o k at down path rest was a b d e t p u1 u2 u3 w h hc de pe qe x y z tells we =
    let hb : here at b ≡ x.after = then_here at x.after a b h x.now in
    let pb : HasPlace at b = then_place at x.after a b h x.now in
    let z2 = subst (λ (r : List Tagged). LeadsTo (λ c. Operate c (moved o rest o.cursor.last o.mutation)) r d e u1 u2) de z in
    let inner : here (at ++ k ∷ []) d ≡ y.below = rw (child_node k at b d p u1 pb hc y) refl in
    let last = with_content k (Node z2.after) x.after in
    let dx1 = subst (λ (r : Rows). Derives (Child (here at b) k) (ToContent (Node y.below)) r u1) qe y.derives in
    let dx = child_moved k (here at b) (here at a) _ _ _ (content_here k o.id o.mutation was at a b h x) dx1 in
    let dy = subst (λ (c : Context). Derives (Operate c (moved o rest o.cursor.last o.mutation)) (ToContext z2.after) u1 u2) inner z2.derives in
    let dz = tells k o.id o.mutation (here at a) x.after x.added in
    rw (we, pe) (record {
      after = last;
      derives = three_premises R.Descend _ _ _ _ _ _ _ _ t u1 u2 u3 dx dy dz (k, rest, y.below, z2.after, x.after, refl, refl, refl);
      now = then_now at x.after last a b e x.now (above_now k at b d e z2.after p u1 pb hc y z2.now ∙ ap (λ c. with_node_at at (with_content k (Node z2.after) c) b.now) hb);
    })

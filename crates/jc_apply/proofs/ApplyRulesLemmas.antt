-- About AppliesAlong: the rules at one context.
use Rattle.std.proofs.Common.{◌≡◌, ◌≢◌, List, [], Option, Some, None, Result, Ok, Err, OnOk, Bool, is_some, true, refl, sym, ◌∙◌, ap, subst}
use Rattle.jc_rules.specs.declared.id.Id.{Id}
use Rattle.jc_rules.specs.declared.key.Key.{Key}
use Rattle.jc_rules.specs.declared.key.Tagged.{Tagged}
use Rattle.jc_rules.specs.declared.key.Tagged.TheVariants.{MapT, ListT, RegT}
use Rattle.jc_rules.specs.declared.operation.Mutation.{Mutation}
use Rattle.jc_rules.specs.declared.operation.Mutation.TheVariants.{Assign, Delete}
use Rattle.jc_rules.specs.declared.operation.Op.{Op}
use Rattle.jc_rules.specs.declared.rule.Rule.{Rule}
use Rattle.jc_rules.specs.declared.rule.Rule.TheVariants as R
use Rattle.jc_rules.specs.declared.value.Value.{Value}
use Rattle.jc_rules.specs.Order.{key_cmp, id_cmp}
use Rattle.jc_rules.specs.Entries.{find, put}
use Rattle.jc_rules.specs.Ids.{with_id}
use Rattle.jc_rules.specs.Context.{Context, context, Content, Node, Values, IsPrimitive, registers, content, with_content, new_content, presence, with_presence, key_of_tagged, empty, empty_list}
use Rattle.jc_rules.specs.ContextsAt.{with_node_at, node_in}
use Rattle.jc_rules.specs.Derivation.{Presence, AddId, Child, Clear, ClearElem, Operate, ToIds, ToContent, ToContext, Cleared}
use Rattle.jc_rules.specs.Derives.{Derives}
use Rattle.jc_rules.specs.Trace.{Rows, pushed, one_deeper, at_depth}
use Rattle.jc_rules.specs.Table.{Follows, moved}
use Rattle.jc_rules.specs.Paths.{HasContext}
use Rattle.jc_rules.proofs.ContextsAtLemmas.{there, with_node-same, with-same, listed_children}
use Rattle.jc_rules.proofs.EntriesLemmas.{found-put}
use Rattle.jc_rules.proofs.OrderLemmas.{keys_total, exact_keys}
use Rattle.jc_rules.proofs.DerivesLemmas.{by_axiom, one_premise, three_premises}
use Rattle.jc_tree.specs.Tree.{Tree, HasPlace, here, or_no_entries, IsChanged}
use Rattle.jc_clear.specs.Clears.{Clears}
use Rattle.jc_tree.proofs.PlacesLemmas.{then_here, then_place, then_now}
use Rattle.jc_tree.proofs.PathLemmas.{found_context}
use Rattle.jc_apply.specs.Fits.{content_or_new, empty_of}
use Rattle.jc_apply.specs.AppliesAlong.{AddsId, IsAdded, TellsAdded, LeadsTo, Enters, AssignsEmpty}

-- the rules that tell of an identifier that was added, or wasn't
pub told_some : (was : Bool) (given : Option Bool) (rule : Rule) (t o u w : Rows) → given ≡ Some was → o ≡ one_deeper (pushed t R.AddId1) → ((c : Context) (k : Key) → was ≡ is_some (presence k c) → Follows rule (Presence c k) (ToIds (or_no_entries (presence k c))) []) → u ≡ pushed o rule → w ≡ at_depth t.depth u → TellsAdded given t w
told_some was given rule t o u w ge oe follows ue we k i m c d h =
    let x : IsAdded k i m (Some was) c d = subst (λ (y : Option Bool). IsAdded k i m y c d) ge h in
    let s = or_no_entries (presence (key_of_tagged k) c) in
    let p : Derives (Presence c (key_of_tagged k)) (ToIds s) o u = rw ue (by_axiom rule (Presence c (key_of_tagged k)) (ToIds s) o (follows c (key_of_tagged k) x.1)) in
    let p2 = subst (λ (r : Rows). Derives (Presence c (key_of_tagged k)) (ToIds s) r u) oe p in
    rw (we, x.2) (one_premise R.AddId1 _ _ _ _ t u p2 (s, x.0, refl, refl))

pub told_none : (given : Option Bool) (t u : Rows) → given ≡ None → u ≡ pushed t R.AddId2 → TellsAdded given t u
told_none given t u ge e k i m c d h =
    let x : IsAdded k i m None c d = subst (λ (y : Option Bool). IsAdded k i m y c d) ge h in
    rw (e, x.1) (by_axiom R.AddId2 _ _ t (x.0, refl, refl))

-- an identifier is added to a presence set
pub adds : (at : List Tagged) (k : Tagged) (key : Key) (i : Id) (m : Mutation) (was : Bool) (a b : Tree) → key ≡ key_of_tagged k → m ≢ Delete → was ≡ is_some (presence key (here at a)) → IsChanged at (with_presence key (with_id i (or_no_entries (presence key (here at a)))) (here at a)) a b → AddsId k i m (Some was) at a b
adds at k key i m was a b ke ne has z =
    record {
      after = with_presence (key_of_tagged k) (with_id i (or_no_entries (presence (key_of_tagged k) (here at a)))) (here at a);
      added = (ne, has ∙ ap (λ (j : Key). is_some (presence j (here at a))) ke, refl);
      now = z.now ∙ ap (λ (j : Key). with_node_at at (with_presence j (with_id i (or_no_entries (presence j (here at a)))) (here at a)) a.now) ke;
    }

-- a deletion adds nothing
pub adds_none : (at : List Tagged) (k : Tagged) (i : Id) (m : Mutation) (a : Tree) → HasPlace at a → m ≡ Delete → AddsId k i m None at a a
adds_none at k i m a p is = record { after = here at a; added = (is, refl); now = sym (with_node-same at (here at a) a.now (there at a.now p)) }

-- an assignment adds its identifier
pub adds_assigned : {v : Value} → Assign v ≢ Delete
adds_assigned e = cc

pub assigned : (at : List Tagged) (o : Op) (last : Key) (v new : Value) (key : Tagged) (rule : Rule) (a b d e : Tree) (ids : List Id) (t p u1 u2 u3 w : Rows) → HasPlace at a → IsPrimitive v → key ≡ RegT last → p ≡ one_deeper (pushed t R.Assign) → Clears (λ c. Clear c o.deps key) at a b ids p u1 → LeadsTo (λ c. AddId c (RegT last) o.id (Assign v)) at b d u1 u2 → new ≡ v → IsChanged at (with_content (RegT last) (Values (put id_cmp o.id new (or_no_entries (find key_cmp last (registers (here at d)))))) (here at d)) d e → Follows rule (Child (here at d) (RegT last)) (ToContent (Values (or_no_entries (find key_cmp last (registers (here at d)))))) [] → u3 ≡ pushed u2 rule → w ≡ at_depth t.depth u3 → LeadsTo (λ c. Operate c (moved o [] last (Assign v))) at a e t w
assigned at o last v new key rule a b d e ids t p u1 u2 u3 w h prim ke pe x1 y ne s f ue we =
    let r = or_no_entries (find key_cmp last (registers (here at d))) in
    let z : Derives (Child (here at d) (RegT last)) (ToContent (Values r)) u2 u3 = rw ue (by_axiom rule (Child (here at d) (RegT last)) (ToContent (Values r)) u2 f) in
    let x = subst (λ (k : Tagged). Clears (λ c. Clear c o.deps k) at a b ids p u1) ke x1 in
    let hb : here at b ≡ x.after = then_here at _ a b h x.now in
    let pb : HasPlace at b = then_place at _ a b h x.now in
    let hd : here at d ≡ y.after = then_here at _ b d pb y.now in
    let dx = subst (λ (q : Rows). Derives (Clear (here at a) o.deps (RegT last)) (Cleared x.after ids) q u1) pe x.derives in
    let dy = subst (λ (c : Context). Derives (AddId c (RegT last) o.id (Assign v)) (ToContext y.after) u1 u2) hb y.derives in
    let dz = subst (λ (c : Context). Derives (Child c (RegT last)) (ToContent (Values r)) u2 u3) hd z in
    rw we (record {
      after = with_content (RegT last) (Values (put id_cmp o.id v r)) y.after;
      derives = three_premises R.Assign _ _ _ (Cleared x.after ids) _ (ToContext y.after) _ (ToContent (Values r)) t u1 u2 u3 dx dy dz (v, x.after, ids, y.after, r, refl, refl, prim, refl, refl);
      now = then_now at _ _ a d e (then_now at _ _ a b d x.now y.now) (s.now ∙ ap (λ (n : Value). with_node_at at (with_content (RegT last) (Values (put id_cmp o.id n r)) (here at d)) d.now) ne ∙ ap (λ (c : Context). with_node_at at (with_content (RegT last) (Values (put id_cmp o.id v r)) c) d.now) hd);
    })

pub empties_map : (k : Tagged) (j : Key) → k ≡ MapT j → AssignsEmpty R.EmptyMap k
empties_map k j e = rw e (λ o c c1 c2 ids x. (c1, ids, c2, x, refl, refl, refl, refl))

pub empties_list : (k : Tagged) (j : Key) → k ≡ ListT j → AssignsEmpty R.EmptyList k
empties_list k j e = rw e (λ o c c1 c2 ids x. (c1, ids, c2, x, refl, refl, refl, refl))

pub emptied : (at : List Tagged) (o : Op) (k : Tagged) (j : Key) (rule : Rule) (a b d e : Tree) (ids : List Id) (t p u1 u2 u3 w : Rows) → HasPlace at a → AssignsEmpty rule k → j ≡ key_of_tagged k → p ≡ one_deeper (pushed t rule) → Clears (λ c. ClearElem c o.deps j) at a b ids p u1 → LeadsTo (λ c. AddId c k o.id (Assign (empty_of k))) at b d u1 u2 → Enters k at d e u2 u3 → w ≡ at_depth t.depth u3 → LeadsTo (λ c. Operate c (moved o [] (key_of_tagged k) (Assign (empty_of k)))) at a e t w
emptied at o k j rule a b d e ids t p u1 u2 u3 w h rules je pe x1 y z we =
    let x = subst (λ (i : Key). Clears (λ c. ClearElem c o.deps i) at a b ids p u1) je x1 in
    let hb : here at b ≡ x.after = then_here at _ a b h x.now in
    let pb : HasPlace at b = then_place at _ a b h x.now in
    let hd : here at d ≡ y.after = then_here at _ b d pb y.now in
    let dx = subst (λ (q : Rows). Derives (ClearElem (here at a) o.deps (key_of_tagged k)) (Cleared x.after ids) q u1) pe x.derives in
    let dy = subst (λ (c : Context). Derives (AddId c k o.id (Assign (empty_of k))) (ToContext y.after) u1 u2) hb y.derives in
    let dz = subst (λ (c : Context). Derives (Child c k) (ToContent (Node z.below)) u2 u3) hd z.derives in
    rw we (record {
      after = with_content k (Node z.below) y.after;
      derives = three_premises rule _ _ _ (Cleared x.after ids) _ (ToContext y.after) _ (ToContent (Node z.below)) t u1 u2 u3 dx dy dz (rules o (here at a) x.after y.after ids (Node z.below));
      now = then_now at _ _ a d e (then_now at _ _ a b d x.now y.now) (z.now ∙ rw hd refl);
    })

pub deleted : (at : List Tagged) (o : Op) (a b : Tree) (ids : List Id) (t p u w : Rows) → o.mutation ≡ Delete → p ≡ one_deeper (pushed t R.Delete) → Clears (λ c. ClearElem c o.deps o.cursor.last) at a b ids p u → w ≡ at_depth t.depth u → LeadsTo (λ c. Operate c (moved o [] o.cursor.last o.mutation)) at a b t w
deleted at o a b ids t p u w is pe x we =
    let dx = subst (λ (q : Rows). Derives (ClearElem (here at a) o.deps o.cursor.last) (Cleared x.after ids) q u) pe x.derives in
    rw we (record {
      after = x.after;
      derives = one_premise R.Delete _ _ _ _ t u dx (x.after, ids, refl, is, refl, refl);
      now = x.now;
    })

child_is : (k : Tagged) (x : Option Content) (d : Context) → content_or_new k x ≡ Node d → node_in (Some (content_or_new k x)) ≡ Some d
child_is k x d e = rw e refl

pub entered_there : (k : Tagged) (at : List Tagged) (a b : Tree) (t u : Rows) → HasPlace at a → HasContext k → is_some (content k (here at a)) ≡ true → u ≡ pushed t R.ChildGet → b ≡ a → Enters k at a b t u
entered_there k at a b t u p h s e f =
    let x = found_context k (here at a) h s in
    rw (e, f) (record {
      below = x.0;
      is = child_is k (content k (here at a)) x.0 (ap (content_or_new k) x.1);
      derives = by_axiom R.ChildGet _ _ t (Node x.0, x.1, refl, refl);
      now = sym (ap (λ c. with_node_at at c a.now) (with-same k x.0 (here at a) x.1) ∙ with_node-same at (here at a) a.now (there at a.now p));
    })

new_node : (k : Tagged) → HasContext k → (d : Context) × (new_content k ≡ Node d)
new_node (MapT k) h = (empty, refl)
new_node (ListT k) h = (empty_list, refl)
new_node (RegT k) h = absurd h

pub entered_new : (k : Tagged) (at : List Tagged) (r : Rule) (a b : Tree) (t u : Rows) → HasContext k → content k (here at a) ≡ None → Follows r (Child (here at a) k) (ToContent (new_content k)) [] → u ≡ pushed t r → IsChanged at (with_content k (new_content k) (here at a)) a b → Enters k at a b t u
entered_new k at r a b t u h none f e s =
    let x = new_node k h in
    rw e (record {
      below = x.0;
      is = child_is k (content k (here at a)) x.0 (ap (content_or_new k) none ∙ x.1);
      derives = by_axiom r _ _ t (subst (λ (y : Content). Follows r (Child (here at a) k) (ToContent y) []) x.1 f);
      now = s.now ∙ ap (λ y. with_node_at at (with_content k y (here at a)) a.now) x.1;
    })

-- what goes for a call's answer, as what it gives entails
pub on_ok : {T E : Type 0} {A B : Type 0} (r : Result T E) → (A → B) → OnOk r A → OnOk r B
on_ok (Ok x) f h = f h
on_ok (Err e) f h = h

-- an identifier was added, and the rules told
pub added : {T E : Type 0} (r : Result T E) (at : List Tagged) (key : Key) (i : Id) (was : Bool) (a b : Tree) (t u : Rows) → was ≡ is_some (presence key (here at a)) → IsChanged at (with_presence key (with_id i (or_no_entries (presence key (here at a)))) (here at a)) a b → OnOk r (TellsAdded (Some was) t u) → OnOk r ((k : Tagged) → (m : Mutation) → key_of_tagged k ≡ key → m ≢ Delete → LeadsTo (λ c. AddId c k i m) at a b t u)
added r at key i was a b t u has z =
    on_ok r (λ tells k m ke ne.
    let x = adds at k key i m was a b (sym ke) ne has z in
    record { after = x.after; derives = tells k i m (here at a) x.after x.added; now = x.now })

-- what is made under a map's or a list's tagged key is a context
pub child_there : (t : Tagged) (c : Context) → HasContext t → is_some (node_in (content t (with_content t (new_content t) c))) ≡ true
child_there (MapT k) (context m l r p n) h = rw (listed_children, found-put keys_total exact_keys) refl
child_there (ListT k) (context m l r p n) h = rw (listed_children, found-put keys_total exact_keys) refl
child_there (RegT k) c h = absurd h

-- About Effects: what an operation changes, the cases of the rule induction.
use Rattle.std.proofs.Common.{◌≡◌, List, [], ◌∷◌, Bool, true, false, not, ◌||◌, ◌&&◌, cond, Option, Some, None, is_some, inl, inr, refl, sym, ◌∙◌, ap}
use Rattle.jc_rules.specs.declared.id.Id.{Id}
use Rattle.jc_rules.specs.declared.key.Key.{Key}
use Rattle.jc_rules.specs.declared.key.Key.TheVariants as K
use Rattle.jc_rules.specs.declared.key.Tagged.{Tagged}
use Rattle.jc_rules.specs.declared.key.Tagged.TheVariants.{MapT, ListT, RegT}
use Rattle.jc_rules.specs.declared.operation.Mutation.{Mutation}
use Rattle.jc_rules.specs.declared.value.Value.{Value}
use Rattle.jc_rules.specs.Order.{key_cmp, same_id, same_key}
use Rattle.jc_rules.specs.Entries.{find}
use Rattle.jc_rules.specs.Ids.{has_id, with_id}
use Rattle.jc_rules.specs.Context.{Context, registers, Register, Node, values_of, content, with_content, new_content, with_presence, next, key_of_tagged}
use Rattle.jc_rules.specs.Derivation.{ToContext, ToContent}
use Rattle.jc_rules.proofs.IdsLemmas.{has_id-with}
use Rattle.jc_rules.proofs.BoolLemmas.{or_false}
use Rattle.jc_meaning.specs.Effects.{same_tagged, same_path, is_at_or_above, target_of, is_delete, is_insert, is_clearing, value_in, primitive_in, passed}
use Rattle.jc_meaning.specs.Seen.{context_or_new, seen, ids_at, value_seen_at, has_tag}
use Rattle.jc_meaning.specs.Forest.{follow}
use Rattle.jc_meaning.proofs.ChainLemmas.{add, after, key_in}
use Rattle.jc_meaning.proofs.ClearingEffectsLemmas.{and_true}
use Rattle.jc_meaning.proofs.InsertWalkLemmas.{Distinct}
use Rattle.jc_meaning.proofs.TagsLemmas.{tags_eq, tags_back, node_ids, node_value, node_next, presence_tag, presence_value, presence_next, presence_ids, tags_self}
use Rattle.jc_meaning.proofs.SeenLemmas.{is_node_tag, content_with_node, seen_with_node}
use Rattle.jc_meaning.proofs.OperationActsLemmas.{touched, cleared, written, overwritten, or_else, Changes, node_content, OfChild, OfAdd}
use Rattle.jc_meaning.proofs.OrdersLemmas.{keys_eq}
use Rattle.jc_meaning.specs.ClearingEffects.{in_key}

-- ---- below the root

pub at_root_key : (k : Key) (P : List Tagged) (l : Key) → is_at_or_above [] k P l ≡ in_key k P l
at_root_key k [] l = refl
at_root_key k (u ∷ us) l = refl

pub node_tag : (t : Tagged) (c d : Context) → OfChild c t (ToContent (Node d)) → is_node_tag t ≡ true
node_tag (MapT k) c d h = refl
node_tag (ListT k) c d h = refl
node_tag (RegT k) c d (inl h) = no_values (find key_cmp k (registers c)) h
  where
    no_values : (o : Option Register) → values_of o ≡ Some (Node d) → false ≡ true
    no_values None e = cc
    no_values (Some v) e = cc
node_tag (RegT k) c d (inr h) = let e = h.1 in cc

new_node : (t : Tagged) (d : Context) → Node d ≡ new_content t → context_or_new None t ≡ d
new_node (MapT k) d e = ap (λ x. node_content x (MapT k)) (sym e)
new_node (ListT k) d e = ap (λ x. node_content x (ListT k)) (sym e)
new_node (RegT k) d e = cc

-- the child's context is what is seen there
pub child_seen : (t : Tagged) (c d : Context) → OfChild c t (ToContent (Node d)) → context_or_new (content t c) t ≡ d
child_seen t c d (inl h) = ap (λ o. context_or_new o t) h
child_seen t c d (inr h) = ap (λ o. context_or_new o t) h.0 ∙ new_node t d h.1

-- what is seen below a tag after a node was written there: g true in the node, g false elsewhere
below_node : {X : Type 0} (t : Tagged) (c d e : Context) → is_node_tag t ≡ true → context_or_new (content t c) t ≡ d → (f : Context → X) (g : Bool → X → X) (u : Tagged) (P : List Tagged)
    → f (seen P e) ≡ g true (f (seen P d)) → f (seen (u ∷ P) c) ≡ g false (f (seen (u ∷ P) c)) → f (seen (u ∷ P) (with_content t (Node e) c)) ≡ g (same_tagged u t) (f (seen (u ∷ P) c))
below_node t c d e n there f g u P h out = ap f (seen_with_node t u P e c n) ∙ go (same_tagged u t) refl
  where
    go : (b : Bool) → same_tagged u t ≡ b → f (cond b (seen P e) (seen (u ∷ P) c)) ≡ g b (f (seen (u ∷ P) c))
    go true x =
        let w : context_or_new (content u c) u ≡ d = ap (λ q. context_or_new (content q c) q) (tags_eq u t x) ∙ there in
        h ∙ ap (λ q. g true (f (seen P q))) (sym w)
    go false x = out

-- ---- descent

pub or_true : (x : Bool) → true ≡ (x || true)
or_true true = refl
or_true false = refl

quiet_ids : (x s n m z : Bool) → x ≡ ((s && (n && false)) || (x && not ((m && false) && z)))
quiet_ids x true true true z = go x
  where
    go : (x : Bool) → x ≡ (x && true)
    go true = refl
    go false = refl
quiet_ids x true true false z = and_true x
quiet_ids x true false true z = and_true x
quiet_ids x true false false z = and_true x
quiet_ids x false n true z = and_true x
quiet_ids x false n false z = and_true x

root_ids : (x s n m y z : Bool) → ((s && (n && y)) || x) ≡ ((s && (n && y)) || (x && not ((m && false) && z)))
root_ids x s n true y z = ap (λ q. (s && (n && y)) || q) (and_true x)
root_ids x s n false y z = ap (λ q. (s && (n && y)) || q) (and_true x)

quiet_value : (v : Option Value) (s m n z : Bool) → v ≡ or_else (cond s None None) (cond (((m && false) || (n && false)) && z) None v)
quiet_value v true true true z = refl
quiet_value v true true false z = refl
quiet_value v true false true z = refl
quiet_value v true false false z = refl
quiet_value v false true true z = refl
quiet_value v false true false z = refl
quiet_value v false false true z = refl
quiet_value v false false false z = refl

-- the identifier in a presence
pub added_ids : (c c2 : Context) (t : Tagged) (i : Id) (m : Mutation) → OfAdd c t i m (ToContext c2) → (l : Key) (j : Id) → has_id j (ids_at l c2) ≡ ((same_id j i && (not (is_delete m) && same_key l (key_of_tagged t))) || has_id j (ids_at l c))
added_ids c c2 t i m h l j = go (is_delete m) refl
  where
    none : (s : Bool) (x : Bool) → x ≡ ((s && false) || x)
    none true x = refl
    none false x = refl

    some : (b : Bool) → same_key l (key_of_tagged t) ≡ b → has_id j (cond b (with_id i (ids_at (key_of_tagged t) c)) (ids_at l c)) ≡ ((same_id j i && b) || has_id j (ids_at l c))
    some true e = has_id-with j i (ids_at (key_of_tagged t) c) ∙ two (same_id j i) (ap (λ q. has_id j (ids_at q c)) (sym (keys_eq l (key_of_tagged t) e)))
      where
        two : (x : Bool) → has_id j (ids_at (key_of_tagged t) c) ≡ has_id j (ids_at l c) → (x || has_id j (ids_at (key_of_tagged t) c)) ≡ ((x && true) || has_id j (ids_at l c))
        two true e = refl
        two false e = e
    some false e = none (same_id j i) (has_id j (ids_at l c))

    go : (b : Bool) → is_delete m ≡ b → has_id j (ids_at l c2) ≡ ((same_id j i && (not b && same_key l (key_of_tagged t))) || has_id j (ids_at l c))
    go true e = ap (λ q. has_id j (ids_at l q)) (h.0 e) ∙ none (same_id j i) (has_id j (ids_at l c))
    go false e = ap (λ q. has_id j (ids_at l q)) (h.1 e) ∙ ap (has_id j) (presence_ids (key_of_tagged t) (with_id i (ids_at (key_of_tagged t) c)) c l) ∙ some (same_key l (key_of_tagged t)) refl

-- nothing else changes by it
pub added_else : {X : Type 0} (c c2 : Context) (t : Tagged) (i : Id) (m : Mutation) (f : Context → X) → OfAdd c t i m (ToContext c2) → f (with_presence (key_of_tagged t) (with_id i (ids_at (key_of_tagged t) c)) c) ≡ f c → f c2 ≡ f c
added_else c c2 t i m f h same = go (is_delete m) refl
  where
    go : (b : Bool) → is_delete m ≡ b → f c2 ≡ f c
    go true e = ap f (h.0 e)
    go false e = ap f (h.1 e) ∙ same

pub descends : (i : Id) (deps : List Id) (t : Tagged) (rest : List Tagged) (last : Key) (m : Mutation) (c d e c2 : Context) → OfChild c t (ToContent (Node d)) → Changes i deps rest last m d e → OfAdd c t i m (ToContext c2) → Changes i deps (t ∷ rest) last m c (with_content t (Node e) c2)
descends i deps t rest last m c d e c2 made_child k add = record { tags = tags; ids = ids; values = values; links = links; elsewhere = elsewhere; linked = linked_below }
  where
    tgt : Key
    tgt = target_of m i last

    n : is_node_tag t ≡ true
    n = node_tag t c d made_child

    same_content : (u : Tagged) → content u c2 ≡ content u c
    same_content u = added_else c c2 t i m (content u) add (presence_tag (key_of_tagged t) (with_id i (ids_at (key_of_tagged t) c)) u c)

    same_seen : (u : Tagged) (P : List Tagged) → seen (u ∷ P) c2 ≡ seen (u ∷ P) c
    same_seen u P = ap (λ o. seen P (context_or_new o u)) (same_content u)

    there : context_or_new (content t c2) t ≡ d
    there = ap (λ o. context_or_new o t) (same_content t) ∙ child_seen t c d made_child

    down : {X : Type 0} (f : Context → X) (g : Bool → X → X) (u : Tagged) (P : List Tagged) → f (seen P e) ≡ g true (f (seen P d)) → f (seen (u ∷ P) c) ≡ g false (f (seen (u ∷ P) c)) → f (seen (u ∷ P) (with_content t (Node e) c2)) ≡ g (same_tagged t u) (f (seen (u ∷ P) c))
    down f g u P h out =
        below_node t c2 d e n there f g u P h (ap f (same_seen u P) ∙ out ∙ sym (ap (λ q. g false (f q)) (same_seen u P)))
        ∙ ap (λ q. g (same_tagged u t) (f q)) (same_seen u P) ∙ ap (λ b. g b (f (seen (u ∷ P) c))) (tags_back u t)

    tags : (P : List Tagged) (u : Tagged) → has_tag u (seen P (with_content t (Node e) c2)) ≡ (has_tag u (seen P c) || passed (t ∷ rest) tgt (value_in m) P u)
    tags [] u = ap is_some (content_with_node t u e c2 n) ∙ go (same_tagged u t) (tags_back t u)
      where
        go : (b : Bool) → same_tagged t u ≡ b → is_some (cond b (Some (Node e)) (content u c2)) ≡ (has_tag u c || same_tagged t u)
        go true x = rw x (or_true (has_tag u c))
        go false x = rw x (ap is_some (same_content u) ∙ sym (or_false (has_tag u c)))
    tags (v ∷ P) u = down (has_tag u) (λ b x. x || (b && passed rest tgt (value_in m) P u)) v P (k.tags P u) (sym (or_false (has_tag u (seen (v ∷ P) c))))

    ids : (P : List Tagged) (l : Key) (j : Id) → has_id j (ids_at l (seen P (with_content t (Node e) c2))) ≡ ((same_id j i && touched (t ∷ rest) tgt m P l) || (has_id j (ids_at l (seen P c)) && not (cleared (t ∷ rest) tgt m P l && has_id j deps)))
    ids [] l j = ap (has_id j) (node_ids t e c2 l) ∙ added_ids c c2 t i m add l j ∙ root_ids (has_id j (ids_at l c)) (same_id j i) (not (is_delete m)) (is_clearing m) (same_key l (key_of_tagged t)) (has_id j deps)
    ids (u ∷ P) l j = down (λ q. has_id j (ids_at l q)) (λ b x. (same_id j i && (not (is_delete m) && (b && is_at_or_above P l rest tgt))) || (x && not ((is_clearing m && (b && is_at_or_above rest tgt P l)) && has_id j deps))) u P (k.ids P l j) (quiet_ids (has_id j (ids_at l (seen (u ∷ P) c))) (same_id j i) (not (is_delete m)) (is_clearing m) (has_id j deps))
        ∙ ap (λ b. (same_id j i && (not (is_delete m) && (b && is_at_or_above P l rest tgt))) || (has_id j (ids_at l (seen (u ∷ P) c)) && not ((is_clearing m && (same_tagged t u && is_at_or_above rest tgt P l)) && has_id j deps))) (tags_back t u)

    values : (P : List Tagged) (l : Key) (j : Id) → value_seen_at j l (seen P (with_content t (Node e) c2)) ≡ or_else (cond (same_id j i) (written (t ∷ rest) tgt m P l) None) (cond ((cleared (t ∷ rest) tgt m P l || overwritten (t ∷ rest) tgt m P l) && has_id j deps) None (value_seen_at j l (seen P c)))
    values [] l j = node_value t e c2 l j ∙ added_else c c2 t i m (value_seen_at j l) add (presence_value (key_of_tagged t) (with_id i (ids_at (key_of_tagged t) c)) c l j) ∙ quiet_value (value_seen_at j l c) (same_id j i) (is_clearing m) (not (is_insert m)) (has_id j deps)
    values (u ∷ P) l j = down (value_seen_at j l)
        (λ b v. or_else (cond (same_id j i) (cond ((b && same_path rest P) && same_key tgt l) (primitive_in (value_in m)) None) None)
        (cond (((is_clearing m && (b && is_at_or_above rest tgt P l)) || (not (is_insert m) && is_some (cond ((b && same_path rest P) && same_key tgt l) (primitive_in (value_in m)) None))) && has_id j deps) None v))
        u P (k.values P l j) (quiet_value (value_seen_at j l (seen (u ∷ P) c)) (same_id j i) (is_clearing m) (not (is_insert m)) (has_id j deps))

    links : is_insert m ≡ false → (P : List Tagged) (l : Key) → next l (seen P (with_content t (Node e) c2)) ≡ next l (seen P c)
    links x [] l = node_next t e c2 l ∙ added_else c c2 t i m (next l) add (presence_next (key_of_tagged t) (with_id i (ids_at (key_of_tagged t) c)) c l)
    links x (u ∷ P) l = down (next l) (λ b v. v) u P (k.links x P l) refl

    elsewhere : (P : List Tagged) (l : Key) → same_path (t ∷ rest) P ≡ false → next l (seen P (with_content t (Node e) c2)) ≡ next l (seen P c)
    elsewhere [] l h = node_next t e c2 l ∙ added_else c c2 t i m (next l) add (presence_next (key_of_tagged t) (with_id i (ids_at (key_of_tagged t) c)) c l)
    elsewhere (u ∷ P) l h = go (same_tagged t u) refl h
      where
        go : (b : Bool) → same_tagged t u ≡ b → (b && same_path rest P) ≡ false → next l (seen (u ∷ P) (with_content t (Node e) c2)) ≡ next l (seen (u ∷ P) c)
        go true x g = down (next l) (λ b v. v) u P (k.elsewhere P l g) refl
        go false x g = ap (next l) (seen_with_node t u P e c2 n) ∙ rw (tags_back u t, x) (ap (next l) (same_seen u P))

    linked_below : is_insert m ≡ true → (ns : List Id) → Distinct K.Head ns → key_in (K.Elem i) ns ≡ false → ((l : Key) → next l (seen (t ∷ rest) c) ≡ follow K.Head ns l) → (l : Key) → next l (seen (t ∷ rest) (with_content t (Node e) c2)) ≡ follow K.Head (after last i K.Head ns) l
    linked_below x ns a out h l = ap (next l) (seen_with_node t t rest e c2 n) ∙ rw (tags_self t) (k.linked x ns a out (λ q. ap (λ y. next q (seen rest y)) (sym (child_seen t c d made_child)) ∙ h q) l)

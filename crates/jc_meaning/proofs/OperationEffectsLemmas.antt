-- About Effects: what an operation changes at its own place.
use Rattle.std.proofs.Common.{◌≡◌, List, [], ◌∷◌, Bool, true, false, not, ◌||◌, ◌&&◌, cond, Option, Some, None, is_some, ◌⊎◌, inl, inr, refl, sym, ◌∙◌, ap, subst}
use Rattle.jc_rules.specs.declared.id.Id.{Id}
use Rattle.jc_rules.specs.declared.key.Key.{Key}
use Rattle.jc_rules.specs.declared.key.Tagged.{Tagged}
use Rattle.jc_rules.specs.declared.key.Tagged.TheVariants.{MapT, ListT, RegT}
use Rattle.jc_rules.specs.declared.operation.Mutation.TheVariants as M
use Rattle.jc_rules.specs.declared.value.Value.{Value}
use Rattle.jc_rules.specs.Order.{key_cmp, id_cmp, same_id, same_key}
use Rattle.jc_rules.specs.Entries.{find, put}
use Rattle.jc_rules.specs.Ids.{has_id, with_id}
use Rattle.jc_rules.specs.Context.{Context, context, maps, lists, Register, Content, Node, Values, node_of, values_of, content, with_content, with_presence, next, key_of_tagged}
use Rattle.std.proofs.lemmas.Option.{same_Some}
use Rattle.jc_rules.specs.Derivation.{ToContext, ToContent}
use Rattle.jc_rules.proofs.OrderLemmas.{ids_total, exact_ids}
use Rattle.jc_rules.proofs.EntriesLemmas.{find-put}
use Rattle.jc_rules.proofs.BoolLemmas.{or_false}
use Rattle.jc_meaning.specs.Effects.{same_tagged, same_path, is_at_or_above, is_clearing, primitive, is_made_by, passed}
use Rattle.jc_meaning.specs.Seen.{context_or_new, seen, ids_at, reg_at, value_in_some, value_seen_at, has_tag}
use Rattle.jc_meaning.proofs.ClearingEffectsLemmas.{and_true}
use Rattle.jc_meaning.proofs.TagsLemmas.{tags_eq, tags_back, node_ids, node_value, node_next, values_seen, values_ids, values_next, values_reg, presence_tag, presence_value, presence_next}
use Rattle.jc_meaning.proofs.SeenLemmas.{is_node_tag, content_with_node, seen_with_node}
use Rattle.jc_meaning.proofs.OperationActsLemmas.{touched, cleared, written, overwritten, or_else, Changes, OfChild, OfAdd}
use Rattle.jc_meaning.proofs.ClearingEffectsInductionLemmas.{in_tag, reg_tag, same_bool, same_value, reg_ids, reg_value}
use Rattle.jc_meaning.proofs.OperationEffectsInductionLemmas.{at_root_key, or_true, added_ids, added_else}
use Rattle.jc_meaning.specs.ClearingEffects.{TakesAway, in_key}
use Rattle.jc_meaning.proofs.OrdersLemmas.{keys_eq, keys_back, keys_self}

seen_none : (x s n : Bool) → x ≡ ((s && (n && false)) || x)
seen_none x true true = refl
seen_none x true false = refl
seen_none x false n = refl

abbrev pub the_value : Option Value → Option Value
the_value v = v

abbrev reg_in : Option Content → Register → Register
reg_in (Some (Values r)) d = r
reg_in _ d = d

-- DELETE
pub deletes : (i : Id) (deps : List Id) (last : Key) (c d : Context) → TakesAway c d deps (in_key last) (in_key last) → Changes i deps [] last M.Delete c d
deletes i deps last c d k = record { tags = tags; ids = ids; values = values; links = λ x. k.links; elsewhere = λ P l h. k.links P l; linked = λ x. cc }
  where
    tags : (P : List Tagged) (u : Tagged) → has_tag u (seen P d) ≡ (has_tag u (seen P c) || passed [] last None P u)
    tags [] u = k.tags [] u ∙ sym (or_false (has_tag u c))
    tags (v ∷ P) u = k.tags (v ∷ P) u ∙ sym (or_false (has_tag u (seen (v ∷ P) c)))

    no_touch : (s x : Bool) → x ≡ ((s && false) || x)
    no_touch true x = refl
    no_touch false x = refl

    ids : (P : List Tagged) (l : Key) (j : Id) → has_id j (ids_at l (seen P d)) ≡ ((same_id j i && touched [] last M.Delete P l) || (has_id j (ids_at l (seen P c)) && not (cleared [] last M.Delete P l && has_id j deps)))
    ids P l j = k.ids P l j ∙ ap (λ b. has_id j (ids_at l (seen P c)) && not (b && has_id j deps)) (sym (at_root_key last P l)) ∙ no_touch (same_id j i) _

    quiet : (s b x z : Bool) (v : Option Value) → cond (x && z) None v ≡ or_else (cond s (cond b None None) None) (cond (((true && x) || (true && is_some (the_value (cond b None None)))) && z) None v)
    quiet true true true z v = refl
    quiet true true false z v = refl
    quiet true false true z v = refl
    quiet true false false z v = refl
    quiet false true true z v = refl
    quiet false true false z v = refl
    quiet false false true z v = refl
    quiet false false false z v = refl

    values : (P : List Tagged) (l : Key) (j : Id) → value_seen_at j l (seen P d) ≡ or_else (cond (same_id j i) (written [] last M.Delete P l) None) (cond ((cleared [] last M.Delete P l || overwritten [] last M.Delete P l) && has_id j deps) None (value_seen_at j l (seen P c)))
    values P l j = k.values P l j ∙ ap (λ b. cond (b && has_id j deps) None (value_seen_at j l (seen P c))) (sym (at_root_key last P l)) ∙ quiet (same_id j i) (same_path [] P && same_key last l) (is_at_or_above [] last P l) (has_id j deps) (value_seen_at j l (seen P c))

made_child : (t : Tagged) (c : Context) (x : Content) → is_node_tag t ≡ true → OfChild c t (ToContent x) → x ≡ Node (context_or_new (content t c) t)
made_child (MapT k) c x n (inl h) = go (find key_cmp k (maps c)) h
  where
    go : (o : Option Context) → node_of o ≡ Some x → x ≡ Node (context_or_new (node_of o) (MapT k))
    go None e = cc
    go (Some d) e = sym (same_Some (Node d) x e)
made_child (ListT k) c x n (inl h) = go (find key_cmp k (lists c)) h
  where
    go : (o : Option Context) → node_of o ≡ Some x → x ≡ Node (context_or_new (node_of o) (ListT k))
    go None e = cc
    go (Some d) e = sym (same_Some (Node d) x e)
made_child (MapT k) c x n (inr h) = h.1 ∙ sym (ap (λ o. Node (context_or_new o (MapT k))) h.0)
made_child (ListT k) c x n (inr h) = h.1 ∙ sym (ap (λ o. Node (context_or_new o (ListT k))) h.0)
made_child (RegT k) c x n h = cc

-- a node that is made, or was there, is seen as before
made_seen : (t u : Tagged) (P : List Tagged) (c : Context) → is_node_tag t ≡ true → seen (u ∷ P) (with_content t (Node (context_or_new (content t c) t)) c) ≡ seen (u ∷ P) c
made_seen t u P c n = seen_with_node t u P (context_or_new (content t c) t) c n ∙ go (same_tagged u t) refl
  where
    go : (b : Bool) → same_tagged u t ≡ b → cond b (seen P (context_or_new (content t c) t)) (seen (u ∷ P) c) ≡ seen (u ∷ P) c
    go true x = ap (λ q. seen P (context_or_new (content q c) q)) (sym (tags_eq u t x))
    go false x = refl

-- EMPTY-MAP and EMPTY-LIST
pub makes_node : (i : Id) (deps : List Id) (t : Tagged) (v : Value) (c c1 c2 : Context) (x : Content) → is_node_tag t ≡ true → primitive v ≡ None → is_clearing (M.Assign v) ≡ true → ((u : Tagged) → is_made_by (Some v) (key_of_tagged t) u ≡ same_tagged t u)
    → TakesAway c c1 deps (in_key (key_of_tagged t)) (in_key (key_of_tagged t)) → OfAdd c1 t i (M.Assign v) (ToContext c2) → OfChild c2 t (ToContent x) → Changes i deps [] (key_of_tagged t) (M.Assign v) c (with_content t x c2)
makes_node i deps t v c c1 c2 x n prim clr mk k add ch = subst (λ y. Changes i deps [] last (M.Assign v) c (with_content t y c2)) (sym (made_child t c2 x n ch)) (record { tags = tags; ids = ids; values = values; links = λ y. links; elsewhere = λ P l h. links P l; linked = λ x. cc })
  where
    last : Key
    last = key_of_tagged t

    e : Context
    e = context_or_new (content t c2) t

    added : Context
    added = with_presence (key_of_tagged t) (with_id i (ids_at (key_of_tagged t) c1)) c1

    same_content : (u : Tagged) → content u c2 ≡ content u c1
    same_content u = added_else c1 c2 t i (M.Assign v) (content u) add (presence_tag (key_of_tagged t) (with_id i (ids_at (key_of_tagged t) c1)) u c1)

    down : (u : Tagged) (P : List Tagged) → seen (u ∷ P) (with_content t (Node e) c2) ≡ seen (u ∷ P) c1
    down u P = made_seen t u P c2 n ∙ ap (λ o. seen P (context_or_new o u)) (same_content u)

    tags : (P : List Tagged) (u : Tagged) → has_tag u (seen P (with_content t (Node e) c2)) ≡ (has_tag u (seen P c) || passed [] last (Some v) P u)
    tags [] u = ap is_some (content_with_node t u e c2 n) ∙ rw (mk u) (go (same_tagged u t) (tags_back t u))
      where
        go : (b : Bool) → same_tagged t u ≡ b → is_some (cond b (Some (Node e)) (content u c2)) ≡ (has_tag u c || same_tagged t u)
        go true y = rw y (or_true (has_tag u c))
        go false y = rw y (ap is_some (same_content u) ∙ k.tags [] u ∙ sym (or_false (has_tag u c)))
    tags (s ∷ P) u = ap (has_tag u) (down s P) ∙ k.tags (s ∷ P) u ∙ sym (or_false (has_tag u (seen (s ∷ P) c)))

    ids : (P : List Tagged) (l : Key) (j : Id) → has_id j (ids_at l (seen P (with_content t (Node e) c2))) ≡ ((same_id j i && touched [] last (M.Assign v) P l) || (has_id j (ids_at l (seen P c)) && not (cleared [] last (M.Assign v) P l && has_id j deps)))
    ids [] l j = ap (has_id j) (node_ids t e c2 l) ∙ added_ids c1 c2 t i (M.Assign v) add l j ∙ rw clr (ap (λ y. (same_id j i && (true && same_key l last)) || y) (k.ids [] l j))
    ids (u ∷ P) l j = ap (λ q. has_id j (ids_at l q)) (down u P) ∙ k.ids (u ∷ P) l j ∙ rw clr (seen_none (has_id j (ids_at l (seen (u ∷ P) c)) && not (in_key last (u ∷ P) l && has_id j deps)) (same_id j i) true)

    quiet : (s b y z : Bool) (w : Option Value) → cond (y && z) None w ≡ or_else (cond s (cond b None None) None) (cond (((true && y) || (true && is_some (the_value (cond b None None)))) && z) None w)
    quiet true true true z w = refl
    quiet true true false z w = refl
    quiet true false true z w = refl
    quiet true false false z w = refl
    quiet false true true z w = refl
    quiet false true false z w = refl
    quiet false false true z w = refl
    quiet false false false z w = refl

    values : (P : List Tagged) (l : Key) (j : Id) → value_seen_at j l (seen P (with_content t (Node e) c2)) ≡ or_else (cond (same_id j i) (written [] last (M.Assign v) P l) None) (cond ((cleared [] last (M.Assign v) P l || overwritten [] last (M.Assign v) P l) && has_id j deps) None (value_seen_at j l (seen P c)))
    values [] l j = node_value t e c2 l j ∙ added_else c1 c2 t i (M.Assign v) (value_seen_at j l) add (presence_value (key_of_tagged t) (with_id i (ids_at (key_of_tagged t) c1)) c1 l j) ∙ k.values [] l j ∙ rw (prim, clr) (quiet (same_id j i) (same_key last l) (same_key last l) (has_id j deps) (value_seen_at j l c))
    values (u ∷ P) l j = ap (value_seen_at j l) (down u P) ∙ k.values (u ∷ P) l j ∙ rw clr (quiet (same_id j i) false (in_key last (u ∷ P) l) (has_id j deps) (value_seen_at j l (seen (u ∷ P) c)))

    links : (P : List Tagged) (l : Key) → next l (seen P (with_content t (Node e) c2)) ≡ next l (seen P c)
    links [] l = node_next t e c2 l ∙ added_else c1 c2 t i (M.Assign v) (next l) add (presence_next (key_of_tagged t) (with_id i (ids_at (key_of_tagged t) c1)) c1 l) ∙ k.links [] l
    links (u ∷ P) l = ap (next l) (down u P) ∙ k.links (u ∷ P) l

-- ASSIGN
pub assigns : (i : Id) (deps : List Id) (last : Key) (v : Value) (c c1 c2 : Context) (r : Register) → primitive v ≡ Some v → is_clearing (M.Assign v) ≡ false → ((u : Tagged) → is_made_by (Some v) last u ≡ same_tagged (RegT last) u)
    → TakesAway c c1 deps (in_tag (RegT last)) (reg_tag (RegT last)) → OfAdd c1 (RegT last) i (M.Assign v) (ToContext c2) → OfChild c2 (RegT last) (ToContent (Values r)) → Changes i deps [] last (M.Assign v) c (with_content (RegT last) (Values (put id_cmp i v r)) c2)
assigns i deps last v c c1 c2 r prim clr mk k add ch = record { tags = tags; ids = ids; values = values; links = λ y. links; elsewhere = λ P l h. links P l; linked = λ x. cc }
  where
    new : Register
    new = put id_cmp i v r

    same_content : (u : Tagged) → content u c2 ≡ content u c1
    same_content u = added_else c1 c2 (RegT last) i (M.Assign v) (content u) add (presence_tag last (with_id i (ids_at last c1)) u c1)

    down : (u : Tagged) (P : List Tagged) → seen (u ∷ P) (with_content (RegT last) (Values new) c2) ≡ seen (u ∷ P) c1
    down u P = values_seen last new u P c2 ∙ ap (λ o. seen P (context_or_new o u)) (same_content u)

    root : (u : Tagged) (c2 : Context) → has_tag u (with_content (RegT last) (Values new) c2) ≡ (has_tag u c2 || same_tagged (RegT last) u)
    root (MapT j) (context m l r p n) = sym (or_false _)
    root (ListT j) (context m l r p n) = sym (or_false _)
    root (RegT j) c2 = ap (λ o. is_some (values_of o)) (values_reg last new c2 j) ∙ go (same_key j last) (keys_back last j)
      where
        go : (b : Bool) → same_key last j ≡ b → is_some (values_of (cond b (Some new) (reg_at j c2))) ≡ (has_tag (RegT j) c2 || same_key last j)
        go true y = rw y (or_true (has_tag (RegT j) c2))
        go false y = rw y (sym (or_false (has_tag (RegT j) c2)))

    tags : (P : List Tagged) (u : Tagged) → has_tag u (seen P (with_content (RegT last) (Values new) c2)) ≡ (has_tag u (seen P c) || passed [] last (Some v) P u)
    tags [] u = root u c2 ∙ ap (λ o. is_some o || same_tagged (RegT last) u) (same_content u) ∙ rw (mk u) (ap (λ b. b || same_tagged (RegT last) u) (k.tags [] u))
    tags (s ∷ P) u = ap (has_tag u) (down s P) ∙ k.tags (s ∷ P) u ∙ sym (or_false (has_tag u (seen (s ∷ P) c)))

    ids : (P : List Tagged) (l : Key) (j : Id) → has_id j (ids_at l (seen P (with_content (RegT last) (Values new) c2))) ≡ ((same_id j i && touched [] last (M.Assign v) P l) || (has_id j (ids_at l (seen P c)) && not (cleared [] last (M.Assign v) P l && has_id j deps)))
    ids [] l j = ap (has_id j) (values_ids last new c2 l) ∙ added_ids c1 c2 (RegT last) i (M.Assign v) add l j ∙ rw clr (ap (λ y. (same_id j i && (true && same_key l last)) || y) (k.ids [] l j))
    ids (u ∷ P) l j = ap (λ q. has_id j (ids_at l q)) (down u P) ∙ k.ids (u ∷ P) l j ∙ sym (same_bool _ (same_tagged (RegT last) u) (has_id j deps) (λ e. ap (has_id j) (reg_ids last u P l c e))) ∙ rw clr (and_true _ ∙ seen_none _ (same_id j i) true)

    in_reg : (j : Id) → find id_cmp j r ≡ value_seen_at j last c2
    in_reg j = go (reg_at last c2) ch
      where
        go : (o : Option Register) → (values_of o ≡ Some (Values r)) ⊎ ((values_of o ≡ None) × (Values r ≡ Values [])) → find id_cmp j r ≡ value_in_some j o
        go None (inl e) = cc
        go None (inr e) = ap (λ q. find id_cmp j (reg_in (Some q) [])) e.1
        go (Some s) (inl e) = ap (λ q. find id_cmp j (reg_in q [])) (sym e)
        go (Some s) (inr e) = let z = e.0 in cc

    old : (l : Key) (j : Id) → value_seen_at j l c2 ≡ cond (same_key last l && has_id j deps) None (value_seen_at j l c)
    old l j = added_else c1 c2 (RegT last) i (M.Assign v) (value_seen_at j l) add (presence_value last (with_id i (ids_at last c1)) c1 l j) ∙ k.values [] l j

    at_last : (s z : Bool) (w : Option Value) → cond s (Some v) (cond (true && z) None w) ≡ or_else (cond s (Some v) None) (cond (((false && true) || (true && true)) && z) None w)
    at_last true z w = refl
    at_last false z w = refl

    off_last : (s z : Bool) (w : Option Value) → w ≡ or_else (cond s None None) (cond (((false && false) || (true && false)) && z) None w)
    off_last true z w = refl
    off_last false z w = refl

    values : (P : List Tagged) (l : Key) (j : Id) → value_seen_at j l (seen P (with_content (RegT last) (Values new) c2)) ≡ or_else (cond (same_id j i) (written [] last (M.Assign v) P l) None) (cond ((cleared [] last (M.Assign v) P l || overwritten [] last (M.Assign v) P l) && has_id j deps) None (value_seen_at j l (seen P c)))
    values [] l j = ap (value_in_some j) (values_reg last new c2 l) ∙ rw (keys_back l last, prim, clr) (go (same_key last l) refl)
      where
        go : (b : Bool) → same_key last l ≡ b → value_in_some j (cond b (Some new) (reg_at l c2)) ≡ or_else (cond (same_id j i) (cond b (Some v) None) None) (cond (((false && b) || (true && is_some (the_value (cond b (Some v) None)))) && has_id j deps) None (value_seen_at j l c))
        go true e = find-put ids_total exact_ids j i v r ∙ ap (cond (same_id j i) (Some v)) (in_reg j ∙ old last j ∙ rw (keys_self last) refl ∙ ap (λ q. cond (has_id j deps) None (value_seen_at j q c)) (keys_eq last l e)) ∙ at_last (same_id j i) (has_id j deps) (value_seen_at j l c)
        go false e = old l j ∙ rw e refl ∙ off_last (same_id j i) (has_id j deps) (value_seen_at j l c)
    values (u ∷ P) l j = ap (value_seen_at j l) (down u P) ∙ k.values (u ∷ P) l j ∙ sym (same_value _ (same_tagged (RegT last) u) (has_id j deps) (λ e. reg_value last u P l j c e)) ∙ rw clr (off_last (same_id j i) (has_id j deps) (value_seen_at j l (seen (u ∷ P) c)))

    links : (P : List Tagged) (l : Key) → next l (seen P (with_content (RegT last) (Values new) c2)) ≡ next l (seen P c)
    links [] l = values_next last new c2 l ∙ added_else c1 c2 (RegT last) i (M.Assign v) (next l) add (presence_next last (with_id i (ids_at last c1)) c1 l) ∙ k.links [] l
    links (u ∷ P) l = ap (next l) (down u P) ∙ k.links (u ∷ P) l

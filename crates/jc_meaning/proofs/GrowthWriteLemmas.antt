-- About Growth and Seen: what is seen at each place after one context of the tree was written.
use Rattle.std.proofs.Common.{◌≡◌, List, [], ◌∷◌, Bool, true, false, ◌||◌, ◌&&◌, cond, Option, Some, None, is_some, refl, sym, ◌∙◌, ap, subst}
use Rattle.std.proofs.lemmas.Option.{same_Some}
use Rattle.jc_rules.specs.declared.id.Id.{Id}
use Rattle.jc_rules.specs.declared.key.Key.{Key}
use Rattle.jc_rules.specs.declared.key.Tagged.{Tagged}
use Rattle.jc_rules.specs.declared.key.Tagged.TheVariants.{MapT, ListT, RegT}
use Rattle.jc_rules.specs.declared.value.Value.{Value}
use Rattle.jc_rules.specs.Order.{key_cmp, id_cmp, same_id, same_key}
use Rattle.jc_rules.specs.Entries.{find, put}
use Rattle.jc_rules.specs.Ids.{has_id, with_id}
use Rattle.jc_rules.specs.Context.{Context, context, Register, registers, Content, Node, Values, values_of, content, with_content, new_content, presence, with_presence, next, empty, empty_list}
use Rattle.jc_rules.specs.ContextsAt.{node_at, with_node_at}
use Rattle.jc_rules.proofs.OrderLemmas.{ids_total, exact_ids, keys_total, exact_keys}
use Rattle.jc_rules.proofs.EntriesLemmas.{find-put}
use Rattle.jc_rules.proofs.IdsLemmas.{has_id-with}
use Rattle.jc_tree.specs.Tree.{or_no_entries}
use Rattle.jc_meaning.specs.Effects.{same_tagged, same_path}
use Rattle.jc_meaning.specs.Seen.{context_or_new, seen, ids_of_some, ids_at, reg_at, value_in_some, value_seen_at, has_tag}
use Rattle.jc_meaning.specs.Meaning.{AreFilled}
use Rattle.jc_meaning.specs.Growth.{first_some, Grows, no_tag, no_id, no_value, tag_here, key_here}
use Rattle.jc_meaning.proofs.NextOperationLemmas.{paths_eq}
use Rattle.jc_meaning.proofs.AreFilledLemmas.{filled_values, filled_new, filled_presence, filled_at, filled_whole}
use Rattle.jc_meaning.proofs.OrdersLemmas.{keys_eq, keys_back, keys_self}
use Rattle.jc_meaning.proofs.TagsLemmas.{tags_eq, tags_back, node_ids, node_value, node_next, values_seen, values_ids, values_next, values_reg, presence_seen, presence_tag, presence_value, presence_next, presence_ids}
use Rattle.jc_meaning.proofs.SeenLemmas.{is_node_tag, content_with_node, seen_with_node, node_seen}
use Rattle.jc_rules.proofs.ContextLemmas.{none_some}
use Rattle.jc_rules.proofs.BoolLemmas.{or_false}

node_tag : (t : Tagged) (d c : Context) → content t c ≡ Some (Node d) → is_node_tag t ≡ true
node_tag (MapT k) d c e = refl
node_tag (ListT k) d c e = refl
node_tag (RegT k) d c e = no_node (find key_cmp k (registers c)) e
  where
    no_node : (o : Option Register) → values_of o ≡ Some (Node d) → false ≡ true
    no_node None f = cc
    no_node (Some v) f = cc

module _ {X : Type 0} (f : Context → X) (still : (t : Tagged) (d e c : Context) → content t c ≡ Some (Node d) → f (with_content t (Node e) c) ≡ f c) where
  -- f of what is seen at each place: of what was written at that one, and as before elsewhere
  pub write_seen : (at : List Tagged) (y c x : Context) → node_at at c ≡ Some x → ((u : Tagged) (R : List Tagged) → f (seen (u ∷ R) y) ≡ f (seen (u ∷ R) x)) → (P : List Tagged) → f (seen P (with_node_at at y c)) ≡ cond (same_path at P) (f y) (f (seen P c))
  write_seen [] y c x e h [] = refl
  write_seen [] y c x e h (u ∷ R) = h u R ∙ ap (λ z. f (seen (u ∷ R) z)) (sym (same_Some c x e))
  write_seen (a ∷ ks) y c x e h P = go (content a c) refl (λ d g. write_seen ks y d x g h) e P
    where
      below : (d : Context) → content a c ≡ Some (Node d) → (u : Tagged) (R : List Tagged) → f (seen R (with_node_at ks y d)) ≡ cond (same_path ks R) (f y) (f (seen R d)) → (b : Bool) → same_tagged u a ≡ b
          → f (cond b (seen R (with_node_at ks y d)) (seen (u ∷ R) c)) ≡ cond (b && same_path ks R) (f y) (f (seen (u ∷ R) c))
      below d k u R ih true w =
          let there : seen (a ∷ R) c ≡ seen R d = rw k refl in
          let same : seen (u ∷ R) c ≡ seen R d = ap (λ t. seen (t ∷ R) c) (tags_eq u a w) ∙ there in
          ih ∙ ap (λ z. cond (same_path ks R) (f y) (f z)) (sym same)
      below d k u R ih false w = refl

      go : (o : Option Content) → content a c ≡ o → ((d : Context) → node_at ks d ≡ Some x → (Q : List Tagged) → f (seen Q (with_node_at ks y d)) ≡ cond (same_path ks Q) (f y) (f (seen Q d))) → node_at (a ∷ ks) c ≡ Some x → (Q : List Tagged) → f (seen Q (with_node_at (a ∷ ks) y c)) ≡ cond (same_path (a ∷ ks) Q) (f y) (f (seen Q c))
      go None k ih g Q = none_some (rw k at g)
      go (Some (Values r)) k ih g Q = none_some (rw k at g)
      go (Some (Node d)) k ih g [] = rw k (still a d (with_node_at ks y d) c k)
      go (Some (Node d)) k ih g (u ∷ R) =
          let whole : with_node_at (a ∷ ks) y c ≡ with_content a (Node (with_node_at ks y d)) c = rw k refl in
          ap (λ z. f (seen (u ∷ R) z)) whole
          ∙ ap f (seen_with_node a u R (with_node_at ks y d) c (node_tag a d c k))
          ∙ below d k u R (ih d (rw k at g) R) (same_tagged u a) refl
          ∙ ap (λ b. cond (b && same_path ks R) (f y) (f (seen (u ∷ R) c))) (tags_back u a)

  -- what isn't written stays
  pub same_seen : (at : List Tagged) (y c x : Context) → node_at at c ≡ Some x → f y ≡ f x → ((u : Tagged) (R : List Tagged) → f (seen (u ∷ R) y) ≡ f (seen (u ∷ R) x)) → (P : List Tagged) → f (seen P (with_node_at at y c)) ≡ f (seen P c)
  same_seen at y c x e s h P = write_seen at y c x e h P ∙ go (same_path at P) refl
    where
      go : (b : Bool) → same_path at P ≡ b → cond b (f y) (f (seen P c)) ≡ f (seen P c)
      go true w = s ∙ ap f (sym (node_seen at c x e)) ∙ ap (λ Q. f (seen Q c)) (paths_eq at P w)
      go false w = refl

  -- what is told by g from what was there
  pub changed_seen : (g : Bool → X → X) → ((x : X) → g false x ≡ x) → (b : Bool) → (at : List Tagged) (y c x : Context) → node_at at c ≡ Some x → f y ≡ g b (f x) → ((u : Tagged) (R : List Tagged) → f (seen (u ∷ R) y) ≡ f (seen (u ∷ R) x)) → (P : List Tagged) → f (seen P (with_node_at at y c)) ≡ g (same_path at P && b) (f (seen P c))
  changed_seen g none b at y c x e s h P = write_seen at y c x e h P ∙ go (same_path at P) refl
    where
      go : (w : Bool) → same_path at P ≡ w → cond w (f y) (f (seen P c)) ≡ g (w && b) (f (seen P c))
      go true w = s ∙ ap (λ z. g b (f z)) (sym (node_seen at c x e)) ∙ ap (λ Q. g b (f (seen Q c))) (paths_eq at P w)
      go false w = sym (none (f (seen P c)))

-- ---- each thing that is looked at, after a node was written

pub tag_still : (u t : Tagged) (d e c : Context) → content t c ≡ Some (Node d) → has_tag u (with_content t (Node e) c) ≡ has_tag u c
tag_still u t d e c k = ap is_some (content_with_node t u e c (node_tag t d c k)) ∙ go (same_tagged u t) refl
  where
    go : (b : Bool) → same_tagged u t ≡ b → is_some (cond b (Some (Node e)) (content u c)) ≡ is_some (content u c)
    go true w = let there : content u c ≡ Some (Node d) = ap (λ z. content z c) (tags_eq u t w) ∙ k in sym (ap is_some there)
    go false w = refl

pub id_still : (l : Key) (j : Id) (t : Tagged) (d e c : Context) → content t c ≡ Some (Node d) → has_id j (ids_at l (with_content t (Node e) c)) ≡ has_id j (ids_at l c)
id_still l j t d e c k = ap (has_id j) (node_ids t e c l)

pub value_still : (l : Key) (j : Id) (t : Tagged) (d e c : Context) → content t c ≡ Some (Node d) → value_seen_at j l (with_content t (Node e) c) ≡ value_seen_at j l c
value_still l j t d e c k = node_value t e c l j

pub next_still : (l : Key) (t : Tagged) (d e c : Context) → content t c ≡ Some (Node d) → next l (with_content t (Node e) c) ≡ next l c
next_still l t d e c k = node_next t e c l

and_assoc : (a b c : Bool) → (a && (b && c)) ≡ ((a && b) && c)
and_assoc true b c = refl
and_assoc false b c = refl

-- ---- an identifier comes to a presence set

abbrev or_more : Bool → Bool → Bool
or_more b x = x || b

pub presence_grows : (at : List Tagged) (k : Key) (i : Id) (c d x : Context) → node_at at c ≡ Some x → d ≡ with_node_at at (with_presence k (with_id i (or_no_entries (presence k x))) x) c
    → Grows c d no_tag (λ P l j. key_here at k P l && same_id j i) no_value
presence_grows at k i c d x e is = record {
  tags = λ P u. ap (λ z. has_tag u (seen P z)) is ∙ same_seen (has_tag u) (tag_still u) at y c x e (ap is_some (presence_tag k s u x)) (λ v R. ap (has_tag u) (presence_seen k s v R x)) P ∙ sym (or_false (has_tag u (seen P c)));
  ids = λ P l j. ap (λ z. has_id j (ids_at l (seen P z))) is ∙ changed_seen (λ z. has_id j (ids_at l z)) (id_still l j) or_more (λ b. or_false b) (same_key k l && same_id j i) at y c x e (there l j) (λ v R. ap (λ z. has_id j (ids_at l z)) (presence_seen k s v R x)) P
      ∙ ap (λ b. has_id j (ids_at l (seen P c)) || b) (and_assoc (same_path at P) (same_key k l) (same_id j i));
  values = λ P l j. ap (λ z. value_seen_at j l (seen P z)) is ∙ same_seen (value_seen_at j l) (value_still l j) at y c x e (presence_value k s x l j) (λ v R. ap (value_seen_at j l) (presence_seen k s v R x)) P;
  links = λ P l. ap (λ z. next l (seen P z)) is ∙ same_seen (next l) (next_still l) at y c x e (presence_next k s x l) (λ v R. ap (next l) (presence_seen k s v R x)) P;
  filled = λ h. subst AreFilled (sym is) (filled_whole at y c x e (filled_presence k i (or_no_entries (presence k x)) x (filled_at at c x e h)) h);
}
  where
    s : List Id
    s = with_id i (or_no_entries (presence k x))

    y : Context
    y = with_presence k s x

    none_is : (o : Option (List Id)) → or_no_entries o ≡ ids_of_some o
    none_is None = refl
    none_is (Some t) = refl

    turn : (a b : Bool) → (a || b) ≡ (b || a)
    turn true true = refl
    turn true false = refl
    turn false true = refl
    turn false false = refl

    there : (l : Key) (j : Id) → has_id j (ids_at l y) ≡ (has_id j (ids_at l x) || (same_key k l && same_id j i))
    there l j = ap (has_id j) (presence_ids k s x l) ∙ go (same_key l k) refl ∙ ap (λ b. has_id j (ids_at l x) || (b && same_id j i)) (keys_back l k)
      where
        go : (b : Bool) → same_key l k ≡ b → has_id j (cond b s (ids_at l x)) ≡ (has_id j (ids_at l x) || (b && same_id j i))
        go true w = has_id-with j i (or_no_entries (presence k x)) ∙ turn (same_id j i) (has_id j (or_no_entries (presence k x))) ∙ ap (λ z. has_id j z || same_id j i) (none_is (presence k x)) ∙ ap (λ q. has_id j (ids_at q x) || same_id j i) (sym (keys_eq l k w))
        go false w = sym (or_false (has_id j (ids_at l x)))

-- ---- a value comes to a register that is there

abbrev first_if : Option Value → Bool → Option Value → Option Value
first_if v b w = first_some (cond b v None) w

pub value_grows : (at : List Tagged) (k : Key) (i : Id) (v : Value) (r : Register) (c d x : Context) → node_at at c ≡ Some x → reg_at k x ≡ Some r → d ≡ with_node_at at (with_content (RegT k) (Values (put id_cmp i v r)) x) c
    → Grows c d no_tag no_id (λ P l j. cond (key_here at k P l && same_id j i) (Some v) None)
value_grows at k i v r c d x e old is = record {
  tags = λ P u. ap (λ z. has_tag u (seen P z)) is ∙ same_seen (has_tag u) (tag_still u) at y c x e (tag_there u) (λ w R. ap (has_tag u) (values_seen k s w R x)) P ∙ sym (or_false (has_tag u (seen P c)));
  ids = λ P l j. ap (λ z. has_id j (ids_at l (seen P z))) is ∙ same_seen (λ z. has_id j (ids_at l z)) (id_still l j) at y c x e (ap (has_id j) (values_ids k s x l)) (λ w R. ap (λ z. has_id j (ids_at l z)) (values_seen k s w R x)) P ∙ sym (or_false (has_id j (ids_at l (seen P c))));
  values = λ P l j. ap (λ z. value_seen_at j l (seen P z)) is ∙ changed_seen (value_seen_at j l) (value_still l j) (first_if (Some v)) (λ w. refl) (same_key k l && same_id j i) at y c x e (there l j) (λ w R. ap (value_seen_at j l) (values_seen k s w R x)) P
      ∙ ap (λ b. first_some (cond b (Some v) None) (value_seen_at j l (seen P c))) (and_assoc (same_path at P) (same_key k l) (same_id j i));
  links = λ P l. ap (λ z. next l (seen P z)) is ∙ same_seen (next l) (next_still l) at y c x e (values_next k s x l) (λ w R. ap (next l) (values_seen k s w R x)) P;
  filled = λ h. subst AreFilled (sym is) (filled_whole at y c x e (filled_values k s x (filled_at at c x e h)) h);
}
  where
    s : Register
    s = put id_cmp i v r

    y : Context
    y = with_content (RegT k) (Values s) x

    tag_other : (u : Tagged) (z : Context) → same_tagged u (RegT k) ≡ false → content u (with_content (RegT k) (Values s) z) ≡ content u z
    tag_other (MapT j) (context m l a p n) w = refl
    tag_other (ListT j) (context m l a p n) w = refl
    tag_other (RegT j) (context m l a p n) w = ap values_of (find-put keys_total exact_keys j k s a ∙ ap (λ b. cond b (Some s) (find key_cmp j a)) w)

    tag_there : (u : Tagged) → has_tag u y ≡ has_tag u x
    tag_there u = go (same_tagged u (RegT k)) refl
      where
        old_there : has_tag (RegT k) x ≡ true
        old_there = ap (λ o. is_some (values_of o)) old

        new_there : has_tag (RegT k) y ≡ true
        new_there = ap (λ o. is_some (values_of o)) (values_reg k s x k ∙ ap (λ b. cond b (Some s) (reg_at k x)) (keys_self k))

        go : (b : Bool) → same_tagged u (RegT k) ≡ b → has_tag u y ≡ has_tag u x
        go true w = ap (λ t. has_tag t y) (tags_eq u (RegT k) w) ∙ new_there ∙ sym old_there ∙ ap (λ t. has_tag t x) (sym (tags_eq u (RegT k) w))
        go false w = ap is_some (tag_other u x w)

    there : (l : Key) (j : Id) → value_seen_at j l y ≡ first_some (cond (same_key k l && same_id j i) (Some v) None) (value_seen_at j l x)
    there l j = ap (value_in_some j) (values_reg k s x l) ∙ go (same_key l k) refl ∙ ap (λ b. first_some (cond (b && same_id j i) (Some v) None) (value_seen_at j l x)) (keys_back l k)
      where
        found : (b : Bool) → cond b (Some v) (find id_cmp j r) ≡ first_some (cond b (Some v) None) (find id_cmp j r)
        found true = refl
        found false = refl

        go : (b : Bool) → same_key l k ≡ b → value_in_some j (cond b (Some s) (reg_at l x)) ≡ first_some (cond (b && same_id j i) (Some v) None) (value_seen_at j l x)
        go true w =
            let here : value_seen_at j l x ≡ find id_cmp j r = ap (value_in_some j) (ap (λ q. reg_at q x) (keys_eq l k w) ∙ old) in
            find-put ids_total exact_ids j i v r ∙ found (same_id j i) ∙ ap (λ o. first_some (cond (same_id j i) (Some v) None) o) (sym here)
        go false w = refl

-- ---- a map, a list or a register is made

new_tag : (t u : Tagged) (x : Context) → content u (with_content t (new_content t) x) ≡ cond (same_tagged u t) (Some (new_content t)) (content u x)
new_tag (MapT k) u x = content_with_node (MapT k) u empty x refl
new_tag (ListT k) u x = content_with_node (ListT k) u empty_list x refl
new_tag (RegT k) (MapT j) (context m l r p n) = refl
new_tag (RegT k) (ListT j) (context m l r p n) = refl
new_tag (RegT k) (RegT j) (context m l r p n) = ap values_of (find-put keys_total exact_keys j k [] r) ∙ go (same_key j k)
  where
    go : (b : Bool) → values_of (cond b (Some []) (find key_cmp j r)) ≡ cond b (Some (Values [])) (values_of (find key_cmp j r))
    go true = refl
    go false = refl

new_seen : (t u : Tagged) (R : List Tagged) (x : Context) → content t x ≡ None → seen (u ∷ R) (with_content t (new_content t) x) ≡ seen (u ∷ R) x
new_seen (RegT k) u R x e = values_seen k [] u R x
new_seen (MapT k) u R x e = seen_with_node (MapT k) u R empty x refl ∙ go (same_tagged u (MapT k)) refl
  where
    go : (b : Bool) → same_tagged u (MapT k) ≡ b → cond b (seen R empty) (seen (u ∷ R) x) ≡ seen (u ∷ R) x
    go true w = sym (ap (λ t. seen (t ∷ R) x) (tags_eq u (MapT k) w) ∙ ap (λ o. seen R (context_or_new o (MapT k))) e)
    go false w = refl
new_seen (ListT k) u R x e = seen_with_node (ListT k) u R empty_list x refl ∙ go (same_tagged u (ListT k)) refl
  where
    go : (b : Bool) → same_tagged u (ListT k) ≡ b → cond b (seen R empty_list) (seen (u ∷ R) x) ≡ seen (u ∷ R) x
    go true w = sym (ap (λ t. seen (t ∷ R) x) (tags_eq u (ListT k) w) ∙ ap (λ o. seen R (context_or_new o (ListT k))) e)
    go false w = refl

new_ids : (t : Tagged) (x : Context) (l : Key) → ids_at l (with_content t (new_content t) x) ≡ ids_at l x
new_ids (MapT k) x l = node_ids (MapT k) empty x l
new_ids (ListT k) x l = node_ids (ListT k) empty_list x l
new_ids (RegT k) x l = values_ids k [] x l

new_next : (t : Tagged) (x : Context) (l : Key) → next l (with_content t (new_content t) x) ≡ next l x
new_next (MapT k) x l = node_next (MapT k) empty x l
new_next (ListT k) x l = node_next (ListT k) empty_list x l
new_next (RegT k) x l = values_next k [] x l

new_value : (t : Tagged) (x : Context) (l : Key) (j : Id) → content t x ≡ None → value_seen_at j l (with_content t (new_content t) x) ≡ value_seen_at j l x
new_value (MapT k) x l j e = node_value (MapT k) empty x l j
new_value (ListT k) x l j e = node_value (ListT k) empty_list x l j
new_value (RegT k) x l j e = ap (value_in_some j) (values_reg k [] x l) ∙ go (same_key l k) refl
  where
    no_register : (o : Option Register) → values_of o ≡ None → value_in_some j o ≡ None
    no_register None f = refl
    no_register (Some r) f = let g : ⊥ = cc in absurd g

    go : (b : Bool) → same_key l k ≡ b → value_in_some j (cond b (Some []) (reg_at l x)) ≡ value_seen_at j l x
    go true w = sym (ap (λ q. value_seen_at j q x) (keys_eq l k w) ∙ no_register (reg_at k x) e)
    go false w = refl

pub make_grows : (at : List Tagged) (t : Tagged) (c d x : Context) → node_at at c ≡ Some x → content t x ≡ None → d ≡ with_node_at at (with_content t (new_content t) x) c
    → Grows c d (tag_here at t) no_id no_value
make_grows at t c d x e none is = record {
  tags = λ P u. ap (λ z. has_tag u (seen P z)) is ∙ changed_seen (has_tag u) (tag_still u) or_more (λ b. or_false b) (same_tagged t u) at y c x e (there u) (λ v R. ap (has_tag u) (new_seen t v R x none)) P;
  ids = λ P l j. ap (λ z. has_id j (ids_at l (seen P z))) is ∙ same_seen (λ z. has_id j (ids_at l z)) (id_still l j) at y c x e (ap (has_id j) (new_ids t x l)) (λ v R. ap (λ z. has_id j (ids_at l z)) (new_seen t v R x none)) P ∙ sym (or_false (has_id j (ids_at l (seen P c))));
  values = λ P l j. ap (λ z. value_seen_at j l (seen P z)) is ∙ same_seen (value_seen_at j l) (value_still l j) at y c x e (new_value t x l j none) (λ v R. ap (value_seen_at j l) (new_seen t v R x none)) P;
  links = λ P l. ap (λ z. next l (seen P z)) is ∙ same_seen (next l) (next_still l) at y c x e (new_next t x l) (λ v R. ap (next l) (new_seen t v R x none)) P;
  filled = λ h. subst AreFilled (sym is) (filled_whole at y c x e (filled_new t x (filled_at at c x e h)) h);
}
  where
    y : Context
    y = with_content t (new_content t) x

    there : (u : Tagged) → has_tag u y ≡ (has_tag u x || same_tagged t u)
    there u = ap is_some (new_tag t u x) ∙ go (same_tagged u t) refl ∙ ap (λ b. has_tag u x || b) (tags_back u t)
      where
        go : (b : Bool) → same_tagged u t ≡ b → is_some (cond b (Some (new_content t)) (content u x)) ≡ (has_tag u x || b)
        go true w = sym (ap (λ z. is_some z || true) (ap (λ z. content z x) (tags_eq u t w) ∙ none))
        go false w = sym (or_false (has_tag u x))

-- it is there already
pub there_grows : (at : List Tagged) (t : Tagged) (c x : Context) → node_at at c ≡ Some x → has_tag t x ≡ true → Grows c c (tag_here at t) no_id no_value
there_grows at t c x e there = record {
  tags = λ P u. go P u (same_path at P) (same_tagged t u) refl refl;
  ids = λ P l j. sym (or_false (has_id j (ids_at l (seen P c))));
  values = λ P l j. refl;
  links = λ P l. refl;
  filled = λ h. h;
}
  where
    or_true : (b : Bool) → b ≡ true → b ≡ (b || true)
    or_true true w = refl
    or_true false w = cc

    go : (P : List Tagged) (u : Tagged) (a b : Bool) → same_path at P ≡ a → same_tagged t u ≡ b → has_tag u (seen P c) ≡ (has_tag u (seen P c) || (a && b))
    go P u true true v w =
        let here : has_tag t (seen at c) ≡ true = ap (has_tag t) (node_seen at c x e) ∙ there in
        let one : has_tag u (seen P c) ≡ has_tag t (seen at c) = ap (λ Q. has_tag u (seen Q c)) (sym (paths_eq at P v)) ∙ ap (λ z. has_tag z (seen at c)) (sym (tags_eq t u w)) in
        or_true (has_tag u (seen P c)) (one ∙ here)
    go P u true false v w = sym (or_false (has_tag u (seen P c)))
    go P u false b v w = sym (or_false (has_tag u (seen P c)))

-- nothing comes
pub nothing_grows : (c : Context) → Grows c c no_tag no_id no_value
nothing_grows c = record {
  tags = λ P u. sym (or_false (has_tag u (seen P c)));
  ids = λ P l j. sym (or_false (has_id j (ids_at l (seen P c))));
  values = λ P l j. refl;
  links = λ P l. refl;
  filled = λ h. h;
}

-- one after another
pub both_grow : (c d e : Context) (a b : List Tagged → Tagged → Bool) (i j : List Tagged → Key → Id → Bool) (v w : List Tagged → Key → Id → Option Value) → Grows c d a i v → Grows d e b j w
    → Grows c e (λ P u. a P u || b P u) (λ P k q. i P k q || j P k q) (λ P k q. first_some (w P k q) (v P k q))
both_grow c d e a b i j v w g h = record {
  tags = λ P u. h.tags P u ∙ ap (λ z. z || b P u) (g.tags P u) ∙ or_assoc (has_tag u (seen P c)) (a P u) (b P u);
  ids = λ P k q. h.ids P k q ∙ ap (λ z. z || j P k q) (g.ids P k q) ∙ or_assoc (has_id q (ids_at k (seen P c))) (i P k q) (j P k q);
  values = λ P k q. h.values P k q ∙ ap (first_some (w P k q)) (g.values P k q) ∙ first_assoc (w P k q) (v P k q) (value_seen_at q k (seen P c));
  links = λ P k. h.links P k ∙ g.links P k;
  filled = λ z. h.filled (g.filled z);
}
  where
    or_assoc : (x y z : Bool) → ((x || y) || z) ≡ (x || (y || z))
    or_assoc true y z = refl
    or_assoc false y z = refl

    first_assoc : (x y z : Option Value) → first_some x (first_some y z) ≡ first_some (first_some x y) z
    first_assoc (Some x) y z = refl
    first_assoc None y z = refl

-- told in other words
pub grows_as : (c d : Context) (a b : List Tagged → Tagged → Bool) (i j : List Tagged → Key → Id → Bool) (v w : List Tagged → Key → Id → Option Value)
    → ((P : List Tagged) (u : Tagged) → a P u ≡ b P u) → ((P : List Tagged) (k : Key) (q : Id) → i P k q ≡ j P k q) → ((P : List Tagged) (k : Key) (q : Id) → v P k q ≡ w P k q)
    → Grows c d a i v → Grows c d b j w
grows_as c d a b i j v w f g h x = record {
  tags = λ P u. x.tags P u ∙ ap (λ z. has_tag u (seen P c) || z) (f P u);
  ids = λ P k q. x.ids P k q ∙ ap (λ z. has_id q (ids_at k (seen P c)) || z) (g P k q);
  values = λ P k q. x.values P k q ∙ ap (λ z. first_some z (value_seen_at q k (seen P c))) (h P k q);
  links = x.links;
  filled = x.filled;
}

-- what stands in the register was read before
pub pair_grows : (at : List Tagged) (k : Key) (i : Id) (v : Value) (r w : Register) (c d x : Context) → node_at at c ≡ Some x → reg_at k x ≡ Some r → w ≡ put id_cmp i v r → d ≡ with_node_at at (with_content (RegT k) (Values w) x) c
    → Grows c d no_tag no_id (λ P l j. cond (key_here at k P l && same_id j i) (Some v) None)
pair_grows at k i v r w c d x e old new is = value_grows at k i v r c d x e old (is ∙ ap (λ z. with_node_at at (with_content (RegT k) (Values z) x) c) new)

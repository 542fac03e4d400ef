-- About Growth and Listing: a chain gets one more element at its end, lists are linked one after another, and so
-- are all lists (`LinksIds`, `AreLinked`).
use Rattle.std.proofs.Common.{◌≡◌, ◌≢◌, ℕ, suc, ◌+◌, ◌<◌, List, [], ◌∷◌, ◌++◌, length, take, drop, get_or, Bool, true, false, ◌||◌, ◌&&◌, cond, Option, Some, None, inl, inr, refl, sym, ◌∙◌, ap, subst}
use Rattle.std.specs.List.{AllByRecursion}
use Rattle.std.proofs.Math.Seq.{drop-cons}
use Rattle.std.proofs.lemmas.List.{take-append-drop, take_more}
use Rattle.jc_rules.specs.declared.id.Id.{Id}
use Rattle.jc_rules.specs.declared.key.Key.{Key}
use Rattle.jc_rules.specs.declared.key.Key.TheVariants as K
use Rattle.jc_rules.specs.declared.key.Next.{Next}
use Rattle.jc_rules.specs.declared.key.Next.TheVariants.{Tail, Elem as To}
use Rattle.jc_rules.specs.declared.key.Tagged.{Tagged}
use Rattle.jc_rules.specs.declared.operation.Op.{Op}
use Rattle.jc_rules.specs.Order.{same_key}
use Rattle.jc_rules.specs.Ids.{has_id}
use Rattle.jc_rules.specs.declared.key.Tagged.TheVariants.{MapT, ListT, RegT}
use Rattle.jc_rules.specs.Context.{Context, context, next, with_next}
use Rattle.jc_rules.specs.ContextsAt.{with_node_at, node_at}
use Rattle.jc_rules.specs.WellFormed.{AreDistinct, chain_of, elements}
use Rattle.jc_rules.proofs.BoolLemmas.{neither, or_false, and_false}
use Rattle.jc_tree.proofs.LinkedLemmas.{last_of}
use Rattle.jc_meaning.specs.Effects.{same_path, list_at, is_insert}
use Rattle.jc_meaning.specs.Seen.{seen, ids_at, value_seen_at, has_tag}
use Rattle.jc_meaning.specs.Forest.{preorder, follow}
use Rattle.jc_meaning.specs.Meaning.{some_op, AreFilled}
use Rattle.jc_meaning.specs.Growth.{LinksIds}
use Rattle.jc_meaning.specs.Listing.{IsListing, inserts_at, unlinked, AreLinked, LinksNew}
use Rattle.jc_meaning.proofs.ChainLemmas.{key_in}
use Rattle.jc_meaning.proofs.NextOperationLemmas.{paths_eq}
use Rattle.jc_meaning.proofs.AreFilledLemmas.{filled_next, filled_at, filled_whole}
use Rattle.jc_meaning.proofs.ForestOfOpsLemmas.{once_at}
use Rattle.jc_meaning.proofs.InsertEffectsLemmas.{next_next, next_seen, next_ids, next_value}
use Rattle.jc_meaning.proofs.OrdersLemmas.{keys_eq, keys_back, keys_self}
use Rattle.jc_meaning.proofs.ForestOnceLemmas.{distinct_from, head_out}
use Rattle.jc_meaning.proofs.InsertWalkLemmas.{Distinct}
use Rattle.jc_meaning.proofs.GrowthWriteLemmas.{tag_still, id_still, value_still, next_still, same_seen, write_seen}
use Rattle.jc_meaning.proofs.SeenLemmas.{node_seen}

-- ---- the end of a chain

pub end_more : (j : Key) (ns : List Id) (o : Id) → last_of j (ns ++ o ∷ []) ≡ K.Elem o
end_more j [] o = refl
end_more j (n ∷ ns) o = end_more (K.Elem n) ns o

-- k is none of these
abbrev pub IsOut : Key → List Key → Type 0
IsOut k ks = AllByRecursion (λ q. q ≢ k) ks

-- the end of a chain isn't a key that stands nowhere in it
end_out : (k : Key) (n : Id) (ns : List Id) → IsOut k (elements (n ∷ ns)) → last_of (K.Elem n) ns ≢ k
end_out k n [] h = h.0
end_out k n (m ∷ ms) h = end_out k m ms h.1

swap : (a b : Bool) (x y w : Option Next) → (a ≡ true → b ≡ true → ⊥) → cond a x (cond b y w) ≡ cond b y (cond a x w)
swap true true x y w h = absurd (h refl refl)
swap true false x y w h = refl
swap false b x y w h = refl

twice : (a : Bool) (x y w : Option Next) → cond a x w ≡ cond a x (cond a y w)
twice true x y w = refl
twice false x y w = refl

apart : (i j k : Key) → i ≢ j → same_key i k ≡ true → same_key j k ≡ true → ⊥
apart i j k h e f = h (keys_eq i k e ∙ sym (keys_eq j k f))

pub follow_more : (j : Key) (ns : List Id) (o : Id) → AreDistinct (j ∷ elements ns) → IsOut (K.Elem o) (j ∷ elements ns) → (k : Key)
    → follow j (ns ++ o ∷ []) k ≡ cond (same_key (K.Elem o) k) (Some Tail) (cond (same_key (last_of j ns) k) (Some (To o)) (follow j ns k))
follow_more j [] o d out k = swap (same_key j k) (same_key (K.Elem o) k) (Some (To o)) (Some Tail) None (apart j (K.Elem o) k out.0) ∙ ap (λ z. cond (same_key (K.Elem o) k) (Some Tail) z) (twice (same_key j k) (Some (To o)) (Some Tail) None)
follow_more j (n ∷ ns) o d out k =
    ap (λ z. cond (same_key j k) (Some (To n)) z) (follow_more (K.Elem n) ns o d.1 out.1 k)
    ∙ swap (same_key j k) (same_key (K.Elem o) k) (Some (To n)) (Some Tail) (cond (same_key (last_of (K.Elem n) ns) k) (Some (To o)) (follow (K.Elem n) ns k)) (apart j (K.Elem o) k out.0)
    ∙ ap (λ z. cond (same_key (K.Elem o) k) (Some Tail) z) (swap (same_key j k) (same_key (last_of (K.Elem n) ns) k) (Some (To n)) (Some (To o)) (follow (K.Elem n) ns k) (λ e f. end_out j n ns d.0 (keys_eq (last_of (K.Elem n) ns) k f ∙ sym (keys_eq j k e))))

-- ---- a listing's elements differ

out_elements : (k : Key) (ns : List Id) → key_in k ns ≡ false → IsOut k (elements ns)
out_elements k [] h = tt
out_elements k (n ∷ ns) h = (λ e. let yes : same_key (K.Elem n) k ≡ true = ap (λ q. same_key q k) e ∙ keys_self k in let z : true ≡ false = sym yes ∙ (neither (same_key (K.Elem n) k) (key_in k ns) h).0 in cc, out_elements k ns ((neither (same_key (K.Elem n) k) (key_in k ns) h).1))

distinct_elements : (j : Key) (ns : List Id) → Distinct j ns → AreDistinct (j ∷ elements ns)
distinct_elements j [] d = (tt, tt)
distinct_elements j (n ∷ ns) d = (out_elements j (n ∷ ns) d.0, distinct_elements (K.Elem n) ns d.1)

pub listing_differs : (O : List Op) (P : List Tagged) (is : List Id) → IsListing O P is → AreDistinct (chain_of is)
listing_differs O P is l =
    let one : AreDistinct (chain_of (preorder l.forest)) = distinct_elements K.Head (preorder l.forest) (distinct_from (preorder l.forest) K.Head (head_out (preorder l.forest)) (once_at O P l.forest l.hangs)) in
    subst (λ q. AreDistinct (chain_of q)) (sym l.listed) one

-- ---- two links are written

next_tag : (k : Key) (x : Next) (u : Tagged) (c : Context) → has_tag u (with_next k x c) ≡ has_tag u c
next_tag k x (MapT j) (context m l r p n) = refl
next_tag k x (ListT j) (context m l r p n) = refl
next_tag k x (RegT j) (context m l r p n) = refl

-- one link is written
pub record LinksOne (at : List Tagged) (k : Key) (x : Next) (c d : Context) : Type 0 where
  pub tags : (P : List Tagged) (u : Tagged) → has_tag u (seen P d) ≡ has_tag u (seen P c)
  pub ids : (P : List Tagged) (l : Key) (i : Id) → has_id i (ids_at l (seen P d)) ≡ has_id i (ids_at l (seen P c))
  pub values : (P : List Tagged) (l : Key) (i : Id) → value_seen_at i l (seen P d) ≡ value_seen_at i l (seen P c)
  pub links : (P : List Tagged) (l : Key) → next l (seen P d) ≡ cond (same_path at P && same_key l k) (Some x) (next l (seen P c))
  pub filled : AreFilled c → AreFilled d

pub link_written : (at : List Tagged) (k : Key) (n : Next) (c d x : Context) → node_at at c ≡ Some x → d ≡ with_node_at at (with_next k n x) c → LinksOne at k n c d
link_written at k n c d x e is = record {
  tags = λ P u. ap (λ z. has_tag u (seen P z)) is ∙ same_seen (has_tag u) (tag_still u) at y c x e (next_tag k n u x) (λ v R. ap (has_tag u) (next_seen k n v R x)) P;
  ids = λ P l j. ap (λ z. has_id j (ids_at l (seen P z))) is ∙ same_seen (λ z. has_id j (ids_at l z)) (id_still l j) at y c x e (ap (has_id j) (next_ids k n x l)) (λ v R. ap (λ z. has_id j (ids_at l z)) (next_seen k n v R x)) P;
  values = λ P l j. ap (λ z. value_seen_at j l (seen P z)) is ∙ same_seen (value_seen_at j l) (value_still l j) at y c x e (next_value k n x l j) (λ v R. ap (value_seen_at j l) (next_seen k n v R x)) P;
  links = λ P l. ap (λ z. next l (seen P z)) is ∙ write_seen (next l) (next_still l) at y c x e (λ v R. ap (next l) (next_seen k n v R x)) P ∙ go P l (same_path at P) refl;
  filled = λ h. subst AreFilled (sym is) (filled_whole at y c x e (filled_next k n x (filled_at at c x e h)) h);
}
  where
    y : Context
    y = with_next k n x

    go : (P : List Tagged) (l : Key) (b : Bool) → same_path at P ≡ b → cond b (next l y) (next l (seen P c)) ≡ cond (b && same_key l k) (Some n) (next l (seen P c))
    go P l true w = next_next k n x l ∙ ap (λ z. cond (same_key l k) (Some n) (next l z)) (sym (node_seen at c x e)) ∙ ap (λ Q. cond (same_key l k) (Some n) (next l (seen Q c))) (paths_eq at P w)
    go P l false w = refl

-- a list whose links are a chain from its head, as it was made of another tree
pub links_none : (at : List Tagged) (c : Context) → ((k : Key) → next k (seen at c) ≡ follow K.Head [] k) → LinksIds at [] c c
links_none at c h = record {
  tags = λ P u. refl;
  ids = λ P k i. refl;
  values = λ P k i. refl;
  links = λ P k. go P k (same_path at P) refl;
  filled = λ f. f;
}
  where
    go : (P : List Tagged) (k : Key) (b : Bool) → same_path at P ≡ b → next k (seen P c) ≡ cond b (follow K.Head [] k) (next k (seen P c))
    go P k true w = ap (λ Q. next k (seen Q c)) (sym (paths_eq at P w)) ∙ h k
    go P k false w = refl

pub links_more : (at : List Tagged) (is : List Id) (o : Id) (last : Key) (a b c d : Context) → last ≡ last_of K.Head is → AreDistinct (chain_of is) → IsOut (K.Elem o) (chain_of is)
    → LinksIds at is a b → LinksOne at last (To o) b c → LinksOne at (K.Elem o) Tail c d → LinksIds at (is ++ o ∷ []) a d
links_more at is o last a b c d end differ out x y z = record {
  tags = λ P u. z.tags P u ∙ y.tags P u ∙ x.tags P u;
  ids = λ P k i. z.ids P k i ∙ y.ids P k i ∙ x.ids P k i;
  values = λ P k i. z.values P k i ∙ y.values P k i ∙ x.values P k i;
  links = λ P k. z.links P k ∙ ap (λ w. cond (same_path at P && same_key k (K.Elem o)) (Some Tail) w) (y.links P k ∙ ap (λ w. cond (same_path at P && same_key k last) (Some (To o)) w) (x.links P k)) ∙ go P k (same_path at P);
  filled = λ f. z.filled (y.filled (x.filled f));
}
  where
    go : (P : List Tagged) (k : Key) (p : Bool) → cond (p && same_key k (K.Elem o)) (Some Tail) (cond (p && same_key k last) (Some (To o)) (cond p (follow K.Head is k) (next k (seen P a)))) ≡ cond p (follow K.Head (is ++ o ∷ []) k) (next k (seen P a))
    go P k true =
        ap (λ w. cond w (Some Tail) (cond (same_key k last) (Some (To o)) (follow K.Head is k))) (keys_back k (K.Elem o))
        ∙ ap (λ w. cond (same_key (K.Elem o) k) (Some Tail) (cond w (Some (To o)) (follow K.Head is k))) (keys_back k last ∙ ap (λ q. same_key q k) end)
        ∙ sym (follow_more K.Head is o differ out k)
    go P k false = refl

-- a longer chain's elements differ
pub front_differs : (j : Key) (ns ms : List Id) → AreDistinct (j ∷ elements (ns ++ ms)) → AreDistinct (j ∷ elements ns)
front_differs j [] ms d = (tt, tt)
front_differs j (n ∷ ns) ms d = (front (n ∷ ns) d.0, front_differs (K.Elem n) ns ms d.1)
  where
    front : (ks : List Id) → AllByRecursion (λ q. q ≢ j) (elements (ks ++ ms)) → AllByRecursion (λ q. q ≢ j) (elements ks)
    front [] a = tt
    front (k ∷ ks) a = (a.0, front ks a.1)

pub next_out : (j : Key) (ns : List Id) (o : Id) (ms : List Id) → AreDistinct (j ∷ elements (ns ++ o ∷ ms)) → IsOut (K.Elem o) (j ∷ elements ns)
next_out j [] o ms d = (λ e. d.0.0 (sym e), tt)
next_out j (n ∷ ns) o ms d = (λ e. no_element ns d.0.1 (sym e), next_out (K.Elem n) ns o ms d.1)
  where
    no_element : (ks : List Id) → AllByRecursion (λ q. q ≢ j) (elements (ks ++ o ∷ ms)) → K.Elem o ≢ j
    no_element [] a = a.0
    no_element (k ∷ ks) a = no_element ks a.1

-- ---- all lists

pub some_more : (f : Op → Bool) (os : List Op) (o : Op) → some_op f (os ++ o ∷ []) ≡ (some_op f os || f o)
some_more f [] o = turn (f o)
  where
    turn : (a : Bool) → (a || false) ≡ a
    turn true = refl
    turn false = refl
some_more f (p ∷ ps) o = ap (λ b. f p || b) (some_more f ps o) ∙ or_assoc (f p) (some_op f ps) (f o)
  where
    or_assoc : (a b c : Bool) → (a || (b || c)) ≡ ((a || b) || c)
    or_assoc true b c = refl
    or_assoc false b c = refl

-- an operation that inserts nothing
pub linked_still : (os O : List Op) (o : Op) (c : Context) → is_insert o.mutation ≡ false → AreLinked os O c → AreLinked (os ++ o ∷ []) O c
linked_still os O o c inserts_not l = record {
  done = λ P list e. l.done P list (sym (same P) ∙ e);
  rest = λ P e. l.rest P (ap (λ b. list_at false P && b) (sym (same P)) ∙ e);
}
  where
    same : (P : List Tagged) → some_op (inserts_at P) (os ++ o ∷ []) ≡ some_op (inserts_at P) os
    same P = some_more (inserts_at P) os o ∙ ap (λ b. some_op (inserts_at P) os || (b && same_path o.cursor.path P)) inserts_not ∙ or_false (some_op (inserts_at P) os)

unlinked_head : (b : Bool) → b ≡ true → unlinked b K.Head ≡ Some Tail
unlinked_head true e = refl
unlinked_head false e = cc

-- what follows the head of a chain is its end only where there is nothing
no_elements : (is : List Id) → follow K.Head is K.Head ≡ Some Tail → is ≡ []
no_elements [] e = refl
no_elements (i ∷ is) e = let z : To i ≡ Tail = cc in absurd (let f : ⊥ = cc in f)

listed_still : (O : List Op) (P : List Tagged) (c d : Context) → ((k : Key) → next k (seen P d) ≡ next k (seen P c)) → (is : List Id) × IsListing O P is × ((k : Key) → next k (seen P c) ≡ follow K.Head is k) → (is : List Id) × IsListing O P is × ((k : Key) → next k (seen P d) ≡ follow K.Head is k)
listed_still O P c d e x = (x.0, x.1, λ k. e k ∙ x.2 k)

first_none : (a x y : Bool) → (a && (x || y)) ≡ false → (a && x) ≡ false
first_none true true y e = cc
first_none true false y e = refl
first_none false x y e = refl

-- where nothing follows the head of the list at the path, it is as it was made
pub new_list : (os O : List Op) (P : List Tagged) (c x : Context) → AreLinked os O c → seen P c ≡ x → next K.Head x ≡ Some Tail → (k : Key) → next k x ≡ follow K.Head [] k
new_list os O P c x l s tail k = go (list_at false P) (some_op (inserts_at P) os) refl refl
  where
    head : next K.Head (seen P c) ≡ Some Tail
    head = ap (next K.Head) s ∙ tail

    go : (a b : Bool) → list_at false P ≡ a → some_op (inserts_at P) os ≡ b → next k x ≡ follow K.Head [] k
    go true true e f =
        let d = l.done P e f in
        let none : d.0 ≡ [] = no_elements d.0 (sym (d.2 K.Head) ∙ head) in
        ap (next k) (sym s) ∙ d.2 k ∙ ap (λ is. follow K.Head is k) none
    go true false e f =
        let r : next k (seen P c) ≡ unlinked (list_at false P) k = l.rest P (ap (λ z. list_at false P && z) f ∙ ap (λ z. z && false) e) k in
        ap (next k) (sym s) ∙ r ∙ ap (λ z. unlinked z k) e
    go false b e f =
        let r : next K.Head (seen P c) ≡ unlinked (list_at false P) K.Head = l.rest P (ap (λ z. z && some_op (inserts_at P) os) e) K.Head in
        let none : Some Tail ≡ None = sym head ∙ r ∙ ap (λ z. unlinked z K.Head) e in
        cc

-- an operation that inserts
pub linked_more : (os O : List Op) (o : Op) (c d : Context) → is_insert o.mutation ≡ true → AreLinked os O c → LinksNew o.cursor.path O c d → AreLinked (os ++ o ∷ []) O d
linked_more os O o c d is l (inl (other, same)) = record { done = done; rest = rest }
  where
    some : (P : List Tagged) → some_op (inserts_at P) (os ++ o ∷ []) ≡ (some_op (inserts_at P) os || same_path o.cursor.path P)
    some P = some_more (inserts_at P) os o ∙ ap (λ b. some_op (inserts_at P) os || (b && same_path o.cursor.path P)) is

    still : (P : List Tagged) (k : Key) → next k (seen P d) ≡ next k (seen P c)
    still P k = ap (λ z. next k (seen P z)) same

    done : (P : List Tagged) → list_at false P ≡ true → some_op (inserts_at P) (os ++ o ∷ []) ≡ true → (is : List Id) × IsListing O P is × ((k : Key) → next k (seen P d) ≡ follow K.Head is k)
    done P list e = go (some_op (inserts_at P) os) (same_path o.cursor.path P) refl refl (sym (some P) ∙ e)
      where
        go : (a b : Bool) → some_op (inserts_at P) os ≡ a → same_path o.cursor.path P ≡ b → (some_op (inserts_at P) os || same_path o.cursor.path P) ≡ true → (is : List Id) × IsListing O P is × ((k : Key) → next k (seen P d) ≡ follow K.Head is k)
        go true b f g h = listed_still O P c d (still P) (l.done P list f)
        go false true f g h =
            let tail : next K.Head (seen P c) ≡ Some Tail = l.rest P (ap (λ z. list_at false P && z) f ∙ and_false (list_at false P)) K.Head ∙ unlinked_head (list_at false P) list in
            absurd (other (ap (λ Q. next K.Head (seen Q c)) (paths_eq o.cursor.path P g) ∙ tail))
        go false false f g h = let z : false ≡ true = ap (λ z. z || false) (sym f) ∙ ap (λ z. some_op (inserts_at P) os || z) (sym g) ∙ h in cc

    rest : (P : List Tagged) → (list_at false P && some_op (inserts_at P) (os ++ o ∷ [])) ≡ false → (k : Key) → next k (seen P d) ≡ unlinked (list_at false P) k
    rest P e k = still P k ∙ l.rest P (first_none (list_at false P) (some_op (inserts_at P) os) (same_path o.cursor.path P) (ap (λ z. list_at false P && z) (sym (some P)) ∙ e)) k
linked_more os O o c d is l (inr (tail, ids, listing, links)) = record { done = done; rest = rest }
  where
    some : (P : List Tagged) → some_op (inserts_at P) (os ++ o ∷ []) ≡ (some_op (inserts_at P) os || same_path o.cursor.path P)
    some P = some_more (inserts_at P) os o ∙ ap (λ b. some_op (inserts_at P) os || (b && same_path o.cursor.path P)) is

    away : (P : List Tagged) → same_path o.cursor.path P ≡ false → (k : Key) → next k (seen P d) ≡ next k (seen P c)
    away P e k = links.links P k ∙ ap (λ z. cond z (follow K.Head ids k) (next k (seen P c))) e

    done : (P : List Tagged) → list_at false P ≡ true → some_op (inserts_at P) (os ++ o ∷ []) ≡ true → (is : List Id) × IsListing O P is × ((k : Key) → next k (seen P d) ≡ follow K.Head is k)
    done P list e = go (same_path o.cursor.path P) refl
      where
        go : (b : Bool) → same_path o.cursor.path P ≡ b → (is : List Id) × IsListing O P is × ((k : Key) → next k (seen P d) ≡ follow K.Head is k)
        go true f = (ids, subst (λ Q. IsListing O Q ids) (paths_eq o.cursor.path P f) listing, λ k. links.links P k ∙ ap (λ z. cond z (follow K.Head ids k) (next k (seen P c))) f)
        go false f = listed_still O P c d (away P f) (l.done P list (sym (some P ∙ ap (λ z. some_op (inserts_at P) os || z) f ∙ or_false (some_op (inserts_at P) os)) ∙ e))

    rest : (P : List Tagged) → (list_at false P && some_op (inserts_at P) (os ++ o ∷ [])) ≡ false → (k : Key) → next k (seen P d) ≡ unlinked (list_at false P) k
    rest P e k = go (same_path o.cursor.path P) refl
      where
        no_list : (a x y : Bool) → (a && (x || y)) ≡ false → y ≡ true → a ≡ false
        no_list true true y f g = cc
        no_list true false y f g = let z : true ≡ false = sym g ∙ f in cc
        no_list false x y f g = refl

        go : (b : Bool) → same_path o.cursor.path P ≡ b → next k (seen P d) ≡ unlinked (list_at false P) k
        go true f =
            let none : list_at false P ≡ false = no_list (list_at false P) (some_op (inserts_at P) os) (same_path o.cursor.path P) (ap (λ z. list_at false P && z) (sym (some P)) ∙ e) f in
            let r : next K.Head (seen P c) ≡ unlinked (list_at false P) K.Head = l.rest P (ap (λ z. z && some_op (inserts_at P) os) none) K.Head in
            let gone : Some Tail ≡ None = sym tail ∙ ap (λ Q. next K.Head (seen Q c)) (paths_eq o.cursor.path P f) ∙ r ∙ ap (λ z. unlinked z K.Head) none in
            cc
        go false f = away P f k ∙ l.rest P (first_none (list_at false P) (some_op (inserts_at P) os) (same_path o.cursor.path P) (ap (λ z. list_at false P && z) (sym (some P)) ∙ e)) k

-- ---- the loop over a list's elements

pub links_start : (at : List Tagged) (c x : Context) → node_at at c ≡ Some x → ((k : Key) → next k x ≡ follow K.Head [] k) → LinksIds at [] c c
links_start at c x e h = links_none at c (λ k. ap (next k) (node_seen at c x e) ∙ h k)

module _ (ids : List Id) (n : ℕ) (z : Id) (h : n < length ids) where
  abbrev this_one : Id
  this_one = get_or ids n z

  taken_more : take (n + 1) ids ≡ take n ids ++ this_one ∷ []
  taken_more = take_more ids n z h

  pub last_on : K.Elem this_one ≡ last_of K.Head (take (n + 1) ids)
  last_on = sym (ap (last_of K.Head) taken_more ∙ end_more K.Head (take n ids) this_one)

  pub link_on : (at : List Tagged) (last : Key) (a b c d x y : Context) → AreDistinct (chain_of ids) → last ≡ last_of K.Head (take n ids) → LinksIds at (take n ids) a b
      → node_at at b ≡ Some x → c ≡ with_node_at at (with_next last (To this_one) x) b → node_at at c ≡ Some y → d ≡ with_node_at at (with_next (K.Elem this_one) Tail y) c
      → LinksIds at (take (n + 1) ids) a d
  link_on at last a b c d x y differ end linked e f g k =
      let rest : drop n ids ≡ this_one ∷ drop (suc n) ids = drop-cons ids n z h in
      let whole : ids ≡ take n ids ++ this_one ∷ drop (suc n) ids = sym (take-append-drop n ids) ∙ ap (λ l. take n ids ++ l) rest in
      let apart : AreDistinct (K.Head ∷ elements (take n ids ++ this_one ∷ drop (suc n) ids)) = subst (λ l. AreDistinct (chain_of l)) whole differ in
      subst (λ l. LinksIds at l a d) (sym taken_more)
      (links_more at (take n ids) this_one last a b c d end (front_differs K.Head (take n ids) (this_one ∷ drop (suc n) ids) apart) (next_out K.Head (take n ids) this_one (drop (suc n) ids) apart) linked (link_written at last (To this_one) b c x e f) (link_written at (K.Elem this_one) Tail c d y g k))

-- a list that has links already
pub not_new : (O : List Op) (at : List Tagged) (c x : Context) → node_at at c ≡ Some x → (next K.Head x ≡ Some Tail → ⊥) → LinksNew at O c c
not_new O at c x e h = inl (λ f. h (ap (next K.Head) (sym (node_seen at c x e)) ∙ f), refl)

pub newly_linked : (O : List Op) (at : List Tagged) (ids slice : List Id) (c d x : Context) → node_at at c ≡ Some x → next K.Head x ≡ Some Tail → slice ≡ ids → IsListing O at ids → LinksIds at slice c d → LinksNew at O c d
newly_linked O at ids slice c d x e h s listing links = inr (ap (next K.Head) (node_seen at c x e) ∙ h, ids, listing, subst (λ l. LinksIds at l c d) s links)

pub slice_differs : (O : List Op) (at : List Tagged) (ids slice : List Id) → slice ≡ ids → IsListing O at ids → AreDistinct (chain_of slice)
slice_differs O at ids slice s l = subst (λ z. AreDistinct (chain_of z)) (sym s) (listing_differs O at ids l)

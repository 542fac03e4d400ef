-- Lemmas about LinksEverywhere: a property of all links of a tree, when a part of the tree changes.
use Rattle.std.proofs.Common.{◌≡◌, ◌≢◌, List, [], ◌∷◌, ◌++◌, Option, Some, None, Bool, true, false, ◌⊎◌, inl, inr, refl, sym, ◌∙◌, ap, subst}
use Rattle.std.specs.List.{AllByRecursion}
use Rattle.std.specs.Ordering.{eq_by_cmp}
use Rattle.std.specs.declared.cmp.Ordering.{Ordering}
use Rattle.std.specs.declared.cmp.Ordering.TheVariants.{Less, Equal, Greater}
use Rattle.std.proofs.lemmas.Option.{same_Some}
use Rattle.jc_rules.specs.declared.id.Id.{Id}
use Rattle.jc_rules.specs.declared.key.Key.{Key}
use Rattle.jc_rules.specs.declared.key.Key.TheVariants.{Head}
use Rattle.jc_rules.specs.declared.key.Next.{Next}
use Rattle.jc_rules.specs.declared.key.Next.TheVariants.{Tail}
use Rattle.jc_rules.specs.declared.key.Tagged.{Tagged}
use Rattle.jc_rules.specs.declared.key.Tagged.TheVariants.{MapT, ListT, RegT}
use Rattle.jc_rules.specs.Order.{key_cmp}
use Rattle.jc_rules.specs.Entries.{find, if_found, replaced, placed, put}
use Rattle.jc_rules.specs.Context.{Context, context, Children, no_child, child, children, listed, links, registers, Register, Content, Node, Values, values_of, content, with_content, new_content, with_presence, next, with_next, empty, empty_list}
use Rattle.jc_rules.proofs.OrderLemmas.{keys_total, exact_keys}
use Rattle.jc_rules.proofs.EntriesLemmas.{same-eq, same-self, find-put}
use Rattle.jc_rules.proofs.ContextsAtLemmas.{node_found, listed_children}
use Rattle.jc_network.specs.LinksEverywhere.{LinksHold, LinksAt, links_below, Everywhere, InMaps, InLists, Reach}
use Rattle.jc_apply.specs.Fits.{content_or_new, child_context, InChild}
use Rattle.jc_rules.specs.ContextsAt.{node_in}
use Rattle.jc_rules.specs.Paths.{HasContext}
use Rattle.jc_rules.proofs.ContextLemmas.{no_node}
use Rattle.jc_rules.proofs.BoolLemmas.{not_none}
use Rattle.jc_tree.proofs.LinkedLemmas.{next-with}

-- ---- entries by key

module _ {X : Type 0} where
  pub entries-replaced : (P : Key × X → Type 0) (k : Key) (x : X) (es : List (Key × X)) → P (k, x) → AllByRecursion P es → AllByRecursion P (replaced key_cmp k x es)
  entries-replaced P k x [] h a = tt
  entries-replaced P k x (e ∷ es) h a = go (eq_by_cmp key_cmp k e.0) refl (entries-replaced P k x es h a.1)
    where
      go : (b : Bool) → eq_by_cmp key_cmp k e.0 ≡ b → AllByRecursion P (replaced key_cmp k x es) → AllByRecursion P (replaced key_cmp k x (e ∷ es))
      go true p ih = rw p (h, a.1)
      go false p ih = rw p (a.0, ih)

  pub entries-placed : (P : Key × X → Type 0) (k : Key) (x : X) (es : List (Key × X)) → P (k, x) → AllByRecursion P es → AllByRecursion P (placed key_cmp k x es)
  entries-placed P k x [] h a = (h, tt)
  entries-placed P k x (e ∷ es) h a = go (key_cmp k e.0) refl (entries-placed P k x es h a.1)
    where
      go : (o : Ordering) → key_cmp k e.0 ≡ o → AllByRecursion P (placed key_cmp k x es) → AllByRecursion P (placed key_cmp k x (e ∷ es))
      go Less p ih = rw p (h, a)
      go Equal p ih = rw p (h, a)
      go Greater p ih = rw p (a.0, ih)

  -- what goes for the entry that is put and for all that were there goes for all that are there
  pub entries-put : (P : Key × X → Type 0) (k : Key) (x : X) (es : List (Key × X)) → P (k, x) → AllByRecursion P es → AllByRecursion P (put key_cmp k x es)
  entries-put P k x es h a = go (find key_cmp k es)
    where
      go : (o : Option X) → AllByRecursion P (if_found o (replaced key_cmp k x es) (placed key_cmp k x es))
      go None = entries-placed P k x es h a
      go (Some y) = entries-replaced P k x es h a

  -- what goes for all entries goes for the one that is found
  pub entry-found : (P : Key × X → Type 0) (k : Key) (x : X) (es : List (Key × X)) → AllByRecursion P es → find key_cmp k es ≡ Some x → P (k, x)
  entry-found P k x [] a h = cc
  entry-found P k x (e ∷ es) a h = go (eq_by_cmp key_cmp k e.0) refl (entry-found P k x es a.1) h
    where
      go : (b : Bool) → eq_by_cmp key_cmp k e.0 ≡ b → (find key_cmp k es ≡ Some x → P (k, x)) → find key_cmp k (e ∷ es) ≡ Some x → P (k, x)
      go true p ih g =
          let s : e.0 ≡ k = sym (same-eq keys_total exact_keys k e.0 p) in
          let v : e.1 ≡ x = same_Some e.1 x (rw p at g) in
          subst (λ (f : Key × X). P f) (λ i. (s i, v i)) a.0
      go false p ih g = ih (rw p at g)

-- ---- the tree by its children

pub each_map : (Q : LinksAt) (cs : Children) → InMaps Q cs → AllByRecursion (λ (e : Key × Context). Everywhere (links_below (MapT e.0) Q) e.1) (listed cs)
each_map Q no_child h = tt
each_map Q (child k c cs) h = (h.0, each_map Q cs h.1)

pub map_each : (Q : LinksAt) (es : List (Key × Context)) → AllByRecursion (λ (e : Key × Context). Everywhere (links_below (MapT e.0) Q) e.1) es → InMaps Q (children es)
map_each Q [] h = tt
map_each Q (e ∷ es) h = (h.0, map_each Q es h.1)

pub each_list : (Q : LinksAt) (cs : Children) → InLists Q cs → AllByRecursion (λ (e : Key × Context). Everywhere (links_below (ListT e.0) Q) e.1) (listed cs)
each_list Q no_child h = tt
each_list Q (child k c cs) h = (h.0, each_list Q cs h.1)

pub list_each : (Q : LinksAt) (es : List (Key × Context)) → AllByRecursion (λ (e : Key × Context). Everywhere (links_below (ListT e.0) Q) e.1) es → InLists Q (children es)
list_each Q [] h = tt
list_each Q (e ∷ es) h = (h.0, list_each Q es h.1)

-- at the root
pub at_root : (Q : LinksAt) (c : Context) → Everywhere Q c → Q [] (links c)
at_root Q (context m l r p n) h = h.0

-- in a child
pub in_child : (Q : LinksAt) (t : Tagged) (c d : Context) → content t c ≡ Some (Node d) → Everywhere Q c → Everywhere (links_below t Q) d
in_child Q (MapT k) (context m l r p n) d e h = entry-found (λ e. Everywhere (links_below (MapT e.0) Q) e.1) k d (listed m) (each_map Q m h.1) (node_found _ d e)
in_child Q (ListT k) (context m l r p n) d e h = entry-found (λ e. Everywhere (links_below (ListT e.0) Q) e.1) k d (listed l) (each_list Q l h.2) (node_found _ d e)
in_child Q (RegT k) (context m l r p n) d e h = no_node (find key_cmp k r) d e

-- with another child
pub with_child : (Q : LinksAt) (t : Tagged) (c d : Context) → Everywhere Q c → Everywhere (links_below t Q) d → Everywhere Q (with_content t (Node d) c)
with_child Q (MapT k) (context m l r p n) d h g = (h.0, map_each Q _ (entries-put (λ e. Everywhere (links_below (MapT e.0) Q) e.1) k d (listed m) g (each_map Q m h.1)), h.2)
with_child Q (ListT k) (context m l r p n) d h g = (h.0, h.1, list_each Q _ (entries-put (λ e. Everywhere (links_below (ListT e.0) Q) e.1) k d (listed l) g (each_list Q l h.2)))
with_child Q (RegT k) (context m l r p n) d h g = h

pub with_values : (Q : LinksAt) (k : Key) (v : Register) (c : Context) → Everywhere Q c → Everywhere Q (with_content (RegT k) (Values v) c)
with_values Q k v (context m l r p n) h = h

pub with_ids : (Q : LinksAt) (k : Key) (s : List Id) (c : Context) → Everywhere Q c → Everywhere Q (with_presence k s c)
with_ids Q k s (context m l r p n) h = h

-- with other links at the root
pub with_links : (Q : LinksAt) (j k : Key) (x y : Next) (c : Context) → Everywhere Q c → Q [] (put key_cmp j x (put key_cmp k y (links c))) → Everywhere Q (with_next j x (with_next k y c))
with_links Q j k x y (context m l r p n) h g = (g, h.1, h.2)

-- what follows from it
mutual
  pub all_follow : (Q R : LinksAt) (c : Context) → ((P : List Tagged) (n : LinksHold) → Q P n → R P n) → Everywhere Q c → Everywhere R c
  all_follow Q R (context m l r p n) f h = (f [] n h.0, maps_follow Q R m f h.1, lists_follow Q R l f h.2)

  maps_follow : (Q R : LinksAt) (cs : Children) → ((P : List Tagged) (n : LinksHold) → Q P n → R P n) → InMaps Q cs → InMaps R cs
  maps_follow Q R no_child f h = tt
  maps_follow Q R (child k c cs) f h = (all_follow (links_below (MapT k) Q) (links_below (MapT k) R) c (λ P n. f (MapT k ∷ P) n) h.0, maps_follow Q R cs f h.1)

  lists_follow : (Q R : LinksAt) (cs : Children) → ((P : List Tagged) (n : LinksHold) → Q P n → R P n) → InLists Q cs → InLists R cs
  lists_follow Q R no_child f h = tt
  lists_follow Q R (child k c cs) f h = (all_follow (links_below (ListT k) Q) (links_below (ListT k) R) c (λ P n. f (ListT k ∷ P) n) h.0, lists_follow Q R cs f h.1)

-- what holds of the links of a new map and of a new list
abbrev pub OfNew : LinksAt → Type 0
OfNew Q = (P : List Tagged) (k : Key) → Q (P ++ MapT k ∷ []) [] × Q (P ++ ListT k ∷ []) ((Head, Tail) ∷ [])

-- what is entered by a tagged key is a child or a new one
pub in_entered : (Q : LinksAt) (t : Tagged) (c d : Context) → OfNew Q → Node d ≡ content_or_new t (content t c) → Everywhere Q c → Everywhere (links_below t Q) d
in_entered Q t c d new e h = go (content t c) refl e
  where
    made : (u : Tagged) → Node d ≡ new_content u → Everywhere (links_below u Q) d
    made (MapT k) f = let s : d ≡ empty = cc in rw s ((new [] k).0, tt, tt)
    made (ListT k) f = let s : d ≡ empty_list = cc in rw s ((new [] k).1, tt, tt)
    made (RegT k) f = cc

    go : (o : Option Content) → content t c ≡ o → Node d ≡ content_or_new t o → Everywhere (links_below t Q) d
    go None f g = made t g
    go (Some x) f g = in_child Q t c d (f ∙ ap (λ y. Some y) (sym g)) h

-- ---- what is reached

-- what stands under a tagged key when a node was put under another or the same
pub child-with : (t u : Tagged) (e c : Context) → HasContext t → ((u ≡ t) × (child_context u (with_content t (Node e) c) ≡ Some e)) ⊎ (child_context u (with_content t (Node e) c) ≡ child_context u c)
child-with (MapT j) (MapT k) e (context m l r p n) h = go (eq_by_cmp key_cmp k j) refl
  where
    go : (b : Bool) → eq_by_cmp key_cmp k j ≡ b → ((MapT k ≡ MapT j) × (child_context (MapT k) (with_content (MapT j) (Node e) (context m l r p n)) ≡ Some e)) ⊎ (child_context (MapT k) (with_content (MapT j) (Node e) (context m l r p n)) ≡ child_context (MapT k) (context m l r p n))
    go true b = inl (ap (λ x. MapT x) (same-eq keys_total exact_keys k j b), rw (listed_children, find-put keys_total exact_keys k j e (listed m), b) refl)
    go false b = inr (rw (listed_children, find-put keys_total exact_keys k j e (listed m), b) refl)
child-with (MapT j) (ListT k) e (context m l r p n) h = inr refl
child-with (MapT j) (RegT k) e (context m l r p n) h = inr refl
child-with (ListT j) (ListT k) e (context m l r p n) h = go (eq_by_cmp key_cmp k j) refl
  where
    go : (b : Bool) → eq_by_cmp key_cmp k j ≡ b → ((ListT k ≡ ListT j) × (child_context (ListT k) (with_content (ListT j) (Node e) (context m l r p n)) ≡ Some e)) ⊎ (child_context (ListT k) (with_content (ListT j) (Node e) (context m l r p n)) ≡ child_context (ListT k) (context m l r p n))
    go true b = inl (ap (λ x. ListT x) (same-eq keys_total exact_keys k j b), rw (listed_children, find-put keys_total exact_keys k j e (listed l), b) refl)
    go false b = inr (rw (listed_children, find-put keys_total exact_keys k j e (listed l), b) refl)
child-with (ListT j) (MapT k) e (context m l r p n) h = inr refl
child-with (ListT j) (RegT k) e (context m l r p n) h = inr refl
child-with (RegT j) u e c h = absurd h

-- under a tagged key of a node that was put there
pub child-put : (t : Tagged) (e c : Context) → HasContext t → child_context t (with_content t (Node e) c) ≡ Some e
child-put (MapT k) e (context m l r p n) h = rw (listed_children, find-put keys_total exact_keys k k e (listed m), same-self keys_total exact_keys k) refl
child-put (ListT k) e (context m l r p n) h = rw (listed_children, find-put keys_total exact_keys k k e (listed l), same-self keys_total exact_keys k) refl
child-put (RegT k) e c h = absurd h

next-content : (t : Tagged) (e c : Context) (k : Key) → next k (with_content t (Node e) c) ≡ next k c
next-content (MapT j) e (context m l r p n) k = refl
next-content (ListT j) e (context m l r p n) k = refl
next-content (RegT j) e (context m l r p n) k = refl

pub links-content : (t : Tagged) (x : Content) (c : Context) → links (with_content t x c) ≡ links c
links-content (MapT j) (Node e) (context m l r p n) = refl
links-content (ListT j) (Node e) (context m l r p n) = refl
links-content (RegT j) (Node e) (context m l r p n) = refl
links-content (MapT j) (Values v) (context m l r p n) = refl
links-content (ListT j) (Values v) (context m l r p n) = refl
links-content (RegT j) (Values v) (context m l r p n) = refl

-- what was reached in the context is reached, where what was reached in its child is reached in the new one
pub reach_child : (t : Tagged) (c d e : Context) → HasContext t → child_context t c ≡ Some d → ((P : List Tagged) (k : Key) → Reach d P k → Reach e P k) → (P : List Tagged) (k : Key) → Reach c P k → Reach (with_content t (Node e) c) P k
reach_child t c d e tag is f [] k h = λ g. h (sym (next-content t e c k) ∙ g)
reach_child t c d e tag is f (u ∷ P) k h = go (child-with t u e c tag)
  where
    go : ((u ≡ t) × (child_context u (with_content t (Node e) c) ≡ Some e)) ⊎ (child_context u (with_content t (Node e) c) ≡ child_context u c) → Reach (with_content t (Node e) c) (u ∷ P) k
    go (inl (s, g)) =
        let was : child_context u c ≡ Some d = ap (λ v. child_context v c) s ∙ is in
        let old : InChild (Some d) (λ b. Reach b P k) = subst (λ o. InChild o (λ b. Reach b P k)) was h in
        subst (λ o. InChild o (λ b. Reach b P k)) (sym g) (f P k old)
    go (inr g) = subst (λ o. InChild o (λ b. Reach b P k)) (sym g) h

-- the same, where the context was changed first
pub reach_below : (t : Tagged) (c c2 d e : Context) → HasContext t → child_context t c ≡ Some d → ((P : List Tagged) (k : Key) → Reach c P k → Reach c2 P k) → ((P : List Tagged) (k : Key) → Reach d P k → Reach e P k) → (P : List Tagged) (k : Key) → Reach c P k → Reach (with_content t (Node e) c2) P k
reach_below t c c2 d e tag is g f [] k h = λ x. g [] k h (sym (next-content t e c2 k) ∙ x)
reach_below t c c2 d e tag is g f (u ∷ P) k h = go (child-with t u e c2 tag)
  where
    go : ((u ≡ t) × (child_context u (with_content t (Node e) c2) ≡ Some e)) ⊎ (child_context u (with_content t (Node e) c2) ≡ child_context u c2) → Reach (with_content t (Node e) c2) (u ∷ P) k
    go (inl (s, x)) =
        let was : child_context u c ≡ Some d = ap (λ v. child_context v c) s ∙ is in
        let old : InChild (Some d) (λ b. Reach b P k) = subst (λ o. InChild o (λ b. Reach b P k)) was h in
        subst (λ o. InChild o (λ b. Reach b P k)) (sym x) (f P k old)
    go (inr x) = subst (λ o. InChild o (λ b. Reach b P k)) (sym x) (g (u ∷ P) k h)

-- what isn't below a link isn't touched by it
pub child-next : (u : Tagged) (j : Key) (x : Next) (c : Context) → child_context u (with_next j x c) ≡ child_context u c
child-next (MapT k) j x (context m l r p n) = refl
child-next (ListT k) j x (context m l r p n) = refl
child-next (RegT k) j x (context m l r p n) = refl

-- what has a link keeps one
next_stays : (k j : Key) (x : Next) (c : Context) → next k c ≢ None → next k (with_next j x c) ≢ None
next_stays k j x c h = go (eq_by_cmp key_cmp k j) refl
  where
    go : (b : Bool) → eq_by_cmp key_cmp k j ≡ b → next k (with_next j x c) ≢ None
    go true b = not_none x _ (next-with k j x c ∙ rw b refl)
    go false b = λ g. h (sym (next-with k j x c ∙ rw b refl) ∙ g)

pub reach_next : (j : Key) (x : Next) (c : Context) (P : List Tagged) (k : Key) → Reach c P k → Reach (with_next j x c) P k
reach_next j x c [] k h = next_stays k j x c h
reach_next j x c (u ∷ P) k h = subst (λ o. InChild o (λ b. Reach b P k)) (sym (child-next u j x c)) h

child-ids : (u : Tagged) (j : Key) (s : List Id) (c : Context) → child_context u (with_presence j s c) ≡ child_context u c
child-ids (MapT k) j s (context m l r p n) = refl
child-ids (ListT k) j s (context m l r p n) = refl
child-ids (RegT k) j s (context m l r p n) = refl

pub links-ids : (j : Key) (s : List Id) (c : Context) → links (with_presence j s c) ≡ links c
links-ids j s (context m l r p n) = refl

pub reach_ids : (j : Key) (s : List Id) (c : Context) (P : List Tagged) (k : Key) → Reach c P k → Reach (with_presence j s c) P k
reach_ids j s c [] k h = λ g. h (ap (find key_cmp k) (sym (links-ids j s c)) ∙ g)
reach_ids j s c (u ∷ P) k h = subst (λ o. InChild o (λ b. Reach b P k)) (sym (child-ids u j s c)) h

reg_none : (o : Option Register) → node_in (Some (content_or_new (RegT Head) (values_of o))) ≡ None
reg_none None = refl
reg_none (Some v) = refl

no_child_in : (k : Key) (c : Context) → child_context (RegT k) c ≡ None
no_child_in k c = reg_none (find key_cmp k (registers c))

pub reach_values : (j : Key) (v : Register) (c : Context) (P : List Tagged) (k : Key) → Reach c P k → Reach (with_content (RegT j) (Values v) c) P k
reach_values j v c [] k h = λ g. h (ap (find key_cmp k) (sym (links-content (RegT j) (Values v) c)) ∙ g)
reach_values j v (context m l r p n) (MapT u ∷ P) k h = h
reach_values j v (context m l r p n) (ListT u ∷ P) k h = h
reach_values j v c (RegT u ∷ P) k h = absurd (subst (λ o. InChild o (λ b. Reach b P k)) (no_child_in u c) h)

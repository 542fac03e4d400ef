-- About specs/ContextsAt: the context at a path and the document with another one there are a lens.
use Rattle.std.proofs.Common.{◌≡◌, ◌≢◌, List, [], ◌∷◌, ◌++◌, Option, Some, None, refl, sym, ap}
use Rattle.jc_rules.specs.declared.key.Key.{Key}
use Rattle.jc_rules.specs.declared.key.Tagged.{Tagged}
use Rattle.jc_rules.specs.declared.key.Tagged.TheVariants.{MapT, ListT, RegT}
use Rattle.jc_rules.specs.Order.{key_cmp}
use Rattle.jc_rules.specs.Entries.{find}
use Rattle.jc_rules.specs.Context.{Context, context, Children, children, no_child, child, listed, Content, Node, Values, node_of, content, with_content}
use Rattle.jc_rules.specs.ContextsAt.{node_at, with_node_at, context_at, or_empty}
use Rattle.jc_rules.proofs.OrderLemmas.{keys_total, exact_keys}
use Rattle.jc_rules.proofs.EntriesLemmas.{found-put, put-put, put-same}
use Rattle.jc_rules.proofs.ContextLemmas.{no_node, none_some}

pub listed_children : (es : List (Key × Context)) → listed (children es) ≡ es
listed_children [] = refl
listed_children (e ∷ es) = ap (λ x. e ∷ x) (listed_children es)

pub children_listed : (cs : Children) → children (listed cs) ≡ cs
children_listed no_child = refl
children_listed (child k c cs) = ap (λ x. child k c x) (children_listed cs)

pub node_found : (x : Option Context) (d : Context) → node_of x ≡ Some (Node d) → x ≡ Some d
node_found None d h = cc
node_found (Some c) d h = cc

-- what was put under a tagged key of a node
pub content-with : (k : Tagged) (d e c : Context) → content k c ≡ Some (Node d) → content k (with_content k (Node e) c) ≡ Some (Node e)
content-with (MapT k) d e (context m l r p n) h = rw (listed_children, found-put keys_total exact_keys) refl
content-with (ListT k) d e (context m l r p n) h = rw (listed_children, found-put keys_total exact_keys) refl
content-with (RegT k) d e (context m l r p n) h = no_node (find key_cmp k r) d h

-- of two nodes that are put under a tagged key, the later
pub with-with : (k : Tagged) (d e c : Context) → with_content k (Node d) (with_content k (Node e) c) ≡ with_content k (Node d) c
with-with (MapT k) d e (context m l r p n) = rw (listed_children, put-put keys_total exact_keys) refl
with-with (ListT k) d e (context m l r p n) = rw (listed_children, put-put keys_total exact_keys) refl
with-with (RegT k) d e (context m l r p n) = refl

-- what is there, put again
pub with-same : (k : Tagged) (d c : Context) → content k c ≡ Some (Node d) → with_content k (Node d) c ≡ c
with-same (MapT k) d (context m l r p n) h = rw (put-same keys_total exact_keys k d (listed m) (node_found _ d h), children_listed) refl
with-same (ListT k) d (context m l r p n) h = rw (put-same keys_total exact_keys k d (listed l) (node_found _ d h), children_listed) refl
with-same (RegT k) d (context m l r p n) h = refl

-- the context that was put there
pub node-with : (ks : List Tagged) (x y c : Context) → node_at ks c ≡ Some x → node_at ks (with_node_at ks y c) ≡ Some y
node-with [] x y c h = refl
node-with (k ∷ ks) x y c h = go (content k c) refl (λ d. node-with ks x y d) h
  where
    go : (o : Option Content) → content k c ≡ o → ((d : Context) → node_at ks d ≡ Some x → node_at ks (with_node_at ks y d) ≡ Some y) → node_at (k ∷ ks) c ≡ Some x → node_at (k ∷ ks) (with_node_at (k ∷ ks) y c) ≡ Some y
    go None e ih g = none_some (rw e at g)
    go (Some (Values r)) e ih g = none_some (rw e at g)
    go (Some (Node d)) e ih g = rw (e, content-with k d (with_node_at ks y d) c e) (ih d (rw e at g))

-- the last of two that were put there stays
pub with_node-twice : (ks : List Tagged) (y z c : Context) → with_node_at ks z (with_node_at ks y c) ≡ with_node_at ks z c
with_node-twice [] y z c = refl
with_node-twice (k ∷ ks) y z c = go (content k c) refl (λ d. with_node-twice ks y z d)
  where
    go : (o : Option Content) → content k c ≡ o → ((d : Context) → with_node_at ks z (with_node_at ks y d) ≡ with_node_at ks z d) → with_node_at (k ∷ ks) z (with_node_at (k ∷ ks) y c) ≡ with_node_at (k ∷ ks) z c
    go None e ih = rw (e, e) refl
    go (Some (Values r)) e ih = rw (e, e) refl
    go (Some (Node d)) e ih = rw (e, content-with k d (with_node_at ks y d) c e, with-with, ih d) refl

-- the one that is there, put there
pub with_node-same : (ks : List Tagged) (x c : Context) → node_at ks c ≡ Some x → with_node_at ks x c ≡ c
with_node-same [] x c h = let e : c ≡ x = cc in sym e
with_node-same (k ∷ ks) x c h = go (content k c) refl (λ d. with_node-same ks x d) h
  where
    go : (o : Option Content) → content k c ≡ o → ((d : Context) → node_at ks d ≡ Some x → with_node_at ks x d ≡ d) → node_at (k ∷ ks) c ≡ Some x → with_node_at (k ∷ ks) x c ≡ c
    go None e ih g = none_some (rw e at g)
    go (Some (Values r)) e ih g = none_some (rw e at g)
    go (Some (Node d)) e ih g = rw (e, ih d (rw e at g)) (with-same k d c e)

-- one key further down
pub node-below : (ks : List Tagged) (k : Tagged) (x d c : Context) → node_at ks c ≡ Some x → content k x ≡ Some (Node d) → node_at (ks ++ k ∷ []) c ≡ Some d
node-below [] k x d c h g = let e : c ≡ x = cc in rw (e, g) refl
node-below (j ∷ ks) k x d c h g = go (content j c) refl (λ b f. node-below ks k x d b f g) h
  where
    go : (o : Option Content) → content j c ≡ o → ((b : Context) → node_at ks b ≡ Some x → node_at (ks ++ k ∷ []) b ≡ Some d) → node_at (j ∷ ks) c ≡ Some x → node_at (j ∷ (ks ++ k ∷ [])) c ≡ Some d
    go None e ih f = none_some (rw e at f)
    go (Some (Values r)) e ih f = none_some (rw e at f)
    go (Some (Node b)) e ih f = rw e (ih b (rw e at f))

pub with_node-below : (ks : List Tagged) (k : Tagged) (x d y c : Context) → node_at ks c ≡ Some x → content k x ≡ Some (Node d) → with_node_at (ks ++ k ∷ []) y c ≡ with_node_at ks (with_content k (Node y) x) c
with_node-below [] k x d y c h g = let e : c ≡ x = cc in rw (e, g) refl
with_node-below (j ∷ ks) k x d y c h g = go (content j c) refl (λ b f. with_node-below ks k x d y b f g) h
  where
    go : (o : Option Content) → content j c ≡ o → ((b : Context) → node_at ks b ≡ Some x → with_node_at (ks ++ k ∷ []) y b ≡ with_node_at ks (with_content k (Node y) x) b) → node_at (j ∷ ks) c ≡ Some x → with_node_at (j ∷ (ks ++ k ∷ [])) y c ≡ with_node_at (j ∷ ks) (with_content k (Node y) x) c
    go None e ih f = none_some (rw e at f)
    go (Some (Values r)) e ih f = none_some (rw e at f)
    go (Some (Node b)) e ih f = rw e (ap (λ z. with_content j (Node z) c) (ih b (rw e at f)))

-- a place that is there has its context
pub there : (ks : List Tagged) (c : Context) → node_at ks c ≢ None → node_at ks c ≡ Some (context_at ks c)
there ks c h = go (node_at ks c) refl
  where
    go : (o : Option Context) → node_at ks c ≡ o → node_at ks c ≡ Some (or_empty (node_at ks c))
    go None e = absurd (h e)
    go (Some x) e = rw e refl
